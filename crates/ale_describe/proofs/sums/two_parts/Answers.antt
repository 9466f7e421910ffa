use Rattle.ale_term.specs.Terms.{term_data}
use Rattle.ale_describe.proofs.Adding.{two_sums}
use Rattle.ale_describe.proofs.sums.two_parts.Goals as goal

pub returns : goal.returns
returns c =
    two_sums c.args.sig.now c.args.names.now c.args.sum c.in_ok-between.between c.in_ok-after.after (term_data c.args.first.now) (term_data c.args.second.now)
    c.in_ok-between.ensures c.in_ok-after.ensures

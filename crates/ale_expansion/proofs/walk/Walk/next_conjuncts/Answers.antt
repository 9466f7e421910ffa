use Rattle.std.proofs.Common.{ap, ◌∙◌}
use Rattle.ale_macro.specs.Expansions.{expansions_of}
use Rattle.ale_macro.specs.Slots.{all_numbered}
use Rattle.ale_expansion.specs.Walking.{base, goes_on, all_stand}
use Rattle.ale_expansion.proofs.Members.{conjunct_done}
use Rattle.ale_expansion.proofs.walk.Walk.next_conjuncts.Goals as goal

pub returns-clause-value : goal.returns-clause-value
returns-clause-value c =
    let w = c.args.self.now in
    let rest = all_numbered w.met.variables (expansions_of (all_stand (base w) c.args.frame c.args.items.now)) in
    c.in_ok-now.ensures.value ∙ ap (goes_on w) (conjunct_done c.args.done.items c.push.new.self.items c.args.have rest w.met.variables c.in_ok-push.ensures.items)

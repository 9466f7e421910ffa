use Rattle.std.proofs.Common.{◌≡◌, sym, subst}
use Rattle.ale_declaration.specs.Distinct.{distinct_after}
use Rattle.ale_declaration.specs.Reading.{are_distinct}
use Rattle.ale_declaration.proofs.Distinct.{distinct_first}
use Rattle.ale_declaration.proofs.list.are_distinct.Goals as goal

pub loop-rest-init : goal.loop-rest-init
loop-rest-init c =
    subst (λ seen. distinct_after seen c.args.names.now ≡ are_distinct c.args.names.now) (sym c.new-seen.ensures) (distinct_first c.args.names.now)

use Rattle.std.proofs.Common.{◌≡◌, length}
use Rattle.ale_form.specs.LeftOut.{first_left_out, left_out}
use Rattle.ale_form.proofs.left_out.left_out.Given as goal

abbrev pub invariant-loop-rest : goal.invariant-loop-rest
invariant-loop-rest l = first_left_out l.morphs l.rest ≡ left_out l.lexemes

abbrev pub decreases-loop-rest : goal.decreases-loop-rest
decreases-loop-rest l = length l.rest

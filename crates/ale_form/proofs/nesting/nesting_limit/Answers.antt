use Rattle.std.proofs.Common.{refl}
use Rattle.ale_form.specs.Nesting.{nesting_limit}
use Rattle.ale_form.proofs.nesting.nesting_limit.Goals as goal

pub returns-clause-value : goal.returns-clause-value
unfolding nesting_limit
returns-clause-value c = refl

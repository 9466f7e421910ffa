use Rattle.std.proofs.Common.{refl}
use Rattle.ale_command.specs.Reading.{most_digits}
use Rattle.ale_command.proofs.command.most_digits.Goals as goal

pub returns : goal.returns
unfolding most_digits
returns c = refl

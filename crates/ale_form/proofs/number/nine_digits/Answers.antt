use Rattle.ale_form.proofs.Numbers.{nine_held}
use Rattle.ale_form.proofs.number.nine_digits.Goals as goal

pub returns : goal.returns
returns c cs d l = nine_held cs d l

use Rattle.ale_top.proofs.lines.push_signature.Goals as goal

pub returns-in-TwoIntros : goal.returns-in-TwoIntros
returns-in-TwoIntros c = rw c.in-TwoIntros.is c.push_three.ensures

pub returns-in-ValueClash : goal.returns-in-ValueClash
returns-in-ValueClash c = rw c.in-ValueClash.is c.push_two.ensures

pub returns-in-FillTooLarge : goal.returns-in-FillTooLarge
returns-in-FillTooLarge c = rw c.in-FillTooLarge.is c.push_one-in-FillTooLarge.ensures

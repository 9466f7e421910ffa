use Rattle.std.proofs.Common.{rules}
use Rattle.ale_print.specs.Texts.{answer_text}
use Rattle.ale_print.proofs.Appended.{whole}
use Rattle.ale_print.proofs.answer.print_answer.Goals as goal

pub returns-clause-value : goal.returns-clause-value
returns-clause-value c = whole c.push_answer.new.out (answer_text c.args.sig.now c.args.names.now c.args.g.now) (search rules)

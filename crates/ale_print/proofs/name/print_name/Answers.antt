use Rattle.std.proofs.Common.{rules}
use Rattle.std.specs.Str.{chars}
use Rattle.ale_print.specs.Naming.{printed_name}
use Rattle.ale_print.proofs.Appended.{whole}
use Rattle.ale_print.proofs.name.print_name.Goals as goal

pub returns-clause-value : goal.returns-clause-value
returns-clause-value c = whole c.push_name.new.out (printed_name (chars c.args.name.now)) (search rules)

use Rattle.ale_print.proofs.ReadBack.{names_are_read_back, plain_is_atom}
use Rattle.ale_print.proofs.laws.printed_names.Goals as goal

pub returns-clause-read_back : goal.returns-clause-read_back
returns-clause-read_back c = names_are_read_back

pub returns-clause-plain : goal.returns-clause-plain
returns-clause-plain c = plain_is_atom

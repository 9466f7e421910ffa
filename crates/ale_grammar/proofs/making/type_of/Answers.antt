use Rattle.std.proofs.Common.{ap, ◌∙◌}
use Rattle.ale_declared.specs.Names.{named}
use Rattle.ale_describe.proofs.Finding.{found_number}
use Rattle.ale_grammar.proofs.making.type_of.Goals as goal

pub returns : goal.returns
returns c = found_number c.args.sig.now.types c.args.name.now c.in-Some.found (c.in-Some.ensures.value ∙ ap (named c.args.sig.now.types) c.as_str.ensures.value)

use Rattle.std.proofs.Common.{ap, sym, ◌∙◌}
use Rattle.std.specs.Prelude.{codes}
use Rattle.ale_declared.specs.Names.{named}
use Rattle.ale_describe.proofs.Finding.{found_number, lists_have_end, e_list_chars}
use Rattle.ale_describe.proofs.looking.empty_list.Goals as goal

pub returns : goal.returns
returns c = found_number c.args.sig.now.types (codes "e_list") c.in-Some.found (c.in-Some.ensures.value ∙ ap (named c.args.sig.now.types) e_list_chars)

pub unreachable-requires : goal.unreachable-requires
unreachable-requires c = absurd (lists_have_end c.args.sig.now c.requires (sym (c.in-None.ensures.value ∙ ap (named c.args.sig.now.types) e_list_chars)))

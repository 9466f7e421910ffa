use Rattle.std.proofs.Common.{◌≡◌, ap, sym, subst, ◌∙◌}
use Rattle.std.specs.Prelude.{IfOk}
use Rattle.ale_declared.specs.Names.{named}
use Rattle.ale_declared.proofs.NameLemmas.{named_none}
use Rattle.ale_vocabulary.specs.Keys.{key}
use Rattle.ale_describe.proofs.Finding.{found_number}
use Rattle.ale_describe.proofs.looking.macro_number.Goals as goal

pub returns : goal.returns
returns c =
    let named_so = ap (λ n. named c.args.vocabulary.now.macros (key n c.args.arity)) c.as_str.ensures.value in
    subst (λ n. IfOk c.narrow.result (λ m. m ≡ n)) (found_number c.args.vocabulary.now.macros (key c.args.name.now c.args.arity) c.in-Some.found (c.in-Some.ensures ∙ named_so)) c.narrow.ensures

pub unreachable-requires : goal.unreachable-requires
unreachable-requires c =
    let named_so = ap (λ n. named c.args.vocabulary.now.macros (key n c.args.arity)) c.as_str.ensures.value in
    absurd (named_none c.args.vocabulary.now.macros (key c.args.name.now c.args.arity) (sym (c.in-None.ensures ∙ named_so)) c.requires)

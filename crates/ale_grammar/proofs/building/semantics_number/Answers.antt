use Rattle.std.proofs.Common.{◌≡◌, ap, sym, subst, ◌∙◌, List}
use Rattle.std.specs.Prelude.{ℕ, IfOk}
use Rattle.std.specs.Str.{chars}
use Rattle.ale_declared.specs.Names.{named}
use Rattle.ale_declared.proofs.NameLemmas.{named_none}
use Rattle.ale_vocabulary.specs.Keys.{key}
use Rattle.ale_vocabulary.specs.Vocabularies.{VocabularyData}
use Rattle.ale_describe.proofs.Finding.{found_number}
use Rattle.ale_describe.proofs.Knowing.{known_predicate}
use Rattle.ale_grammar.proofs.building.semantics_number.Goals as goal

pub returns : goal.returns
returns c =
    let same = ap (λ (v : VocabularyData). named v.predicates (key (chars c.as_str.result.now) 2)) c.vocabulary.ensures ∙ ap (λ (n : List ℕ). named c.args.names.now.vocabulary.predicates (key n 2)) c.as_str.ensures.value in
    subst (λ n. IfOk c.narrow.result (λ m. m ≡ n)) (found_number c.args.names.now.vocabulary.predicates (key c.args.name.now 2) c.in-Some.found (c.in-Some.ensures ∙ same)) c.narrow.ensures

pub unreachable-requires : goal.unreachable-requires
unreachable-requires c =
    let same = ap (λ (v : VocabularyData). named v.predicates (key (chars c.as_str.result.now) 2)) c.vocabulary.ensures ∙ ap (λ (n : List ℕ). named c.args.names.now.vocabulary.predicates (key n 2)) c.as_str.ensures.value in
    absurd (named_none c.args.names.now.vocabulary.predicates (key c.args.name.now 2) (sym (c.in-None.ensures ∙ same))
    (known_predicate c.args.sig.now c.args.names.now.vocabulary c.args.name.now 2 c.requires.known.0))

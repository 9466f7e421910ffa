use Rattle.std.proofs.Common.{◌≡◌, ℕ, List, Option, subst, IfOk, ◌∙◌, ap}
use Rattle.ale_declared.specs.Declarations.{Declared}
use Rattle.ale_declared.specs.Names.{is_named}
use Rattle.ale_vocabulary.specs.declared.error.NameError.{NameError}
use Rattle.ale_vocabulary.specs.declared.error.NameError.TheVariants.{UnknownFeature}
use Rattle.ale_vocabulary.specs.Knowing.{unknown_in, unless}
use Rattle.ale_vocabulary.proofs.Describing.{macro_stops, macro_goes, meet_first, each_stops, each_goes, mentions_of_term, mentions_of_terms, term_parts}
use Rattle.ale_vocabulary.specs.First.{first_of, or_else}
use Rattle.ale_vocabulary.proofs.description.+terms.Goals as goal

-- the first feature of a path that is missing
abbrev missing : Declared → List (List ℕ) → Option NameError
missing d p = first_of (λ (f : List ℕ). unless (is_named f d.features) (UnknownFeature f)) p

pub first_in-returns-in-Some-2 : goal.first_in-returns-in-Some-2
first_in-returns-in-Some-2 t c =
    macro_stops (unknown_in c.args.sig.now c.args.vocabulary.now) c.args.term.now c.in-Macro.name c.in-Macro.arguments c.len.result c.in_ok-fault-in-Macro.field-0 c.in-Some-2.fault
    c.in-Macro.is c.len.ensures c.in_ok-fault-in-Macro.ensures c.in-Some-2.is

pub first_in-returns-in-Meet : goal.first_in-returns-in-Meet
first_in-returns-in-Meet t c =
    subst (λ (z : Option NameError). IfOk c.first_on_paths.result (λ (o : Option NameError). o ≡ z))
    (ap (λ (p : List (List ℕ)). or_else (missing c.args.sig.now p) (missing c.args.sig.now c.as_slice-in-Meet.result.now)) c.as_slice.ensures
    ∙ ap (λ (q : List (List ℕ)). or_else (missing c.args.sig.now c.in-Meet.left) (missing c.args.sig.now q)) c.as_slice-in-Meet.ensures
    ∙ meet_first c.args.sig.now c.args.vocabulary.now c.args.term.now c.in-Meet.left c.in-Meet.right c.in-Meet.is)
    c.first_on_paths.ensures

pub first_in-returns-in_default-2 : goal.first_in-returns-in_default-2
first_in-returns-in_default-2 t c =
    subst (λ (z : Option NameError). IfOk c.first_in_each.result (λ (o : Option NameError). o ≡ z))
    (macro_goes (unknown_in c.args.sig.now c.args.vocabulary.now) c.args.term.now c.in-Macro.name c.in-Macro.arguments c.as_slice-in-Macro.result.now c.len.result c.in_ok-fault-in-Macro.field-0
    c.in-Macro.is c.len.ensures c.in_ok-fault-in-Macro.ensures c.in_default-2.is c.as_slice-in-Macro.ensures)
    c.first_in_each.ensures

pub first_in_each-returns-in-Some : goal.first_in_each-returns-in-Some
first_in_each-returns-in-Some t c =
    each_stops (unknown_in c.args.sig.now c.args.vocabulary.now) mentions_of_term mentions_of_terms term_parts c.args.terms.now c.loop-term.term-index c.term-item.result
    c.in_ok-fault.field-0 (first_of (unknown_in c.args.sig.now c.args.vocabulary.now) (mentions_of_terms c.args.terms.now)) c.in-Some.fault
    c.loop-term-test.true c.term-item.is c.in_ok-fault.ensures c.in-Some.is c.loop-term.invariant

pub first_in_each-loop-term-preserved : goal.first_in_each-loop-term-preserved
first_in_each-loop-term-preserved t c =
    each_goes (unknown_in c.args.sig.now c.args.vocabulary.now) mentions_of_term mentions_of_terms term_parts c.args.terms.now c.loop-term.term-index c.term-item.result
    c.in_ok-fault.field-0 (first_of (unknown_in c.args.sig.now c.args.vocabulary.now) (mentions_of_terms c.args.terms.now))
    c.loop-term-test.true c.term-item.is c.in_ok-fault.ensures c.in_default.is c.loop-term.invariant

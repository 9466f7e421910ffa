-- Declarations give names one meaning, or are refused for one fault: that of the function.
use Rattle.std.proofs.Common.{◌≡◌, ℕ, Option, Some, None, Result, Ok, Err, List, [], refl, ap, ◌∙◌, subst}
use Rattle.ale_declared.specs.Declarations.{Declared}
use Rattle.ale_declaration.specs.Declarations.{DeclarationData}
use Rattle.ale_vocabulary.specs.Vocabularies.{vocabulary_of}
use Rattle.ale_macro.specs.Calls.{calls_of}
use Rattle.ale_describe.specs.Names.{NamesData}
use Rattle.ale_describe.specs.Macros.{names_of}
use Rattle.ale_naming.specs.Places.{places}
use Rattle.ale_naming.specs.Faults.{Fault, HasUnknown, HasMisplaced, IsTooBig, IsNameFault, unknown, misplaced, too_large}
use Rattle.ale_naming.specs.Naming.{AreNamed, refused, named}
use Rattle.ale_naming.specs.Rounds.{round_one, round_two, round_three, nothing_earlier, first_cyclic, unless_fault, named_of}
use Rattle.ale_naming.specs.Laws.{NamingLaw}
use Rattle.ale_naming.proofs.Firsts.{Finds}
use Rattle.ale_naming.proofs.Cycles.{first_is}
use Rattle.ale_naming.proofs.Unknowing.{one_finds}
use Rattle.ale_naming.proofs.Misplacing.{two_finds, at_first, first_not_yet}
use Rattle.ale_naming.proofs.Measuring.{three_finds}

module _ (d : Declared) (ds : List DeclarationData) where
  abbrev names : NamesData
  names = names_of d ds

  abbrev calls : List (ℕ × ℕ)
  calls = calls_of (names_of d ds).library.macros

  -- what each round finds
  abbrev one : Option Fault
  one = round_one d (vocabulary_of ds) 1 ds

  abbrev two : Option Fault
  two = round_two (vocabulary_of ds) (first_cyclic (names_of d ds).library.macros) 1 nothing_earlier ds

  abbrev three : Option Fault
  three = round_three d (names_of d ds) 1 0 ds

  one_is : Finds (HasUnknown d (vocabulary_of ds)) one (places ds)
  one_is = one_finds d (vocabulary_of ds) 1 [] ds

  pub two_is : Finds (HasMisplaced calls (vocabulary_of ds)) two (places ds)
  two_is = two_finds calls (vocabulary_of ds) (first_cyclic (names_of d ds).library.macros) 1 [] ds nothing_earlier (at_first ds) (first_is (names_of d ds).library.macros)
      (first_not_yet (first_cyclic (names_of d ds).library.macros))

  three_is : Finds (IsTooBig d names) three (places ds)
  three_is = three_finds d names 1 0 [] ds refl

  abbrev whole : Option Fault → Option Fault → Option Fault → Result NamesData Fault
  whole a b c = unless_fault a (unless_fault b (unless_fault c (Ok names)))

  stops_one : (f : Fault) → one ≡ Some f → whole one two three ≡ Err f
  stops_one f e = ap (λ o. whole o two three) e

  stops_two : (f : Fault) → one ≡ None → two ≡ Some f → whole one two three ≡ Err f
  stops_two f e g = ap (λ o. whole o two three) e ∙ ap (λ o. whole None o three) g

  stops_three : (f : Fault) → one ≡ None → two ≡ None → three ≡ Some f → whole one two three ≡ Err f
  stops_three f e g h = ap (λ o. whole o two three) e ∙ (ap (λ o. whole None o three) g ∙ ap (λ o. whole None None o) h)

  goes_through : one ≡ None → two ≡ None → three ≡ None → whole one two three ≡ Ok names
  goes_through e g h = ap (λ o. whole o two three) e ∙ (ap (λ o. whole None o three) g ∙ ap (λ o. whole None None o) h)

  fault_is : (f : Fault) → IsNameFault d ds f → whole one two three ≡ Err f
  fault_is f (unknown _ is) = stops_one f ((one_is.first f).1 is)
  fault_is f (misplaced _ a is) = stops_two f (one_is.none.1 a) ((two_is.first f).1 is)
  fault_is f (too_large _ a b is) = stops_three f (one_is.none.1 a) (two_is.none.1 b) ((three_is.first f).1 is)

  to : (r : Result NamesData Fault) → AreNamed d ds r → named_of d ds ≡ r
  to _ (refused f is) = fault_is f is
  to _ (named all) = goes_through (one_is.none.1 all.known) (two_is.none.1 all.placed) (three_is.none.1 all.within)

  is_named : AreNamed d ds (whole one two three)
  is_named = go one two three refl refl refl
    where
      go : (a b c : Option Fault) → one ≡ a → two ≡ b → three ≡ c → AreNamed d ds (whole a b c)
      go (Some f) b c e g h = refused f (unknown f ((one_is.first f).0 e))
      go None (Some f) c e g h = refused f (misplaced f (one_is.none.0 e) ((two_is.first f).0 g))
      go None None (Some f) e g h = refused f (too_large f (one_is.none.0 e) (two_is.none.0 g) ((three_is.first f).0 h))
      go None None None e g h = named (record { known = one_is.none.0 e; placed = two_is.none.0 g; within = three_is.none.0 h })

pub naming : NamingLaw
naming d ds r = (to d ds r, λ e. subst (AreNamed d ds) e (is_named d ds))

-- The three rounds as functions, declaration by declaration. Source: this project's own.
use Rattle.std.specs.Prelude.{ℕ, suc, ◌+◌, Bool, true, false, ◌||◌, not, ◌==◌, nat_lt, nat_le, if◌then◌else◌, Option, Some, None, Result, Ok, Err, List, [], ◌∷◌, length, codes}
use Rattle.ale_declared.specs.Declarations.{Declared}
use Rattle.ale_declared.specs.Lists.{first, upto}
use Rattle.ale_declared.specs.Names.{named}
use Rattle.ale_hierarchy.specs.Order.{leads_through}
use Rattle.ale_declaration.specs.Declarations.{DeclarationData, signature, constraint, macro, clause, word, empty, lex_rule, rule, semantics, lex_depth, chain_length, passed_over, Element}
use Rattle.ale_vocabulary.specs.First.{or_else, first_of}
use Rattle.ale_vocabulary.specs.Keys.{key}
use Rattle.ale_vocabulary.specs.Vocabularies.{VocabularyData, vocabulary_of}
use Rattle.ale_vocabulary.specs.Mentions.{mentions_of_declaration}
use Rattle.ale_vocabulary.specs.Knowing.{unknown_in}
use Rattle.ale_vocabulary.specs.declared.error.NameError.{NameError}
use Rattle.ale_vocabulary.specs.declared.error.NameError.TheVariants.{MacroTwice, MacroCycle, TwoHeads, NoDaughter, BadDirective, TooBig}
use Rattle.ale_macro.specs.Templates.{MacroData}
use Rattle.ale_macro.specs.Calls.{calls_of}
use Rattle.ale_describe.specs.Names.{NamesData}
use Rattle.ale_describe.specs.Macros.{names_of}
use Rattle.ale_describe.specs.Limits.{parts_of_all, sum_after}
use Rattle.ale_naming.specs.declared.earlier.Earlier.{Earlier}
use Rattle.ale_naming.specs.Faults.{Fault, heads, has_daughter, greatest_depth, greatest_chain, descriptions_of}

-- the fault of the declaration with this number
abbrev pub fault_at : ℕ → Option NameError → Option Fault
fault_at k None = None
fault_at k (Some e) = Some (k, e)

-- Round one, from a number on.
abbrev pub round_one : Declared → VocabularyData → ℕ → List DeclarationData → Option Fault
round_one d v k [] = None
round_one d v k (x ∷ xs) = or_else (fault_at k (first_of (unknown_in d v) (mentions_of_declaration x))) (round_one d v (suc k) xs)

-- Round two, after what came before: the last macro by its number, and which directives were given.
abbrev pub nothing_earlier : Earlier
nothing_earlier = record { last_macro = None; semantics = false; lex_depth = false; chain_length = false }

-- macros are numbered in order of first declaration, so those that came before are those with no greater number
abbrev pub came_before : Option ℕ → Option ℕ → Bool
came_before None k = false
came_before (Some l) None = false
came_before (Some l) (Some k) = nat_le k l

abbrev pub with_macro : Option ℕ → Option ℕ → Option ℕ
with_macro last k = if came_before last k then last else k

abbrev pub after : VocabularyData → DeclarationData → Earlier → Earlier
after v (macro m ps t) e = record e { last_macro = with_macro e.last_macro (named v.macros (key m (length ps))) }
after v (semantics p) e = record e { semantics = true }
after v (lex_depth n) e = record e { lex_depth = true }
after v (chain_length n) e = record e { chain_length = true }
after v (signature s) e = e
after v (constraint n t g) e = e
after v (clause p ts g) e = e
after v (word w t) e = e
after v (empty t) e = e
after v (lex_rule n t u g ls) e = e
after v (rule n t es) e = e
after v (passed_over n) e = e

abbrev pub is_same : Option ℕ → Option ℕ → Bool
is_same None k = false
is_same (Some c) None = false
is_same (Some c) (Some k) = c == k

abbrev pub fault_if : Bool → NameError → Option NameError
fault_if bad e = if bad then Some e else None

-- `cyclic` is the first macro that leads back to itself, where there is one
abbrev pub macro_fault : Option ℕ → Option ℕ → List ℕ → ℕ → Option ℕ → Option NameError
macro_fault cyclic last m n k = or_else (fault_if (came_before last k) (MacroTwice m n)) (fault_if (is_same cyclic k) (MacroCycle m n))

abbrev pub rule_fault : List ℕ → List Element → Option NameError
rule_fault n es = or_else (fault_if (nat_le 2 (heads es)) (TwoHeads n)) (fault_if (not (has_daughter es)) (NoDaughter n))

abbrev pub directive_fault : Bool → List ℕ → Option NameError
directive_fault bad n = fault_if bad (BadDirective n)

abbrev pub misplaced : VocabularyData → Option ℕ → Earlier → DeclarationData → Option NameError
misplaced v cyclic e (macro m ps t) = macro_fault cyclic e.last_macro m (length ps) (named v.macros (key m (length ps)))
misplaced v cyclic e (rule n t es) = rule_fault n es
misplaced v cyclic e (semantics p) = directive_fault e.semantics (codes "semantics")
misplaced v cyclic e (lex_depth n) = directive_fault (nat_lt greatest_depth n || e.lex_depth) (codes "lex_rule_depth")
misplaced v cyclic e (chain_length n) = directive_fault (nat_lt greatest_chain n || e.chain_length) (codes "chain_length")
misplaced v cyclic e (signature s) = None
misplaced v cyclic e (constraint n t g) = None
misplaced v cyclic e (clause p ts g) = None
misplaced v cyclic e (word w t) = None
misplaced v cyclic e (empty t) = None
misplaced v cyclic e (lex_rule n t u g ls) = None
misplaced v cyclic e (passed_over n) = None

abbrev pub round_two : VocabularyData → Option ℕ → ℕ → Earlier → List DeclarationData → Option Fault
round_two v cyclic k e [] = None
round_two v cyclic k e (x ∷ xs) = or_else (fault_at k (misplaced v cyclic e x)) (round_two v cyclic (suc k) (after v x e) xs)

-- the first macro that leads back to itself
abbrev pub first_cyclic : List MacroData → Option ℕ
first_cyclic ms = first (λ m. leads_through (calls_of ms) (length ms) m m) (upto (length ms))

-- Round three, after so many parts.
abbrev pub too_big : Option ℕ → Option NameError
too_big None = Some TooBig
too_big (Some n) = None

abbrev pub round_three : Declared → NamesData → ℕ → ℕ → List DeclarationData → Option Fault
round_three d names k so_far [] = None
round_three d names k so_far (x ∷ xs) =
    or_else (fault_at k (too_big (sum_after d names (Some so_far) (descriptions_of x))))
    (round_three d names (suc k) (so_far + parts_of_all d names (descriptions_of x)) xs)

-- the rounds one after another
abbrev pub unless_fault : {A : Type 0} → Option Fault → Result A Fault → Result A Fault
unless_fault None r = r
unless_fault (Some f) r = Err f

abbrev pub named_of : Declared → List DeclarationData → Result NamesData Fault
named_of d ds =
    unless_fault (round_one d (vocabulary_of ds) 1 ds)
    (unless_fault (round_two (vocabulary_of ds) (first_cyclic (names_of d ds).library.macros) 1 nothing_earlier ds)
    (unless_fault (round_three d (names_of d ds) 1 0 ds) (Ok (names_of d ds))))

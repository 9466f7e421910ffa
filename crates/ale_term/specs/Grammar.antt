-- The grammar of descriptions and goals, over lexemes: which lexemes stand for which descriptions and goals.
-- Source of the forms: descriptions and definite clauses in the ALE 3.2 User's Guide, in this project's own profile.
use Rattle.std.specs.Prelude.{◌≡◌, ◌≢◌, ℕ, Option, Some, None, List, [], ◌∷◌, ◌++◌, codes}
use Rattle.ale_term.specs.declared.symbol.Symbol.{Symbol}
use Rattle.ale_term.specs.declared.symbol.Symbol.TheVariants.{OtherThan, SamePath, Then, NotProved, Equals, Colon, Comma, Semicolon, OpenRound, CloseRound, OpenSquare, CloseSquare, Bar, MacroSign, Exclamation}
use Rattle.ale_term.specs.declared.lexeme.Lexeme.{Lexeme}
use Rattle.ale_term.specs.declared.lexeme.Lexeme.TheVariants.{Atom, Quoted, Variable, Number, Sign, Other, End}
use Rattle.ale_term.specs.Terms.{TermData, name, slot, at, differs, meet, macro, list, list_with, terms_of, all_of, any_of}
use Rattle.ale_term.specs.Goals.{GoalData, holds, cut, equal, call, not_proved, if_else, once, each_of, either_of}

-- the name that the lexeme is as an atom, plain or quoted
abbrev pub atom_name : Lexeme → Option (List ℕ)
atom_name (Atom n) = Some n
atom_name (Quoted n) = Some n
atom_name (Variable n) = None
atom_name (Number n) = None
atom_name (Sign s) = None
atom_name Other = None
atom_name End = None

-- the lexemes are one atom, with this name
pub data IsAtom : List Lexeme → List ℕ → Type 0 where
  atom : (l : Lexeme) (n : List ℕ) → atom_name l ≡ Some n → IsAtom (l ∷ []) n

-- one { s one }: one or more, with the symbol between them
pub data Separated {A : Type 0} (s : Symbol) (One : List Lexeme → A → Type 0) : List Lexeme → List A → Type 0 where
  last : (xs : List Lexeme) (a : A) → One xs a → Separated s One xs (a ∷ [])
  before : (xs ys : List Lexeme) (a : A) (others : List A) → One xs a → Separated s One ys others →
      Separated s One (xs ++ Sign s ∷ ys) (a ∷ others)

-- "[" "]" | "[" one { "," one } "]"
pub data Listed {A : Type 0} (One : List Lexeme → A → Type 0) : List Lexeme → List A → Type 0 where
  empty : Listed One (Sign OpenSquare ∷ Sign CloseSquare ∷ []) []
  items : (xs : List Lexeme) (found : List A) → Separated Comma One xs found →
      Listed One (Sign OpenSquare ∷ xs ++ Sign CloseSquare ∷ []) found

-- a path: features in square brackets
abbrev pub IsPath : List Lexeme → List (List ℕ) → Type 0
IsPath = Listed IsAtom

-- Descriptions.
mutual
  -- description = conjunction { ";" conjunction }
  pub data IsDescription : List Lexeme → TermData → Type 0 where
    disjunction : (xs : List Lexeme) (ts : List TermData) → AreDisjuncts xs ts → IsDescription xs (any_of ts)

  pub data AreDisjuncts : List Lexeme → List TermData → Type 0 where
    last_disjunct : (xs : List Lexeme) (t : TermData) → IsConjunction xs t → AreDisjuncts xs (t ∷ [])
    disjunct : (xs ys : List Lexeme) (t : TermData) (ts : List TermData) → IsConjunction xs t → AreDisjuncts ys ts →
        AreDisjuncts (xs ++ Sign Semicolon ∷ ys) (t ∷ ts)

  -- conjunction = part { "," part }
  pub data IsConjunction : List Lexeme → TermData → Type 0 where
    conjunction : (xs : List Lexeme) (ts : List TermData) → AreParts xs ts → IsConjunction xs (all_of ts)

  pub data AreParts : List Lexeme → List TermData → Type 0 where
    last_part : (xs : List Lexeme) (t : TermData) → IsPart xs t → AreParts xs (t ∷ [])
    part : (xs ys : List Lexeme) (t : TermData) (ts : List TermData) → IsPart xs t → AreParts ys ts →
        AreParts (xs ++ Sign Comma ∷ ys) (t ∷ ts)

  -- part = path "==" path | simple
  pub data IsPart : List Lexeme → TermData → Type 0 where
    paths : (xs ys : List Lexeme) (p q : List (List ℕ)) → IsPath xs p → IsPath ys q → IsPart (xs ++ Sign SamePath ∷ ys) (meet p q)
    simple : (xs : List Lexeme) (t : TermData) → IsSimple xs t → IsPart xs t

  -- simple = atom ":" simple | "=\=" simple | "@" call | atom | variable | "(" description ")" | list
  -- list = "[" "]" | "[" part { "," part } "]" | "[" part { "," part } "|" part "]"
  pub data IsSimple : List Lexeme → TermData → Type 0 where
    feature : (l : Lexeme) (f : List ℕ) (xs : List Lexeme) (t : TermData) → atom_name l ≡ Some f → IsSimple xs t →
        IsSimple (l ∷ Sign Colon ∷ xs) (at f t)
    inequation : (xs : List Lexeme) (t : TermData) → IsSimple xs t → IsSimple (Sign OtherThan ∷ xs) (differs t)
    macro_call : (xs : List Lexeme) (n : List ℕ) (ts : List TermData) → IsCall xs n ts →
        IsSimple (Sign MacroSign ∷ xs) (macro n (terms_of ts))
    type : (l : Lexeme) (n : List ℕ) → atom_name l ≡ Some n → IsSimple (l ∷ []) (name n)
    variable : (n : List ℕ) → IsSimple (Variable n ∷ []) (slot n)
    group : (xs : List Lexeme) (t : TermData) → IsDescription xs t → IsSimple (Sign OpenRound ∷ xs ++ Sign CloseRound ∷ []) t
    empty_list : IsSimple (Sign OpenSquare ∷ Sign CloseSquare ∷ []) (list (terms_of []))
    closed_list : (xs : List Lexeme) (ts : List TermData) → AreParts xs ts →
        IsSimple (Sign OpenSquare ∷ xs ++ Sign CloseSquare ∷ []) (list (terms_of ts))
    open_list : (xs ys : List Lexeme) (ts : List TermData) (t : TermData) → AreParts xs ts → IsPart ys t →
        IsSimple (Sign OpenSquare ∷ xs ++ Sign Bar ∷ ys ++ Sign CloseSquare ∷ []) (list_with (terms_of ts) t)

  -- call = atom | atom "(" part { "," part } ")"
  pub data IsCall : List Lexeme → List ℕ → List TermData → Type 0 where
    plain : (l : Lexeme) (n : List ℕ) → atom_name l ≡ Some n → IsCall (l ∷ []) n []
    applied : (l : Lexeme) (n : List ℕ) (xs : List Lexeme) (ts : List TermData) → atom_name l ≡ Some n → AreParts xs ts →
        IsCall (l ∷ Sign OpenRound ∷ xs ++ Sign CloseRound ∷ []) n ts

-- the goal `true`
abbrev pub lone_true : List Lexeme
lone_true = Atom (codes "true") ∷ []

-- Goals.
mutual
  -- goal = alternative { ";" alternative }, where alternative = goals | goals "->" goals
  pub data IsGoal : List Lexeme → GoalData → Type 0 where
    alternatives : (xs : List Lexeme) (gs : List GoalData) → AreAlternatives xs gs → IsGoal xs (either_of gs)

  -- they are one part each; but all that follows the ";" after a "->" is its else, one goal
  pub data AreAlternatives : List Lexeme → List GoalData → Type 0 where
    last_alternative : (xs : List Lexeme) (g : GoalData) → IsGoalConjunction xs g → AreAlternatives xs (g ∷ [])
    alternative : (xs ys : List Lexeme) (g : GoalData) (gs : List GoalData) → IsGoalConjunction xs g → AreAlternatives ys gs →
        AreAlternatives (xs ++ Sign Semicolon ∷ ys) (g ∷ gs)
    if_then : (xs ys : List Lexeme) (c g : GoalData) → IsGoalConjunction xs c → IsGoalConjunction ys g →
        AreAlternatives (xs ++ Sign Then ∷ ys) (once c g ∷ [])
    if_then_else : (xs ys zs : List Lexeme) (c g e : GoalData) → IsGoalConjunction xs c → IsGoalConjunction ys g → IsGoal zs e →
        AreAlternatives (xs ++ Sign Then ∷ ys ++ Sign Semicolon ∷ zs) (if_else c g e ∷ [])

  -- goals = goal part { "," goal part }
  pub data IsGoalConjunction : List Lexeme → GoalData → Type 0 where
    goal_conjunction : (xs : List Lexeme) (gs : List GoalData) → AreGoalParts xs gs → IsGoalConjunction xs (each_of gs)

  pub data AreGoalParts : List Lexeme → List GoalData → Type 0 where
    last_goal_part : (xs : List Lexeme) (g : GoalData) → IsGoalPart xs g → AreGoalParts xs (g ∷ [])
    goal_part : (xs ys : List Lexeme) (g : GoalData) (gs : List GoalData) → IsGoalPart xs g → AreGoalParts ys gs →
        AreGoalParts (xs ++ Sign Comma ∷ ys) (g ∷ gs)

  -- goal part = "true" | "!" | "\+" goal part | simple "=" simple | call | "(" goal ")"
  pub data IsGoalPart : List Lexeme → GoalData → Type 0 where
    is_true : IsGoalPart lone_true holds
    is_cut : IsGoalPart (Sign Exclamation ∷ []) cut
    negation : (xs : List Lexeme) (g : GoalData) → IsGoalPart xs g → IsGoalPart (Sign NotProved ∷ xs) (not_proved g)
    equation : (xs ys : List Lexeme) (t u : TermData) → IsSimple xs t → IsSimple ys u → IsGoalPart (xs ++ Sign Equals ∷ ys) (equal t u)
    predicate : (xs : List Lexeme) (p : List ℕ) (ts : List TermData) → IsCall xs p ts → xs ≢ lone_true → IsGoalPart xs (call p ts)
    goal_group : (xs : List Lexeme) (g : GoalData) → IsGoal xs g → IsGoalPart (Sign OpenRound ∷ xs ++ Sign CloseRound ∷ []) g

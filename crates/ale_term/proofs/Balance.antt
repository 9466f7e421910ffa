-- Every form opens as many brackets as it closes. So what stands behind a bracketed form is found by counting
-- brackets, whatever it is read as.
use Rattle.std.proofs.Common.{◌≡◌, ℕ, zero, suc, Some, None, List, [], ◌∷◌, ◌++◌, refl, sym, ap, ◌∙◌, append_assoc}
use Rattle.ale_term.specs.declared.symbol.Symbol.{Symbol}
use Rattle.ale_term.specs.declared.symbol.Symbol.TheVariants.{OtherThan, SamePath, Then, NotProved, Equals, Colon, Comma, Semicolon, OpenRound, CloseRound, OpenSquare, CloseSquare, Bar, MacroSign}
use Rattle.ale_term.specs.declared.lexeme.Lexeme.{Lexeme}
use Rattle.ale_term.specs.declared.lexeme.Lexeme.TheVariants.{Atom, Quoted, Variable, Number, Sign, Other, End}
use Rattle.ale_term.specs.Terms.{TermData}
use Rattle.ale_term.specs.Goals.{GoalData}
use Rattle.ale_term.specs.Grammar.{atom_name, IsAtom, atom, Separated, last, before, empty, items, IsPath, IsDescription, AreDisjuncts, IsConjunction, AreParts, IsPart, IsSimple, IsCall, disjunction, last_disjunct, disjunct, conjunction, last_part, part, paths, simple, feature, inequation, macro_call, type, variable, group, empty_list, closed_list, open_list, plain, applied, IsGoal, AreAlternatives, IsGoalConjunction, AreGoalParts, IsGoalPart, alternatives, last_alternative, alternative, if_then, if_then_else, goal_conjunction, last_goal_part, goal_part, is_true, is_cut, negation, equation, predicate, goal_group}
use Rattle.ale_term.specs.Reading.{past_sign, past}
use Rattle.ale_term.specs.Behind.{behind}

-- the lexemes open as many brackets as they close
pub record Balanced (xs : List Lexeme) : Type 0 where
  pub skipped : (n : ℕ) (rest : List Lexeme) → behind n (xs ++ rest) ≡ behind n rest

skip_atom : (l : Lexeme) (t : List ℕ) (n : ℕ) (rest : List Lexeme) → atom_name l ≡ Some t → behind n (l ∷ rest) ≡ behind n rest
skip_atom (Atom m) t n rest e = refl
skip_atom (Quoted m) t n rest e = refl
skip_atom (Variable m) t n rest e = cc
skip_atom (Number m) t n rest e = cc
skip_atom (Sign s) t n rest e = cc
skip_atom Other t n rest e = cc
skip_atom End t n rest e = cc

balanced_atom : (l : Lexeme) (t : List ℕ) → atom_name l ≡ Some t → Balanced (l ∷ [])
balanced_atom l t e = record { skipped = λ n rest. skip_atom l t n rest e }

balanced_both : {xs ys : List Lexeme} → Balanced xs → Balanced ys → Balanced (xs ++ ys)
balanced_both {xs} {ys} f g = record { skipped = λ n rest. ap (behind n) (append_assoc xs ys rest) ∙ f.skipped n (ys ++ rest) ∙ g.skipped n rest }

-- in round, and in square brackets
round : {xs : List Lexeme} → Balanced xs → Balanced (Sign OpenRound ∷ xs ++ Sign CloseRound ∷ [])
round {xs} f = record {
  skipped = λ n rest. ap (behind (suc n)) (append_assoc xs (Sign CloseRound ∷ []) rest) ∙ f.skipped (suc n) (Sign CloseRound ∷ rest);
}

square : {xs : List Lexeme} → Balanced xs → Balanced (Sign OpenSquare ∷ xs ++ Sign CloseSquare ∷ [])
square {xs} f = record {
  skipped = λ n rest. ap (behind (suc n)) (append_assoc xs (Sign CloseSquare ∷ []) rest) ∙ f.skipped (suc n) (Sign CloseSquare ∷ rest);
}

-- a symbol that is no bracket, before others
comma : {ys : List Lexeme} → Balanced ys → Balanced (Sign Comma ∷ ys)
comma f = record { skipped = f.skipped }

semicolon : {ys : List Lexeme} → Balanced ys → Balanced (Sign Semicolon ∷ ys)
semicolon f = record { skipped = f.skipped }

then_sign : {ys : List Lexeme} → Balanced ys → Balanced (Sign Then ∷ ys)
then_sign f = record { skipped = f.skipped }

same_path : {ys : List Lexeme} → Balanced ys → Balanced (Sign SamePath ∷ ys)
same_path f = record { skipped = f.skipped }

equals : {ys : List Lexeme} → Balanced ys → Balanced (Sign Equals ∷ ys)
equals f = record { skipped = f.skipped }

bar : {ys : List Lexeme} → Balanced ys → Balanced (Sign Bar ∷ ys)
bar f = record { skipped = f.skipped }

colon : {ys : List Lexeme} → Balanced ys → Balanced (Sign Colon ∷ ys)
colon f = record { skipped = f.skipped }

other_than : {ys : List Lexeme} → Balanced ys → Balanced (Sign OtherThan ∷ ys)
other_than f = record { skipped = f.skipped }

macro_sign : {ys : List Lexeme} → Balanced ys → Balanced (Sign MacroSign ∷ ys)
macro_sign f = record { skipped = f.skipped }

negated : {ys : List Lexeme} → Balanced ys → Balanced (Sign NotProved ∷ ys)
negated f = record { skipped = f.skipped }

balanced_name : {xs : List Lexeme} {n : List ℕ} → IsAtom xs n → Balanced xs
balanced_name (atom l n e) = balanced_atom l n e

balanced_names : {xs : List Lexeme} {ns : List (List ℕ)} → Separated Comma IsAtom xs ns → Balanced xs
balanced_names (last xs a d) = balanced_name d
balanced_names (before xs ys a others d ds) = balanced_both (balanced_name d) (comma (balanced_names ds))

balanced_path : {xs : List Lexeme} {p : List (List ℕ)} → IsPath xs p → Balanced xs
balanced_path empty = record { skipped = λ n rest. refl }
balanced_path (items xs found d) = square (balanced_names d)

mutual
  pub balanced_description : {xs : List Lexeme} {t : TermData} → IsDescription xs t → Balanced xs
  balanced_description (disjunction xs ts d) = balanced_disjuncts d

  balanced_disjuncts : {xs : List Lexeme} {ts : List TermData} → AreDisjuncts xs ts → Balanced xs
  balanced_disjuncts (last_disjunct xs t d) = balanced_conjunction d
  balanced_disjuncts (disjunct xs ys t ts d ds) = balanced_both (balanced_conjunction d) (semicolon (balanced_disjuncts ds))

  balanced_conjunction : {xs : List Lexeme} {t : TermData} → IsConjunction xs t → Balanced xs
  balanced_conjunction (conjunction xs ts d) = balanced_parts d

  balanced_parts : {xs : List Lexeme} {ts : List TermData} → AreParts xs ts → Balanced xs
  balanced_parts (last_part xs t d) = balanced_part d
  balanced_parts (part xs ys t ts d ds) = balanced_both (balanced_part d) (comma (balanced_parts ds))

  balanced_part : {xs : List Lexeme} {t : TermData} → IsPart xs t → Balanced xs
  balanced_part (paths xs ys p q d e) = balanced_both (balanced_path d) (same_path (balanced_path e))
  balanced_part (simple xs t d) = balanced_simple d

  pub balanced_simple : {xs : List Lexeme} {t : TermData} → IsSimple xs t → Balanced xs
  balanced_simple (feature l f xs t a d) = balanced_both (balanced_atom l f a) (colon (balanced_simple d))
  balanced_simple (inequation xs t d) = other_than (balanced_simple d)
  balanced_simple (macro_call xs m ts d) = macro_sign (balanced_call d)
  balanced_simple (type l m a) = balanced_atom l m a
  balanced_simple (variable m) = record { skipped = λ n rest. refl }
  balanced_simple (group xs t d) = round (balanced_description d)
  balanced_simple empty_list = record { skipped = λ n rest. refl }
  balanced_simple (closed_list xs ts d) = square (balanced_parts d)
  balanced_simple (open_list xs ys ts t d e) = square (balanced_both (balanced_parts d) (bar (balanced_part e)))

  pub balanced_call : {xs : List Lexeme} {m : List ℕ} {ts : List TermData} → IsCall xs m ts → Balanced xs
  balanced_call (plain l m a) = balanced_atom l m a
  balanced_call (applied l m xs ts a d) = balanced_both (balanced_atom l m a) (round (balanced_parts d))

mutual
  pub balanced_goal : {xs : List Lexeme} {g : GoalData} → IsGoal xs g → Balanced xs
  balanced_goal (alternatives xs gs d) = balanced_alternatives d

  balanced_alternatives : {xs : List Lexeme} {gs : List GoalData} → AreAlternatives xs gs → Balanced xs
  balanced_alternatives (last_alternative xs g d) = balanced_goals d
  balanced_alternatives (alternative xs ys g gs d ds) = balanced_both (balanced_goals d) (semicolon (balanced_alternatives ds))
  balanced_alternatives (if_then xs ys c g d e) = balanced_both (balanced_goals d) (then_sign (balanced_goals e))
  balanced_alternatives (if_then_else xs ys zs c g h d e f) =
      balanced_both (balanced_both (balanced_goals d) (then_sign (balanced_goals e))) (semicolon (balanced_goal f))

  balanced_goals : {xs : List Lexeme} {g : GoalData} → IsGoalConjunction xs g → Balanced xs
  balanced_goals (goal_conjunction xs gs d) = balanced_goal_parts d

  balanced_goal_parts : {xs : List Lexeme} {gs : List GoalData} → AreGoalParts xs gs → Balanced xs
  balanced_goal_parts (last_goal_part xs g d) = balanced_goal_part d
  balanced_goal_parts (goal_part xs ys g gs d ds) = balanced_both (balanced_goal_part d) (comma (balanced_goal_parts ds))

  balanced_goal_part : {xs : List Lexeme} {g : GoalData} → IsGoalPart xs g → Balanced xs
  balanced_goal_part is_true = record { skipped = λ n rest. refl }
  balanced_goal_part is_cut = record { skipped = λ n rest. refl }
  balanced_goal_part (negation xs g d) = negated (balanced_goal_part d)
  balanced_goal_part (equation xs ys t u d e) = balanced_both (balanced_simple d) (equals (balanced_simple e))
  balanced_goal_part (predicate xs p ts d other) = balanced_call d
  balanced_goal_part (goal_group xs g d) = round (balanced_goal d)

-- behind a group or list in brackets of which the first stands before these
pub behind_round : {xs : List Lexeme} → Balanced xs → (rest : List Lexeme) → behind zero (xs ++ Sign CloseRound ∷ [] ++ rest) ≡ rest
behind_round {xs} f rest = ap (behind zero) (append_assoc xs (Sign CloseRound ∷ []) rest) ∙ f.skipped zero (Sign CloseRound ∷ rest)

behind_square : {xs : List Lexeme} → Balanced xs → (rest : List Lexeme) → behind zero (xs ++ Sign CloseSquare ∷ [] ++ rest) ≡ rest
behind_square {xs} f rest = ap (behind zero) (append_assoc xs (Sign CloseSquare ∷ []) rest) ∙ f.skipped zero (Sign CloseSquare ∷ rest)

pub atom_past : (l : Lexeme) (t : List ℕ) (s : Symbol) (ls : List Lexeme) → atom_name l ≡ Some t → past_sign s l ls ≡ None
atom_past (Atom m) t s ls e = refl
atom_past (Quoted m) t s ls e = refl
atom_past (Variable m) t s ls e = cc
atom_past (Number m) t s ls e = cc
atom_past (Sign k) t s ls e = cc
atom_past Other t s ls e = cc
atom_past End t s ls e = cc

-- what follows a path
pub path_behind : {xs : List Lexeme} {p : List (List ℕ)} → IsPath xs p → (rest inner : List Lexeme) → past OpenSquare (xs ++ rest) ≡ Some inner → rest ≡ behind zero inner
path_behind empty rest inner e = let q : Sign CloseSquare ∷ rest ≡ inner = cc in ap (behind zero) q
path_behind (items xs found d) rest inner e =
    let q : xs ++ Sign CloseSquare ∷ [] ++ rest ≡ inner = cc in sym (behind_square (balanced_names d) rest) ∙ ap (behind zero) q

-- what follows a description that begins with a square bracket
pub list_behind : {xs : List Lexeme} {t : TermData} → IsSimple xs t → (rest inner : List Lexeme) → past OpenSquare (xs ++ rest) ≡ Some inner → rest ≡ behind zero inner
list_behind (feature l f xs t a d) rest inner e = let q = atom_past l f OpenSquare (Sign Colon ∷ xs ++ rest) a in cc
list_behind (inequation xs t d) rest inner e = cc
list_behind (macro_call xs m ts d) rest inner e = cc
list_behind (type l m a) rest inner e = let q = atom_past l m OpenSquare rest a in cc
list_behind (variable m) rest inner e = cc
list_behind (group xs t d) rest inner e = cc
list_behind empty_list rest inner e = let q : Sign CloseSquare ∷ rest ≡ inner = cc in ap (behind zero) q
list_behind (closed_list xs ts d) rest inner e =
    let q : xs ++ Sign CloseSquare ∷ [] ++ rest ≡ inner = cc in sym (behind_square (balanced_parts d) rest) ∙ ap (behind zero) q
list_behind (open_list xs ys ts t d f) rest inner e =
    let q : xs ++ Sign Bar ∷ ys ++ Sign CloseSquare ∷ [] ++ rest ≡ inner = cc in
    sym (behind_square (balanced_both (balanced_parts d) (bar (balanced_part f))) rest) ∙ ap (behind zero) q

-- what follows a description that begins with a round bracket
pub group_behind : {xs : List Lexeme} {t : TermData} → IsSimple xs t → (rest inner : List Lexeme) → past OpenRound (xs ++ rest) ≡ Some inner → rest ≡ behind zero inner
group_behind (feature l f xs t a d) rest inner e = let q = atom_past l f OpenRound (Sign Colon ∷ xs ++ rest) a in cc
group_behind (inequation xs t d) rest inner e = cc
group_behind (macro_call xs m ts d) rest inner e = cc
group_behind (type l m a) rest inner e = let q = atom_past l m OpenRound rest a in cc
group_behind (variable m) rest inner e = cc
group_behind (group xs t d) rest inner e =
    let q : xs ++ Sign CloseRound ∷ [] ++ rest ≡ inner = cc in sym (behind_round (balanced_description d) rest) ∙ ap (behind zero) q
group_behind empty_list rest inner e = cc
group_behind (closed_list xs ts d) rest inner e = cc
group_behind (open_list xs ys ts t d f) rest inner e = cc

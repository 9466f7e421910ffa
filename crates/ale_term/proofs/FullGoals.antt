-- What the grammar says that lexemes stand for as a goal is read, whatever follows that the form would not go on with.
use Rattle.std.proofs.Common.{◌≡◌, ◌≢◌, ℕ, zero, suc, ◌+◌, ◌<◌, ◌≤◌, Bool, true, false, Some, None, List, [], ◌∷◌, ◌++◌, length, refl, ap, ◌∙◌, append_assoc, length-append, arith}
use Rattle.std.specs.Prelude.{codes}
use Rattle.std.specs.Str.{bytes_eq}
use Rattle.std.proofs.lemmas.Slice.Eq.{bytes_eq-Decides}
use Rattle.ale_term.specs.declared.symbol.Symbol.TheVariants.{Then, NotProved, Equals, Colon, Comma, Semicolon, OpenRound, CloseRound, Exclamation}
use Rattle.ale_term.specs.declared.lexeme.Lexeme.{Lexeme}
use Rattle.ale_term.specs.declared.lexeme.Lexeme.TheVariants.{Atom, Quoted, Variable, Number, Sign, Other, End}
use Rattle.ale_term.specs.Terms.{TermData}
use Rattle.ale_term.specs.Goals.{GoalData, call}
use Rattle.ale_term.specs.Grammar.{atom_name, Separated, last, before, IsCall, plain, applied, lone_true, IsGoal, AreAlternatives, IsGoalConjunction, AreGoalParts, IsGoalPart, alternatives, last_alternative, alternative, if_then, if_then_else, goal_conjunction, last_goal_part, goal_part, is_true, is_cut, negation, equation, predicate, goal_group}
use Rattle.ale_term.specs.Reading.{past, separated_at, ended_by, call_of, simple_of, goals_at, alternatives_at, either_at, true_at, goal_part_at, goal_part_of, goal_of, goal_at, goal_element_at}
use Rattle.ale_term.specs.Follows.{EndsGoalPart, EndsGoalConjunction, EndsGoal}
use Rattle.ale_term.proofs.Loops.{GoalReader}
use Rattle.ale_term.proofs.Balance.{atom_past, behind_round, balanced_goal}
use Rattle.ale_term.proofs.SoundGoals.{no_side, true_read}
use Rattle.ale_term.proofs.Full.{IsFull, full_separated, full_simple, full_call}

-- an atom that neither ":" nor "=" follows isn't the left side of an equation
atom_no_side : (n : ℕ) (l : Lexeme) (m : List ℕ) (rest : List Lexeme) → atom_name l ≡ Some m → past Colon rest ≡ None → past Equals rest ≡ None →
    ended_by Equals (simple_of n (l ∷ rest)) ≡ None
atom_no_side zero l m rest a e f = refl
atom_no_side (suc n) l m rest a e f = rw (a, e, f) refl

cut_no_side : (n : ℕ) (rest : List Lexeme) → ended_by Equals (simple_of n (Sign Exclamation ∷ rest)) ≡ None
cut_no_side zero rest = refl
cut_no_side (suc n) rest = refl

negation_no_side : (n : ℕ) (rest : List Lexeme) → ended_by Equals (simple_of n (Sign NotProved ∷ rest)) ≡ None
negation_no_side zero rest = refl
negation_no_side (suc n) rest = refl

-- nor is a group of goals that no "=" follows
group_no_side : (n : ℕ) {xs : List Lexeme} {g : GoalData} → IsGoal xs g → (rest : List Lexeme) → past Equals rest ≡ None →
    ended_by Equals (simple_of n (Sign OpenRound ∷ xs ++ Sign CloseRound ∷ [] ++ rest)) ≡ None
group_no_side n {xs} d rest e =
    let inner : List Lexeme = xs ++ Sign CloseRound ∷ [] ++ rest in
    no_side n (Sign OpenRound ∷ inner) inner (ended_by Equals (simple_of n (Sign OpenRound ∷ inner))) refl (ap (past Equals) (behind_round (balanced_goal d) rest) ∙ e) refl

-- a name that isn't `true` alone isn't read as the goal `true`
another_word : (k : List ℕ) (b : Bool) (more : List Lexeme) → bytes_eq k (codes "true") ≡ b → Atom k ∷ [] ≢ lone_true → true_at (Atom k ∷ more) ≡ None
another_word k true more h other =
    let d = bytes_eq-Decides k (codes "true") in
    let same : k ≡ codes "true" = d.0 h in
    absurd (other (ap (λ n. Atom n ∷ []) same))
another_word k false more h other = rw h refl

not_true : (l : Lexeme) (more : List Lexeme) → l ∷ [] ≢ lone_true → true_at (l ∷ more) ≡ None
not_true (Atom k) more other = another_word k (bytes_eq k (codes "true")) more refl other
not_true (Quoted k) more other = refl
not_true (Variable k) more other = refl
not_true (Number k) more other = refl
not_true (Sign s) more other = refl
not_true Other more other = refl
not_true End more other = refl

word_applied : (k : List ℕ) (b : Bool) (more : List Lexeme) → bytes_eq k (codes "true") ≡ b → true_at (Atom k ∷ Sign OpenRound ∷ more) ≡ None
word_applied k true more h = rw h refl
word_applied k false more h = rw h refl

true_applied : (l : Lexeme) (more : List Lexeme) → true_at (l ∷ Sign OpenRound ∷ more) ≡ None
true_applied (Atom k) more = word_applied k (bytes_eq k (codes "true")) more refl
true_applied (Quoted k) more = refl
true_applied (Variable k) more = refl
true_applied (Number k) more = refl
true_applied (Sign s) more = refl
true_applied Other more = refl
true_applied End more = refl

separated_goals : {xs : List Lexeme} {gs : List GoalData} → AreGoalParts xs gs → Separated Comma IsGoalPart xs gs
separated_goals (last_goal_part xs g d) = last xs g d
separated_goals (goal_part xs ys g gs d ds) = before xs ys g gs d (separated_goals ds)

-- no goal is of no lexemes
call_some : {xs : List Lexeme} {m : List ℕ} {ts : List TermData} → IsCall xs m ts → 0 < length xs
call_some (plain l m a) = omega arith
call_some (applied l m xs ts a d) = omega arith

part_some : {xs : List Lexeme} {g : GoalData} → IsGoalPart xs g → 0 < length xs
part_some is_true = omega arith
part_some is_cut = omega arith
part_some (negation xs g d) = omega arith
part_some (equation xs ys t u d e) = omega (arith, length-append xs (Sign Equals ∷ ys))
part_some (predicate xs p ts d other) = call_some d
part_some (goal_group xs g d) = omega arith

parts_some : {xs : List Lexeme} {gs : List GoalData} → AreGoalParts xs gs → 0 < length xs
parts_some (last_goal_part xs g d) = part_some d
parts_some (goal_part xs ys g gs d ds) = omega (arith, length-append xs (Sign Comma ∷ ys))

goals_some : {xs : List Lexeme} {g : GoalData} → IsGoalConjunction xs g → 0 < length xs
goals_some (goal_conjunction xs gs d) = parts_some d

alternatives_some : {xs : List Lexeme} {gs : List GoalData} → AreAlternatives xs gs → 0 < length xs
alternatives_some (last_alternative xs g d) = goals_some d
alternatives_some (alternative xs ys g gs d ds) = omega (arith, length-append xs (Sign Semicolon ∷ ys))
alternatives_some (if_then xs ys c g d e) = omega (arith, length-append xs (Sign Then ∷ ys))
alternatives_some (if_then_else xs ys zs c g h d e f) = omega (arith, length-append (xs ++ Sign Then ∷ ys) (Sign Semicolon ∷ zs))

goal_some : {xs : List Lexeme} {g : GoalData} → IsGoal xs g → 0 < length xs
goal_some (alternatives xs gs d) = alternatives_some d

-- what may follow before one of these symbols
at_comma : (ls : List Lexeme) → EndsGoalPart (Sign Comma ∷ ls)
at_comma ls = record { simple = record { no_colon = refl; no_round = refl }; no_equals = refl }

at_semicolon : (ls : List Lexeme) → EndsGoalConjunction (Sign Semicolon ∷ ls)
at_semicolon ls = record { part = record { simple = record { no_colon = refl; no_round = refl }; no_equals = refl }; no_comma = refl }

at_then : (ls : List Lexeme) → EndsGoalConjunction (Sign Then ∷ ls)
at_then ls = record { part = record { simple = record { no_colon = refl; no_round = refl }; no_equals = refl }; no_comma = refl }

at_round : (ls : List Lexeme) → EndsGoal (Sign CloseRound ∷ ls)
at_round ls = record {
  conjunction = record { part = record { simple = record { no_colon = refl; no_round = refl }; no_equals = refl }; no_comma = refl };
  no_then = refl;
  no_semicolon = refl;
}

-- a predicate, where it is neither a left side nor `true`
predicate_by : (n : ℕ) (g2 g0 : GoalReader) (l : Lexeme) (m : List ℕ) (more : List Lexeme) (ts : List TermData) (rest : List Lexeme) →
    atom_name l ≡ Some m → past Colon more ≡ None → past Equals more ≡ None → true_at (l ∷ more) ≡ None →
    call_of (simple_of n) (l ∷ more) ≡ Some ((m, ts), rest) → goal_part_at (simple_of n) g2 g0 (l ∷ more) ≡ Some (call m ts, rest)
predicate_by n g2 g0 l m more ts rest a e f t c =
    rw (atom_no_side n l m more a e f, atom_past l m Exclamation more a, atom_past l m NotProved more a, atom_past l m OpenRound more a, t, c) refl

module _ (n : ℕ) (g2 g0 : GoalReader) (full2 : IsFull IsGoalPart EndsGoalPart n g2) (full0 : IsFull IsGoal EndsGoal n g0) where
  full_predicate : {xs : List Lexeme} {m : List ℕ} {ts : List TermData} → IsCall xs m ts → xs ≢ lone_true → length xs ≤ suc n → (rest : List Lexeme) → EndsGoalPart rest →
      goal_part_at (simple_of n) g2 g0 (xs ++ rest) ≡ Some (call m ts, rest)
  full_predicate (plain l m a) other le rest ends =
      predicate_by n g2 g0 l m rest [] rest a ends.simple.no_colon ends.no_equals (not_true l rest other)
      (full_call n (simple_of n) (full_simple n) (plain l m a) le rest ends.simple.no_round)
  full_predicate (applied l m xs ts a d) other le rest ends =
      predicate_by n g2 g0 l m (Sign OpenRound ∷ xs ++ Sign CloseRound ∷ [] ++ rest) ts rest a refl refl (true_applied l (xs ++ Sign CloseRound ∷ [] ++ rest))
      (full_call n (simple_of n) (full_simple n) (applied l m xs ts a d) le rest ends.simple.no_round)

  full_part_level : IsFull IsGoalPart EndsGoalPart (suc n) (goal_part_at (simple_of n) g2 g0)
  full_part_level _ _ rest is_true le ends =
      let h : ended_by Equals (simple_of n (Atom (codes "true") ∷ rest)) ≡ None =
      atom_no_side n (Atom (codes "true")) (codes "true") rest refl ends.simple.no_colon ends.no_equals in
      rw (h, true_read rest ends.simple.no_round) refl
  full_part_level _ _ rest is_cut le ends = rw (cut_no_side n rest) refl
  full_part_level _ _ rest (negation xs g d) le ends =
      let r : g2 (xs ++ rest) ≡ Some (g, rest) = full2 xs g rest d (omega (arith, le)) ends in
      rw (negation_no_side n (xs ++ rest), r) refl
  full_part_level _ _ rest (equation xs ys t u d e) le ends =
      let g : xs ++ Sign Equals ∷ ys ++ rest ≡ xs ++ (Sign Equals ∷ ys ++ rest) = append_assoc xs (Sign Equals ∷ ys) rest in
      let sum : length (xs ++ Sign Equals ∷ ys) ≡ length xs + suc (length ys) = length-append xs (Sign Equals ∷ ys) in
      let r : simple_of n (xs ++ (Sign Equals ∷ ys ++ rest)) ≡ Some (t, Sign Equals ∷ ys ++ rest) =
      full_simple n xs t (Sign Equals ∷ ys ++ rest) d (omega (arith, le, sum)) (record { no_colon = refl; no_round = refl }) in
      let s : simple_of n (ys ++ rest) ≡ Some (u, rest) = full_simple n ys u rest e (omega (arith, le, sum)) ends.simple in
      rw (g, r, s) refl
  full_part_level _ _ rest (predicate xs p ts d other) le ends = full_predicate d other le rest ends
  full_part_level _ _ rest (goal_group xs g d) le ends =
      let close : List Lexeme = Sign CloseRound ∷ rest in
      let a : xs ++ Sign CloseRound ∷ [] ++ rest ≡ xs ++ close = append_assoc xs (Sign CloseRound ∷ []) rest in
      let sum : length (xs ++ Sign CloseRound ∷ []) ≡ length xs + 1 = length-append xs (Sign CloseRound ∷ []) in
      let h : ended_by Equals (simple_of n (Sign OpenRound ∷ xs ++ Sign CloseRound ∷ [] ++ rest)) ≡ None =
      group_no_side n d rest ends.no_equals in
      let r : g0 (xs ++ close) ≡ Some (g, close) = full0 xs g close d (omega (arith, le, sum)) (at_round rest) in
      rw (h, a, r) refl

module _ (n : ℕ) (g2 g0 : GoalReader) (full2 : IsFull IsGoalPart EndsGoalPart (suc n) g2) (full0 : IsFull IsGoal EndsGoal n g0) where
  full_goals : IsFull IsGoalConjunction EndsGoalConjunction (suc n) (goals_at g2)
  full_goals _ _ rest (goal_conjunction xs gs d) le ends =
      let r : separated_at Comma g2 (xs ++ rest) ≡ Some (gs, rest) =
      full_separated Comma IsGoalPart EndsGoalPart (suc n) g2 full2 (record { found = λ ls. refl; ends = at_comma }) (separated_goals d) le rest ends.part ends.no_comma in
      rw r refl

  full_alternatives : {xs : List Lexeme} {gs : List GoalData} → AreAlternatives xs gs → (k : ℕ) → length xs ≤ suc k → length xs ≤ suc n → (rest : List Lexeme) → EndsGoal rest →
      alternatives_at (suc k) g2 g0 (xs ++ rest) ≡ Some (gs, rest)
  full_alternatives (last_alternative xs g d) k lk le rest ends =
      let r : goals_at g2 (xs ++ rest) ≡ Some (g, rest) = full_goals xs g rest d le ends.conjunction in
      rw (r, ends.no_then, ends.no_semicolon) refl
  full_alternatives (alternative xs ys g gs d ds) zero lk le rest ends =
      absurd (omega (arith, lk, length-append xs (Sign Semicolon ∷ ys), goals_some d))
  full_alternatives (alternative xs ys g gs d ds) (suc k) lk le rest ends =
      let more : List Lexeme = Sign Semicolon ∷ ys ++ rest in
      let a : xs ++ Sign Semicolon ∷ ys ++ rest ≡ xs ++ more = append_assoc xs (Sign Semicolon ∷ ys) rest in
      let sum : length (xs ++ Sign Semicolon ∷ ys) ≡ length xs + suc (length ys) = length-append xs (Sign Semicolon ∷ ys) in
      let r : goals_at g2 (xs ++ more) ≡ Some (g, more) = full_goals xs g more d (omega (arith, le, sum)) (at_semicolon (ys ++ rest)) in
      let m : alternatives_at (suc k) g2 g0 (ys ++ rest) ≡ Some (gs, rest) =
      full_alternatives ds k (omega (arith, lk, sum, goals_some d)) (omega (arith, le, sum)) rest ends in
      rw (a, r, m) refl
  full_alternatives (if_then xs ys c g d e) k lk le rest ends =
      let more : List Lexeme = Sign Then ∷ ys ++ rest in
      let a : xs ++ Sign Then ∷ ys ++ rest ≡ xs ++ more = append_assoc xs (Sign Then ∷ ys) rest in
      let sum : length (xs ++ Sign Then ∷ ys) ≡ length xs + suc (length ys) = length-append xs (Sign Then ∷ ys) in
      let r : goals_at g2 (xs ++ more) ≡ Some (c, more) = full_goals xs c more d (omega (arith, le, sum)) (at_then (ys ++ rest)) in
      let s : goals_at g2 (ys ++ rest) ≡ Some (g, rest) = full_goals ys g rest e (omega (arith, le, sum)) ends.conjunction in
      rw (a, r, s, ends.no_semicolon) refl
  full_alternatives (if_then_else xs ys zs c g h d e f) k lk le rest ends =
      let other : List Lexeme = Sign Semicolon ∷ zs ++ rest in
      let more : List Lexeme = Sign Then ∷ ys ++ other in
      let a : xs ++ Sign Then ∷ ys ++ Sign Semicolon ∷ zs ++ rest ≡ xs ++ more =
      append_assoc (xs ++ Sign Then ∷ ys) (Sign Semicolon ∷ zs) rest ∙ append_assoc xs (Sign Then ∷ ys) other in
      let first : length (xs ++ Sign Then ∷ ys ++ Sign Semicolon ∷ zs) ≡ length (xs ++ Sign Then ∷ ys) + suc (length zs) =
      length-append (xs ++ Sign Then ∷ ys) (Sign Semicolon ∷ zs) in
      let sum : length (xs ++ Sign Then ∷ ys) ≡ length xs + suc (length ys) = length-append xs (Sign Then ∷ ys) in
      let r : goals_at g2 (xs ++ more) ≡ Some (c, more) = full_goals xs c more d (omega (arith, le, first, sum)) (at_then (ys ++ other)) in
      let s : goals_at g2 (ys ++ other) ≡ Some (g, other) = full_goals ys g other e (omega (arith, le, first, sum)) (at_semicolon (zs ++ rest)) in
      let t : g0 (zs ++ rest) ≡ Some (h, rest) = full0 zs h rest f (omega (arith, le, first, sum)) ends in
      rw (a, r, s, t) refl

  full_any : {xs : List Lexeme} {gs : List GoalData} → AreAlternatives xs gs → (k : ℕ) → length xs ≤ k → length xs ≤ suc n → (rest : List Lexeme) → EndsGoal rest →
      alternatives_at k g2 g0 (xs ++ rest) ≡ Some (gs, rest)
  full_any d zero lk le rest ends = absurd (omega (arith, lk, alternatives_some d))
  full_any d (suc k) lk le rest ends = full_alternatives d k lk le rest ends

  full_either : IsFull IsGoal EndsGoal (suc n) (either_at g2 g0)
  full_either _ _ rest (alternatives xs gs d) le ends =
      let r : alternatives_at (length (xs ++ rest)) g2 g0 (xs ++ rest) ≡ Some (gs, rest) =
      full_any d (length (xs ++ rest)) (omega (arith, length-append xs rest)) le rest ends in
      rw r refl

mutual
  pub full_goal_part : (n : ℕ) → IsFull IsGoalPart EndsGoalPart n (goal_part_of n)
  full_goal_part zero xs g rest d le ends = absurd (omega (arith, le, part_some d))
  full_goal_part (suc n) xs g rest d le ends =
      full_part_level n (goal_part_of n) (goal_of n) (full_goal_part n) (full_goal n) xs g rest d le ends

  pub full_goal : (n : ℕ) → IsFull IsGoal EndsGoal n (goal_of n)
  full_goal zero xs g rest d le ends = absurd (omega (arith, le, goal_some d))
  full_goal (suc n) xs g rest d le ends =
      full_either n (goal_part_at (simple_of n) (goal_part_of n) (goal_of n)) (goal_of n)
      (full_part_level n (goal_part_of n) (goal_of n) (full_goal_part n) (full_goal n)) (full_goal n) xs g rest d le ends

-- Goals are read, and elements of rules that are goals.
pub goal_read : {xs : List Lexeme} {g : GoalData} → IsGoal xs g → (rest : List Lexeme) → EndsGoal rest → goal_at (xs ++ rest) ≡ Some (g, rest)
goal_read {xs} {g} d rest ends =
    let n : ℕ = length (xs ++ rest) in full_goal n xs g rest d (omega (arith, length-append xs rest)) ends

pub goal_element_read : {xs : List Lexeme} {g : GoalData} → IsGoalPart xs g → (rest : List Lexeme) → EndsGoalPart rest → goal_element_at (xs ++ rest) ≡ Some (g, rest)
goal_element_read {xs} {g} d rest ends =
    let n : ℕ = length (xs ++ rest) in full_goal_part n xs g rest d (omega (arith, length-append xs rest)) ends

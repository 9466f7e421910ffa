-- What is read of goals is what the grammar says, and the lexemes behind it are left.
use Rattle.std.proofs.Common.{◌≡◌, ◌≢◌, is_some, inl, inr, ℕ, zero, suc, Bool, true, false, if◌then◌else◌, Option, Some, None, List, [], ◌∷◌, ◌++◌, length, refl, sym, ap, subst, ◌∙◌}
use Rattle.std.specs.Prelude.{codes}
use Rattle.ale_term.specs.declared.symbol.Symbol.TheVariants.{Then, NotProved, Equals, Comma, Semicolon, OpenRound, CloseRound, Exclamation}
use Rattle.ale_term.specs.declared.lexeme.Lexeme.{Lexeme}
use Rattle.ale_term.specs.declared.lexeme.Lexeme.TheVariants.{Atom, Sign}
use Rattle.ale_term.specs.Terms.{TermData}
use Rattle.ale_term.specs.Goals.{GoalData, holds, cut, equal, call, not_proved, if_else, once, each_of, either_of}
use Rattle.ale_term.specs.Grammar.{Separated, last, before, IsSimple, lone_true, IsGoal, AreAlternatives, IsGoalConjunction, AreGoalParts, IsGoalPart, alternatives, last_alternative, alternative, if_then, if_then_else, goal_conjunction, last_goal_part, goal_part, is_true, is_cut, negation, equation, predicate, goal_group}
use Rattle.ale_term.specs.Reading.{past, past_word, separated_at, ended_by, call_of, simple_of, goals_at, then_at, alternative_at, alternatives_at, either_at, true_at, predicate_at, other_goal_at, goal_part_at, goal_part_of, goal_of, goal_at, goal_element_at, ◌>>=◌, choose}
use Rattle.ale_term.specs.Follows.{Front}
use Rattle.ale_term.proofs.Loops.{read_all, one_read, GoalReader}
use Rattle.ale_term.proofs.Fronts.{past_front, word_front, bind_some, choose_some, IsSound, sound_ended, sound_made, sound_separated, after_sign, between}
use Rattle.ale_term.specs.Behind.{behind}
use Rattle.ale_term.proofs.Balance.{group_behind}
use Rattle.ale_term.proofs.Sound.{TermReader, call_front, sound_simple}

-- a goal that was read
abbrev pub one_goal : GoalData → List Lexeme → Option (GoalData × List Lexeme)
one_goal g ls = Some (g, ls)

are_goal_parts : {xs : List Lexeme} {gs : List GoalData} → Separated Comma IsGoalPart xs gs → AreGoalParts xs gs
are_goal_parts (last xs g d) = last_goal_part xs g d
are_goal_parts (before xs ys g gs d ds) = goal_part xs ys g gs d (are_goal_parts ds)

pub none_of : {A : Type 0} (o : Option A) → is_some o ≡ false → o ≡ None
none_of None e = refl
none_of (Some x) e = cc

-- what begins with a bracket isn't read as a left side where no "=" follows that
pub no_side : (n : ℕ) (zs inner : List Lexeme) (o : Option (TermData × List Lexeme)) → past OpenRound zs ≡ Some inner → past Equals (behind zero inner) ≡ None →
    ended_by Equals (simple_of n zs) ≡ o → o ≡ None
no_side n zs inner None h e r = refl
no_side n zs inner (Some p) h e r =
    let f = sound_ended Equals IsSimple (simple_of n) (sound_simple n) zs p r in
    let a : Sign Equals ∷ p.1 ≡ behind zero inner = group_behind (f.2) (Sign Equals ∷ p.1) inner (ap (past OpenRound) (sym (f.1)) ∙ h) in
    let q : past Equals (behind zero inner) ≡ Some (p.1) = ap (past Equals) (sym a) in
    let never : None ≡ Some (p.1) = sym e ∙ q in
    cc

-- `true` before no bracket is read
pub true_read : (rest : List Lexeme) → past OpenRound rest ≡ None → true_at (Atom (codes "true") ∷ rest) ≡ Some rest
true_read rest e = rw e refl

true_front : (zs behind : List Lexeme) → true_at zs ≡ Some behind → zs ≡ lone_true ++ behind
true_front zs behind e =
    let x = bind_some (past_word (codes "true") zs) (λ ls. choose (past OpenRound ls) (Some ls) (λ inner. None)) behind e in
    elim (choose_some (past OpenRound x.0) (Some (x.0)) (λ inner. None) behind (x.2)) [
      | inl h ↦ let q : x.0 ≡ behind = cc (h.1) in word_front (codes "true") zs (x.0) (x.1) ∙ ap (λ ls. Atom (codes "true") ∷ ls) q
      | inr h ↦ cc (h.2)
    ]

-- a call that was read where no `true` was
not_lone : (zs form rest : List Lexeme) → true_at zs ≡ None → zs ≡ form ++ rest → (form ≡ lone_true → past OpenRound rest ≡ None) → form ≢ lone_true
not_lone zs form rest none split lone same =
    let whole : zs ≡ Atom (codes "true") ∷ rest = split ∙ ap (λ ls. ls ++ rest) same in
    let read : true_at zs ≡ Some rest = ap true_at whole ∙ true_read rest (lone same) in
    let never : None ≡ Some rest = sym none ∙ read in
    cc

module _ (d3 : TermReader) (sound3 : IsSound IsSimple d3) where
  sound_predicate : IsSound IsGoalPart (predicate_at d3)
  sound_predicate zs p e =
      elim (choose_some (true_at zs) (call_of d3 zs >>= λ c. one_goal (call c.0.0 c.0.1) c.1) (λ behind. one_goal holds behind) p e) [
        | inl h ↦
            let x = bind_some (call_of d3 zs) (λ c. one_goal (call c.0.0 c.0.1) c.1) p (h.1) in
            let got : GoalData × List Lexeme = (call x.0.0.0 x.0.0.1, x.0.1) in
            let q : got ≡ p = cc (x.2) in
            let f = call_front d3 sound3 zs (x.0) (x.1) in
            subst (Front IsGoalPart zs) q
            (f.form, f.split, predicate f.form (x.0.0.0) (x.0.0.1) f.is (not_lone zs f.form (x.0.1) (h.0) f.split f.lone))
        | inr h ↦
            let got : GoalData × List Lexeme = (holds, h.0) in
            let q : got ≡ p = cc (h.2) in
            subst (Front IsGoalPart zs) q (lone_true, true_front zs (h.0) (h.1), is_true)
      ]

  module _ (g2 g0 : GoalReader) (sound2 : IsSound IsGoalPart g2) (sound0 : IsSound IsGoal g0) where
    -- a group, or `true` or a call
    abbrev grouped : (zs : List Lexeme) → Option (GoalData × List Lexeme)
    grouped zs = choose (past OpenRound zs) (predicate_at d3 zs) (λ inner. ended_by CloseRound (g0 inner))

    sound_grouped : IsSound IsGoalPart grouped
    sound_grouped zs p e =
        elim (choose_some (past OpenRound zs) (predicate_at d3 zs) (λ inner. ended_by CloseRound (g0 inner)) p e) [
          | inl h ↦ sound_predicate zs p (h.1)
          | inr h ↦
              let f = sound_ended CloseRound IsGoal g0 sound0 (h.0) p (h.2) in
              (Sign OpenRound ∷ f.0 ++ Sign CloseRound ∷ [], between OpenRound CloseRound zs (h.0) (f.0) (p.1) (h.1) (f.1), goal_group (f.0) (p.0) (f.2))
        ]

    abbrev negated : (zs : List Lexeme) → Option (GoalData × List Lexeme)
    negated zs = choose (past NotProved zs) (grouped zs) (λ behind. g2 behind >>= λ g. one_goal (not_proved g.0) g.1)

    sound_negated : IsSound IsGoalPart negated
    sound_negated zs p e =
        elim (choose_some (past NotProved zs) (grouped zs) (λ behind. g2 behind >>= λ g. one_goal (not_proved g.0) g.1) p e) [
          | inl h ↦ sound_grouped zs p (h.1)
          | inr h ↦
              let x = bind_some (g2 h.0) (λ g. one_goal (not_proved g.0) g.1) p (h.2) in
              let got : GoalData × List Lexeme = (not_proved x.0.0, x.0.1) in
              let q : got ≡ p = cc (x.2) in
              let f = sound2 (h.0) (x.0) (x.1) in
              let split : zs ≡ Sign NotProved ∷ f.0 ++ x.0.1 = past_front NotProved zs (h.0) (h.1) ∙ ap (λ ls. Sign NotProved ∷ ls) (f.1) in
              subst (Front IsGoalPart zs) q (Sign NotProved ∷ f.0, split, negation (f.0) (x.0.0) (f.2))
        ]

    sound_other : IsSound IsGoalPart (other_goal_at d3 g2 g0)
    sound_other zs p e =
        elim (choose_some (past Exclamation zs) (negated zs) (λ behind. one_goal cut behind) p e) [
          | inl h ↦ sound_negated zs p (h.1)
          | inr h ↦
              let got : GoalData × List Lexeme = (cut, h.0) in
              let q : got ≡ p = cc (h.2) in
              subst (Front IsGoalPart zs) q (Sign Exclamation ∷ [], past_front Exclamation zs (h.0) (h.1), is_cut)
        ]

    sound_part_level : IsSound IsGoalPart (goal_part_at d3 g2 g0)
    sound_part_level zs p e =
        elim (choose_some (ended_by Equals (d3 zs)) (other_goal_at d3 g2 g0 zs) (λ t. d3 t.1 >>= λ u. one_goal (equal t.0 u.0) u.1) p e) [
          | inl h ↦ sound_other zs p (h.1)
          | inr h ↦
              let y = bind_some (d3 h.0.1) (λ u. one_goal (equal h.0.0 u.0) u.1) p (h.2) in
              let got : GoalData × List Lexeme = (equal h.0.0 y.0.0, y.0.1) in
              let q : got ≡ p = cc (y.2) in
              let f = sound_ended Equals IsSimple d3 sound3 zs (h.0) (h.1) in
              let g = sound3 (h.0.1) (y.0) (y.1) in
              subst (Front IsGoalPart zs) q
              (f.0 ++ Sign Equals ∷ g.0, after_sign Equals zs (f.0) (h.0.1) (g.0) (y.0.1) (f.1) (g.1), equation (f.0) (g.0) (h.0.0) (y.0.0) (f.2) (g.2))
        ]

-- what was read of one alternative
abbrev pub Alternative : List Lexeme → GoalData → Bool → List Lexeme → Type 0
Alternative zs g true rest = (xs : List Lexeme) × (zs ≡ xs ++ Sign Semicolon ∷ rest) × IsGoalConjunction xs g
Alternative zs g false rest = Front AreAlternatives zs (g ∷ [], rest)

module _ (g2 g0 : GoalReader) (sound2 : IsSound IsGoalPart g2) (sound0 : IsSound IsGoal g0) where
  sound_goal_parts : IsSound AreGoalParts (separated_at Comma g2)
  sound_goal_parts zs p e =
      let f = sound_separated Comma IsGoalPart g2 sound2 zs p e in (f.0, f.1, are_goal_parts (f.2))

  sound_goals : IsSound IsGoalConjunction (goals_at g2)
  sound_goals zs p e =
      sound_made AreGoalParts IsGoalConjunction (separated_at Comma g2) each_of sound_goal_parts (λ xs gs d. goal_conjunction xs gs d) zs p e

  sound_then : (zs xs : List Lexeme) (c : GoalData) (rest : List Lexeme) → zs ≡ xs ++ Sign Then ∷ rest → IsGoalConjunction xs c →
      (p : GoalData × List Lexeme) → then_at g2 g0 c rest ≡ Some p → Front AreAlternatives zs (p.0 ∷ [], p.1)
  sound_then zs xs c rest split d p e =
      let x = bind_some (goals_at g2 rest) (λ g. choose (past Semicolon g.1) (one_goal (once c g.0) g.1) (λ behind. g0 behind >>= λ h. one_goal (if_else c g.0 h.0) h.1)) p e in
      let f = sound_goals rest (x.0) (x.1) in
      elim (choose_some (past Semicolon x.0.1) (one_goal (once c x.0.0) x.0.1) (λ behind. g0 behind >>= λ h. one_goal (if_else c x.0.0 h.0) h.1) p (x.2)) [
        | inl h ↦
            let got : GoalData × List Lexeme = (once c x.0.0, x.0.1) in
            let q : got ≡ p = cc (h.1) in
            subst (λ (r : GoalData × List Lexeme). Front AreAlternatives zs (r.0 ∷ [], r.1)) q
            (xs ++ Sign Then ∷ f.0, after_sign Then zs xs rest (f.0) (x.0.1) split (f.1), if_then xs (f.0) c (x.0.0) d (f.2))
        | inr h ↦
            let y = bind_some (g0 h.0) (λ h. one_goal (if_else c x.0.0 h.0) h.1) p (h.2) in
            let got : GoalData × List Lexeme = (if_else c x.0.0 y.0.0, y.0.1) in
            let q : got ≡ p = cc (y.2) in
            let g = sound0 (h.0) (y.0) (y.1) in
            let first : zs ≡ xs ++ Sign Then ∷ f.0 ++ x.0.1 = after_sign Then zs xs rest (f.0) (x.0.1) split (f.1) in
            let second : zs ≡ xs ++ Sign Then ∷ f.0 ++ Sign Semicolon ∷ h.0 =
            first ∙ ap (λ ls. xs ++ Sign Then ∷ f.0 ++ ls) (past_front Semicolon (x.0.1) (h.0) (h.1)) in
            subst (λ (r : GoalData × List Lexeme). Front AreAlternatives zs (r.0 ∷ [], r.1)) q (
              xs ++ Sign Then ∷ f.0 ++ Sign Semicolon ∷ g.0,
              after_sign Semicolon zs (xs ++ Sign Then ∷ f.0) (h.0) (g.0) (y.0.1) second (g.1),
              if_then_else xs (f.0) (g.0) c (x.0.0) (y.0.0) d (f.2) (g.2),
            )
      ]

  sound_alternative : (zs : List Lexeme) (a : (GoalData × Bool) × List Lexeme) → alternative_at g2 g0 zs ≡ Some a → Alternative zs a.0.0 a.0.1 a.1
  sound_alternative zs a e =
      let x = bind_some (goals_at g2 zs) (λ g. choose (past Then g.1)
      (choose (past Semicolon g.1) (one_read (g.0) false (g.1)) (λ behind. one_read (g.0) true behind))
      (λ behind. then_at g2 g0 g.0 behind >>= λ b. one_read (b.0) false (b.1))) a e in
      let f = sound_goals zs (x.0) (x.1) in
      elim (choose_some (past Then x.0.1) (choose (past Semicolon x.0.1) (one_read (x.0.0) false (x.0.1)) (λ behind. one_read (x.0.0) true behind))
      (λ behind. then_at g2 g0 x.0.0 behind >>= λ b. one_read (b.0) false (b.1)) a (x.2)) [
        | inl h ↦ elim (choose_some (past Semicolon x.0.1) (one_read (x.0.0) false (x.0.1)) (λ behind. one_read (x.0.0) true behind) a (h.1)) [
          | inl k ↦
              let got : (GoalData × Bool) × List Lexeme = ((x.0.0, false), x.0.1) in
              let q : got ≡ a = cc (k.1) in
              subst (λ (r : (GoalData × Bool) × List Lexeme). Alternative zs r.0.0 r.0.1 r.1) q (f.0, f.1, last_alternative (f.0) (x.0.0) (f.2))
          | inr k ↦
              let got : (GoalData × Bool) × List Lexeme = ((x.0.0, true), k.0) in
              let q : got ≡ a = cc (k.2) in
              subst (λ (r : (GoalData × Bool) × List Lexeme). Alternative zs r.0.0 r.0.1 r.1) q
              (f.0, f.1 ∙ ap (λ ls. f.0 ++ ls) (past_front Semicolon (x.0.1) (k.0) (k.1)), f.2)
        ]
        | inr h ↦
            let y = bind_some (then_at g2 g0 x.0.0 h.0) (λ b. one_read (b.0) false (b.1)) a (h.2) in
            let got : (GoalData × Bool) × List Lexeme = ((y.0.0, false), y.0.1) in
            let q : got ≡ a = cc (y.2) in
            let split : zs ≡ f.0 ++ Sign Then ∷ h.0 = f.1 ∙ ap (λ ls. f.0 ++ ls) (past_front Then (x.0.1) (h.0) (h.1)) in
            subst (λ (r : (GoalData × Bool) × List Lexeme). Alternative zs r.0.0 r.0.1 r.1) q
            (sound_then zs (f.0) (x.0.0) (h.0) split (f.2) (y.0) (y.1))
      ]

  -- the first alternative with those that were read behind it
  sound_with : (n : ℕ) → IsSound AreAlternatives (alternatives_at n g2 g0) → (zs : List Lexeme) (g : GoalData) (more : Bool) (rest : List Lexeme) → Alternative zs g more rest →
      (p : List GoalData × List Lexeme) → (if more then (alternatives_at n g2 g0 rest >>= λ gs. read_all (g ∷ gs.0) gs.1) else read_all (g ∷ []) rest) ≡ Some p →
      Front AreAlternatives zs p
  sound_with n later zs g true rest f p e =
      let y = bind_some (alternatives_at n g2 g0 rest) (λ gs. read_all (g ∷ gs.0) gs.1) p e in
      let got : List GoalData × List Lexeme = (g ∷ y.0.0, y.0.1) in
      let q : got ≡ p = cc (y.2) in
      let k = later rest (y.0) (y.1) in
      subst (Front AreAlternatives zs) q
      (f.0 ++ Sign Semicolon ∷ k.0, after_sign Semicolon zs (f.0) rest (k.0) (y.0.1) (f.1) (k.1), alternative (f.0) (k.0) g (y.0.0) (f.2) (k.2))
  sound_with n later zs g false rest f p e =
      let got : List GoalData × List Lexeme = (g ∷ [], rest) in
      let q : got ≡ p = cc in
      subst (Front AreAlternatives zs) q f

  sound_alternatives : (n : ℕ) → IsSound AreAlternatives (alternatives_at n g2 g0)
  sound_alternatives zero zs p e = cc
  sound_alternatives (suc n) zs p e =
      let x = bind_some (alternative_at g2 g0 zs) (λ a. if a.0.1 then (alternatives_at n g2 g0 a.1 >>= λ gs. read_all (a.0.0 ∷ gs.0) gs.1) else read_all (a.0.0 ∷ []) a.1) p e in
      sound_with n (sound_alternatives n) zs (x.0.0.0) (x.0.0.1) (x.0.1) (sound_alternative zs (x.0) (x.1)) p (x.2)

  sound_either : IsSound IsGoal (either_at g2 g0)
  sound_either zs p e =
      sound_made AreAlternatives IsGoal (λ ls. alternatives_at (length ls) g2 g0 ls) either_of (λ ls r. sound_alternatives (length ls) ls r) (λ xs gs d. alternatives xs gs d) zs p e

mutual
  pub sound_goal_part : (n : ℕ) → IsSound IsGoalPart (goal_part_of n)
  sound_goal_part zero zs p e = cc
  sound_goal_part (suc n) zs p e =
      sound_part_level (simple_of n) (sound_simple n) (goal_part_of n) (goal_of n) (sound_goal_part n) (sound_goal n) zs p e

  pub sound_goal : (n : ℕ) → IsSound IsGoal (goal_of n)
  sound_goal zero zs p e = cc
  sound_goal (suc n) zs p e =
      sound_either (goal_part_at (simple_of n) (goal_part_of n) (goal_of n)) (goal_of n)
      (sound_part_level (simple_of n) (sound_simple n) (goal_part_of n) (goal_of n) (sound_goal_part n) (sound_goal n)) (sound_goal n) zs p e

-- Goals that are read are of the grammar, and so are elements of rules that are goals.
pub sound_whole_goal : IsSound IsGoal goal_at
sound_whole_goal zs p e = sound_goal (length zs) zs p e

pub sound_goal_element : IsSound IsGoalPart goal_element_at
sound_goal_element zs p e = sound_goal_part (length zs) zs p e

-- Lexical rules and phrase structure rules are read as their forms say.
use Rattle.std.proofs.Common.{◌≡◌, inl, inr, ℕ, Option, Some, None, List, [], ◌∷◌, ◌++◌, length, refl, sym, ap, subst, ◌∙◌, append_assoc, arith}
use Rattle.std.specs.Prelude.{codes}
use Rattle.ale_term.specs.declared.symbol.Symbol.TheVariants.{RuleArrow, LexRuleArrow, Comma, Greater}
use Rattle.ale_term.specs.declared.lexeme.Lexeme.{Lexeme}
use Rattle.ale_term.specs.declared.lexeme.Lexeme.TheVariants.{Atom, Sign}
use Rattle.ale_term.specs.Terms.{TermData}
use Rattle.ale_term.specs.Goals.{GoalData}
use Rattle.ale_term.specs.Grammar.{atom_name, Separated, IsDescription, IsPart, IsGoal}
use Rattle.ale_term.specs.Follows.{Front}
use Rattle.ale_term.specs.Reading.{◌>>=◌, choose, past, past_word, atom_at, separated_at, description_at, element_at, goal_at, goal_element_at}
use Rattle.ale_term.proofs.Fronts.{bind_some, choose_some, past_front, word_front, atom_front, IsSound, sound_separated}
use Rattle.ale_term.proofs.Full.{IsFull, full_separated, description_read, element_read}
use Rattle.ale_term.proofs.FullGoals.{goal_read, goal_element_read}
use Rattle.ale_term.proofs.Sound.{sound_description, sound_element}
use Rattle.ale_term.proofs.SoundGoals.{sound_whole_goal, sound_goal_element}
use Rattle.ale_declaration.specs.declared.form.Form.TheVariants.{LexicalRules, Rules}
use Rattle.ale_declaration.specs.declared.declaration.MorphLine.{MorphLine}
use Rattle.ale_declaration.specs.Declarations.{Element, daughter, daughters, condition, head, DeclarationData, lex_rule, rule}
use Rattle.ale_declaration.specs.Forms.{IsElement, is_daughter, are_daughters, is_condition, is_head, Fits, a_lexical_rule, a_lexical_rule_with_goal, a_rule}
use Rattle.ale_declaration.specs.Reading.{condition_at, lines_of, lexical_of, lexical_rule_of, daughter_at, daughters_at, head_at, goal_part_at, rule_part_at, rule_parts_of, rule_of}
use Rattle.ale_declaration.proofs.LinesForm.{full_lines, AreLines, sound_lines}
use Rattle.ale_form.proofs.Wholes.{sound_whole, full_whole}
use Rattle.ale_declaration.proofs.Wholes.{got, description_before_word, description_before_lexical, description_before_rule, goal_before_word, EndsElement, element_before_comma, element_before_end}

-- Lexical rules.

pub full_lexical_rule : (ls : List Lexeme) (d : DeclarationData) → Fits LexicalRules ls d → lexical_rule_of ls ≡ Some d
full_lexical_rule _ _ (a_lexical_rule l n xs ys zs d e ls a s t lines) =
    let behind : List Lexeme = Atom (codes "morphs") ∷ zs in
    let g : xs ++ Sign LexRuleArrow ∷ ys ++ Atom (codes "morphs") ∷ zs ≡ xs ++ (Sign LexRuleArrow ∷ ys ++ Atom (codes "morphs") ∷ zs) = append_assoc xs (Sign LexRuleArrow ∷ ys) behind in
    let r : description_at (xs ++ (Sign LexRuleArrow ∷ ys ++ Atom (codes "morphs") ∷ zs)) ≡ got d (Sign LexRuleArrow ∷ ys ++ Atom (codes "morphs") ∷ zs) =
    description_read s (Sign LexRuleArrow ∷ ys ++ behind) (description_before_lexical (ys ++ behind)) in
    let u : description_at (ys ++ Atom (codes "morphs") ∷ zs) ≡ got e (Atom (codes "morphs") ∷ zs) = description_read t behind (description_before_word (codes "morphs") zs) in
    rw (a, g, r, u, full_lines zs ls lines) refl
full_lexical_rule _ _ (a_lexical_rule_with_goal l n xs ys gs zs d e g ls a s t h lines) =
    let behind : List Lexeme = Atom (codes "morphs") ∷ zs in
    let if_behind : List Lexeme = Atom (codes "if") ∷ gs ++ behind in
    let j : xs ++ Sign LexRuleArrow ∷ ys ++ Atom (codes "if") ∷ gs ++ Atom (codes "morphs") ∷ zs ≡ xs ++ (Sign LexRuleArrow ∷ ys ++ (Atom (codes "if") ∷ gs ++ Atom (codes "morphs") ∷ zs)) =
    append_assoc (xs ++ Sign LexRuleArrow ∷ ys) (Atom (codes "if") ∷ gs) behind ∙ append_assoc xs (Sign LexRuleArrow ∷ ys) if_behind in
    let r : description_at (xs ++ (Sign LexRuleArrow ∷ ys ++ (Atom (codes "if") ∷ gs ++ Atom (codes "morphs") ∷ zs))) ≡ got d (Sign LexRuleArrow ∷ ys ++ (Atom (codes "if") ∷ gs ++ Atom (codes "morphs") ∷ zs)) =
    description_read s (Sign LexRuleArrow ∷ ys ++ if_behind) (description_before_lexical (ys ++ if_behind)) in
    let u : description_at (ys ++ (Atom (codes "if") ∷ gs ++ Atom (codes "morphs") ∷ zs)) ≡ got e (Atom (codes "if") ∷ gs ++ Atom (codes "morphs") ∷ zs) =
    description_read t if_behind (description_before_word (codes "if") (gs ++ behind)) in
    let v : goal_at (gs ++ Atom (codes "morphs") ∷ zs) ≡ got g (Atom (codes "morphs") ∷ zs) = goal_read h behind (goal_before_word (codes "morphs") zs) in
    rw (a, j, r, u, v, full_lines zs ls lines) refl

-- the condition of a lexical rule, or nothing
data IsCondition (rest : List Lexeme) : Option GoalData → List Lexeme → Type 0 where
  without : IsCondition rest None rest
  with_goal : (gs : List Lexeme) (g : GoalData) (behind : List Lexeme) → rest ≡ Atom (codes "if") ∷ gs ++ behind → IsGoal gs g → IsCondition rest (Some g) behind

sound_condition : (rest : List Lexeme) (p : Option GoalData × List Lexeme) → condition_at rest ≡ Some p → IsCondition rest p.0 p.1
sound_condition rest p e =
    elim (choose_some (past_word (codes "if") rest) (got None rest) (λ behind. goal_at behind >>= λ g. got (Some g.0) g.1) p e) [
      | inl h ↦
          let made : Option GoalData × List Lexeme = (None, rest) in
          let q : made ≡ p = cc (h.1) in
          subst (λ (r : Option GoalData × List Lexeme). IsCondition rest r.0 r.1) q without
      | inr h ↦
          let x = bind_some (goal_at h.0) (λ g. got (Some g.0) g.1) p (h.2) in
          let made : Option GoalData × List Lexeme = (Some x.0.0, x.0.1) in
          let q : made ≡ p = cc (x.2) in
          let f = sound_whole_goal (h.0) (x.0) (x.1) in
          let split : rest ≡ Atom (codes "if") ∷ f.0 ++ x.0.1 = word_front (codes "if") rest (h.0) (h.1) ∙ ap (λ ls. Atom (codes "if") ∷ ls) (f.1) in
          subst (λ (r : Option GoalData × List Lexeme). IsCondition rest r.0 r.1) q (with_goal (f.0) (x.0.0) (x.0.1) split (f.2))
    ]

-- what stands behind "lex_rule" makes a declaration with what stands before it
lexical_fits : (l : Lexeme) (n : List ℕ) → atom_name l ≡ Some n → (xs ys : List Lexeme) (d e : TermData) → IsDescription xs d → IsDescription ys e →
    {rest : List Lexeme} {g : Option GoalData} {behind : List Lexeme} → IsCondition rest g behind → (ls : List MorphLine) → AreLines behind ls →
    Fits LexicalRules (l ∷ Atom (codes "lex_rule") ∷ xs ++ (Sign LexRuleArrow ∷ ys ++ rest)) (lex_rule n d e g ls)
lexical_fits l n a xs ys d e s t {rest} without ls lines =
    let zs : List Lexeme = lines.inner in
    let split : xs ++ Sign LexRuleArrow ∷ ys ++ Atom (codes "morphs") ∷ lines.inner ≡ xs ++ (Sign LexRuleArrow ∷ ys ++ rest) =
    append_assoc xs (Sign LexRuleArrow ∷ ys) (Atom (codes "morphs") ∷ lines.inner) ∙ ap (λ us. xs ++ (Sign LexRuleArrow ∷ ys ++ us)) (sym (lines.split)) in
    subst (λ us. Fits LexicalRules (l ∷ Atom (codes "lex_rule") ∷ us) (lex_rule n d e None ls)) split
    (a_lexical_rule l n xs ys zs d e ls a s t (lines.lines))
lexical_fits l n a xs ys d e s t {rest} (with_goal gs g behind found h) ls lines =
    let zs : List Lexeme = lines.inner in
    let split : xs ++ Sign LexRuleArrow ∷ ys ++ Atom (codes "if") ∷ gs ++ Atom (codes "morphs") ∷ lines.inner ≡ xs ++ (Sign LexRuleArrow ∷ ys ++ rest) =
    append_assoc (xs ++ Sign LexRuleArrow ∷ ys) (Atom (codes "if") ∷ gs) (Atom (codes "morphs") ∷ lines.inner)
    ∙ append_assoc xs (Sign LexRuleArrow ∷ ys) (Atom (codes "if") ∷ gs ++ Atom (codes "morphs") ∷ lines.inner)
    ∙ ap (λ us. xs ++ (Sign LexRuleArrow ∷ ys ++ us)) (ap (λ us. Atom (codes "if") ∷ gs ++ us) (sym (lines.split)) ∙ sym found) in
    subst (λ us. Fits LexicalRules (l ∷ Atom (codes "lex_rule") ∷ us) (lex_rule n d e (Some g) ls)) split
    (a_lexical_rule_with_goal l n xs ys gs zs d e g ls a s t h (lines.lines))

sound_lexical : (l : Lexeme) (n : List ℕ) → atom_name l ≡ Some n → (zs : List Lexeme) (d : DeclarationData) → lexical_of n zs ≡ Some d →
    Fits LexicalRules (l ∷ Atom (codes "lex_rule") ∷ zs) d
sound_lexical l n a zs d e =
    let x = bind_some (description_at zs)
    (λ s. past LexRuleArrow s.1 >>= λ behind. description_at behind >>= λ t. condition_at t.1 >>= λ g. lines_of g.1 >>= λ lines. Some (lex_rule n s.0 t.0 g.0 lines)) d e in
    let b = bind_some (past LexRuleArrow x.0.1)
    (λ behind. description_at behind >>= λ t. condition_at t.1 >>= λ g. lines_of g.1 >>= λ lines. Some (lex_rule n x.0.0 t.0 g.0 lines)) d (x.2) in
    let y = bind_some (description_at b.0) (λ t. condition_at t.1 >>= λ g. lines_of g.1 >>= λ lines. Some (lex_rule n x.0.0 t.0 g.0 lines)) d (b.2) in
    let g = bind_some (condition_at y.0.1) (λ g. lines_of g.1 >>= λ lines. Some (lex_rule n x.0.0 y.0.0 g.0 lines)) d (y.2) in
    let m = bind_some (lines_of g.0.1) (λ lines. Some (lex_rule n x.0.0 y.0.0 g.0.0 lines)) d (g.2) in
    let q : lex_rule n x.0.0 y.0.0 g.0.0 m.0 ≡ d = cc (m.2) in
    let f = sound_description zs (x.0) (x.1) in
    let h = sound_description (b.0) (y.0) (y.1) in
    let split : zs ≡ f.0 ++ (Sign LexRuleArrow ∷ h.0 ++ y.0.1) =
    f.1 ∙ ap (λ us. f.0 ++ us) (past_front LexRuleArrow (x.0.1) (b.0) (b.1) ∙ ap (λ us. Sign LexRuleArrow ∷ us) (h.1)) in
    subst (λ us. Fits LexicalRules (l ∷ Atom (codes "lex_rule") ∷ us) d) (sym split)
    (subst (Fits LexicalRules (l ∷ Atom (codes "lex_rule") ∷ f.0 ++ (Sign LexRuleArrow ∷ h.0 ++ y.0.1))) q
    (lexical_fits l n a (f.0) (h.0) (x.0.0) (y.0.0) (f.2) (h.2) (sound_condition (y.0.1) (g.0) (g.1)) (m.0) (sound_lines (g.0.1) (m.0) (m.1))))

pub sound_lexical_rule : (ls : List Lexeme) (d : DeclarationData) → lexical_rule_of ls ≡ Some d → Fits LexicalRules ls d
sound_lexical_rule ls d e =
    let x = bind_some (atom_at ls) (λ n. past_word (codes "lex_rule") n.1 >>= λ behind. lexical_of n.0 behind) d e in
    let b = bind_some (past_word (codes "lex_rule") x.0.1) (λ behind. lexical_of x.0.0 behind) d (x.2) in
    let a = atom_front ls (x.0) (x.1) in
    let split : ls ≡ a.0 ∷ Atom (codes "lex_rule") ∷ b.0 = a.2 ∙ ap (λ us. a.0 ∷ us) (word_front (codes "lex_rule") (x.0.1) (b.0) (b.1)) in
    subst (λ us. Fits LexicalRules us d) (sym split) (sound_lexical (a.0) (x.0.0) (a.1) (b.0) d (b.2))

-- Elements of rules.

full_element : (n : ℕ) → IsFull IsElement EndsElement n rule_part_at
full_element n _ _ rest (is_daughter xs t d) le ends =
    let r : element_at (xs ++ rest) ≡ got t rest = element_read d rest ends.part in rw r refl
full_element n _ _ rest (are_daughters xs t d) le ends =
    let r : element_at (xs ++ rest) ≡ got t rest = element_read d rest ends.part in rw r refl
full_element n _ _ rest (is_condition xs g d) le ends =
    let r : goal_element_at (xs ++ rest) ≡ got g rest = goal_element_read d rest ends.goal in rw r refl
full_element n _ _ rest (is_head xs t d) le ends =
    let r : element_at (xs ++ rest) ≡ got t rest = element_read d rest ends.part in rw r refl

-- a description behind its word and ">"
sound_described : (w : List ℕ) (make : TermData → Element) → ((xs : List Lexeme) (t : TermData) → IsPart xs t → IsElement (Atom w ∷ Sign Greater ∷ xs) (make t)) →
    (zs ls : List Lexeme) → past_word w zs ≡ Some ls → (p : Element × List Lexeme) →
    (past Greater ls >>= λ behind. element_at behind >>= λ t. got (make t.0) t.1) ≡ Some p → Front IsElement zs p
sound_described w make is zs ls front p e =
    let b = bind_some (past Greater ls) (λ behind. element_at behind >>= λ t. got (make t.0) t.1) p e in
    let x = bind_some (element_at b.0) (λ t. got (make t.0) t.1) p (b.2) in
    let made : Element × List Lexeme = (make x.0.0, x.0.1) in
    let q : made ≡ p = cc (x.2) in
    let f = sound_element (b.0) (x.0) (x.1) in
    let split : zs ≡ Atom w ∷ Sign Greater ∷ f.0 ++ x.0.1 =
    word_front w zs ls front ∙ ap (λ us. Atom w ∷ us) (past_front Greater ls (b.0) (b.1) ∙ ap (λ us. Sign Greater ∷ us) (f.1)) in
    subst (Front IsElement zs) q (Atom w ∷ Sign Greater ∷ f.0, split, is (f.0) (x.0.0) (f.2))

sound_goal_part : (zs ls : List Lexeme) → past_word (codes "goal") zs ≡ Some ls → (p : Element × List Lexeme) → goal_part_at ls ≡ Some p → Front IsElement zs p
sound_goal_part zs ls front p e =
    let b = bind_some (past Greater ls) (λ behind. goal_element_at behind >>= λ g. got (condition g.0) g.1) p e in
    let x = bind_some (goal_element_at b.0) (λ g. got (condition g.0) g.1) p (b.2) in
    let made : Element × List Lexeme = (condition x.0.0, x.0.1) in
    let q : made ≡ p = cc (x.2) in
    let f = sound_goal_element (b.0) (x.0) (x.1) in
    let split : zs ≡ Atom (codes "goal") ∷ Sign Greater ∷ f.0 ++ x.0.1 =
    word_front (codes "goal") zs ls front ∙ ap (λ us. Atom (codes "goal") ∷ us) (past_front Greater ls (b.0) (b.1) ∙ ap (λ us. Sign Greater ∷ us) (f.1)) in
    subst (Front IsElement zs) q (Atom (codes "goal") ∷ Sign Greater ∷ f.0, split, is_condition (f.0) (x.0.0) (f.2))

-- an element that is neither a daughter nor a list of daughters, and one that is no daughter
abbrev head_or_goal : List Lexeme → Option (Element × List Lexeme)
head_or_goal ls = choose (past_word (codes "goal") ls) (past_word (codes "sem_head") ls >>= λ behind. head_at behind) (λ behind. goal_part_at behind)

abbrev no_daughter : List Lexeme → Option (Element × List Lexeme)
no_daughter ls = choose (past_word (codes "cats") ls) (head_or_goal ls) (λ behind. daughters_at behind)

sound_head_or_goal : IsSound IsElement head_or_goal
sound_head_or_goal zs p e =
    elim (choose_some (past_word (codes "goal") zs) (past_word (codes "sem_head") zs >>= λ behind. head_at behind) (λ behind. goal_part_at behind) p e) [
      | inl h ↦
          let b = bind_some (past_word (codes "sem_head") zs) (λ behind. head_at behind) p (h.1) in
          sound_described (codes "sem_head") head is_head zs (b.0) (b.1) p (b.2)
      | inr h ↦ sound_goal_part zs (h.0) (h.1) p (h.2)
    ]

sound_no_daughter : IsSound IsElement no_daughter
sound_no_daughter zs p e =
    elim (choose_some (past_word (codes "cats") zs) (head_or_goal zs) (λ behind. daughters_at behind) p e) [
      | inl h ↦ sound_head_or_goal zs p (h.1)
      | inr h ↦ sound_described (codes "cats") daughters are_daughters zs (h.0) (h.1) p (h.2)
    ]

sound_rule_part : IsSound IsElement rule_part_at
sound_rule_part zs p e =
    elim (choose_some (past_word (codes "cat") zs) (no_daughter zs) (λ behind. daughter_at behind) p e) [
      | inl h ↦ sound_no_daughter zs p (h.1)
      | inr h ↦ sound_described (codes "cat") daughter is_daughter zs (h.0) (h.1) p (h.2)
    ]

-- Rules.

pub full_rule : (ls : List Lexeme) (d : DeclarationData) → Fits Rules ls d → rule_of ls ≡ Some d
full_rule _ _ (a_rule l n xs ys d es a s parts) =
    let r : description_at (xs ++ Sign RuleArrow ∷ ys) ≡ got d (Sign RuleArrow ∷ ys) = description_read s (Sign RuleArrow ∷ ys) (description_before_rule ys) in
    let u : rule_parts_of ys ≡ Some es =
    full_whole (separated_at Comma rule_part_at) ys es
    (full_separated Comma IsElement EndsElement (length ys) rule_part_at (full_element (length ys)) (record { found = λ zs. refl; ends = element_before_comma }) parts (omega arith) [] element_before_end refl) in
    rw (a, r, u) refl

pub sound_rule : (ls : List Lexeme) (d : DeclarationData) → rule_of ls ≡ Some d → Fits Rules ls d
sound_rule ls d e =
    let x = bind_some (atom_at ls)
    (λ n. past_word (codes "rule") n.1 >>= λ behind. description_at behind >>= λ s. past RuleArrow s.1 >>= λ rest. rule_parts_of rest >>= λ es. Some (rule n.0 s.0 es)) d e in
    let b = bind_some (past_word (codes "rule") x.0.1) (λ behind. description_at behind >>= λ s. past RuleArrow s.1 >>= λ rest. rule_parts_of rest >>= λ es. Some (rule x.0.0 s.0 es)) d (x.2) in
    let s = bind_some (description_at b.0) (λ s. past RuleArrow s.1 >>= λ rest. rule_parts_of rest >>= λ es. Some (rule x.0.0 s.0 es)) d (b.2) in
    let r = bind_some (past RuleArrow s.0.1) (λ rest. rule_parts_of rest >>= λ es. Some (rule x.0.0 s.0.0 es)) d (s.2) in
    let m = bind_some (rule_parts_of r.0) (λ es. Some (rule x.0.0 s.0.0 es)) d (r.2) in
    let q : rule x.0.0 s.0.0 m.0 ≡ d = cc (m.2) in
    let a = atom_front ls (x.0) (x.1) in
    let f = sound_description (b.0) (s.0) (s.1) in
    let parts : Separated Comma IsElement r.0 m.0 =
    sound_whole (Separated Comma IsElement) (separated_at Comma rule_part_at) (sound_separated Comma IsElement rule_part_at sound_rule_part) (r.0) (m.0) (m.1) in
    let split : ls ≡ a.0 ∷ Atom (codes "rule") ∷ f.0 ++ Sign RuleArrow ∷ r.0 =
    a.2 ∙ ap (λ us. a.0 ∷ us) (word_front (codes "rule") (x.0.1) (b.0) (b.1) ∙ ap (λ us. Atom (codes "rule") ∷ us) (f.1 ∙ ap (λ us. f.0 ++ us) (past_front RuleArrow (s.0.1) (r.0) (r.1)))) in
    subst (λ us. Fits Rules us d) (sym split) (subst (Fits Rules (a.0 ∷ Atom (codes "rule") ∷ f.0 ++ Sign RuleArrow ∷ r.0)) q
    (a_rule (a.0) (x.0.0) (f.0) (r.0) (s.0.0) (m.0) (a.1) (f.2) parts))

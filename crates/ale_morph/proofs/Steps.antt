-- A step of the search with a stack keeps what comes of the whole, and takes one off the steps that are left.
use Rattle.std.proofs.Common.{◌≡◌, ℕ, suc, ◌+◌, ◌<◌, ◌≤◌, inl, inr, Bool, true, false, not, ◌&&◌, if◌then◌else◌, Option, Some, None, List, [], ◌∷◌, ◌++◌, length, length-append, drop, append_assoc, refl, sym, ap, ◌∙◌, subst, arith}
use Rattle.std.proofs.lemmas.List.{append-nil}
use Rattle.std.proofs.lemmas.Bool.{and_parts}
use Rattle.ale_morph.specs.declared.line.Piece.{Piece}
use Rattle.ale_morph.specs.declared.line.Piece.TheVariants.{Letters, Slot}
use Rattle.ale_morph.specs.Search.{Filling, text_in, behind, or_else, and_then, first_longer, at_slot, fill}
use Rattle.ale_morph.specs.Bound.{stands}
use Rattle.ale_morph.specs.Stack.{Open, fillings, opened, grown, put_on, resume, State, Step, goes, from_top, go_behind, go_slot, step_at, step}
use Rattle.ale_morph.specs.Underway.{with_text, of_stack, Reaches, IsOpen, AreOpen, IsUnderway, Tells, steps_longer, steps_behind, steps_slot, steps, steps_with, steps_stack, steps_left}
use Rattle.ale_morph.proofs.Prefixes.{behind_later, cuts}
use Rattle.ale_morph.proofs.Longer.{or_assoc}
use Rattle.ale_morph.proofs.Spent.{IsSpent, none_of_longer, fails_there, fails_further, at_its_end, where_hopeless}

-- the search came to where it stands by the last piece
onto : (side : List Piece) (word : List ℕ) (os : List Open) (pieces : List Piece) (rest : List ℕ) (later : List Piece) (left : List ℕ)
    → AreOpen side word os pieces rest → Reaches (fillings os) pieces rest later left → AreOpen side word os later left
onto side word [] pieces rest later left are r = record { same = are.same ∙ r.same; nowhere = λ none. are.nowhere (r.nowhere none) }
onto side word (o ∷ os) pieces rest later left are r =
    (record { same = are.0.same ∙ r.same; nowhere = λ none. are.0.nowhere (r.nowhere none) }, are.1, are.2)

-- behind a prefix
none_behind : (answer : List ℕ → Option (List Filling)) (prefix rest left : List ℕ) → behind prefix rest ≡ Some left
    → ((n : ℕ) → answer (drop n left) ≡ None) → (n : ℕ) → and_then answer (behind prefix (drop n rest)) ≡ None
none_behind answer prefix rest left e none n = go (behind prefix (drop n rest)) refl
  where
    go : (o : Option (List ℕ)) → behind prefix (drop n rest) ≡ o → and_then answer o ≡ None
    go None at_n = refl
    go (Some later) at_n = subst (λ l. answer l ≡ None) (sym (behind_later prefix rest left n later e at_n)) (none n)

past_letters : (fs : List Filling) (letters : List ℕ) (pieces : List Piece) (rest left : List ℕ) → behind letters rest ≡ Some left
    → Reaches fs (Letters letters ∷ pieces) rest pieces left
past_letters fs letters pieces rest left e = record {
  same = ap (λ o. and_then (λ left. fill fs pieces left) o) e;
  nowhere = none_behind (λ left. fill fs pieces left) letters rest left e;
}

past_text : (fs : List Filling) (slot : ℕ) (text : List ℕ) (pieces : List Piece) (rest left : List ℕ) → text_in fs slot ≡ Some text → behind text rest ≡ Some left
    → Reaches fs (Slot slot ∷ pieces) rest pieces left
past_text fs slot text pieces rest left its e = record {
  same = ap (λ o. at_slot (with_text fs slot pieces) (λ left. fill fs pieces left) o rest) its ∙ ap (λ o. and_then (λ left. fill fs pieces left) o) e;
  nowhere = λ none n.
      subst (λ o. at_slot (with_text fs slot pieces) (λ left. fill fs pieces left) o (drop n rest) ≡ None) (sym its)
      (none_behind (λ left. fill fs pieces left) text rest left e none n);
}

-- the slot that was filled last has failed with its text, and if hopeless, with less behind it too
record HasFailed (hopeless : Bool) (side : List Piece) (word : List ℕ) (o : Open) (os : List Open) : Type 0 where
  opens : IsOpen (fillings os) o
  others : AreOpen side word os (Slot o.slot ∷ o.others) (o.text ++ o.left)
  here : 1 ≤ length o.text → with_text (fillings os) o.slot o.others o.text o.left ≡ None
  further : hopeless ≡ true → (n : ℕ) → with_text (fillings os) o.slot o.others o.text (drop n o.left) ≡ None

abbrev Failed : Bool → List Piece → List ℕ → List Open → Type 0
Failed hopeless side word [] = Unit {0}
Failed hopeless side word (o ∷ os) = HasFailed hopeless side word o os

failed_at : (hopeless : Bool) (side : List Piece) (word : List ℕ) (os : List Open) (pieces : List Piece) (rest : List ℕ)
    → AreOpen side word os pieces rest → fill (fillings os) pieces rest ≡ None
    → (hopeless ≡ true → (n : ℕ) → fill (fillings os) pieces (drop n rest) ≡ None) → Failed hopeless side word os
failed_at hopeless side word [] pieces rest are none further = tt
failed_at hopeless side word (o ∷ os) pieces rest are none further = record {
  opens = are.1;
  others = are.2;
  here = λ some. are.0.same ∙ none;
  further = λ h. are.0.nowhere (further h);
}

-- a slot with one character more
grows : (hopeless : Bool) (side : List Piece) (word : List ℕ) (o : Open) (os : List Open) (c : ℕ) (cs : List ℕ) → o.left ≡ c ∷ cs
    → HasFailed hopeless side word o os → of_stack (o ∷ os) ≡ fill [] side word
    → Tells side word (from_top (put_on (grown o (c ∷ cs)) os (resume o.once os)))
grows hopeless side word o os c cs left failed whole = record {
  whole =
      sym (or_assoc (with_text (fillings os) o.slot o.others (o.text ++ c ∷ []) cs) (first_longer (with_text (fillings os) o.slot o.others) (o.text ++ c ∷ []) cs) (of_stack os))
      ∙ ap (λ l. or_else (first_longer (with_text (fillings os) o.slot o.others) o.text l) (of_stack os)) (sym left)
      ∙ whole;
  open_slots = (
    record { same = refl; nowhere = λ none. none },
    record { free = failed.opens.free; single = failed.opens.single; failed = shorter_failed },
    subst (λ xs. AreOpen side word os (Slot o.slot ∷ o.others) xs) (ap (λ l. o.text ++ l) left ∙ sym (append_assoc o.text (c ∷ []) cs)) failed.others,
  );
}
  where
    by_more : (m shorter more : List ℕ) → shorter ≡ o.text ++ m → c ∷ [] ≡ m ++ more → 1 ≤ length shorter → 1 ≤ length more
        → with_text (fillings os) o.slot o.others shorter (more ++ cs) ≡ None
    by_more [] shorter more e whole some some' =
        let text : shorter ≡ o.text = e ∙ append-nil o.text in
        subst (λ t. with_text (fillings os) o.slot o.others t (more ++ cs) ≡ None) (sym text)
        (subst (λ l. with_text (fillings os) o.slot o.others o.text l ≡ None) (left ∙ ap (λ xs. xs ++ cs) whole)
        (failed.here (subst (λ t. 1 ≤ length t) text some)))
    by_more (x ∷ m) shorter more e whole some some' =
        let long = length-append m more in
        let one : 1 ≡ suc (length (m ++ more)) = ap length whole in
        absurd (omega arith)

    shorter_failed : (shorter more : List ℕ) → shorter ++ more ≡ o.text ++ c ∷ [] → 1 ≤ length shorter → 1 ≤ length more
        → with_text (fillings os) o.slot o.others shorter (more ++ cs) ≡ None
    shorter_failed shorter more e some some' = elim (cuts shorter more o.text (c ∷ []) e) [
      | inl s ↦
          subst (λ l. with_text (fillings os) o.slot o.others shorter l ≡ None)
          (ap (λ l. s.0 ++ l) left ∙ sym (append_assoc s.0 (c ∷ []) cs) ∙ ap (λ m. m ++ cs) (sym s.2))
          (failed.opens.failed shorter s.0 (sym s.1) some s.3)
      | inr s ↦ by_more s.0 shorter more s.1 s.2 some some'
    ]

resumes : (os : List Open) (hopeless : Bool) (side : List Piece) (word : List ℕ) → Failed hopeless side word os → of_stack os ≡ fill [] side word
    → Tells side word (from_top (resume hopeless os))
resumes [] hopeless side word failed whole = sym whole
resumes (o ∷ os) hopeless side word failed whole =
    go (λ spent. resumes os o.once side word
    (failed_at o.once side word os (Slot o.slot ∷ o.others) (o.text ++ o.left) failed.others
    (fails_there (fillings os) o failed.opens.free spent)
    (λ once. fails_further (fillings os) o failed.opens once spent))
    (ap (λ x. or_else x (of_stack os)) (sym (none_of_longer (fillings os) o spent)) ∙ whole))
    (hopeless && o.once) refl o.left refl
  where
    go : (IsSpent (fillings os) o → Tells side word (from_top (resume o.once os)))
        → (b : Bool) → (hopeless && o.once) ≡ b → (left : List ℕ) → o.left ≡ left
        → Tells side word (from_top (put_on (if b then None else grown o left) os (resume o.once os)))
    go later true e left is =
        let both = and_parts hopeless o.once e in
        later (where_hopeless (fillings os) o failed.opens both.1 (failed.further both.0))
    go later false e [] is = later (at_its_end (fillings os) o failed.opens is failed.here)
    go later false e (c ∷ cs) is = grows hopeless side word o os c cs is failed whole

-- where the pieces fail
falls_back : (side : List Piece) (word : List ℕ) (os : List Open) (pieces : List Piece) (rest : List ℕ)
    → IsUnderway side word (record { stack = os; pieces = pieces; rest = rest }) → fill (fillings os) pieces rest ≡ None
    → Tells side word (from_top (resume false os))
falls_back side word os pieces rest under none =
    resumes os false side word
    (failed_at false side word os pieces rest under.open_slots none (λ h. absurd cc))
    (ap (λ x. or_else x (of_stack os)) (sym none) ∙ under.whole)

-- where the first piece is passed
goes_on : (side : List Piece) (word : List ℕ) (os : List Open) (pieces : List Piece) (rest : List ℕ) (later : List Piece) (left : List ℕ)
    → IsUnderway side word (record { stack = os; pieces = pieces; rest = rest }) → Reaches (fillings os) pieces rest later left
    → IsUnderway side word (record { stack = os; pieces = later; rest = left })
goes_on side word os pieces rest later left under r = record {
  whole = ap (λ x. or_else x (of_stack os)) (sym r.same) ∙ under.whole;
  open_slots = onto side word os pieces rest later left under.open_slots r;
}

-- where it is a free slot
opens_slot : (side : List Piece) (word : List ℕ) (os : List Open) (slot : ℕ) (pieces : List Piece) (rest : List ℕ)
    → IsUnderway side word (record { stack = os; pieces = Slot slot ∷ pieces; rest = rest }) → text_in (fillings os) slot ≡ None
    → Tells side word (from_top (resume false (opened slot pieces rest ∷ os)))
opens_slot side word os slot pieces rest under free =
    resumes (opened slot pieces rest ∷ os) false side word
    (record {
      opens = record { free = free; single = once_is; failed = none_shorter };
      others = under.open_slots;
      here = λ some. absurd (omega arith);
      further = λ h. absurd cc;
    })
    (ap (λ o. or_else (at_slot (with_text (fillings os) slot pieces) (λ left. fill (fillings os) pieces left) o rest) (of_stack os)) (sym free) ∙ under.whole)
  where
    once_is : not (stands slot pieces) ≡ true → stands slot pieces ≡ false
    once_is e = go (stands slot pieces) refl e
      where
        go : (b : Bool) → stands slot pieces ≡ b → not b ≡ true → b ≡ false
        go true is e = absurd cc
        go false is e = refl

    none_shorter : (shorter more : List ℕ) → shorter ++ more ≡ [] → 1 ≤ length shorter → 1 ≤ length more
        → with_text (fillings os) slot pieces shorter (more ++ rest) ≡ None
    none_shorter shorter more e some some' =
        let long = length-append shorter more in
        let none : length (shorter ++ more) ≡ 0 = ap length e in
        absurd (omega arith)

pub step_tells : (side : List Piece) (word : List ℕ) (os : List Open) (pieces : List Piece) (rest : List ℕ)
    → IsUnderway side word (record { stack = os; pieces = pieces; rest = rest }) → Tells side word (step_at os pieces rest)
step_tells side word os [] [] under = sym under.whole
step_tells side word os [] (c ∷ cs) under = falls_back side word os [] (c ∷ cs) under refl
step_tells side word os (Letters letters ∷ pieces) rest under = go (behind letters rest) refl
  where
    go : (o : Option (List ℕ)) → behind letters rest ≡ o → Tells side word (go_behind os pieces o)
    go None e = falls_back side word os (Letters letters ∷ pieces) rest under (ap (λ o. and_then (λ left. fill (fillings os) pieces left) o) e)
    go (Some left) e = goes_on side word os (Letters letters ∷ pieces) rest pieces left under (past_letters (fillings os) letters pieces rest left e)
step_tells side word os (Slot slot ∷ pieces) rest under = go (text_in (fillings os) slot) refl
  where
    held : (text : List ℕ) → text_in (fillings os) slot ≡ Some text → (o : Option (List ℕ)) → behind text rest ≡ o → Tells side word (go_behind os pieces o)
    held text its None e =
        falls_back side word os (Slot slot ∷ pieces) rest under
        (ap (λ o. at_slot (with_text (fillings os) slot pieces) (λ left. fill (fillings os) pieces left) o rest) its
        ∙ ap (λ o. and_then (λ left. fill (fillings os) pieces left) o) e)
    held text its (Some left) e =
        goes_on side word os (Slot slot ∷ pieces) rest pieces left under (past_text (fillings os) slot text pieces rest left its e)

    go : (o : Option (List ℕ)) → text_in (fillings os) slot ≡ o → Tells side word (go_slot os slot pieces rest o)
    go None free = opens_slot side word os slot pieces rest under free
    go (Some text) its = held text its (behind text rest) refl

-- at first
pub at_first : (side : List Piece) (word : List ℕ) → IsUnderway side word (record { stack = []; pieces = side; rest = word })
at_first side word = record { whole = go (fill [] side word); open_slots = record { same = refl; nowhere = λ none. none } }
  where
    go : (o : Option (List Filling)) → or_else o None ≡ o
    go None = refl
    go (Some fs) = refl

resume_falls : (os : List Open) (hopeless : Bool) → steps_left (from_top (resume hopeless os)) ≤ steps_stack os
resume_falls [] hopeless = omega arith
resume_falls (o ∷ os) hopeless = go (resume_falls os o.once) (hopeless && o.once) o.left refl
  where
    go : steps_left (from_top (resume o.once os)) ≤ steps_stack os → (b : Bool) (left : List ℕ) → o.left ≡ left
        → steps_left (from_top (put_on (if b then None else grown o left) os (resume o.once os)))
        ≤ steps_longer (steps_with (fillings os) o.slot o.others) o.text o.left + steps_stack os
    go later true left is = omega arith
    go later false [] is = omega arith
    go later false (c ∷ cs) is =
        let longer = ap (λ l. steps_longer (steps_with (fillings os) o.slot o.others) o.text l) is in
        omega arith

pub step_falls : (os : List Open) (pieces : List Piece) (rest : List ℕ) → steps_left (step_at os pieces rest) ≤ steps (fillings os) pieces rest + steps_stack os
step_falls os [] [] = omega arith
step_falls os [] (c ∷ cs) = let later = resume_falls os false in omega arith
step_falls os (Letters letters ∷ pieces) rest = go (behind letters rest)
  where
    go : (o : Option (List ℕ)) → steps_left (go_behind os pieces o) ≤ suc (steps_behind (λ left. steps (fillings os) pieces left) o) + steps_stack os
    go None = let later = resume_falls os false in omega arith
    go (Some left) = omega arith
step_falls os (Slot slot ∷ pieces) rest = go (text_in (fillings os) slot)
  where
    held : (o : Option (List ℕ)) → steps_left (go_behind os pieces o) ≤ suc (steps_behind (λ left. steps (fillings os) pieces left) o) + steps_stack os
    held None = let later = resume_falls os false in omega arith
    held (Some left) = omega arith

    go : (o : Option (List ℕ)) → steps_left (go_slot os slot pieces rest o)
        ≤ suc (steps_slot (λ text left. steps (record { slot = slot; text = text } ∷ fillings os) pieces left) (λ left. steps (fillings os) pieces left) o rest) + steps_stack os
    go None = let later = resume_falls (opened slot pieces rest ∷ os) false in omega arith
    go (Some text) = held (behind text rest)

-- the same of whatever is equal to a step
pub step_keeps : (side : List Piece) (word : List ℕ) (st : State) (next : Step) → next ≡ step st → Tells side word (goes st) → Tells side word next
step_keeps side word st next e under = subst (λ s. Tells side word s) (sym e) (step_tells side word st.stack st.pieces st.rest under)

pub step_less : (st : State) (next : Step) → next ≡ step st → steps_left next < steps_left (goes st)
step_less st next e =
    let falls = step_falls st.stack st.pieces st.rest in
    let same = ap steps_left e in
    omega arith

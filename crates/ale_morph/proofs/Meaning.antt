-- What the search finds is the way to fit that is taken.
use Rattle.std.proofs.Common.{◌≡◌, ℕ, ◌≤◌, ◌⊎◌, inl, inr, Bool, true, false, if◌then◌else◌, eqb, Option, Some, None, List, [], ◌∷◌, ◌++◌, length, refl, sym, ap, ◌∙◌, subst}
use Rattle.std.proofs.lemmas.Bool.{eqb-true, eq-eqb}
use Rattle.ale_morph.specs.declared.line.Piece.{Piece}
use Rattle.ale_morph.specs.declared.line.Piece.TheVariants.{Letters, Slot}
use Rattle.ale_morph.specs.Fits.{spell, AreFull}
use Rattle.ale_morph.specs.Search.{Filling, text_in, text_or_none, texts_of, behind, and_then, at_slot, fill}
use Rattle.ale_morph.proofs.Prefixes.{behind_is}
use Rattle.ale_morph.proofs.Longer.{longer_sound}

-- each text has a character
abbrev pub HaveTexts : List Filling → Type 0
HaveTexts fs = (slot : ℕ) (text : List ℕ) → text_in fs slot ≡ Some text → 1 ≤ length text

-- the slot that was filled last has its text
pub its_text : (fs : List Filling) (slot : ℕ) (text : List ℕ) → text_in (record { slot = slot; text = text } ∷ fs) slot ≡ Some text
its_text fs slot text = rw (eq-eqb slot slot refl) refl

-- a text of one more slot, or one of those before
pub one_more : (fs : List Filling) (slot : ℕ) (text : List ℕ) (other : ℕ) (found : List ℕ) → text_in (record { slot = slot; text = text } ∷ fs) other ≡ Some found
    → ((slot ≡ other) × (text ≡ found)) ⊎ (text_in fs other ≡ Some found)
one_more fs slot text other found e = go (eqb slot other) refl e
  where
    go : (b : Bool) → eqb slot other ≡ b → (if b then Some text else text_in fs other) ≡ Some found → ((slot ≡ other) × (text ≡ found)) ⊎ (text_in fs other ≡ Some found)
    go true same e = inl (eqb-true slot other same, cc)
    go false different e = inr e

pub have_more : (fs : List Filling) (slot : ℕ) (text : List ℕ) → HaveTexts fs → 1 ≤ length text → HaveTexts (record { slot = slot; text = text } ∷ fs)
have_more fs slot text have some other one e = elim (one_more fs slot text other one e) [
  | inl same ↦ subst (λ t. 1 ≤ length t) same.1 some
  | inr before ↦ have other one before
]

-- a slot that was free is none of those before
stays_behind : (fs : List Filling) (slot : ℕ) (text : List ℕ) → text_in fs slot ≡ None → (other : ℕ) (found : List ℕ)
    → text_in fs other ≡ Some found → text_in (record { slot = slot; text = text } ∷ fs) other ≡ Some found
stays_behind fs slot text free other found e = go (eqb slot other) refl
  where
    go : (b : Bool) → eqb slot other ≡ b → (if b then Some text else text_in fs other) ≡ Some found
    go true same = let one = eqb-true slot other same in let two : text_in fs slot ≡ text_in fs other = ap (text_in fs) one in absurd cc
    go false different = e

-- the texts that were there stay, each slot has a character, and the pieces spell the characters
pub record IsSound (fs : List Filling) (pieces : List Piece) (rest : List ℕ) (found : List Filling) : Type 0 where
  pub stays : (slot : ℕ) (text : List ℕ) → text_in fs slot ≡ Some text → text_in found slot ≡ Some text
  pub full : AreFull (texts_of found) pieces
  pub spells : spell (texts_of found) pieces ≡ rest

pub sound : (pieces : List Piece) (fs : List Filling) (rest : List ℕ) (found : List Filling) → HaveTexts fs → fill fs pieces rest ≡ Some found → IsSound fs pieces rest found
sound [] fs [] found have e =
    let same : fs ≡ found = cc in
    record { stays = λ slot text h. subst (λ gs. text_in gs slot ≡ Some text) same h; full = tt; spells = refl }
sound [] fs (c ∷ cs) found have e = absurd cc
sound (Letters letters ∷ pieces) fs rest found have e = go (λ left. sound pieces fs left found have) (behind letters rest) refl e
  where
    go : ((left : List ℕ) → fill fs pieces left ≡ Some found → IsSound fs pieces left found)
        → (o : Option (List ℕ)) → behind letters rest ≡ o → and_then (λ left. fill fs pieces left) o ≡ Some found
        → IsSound fs (Letters letters ∷ pieces) rest found
    go later None none e = absurd cc
    go later (Some left) is e =
        let s = later left e in
        record { stays = s.stays; full = s.full; spells = ap (λ xs. letters ++ xs) s.spells ∙ sym (behind_is letters rest left is) }
sound (Slot slot ∷ pieces) fs rest found have e =
    go (λ left. sound pieces fs left found have)
    (λ text left some. sound pieces (record { slot = slot; text = text } ∷ fs) left found (have_more fs slot text have some))
    (text_in fs slot) refl e
  where
    with_its_text : (text left : List ℕ) → IsSound fs pieces left found → 1 ≤ length text → text_in found slot ≡ Some text → text ++ left ≡ rest → IsSound fs (Slot slot ∷ pieces) rest found
    with_its_text text left s some its whole =
        let same : texts_of found slot ≡ text = ap text_or_none its in
        record {
          stays = s.stays;
          full = (subst (λ t. 1 ≤ length t) (sym same) some, s.full);
          spells = ap (λ t. t ++ spell (texts_of found) pieces) same ∙ ap (λ xs. text ++ xs) s.spells ∙ whole;
        }

    held : ((left : List ℕ) → fill fs pieces left ≡ Some found → IsSound fs pieces left found)
        → (text : List ℕ) → text_in fs slot ≡ Some text
        → (o : Option (List ℕ)) → behind text rest ≡ o → and_then (λ left. fill fs pieces left) o ≡ Some found
        → IsSound fs (Slot slot ∷ pieces) rest found
    held later text its None none e = absurd cc
    held later text its (Some left) is e =
        let s = later left e in
        with_its_text text left s (have slot text its) (s.stays slot text its) (sym (behind_is text rest left is))

    go : ((left : List ℕ) → fill fs pieces left ≡ Some found → IsSound fs pieces left found)
        → ((text left : List ℕ) → 1 ≤ length text → fill (record { slot = slot; text = text } ∷ fs) pieces left ≡ Some found → IsSound (record { slot = slot; text = text } ∷ fs) pieces left found)
        → (o : Option (List ℕ)) → text_in fs slot ≡ o
        → at_slot (λ text left. fill (record { slot = slot; text = text } ∷ fs) pieces left) (λ left. fill fs pieces left) o rest ≡ Some found
        → IsSound fs (Slot slot ∷ pieces) rest found
    go later more (Some text) its e = held later text its (behind text rest) refl e
    go later more None free e =
        let l = longer_sound (λ text left. fill (record { slot = slot; text = text } ∷ fs) pieces left) [] rest found e in
        let s = more l.more l.left l.some l.gives in
        with_its_text l.more l.left
        (record { stays = λ other text h. s.stays other text (stays_behind fs slot l.more free other text h); full = s.full; spells = s.spells })
        l.some (s.stays slot l.more (its_text fs slot l.more)) l.whole

-- The text of a slot that stands nowhere in the pieces makes no difference to whether they fail.
use Rattle.std.proofs.Common.{◌≡◌, ℕ, Bool, true, false, if◌then◌else◌, eqb, Some, None, List, [], ◌∷◌, refl, ap, subst}
use Rattle.std.proofs.lemmas.Bool.{eqb-true, eq-eqb, or_left, or_right}
use Rattle.ale_morph.specs.declared.line.Piece.{Piece}
use Rattle.ale_morph.specs.declared.line.Piece.TheVariants.{Letters, Slot}
use Rattle.ale_morph.specs.Search.{Filling, text_in, behind, at_slot, fill}
use Rattle.ale_morph.specs.Bound.{stands}
use Rattle.ale_morph.specs.Underway.{with_text}
use Rattle.ale_morph.proofs.Longer.{then_alike, slot_alike}

-- the same texts for the slots of the pieces
abbrev Alike : List Filling → List Filling → List Piece → Type 0
Alike fs gs pieces = (slot : ℕ) → stands slot pieces ≡ true → text_in fs slot ≡ text_in gs slot

fails_alike : (pieces : List Piece) (fs gs : List Filling) (rest : List ℕ) → Alike fs gs pieces → fill fs pieces rest ≡ None → fill gs pieces rest ≡ None
fails_alike [] fs gs [] alike e = absurd cc
fails_alike [] fs gs (c ∷ cs) alike e = refl
fails_alike (Letters letters ∷ pieces) fs gs rest alike e =
    then_alike (λ left. fill fs pieces left) (λ left. fill gs pieces left) (λ left e. fails_alike pieces fs gs left alike e) (behind letters rest) e
fails_alike (Slot slot ∷ pieces) fs gs rest alike e =
    subst (λ o. at_slot (λ text left. fill (record { slot = slot; text = text } ∷ gs) pieces left) (λ left. fill gs pieces left) o rest ≡ None)
    (alike slot (or_left (eqb slot slot) (stands slot pieces) (eq-eqb slot slot refl)))
    (slot_alike
    (λ text left. fill (record { slot = slot; text = text } ∷ fs) pieces left) (λ text left. fill (record { slot = slot; text = text } ∷ gs) pieces left)
    (λ left. fill fs pieces left) (λ left. fill gs pieces left)
    (λ text left e. fails_alike pieces (record { slot = slot; text = text } ∷ fs) (record { slot = slot; text = text } ∷ gs) left (more text) e)
    (λ left e. fails_alike pieces fs gs left later e)
    (text_in fs slot) rest e)
  where
    later : (other : ℕ) → stands other pieces ≡ true → text_in fs other ≡ text_in gs other
    later other s = alike other (or_right (eqb slot other) (stands other pieces) s)

    more : (text : List ℕ) (other : ℕ) → stands other pieces ≡ true → (if eqb slot other then Some text else text_in fs other) ≡ (if eqb slot other then Some text else text_in gs other)
    more text other s = go (eqb slot other)
      where
        go : (b : Bool) → (if b then Some text else text_in fs other) ≡ (if b then Some text else text_in gs other)
        go true = refl
        go false = later other s

pub unneeded : (fs : List Filling) (slot : ℕ) (others : List Piece) → stands slot others ≡ false → (text other left : List ℕ)
    → with_text fs slot others text left ≡ None → with_text fs slot others other left ≡ None
unneeded fs slot others nowhere text other left e =
    fails_alike others (record { slot = slot; text = text } ∷ fs) (record { slot = slot; text = other } ∷ fs) left alike e
  where
    alike : (one : ℕ) → stands one others ≡ true → (if eqb slot one then Some text else text_in fs one) ≡ (if eqb slot one then Some other else text_in fs one)
    alike one s = go (eqb slot one) refl
      where
        go : (b : Bool) → eqb slot one ≡ b → (if b then Some text else text_in fs one) ≡ (if b then Some other else text_in fs one)
        go true same = let e = eqb-true slot one same in let t : stands slot others ≡ stands one others = ap (λ n. stands n others) e in absurd cc
        go false different = refl

-- Where the pieces fit, the search finds the way that is taken.
use Rattle.std.proofs.Common.{◌≡◌, ℕ, ◌<◌, ◌⊎◌, inl, inr, Option, Some, None, List, [], ◌∷◌, ◌++◌, length, refl, sym, ap, ◌∙◌, subst}
use Rattle.ale_morph.specs.declared.line.Piece.{Piece}
use Rattle.ale_morph.specs.declared.line.Piece.TheVariants.{Letters, Slot}
use Rattle.ale_morph.specs.declared.line.Line.{Line}
use Rattle.ale_morph.specs.Fits.{Texts, spell, AreFull, Fits, NoLonger, IsTaken, Becomes}
use Rattle.ale_morph.specs.Search.{Filling, text_in, text_or_none, texts_of, or_else, at_slot, fill, spell_with, becomes}
use Rattle.ale_morph.proofs.Prefixes.{behind_append}
use Rattle.ale_morph.proofs.Longer.{longer_least}
use Rattle.ale_morph.proofs.Meaning.{HaveTexts, sound, one_more, have_more, its_text}

-- the search finds texts that are no longer than these
record Finds (fs : List Filling) (pieces : List Piece) (rest : List ℕ) (others : Texts) : Type 0 where
  found : List Filling
  finds : fill fs pieces rest ≡ Some found
  least : NoLonger (texts_of found) others pieces

-- the slots that have texts have these
abbrev Agree : List Filling → Texts → Type 0
Agree fs others = (slot : ℕ) (text : List ℕ) → text_in fs slot ≡ Some text → others slot ≡ text

complete : (pieces : List Piece) (fs : List Filling) (others : Texts) → HaveTexts fs → Agree fs others → AreFull others pieces → Finds fs pieces (spell others pieces) others
complete [] fs others have agree full = record { found = fs; finds = refl; least = tt }
complete (Letters letters ∷ pieces) fs others have agree full =
    let later = complete pieces fs others have agree full in
    record { found = later.found; finds = rw (behind_append letters (spell others pieces)) later.finds; least = later.least }
complete (Slot slot ∷ pieces) fs others have agree full =
    go (complete pieces fs others have agree full.1)
    (λ free. complete pieces (record { slot = slot; text = others slot } ∷ fs) others (have_more fs slot (others slot) have full.0) agree_more full.1)
    (text_in fs slot) refl
  where
    agree_more : (other : ℕ) (text : List ℕ) → text_in (record { slot = slot; text = others slot } ∷ fs) other ≡ Some text → others other ≡ text
    agree_more other text e = elim (one_more fs slot (others slot) other text e) [
      | inl same ↦ ap others (sym same.0) ∙ same.1
      | inr before ↦ agree other text before
    ]

    free : List ℕ → List ℕ → Option (List Filling)
    free text left = fill (record { slot = slot; text = text } ∷ fs) pieces left

    held : List ℕ → Option (List Filling)
    held left = fill fs pieces left

    go : Finds fs pieces (spell others pieces) others
        → (text_in fs slot ≡ None → Finds (record { slot = slot; text = others slot } ∷ fs) pieces (spell others pieces) others)
        → (o : Option (List ℕ)) → text_in fs slot ≡ o
        → Finds fs (Slot slot ∷ pieces) (others slot ++ spell others pieces) others
    go later more (Some text) its =
        let s = sound pieces fs (spell others pieces) later.found have later.finds in
        let same : texts_of later.found slot ≡ others slot = ap text_or_none (s.stays slot text its) ∙ sym (agree slot text its) in
        record {
          found = later.found;
          finds = subst (λ o. at_slot free held o (others slot ++ spell others pieces) ≡ Some later.found) (ap Some (agree slot text its) ∙ sym its)
              (rw (behind_append (others slot) (spell others pieces)) later.finds);
          least = inr (ap length same, later.least);
        }
    go later more None empty =
        let m = more empty in
        let l = longer_least free [] (others slot) (spell others pieces) m.found full.0 m.finds in
        record {
          found = l.found;
          finds = subst (λ o. at_slot free held o (others slot ++ spell others pieces) ≡ Some l.found) (sym empty) l.finds;
          least = elim l.least [
            | inl s ↦
                let its = (sound pieces (record { slot = slot; text = s.0 } ∷ fs) s.1 l.found (have_more fs slot s.0 have s.4) s.2).stays slot s.0 (its_text fs slot s.0) in
                inl (subst (λ t. length t < length (others slot)) (sym (ap text_or_none its)) s.3)
            | inr same ↦
                let its = (sound pieces (record { slot = slot; text = others slot } ∷ fs) (spell others pieces) m.found (have_more fs slot (others slot) have full.0) m.finds).stays slot (others slot) (its_text fs slot (others slot)) in
                inr (ap (λ gs. length (texts_of gs slot)) same ∙ ap (λ o. length (text_or_none o)) its, subst (λ gs. NoLonger (texts_of gs) others pieces) (sym same) m.least)
          ];
        }

none_have : HaveTexts []
none_have slot text e = absurd cc

none_agree : (others : Texts) → Agree [] others
none_agree others slot text e = absurd cc

finds : (left : List Piece) (word : List ℕ) (others : Texts) → Fits left word others → Finds [] left word others
finds left word others fits =
    subst (λ w. Finds [] left w others) fits.spells (complete left [] others none_have (none_agree others) fits.full)

taken : (left : List Piece) (word : List ℕ) (found : List Filling) → fill [] left word ≡ Some found → IsTaken left word (texts_of found)
taken left word found e =
    let s = sound left [] word found none_have e in
    record {
      fits = record { full = s.full; spells = s.spells };
      least = λ others fits.
          let f = finds left word others fits in
          let answer = f.finds in
          let same : f.found ≡ found = cc in
          subst (λ gs. NoLonger (texts_of gs) others left) same f.least;
    }

unfit : (left : List Piece) (word : List ℕ) → fill [] left word ≡ None → (texts : Texts) → Fits left word texts → ⊥
unfit left word e texts fits =
    let f = finds left word texts fits in
    let answer = f.finds in
    absurd cc

pub becomes_meant : (lines : List Line) (word : List ℕ) → Becomes lines word (becomes lines word)
becomes_meant [] word = refl
becomes_meant (line ∷ lines) word = go (becomes_meant lines word) (fill [] line.left word) refl
  where
    go : Becomes lines word (becomes lines word) → (o : Option (List Filling)) → fill [] line.left word ≡ o
        → ((texts : Texts) × IsTaken line.left word texts × (or_else (spell_with line.right o) (becomes lines word) ≡ Some (spell texts line.right)))
        ⊎ (((texts : Texts) → Fits line.left word texts → ⊥) × Becomes lines word (or_else (spell_with line.right o) (becomes lines word)))
    go later (Some found) e = inl (texts_of found, taken line.left word found e, refl)
    go later None e = inr (unfit line.left word e, later)

-- There is one way to fit that is taken, and so one word that a word becomes.
use Rattle.std.proofs.Common.{◌≡◌, ℕ, ◌<◌, ◌⊎◌, inl, inr, true, eqb, Option, Some, List, [], ◌∷◌, ◌++◌, length, refl, sym, ap, ◌∙◌, subst, arith}
use Rattle.std.proofs.lemmas.List.{append_cancel_left}
use Rattle.std.proofs.lemmas.Bool.{eqb-true, or_cases, and_parts}
use Rattle.ale_morph.specs.declared.line.Piece.{Piece}
use Rattle.ale_morph.specs.declared.line.Piece.TheVariants.{Letters, Slot}
use Rattle.ale_morph.specs.declared.line.Line.{Line}
use Rattle.ale_morph.specs.Fits.{Texts, spell, NoLonger, IsTaken, Becomes}
use Rattle.ale_morph.specs.Bound.{stands, stand_in, is_bound, are_bound}
use Rattle.ale_morph.proofs.Prefixes.{cut}

-- two ways to spell one word, neither longer than the other, are the same text for each slot
same_texts : (pieces : List Piece) (one two : Texts) → spell one pieces ≡ spell two pieces → NoLonger one two pieces → NoLonger two one pieces
    → (slot : ℕ) → stands slot pieces ≡ true → one slot ≡ two slot
same_texts [] one two e up down slot s = absurd cc
same_texts (Letters letters ∷ pieces) one two e up down slot s =
    same_texts pieces one two (append_cancel_left letters (spell one pieces) (spell two pieces) e) up down slot s
same_texts (Slot first ∷ pieces) one two e up down slot s = go up down
    (λ same up down. let both = cut (one first) (spell one pieces) (two first) (spell two pieces) e same in
    elim (or_cases (eqb first slot) (stands slot pieces) s) [
      | inl here ↦ subst (λ n. one n ≡ two n) (eqb-true first slot here) both.0
      | inr there ↦ same_texts pieces one two both.1 up down slot there
    ])
  where
    go : (length (one first) < length (two first)) ⊎ ((length (one first) ≡ length (two first)) × NoLonger one two pieces)
        → (length (two first) < length (one first)) ⊎ ((length (two first) ≡ length (one first)) × NoLonger two one pieces)
        → (length (one first) ≡ length (two first) → NoLonger one two pieces → NoLonger two one pieces → one slot ≡ two slot)
        → one slot ≡ two slot
    go (inl less) (inl more) k = absurd (omega arith)
    go (inl less) (inr same) k = let e = same.0 in absurd (omega arith)
    go (inr same) (inl more) k = let e = same.0 in absurd (omega arith)
    go (inr same) (inr again) k = k same.0 same.1 again.1

same_spelling : (right left : List Piece) (one two : Texts) → stand_in right left ≡ true → ((slot : ℕ) → stands slot left ≡ true → one slot ≡ two slot)
    → spell one right ≡ spell two right
same_spelling [] left one two bound same = refl
same_spelling (Letters letters ∷ right) left one two bound same = ap (λ xs. letters ++ xs) (same_spelling right left one two bound same)
same_spelling (Slot slot ∷ right) left one two bound same =
    let both = and_parts (stands slot left) (stand_in right left) bound in
    ap (λ t. t ++ spell one right) (same slot both.0) ∙ ap (λ xs. two slot ++ xs) (same_spelling right left one two both.1 same)

one_line : (line : Line) (word : List ℕ) (one two : Texts) → is_bound line ≡ true → IsTaken line.left word one → IsTaken line.left word two
    → spell one line.right ≡ spell two line.right
one_line line word one two bound o t =
    same_spelling line.right line.left one two bound
    (same_texts line.left one two (o.fits.spells ∙ sym t.fits.spells) (o.least two t.fits) (t.least one o.fits))

pub one_by_one : (lines : List Line) (word : List ℕ) (one two : Option (List ℕ)) → are_bound lines ≡ true → Becomes lines word one → Becomes lines word two → one ≡ two
one_by_one [] word one two bound o t = o ∙ sym t
one_by_one (line ∷ lines) word one two bound o t =
    let both = and_parts (is_bound line) (are_bound lines) bound in
    elim o [
      | inl here ↦ elim t [
        | inl there ↦ here.2 ∙ ap Some (one_line line word here.0 there.0 both.0 here.1 there.1) ∙ sym there.2
        | inr unfit ↦ absurd (unfit.0 here.0 here.1.fits)
      ]
      | inr unfit ↦ elim t [
        | inl there ↦ absurd (unfit.0 there.0 there.1.fits)
        | inr later ↦ one_by_one lines word one two both.1 unfit.1 later.1
      ]
    ]

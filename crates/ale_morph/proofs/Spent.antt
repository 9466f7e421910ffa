-- Open slots with which nothing more is found.
use Rattle.std.proofs.Common.{◌≡◌, ℕ, ◌≤◌, inl, inr, true, None, List, [], ◌∷◌, ◌++◌, length, length-append, take, drop, append_assoc, sym, ap, ◌∙◌, subst, arith}
use Rattle.std.proofs.lemmas.List.{append-nil, take-append-drop}
use Rattle.std.proofs.Math.Seq.{drop-append_seam}
use Rattle.ale_morph.specs.declared.line.Piece.TheVariants.{Slot}
use Rattle.ale_morph.specs.Search.{Filling, text_in, at_slot, fill}
use Rattle.ale_morph.specs.Stack.{Open}
use Rattle.ale_morph.specs.Underway.{with_text, of_longer, IsOpen}
use Rattle.ale_morph.proofs.Prefixes.{cuts}
use Rattle.ale_morph.proofs.Longer.{none_longer}
use Rattle.ale_morph.proofs.Unneeded.{unneeded}

-- with each text at the place of the slot the pieces behind it fail
pub record IsSpent (fs : List Filling) (o : Open) : Type 0 where
  pub each : (text left : List ℕ) → text ++ left ≡ o.text ++ o.left → 1 ≤ length text → with_text fs o.slot o.others text left ≡ None

-- longer texts give nothing
pub none_of_longer : (fs : List Filling) (o : Open) → IsSpent fs o → of_longer fs o ≡ None
none_of_longer fs o spent = none_longer (with_text fs o.slot o.others) o.text o.left
    (λ more left e some.
    let long = length-append o.text more in
    spent.each (o.text ++ more) left (append_assoc o.text more left ∙ ap (λ xs. o.text ++ xs) e) (omega arith))

-- the slot and the pieces behind it fail at its place
pub fails_there : (fs : List Filling) (o : Open) → text_in fs o.slot ≡ None → IsSpent fs o → fill fs (Slot o.slot ∷ o.others) (o.text ++ o.left) ≡ None
fails_there fs o free spent =
    subst (λ t. at_slot (with_text fs o.slot o.others) (λ left. fill fs o.others left) t (o.text ++ o.left) ≡ None) (sym free)
    (none_longer (with_text fs o.slot o.others) [] (o.text ++ o.left) (λ more left e some. spent.each more left e some))

-- where the slot stands once, they fail at every later place
pub fails_further : (fs : List Filling) (o : Open) → IsOpen fs o → o.once ≡ true → IsSpent fs o → (n : ℕ) → fill fs (Slot o.slot ∷ o.others) (drop n (o.text ++ o.left)) ≡ None
fails_further fs o opens once spent n =
    subst (λ t. at_slot (with_text fs o.slot o.others) (λ left. fill fs o.others left) t (drop n (o.text ++ o.left)) ≡ None) (sym opens.free)
    (none_longer (with_text fs o.slot o.others) [] (drop n (o.text ++ o.left))
    (λ more left e some.
    let long = length-append (take n (o.text ++ o.left)) more in
    let whole = append_assoc (take n (o.text ++ o.left)) more left ∙ ap (λ xs. take n (o.text ++ o.left) ++ xs) e ∙ take-append-drop n (o.text ++ o.left) in
    unneeded fs o.slot o.others (opens.single once) (take n (o.text ++ o.left) ++ more) more left
    (spent.each (take n (o.text ++ o.left) ++ more) left whole (omega arith))))

-- at the end of the word
pub at_its_end : (fs : List Filling) (o : Open) → IsOpen fs o → o.left ≡ [] → (1 ≤ length o.text → with_text fs o.slot o.others o.text o.left ≡ None) → IsSpent fs o
at_its_end fs o opens end here = record { each = each }
  where
    by_left : (text left : List ℕ) → text ++ left ≡ o.text → 1 ≤ length text → with_text fs o.slot o.others text left ≡ None
    by_left text [] e some =
        subst (λ t. with_text fs o.slot o.others t [] ≡ None) (sym e ∙ append-nil text)
        (subst (λ l. with_text fs o.slot o.others o.text l ≡ None) end (here (subst (λ t. 1 ≤ length t) (sym (append-nil text) ∙ e) some)))
    by_left text (c ∷ cs) e some =
        subst (λ l. with_text fs o.slot o.others text l ≡ None) (ap (λ l. c ∷ cs ++ l) end ∙ append-nil (c ∷ cs)) (opens.failed text (c ∷ cs) e some (omega arith))

    each : (text left : List ℕ) → text ++ left ≡ o.text ++ o.left → 1 ≤ length text → with_text fs o.slot o.others text left ≡ None
    each text left e some = by_left text left (e ∙ ap (λ l. o.text ++ l) end ∙ append-nil o.text) some

-- where it stands once, and the pieces behind it fail at every later place
pub where_hopeless : (fs : List Filling) (o : Open) → IsOpen fs o → o.once ≡ true → ((n : ℕ) → with_text fs o.slot o.others o.text (drop n o.left) ≡ None) → IsSpent fs o
where_hopeless fs o opens once nowhere = record { each = each }
  where
    each : (text left : List ℕ) → text ++ left ≡ o.text ++ o.left → 1 ≤ length text → with_text fs o.slot o.others text left ≡ None
    each text left e some = elim (cuts text left o.text o.left e) [
      | inl s ↦ subst (λ l. with_text fs o.slot o.others text l ≡ None) (sym s.2) (opens.failed text s.0 (sym s.1) some s.3)
      | inr s ↦
          let there = nowhere (length s.0) in
          let behind = ap (drop (length s.0)) s.2 ∙ drop-append_seam s.0 left in
          unneeded fs o.slot o.others (opens.single once) o.text text left (subst (λ l. with_text fs o.slot o.others o.text l ≡ None) behind there)
    ]

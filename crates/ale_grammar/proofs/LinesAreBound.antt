-- Slots of the right side of a line stand in its left side, where what is read says so.
use Rattle.std.proofs.Common.{◌≡◌, ℕ, suc, Bool, true, false, List, [], ◌∷◌, ◌++◌, map, refl, sym, ap, ◌∙◌, subst, inl, inr}
use Rattle.std.specs.Prelude.{eqb, ◌||◌, ◌&&◌, not, if◌then◌else◌}
use Rattle.std.proofs.lemmas.Bool.{cases_Bool, both_ways, eq-eqb}
use Rattle.ale_relation.specs.Has.{Has}
use Rattle.ale_declared.specs.Names.{same_name, is_named, number}
use Rattle.ale_declared.proofs.ListLemmas.{Has-append_left, Has-append_right}
use Rattle.ale_declared.proofs.NumberLemmas.{same_name_to, same_name_from, is_named_has, is_named_from}
use Rattle.ale_declaration.specs.Forms as forms
use Rattle.ale_declaration.specs.declared.declaration.LinePart.{LinePart}
use Rattle.ale_declaration.specs.declared.declaration.LinePart.TheVariants as written
use Rattle.ale_declaration.specs.declared.declaration.MorphLine.{MorphLine}
use Rattle.ale_declaration.specs.declared.declaration.Declaration.{Declaration}
use Rattle.ale_declaration.specs.Declarations.{declaration_data}
use Rattle.ale_morph.specs.declared.line.Piece.{Piece}
use Rattle.ale_morph.specs.Bound.{stands, stand_in, is_bound, are_bound, AreBound}
use Rattle.ale_describe.specs.Variables.{anonymous, is_anonymous, slot_of, with_variable}
use Rattle.ale_grammar.specs.Lines.{side_after, line_of}
use Rattle.ale_grammar.specs.Assembling.{AreBoundLines, HasBoundLines, HaveBoundLines}

-- a name keeps its number where others come behind
number_kept : (vs us : List (List ℕ)) (x : List ℕ) → Has vs x → number (vs ++ us) x ≡ number vs x
number_kept [] us x has = absurd has
number_kept (v ∷ vs) us x has = elim (cases_Bool (same_name x v)) [
  | inl t ↦ rw t refl
  | inr f ↦ rw f (ap suc (number_kept vs us x (elsewhere has f)))
]
  where
    elsewhere : Has (v ∷ vs) x → same_name x v ≡ false → Has vs x
    elsewhere (inl e) f = absurd (both_ways (same_name x v) f (same_name_from x v e))
    elsewhere (inr more) f = more

-- it has the number that it gets as the next one
number_next : (vs : List (List ℕ)) (x : List ℕ) → number (vs ++ x ∷ []) x ≡ number vs x
number_next [] x = rw (same_name_from x x refl) refl
number_next (v ∷ vs) x = elim (cases_Bool (same_name x v)) [ inl t ↦ rw t refl | inr f ↦ rw f (ap suc (number_next vs x)) ]

-- what variables have it, with the number that it has among these
pub record Keeps (vs us : List (List ℕ)) (x : List ℕ) : Type 0 where
  pub has : Has us x
  pub same : number us x ≡ number vs x

not_anonymous : (x : List ℕ) → (x ≡ anonymous → ⊥) → is_anonymous x ≡ false
not_anonymous x other = elim (cases_Bool (is_anonymous x)) [ inl t ↦ absurd (other (same_name_to x anonymous t)) | inr f ↦ f ]

with_kept : (vs : List (List ℕ)) (y x : List ℕ) → Has vs x → Keeps vs (with_variable vs y) x
with_kept vs y x has = go (is_anonymous y || not (is_named y vs))
  where
    go : (b : Bool) → Keeps vs (if b then vs ++ y ∷ [] else vs) x
    go true = record { has = Has-append_left vs (y ∷ []) x has; same = number_kept vs (y ∷ []) x has }
    go false = record { has = has; same = refl }

with_own : (vs : List (List ℕ)) (x : List ℕ) → is_anonymous x ≡ false → Keeps vs (with_variable vs x) x
with_own vs x plain = elim (cases_Bool (is_named x vs)) [
  | inl t ↦ rw plain (rw t (record { has = is_named_has x vs t; same = refl }))
  | inr f ↦ rw plain (rw f (record { has = Has-append_right vs (x ∷ []) x (inl refl); same = number_next vs x }))
]

side_kept : (vs : List (List ℕ)) (ps : List LinePart) (x : List ℕ) → Has vs x → Keeps vs (side_after vs ps).1 x
side_kept vs [] x has = record { has = has; same = refl }
side_kept vs (written.Piece n ∷ ps) x has = side_kept vs ps x has
side_kept vs (written.Slot y ∷ ps) x has =
    let one = with_kept vs y x has in
    let more = side_kept (with_variable vs y) ps x one.has in
    record { has = more.has; same = more.same ∙ one.same }

slot_is : (vs : List (List ℕ)) (x : List ℕ) → is_anonymous x ≡ false → slot_of vs x ≡ number vs x
slot_is vs x plain = rw plain refl

with_is : (vs : List (List ℕ)) (x : List ℕ) → is_anonymous x ≡ false → Has vs x → with_variable vs x ≡ vs
with_is vs x plain has = rw plain (rw (is_named_from x vs has) refl)

same_slot : (x y : List ℕ) → written.Slot x ≡ written.Slot y → x ≡ y
same_slot x y e = cc

no_letters : (x n : List ℕ) → written.Slot x ≡ written.Piece n → ⊥
no_letters x n e = absurd cc

eqb_same : (a b : ℕ) → a ≡ b → eqb a b ≡ true
eqb_same a b e = eq-eqb a b e

or_right : (a b : Bool) → b ≡ true → (a || b) ≡ true
or_right true b e = refl
or_right false b e = e

or_left : (a b : Bool) → a ≡ true → (a || b) ≡ true
or_left true b e = refl
or_left false b e = absurd cc

-- a variable of the left side is among those behind it, and its number stands in the left side
pub record Stands (us : List (List ℕ)) (ps : List Piece) (x : List ℕ) : Type 0 where
  pub has : Has us x
  pub stands : stands (number us x) ps ≡ true

left_stands : (vs : List (List ℕ)) (ps : List LinePart) (x : List ℕ) → is_anonymous x ≡ false → Has ps (written.Slot x) →
    Stands (side_after vs ps).1 (side_after vs ps).0 x
left_stands vs [] x plain has = absurd has
left_stands vs (written.Piece n ∷ ps) x plain (inl e) = absurd (no_letters x n e)
left_stands vs (written.Piece n ∷ ps) x plain (inr more) =
    let rest = left_stands vs ps x plain more in
    record { has = rest.has; stands = rest.stands }
left_stands vs (written.Slot y ∷ ps) x plain (inr more) =
    let rest = left_stands (with_variable vs y) ps x plain more in
    let us : List (List ℕ) = (side_after (with_variable vs y) ps).1 in
    record {
      has = rest.has;
      stands = or_right (eqb (slot_of vs y) (number us x)) (stands (number us x) (side_after (with_variable vs y) ps).0) rest.stands;
    }
left_stands vs (written.Slot y ∷ ps) x plain (inl e) =
    subst (λ z. Stands (side_after vs (written.Slot z ∷ ps)).1 (side_after vs (written.Slot z ∷ ps)).0 x) (same_slot x y e) own
  where
    us : List (List ℕ)
    us = (side_after (with_variable vs x) ps).1

    own : Stands (side_after vs (written.Slot x ∷ ps)).1 (side_after vs (written.Slot x ∷ ps)).0 x
    own =
        let one = with_own vs x plain in
        let more = side_kept (with_variable vs x) ps x one.has in
        let same : slot_of vs x ≡ number (side_after (with_variable vs x) ps).1 x = slot_is vs x plain ∙ sym (more.same ∙ one.same) in
        record {
          has = more.has;
          stands = or_left (eqb (slot_of vs x) (number (side_after (with_variable vs x) ps).1 x)) (stands (number (side_after (with_variable vs x) ps).1 x) (side_after (with_variable vs x) ps).0)
              (eqb_same (slot_of vs x) (number (side_after (with_variable vs x) ps).1 x) same);
        }

both_true : (a b : Bool) → a ≡ true → b ≡ true → (a && b) ≡ true
both_true true b e h = h
both_true false b e h = absurd cc

right_stands : (us : List (List ℕ)) (pieces : List Piece) (qs : List LinePart) →
    ((x : List ℕ) → Has qs (written.Slot x) → (is_anonymous x ≡ false) × Stands us pieces x) → stand_in (side_after us qs).0 pieces ≡ true
right_stands us pieces [] told = refl
right_stands us pieces (written.Piece n ∷ qs) told = right_stands us pieces qs (λ x has. told x (inr has))
right_stands us pieces (written.Slot x ∷ qs) told =
    let here = told x (inl refl) in
    both_true (stands (slot_of us x) pieces) (stand_in (side_after (with_variable us x) qs).0 pieces)
    (ap (λ n. stands n pieces) (slot_is us x here.0) ∙ here.1.stands)
    (ap (λ vs. stand_in (side_after vs qs).0 pieces) (with_is us x here.0 here.1.has) ∙ right_stands us pieces qs (λ y has. told y (inr has)))

line_bound : (l : MorphLine) → forms.IsBound l.left l.right → is_bound (line_of l) ≡ true
line_bound l told = right_stands (side_after [] l.left).1 (side_after [] l.left).0 l.right each
  where
    each : (x : List ℕ) → Has l.right (written.Slot x) → (is_anonymous x ≡ false) × Stands (side_after [] l.left).1 (side_after [] l.left).0 x
    each x has =
        let plain : is_anonymous x ≡ false = not_anonymous x (told x has).0 in
        (plain, left_stands [] l.left x plain (told x has).1)

all_bound : (ls : List MorphLine) → AreBoundLines ls → are_bound (map line_of ls) ≡ true
all_bound [] told = refl
all_bound (l ∷ ls) told = both_true (is_bound (line_of l)) (are_bound (map line_of ls)) (line_bound l told.0) (all_bound ls told.1)

pub lines_bound : (ls : List MorphLine) → AreBoundLines ls → AreBound (map line_of ls)
lines_bound ls told = let e = all_bound ls told in cc

-- declarations that are read one after another
pub bound_after : (xs : List Declaration) (x : Declaration) → HaveBoundLines (map declaration_data xs) → HasBoundLines (declaration_data x) →
    HaveBoundLines (map declaration_data (xs ++ x ∷ []))
bound_after [] x all one = (one, tt)
bound_after (y ∷ ys) x all one = (all.0, bound_after ys x all.1 one)

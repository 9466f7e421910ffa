-- The passes that find the tags give the tags of the text.
use Rattle.std.proofs.Common.{◌≡◌, ℕ, zero, suc, ◌+◌, ◌<◌, Bool, true, false, ◌||◌, eqb, List, [], ◌∷◌, length, get_or, set, replicate, refl, sym, ap, ◌∙◌, subst, arith, add-one}
use Rattle.std.specs.Prelude.{if◌then◌else◌}
use Rattle.std.proofs.lemmas.List.{get_or-set_same, get_or-set_other, length-set}
use Rattle.std.proofs.lemmas.Bool.{and_parts, eq-eqb, eqb-true, ltb-true}
use Rattle.ale_declared.specs.Lists.{every}
use Rattle.ale_print.specs.declared.line.Shown.{Shown}
use Rattle.ale_print.specs.declared.line.Shown.TheVariants.{Unbound, First, Again}
use Rattle.ale_print.specs.declared.line.Line.{Line}
use Rattle.ale_print.specs.Walking.{shows_first, is_met}
use Rattle.ale_print.specs.Tagging.{shows_again, is_met_again, is_in_pair, is_tagged, first_met, met_in_order, number_from, tag_in}
use Rattle.ale_print.specs.Steps.{IsNew, AreOnce, is_shown_below, flag_shown, flag_lines, flag_pairs, Tags, give, tag_shown, tag_lines}
use Rattle.ale_print.proofs.Underway.{none_flagged, length_replicate}

-- a flag that is set

false_true : false ≡ true → ⊥
false_true e = absurd cc

differ : (n m : ℕ) → eqb n m ≡ false → n ≡ m → ⊥
differ n m e same = false_true (sym e ∙ eq-eqb n m same)

set_at : {A : Type 0} (xs : List A) (m n : ℕ) (x d : A) → n < length xs → get_or (set xs m x) n d ≡ (if eqb n m then x else get_or xs n d)
set_at xs m n x d low = go (eqb n m) refl
  where
    go : (b : Bool) → eqb n m ≡ b → get_or (set xs m x) n d ≡ (if b then x else get_or xs n d)
    go true e =
        let same = eqb-true n m e in
        ap (λ k. get_or (set xs k x) n d) (sym same) ∙ get_or-set_same xs n x d low
    go false e = get_or-set_other xs m n x d (differ n m e)

flag_at : (flags : List Bool) (m n : ℕ) → n < length flags → get_or (set flags m true) n false ≡ (eqb n m || get_or flags n false)
flag_at flags m n low = set_at flags m n true false low ∙ go (eqb n m)
  where
    go : (b : Bool) → (if b then true else get_or flags n false) ≡ (b || get_or flags n false)
    go true = refl
    go false = refl

shown_at : (x : Shown) (flags : List Bool) (n : ℕ) → n < length flags → get_or (flag_shown x flags) n false ≡ (shows_again n x || get_or flags n false)
shown_at Unbound flags n low = refl
shown_at (First m) flags n low = refl
shown_at (Again m) flags n low = flag_at flags m n low

shown_length : (x : Shown) (flags : List Bool) → length (flag_shown x flags) ≡ length flags
shown_length Unbound flags = refl
shown_length (First m) flags = refl
shown_length (Again m) flags = length-set flags m true

lines_length : (ls : List Line) (flags : List Bool) → length (flag_lines ls flags) ≡ length flags
lines_length [] flags = refl
lines_length (l ∷ ls) flags = lines_length ls (flag_shown l.shown flags) ∙ shown_length l.shown flags

swap : (a b f : Bool) → (a || (b || f)) ≡ ((b || a) || f)
swap true true f = refl
swap true false f = refl
swap false true f = refl
swap false false f = refl

lines_at : (ls : List Line) (flags : List Bool) (n : ℕ) → n < length flags → get_or (flag_lines ls flags) n false ≡ (is_met_again ls n || get_or flags n false)
lines_at [] flags n low = refl
lines_at (l ∷ ls) flags n low =
    lines_at ls (flag_shown l.shown flags) n (subst (λ k. n < k) (sym (shown_length l.shown flags)) low)
    ∙ ap (λ b. is_met_again ls n || b) (shown_at l.shown flags n low)
    ∙ swap (is_met_again ls n) (shows_again n l.shown) (get_or flags n false)

swap_two : (a b c f : Bool) → (a || (c || (b || f))) ≡ (((b || c) || a) || f)
swap_two true true c f = refl
swap_two true false true f = refl
swap_two true false false f = refl
swap_two false true true f = refl
swap_two false true false f = refl
swap_two false false true f = refl
swap_two false false false f = refl

pairs_at : (ps : List (ℕ × ℕ)) (flags : List Bool) (n : ℕ) → n < length flags → get_or (flag_pairs ps flags) n false ≡ (is_in_pair ps n || get_or flags n false)
pairs_at [] flags n low = refl
pairs_at (p ∷ ps) flags n low =
    let one = length-set flags p.0 true in
    let two = length-set (set flags p.0 true) p.1 true in
    pairs_at ps (set (set flags p.0 true) p.1 true) n (omega arith)
    ∙ ap (λ b. is_in_pair ps n || b) (flag_at (set flags p.0 true) p.1 n (omega arith) ∙ ap (λ b. eqb n p.1 || b) (flag_at flags p.0 n low))
    ∙ swap_two (is_in_pair ps n) (eqb n p.0) (eqb n p.1) (get_or flags n false)

turn : (a b : Bool) → (b || (a || false)) ≡ (a || b)
turn true true = refl
turn true false = refl
turn false true = refl
turn false false = refl

pub flags_are : (lines : List Line) (pairs : List (ℕ × ℕ)) (count n : ℕ) → n < count
    → get_or (flag_pairs pairs (flag_lines lines (replicate count false))) n false ≡ is_tagged lines pairs n
flags_are lines pairs count n low =
    let one : length (replicate count false) ≡ count = length_replicate count false in
    let two = lines_length lines (replicate count false) in
    pairs_at pairs (flag_lines lines (replicate count false)) n (omega arith)
    ∙ ap (λ b. is_in_pair pairs n || b) (lines_at lines (replicate count false) n (omega arith) ∙ ap (λ b. is_met_again lines n || b) (none_flagged count n))
    ∙ turn (is_met_again lines n) (is_in_pair pairs n)

-- the tags

abbrev flagged : List Bool → ℕ → Bool
flagged flags n = get_or flags n false

or_left : (a b : Bool) → (a || b) ≡ false → (a ≡ false) × (b ≡ false)
or_left true b e = absurd (false_true (sym e))
or_left false b e = (refl, e)

stays : (flags : List Bool) (ls : List Line) (t : Tags) (n : ℕ) → is_met ls n ≡ false → get_or (tag_lines flags ls t).given n 0 ≡ get_or t.given n 0
stays flags [] t n new = refl
stays flags (l ∷ ls) t n new =
    let h = or_left (shows_first n l.shown) (is_met ls n) new in
    go (λ u. stays flags ls u n h.1) l.shown h.0
  where
    go : ((u : Tags) → get_or (tag_lines flags ls u).given n 0 ≡ get_or u.given n 0)
        → (x : Shown) → shows_first n x ≡ false → get_or (tag_lines flags ls (tag_shown flags x t)).given n 0 ≡ get_or t.given n 0
    go ih Unbound h = ih t
    go ih (Again m) h = ih t
    go ih (First m) h = split (flagged flags m)
      where
        split : (b : Bool) → get_or (tag_lines flags ls (if b then give t m else t)).given n 0 ≡ get_or t.given n 0
        split true = ih (give t m) ∙ get_or-set_other t.given m n (t.used + 1) 0 (differ n m h)
        split false = ih t

gives : (flags : List Bool) (ls : List Line) (t : Tags) (n : ℕ) → AreOnce ls → n < length t.given → get_or t.given n 0 ≡ 0
    → get_or (tag_lines flags ls t).given n 0 ≡ number_from (t.used + 1) (met_in_order (flagged flags) ls) n
gives flags [] t n once low none = none
gives flags (l ∷ ls) t n once low none = go (λ u. gives flags ls u n once.1) l.shown once.0
  where
    go : ((u : Tags) → n < length u.given → get_or u.given n 0 ≡ 0 → get_or (tag_lines flags ls u).given n 0 ≡ number_from (u.used + 1) (met_in_order (flagged flags) ls) n)
        → (x : Shown) → IsNew x ls
        → get_or (tag_lines flags ls (tag_shown flags x t)).given n 0 ≡ number_from (t.used + 1) (first_met (flagged flags) x (met_in_order (flagged flags) ls)) n
    go ih Unbound new = ih t low none
    go ih (Again m) new = ih t low none
    go ih (First m) new = split (flagged flags m)
      where
        given : (b : Bool) → eqb n m ≡ b
            → get_or (tag_lines flags ls (give t m)).given n 0 ≡ (if b then t.used + 1 else number_from (suc (t.used + 1)) (met_in_order (flagged flags) ls) n)
        given true e =
            let same = eqb-true n m e in
            stays flags ls (give t m) n (ap (is_met ls) same ∙ new)
            ∙ ap (λ k. get_or (set t.given k (t.used + 1)) n 0) (sym same) ∙ get_or-set_same t.given n (t.used + 1) 0 low
        given false e =
            ih (give t m) (subst (λ k. n < k) (sym (length-set t.given m (t.used + 1))) low)
            (get_or-set_other t.given m n (t.used + 1) 0 (differ n m e) ∙ none)
            ∙ ap (λ k. number_from k (met_in_order (flagged flags) ls) n) (add-one (t.used + 1))

        split : (b : Bool) → get_or (tag_lines flags ls (if b then give t m else t)).given n 0
            ≡ number_from (t.used + 1) (if b then m ∷ met_in_order (flagged flags) ls else met_in_order (flagged flags) ls) n
        split true = given (eqb n m) refl
        split false = ih t low none

met_same : (f g : ℕ → Bool) (count : ℕ) → ((n : ℕ) → n < count → f n ≡ g n) → (ls : List Line) → every (λ l. is_shown_below count l.shown) ls ≡ true
    → met_in_order f ls ≡ met_in_order g ls
met_same f g count h [] below = refl
met_same f g count h (l ∷ ls) below =
    let both = and_parts (is_shown_below count l.shown) (every (λ (l : Line). is_shown_below count l.shown) ls) below in
    go l.shown both.0 (met_same f g count h ls both.1)
  where
    go : (x : Shown) → is_shown_below count x ≡ true → met_in_order f ls ≡ met_in_order g ls → first_met f x (met_in_order f ls) ≡ first_met g x (met_in_order g ls)
    go Unbound low ih = ih
    go (Again n) low ih = ih
    go (First n) low ih =
        ap (λ b. if b then n ∷ met_in_order f ls else met_in_order f ls) (h n (ltb-true n count low))
        ∙ ap (λ (z : List ℕ). if g n then n ∷ z else z) ih

abbrev zeros : ℕ → List ℕ
zeros count = replicate count 0

no_tags : (count n : ℕ) → get_or (zeros count) n 0 ≡ 0
no_tags zero n = refl
no_tags (suc count) zero = refl
no_tags (suc count) (suc n) = no_tags count n

pub tags_are : (lines : List Line) (pairs : List (ℕ × ℕ)) (count n : ℕ) (flags : List Bool) (given : List ℕ) → n < count
    → AreOnce lines → every (λ l. is_shown_below count l.shown) lines ≡ true
    → flags ≡ flag_pairs pairs (flag_lines lines (replicate count false)) → given ≡ replicate count 0
    → get_or (tag_lines flags lines (record { given = given; used = 0 })).given n 0 ≡ tag_in lines pairs n
tags_are lines pairs count n flags given low once below e f =
    let none : get_or given n 0 ≡ 0 = ap (λ (z : List ℕ). get_or z n 0) f ∙ no_tags count n in
    let long : length given ≡ count = ap (λ (z : List ℕ). length z) f ∙ length_replicate count 0 in
    gives flags lines (record { given = given; used = 0 }) n once (omega arith) none
    ∙ ap (λ (z : List ℕ). number_from 1 z n)
    (met_same (flagged flags) (is_tagged lines pairs) count
    (λ m l. ap (λ (z : List Bool). get_or z m false) e ∙ flags_are lines pairs count m l) lines below)

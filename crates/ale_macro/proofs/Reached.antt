-- Steps by which it is found how deep a template is nested.
use Rattle.std.proofs.Common.{◌≡◌, ℕ, zero, suc, ◌+◌, ◌<◌, ◌≤◌, min, max, Option, Some, None, List, [], ◌∷◌, ◌++◌, length, length-append, map, get_or, set, drop, refl, sym, ap, ◌∙◌, arith}
use Rattle.ale_macro.specs.declared.template.Template.{Template}
use Rattle.ale_macro.specs.declared.depth.Depth.{Depth}
use Rattle.ale_macro.specs.Templates.{TemplateData, TemplatesData, template_data, templates_of, none, more, call, cells}
use Rattle.ale_macro.specs.Sizes.{Near, list_nesting, nesting_by, deepest, each_nesting, below, reached, reached_if, reached_by, lowered, NearPlace, Reaches}
use Rattle.ale_macro.proofs.Counted.{templates, all_dropped}
use Rattle.ale_macro.proofs.Loops.{next_at}

-- one more parameter that stands nowhere
pub below_push : (ps : List (Option ℕ)) (xs : List ℕ) → below (ps ++ None ∷ []) xs ≡ below ps xs
below_push [] [] = refl
below_push [] (x ∷ xs) = refl
below_push (p ∷ ps) [] = refl
below_push (None ∷ ps) (x ∷ xs) = below_push ps xs
below_push (Some d ∷ ps) (x ∷ xs) = ap (max (d + x)) (below_push ps xs)

pub below_put : (ps : List (Option ℕ)) (i depth : ℕ) (xs : List ℕ) → i < length ps → length xs ≡ length ps →
    below (set ps i (Some (lowered (get_or ps i None) depth))) xs ≡ max (below ps xs) (depth + get_or xs i 0)
below_put [] i depth xs low same = absurd (omega arith)
below_put (p ∷ ps) zero depth [] low same = absurd (omega arith)
below_put (None ∷ ps) zero depth (x ∷ xs) low same = omega arith
below_put (Some d ∷ ps) zero depth (x ∷ xs) low same = omega arith
below_put (p ∷ ps) (suc i) depth [] low same = absurd (omega arith)
below_put (None ∷ ps) (suc i) depth (x ∷ xs) low same = below_put ps i depth xs (omega arith) (omega arith)
below_put (Some d ∷ ps) (suc i) depth (x ∷ xs) low same =
    let rest : below (set ps i (Some (lowered (get_or ps i None) depth))) xs ≡ max (below ps xs) (depth + get_or xs i 0) = below_put ps i depth xs (omega arith) (omega arith) in
    ap (max (d + x)) rest ∙ apart (d + x) (below ps xs) (depth + get_or xs i 0)
  where
    apart : (a b c : ℕ) → max a (max b c) ≡ max (max a b) c
    apart a b c = omega arith

-- ---- a part of its own

abbrev pub AddsAt : ℕ → Depth → Depth → Type 0
AddsAt n old new = (new.own ≡ max old.own n) × (new.places ≡ old.places)

pub added_at : (n : ℕ) (old new : Depth) (xs : List ℕ) → AddsAt n old new → reached new xs ≡ max (reached old xs) n
added_at n old new xs adds =
    ap (λ p. max new.own (below p.items xs)) adds.1
    ∙ (ap (λ o. max o (below old.places.items xs)) adds.0 ∙ apart old.own n (below old.places.items xs))
  where
    apart : (a b c : ℕ) → max (max a b) c ≡ max (max a c) b
    apart a b c = omega arith

pub as_wide : (n : ℕ) (old new : Depth) → AddsAt n old new → length new.places.items ≡ length old.places.items
as_wide n old new adds = ap (λ p. length p.items) adds.1

pub reach_leaf : (table : List (Option Depth)) (whole : TemplateData) (a : ℕ) (old new : Depth) → ((xs : List ℕ) → nesting_by (reached_by table) xs whole ≡ 0) → AddsAt a old new → Reaches table whole (Some a) old new
reach_leaf table whole a old new leaf adds xs long =
    ap (λ n. min n 4001) (added_at a old new xs adds ∙ (ap (max (reached old xs)) (plus a) ∙ ap (λ n. max (reached old xs) (a + n)) (sym (leaf xs))))
  where
    plus : (n : ℕ) → n ≡ n + 0
    plus n = omega arith

pub reach_within : (table : List (Option Depth)) (whole inner : TemplateData) (a n : ℕ) (old new : Depth) →
    ((xs : List ℕ) → nesting_by (reached_by table) xs whole ≡ suc (nesting_by (reached_by table) xs inner)) → Near 4001 n (a + 1) → Reaches table inner (Some n) old new → Reaches table whole (Some a) old new
reach_within table whole inner a n old new is next reaches xs long =
    deeper (reached new xs) (reached old xs) (nesting_by (reached_by table) xs inner) (reaches xs long) ∙ ap (λ d. min (max (reached old xs) (a + d)) 4001) (sym (is xs))
  where
    deeper : (w v d : ℕ) → Near 4001 w (max v (n + d)) → Near 4001 w (max v (a + suc d))
    deeper w v d h = omega arith

-- ---- several

-- the deepest of several that stand below so many
abbrev pub hung : List (Option Depth) → List ℕ → ℕ → TemplatesData → ℕ
hung table xs n none = 0
hung table xs n (more t ts) = max (n + nesting_by (reached_by table) xs t) (hung table xs n ts)

hung_is : (table : List (Option Depth)) (xs : List ℕ) (n : ℕ) (ts : TemplatesData) → max n (hung table xs n ts) ≡ n + deepest (reached_by table) xs ts
hung_is table xs n none = omega arith
hung_is table xs n (more t ts) = step (nesting_by (reached_by table) xs t) (hung table xs n ts) (deepest (reached_by table) xs ts) (hung_is table xs n ts)
  where
    step : (x h d : ℕ) → max n h ≡ n + d → max n (max (n + x) h) ≡ n + max x d
    step x h d e = omega arith

abbrev pub LeftToReach : List (Option Depth) → List Template → ℕ → ℕ → TemplateData → Depth → Depth → Type 0
LeftToReach table left n a whole old now =
    (xs : List ℕ) → length xs ≡ length old.places.items →
    Near 4001 (max (reached now xs) (hung table xs n (templates left))) (max (reached old xs) (a + nesting_by (reached_by table) xs whole))

pub reach_begins : (table : List (Option Depth)) (left : List Template) (whole : TemplateData) (a n : ℕ) (old now : Depth) →
    ((xs : List ℕ) → nesting_by (reached_by table) xs whole ≡ suc (deepest (reached_by table) xs (templates left))) → Near 4001 n (a + 1) → AddsAt n old now → LeftToReach table left n a whole old now
reach_begins table left whole a n old now is next adds xs long =
    ap (λ r. min (max r (hung table xs n (templates left))) 4001) (added_at n old now xs adds)
    ∙ (step (reached old xs) (hung table xs n (templates left)) (deepest (reached_by table) xs (templates left)) (hung_is table xs n (templates left))
    ∙ ap (λ d. min (max (reached old xs) (a + d)) 4001) (sym (is xs)))
  where
    step : (v h d : ℕ) → max n h ≡ n + d → Near 4001 (max (max v n) h) (max v (a + suc d))
    step v h d e = omega arith

pub reach_goes_on : (table : List (Option Depth)) (ts : List Template) (i : ℕ) (x : Template) (whole : TemplateData) (a n : ℕ) (old now new : Depth) →
    i < length ts → x ≡ get_or ts i x → length now.places.items ≡ length old.places.items → Reaches table (template_data x) (Some n) now new →
    LeftToReach table (drop i ts) n a whole old now → LeftToReach table (drop (i + 1) ts) n a whole old new
reach_goes_on table ts i x whole a n old now new low is same reaches left xs long =
    step (reached now xs) (reached new xs) (max (reached old xs) (a + nesting_by (reached_by table) xs whole)) (nesting_by (reached_by table) xs (template_data x)) (hung table xs n (templates (drop (i + 1) ts)))
    (reaches xs (long ∙ sym same))
    (ap (λ ys. min (max (reached now xs) (hung table xs n (templates ys))) 4001) (sym (next_at ts i x low is)) ∙ left xs long)
  where
    step : (v w goal d h : ℕ) → Near 4001 w (max v (n + d)) → Near 4001 (max v (max (n + d) h)) goal → Near 4001 (max w h) goal
    step v w goal d h one all = omega arith

pub reach_ends : (table : List (Option Depth)) (ts : List Template) (i : ℕ) (whole : TemplateData) (a n : ℕ) (old now : Depth) → length ts ≤ i →
    LeftToReach table (drop i ts) n a whole old now → Reaches table whole (Some a) old now
reach_ends table ts i whole a n old now past left xs long =
    ap (λ m. min m 4001) (none_below (reached now xs))
    ∙ (ap (λ ys. min (max (reached now xs) (hung table xs n (templates ys))) 4001) (sym (all_dropped ts i past)) ∙ left xs long)
  where
    none_below : (v : ℕ) → v ≡ max v 0
    none_below v = omega arith

-- ---- arguments, at the deepest place of each

-- the deepest of several, each below its place and so many
abbrev pub placed : ℕ → List (Option ℕ) → List ℕ → ℕ
placed a [] xs = 0
placed a (p ∷ ps) [] = 0
placed a (None ∷ ps) (x ∷ xs) = placed a ps xs
placed a (Some d ∷ ps) (x ∷ xs) = max (a + (d + x)) (placed a ps xs)

placed_is : (a : ℕ) (ps : List (Option ℕ)) (xs : List ℕ) → max a (placed a ps xs) ≡ a + below ps xs
placed_is a [] xs = omega arith
placed_is a (p ∷ ps) [] = omega arith
placed_is a (None ∷ ps) (x ∷ xs) = placed_is a ps xs
placed_is a (Some d ∷ ps) (x ∷ xs) = step (d + x) (placed a ps xs) (below ps xs) (placed_is a ps xs)
  where
    step : (y p b : ℕ) → max a p ≡ a + b → max a (max (a + y) p) ≡ a + max y b
    step y p b e = omega arith

placed_none : (a : ℕ) (ps : List (Option ℕ)) → placed a ps [] ≡ 0
placed_none a [] = refl
placed_none a (p ∷ ps) = refl

-- so deep an argument, if it stands at all
abbrev pub placed_one : ℕ → Option ℕ → ℕ → ℕ
placed_one a None x = 0
placed_one a (Some d) x = a + (d + x)

placed_next : (a : ℕ) (ps : List (Option ℕ)) (i x : ℕ) (xs : List ℕ) → placed a (drop i ps) (x ∷ xs) ≡ max (placed_one a (get_or ps i None) x) (placed a (drop (i + 1) ps) xs)
placed_next a ps i x xs = go ps i ∙ ap (λ j. max (placed_one a (get_or ps i None) x) (placed a (drop j ps) xs)) (plus i)
  where
    plus : (n : ℕ) → suc n ≡ n + 1
    plus n = omega arith

    nothing : (n : ℕ) → n ≡ max 0 n
    nothing n = omega arith

    go : (qs : List (Option ℕ)) (n : ℕ) → placed a (drop n qs) (x ∷ xs) ≡ max (placed_one a (get_or qs n None) x) (placed a (drop (suc n) qs) xs)
    go [] zero = refl
    go [] (suc n) = refl
    go (None ∷ qs) zero = nothing (placed a qs xs)
    go (Some d ∷ qs) zero = refl
    go (q ∷ qs) (suc n) = go qs n

abbrev pub LeftToPlace : List (Option Depth) → List (Option ℕ) → List Template → ℕ → TemplateData → Depth → Depth → Type 0
LeftToPlace table places left a whole old now =
    (xs : List ℕ) → length xs ≡ length old.places.items →
    Near 4001 (max (reached now xs) (placed a places (each_nesting (reached_by table) xs (templates left)))) (max (reached old xs) (a + nesting_by (reached_by table) xs whole))

pub place_begins : (table : List (Option Depth)) (called : Depth) (k m : ℕ) (args : List Template) (whole : TemplateData) (a q : ℕ) (old now : Depth) →
    whole ≡ call k m (templates args) → get_or table m None ≡ Some called → Near 4001 q (a + called.own) → AddsAt q old now → LeftToPlace table called.places.items args a whole old now
place_begins table called k m args whole a q old now is found own adds xs long =
    ap (λ r. min (max r (placed a called.places.items ys)) 4001) (added_at q old now xs adds)
    ∙ (step (reached old xs) (placed a called.places.items ys) (below called.places.items ys) (placed_is a called.places.items ys)
    ∙ ap (λ d. min (max (reached old xs) (a + d)) 4001) (sym of))
  where
    ys : List ℕ
    ys = each_nesting (reached_by table) xs (templates args)

    of : nesting_by (reached_by table) xs whole ≡ max called.own (below called.places.items (each_nesting (reached_by table) xs (templates args)))
    of = ap (nesting_by (reached_by table) xs) is ∙ ap (λ o. reached_if o (each_nesting (reached_by table) xs (templates args))) found

    step : (v p b : ℕ) → max a p ≡ a + b → Near 4001 (max (max v q) p) (max v (a + max called.own b))
    step v p b e = omega (arith, own)

pub place_goes_on : (table : List (Option Depth)) (places : List (Option ℕ)) (ts : List Template) (i : ℕ) (x : Template) (whole : TemplateData) (a : ℕ) (n : Option ℕ) (old now new : Depth) →
    i < length ts → x ≡ get_or ts i x → NearPlace n a (get_or places i None) → length now.places.items ≡ length old.places.items → Reaches table (template_data x) n now new →
    LeftToPlace table (drop i places) (drop i ts) a whole old now → LeftToPlace table (drop (i + 1) places) (drop (i + 1) ts) a whole old new
place_goes_on table places ts i x whole a n old now new low is near same reaches left xs long =
    go n (get_or places i None) near reaches
    (ap (λ w. min (max (reached now xs) w) 4001) (sym (placed_next a places i p ps))
    ∙ (ap (λ ys. min (max (reached now xs) (placed a (drop i places) (each_nesting (reached_by table) xs (templates ys)))) 4001) (sym (next_at ts i x low is)) ∙ left xs long))
  where
    p : ℕ
    p = nesting_by (reached_by table) xs (template_data x)

    ps : List ℕ
    ps = each_nesting (reached_by table) xs (templates (drop (i + 1) ts))

    goal : ℕ
    goal = max (reached old xs) (a + nesting_by (reached_by table) xs whole)

    same_way : (v w h g : ℕ) → Near 4001 w v → Near 4001 (max v (max 0 h)) g → Near 4001 (max w h) g
    same_way v w h g one all = omega arith

    shift : (k m y : ℕ) → Near 4001 k m → Near 4001 (k + y) (m + y)
    shift k m y h = omega arith

    under : (v x y : ℕ) → Near 4001 x y → Near 4001 (max v x) (max v y)
    under v x y h = omega arith

    beside : (x y h : ℕ) → Near 4001 x y → Near 4001 (max x h) (max y h)
    beside x y h near_ = omega arith

    apart : (v z h : ℕ) → max (max v z) h ≡ max v (max z h)
    apart v z h = omega arith

    added : (d y : ℕ) → a + d + y ≡ a + (d + y)
    added d y = omega arith

    deeper : (v w h g k d y : ℕ) → Near 4001 k (a + d) → Near 4001 w (max v (k + y)) → Near 4001 (max v (max (a + (d + y)) h)) g → Near 4001 (max w h) g
    deeper v w h g k d y at one all =
        beside w (max v (k + y)) h one
        ∙ (ap (λ m. min m 4001) (apart v (k + y) h)
        ∙ (under v (max (k + y) h) (max (a + (d + y)) h) (beside (k + y) (a + (d + y)) h (shift k (a + d) y at ∙ ap (λ m. min m 4001) (added d y))) ∙ all))

    go : (k o : Option ℕ) → NearPlace k a o → Reaches table (template_data x) k now new →
        Near 4001 (max (reached now xs) (max (placed_one a o (nesting_by (reached_by table) xs (template_data x))) (placed a (drop (i + 1) places) (each_nesting (reached_by table) xs (templates (drop (i + 1) ts)))))) (max (reached old xs) (a + nesting_by (reached_by table) xs whole)) →
        Near 4001 (max (reached new xs) (placed a (drop (i + 1) places) (each_nesting (reached_by table) xs (templates (drop (i + 1) ts))))) (max (reached old xs) (a + nesting_by (reached_by table) xs whole))
    go None None at one all = same_way (reached now xs) (reached new xs) (placed a (drop (i + 1) places) ps) goal (one xs (long ∙ sym same)) all
    go None (Some d) at one all = absurd at
    go (Some k) None at one all = absurd at
    go (Some k) (Some d) at one all = deeper (reached now xs) (reached new xs) (placed a (drop (i + 1) places) ps) goal k d p at (one xs (long ∙ sym same)) all

pub place_ends : (table : List (Option Depth)) (places : List (Option ℕ)) (ts : List Template) (i : ℕ) (whole : TemplateData) (a : ℕ) (old now : Depth) → length ts ≤ i →
    LeftToPlace table (drop i places) (drop i ts) a whole old now → Reaches table whole (Some a) old now
place_ends table places ts i whole a old now past left xs long =
    ap (λ m. min m 4001) (none_below (reached now xs))
    ∙ (ap (λ m. min (max (reached now xs) m) 4001) (sym (placed_none a (drop i places)))
    ∙ (ap (λ ys. min (max (reached now xs) (placed a (drop i places) (each_nesting (reached_by table) xs (templates ys)))) 4001) (sym (all_dropped ts i past)) ∙ left xs long))
  where
    none_below : (v : ℕ) → v ≡ max v 0
    none_below v = omega arith

-- ---- members of a list

abbrev pub LeftToNest : List (Option Depth) → List Template → TemplateData → ℕ → ℕ → TemplateData → Depth → Depth → Type 0
LeftToNest table left end n a whole old now =
    (xs : List ℕ) → length xs ≡ length old.places.items →
    Near 4001 (max (reached now xs) (n + list_nesting (each_nesting (reached_by table) xs (templates left)) (nesting_by (reached_by table) xs end))) (max (reached old xs) (a + nesting_by (reached_by table) xs whole))

pub nest_begins : (table : List (Option Depth)) (ts : List Template) (end whole : TemplateData) (a : ℕ) (old : Depth) → whole ≡ cells (templates ts) end → LeftToNest table ts end a a whole old old
nest_begins table ts end whole a old is xs long = ap (λ d. min (max (reached old xs) (a + nesting_by (reached_by table) xs d)) 4001) (sym is)

pub nest_goes_on : (table : List (Option Depth)) (ts : List Template) (i : ℕ) (x : Template) (end whole : TemplateData) (a n k : ℕ) (old now new : Depth) →
    i < length ts → x ≡ get_or ts i x → Near 4001 k (n + 2) → length now.places.items ≡ length old.places.items → Reaches table (template_data x) (Some k) now new →
    LeftToNest table (drop i ts) end n a whole old now → LeftToNest table (drop (i + 1) ts) end k a whole old new
nest_goes_on table ts i x end whole a n k old now new low is next same reaches left xs long =
    step (reached now xs) (reached new xs) (max (reached old xs) (a + nesting_by (reached_by table) xs whole)) (nesting_by (reached_by table) xs (template_data x))
    (list_nesting (each_nesting (reached_by table) xs (templates (drop (i + 1) ts))) (nesting_by (reached_by table) xs end)) (reaches xs (long ∙ sym same))
    (ap (λ ys. min (max (reached now xs) (n + list_nesting (each_nesting (reached_by table) xs (templates ys)) (nesting_by (reached_by table) xs end))) 4001) (sym (next_at ts i x low is)) ∙ left xs long)
  where
    step : (v w goal d h : ℕ) → Near 4001 w (max v (k + d)) → Near 4001 (max v (n + (2 + max d h))) goal → Near 4001 (max w (k + h)) goal
    step v w goal d h one all = omega (arith, next)

pub nest_ends : (table : List (Option Depth)) (ts : List Template) (i : ℕ) (end whole : TemplateData) (a n : ℕ) (old now new : Depth) → length ts ≤ i →
    length now.places.items ≡ length old.places.items → Reaches table end (Some n) now new → LeftToNest table (drop i ts) end n a whole old now → Reaches table whole (Some a) old new
nest_ends table ts i end whole a n old now new past same reaches left xs long =
    reaches xs (long ∙ sym same)
    ∙ (ap (λ ys. min (max (reached now xs) (n + list_nesting (each_nesting (reached_by table) xs (templates ys)) (nesting_by (reached_by table) xs end))) 4001) (sym (all_dropped ts i past))
    ∙ left xs long)

-- ---- a variable

beyond_all : (xs : List ℕ) (v d : ℕ) → length xs ≤ v → get_or xs v d ≡ d
beyond_all [] v d past = refl
beyond_all (x ∷ xs) zero d past = absurd (omega arith)
beyond_all (x ∷ xs) (suc v) d past = beyond_all xs v d (omega arith)

pub put_beyond : (old new : Depth) (v n : ℕ) → length old.places.items ≤ v → AddsAt n old new → (xs : List ℕ) → length xs ≡ length old.places.items → reached new xs ≡ max (reached old xs) (n + get_or xs v 0)
put_beyond old new v n past adds xs long =
    added_at n old new xs adds ∙ (ap (max (reached old xs)) (plus n) ∙ ap (λ d. max (reached old xs) (n + d)) (sym (beyond_all xs v 0 (omega arith))))
  where
    plus : (m : ℕ) → m ≡ m + 0
    plus m = omega arith

any_place : (ps : List (Option ℕ)) (i : ℕ) (d e : Option ℕ) → i < length ps → get_or ps i d ≡ get_or ps i e
any_place [] i d e low = absurd (omega arith)
any_place (p ∷ ps) zero d e low = refl
any_place (p ∷ ps) (suc i) d e low = any_place ps i d e (omega arith)

pub put_inside : (old new : Depth) (v n c : ℕ) (p : Option ℕ) → v < length old.places.items → new.own ≡ old.own → new.places.items ≡ set old.places.items v (Some c) → p ≡ get_or old.places.items v p → c ≡ lowered p n →
    (xs : List ℕ) → length xs ≡ length old.places.items → reached new xs ≡ max (reached old xs) (n + get_or xs v 0)
put_inside old new v n c p low own places is deep xs long =
    ap (λ o. max o (below new.places.items xs)) own
    ∙ (ap (λ ps. max old.own (below ps xs)) (places ∙ ap (λ d. set old.places.items v (Some d)) (deep ∙ ap (λ q. lowered q n) (is ∙ any_place old.places.items v p None low)))
    ∙ (ap (max old.own) (below_put old.places.items v n xs low long) ∙ apart old.own (below old.places.items xs) (n + get_or xs v 0)))
  where
    apart : (a b d : ℕ) → max a (max b d) ≡ max (max a b) d
    apart a b d = omega arith

pub pushed_nowhere : (old new : List (Option ℕ)) (n : ℕ) → new ≡ old ++ None ∷ [] → length old ≡ n → ((xs : List ℕ) → below old xs ≡ 0) → (length new ≡ n + 1) × ((xs : List ℕ) → below new xs ≡ 0)
pushed_nowhere old new n is long zero_below =
    let e : length new ≡ length (old ++ None ∷ []) = ap length is in
    let f : length (old ++ None ∷ []) ≡ length old + 1 = length-append old (None ∷ []) in
    (omega arith, λ xs. ap (λ u. below u xs) is ∙ (below_push old xs ∙ zero_below xs))

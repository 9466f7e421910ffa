-- Tags tell nodes apart: two nodes with one tag are one, tagged nodes that are met have one, and there are no more
-- tags than nodes.
use Rattle.std.proofs.Common.{◌≡◌, ℕ, zero, suc, ◌+◌, ◌<◌, ◌≤◌, Bool, true, false, ◌||◌, eqb, Option, Some, None, List, [], ◌∷◌, ◌++◌, length, ◌⊎◌, inl, inr, refl, sym, ap, ◌∙◌, arith}
use Rattle.std.specs.Prelude.{if◌then◌else◌}
use Rattle.std.proofs.lemmas.Bool.{eq-eqb, eqb-true}
use Rattle.ale_declared.specs.Lists.{Has}
use Rattle.ale_graph.specs.Structures.{Structure, count}
use Rattle.ale_print.specs.declared.line.Place.{Place}
use Rattle.ale_print.specs.declared.line.Place.TheVariants.{Root, Value, Also}
use Rattle.ale_print.specs.declared.line.Shown.{Shown}
use Rattle.ale_print.specs.declared.line.Shown.TheVariants.{Unbound, First, Again}
use Rattle.ale_print.specs.declared.line.Line.{Line}
use Rattle.ale_print.specs.declared.line.Stop.{Stop}
use Rattle.ale_print.specs.Pairing.{in_order}
use Rattle.ale_print.specs.Walking.{shows_first, is_met, stops_below, line_of, met_again, at_stop, along, root_stops, also_stops, walk, lines_of}
use Rattle.ale_print.specs.Tagging.{is_tagged, first_met, met_in_order, number_from, tag_of}

false_true : false ≡ true → ⊥
false_true e = absurd cc

-- a number in a list is 0, or at least what is counted from
from_on : (k : ℕ) (ns : List ℕ) (n : ℕ) → (number_from k ns n ≡ 0) ⊎ (k ≤ number_from k ns n)
from_on k [] n = inl refl
from_on k (m ∷ ms) n = go (eqb n m) (from_on (suc k) ms n)
  where
    go : (b : Bool) → (number_from (suc k) ms n ≡ 0) ⊎ (suc k ≤ number_from (suc k) ms n)
        → ((if b then k else number_from (suc k) ms n) ≡ 0) ⊎ (k ≤ (if b then k else number_from (suc k) ms n))
    go true ih = inr (omega arith)
    go false (inl e) = inl e
    go false (inr l) = inr (omega arith)

pub one_number : (k : ℕ) (ns : List ℕ) (n m : ℕ) → 0 < k → 0 < number_from k ns n → number_from k ns n ≡ number_from k ns m → n ≡ m
one_number k [] n m from there same = absurd (omega arith)
one_number k (x ∷ xs) n m from there same = go (eqb n x) (eqb m x) refl refl there same (one_number (suc k) xs n m (omega arith)) (from_on (suc k) xs n) (from_on (suc k) xs m)
  where
    go : (a b : Bool) → eqb n x ≡ a → eqb m x ≡ b
        → 0 < (if a then k else number_from (suc k) xs n) → (if a then k else number_from (suc k) xs n) ≡ (if b then k else number_from (suc k) xs m)
        → (0 < number_from (suc k) xs n → number_from (suc k) xs n ≡ number_from (suc k) xs m → n ≡ m)
        → (number_from (suc k) xs n ≡ 0) ⊎ (suc k ≤ number_from (suc k) xs n) → (number_from (suc k) xs m ≡ 0) ⊎ (suc k ≤ number_from (suc k) xs m) → n ≡ m
    go true true e f t s ih l r = eqb-true n x e ∙ sym (eqb-true m x f)
    go true false e f t s ih l (inl z) = absurd (omega (arith, from))
    go true false e f t s ih l (inr z) = absurd (omega arith)
    go false true e f t s ih (inl z) r = absurd (omega arith)
    go false true e f t s ih (inr z) r = absurd (omega arith)
    go false false e f t s ih l r = ih t s

pub numbered : (k : ℕ) (ns : List ℕ) (n : ℕ) → 0 < k → Has ns n → 0 < number_from k ns n
numbered k [] n from h = absurd h
numbered k (x ∷ xs) n from h = go (eqb n x) refl h (numbered (suc k) xs n (omega arith))
  where
    go : (b : Bool) → eqb n x ≡ b → Has (x ∷ xs) n → (Has xs n → 0 < number_from (suc k) xs n) → 0 < (if b then k else number_from (suc k) xs n)
    go true e m ih = from
    go false e (inl same) ih = absurd (false_true (sym e ∙ eq-eqb n x same))
    go false e (inr m) ih = ih m

pub not_past : (k : ℕ) (ns : List ℕ) (n : ℕ) → number_from k ns n ≤ k + length ns
not_past k [] n = omega arith
not_past k (x ∷ xs) n = go (eqb n x) (not_past (suc k) xs n)
  where
    go : (b : Bool) → number_from (suc k) xs n ≤ suc k + length xs → (if b then k else number_from (suc k) xs n) ≤ k + length (x ∷ xs)
    go true ih = omega arith
    go false ih = omega arith

pub met_has : (test : ℕ → Bool) (ls : List Line) (n : ℕ) → test n ≡ true → is_met ls n ≡ true → Has (met_in_order test ls) n
met_has test [] n h m = absurd (false_true m)
met_has test (l ∷ ls) n h m = go l.shown m (met_has test ls n h)
  where
    go : (x : Shown) → (shows_first n x || is_met ls n) ≡ true → (is_met ls n ≡ true → Has (met_in_order test ls) n) → Has (first_met test x (met_in_order test ls)) n
    go Unbound k ih = ih k
    go (Again j) k ih = ih k
    go (First j) k ih = split (eqb n j) refl k
      where
        here : (b : Bool) → test j ≡ b → Has (met_in_order test ls) n → Has (if b then j ∷ met_in_order test ls else met_in_order test ls) n
        here true e k = inr k
        here false e k = k

        first : n ≡ j → (b : Bool) → test j ≡ b → Has (if b then j ∷ met_in_order test ls else met_in_order test ls) n
        first same true e = inl same
        first same false e = absurd (false_true (sym e ∙ ap test (sym same) ∙ h))

        split : (b : Bool) → eqb n j ≡ b → (b || is_met ls n) ≡ true → Has (if test j then j ∷ met_in_order test ls else met_in_order test ls) n
        split true e k = first (eqb-true n j e) (test j) refl
        split false e k = here (test j) refl (ih k)

pub same_tag_same_node : (s : Structure) (n m : ℕ) → 0 < tag_of s n → tag_of s n ≡ tag_of s m → n ≡ m
same_tag_same_node s n m there same = one_number 1 (met_in_order (is_tagged (lines_of s) s.differ) (lines_of s)) n m (omega arith) there same

pub has_tag : (s : Structure) (n : ℕ) → is_tagged (lines_of s) s.differ n ≡ true → is_met (lines_of s) n ≡ true → 0 < tag_of s n
has_tag s n tagged met = numbered 1 (met_in_order (is_tagged (lines_of s) s.differ) (lines_of s)) n (omega arith) (met_has (is_tagged (lines_of s) s.differ) (lines_of s) n tagged met)

-- how many nodes are met for the first time

abbrev firsts : (ℕ → Bool) → List Line → ℕ
firsts test ls = length (met_in_order test ls)

firsts_push : (test : ℕ → Bool) (ls : List Line) (p : Place) (x : Shown) → firsts test (ls ++ line_of p x ∷ []) ≤ firsts test ls + 1
firsts_push test [] p Unbound = omega arith
firsts_push test [] p (Again n) = omega arith
firsts_push test [] p (First n) = go (test n)
  where
    go : (b : Bool) → length (if b then n ∷ [] else []) ≤ 0 + 1
    go true = omega arith
    go false = omega arith
firsts_push test (l ∷ ls) p x = go l.shown (firsts_push test ls p x)
  where
    go : (y : Shown) → firsts test (ls ++ line_of p x ∷ []) ≤ firsts test ls + 1
        → length (first_met test y (met_in_order test (ls ++ line_of p x ∷ []))) ≤ length (first_met test y (met_in_order test ls)) + 1
    go Unbound ih = ih
    go (Again n) ih = ih
    go (First n) ih = split (test n)
      where
        split : (b : Bool) → length (if b then n ∷ met_in_order test (ls ++ line_of p x ∷ []) else met_in_order test (ls ++ line_of p x ∷ []))
            ≤ length (if b then n ∷ met_in_order test ls else met_in_order test ls) + 1
        split true = omega arith
        split false = ih

firsts_same : (test : ℕ → Bool) (ls : List Line) (p : Place) (x : Shown) → ((ns : List ℕ) → first_met test x ns ≡ ns) → firsts test (ls ++ line_of p x ∷ []) ≡ firsts test ls
firsts_same test [] p x h = ap (λ (z : List ℕ). length z) (h [])
firsts_same test (l ∷ ls) p x h = go l.shown (firsts_same test ls p x h)
  where
    go : (y : Shown) → firsts test (ls ++ line_of p x ∷ []) ≡ firsts test ls
        → length (first_met test y (met_in_order test (ls ++ line_of p x ∷ []))) ≡ length (first_met test y (met_in_order test ls))
    go Unbound ih = ih
    go (Again n) ih = ih
    go (First n) ih = split (test n)
      where
        split : (b : Bool) → length (if b then n ∷ met_in_order test (ls ++ line_of p x ∷ []) else met_in_order test (ls ++ line_of p x ∷ []))
            ≡ length (if b then n ∷ met_in_order test ls else met_in_order test ls)
        split true = ap suc ih
        split false = ih

firsts_again : (test : ℕ → Bool) (ls : List Line) (p : Place) (n : ℕ) → firsts test (met_again ls p n) ≡ firsts test ls
firsts_again test ls (Root i) n = firsts_same test ls (Root i) (Again n) (λ ns. refl)
firsts_again test ls (Value level f) n = firsts_same test ls (Value level f) (Again n) (λ ns. refl)
firsts_again test ls Also n = refl

few_along : (s : Structure) (test : ℕ → Bool) (left : ℕ) (deeper : List Line → List Stop → List Line)
    → ((ls : List Line) (ys : List Stop) → firsts test (deeper ls ys) ≤ firsts test ls + left)
    → (xs : List Stop) (ls : List Line) → firsts test (along s deeper ls xs) ≤ firsts test ls + suc left
few_along s test left deeper d [] ls = omega arith
few_along s test left deeper d (x ∷ xs) ls = go (few_along s test left deeper d xs) x.node
  where
    go : ((ls : List Line) → firsts test (along s deeper ls xs) ≤ firsts test ls + suc left) → (m : Option ℕ)
        → firsts test (at_stop s ls x.place m (λ ls. along s deeper ls xs) (λ ls below. deeper ls (below ++ xs))) ≤ firsts test ls + suc left
    go ih None = let l = ih (ls ++ line_of x.place Unbound ∷ []) in let e = firsts_same test ls x.place Unbound (λ ns. refl) in omega arith
    go ih (Some n) = split (is_met ls n)
      where
        split : (b : Bool) → firsts test (if b then along s deeper (met_again ls x.place n) xs else deeper (ls ++ line_of x.place (First n) ∷ []) (stops_below s x.place n ++ xs))
            ≤ firsts test ls + suc left
        split true = let l = ih (met_again ls x.place n) in let e = firsts_again test ls x.place n in omega arith
        split false = let l = d (ls ++ line_of x.place (First n) ∷ []) (stops_below s x.place n ++ xs) in let e = firsts_push test ls x.place (First n) in omega arith

few : (s : Structure) (test : ℕ → Bool) (left : ℕ) (ls : List Line) (xs : List Stop) → firsts test (walk s left ls xs) ≤ firsts test ls + suc left
few s test zero ls xs = few_along s test 0 (λ ls ys. ls) (λ ls ys. omega arith) xs ls
few s test (suc left) ls xs = few_along s test (suc left) (walk s left) (λ ls ys. few s test left ls ys) xs ls

pub tag_small : (s : Structure) (n : ℕ) → tag_of s n ≤ count s + 2
unfolding lines_of
tag_small s n =
    let ns = met_in_order (is_tagged (lines_of s) s.differ) (lines_of s) in
    let a = not_past 1 ns n in
    let b = few s (is_tagged (lines_of s) s.differ) (count s) [] (root_stops 0 s.roots ++ also_stops (in_order s.differ)) in
    omega arith

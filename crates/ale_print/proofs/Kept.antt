-- What every line of a walk keeps to: it is within the structure, and each node is met for the first time once.
use Rattle.std.proofs.Common.{◌≡◌, ℕ, zero, suc, Bool, true, false, ◌&&◌, ◌||◌, eqb, ltb, Option, Some, None, List, [], ◌∷◌, ◌++◌, map, refl, sym, ap, ◌∙◌, IsTrue}
use Rattle.std.specs.Prelude.{if◌then◌else◌}
use Rattle.std.proofs.lemmas.Bool.{and_parts, and_from, eq-eqb, eqb-true, ltb-true}
use Rattle.ale_declared.specs.Lists.{every}
use Rattle.ale_graph.specs.Structures.{Structure, count, node_at, is_root, is_formed}
use Rattle.ale_print.specs.declared.line.Place.{Place}
use Rattle.ale_print.specs.declared.line.Place.TheVariants.{Root, Value, Also}
use Rattle.ale_print.specs.declared.line.Shown.{Shown}
use Rattle.ale_print.specs.declared.line.Shown.TheVariants.{Unbound, First, Again}
use Rattle.ale_print.specs.declared.line.Line.{Line}
use Rattle.ale_print.specs.declared.line.Stop.{Stop}
use Rattle.ale_print.specs.Pairing.{in_order}
use Rattle.ale_print.specs.Walking.{shows_first, is_met, level_below, stop_below, stops_below, line_of, met_again, at_stop, along, root_stops, also_stops, walk, lines_of}
use Rattle.ale_print.specs.Steps.{IsNew, AreOnce, is_shown_below, is_place_in, are_in, IsOf}
use Rattle.ale_print.proofs.Ordered.{every_in_order}
use Rattle.ale_print.proofs.Underway.{is_met-push, values_below, pairs_below, roots_below, turned_below}

-- each stop keeps P
pub record Keeps (s : Structure) (P : List Line → List Stop → Type 0) : Type 0 where
  pub unbound : (lines : List Line) (p : Place) (xs : List Stop) → P lines (record { place = p; node = None } ∷ xs) → P (lines ++ line_of p Unbound ∷ []) xs
  pub again : (lines : List Line) (p : Place) (n : ℕ) (xs : List Stop) → is_met lines n ≡ true → P lines (record { place = p; node = Some n } ∷ xs) → P (met_again lines p n) xs
  pub first : (lines : List Line) (p : Place) (n : ℕ) (xs : List Stop) → is_met lines n ≡ false → P lines (record { place = p; node = Some n } ∷ xs)
      → P (lines ++ line_of p (First n) ∷ []) (stops_below s p n ++ xs)

kept_along : (s : Structure) (P : List Line → List Stop → Type 0) (Q : List Line → Type 0) → ((lines : List Line) (xs : List Stop) → P lines xs → Q lines) → Keeps s P
    → (deeper : List Line → List Stop → List Line) → ((lines : List Line) (xs : List Stop) → P lines xs → Q (deeper lines xs))
    → (xs : List Stop) (lines : List Line) → P lines xs → Q (along s deeper lines xs)
kept_along s P Q end k deeper d [] lines h = end lines [] h
kept_along s P Q end k deeper d (x ∷ xs) lines h = go (kept_along s P Q end k deeper d xs) x.node h
  where
    go : ((ls : List Line) → P ls xs → Q (along s deeper ls xs)) → (m : Option ℕ) → P lines (record { place = x.place; node = m } ∷ xs)
        → Q (at_stop s lines x.place m (λ ls. along s deeper ls xs) (λ ls below. deeper ls (below ++ xs)))
    go ih None h = ih (lines ++ line_of x.place Unbound ∷ []) (k.unbound lines x.place xs h)
    go ih (Some n) h = split (is_met lines n) refl
      where
        split : (b : Bool) → is_met lines n ≡ b
            → Q (if b then along s deeper (met_again lines x.place n) xs else deeper (lines ++ line_of x.place (First n) ∷ []) (stops_below s x.place n ++ xs))
        split true e = ih (met_again lines x.place n) (k.again lines x.place n xs e h)
        split false e = d (lines ++ line_of x.place (First n) ∷ []) (stops_below s x.place n ++ xs) (k.first lines x.place n xs e h)

pub kept : (s : Structure) (P : List Line → List Stop → Type 0) (Q : List Line → Type 0) → ((lines : List Line) (xs : List Stop) → P lines xs → Q lines) → Keeps s P
    → (left : ℕ) (lines : List Line) (xs : List Stop) → P lines xs → Q (walk s left lines xs)
kept s P Q end k zero lines xs h = kept_along s P Q end k (λ ls ys. ls) end xs lines h
kept s P Q end k (suc left) lines xs h = kept_along s P Q end k (walk s left) (kept s P Q end k left) xs lines h

-- once

once_push : (lines : List Line) (p : Place) (x : Shown) → AreOnce lines → ((m : ℕ) → is_met lines m ≡ true → shows_first m x ≡ false) → AreOnce (lines ++ line_of p x ∷ [])
once_push [] p x h other = (alone x, tt)
  where
    alone : (x : Shown) → IsNew x []
    alone Unbound = tt
    alone (First n) = refl
    alone (Again n) = tt
once_push (l ∷ ls) p x h other = (new l.shown h.0 (λ m e. other m (ap (λ b. b || is_met ls m) e)), once_push ls p x h.1 (λ m e. other m (later (shows_first m l.shown) (is_met ls m) e)))
  where
    later : (a b : Bool) → b ≡ true → (a || b) ≡ true
    later true b e = refl
    later false b e = e

    new : (y : Shown) → IsNew y ls → ((m : ℕ) → shows_first m y ≡ true → shows_first m x ≡ false) → IsNew y (ls ++ line_of p x ∷ [])
    new Unbound n o = tt
    new (Again m) n o = tt
    new (First m) n o = is_met-push ls p x m ∙ ap (λ b. b || shows_first m x) n ∙ o m (eq-eqb m m refl)

once_again : (lines : List Line) (p : Place) (n : ℕ) → AreOnce lines → AreOnce (met_again lines p n)
once_again lines (Root i) n h = once_push lines (Root i) (Again n) h (λ m e. refl)
once_again lines (Value level f) n h = once_push lines (Value level f) (Again n) h (λ m e. refl)
once_again lines Also n h = h

false_true : false ≡ true → ⊥
false_true e = absurd cc

not_same : (lines : List Line) (n m : ℕ) → is_met lines n ≡ false → is_met lines m ≡ true → eqb m n ≡ false
not_same lines n m new met = go (eqb m n) refl
  where
    go : (b : Bool) → eqb m n ≡ b → b ≡ false
    go true e = absurd (false_true (sym new ∙ ap (is_met lines) (sym (eqb-true m n e)) ∙ met))
    go false e = refl

pub lines_once : (s : Structure) → AreOnce (lines_of s)
unfolding lines_of
lines_once s =
    kept s (λ lines xs. AreOnce lines) AreOnce (λ lines xs h. h)
    (record {
      unbound = λ lines p xs h. once_push lines p Unbound h (λ m e. refl);
      again = λ lines p n xs e h. once_again lines p n h;
      first = λ lines p n xs e h. once_push lines p (First n) h (λ m met. not_same lines n m e met);
    })
    (count s) [] (root_stops 0 s.roots ++ also_stops (in_order s.differ)) tt

-- within the structure

abbrev is_in : ℕ → ℕ → Stop → Bool
is_in nodes features x = is_root nodes x.node && is_place_in features x.place

abbrev Within : ℕ → ℕ → List Line → List Stop → Type 0
Within nodes features lines xs = (are_in nodes features lines ≡ true) × (every (is_in nodes features) xs ≡ true)

in_push : (nodes features : ℕ) (lines : List Line) (l : Line) → are_in nodes features lines ≡ true → (is_shown_below nodes l.shown && is_place_in features l.place) ≡ true
    → are_in nodes features (lines ++ l ∷ []) ≡ true
in_push nodes features [] l h k = and_from (is_shown_below nodes l.shown && is_place_in features l.place) true k refl
in_push nodes features (x ∷ xs) l h k =
    let both = and_parts (is_shown_below nodes x.shown && is_place_in features x.place) (are_in nodes features xs) h in
    and_from (is_shown_below nodes x.shown && is_place_in features x.place) (are_in nodes features (xs ++ l ∷ [])) both.0 (in_push nodes features xs l both.1 k)

in_again : (nodes features : ℕ) (lines : List Line) (p : Place) (n : ℕ) → are_in nodes features lines ≡ true → (ltb n nodes && is_place_in features p) ≡ true
    → are_in nodes features (met_again lines p n) ≡ true
in_again nodes features lines (Root i) n h k = in_push nodes features lines (line_of (Root i) (Again n)) h k
in_again nodes features lines (Value level f) n h k = in_push nodes features lines (line_of (Value level f) (Again n)) h k
in_again nodes features lines Also n h k = h

every-append : (test : Stop → Bool) (xs ys : List Stop) → every test xs ≡ true → every test ys ≡ true → every test (xs ++ ys) ≡ true
every-append test [] ys h k = k
every-append test (x ∷ xs) ys h k =
    let both = and_parts (test x) (every test xs) h in
    and_from (test x) (every test (xs ++ ys)) both.0 (every-append test xs ys both.1 k)

in_below : (nodes features level : ℕ) (vs : List (ℕ × ℕ)) → every (λ v. ltb v.1 nodes) vs ≡ true → every (λ v. ltb v.0 features) vs ≡ true
    → every (is_in nodes features) (map (stop_below level) vs) ≡ true
in_below nodes features level [] h k = refl
in_below nodes features level (v ∷ vs) h k =
    let a = and_parts (ltb v.1 nodes) (every (λ (v : ℕ × ℕ). ltb v.1 nodes) vs) h in
    let b = and_parts (ltb v.0 features) (every (λ (v : ℕ × ℕ). ltb v.0 features) vs) k in
    and_from (ltb v.1 nodes && ltb v.0 features) (every (is_in nodes features) (map (stop_below level) vs))
    (and_from (ltb v.1 nodes) (ltb v.0 features) a.0 b.0) (in_below nodes features level vs a.1 b.1)

in_roots : (nodes features i : ℕ) (rs : List (Option ℕ)) → every (is_root nodes) rs ≡ true → every (is_in nodes features) (root_stops i rs) ≡ true
in_roots nodes features i [] h = refl
in_roots nodes features i (r ∷ rs) h =
    let both = and_parts (is_root nodes r) (every (is_root nodes) rs) h in
    and_from (is_root nodes r && true) (every (is_in nodes features) (root_stops (suc i) rs)) (and_from (is_root nodes r) true both.0 refl) (in_roots nodes features (suc i) rs both.1)

in_also : (nodes features : ℕ) (ps : List (ℕ × ℕ)) → every (λ p. ltb p.0 nodes && ltb p.1 nodes) ps ≡ true → every (is_in nodes features) (also_stops ps) ≡ true
in_also nodes features [] h = refl
in_also nodes features (p ∷ ps) h =
    let both = and_parts (ltb p.0 nodes && ltb p.1 nodes) (every (λ (p : ℕ × ℕ). ltb p.0 nodes && ltb p.1 nodes) ps) h in
    let one = and_parts (ltb p.0 nodes) (ltb p.1 nodes) both.0 in
    let rest = in_also nodes features ps both.1 in
    and_from (ltb p.0 nodes && true) (ltb p.1 nodes && true && every (is_in nodes features) (also_stops ps)) (and_from (ltb p.0 nodes) true one.0 refl)
    (and_from (ltb p.1 nodes && true) (every (is_in nodes features) (also_stops ps)) (and_from (ltb p.1 nodes) true one.1 refl) rest)

pub lines_in : (s : Structure) (types features : ℕ) → IsTrue (is_formed s) → IsOf types features s → are_in (count s) features (lines_of s) ≡ true
unfolding lines_of
lines_in s types features formed of =
    kept s (Within (count s) features) (λ lines. are_in (count s) features lines ≡ true) (λ lines xs h. h.0)
    (record {
      unbound = λ lines p xs h.
          let both = and_parts (true && is_place_in features p) (every (is_in (count s) features) xs) h.1 in
          (in_push (count s) features lines (line_of p Unbound) h.0 both.0, both.1);
      again = λ lines p n xs e h.
          let both = and_parts (ltb n (count s) && is_place_in features p) (every (is_in (count s) features) xs) h.1 in
          (in_again (count s) features lines p n h.0 both.0, both.1);
      first = λ lines p n xs e h.
          let both = and_parts (ltb n (count s) && is_place_in features p) (every (is_in (count s) features) xs) h.1 in
          let low = ltb-true n (count s) (and_parts (ltb n (count s)) (is_place_in features p) both.0).0 in (
            in_push (count s) features lines (line_of p (First n)) h.0 both.0,
            every-append (is_in (count s) features) (stops_below s p n) xs
                (in_below (count s) features (level_below p) (node_at s n).values (values_below s formed n low) (of.by_features n)) both.1,
          );
    })
    (count s) [] (root_stops 0 s.roots ++ also_stops (in_order s.differ)) (
      refl,
      every-append (is_in (count s) features) (root_stops 0 s.roots) (also_stops (in_order s.differ))
          (in_roots (count s) features 0 s.roots (roots_below s formed))
          (in_also (count s) features (in_order s.differ)
          (every_in_order (λ p. ltb p.0 (count s) && ltb p.1 (count s)) s.differ (turned_below (count s)) (pairs_below s formed))),
    )

-- A walk as a derivation: what is met at each stop, and which lines come of it.
use Rattle.std.proofs.Common.{◌≡◌, ℕ, zero, suc, ◌<◌, Bool, true, false, ◌||◌, eqb, Option, Some, None, List, [], ◌∷◌, ◌++◌, map, get_or, set, replicate, length, ◌⊎◌, inl, inr, refl, sym, ap, ◌∙◌, subst, arith, append_assoc, append-nil, IsTrue}
use Rattle.std.proofs.lemmas.Bool.{eq-eqb, eqb-true}
use Rattle.ale_declared.specs.Lists.{Has}
use Rattle.ale_graph.specs.Structures.{Structure, count, node_at, is_formed}
use Rattle.ale_morphism.specs.Visible.{some}
use Rattle.ale_print.specs.declared.line.Place.{Place}
use Rattle.ale_print.specs.declared.line.Place.TheVariants.{Root, Value, Also}
use Rattle.ale_print.specs.declared.line.Shown.{Shown}
use Rattle.ale_print.specs.declared.line.Shown.TheVariants.{Unbound, First, Again}
use Rattle.ale_print.specs.declared.line.Line.{Line}
use Rattle.ale_print.specs.declared.line.Stop.{Stop}
use Rattle.ale_print.specs.Pairing.{in_order}
use Rattle.ale_print.specs.Walking.{is_met, level_below, stop_below, stops_below, line_of, met_again, root_stops, also_stops, walk, lines_of}
use Rattle.ale_print.specs.Tagging.{shows_again, is_met_again}
use Rattle.ale_print.specs.Steps.{unmet, IsUnderway}
use Rattle.ale_print.proofs.Underway.{is_met-push, unbound_stop, again_stop, first_stop, in_range, begun, unmet_set}

-- the node is one of these
abbrev pub among : List ℕ → ℕ → Bool
among ns n = some (λ m. eqb n m) ns

abbrev pub IsListed : Place → Type 0
IsListed (Root i) = Unit {0}
IsListed (Value level f) = Unit {0}
IsListed Also = ⊥

-- what the stop shows in a structure of so many nodes, of which these have been met
pub data Shows (size : ℕ) (met : List ℕ) (x : Stop) : Shown → Type 0 where
  nothing : x.node ≡ None → Shows size met x Unbound
  another : (n : ℕ) → x.node ≡ Some n → among met n ≡ true → IsListed x.place → Shows size met x (Again n)
  once : (n : ℕ) → x.node ≡ Some n → among met n ≡ false → n < size → Shows size met x (First n)

abbrev pub met_after : Shown → List ℕ → List ℕ
met_after Unbound met = met
met_after (First n) met = n ∷ met
met_after (Again n) met = met

abbrev pub following : Structure → Place → Shown → List Stop → List Stop
following s p Unbound xs = xs
following s p (First n) xs = stops_below s p n ++ xs
following s p (Again n) xs = xs

pub data Walks (s : Structure) : List ℕ → List Stop → List Line → Type 0 where
  ended : (met : List ℕ) → Walks s met [] []
  passed : (met : List ℕ) (x : Stop) (n : ℕ) (xs : List Stop) (ls : List Line) → x.place ≡ Also → x.node ≡ Some n → among met n ≡ true
      → Walks s met xs ls → Walks s met (x ∷ xs) ls
  lined : (met : List ℕ) (x : Stop) (shown : Shown) (xs : List Stop) (ls : List Line) → Shows (count s) met x shown
      → Walks s (met_after shown met) (following s x.place shown xs) ls → Walks s met (x ∷ xs) (line_of x.place shown ∷ ls)

-- the lines of a structure come of such a walk

abbrev Agrees : List Line → List ℕ → Type 0
Agrees lines met = (n : ℕ) → is_met lines n ≡ among met n

abbrev Goes : Structure → List Line → List Stop → List ℕ → Type 0
Goes s lines xs met = (ls : List Line) × (lines_of s ≡ lines ++ ls) × Walks s met xs ls

abbrev Later : Structure → ℕ → Type 0
Later s left =
    (flags : List Bool) (lines : List Line) (ys : List Stop) (met : List ℕ) → suc (unmet flags) ≡ left → IsUnderway s flags lines ys → Agrees lines met → Goes s lines ys met

agrees_unbound : (lines : List Line) (p : Place) (met : List ℕ) → Agrees lines met → Agrees (lines ++ line_of p Unbound ∷ []) met
agrees_unbound lines p met h n = is_met-push lines p Unbound n ∙ go (is_met lines n) ∙ h n
  where
    go : (b : Bool) → (b || false) ≡ b
    go true = refl
    go false = refl

agrees_again : (lines : List Line) (p : Place) (m : ℕ) (met : List ℕ) → Agrees lines met → Agrees (lines ++ line_of p (Again m) ∷ []) met
agrees_again lines p m met h n = is_met-push lines p (Again m) n ∙ go (is_met lines n) ∙ h n
  where
    go : (b : Bool) → (b || false) ≡ b
    go true = refl
    go false = refl

agrees_first : (lines : List Line) (p : Place) (m : ℕ) (met : List ℕ) → Agrees lines met → Agrees (lines ++ line_of p (First m) ∷ []) (m ∷ met)
agrees_first lines p m met h n = is_met-push lines p (First m) n ∙ go (is_met lines n) (eqb n m) ∙ ap (λ b. eqb n m || b) (h n)
  where
    go : (a b : Bool) → (a || b) ≡ (b || a)
    go true true = refl
    go true false = refl
    go false true = refl
    go false false = refl

joined : (s : Structure) (lines : List Line) (l : Line) (ls : List Line) → lines_of s ≡ (lines ++ l ∷ []) ++ ls → lines_of s ≡ lines ++ l ∷ ls
joined s lines l ls e = e ∙ append_assoc lines (l ∷ []) ls

walk_nothing : (s : Structure) (left : ℕ) (lines : List Line) → walk s left lines [] ≡ lines
walk_nothing s zero lines = refl
walk_nothing s (suc left) lines = refl

goes_along : (s : Structure) → IsTrue (is_formed s) → (left : ℕ) → Later s left
    → (xs : List Stop) (flags : List Bool) (lines : List Line) (met : List ℕ) → unmet flags ≡ left → IsUnderway s flags lines xs → Agrees lines met → Goes s lines xs met
goes_along s formed left later [] flags lines met e u a =
    ([], sym u.rest ∙ walk_nothing s (unmet flags) lines ∙ sym (append-nil lines), ended met)
goes_along s formed left later (x ∷ xs) flags lines met e u a = go (goes_along s formed left later xs flags) x.node refl u
  where
    go : ((ls : List Line) (ns : List ℕ) → unmet flags ≡ left → IsUnderway s flags ls xs → Agrees ls ns → Goes s ls xs ns)
        → (m : Option ℕ) → x.node ≡ m → IsUnderway s flags lines (record { place = x.place; node = m } ∷ xs) → Goes s lines (x ∷ xs) met
    go ih None is v =
        let r = ih (lines ++ line_of x.place Unbound ∷ []) met e (unbound_stop s flags lines x.place xs v) (agrees_unbound lines x.place met a) in
        (line_of x.place Unbound ∷ r.0, joined s lines (line_of x.place Unbound) r.0 r.1, lined met x Unbound xs r.0 (nothing is) r.2)
    go ih (Some n) is v = split (is_met lines n) refl
      where
        at : (p : Place) → x.place ≡ p → is_met lines n ≡ true → Goes s lines (x ∷ xs) met
        at (Root i) q h =
            let w = subst (λ (z : List Line). IsUnderway s flags z xs) (ap (λ p. met_again lines p n) q) (again_stop s flags lines x.place n xs (v.agrees n ∙ h) v) in
            let r = ih (lines ++ line_of (Root i) (Again n) ∷ []) met e w (agrees_again lines (Root i) n met a) in
            let listed : IsListed x.place = subst IsListed (sym q) tt in (
              line_of x.place (Again n) ∷ r.0,
              joined s lines (line_of x.place (Again n)) r.0 (r.1 ∙ ap (λ p. (lines ++ line_of p (Again n) ∷ []) ++ r.0) (sym q)),
              lined met x (Again n) xs r.0 (another n is (sym (a n) ∙ h) listed) r.2,
            )
        at (Value level f) q h =
            let w = subst (λ (z : List Line). IsUnderway s flags z xs) (ap (λ p. met_again lines p n) q) (again_stop s flags lines x.place n xs (v.agrees n ∙ h) v) in
            let r = ih (lines ++ line_of (Value level f) (Again n) ∷ []) met e w (agrees_again lines (Value level f) n met a) in
            let listed : IsListed x.place = subst IsListed (sym q) tt in (
              line_of x.place (Again n) ∷ r.0,
              joined s lines (line_of x.place (Again n)) r.0 (r.1 ∙ ap (λ p. (lines ++ line_of p (Again n) ∷ []) ++ r.0) (sym q)),
              lined met x (Again n) xs r.0 (another n is (sym (a n) ∙ h) listed) r.2,
            )
        at Also q h =
            let w = subst (λ (z : List Line). IsUnderway s flags z xs) (ap (λ p. met_again lines p n) q) (again_stop s flags lines x.place n xs (v.agrees n ∙ h) v) in
            let r = ih lines met e w a in
            (r.0, r.1, passed met x n xs r.0 q is (sym (a n) ∙ h) r.2)

        split : (b : Bool) → is_met lines n ≡ b → Goes s lines (x ∷ xs) met
        split true h = at x.place refl h
        split false h =
            let unflagged : get_or flags n false ≡ false = v.agrees n ∙ h in
            let low : n < length flags = subst (λ k. n < k) (sym v.size) (in_range s flags lines x.place n xs v) in
            let r = later (set flags n true) (lines ++ line_of x.place (First n) ∷ []) (stops_below s x.place n ++ xs) (n ∷ met)
            (sym (unmet_set flags n low unflagged) ∙ e) (first_stop s flags lines x.place n xs formed unflagged v) (agrees_first lines x.place n met a) in
            (line_of x.place (First n) ∷ r.0, joined s lines (line_of x.place (First n)) r.0 r.1, lined met x (First n) xs r.0 (once n is (sym (a n) ∙ h) (in_range s flags lines x.place n xs v)) r.2)

goes_on : (s : Structure) → IsTrue (is_formed s) → (left : ℕ)
    → (xs : List Stop) (flags : List Bool) (lines : List Line) (met : List ℕ) → unmet flags ≡ left → IsUnderway s flags lines xs → Agrees lines met → Goes s lines xs met
goes_on s formed zero = goes_along s formed zero (λ flags lines ys met e u a. absurd (omega arith))
goes_on s formed (suc left) =
    goes_along s formed (suc left) (λ flags lines ys met e u a. goes_on s formed left ys flags lines met (omega arith) u a)

pub lines_walk : (s : Structure) → IsTrue (is_formed s) → Walks s [] (root_stops 0 s.roots ++ also_stops (in_order s.differ)) (lines_of s)
lines_walk s formed =
    let u = begun s (count s) refl formed in
    let r = goes_on s formed (unmet (replicate (count s) false)) (root_stops 0 s.roots ++ also_stops (in_order s.differ)) (replicate (count s) false) [] [] refl u (λ n. refl) in
    subst (λ (z : List Line). Walks s [] (root_stops 0 s.roots ++ also_stops (in_order s.differ)) z) (sym r.1) r.2

-- whatever is shown again, and both nodes of each pair, is met for the first time somewhere

or_any : (a b c : Bool) → (a || b) ≡ true → (b ≡ true → (a || c) ≡ true) → (a || c) ≡ true
or_any true b c h f = refl
or_any false b c h f = f h

abbrev pub MetIn : List ℕ → List Line → ℕ → Type 0
MetIn met ls n = (among met n ≡ true) ⊎ (is_met ls n ≡ true)

-- met behind a line is met before or from the line on
met_back : (met : List ℕ) (p : Place) (shown : Shown) (ls : List Line) (n : ℕ) → MetIn (met_after shown met) ls n → MetIn met (line_of p shown ∷ ls) n
met_back met p Unbound ls n (inl h) = inl h
met_back met p Unbound ls n (inr h) = inr h
met_back met p (Again m) ls n (inl h) = inl h
met_back met p (Again m) ls n (inr h) = inr h
met_back met p (First m) ls n (inl h) = go (eqb n m) h
  where
    go : (b : Bool) → (b || among met n) ≡ true → (among met n ≡ true) ⊎ ((b || is_met ls n) ≡ true)
    go true e = inr refl
    go false e = inl e
met_back met p (First m) ls n (inr h) = inr (go (eqb n m))
  where
    go : (b : Bool) → (b || is_met ls n) ≡ true
    go true = refl
    go false = h

pub again_met : (s : Structure) (met : List ℕ) (xs : List Stop) (ls : List Line) → Walks s met xs ls → (n : ℕ) → is_met_again ls n ≡ true → MetIn met ls n
again_met s _ _ _ (ended met) n h = absurd (false_true h)
  where
    false_true : false ≡ true → ⊥
    false_true e = absurd cc
again_met s _ _ _ (passed met x m xs ls p e h w) n k = again_met s met xs ls w n k
again_met s _ _ _ (lined met x shown xs ls sh w) n k = go shown sh k (again_met s (met_after shown met) (following s x.place shown xs) ls w n)
  where
    go : (shown : Shown) → Shows (count s) met x shown → (shows_again n shown || is_met_again ls n) ≡ true → (is_met_again ls n ≡ true → MetIn (met_after shown met) ls n)
        → MetIn met (line_of x.place shown ∷ ls) n
    go Unbound sh k ih = met_back met x.place Unbound ls n (ih k)
    go (First m) sh k ih = met_back met x.place (First m) ls n (ih k)
    go (Again m) (another _ is h listed) k ih = split (eqb n m) refl k
      where
        split : (b : Bool) → eqb n m ≡ b → (b || is_met_again ls n) ≡ true → MetIn met (line_of x.place (Again m) ∷ ls) n
        split true e k = inl (ap (among met) (eqb-true n m e) ∙ h)
        split false e k = met_back met x.place (Again m) ls n (ih k)

-- the nodes of pairs
abbrev pub paired : Place → Option ℕ → List ℕ → List ℕ
paired (Root i) m ns = ns
paired (Value level f) m ns = ns
paired Also None ns = ns
paired Also (Some n) ns = n ∷ ns

abbrev pub alsos : List Stop → List ℕ
alsos [] = []
alsos (x ∷ xs) = paired x.place x.node (alsos xs)

pub paired_also : (p : Place) (m : Option ℕ) (n : ℕ) (ns : List ℕ) → p ≡ Also → m ≡ Some n → paired p m ns ≡ n ∷ ns
paired_also p m n ns e f = ap (λ (z : Place). paired z m ns) e ∙ ap (λ (z : Option ℕ). paired Also z ns) f

pub values_alsos : (level : ℕ) (vs : List (ℕ × ℕ)) (xs : List Stop) → alsos (map (stop_below level) vs ++ xs) ≡ alsos xs
values_alsos level [] xs = refl
values_alsos level (v ∷ vs) xs = values_alsos level vs xs

-- so is each node of a pair
pub also_met : (s : Structure) (met : List ℕ) (xs : List Stop) (ls : List Line) → Walks s met xs ls → (n : ℕ) → Has (alsos xs) n → MetIn met ls n
also_met s _ _ _ (ended met) n h = absurd h
also_met s _ _ _ (passed met x m xs ls p e h w) n k = go (subst (λ (z : List ℕ). Has z n) (paired_also x.place x.node m (alsos xs) p e) k) (also_met s met xs ls w n)
  where
    go : (n ≡ m) ⊎ Has (alsos xs) n → (Has (alsos xs) n → MetIn met ls n) → MetIn met ls n
    go (inl same) ih = inl (ap (among met) same ∙ h)
    go (inr k) ih = ih k
also_met s _ _ _ (lined met x shown xs ls sh w) n k = go shown sh (also_met s (met_after shown met) (following s x.place shown xs) ls w n)
  where
    none_some : {m : ℕ} → None ≡ Some m → ⊥
    none_some e = absurd cc

    -- the node of the stop, or one behind it
    split : (p : Place) (m : Option ℕ) (ns : List ℕ) → Has (paired p m ns) n → ((p ≡ Also) × (m ≡ Some n)) ⊎ Has ns n
    split (Root i) m ns h = inr h
    split (Value level f) m ns h = inr h
    split Also None ns h = inr h
    split Also (Some j) ns (inl e) = inl (refl, ap Some (sym e))
    split Also (Some j) ns (inr h) = inr h

    unlisted : x.place ≡ Also → IsListed x.place → ⊥
    unlisted p h = subst IsListed p h

    here : (shown : Shown) → Shows (count s) met x shown → x.place ≡ Also → x.node ≡ Some n → MetIn met (line_of x.place shown ∷ ls) n
    here Unbound (nothing e) p g = absurd (none_some (sym e ∙ g))
    here (Again m) (another _ e h listed) p g = absurd (unlisted p listed)
    here (First m) (once _ e h low) p g =
        let same : n ≡ m = let f : Some n ≡ Some m = sym g ∙ e in cc in
        inr (ap (λ b. b || is_met ls n) (eq-eqb n m same))

    behind : (shown : Shown) → Has (alsos xs) n → Has (alsos (following s x.place shown xs)) n
    behind Unbound h = h
    behind (Again m) h = h
    behind (First m) h = subst (λ (z : List ℕ). Has z n) (sym (values_alsos (level_below x.place) (node_at s m).values xs)) h

    go : (shown : Shown) → Shows (count s) met x shown → (Has (alsos (following s x.place shown xs)) n → MetIn (met_after shown met) ls n) → MetIn met (line_of x.place shown ∷ ls) n
    go shown sh ih =
        elim (split x.place x.node (alsos xs) k) [ inl e ↦ here shown sh e.0 e.1 | inr h ↦ met_back met x.place shown ls n (ih (behind shown h)) ]

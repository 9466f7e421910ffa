-- A map takes the visible nodes of a structure to another one, in their order: the walk through the one goes step by
-- step as that through the other.
use Rattle.std.proofs.Common.{◌≡◌, ℕ, suc, ◌<◌, Bool, true, false, ◌&&◌, ◌||◌, eqb, ltb, Option, Some, None, List, [], ◌∷◌, ◌++◌, map, option_map, ◌⊎◌, inl, inr, refl, sym, ap, ◌∙◌, subst, arith, IsTrue}
use Rattle.std.specs.Prelude.{if◌then◌else◌}
use Rattle.std.proofs.lemmas.Bool.{eq-eqb, eqb-true, ne_eqb, ltb-true, ltb-false, lt-ltb, le-ltb}
use Rattle.std.proofs.lemmas.List.{map-append}
use Rattle.ale_declared.specs.Lists.{Has}
use Rattle.ale_graph.specs.Structures.{Structure, count, node_at, type_of, is_formed}
use Rattle.ale_graph.proofs.Lists.{has_map, has_either}
use Rattle.ale_morphism.specs.Visible.{Visible, root, differs_first, differs_second}
use Rattle.ale_print.specs.declared.line.Place.{Place}
use Rattle.ale_print.specs.declared.line.Place.TheVariants.{Root, Value, Also}
use Rattle.ale_print.specs.declared.line.Shown.{Shown}
use Rattle.ale_print.specs.declared.line.Shown.TheVariants.{Unbound, First, Again}
use Rattle.ale_print.specs.declared.line.Line.{Line}
use Rattle.ale_print.specs.declared.line.Stop.{Stop}
use Rattle.ale_print.specs.Pairing.{lower_first, is_same, is_before, put, in_order}
use Rattle.ale_print.specs.Walking.{level_below, stop_below, stops_below, line_of, root_stops, also_stop, also_stops, lines_of}
use Rattle.ale_print.proofs.Ordered.{has_in_order}
use Rattle.ale_print.proofs.Walks.{among, IsListed, Shows, nothing, another, once, met_after, following, Walks, ended, passed, lined, lines_walk}

-- the visible nodes of s go to nodes of t in their order, with their types and values; so do the roots and pairs
pub record Takes (s t : Structure) (to : ℕ → ℕ) : Type 0 where
  pub into : (n : ℕ) → Visible s n → to n < count t
  pub order : (a b : ℕ) → Visible s a → Visible s b → a < b → to a < to b
  pub types : (n : ℕ) → Visible s n → type_of t (to n) ≡ type_of s n
  pub values : (n : ℕ) → Visible s n → (node_at t (to n)).values ≡ map (λ (v : ℕ × ℕ). (v.0, to v.1)) (node_at s n).values
  pub inside : (n : ℕ) → Visible s n → (v : ℕ × ℕ) → Has (node_at s n).values v → Visible s v.1
  pub roots : t.roots ≡ map (option_map to) s.roots
  pub differ : t.differ ≡ map (λ (p : ℕ × ℕ). (to p.0, to p.1)) s.differ

false_true : false ≡ true → ⊥
false_true e = absurd cc

some_one : {a b : ℕ} → Some a ≡ Some b → a ≡ b
some_one e = cc

none_some : {a : ℕ} → None ≡ Some a → ⊥
none_some e = absurd cc

-- of one walk there is one list of lines

shows_same : (size : ℕ) (met : List ℕ) (x : Stop) (a b : Shown) → Shows size met x a → Shows size met x b → a ≡ b
shows_same size met x _ _ (nothing e) (nothing f) = refl
shows_same size met x _ _ (nothing e) (another n f h listed) = absurd (none_some (sym e ∙ f))
shows_same size met x _ _ (nothing e) (once n f h low) = absurd (none_some (sym e ∙ f))
shows_same size met x _ _ (another m e h listed) (nothing f) = absurd (none_some (sym f ∙ e))
shows_same size met x _ _ (another m e h listed) (another n f k too) = ap (λ (z : ℕ). Again z) (some_one (sym e ∙ f))
shows_same size met x _ _ (another m e h listed) (once n f k low) =
    absurd (false_true (sym k ∙ ap (among met) (some_one (sym f ∙ e)) ∙ h))
shows_same size met x _ _ (once m e h low) (nothing f) = absurd (none_some (sym f ∙ e))
shows_same size met x _ _ (once m e h low) (another n f k listed) =
    absurd (false_true (sym h ∙ ap (among met) (some_one (sym e ∙ f)) ∙ k))
shows_same size met x _ _ (once m e h low) (once n f k too) = ap (λ (z : ℕ). First z) (some_one (sym e ∙ f))

-- a stop that is passed shows nothing
never_shown : (size : ℕ) (met : List ℕ) (x : Stop) (n : ℕ) (a : Shown) → x.place ≡ Also → x.node ≡ Some n → among met n ≡ true → Shows size met x a → ⊥
never_shown size met x n _ p e h (nothing f) = none_some (sym f ∙ e)
never_shown size met x n _ p e h (another m f k listed) = subst IsListed p listed
never_shown size met x n _ p e h (once m f k low) = false_true (sym k ∙ ap (among met) (some_one (sym f ∙ e)) ∙ h)

first_of : {A : Type 0} {x y : A} {xs ys : List A} → x ∷ xs ≡ y ∷ ys → x ≡ y
first_of e = cc

rest_of : {A : Type 0} {x y : A} {xs ys : List A} → x ∷ xs ≡ y ∷ ys → xs ≡ ys
rest_of e = cc

none_first : {A : Type 0} {x : A} {xs : List A} → [] ≡ x ∷ xs → ⊥
none_first e = absurd cc

pub one_walk : (t : Structure) (met met_too : List ℕ) (xs ys : List Stop) (ls ms : List Line) → Walks t met xs ls → Walks t met_too ys ms → met ≡ met_too → xs ≡ ys → ls ≡ ms
one_walk t _ _ _ _ _ _ (ended met) (ended met_too) m e = refl
one_walk t _ _ _ _ _ _ (ended met) (passed met_too y k ys ms q f i v) m e = absurd (none_first e)
one_walk t _ _ _ _ _ _ (ended met) (lined met_too y b ys ms sh_too v) m e = absurd (none_first e)
one_walk t _ _ _ _ _ _ (passed met x n xs ls p f h w) (ended met_too) m e = absurd (none_first (sym e))
one_walk t _ _ _ _ _ _ (passed met x n xs ls p f h w) (passed met_too y k ys ms q g i v) m e =
    one_walk t met met_too xs ys ls ms w v m (rest_of e)
one_walk t _ _ _ _ _ _ (passed met x n xs ls p f h w) (lined met_too y b ys ms sh v) m e =
    absurd (never_shown (count t) met_too y n b (ap (λ (z : Stop). z.place) (sym (first_of e)) ∙ p) (ap (λ (z : Stop). z.node) (sym (first_of e)) ∙ f) (ap (λ (z : List ℕ). among z n) (sym m) ∙ h) sh)
one_walk t _ _ _ _ _ _ (lined met x a xs ls sh w) (ended met_too) m e = absurd (none_first (sym e))
one_walk t _ _ _ _ _ _ (lined met x a xs ls sh w) (passed met_too y k ys ms q g i v) m e =
    absurd (never_shown (count t) met x k a (ap (λ (z : Stop). z.place) (first_of e) ∙ q) (ap (λ (z : Stop). z.node) (first_of e) ∙ g) (ap (λ (z : List ℕ). among z k) m ∙ i) sh)
one_walk t _ _ _ _ _ _ (lined met x a xs ls sh w) (lined met_too y b ys ms sh_too v) m e =
    let heads : x ≡ y = first_of e in
    let tails : xs ≡ ys = rest_of e in
    let moved : Shows (count t) met x b = subst (λ (z : Stop). Shows (count t) met z b) (sym heads) (subst (λ (z : List ℕ). Shows (count t) z y b) (sym m) sh_too) in
    let same : a ≡ b = shows_same (count t) met x a b sh moved in
    let rest = one_walk t (met_after a met) (met_after b met_too) (following t x.place a xs) (following t y.place b ys) ls ms w v (λ i. met_after (same i) (m i)) (λ i. following t (heads i).place (same i) (tails i)) in
    λ i. line_of (heads i).place (same i) ∷ rest i

module _ (s t : Structure) (to : ℕ → ℕ) (takes : Takes s t to) where
  -- nodes are told apart as before

  pub one : (a b : ℕ) → Visible s a → Visible s b → to a ≡ to b → a ≡ b
  one a b va vb e = go (grind arith)
    where
      go : (a < b) ⊎ ((a ≡ b) ⊎ (b < a)) → a ≡ b
      go (inl l) = let m = takes.order a b va vb l in absurd (omega (arith, e))
      go (inr (inl same)) = same
      go (inr (inr l)) = let m = takes.order b a vb va l in absurd (omega (arith, e))

  pub eqb_to : (a b : ℕ) → Visible s a → Visible s b → eqb (to a) (to b) ≡ eqb a b
  eqb_to a b va vb = go (eqb a b) refl
    where
      go : (z : Bool) → eqb a b ≡ z → eqb (to a) (to b) ≡ z
      go true e = eq-eqb (to a) (to b) (ap to (eqb-true a b e))
      go false e = ne_eqb (to a) (to b) (λ same. false_true (sym e ∙ eq-eqb a b (one a b va vb same)))

  ltb_to : (a b : ℕ) → Visible s a → Visible s b → ltb (to a) (to b) ≡ ltb a b
  ltb_to a b va vb = go (ltb a b) refl
    where
      back : (b < a) ⊎ (b ≡ a) → ltb (to a) (to b) ≡ false
      back (inl l) = let m = takes.order b a vb va l in le-ltb (to a) (to b) (omega arith)
      back (inr e) = let m : to b ≡ to a = ap to e in le-ltb (to a) (to b) (omega (arith, m))

      go : (z : Bool) → ltb a b ≡ z → ltb (to a) (to b) ≡ z
      go true e = lt-ltb (to a) (to b) (takes.order a b va vb (ltb-true a b e))
      go false e = let l = ltb-false a b e in back (grind arith)

  abbrev pub AreSeen : List ℕ → Type 0
  AreSeen ns = (n : ℕ) → Has ns n → Visible s n

  among_to : (ns : List ℕ) → AreSeen ns → (n : ℕ) → Visible s n → among (map to ns) (to n) ≡ among ns n
  among_to [] seen n v = refl
  among_to (m ∷ ms) seen n v =
      let first = eqb_to n m v (seen m (inl refl)) in
      let rest = among_to ms (λ k h. seen k (inr h)) n v in
      λ i. first i || rest i

  -- stops and lines on the other side

  abbrev pub shown_to : Shown → Shown
  shown_to Unbound = Unbound
  shown_to (First n) = First (to n)
  shown_to (Again n) = Again (to n)

  abbrev pub line_to : Line → Line
  line_to l = line_of l.place (shown_to l.shown)

  abbrev pub stop_to : Stop → Stop
  stop_to x = record { place = x.place; node = option_map to x.node }

  abbrev pub pair_to : ℕ × ℕ → ℕ × ℕ
  pair_to p = (to p.0, to p.1)

  abbrev StopsSeen : List Stop → Type 0
  StopsSeen xs = (x : Stop) → Has xs x → (n : ℕ) → x.node ≡ Some n → Visible s n

  -- what the lines show is visible
  abbrev pub ShownSeen : Shown → Type 0
  ShownSeen Unbound = Unit {0}
  ShownSeen (First n) = Visible s n
  ShownSeen (Again n) = Visible s n

  abbrev pub LinesSeen : List Line → Type 0
  LinesSeen [] = Unit {0}
  LinesSeen (l ∷ ls) = ShownSeen l.shown × LinesSeen ls

  below_to : (level : ℕ) (vs : List (ℕ × ℕ)) → map (stop_below level) (map (λ (v : ℕ × ℕ). (v.0, to v.1)) vs) ≡ map stop_to (map (stop_below level) vs)
  below_to level [] = refl
  below_to level (v ∷ vs) = ap (λ (z : List Stop). stop_below level (v.0, to v.1) ∷ z) (below_to level vs)

  following_to : (p : Place) (n : ℕ) (xs : List Stop) → Visible s n → stops_below t p (to n) ++ map stop_to xs ≡ map stop_to (stops_below s p n ++ xs)
  following_to p n xs v =
      ap (λ (z : List (ℕ × ℕ)). map (stop_below (level_below p)) z ++ map stop_to xs) (takes.values n v)
      ∙ ap (λ (z : List Stop). z ++ map stop_to xs) (below_to (level_below p) (node_at s n).values)
      ∙ sym (map-append stop_to (stops_below s p n) xs)

  below_seen : (p : Place) (n : ℕ) (xs : List Stop) → Visible s n → StopsSeen xs → StopsSeen (stops_below s p n ++ xs)
  below_seen p n xs v seen x h m e = go (has_either (stops_below s p n) xs x h)
    where
      go : Has (stops_below s p n) x ⊎ Has xs x → Visible s m
      go (inr k) = seen x k m e
      go (inl k) =
          let r = has_map (stop_below (level_below p)) (node_at s n).values x k in
          let same : m ≡ r.0.1 = some_one (sym e ∙ ap (λ (z : Stop). z.node) r.2) in
          subst (Visible s) (sym same) (takes.inside n v r.0 r.1)

  abbrev Both : List ℕ → List Stop → List Line → Type 0
  Both met xs ls = Walks t (map to met) (map stop_to xs) (map line_to ls) × LinesSeen ls

  line_step : (met : List ℕ) (x : Stop) (sh : Shown) (xs : List Stop) (ls : List Line) → Shows (count s) met x sh
      → (AreSeen (met_after sh met) → StopsSeen (following s x.place sh xs) → Both (met_after sh met) (following s x.place sh xs) ls)
      → AreSeen met → StopsSeen (x ∷ xs) → Both met (x ∷ xs) (line_of x.place sh ∷ ls)
  line_step met x _ xs ls (nothing e) ih a b =
      let r = ih a (λ y k. b y (inr k)) in
      (lined (map to met) (stop_to x) Unbound (map stop_to xs) (map line_to ls) (nothing (ap (option_map to) e)) r.0, (tt, r.1))
  line_step met x _ xs ls (another n e h listed) ih a b =
      let v = b x (inl refl) n e in
      let r = ih a (λ y k. b y (inr k)) in
      (lined (map to met) (stop_to x) (Again (to n)) (map stop_to xs) (map line_to ls) (another (to n) (ap (option_map to) e) (among_to met a n v ∙ h) listed) r.0, (v, r.1))
  line_step met x _ xs ls (once n e h low) ih a b =
      let v = b x (inl refl) n e in
      let r = ih (λ m k. elim k [ inl same ↦ subst (Visible s) (sym same) v | inr there ↦ a m there ]) (below_seen x.place n xs v (λ y k. b y (inr k))) in (
        lined (map to met) (stop_to x) (First (to n)) (map stop_to xs) (map line_to ls) (once (to n) (ap (option_map to) e) (among_to met a n v ∙ h) (takes.into n v))
            (subst (λ (z : List Stop). Walks t (to n ∷ map to met) z (map line_to ls)) (sym (following_to x.place n xs v)) r.0),
        (v, r.1),
      )

  walk_to : (met : List ℕ) (xs : List Stop) (ls : List Line) → Walks s met xs ls → AreSeen met → StopsSeen xs → Both met xs ls
  walk_to _ _ _ (ended met) a b = (ended (map to met), tt)
  walk_to _ _ _ (passed met x n xs ls p e h w) a b =
      let r = walk_to met xs ls w a (λ y k. b y (inr k)) in
      (passed (map to met) (stop_to x) (to n) (map stop_to xs) (map line_to ls) p (ap (option_map to) e) (among_to met a n (b x (inl refl) n e) ∙ h) r.0, r.1)
  walk_to _ _ _ (lined met x sh xs ls shows w) a b = line_step met x sh xs ls shows (walk_to (met_after sh met) (following s x.place sh xs) ls w) a b

  -- pairs in order

  abbrev PairSeen : ℕ × ℕ → Type 0
  PairSeen p = Visible s p.0 × Visible s p.1

  abbrev PairsSeen : List (ℕ × ℕ) → Type 0
  PairsSeen ps = (p : ℕ × ℕ) → Has ps p → PairSeen p

  lower_to : (p : ℕ × ℕ) → PairSeen p → lower_first (pair_to p) ≡ pair_to (lower_first p)
  lower_to p v = ap (λ (z : Bool). if z then (to p.1, to p.0) else (to p.0, to p.1)) (ltb_to p.1 p.0 v.1 v.0) ∙ go (ltb p.1 p.0)
    where
      go : (z : Bool) → (if z then (to p.1, to p.0) else (to p.0, to p.1)) ≡ pair_to (if z then (p.1, p.0) else p)
      go true = refl
      go false = refl

  lower_seen : (p : ℕ × ℕ) → PairSeen p → PairSeen (lower_first p)
  lower_seen p v = go (ltb p.1 p.0)
    where
      go : (z : Bool) → PairSeen (if z then (p.1, p.0) else p)
      go true = (v.1, v.0)
      go false = v

  order_seen : (ps : List (ℕ × ℕ)) → PairsSeen ps → PairsSeen (in_order ps)
  order_seen ps seen p h =
      let r = has_map lower_first ps p (has_in_order ps p h) in
      subst PairSeen (sym r.2) (lower_seen r.0 (seen r.0 r.1))

  put_to : (p : ℕ × ℕ) (qs : List (ℕ × ℕ)) → PairSeen p → PairsSeen qs → put (pair_to p) (map pair_to qs) ≡ map pair_to (put p qs)
  put_to p [] v seen = refl
  put_to p (q ∷ qs) v seen =
      let u = seen q (inl refl) in
      let same : is_same (pair_to p) (pair_to q) ≡ is_same p q = (let a = eqb_to p.0 q.0 v.0 u.0 in let b = eqb_to p.1 q.1 v.1 u.1 in λ i. a i && b i) in
      let before : is_before (pair_to p) (pair_to q) ≡ is_before p q =
      (let a = ltb_to p.0 q.0 v.0 u.0 in let b = eqb_to p.0 q.0 v.0 u.0 in let c = ltb_to p.1 q.1 v.1 u.1 in λ i. a i || (b i && c i)) in
      let rest = put_to p qs v (λ r h. seen r (inr h)) in
      let tests : put (pair_to p) (map pair_to (q ∷ qs))
      ≡ (if is_same p q then pair_to q ∷ map pair_to qs else if is_before p q then pair_to p ∷ pair_to q ∷ map pair_to qs else pair_to q ∷ map pair_to (put p qs)) =
      λ i. if same i then pair_to q ∷ map pair_to qs else if before i then pair_to p ∷ pair_to q ∷ map pair_to qs else pair_to q ∷ rest i in
      tests ∙ go (is_same p q) (is_before p q)
    where
      go : (a b : Bool) → (if a then pair_to q ∷ map pair_to qs else if b then pair_to p ∷ pair_to q ∷ map pair_to qs else pair_to q ∷ map pair_to (put p qs))
          ≡ map pair_to (if a then q ∷ qs else if b then p ∷ q ∷ qs else q ∷ put p qs)
      go true b = refl
      go false true = refl
      go false false = refl

  pub order_to : (ps : List (ℕ × ℕ)) → PairsSeen ps → in_order (map pair_to ps) ≡ map pair_to (in_order ps)
  order_to [] seen = refl
  order_to (p ∷ ps) seen =
      let v = seen p (inl refl) in
      let first = lower_to p v in
      let rest = order_to ps (λ q h. seen q (inr h)) in
      let parts : in_order (map pair_to (p ∷ ps)) ≡ put (pair_to (lower_first p)) (map pair_to (in_order ps)) = λ i. put (first i) (rest i) in
      parts ∙ put_to (lower_first p) (in_order ps) (lower_seen p v) (order_seen ps (λ q h. seen q (inr h)))

  -- the stops at the start

  roots_to : (i : ℕ) (rs : List (Option ℕ)) → map stop_to (root_stops i rs) ≡ root_stops i (map (option_map to) rs)
  roots_to i [] = refl
  roots_to i (r ∷ rs) = ap (λ (z : List Stop). record { place = Root i; node = option_map to r } ∷ z) (roots_to (suc i) rs)

  alsos_to : (ps : List (ℕ × ℕ)) → map stop_to (also_stops ps) ≡ also_stops (map pair_to ps)
  alsos_to [] = refl
  alsos_to (p ∷ ps) = ap (λ (z : List Stop). also_stop (to p.0) ∷ also_stop (to p.1) ∷ z) (alsos_to ps)

  pub pairs_seen : PairsSeen s.differ
  pairs_seen p h = (differs_first p.0 p.1 h, differs_second p.0 p.1 h)

  abbrev stops_of : Structure → List Stop
  stops_of u = root_stops 0 u.roots ++ also_stops (in_order u.differ)

  stops_to : map stop_to (stops_of s) ≡ stops_of t
  stops_to =
      map-append stop_to (root_stops 0 s.roots) (also_stops (in_order s.differ))
      ∙ ap (λ (z : List Stop). z ++ map stop_to (also_stops (in_order s.differ))) (roots_to 0 s.roots ∙ ap (root_stops 0) (sym takes.roots))
      ∙ ap (λ (z : List Stop). root_stops 0 t.roots ++ z) (alsos_to (in_order s.differ) ∙ ap also_stops (sym (order_to s.differ pairs_seen) ∙ ap in_order (sym takes.differ)))

  root_seen : (i : ℕ) (rs : List (Option ℕ)) → ((m : ℕ) → Has rs (Some m) → Visible s m) → StopsSeen (root_stops i rs)
  root_seen i [] seen x h n e = absurd h
  root_seen i (r ∷ rs) seen x (inl same) n e =
      seen n (inl (sym (sym (ap (λ (z : Stop). z.node) same) ∙ e)))
  root_seen i (r ∷ rs) seen x (inr h) n e = root_seen (suc i) rs (λ m k. seen m (inr k)) x h n e

  also_seen : (ps : List (ℕ × ℕ)) → PairsSeen ps → StopsSeen (also_stops ps)
  also_seen [] seen x h n e = absurd h
  also_seen (p ∷ ps) seen x (inl same) n e =
      let at : p.0 ≡ n = some_one (sym (ap (λ (z : Stop). z.node) same) ∙ e) in subst (Visible s) at (seen p (inl refl)).0
  also_seen (p ∷ ps) seen x (inr (inl same)) n e =
      let at : p.1 ≡ n = some_one (sym (ap (λ (z : Stop). z.node) same) ∙ e) in subst (Visible s) at (seen p (inl refl)).1
  also_seen (p ∷ ps) seen x (inr (inr h)) n e = also_seen ps (λ q k. seen q (inr k)) x h n e

  starts_seen : ((m : ℕ) → Has s.roots (Some m) → Visible s m) → StopsSeen (stops_of s)
  starts_seen rooted x h n e = go (has_either (root_stops 0 s.roots) (also_stops (in_order s.differ)) x h)
    where
      go : Has (root_stops 0 s.roots) x ⊎ Has (also_stops (in_order s.differ)) x → Visible s n
      go (inl k) = root_seen 0 s.roots rooted x k n e
      go (inr k) = also_seen (in_order s.differ) (order_seen s.differ pairs_seen) x k n e

  -- the lines of both
  pub lines_to : IsTrue (is_formed s) → IsTrue (is_formed t) → ((m : ℕ) → Has s.roots (Some m) → Visible s m) → (lines_of t ≡ map line_to (lines_of s)) × LinesSeen (lines_of s)
  lines_to formed_s formed_t rooted =
      let r = walk_to [] (stops_of s) (lines_of s) (lines_walk s formed_s) (λ n h. absurd h) (starts_seen rooted) in
      (one_walk t [] [] (stops_of t) (map stop_to (stops_of s)) (lines_of t) (map line_to (lines_of s)) (lines_walk t formed_t) r.0 refl (sym stops_to), r.1)

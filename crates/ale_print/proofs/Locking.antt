-- Of two walks whose texts are one, the nodes are linked with one another.
use Rattle.std.proofs.Common.{◌≡◌, ℕ, ◌<◌, ◌^◌, Bool, true, false, ◌||◌, eqb, Option, Some, None, List, [], ◌∷◌, ◌++◌, map, codes, ◌⊎◌, inl, inr, refl, sym, ap, ◌∙◌, subst, append_assoc}
use Rattle.std.specs.List.{flat_map}
use Rattle.std.proofs.lemmas.Bool.{eq-eqb}
use Rattle.ale_declared.specs.Lists.{Has}
use Rattle.ale_declared.specs.Declarations.{Declared}
use Rattle.ale_graph.specs.Structures.{count, node_at, type_of}
use Rattle.ale_print.specs.declared.line.Place.{Place}
use Rattle.ale_print.specs.declared.line.Place.TheVariants.{Root, Value, Also}
use Rattle.ale_print.specs.declared.line.Shown.{Shown}
use Rattle.ale_print.specs.declared.line.Line.{Line}
use Rattle.ale_print.specs.declared.line.Stop.{Stop}
use Rattle.ale_print.specs.Walking.{level_below, stop_below, stops_below, line_of}
use Rattle.ale_print.specs.Tagging.{is_met_again}
use Rattle.ale_print.specs.Texts.{front, shown_text, line_text, pair_text}
use Rattle.ale_print.proofs.Spelled.{Look, look_text, AreSmall, same_look, bare_also, bare_pairs, also_pairs, cancel}
use Rattle.ale_print.proofs.Walks.{among, IsListed, Shows, nothing, another, once, met_after, following, paired, alsos, paired_also, values_alsos, Walks, ended, passed, lined}
use Rattle.ale_print.proofs.Linked.{Links, Valued, Rooted}
use Rattle.ale_print.proofs.Lockstep.{look, looks, look_small, Alike, alike, IsBare, Match, placed, bare, entry, entries, Sides, text_s, text_t, AreSides, AreLinked, lefts, rights, Joined, among_left, among_right, link, match_values, values_entered}

-- a line taken apart

regroup : (d : Declared) (names : List (List ℕ)) (type tag : ℕ → ℕ) (p : Place) (x : Shown) (r : List ℕ)
    → line_text d names type tag (line_of p x) ++ r ≡ front d names p ++ (look_text (look d type tag x) ++ 10 ∷ r)
regroup d names type tag p x r =
    append_assoc (front d names p) (shown_text d type tag x ++ codes "\n") r
    ∙ ap (λ (z : List ℕ). front d names p ++ z)
    (append_assoc (shown_text d type tag x) (codes "\n") r ∙ ap (λ (z : List ℕ). z ++ 10 ∷ r) (looks d type tag x))

-- a line is none of the pairs
never : (d : Declared) (names : List (List ℕ)) (type tag : ℕ → ℕ) → ((n : ℕ) → tag n < 10 ^ 64) → (p : Place) (x : Shown) (r : List ℕ) (ps : List (ℕ × ℕ))
    → IsBare names p → AreSmall ps → line_text d names type tag (line_of p x) ++ r ≡ flat_map pair_text ps → ⊥
never d names type tag small (Root i) x r ps b hp e =
    bare_pairs (look d type tag x) r ps (look_small d type tag small x) hp
    (ap (λ (z : List ℕ). z ++ (look_text (look d type tag x) ++ 10 ∷ r)) (sym b) ∙ sym (regroup d names type tag (Root i) x r) ∙ e)
never d names type tag small (Value level f) x r ps b hp e = b
never d names type tag small Also x r ps b hp e =
    also_pairs (look_text (look d type tag x) ++ 10 ∷ r) ps (sym (regroup d names type tag Also x r) ∙ e)

-- both are listed, or neither is
abbrev SameKind : Place → Place → Type 0
SameKind p q = (IsListed p × IsListed q) ⊎ ((p ≡ Also) × (q ≡ Also))

record Compared (a : Sides) (x y : Stop) (sx sy : Shown) (xs ys : List Stop) (rs rt : List ℕ) : Type 0 where
  alike : Alike a.d (type_of a.s) a.tag_s (type_of a.t) a.tag_t sx sy
  rest : rs ≡ rt
  matched : Match a.names xs ys
  level : level_below x.place ≡ level_below y.place
  kind : SameKind x.place y.place

bare_fronts : (d : Declared) (names : List (List ℕ)) (p q : Place) (u v : Look) (r s : List ℕ) → IsBare names p → IsBare names q
    → front d names p ++ (look_text u ++ 10 ∷ r) ≡ front d names q ++ (look_text v ++ 10 ∷ s)
    → (look_text u ++ 10 ∷ r ≡ look_text v ++ 10 ∷ s) × (level_below p ≡ level_below q) × SameKind p q
bare_fronts d names (Root i) (Root j) u v r s b c e =
    (ap (λ (z : List ℕ). z ++ (look_text u ++ 10 ∷ r)) (sym b) ∙ e ∙ ap (λ (z : List ℕ). z ++ (look_text v ++ 10 ∷ s)) c, refl, inl (tt, tt))
bare_fronts d names (Root i) Also u v r s b c e =
    absurd (bare_also u r (look_text v ++ 10 ∷ s) (ap (λ (z : List ℕ). z ++ (look_text u ++ 10 ∷ r)) (sym b) ∙ e))
bare_fronts d names Also (Root j) u v r s b c e =
    absurd (bare_also v s (look_text u ++ 10 ∷ r) (ap (λ (z : List ℕ). z ++ (look_text v ++ 10 ∷ s)) (sym c) ∙ sym e))
bare_fronts d names Also Also u v r s b c e = (cancel (codes "also ") (look_text u ++ 10 ∷ r) (look_text v ++ 10 ∷ s) e, refl, inr (refl, refl))
bare_fronts d names (Value level f) q u v r s b c e = absurd b
bare_fronts d names (Root i) (Value level f) u v r s b c e = absurd c
bare_fronts d names Also (Value level f) u v r s b c e = absurd c

fronts : (d : Declared) (names : List (List ℕ)) (x y : Stop) (xs ys : List Stop) (u v : Look) (r s : List ℕ) → Match names (x ∷ xs) (y ∷ ys)
    → front d names x.place ++ (look_text u ++ 10 ∷ r) ≡ front d names y.place ++ (look_text v ++ 10 ∷ s)
    → (look_text u ++ 10 ∷ r ≡ look_text v ++ 10 ∷ s) × (level_below x.place ≡ level_below y.place) × SameKind x.place y.place × Match names xs ys
fronts d names x y xs ys u v r s (placed _ _ _ _ p listed m) e = (
  cancel (front d names x.place) (look_text u ++ 10 ∷ r) (look_text v ++ 10 ∷ s) (e ∙ ap (λ (z : Place). front d names z ++ (look_text v ++ 10 ∷ s)) (sym p)),
  ap level_below p,
  inl (listed, subst IsListed p listed),
  m,
)
fronts d names x y xs ys u v r s (bare _ _ hx hy) e =
    let f = bare_fronts d names x.place y.place u v r s hx.0 hy.0 e in
    (f.0, f.1, f.2, bare xs ys hx.1 hy.1)

compare : (a : Sides) → AreSides a → (x y : Stop) (sx sy : Shown) (xs ys : List Stop) (rs rt : List ℕ) → Match a.names (x ∷ xs) (y ∷ ys)
    → line_text a.d a.names (type_of a.s) a.tag_s (line_of x.place sx) ++ rs ≡ line_text a.d a.names (type_of a.t) a.tag_t (line_of y.place sy) ++ rt
    → Compared a x y sx sy xs ys rs rt
compare a k x y sx sy xs ys rs rt m e =
    let u = look a.d (type_of a.s) a.tag_s sx in
    let v = look a.d (type_of a.t) a.tag_t sy in
    let f = fronts a.d a.names x y xs ys u v rs rt m
    (sym (regroup a.d a.names (type_of a.s) a.tag_s x.place sx rs) ∙ e ∙ regroup a.d a.names (type_of a.t) a.tag_t y.place sy rt) in
    let g = same_look u v rs rt (look_small a.d (type_of a.s) a.tag_s k.small_s sx) (look_small a.d (type_of a.t) a.tag_t k.small_t sy) f.0 in
    record {
      alike = alike a.d (type_of a.s) a.tag_s (type_of a.t) a.tag_t sx sy g.0;
      rest = g.1;
      matched = f.3;
      level = f.1;
      kind = f.2;
    }

-- one more stop on both sides

abbrev SamePoint : Links → Option ℕ → Option ℕ → Type 0
SamePoint f None None = Unit {0}
SamePoint f None (Some m) = ⊥
SamePoint f (Some n) None = ⊥
SamePoint f (Some n) (Some m) = Has f (n, m)

entry_listed : (p : Place) (m : Option ℕ) (os : List (Option ℕ)) → IsListed p → entry p m os ≡ m ∷ os
entry_listed (Root i) m os h = refl
entry_listed (Value level f) m os h = refl
entry_listed Also m os h = absurd h

rooted_more : (f : Links) (m k : Option ℕ) (os us : List (Option ℕ)) → SamePoint f m k → Rooted f os us → Rooted f (m ∷ os) (k ∷ us)
rooted_more f None None os us h r = r
rooted_more f None (Some m) os us h r = h
rooted_more f (Some n) None os us h r = h
rooted_more f (Some n) (Some m) os us h r = (h, r)

enter : (f : Links) (p q : Place) (m k : Option ℕ) (os us : List (Option ℕ)) → SameKind p q → SamePoint f m k → Rooted f os us → Rooted f (entry p m os) (entry q k us)
enter f p q m k os us (inl both) h r =
    subst (λ (z : List (Option ℕ)). Rooted f z (entry q k us)) (sym (entry_listed p m os both.0))
    (subst (λ (z : List (Option ℕ)). Rooted f (m ∷ os) z) (sym (entry_listed q k us both.1)) (rooted_more f m k os us h r))
enter f p q m k os us (inr both) h r =
    subst (λ (z : Place). Rooted f (entry z m os) (entry q k us)) (sym both.0)
    (subst (λ (z : Place). Rooted f os (entry z k us)) (sym both.1) r)

cover_left : (f : Links) (p : Place) (m k : Option ℕ) (ns : List ℕ) → SamePoint f m k → ((n : ℕ) → Has ns n → (j : ℕ) × Has f (n, j)) → (n : ℕ) → Has (paired p m ns) n → (j : ℕ) × Has f (n, j)
cover_left f (Root i) m k ns h c n x = c n x
cover_left f (Value level g) m k ns h c n x = c n x
cover_left f Also None k ns h c n x = c n x
cover_left f Also (Some b) None ns h c n x = absurd h
cover_left f Also (Some b) (Some e) ns h c n (inl same) = (e, subst (λ z. Has f (z, e)) (sym same) h)
cover_left f Also (Some b) (Some e) ns h c n (inr x) = c n x

cover_right : (f : Links) (q : Place) (m k : Option ℕ) (ns : List ℕ) → SamePoint f m k → ((j : ℕ) → Has ns j → (n : ℕ) × Has f (n, j)) → (j : ℕ) → Has (paired q k ns) j → (n : ℕ) × Has f (n, j)
cover_right f (Root i) m k ns h c j x = c j x
cover_right f (Value level g) m k ns h c j x = c j x
cover_right f Also m None ns h c j x = c j x
cover_right f Also None (Some e) ns h c j x = absurd h
cover_right f Also (Some b) (Some e) ns h c j (inl same) = (b, subst (λ z. Has f (b, z)) (sym same) h)
cover_right f Also (Some b) (Some e) ns h c j (inr x) = c j x

onto : (a : Sides) (before : Links) (x y : Stop) (xs ys : List Stop) (rs rt : List ℕ) → (r : Joined a before xs ys rs rt) → SameKind x.place y.place
    → SamePoint r.f x.node y.node → Joined a before (x ∷ xs) (y ∷ ys) rs rt
onto a before x y xs ys rs rt r kind point = record {
  f = r.f;
  grows = r.grows;
  linked = r.linked;
  entered = enter r.f x.place y.place x.node y.node (entries xs) (entries ys) kind point r.entered;
  left = cover_left r.f x.place x.node y.node (alsos xs) point r.left;
  right = cover_right r.f y.place x.node y.node (alsos ys) point r.right;
  new = r.new;
  rest = r.rest;
}

-- a node of a pair that is passed on one side

entry_also : (p : Place) (m : Option ℕ) (os : List (Option ℕ)) → p ≡ Also → entry p m os ≡ os
entry_also p m os e = ap (λ (z : Place). entry z m os) e

pass_left : (a : Sides) (before : Links) (x : Stop) (n : ℕ) (xs ys : List Stop) (rs rt : List ℕ) → x.place ≡ Also → x.node ≡ Some n → ((m : ℕ) × Has before (n, m))
    → Joined a before xs ys rs rt → Joined a before (x ∷ xs) ys rs rt
pass_left a before x n xs ys rs rt p e link r = record {
  f = r.f;
  grows = r.grows;
  linked = r.linked;
  entered = subst (λ (z : List (Option ℕ)). Rooted r.f z (entries ys)) (sym (entry_also x.place x.node (entries xs) p)) r.entered;
  left = λ k h. go k (subst (λ (z : List ℕ). Has z k) (paired_also x.place x.node n (alsos xs) p e) h);
  right = r.right;
  new = r.new;
  rest = r.rest;
}
  where
    go : (k : ℕ) → (k ≡ n) ⊎ Has (alsos xs) k → (m : ℕ) × Has r.f (k, m)
    go k (inl same) = (link.0, subst (λ z. Has r.f (z, link.0)) (sym same) (r.grows n link.0 link.1))
    go k (inr h) = r.left k h

pass_right : (a : Sides) (before : Links) (y : Stop) (m : ℕ) (xs ys : List Stop) (rs rt : List ℕ) → y.place ≡ Also → y.node ≡ Some m → ((n : ℕ) × Has before (n, m))
    → Joined a before xs ys rs rt → Joined a before xs (y ∷ ys) rs rt
pass_right a before y m xs ys rs rt p e link r = record {
  f = r.f;
  grows = r.grows;
  linked = r.linked;
  entered = subst (λ (z : List (Option ℕ)). Rooted r.f (entries xs) z) (sym (entry_also y.place y.node (entries ys) p)) r.entered;
  left = r.left;
  right = λ k h. go k (subst (λ (z : List ℕ). Has z k) (paired_also y.place y.node m (alsos ys) p e) h);
  new = r.new;
  rest = r.rest;
}
  where
    go : (k : ℕ) → (k ≡ m) ⊎ Has (alsos ys) k → (n : ℕ) × Has r.f (n, k)
    go k (inl same) = (link.0, subst (λ z. Has r.f (link.0, z)) (sym same) (r.grows link.0 m link.1))
    go k (inr h) = r.right k h

tail_left : (names : List (List ℕ)) (x : Stop) (xs ys : List Stop) → x.place ≡ Also → Match names (x ∷ xs) ys → Match names xs ys
tail_left names x xs ys p (placed _ _ _ _ q listed m) = absurd (subst IsListed p listed)
tail_left names x xs ys p (bare _ _ hx hy) = bare xs ys hx.1 hy

tail_right : (names : List (List ℕ)) (y : Stop) (xs ys : List Stop) → y.place ≡ Also → Match names xs (y ∷ ys) → Match names xs ys
tail_right names y xs ys p (placed _ _ _ _ q listed m) = absurd (subst IsListed (q ∙ p) listed)
tail_right names y xs ys p (bare _ _ hx hy) = bare xs ys hx hy.1

-- nodes met for the first time on both sides
first_both : (a : Sides) → AreSides a → (before : Links) (x y : Stop) (n m : ℕ) (xs ys : List Stop) (rs rt : List ℕ)
    → n < count a.s → m < count a.t → x.node ≡ Some n → y.node ≡ Some m → SameKind x.place y.place → level_below x.place ≡ level_below y.place → type_of a.s n ≡ type_of a.t m
    → Joined a ((n, m) ∷ before) (stops_below a.s x.place n ++ xs) (stops_below a.t y.place m ++ ys) rs rt → Joined a before (x ∷ xs) (y ∷ ys) rs rt
first_both a k before x y n m xs ys rs rt low low_too e f kind level type r =
    onto a before x y xs ys rs rt inner kind (subst (λ (z : Option ℕ). SamePoint r.f z y.node) (sym e) (subst (λ (z : Option ℕ). SamePoint r.f (Some n) z) (sym f) here))
  where
    vs : List (ℕ × ℕ)
    vs = (node_at a.s n).values

    ws : List (ℕ × ℕ)
    ws = (node_at a.t m).values

    here : Has r.f (n, m)
    here = r.grows n m (inl refl)

    split : Valued r.f (node_at a.s n).values (node_at a.t m).values × Rooted r.f (entries xs) (entries ys)
    split = values_entered r.f (level_below x.place) (node_at a.s n).values (node_at a.t m).values xs ys (k.features n m low low_too type)
        (subst (λ j. Rooted r.f (entries (stops_below a.s x.place n ++ xs)) (entries (map (stop_below j) (node_at a.t m).values ++ ys))) (sym level) r.entered)

    fresh : (b c : ℕ) → Has ((n, m) ∷ before) (b, c) ⊎ Valued r.f (node_at a.s b).values (node_at a.t c).values → Has before (b, c) ⊎ Valued r.f (node_at a.s b).values (node_at a.t c).values
    fresh b c (inl (inl same)) =
        inr (subst (λ (z : ℕ × ℕ). Valued r.f (node_at a.s z.0).values (node_at a.t z.1).values) (sym same) split.0)
    fresh b c (inl (inr h)) = inl h
    fresh b c (inr h) = inr h

    inner : Joined a before xs ys rs rt
    inner = record {
      f = r.f;
      grows = λ b c h. r.grows b c (inr h);
      linked = r.linked;
      entered = split.1;
      left = λ b h. r.left b (subst (λ (z : List ℕ). Has z b) (sym (values_alsos (level_below x.place) (node_at a.s n).values xs)) h);
      right = λ c h. r.right c (subst (λ (z : List ℕ). Has z c) (sym (values_alsos (level_below y.place) (node_at a.t m).values ys)) h);
      new = λ b c h. fresh b c (r.new b c h);
      rest = r.rest;
    }

-- the walks

-- what is to be shown of a walk on the left, with any on the right
abbrev Locks : (a : Sides) → List (ℕ × ℕ) → List (ℕ × ℕ) → List ℕ → List Stop → List Line → Type 0
Locks a ps qs met_s xs ls =
    (met_t : List ℕ) (ys : List Stop) (lt : List Line) → Walks a.t met_t ys lt
    → (f : Links) → met_s ≡ lefts f → met_t ≡ rights f → AreLinked a f → Match a.names xs ys
    → ((n : ℕ) → is_met_again ls n ≡ true → 0 < a.tag_s n)
    → text_s a ls ++ flat_map pair_text ps ≡ text_t a lt ++ flat_map pair_text qs
    → Joined a f xs ys (flat_map pair_text ps) (flat_map pair_text qs)

at_end : (a : Sides) → AreSides a → (ps qs : List (ℕ × ℕ)) → AreSmall ps → AreSmall qs → (met : List ℕ) → Locks a ps qs met [] []
at_end a k ps qs hp hq met _ _ _ (ended _) f ms mt l m again e = record {
  f = f;
  grows = λ n j h. h;
  linked = l;
  entered = tt;
  left = λ n h. absurd h;
  right = λ n h. absurd h;
  new = λ n j h. inl h;
  rest = e;
}
at_end a k ps qs hp hq met _ _ _ (passed met_t y j ys lt p node h w) f ms mt l m again e =
    pass_right a f y j [] ys (flat_map pair_text ps) (flat_map pair_text qs) p node (among_right f j (subst (λ (z : List ℕ). among z j ≡ true) mt h))
    (at_end a k ps qs hp hq met met_t ys lt w f ms mt l (tail_right a.names y [] ys p m) again e)
at_end a k ps qs hp hq met _ _ _ (lined met_t y sy ys lt sh w) f ms mt l (bare _ _ hx hy) again e =
    absurd (never a.d a.names (type_of a.t) a.tag_t k.small_t y.place sy (text_t a lt ++ flat_map pair_text qs) ps hy.0 hp
    (sym (append_assoc (line_text a.d a.names (type_of a.t) a.tag_t (line_of y.place sy)) (text_t a lt) (flat_map pair_text qs)) ∙ sym e))

or_right : (b c : Bool) → c ≡ true → (b || c) ≡ true
or_right true c h = refl
or_right false c h = h

-- one line on both sides
step : (a : Sides) → AreSides a → (ps qs : List (ℕ × ℕ)) (met_s met_t : List ℕ) (x y : Stop) (sx sy : Shown) (xs ys : List Stop) (ls lt : List Line)
    → Shows (count a.s) met_s x sx → Shows (count a.t) met_t y sy → Locks a ps qs (met_after sx met_s) (following a.s x.place sx xs) ls
    → Walks a.t (met_after sy met_t) (following a.t y.place sy ys) lt
    → (f : Links) → met_s ≡ lefts f → met_t ≡ rights f → AreLinked a f
    → ((n : ℕ) → is_met_again (line_of x.place sx ∷ ls) n ≡ true → 0 < a.tag_s n)
    → Compared a x y sx sy xs ys (text_s a ls ++ flat_map pair_text ps) (text_t a lt ++ flat_map pair_text qs)
    → Joined a f (x ∷ xs) (y ∷ ys) (flat_map pair_text ps) (flat_map pair_text qs)
step a k ps qs met_s met_t x y _ _ xs ys ls lt (nothing e) (nothing g) ih w f ms mt l again c =
    let r = ih met_t ys lt w f ms mt l c.matched (λ n h. again n h) c.rest in
    onto a f x y xs ys (flat_map pair_text ps) (flat_map pair_text qs) r c.kind
    (subst (λ (z : Option ℕ). SamePoint r.f z y.node) (sym e) (subst (λ (z : Option ℕ). SamePoint r.f None z) (sym g) tt))
step a k ps qs met_s met_t x y _ _ xs ys ls lt (another n e h listed) (another m g i listed_too) ih w f ms mt l again c =
    let r = ih met_t ys lt w f ms mt l c.matched (λ j t. again j (or_right (eqb j n) (is_met_again ls j) t)) c.rest in
    let old = among_left f n (subst (λ (z : List ℕ). among z n ≡ true) ms h) in
    let there : 0 < a.tag_s n = again n (ap (λ b. b || is_met_again ls n) (eq-eqb n n refl)) in
    let tag = l.tags n old.0 old.1 in
    let same : old.0 ≡ m = k.one_t old.0 m (subst (λ z. 0 < z) tag there) (sym tag ∙ c.alike) in
    let linked : Has r.f (n, m) = r.grows n m (subst (λ z. Has f (n, z)) same old.1) in
    onto a f x y xs ys (flat_map pair_text ps) (flat_map pair_text qs) r c.kind
    (subst (λ (z : Option ℕ). SamePoint r.f z y.node) (sym e) (subst (λ (z : Option ℕ). SamePoint r.f (Some n) z) (sym g) linked))
step a k ps qs met_s met_t x y _ _ xs ys ls lt (once n e h low) (once m g i low_too) ih w f ms mt l again c =
    let type = k.types n m c.alike.1 in
    let l_then = link a f n m l (subst (λ (z : List ℕ). among z n ≡ false) ms h) (subst (λ (z : List ℕ). among z m ≡ false) mt i) c.alike.0 type in
    let matched : Match a.names (stops_below a.s x.place n ++ xs) (stops_below a.t y.place m ++ ys) =
    subst (λ j. Match a.names (stops_below a.s x.place n ++ xs) (map (stop_below j) (node_at a.t m).values ++ ys)) c.level
    (match_values a.names (level_below x.place) (node_at a.s n).values (node_at a.t m).values xs ys (k.features n m low low_too type) c.matched) in
    let r = ih (m ∷ met_t) (stops_below a.t y.place m ++ ys) lt w ((n, m) ∷ f) (ap (λ (z : List ℕ). n ∷ z) ms) (ap (λ (z : List ℕ). m ∷ z) mt) l_then matched (λ j t. again j t) c.rest in
    first_both a k f x y n m xs ys (flat_map pair_text ps) (flat_map pair_text qs) low low_too e g c.kind c.level type r
step a k ps qs met_s met_t x y _ _ xs ys ls lt (nothing e) (another m g i listed_too) ih w f ms mt l again c = absurd c.alike
step a k ps qs met_s met_t x y _ _ xs ys ls lt (nothing e) (once m g i low) ih w f ms mt l again c = absurd c.alike
step a k ps qs met_s met_t x y _ _ xs ys ls lt (another n e h listed) (nothing g) ih w f ms mt l again c = absurd c.alike
step a k ps qs met_s met_t x y _ _ xs ys ls lt (another n e h listed) (once m g i low) ih w f ms mt l again c = absurd c.alike
step a k ps qs met_s met_t x y _ _ xs ys ls lt (once n e h low) (nothing g) ih w f ms mt l again c = absurd c.alike
step a k ps qs met_s met_t x y _ _ xs ys ls lt (once n e h low) (another m g i listed_too) ih w f ms mt l again c = absurd c.alike

at_line : (a : Sides) → AreSides a → (ps qs : List (ℕ × ℕ)) → AreSmall ps → AreSmall qs → (met_s : List ℕ) (x : Stop) (sx : Shown) (xs : List Stop) (ls : List Line)
    → Shows (count a.s) met_s x sx → Locks a ps qs (met_after sx met_s) (following a.s x.place sx xs) ls → Locks a ps qs met_s (x ∷ xs) (line_of x.place sx ∷ ls)
at_line a k ps qs hp hq met_s x sx xs ls sh ih _ _ _ (ended _) f ms mt l (bare _ _ hx hy) again e =
    absurd (never a.d a.names (type_of a.s) a.tag_s k.small_s x.place sx (text_s a ls ++ flat_map pair_text ps) qs hx.0 hq
    (sym (append_assoc (line_text a.d a.names (type_of a.s) a.tag_s (line_of x.place sx)) (text_s a ls) (flat_map pair_text ps)) ∙ e))
at_line a k ps qs hp hq met_s x sx xs ls sh ih _ _ _ (passed met_t y j ys lt p node h w) f ms mt l m again e =
    pass_right a f y j (x ∷ xs) ys (flat_map pair_text ps) (flat_map pair_text qs) p node (among_right f j (subst (λ (z : List ℕ). among z j ≡ true) mt h))
    (at_line a k ps qs hp hq met_s x sx xs ls sh ih met_t ys lt w f ms mt l (tail_right a.names y (x ∷ xs) ys p m) again e)
at_line a k ps qs hp hq met_s x sx xs ls sh ih _ _ _ (lined met_t y sy ys lt sh_t w) f ms mt l m again e =
    step a k ps qs met_s met_t x y sx sy xs ys ls lt sh sh_t ih w f ms mt l again
    (compare a k x y sx sy xs ys (text_s a ls ++ flat_map pair_text ps) (text_t a lt ++ flat_map pair_text qs) m
    (sym (append_assoc (line_text a.d a.names (type_of a.s) a.tag_s (line_of x.place sx)) (text_s a ls) (flat_map pair_text ps)) ∙ e
    ∙ append_assoc (line_text a.d a.names (type_of a.t) a.tag_t (line_of y.place sy)) (text_t a lt) (flat_map pair_text qs)))

pub locks : (a : Sides) → AreSides a → (ps qs : List (ℕ × ℕ)) → AreSmall ps → AreSmall qs → (met_s : List ℕ) (xs : List Stop) (ls : List Line) → Walks a.s met_s xs ls → Locks a ps qs met_s xs ls
locks a k ps qs hp hq _ _ _ (ended met) = at_end a k ps qs hp hq met
locks a k ps qs hp hq _ _ _ (passed met x n xs ls p node h w) = λ met_t ys lt v f ms mt l m again e.
    pass_left a f x n xs ys (flat_map pair_text ps) (flat_map pair_text qs) p node (among_left f n (subst (λ (z : List ℕ). among z n ≡ true) ms h))
    (locks a k ps qs hp hq met xs ls w met_t ys lt v f ms mt l (tail_left a.names x xs ys p m) again e)
locks a k ps qs hp hq _ _ _ (lined met x sx xs ls sh w) =
    at_line a k ps qs hp hq met x sx xs ls sh (locks a k ps qs hp hq (met_after sx met) (following a.s x.place sx xs) ls w)

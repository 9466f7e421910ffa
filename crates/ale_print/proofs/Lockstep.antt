-- Two walks whose texts are one go step by step through linked nodes.
use Rattle.std.proofs.Common.{◌≡◌, ℕ, ◌<◌, ◌^◌, Bool, true, false, ◌||◌, eqb, Option, List, [], ◌∷◌, ◌++◌, map, codes, ◌⊎◌, inl, inr, refl, sym, ap, ◌∙◌, append_assoc}
use Rattle.std.specs.Prelude.{if◌then◌else◌, slice_get}
use Rattle.std.specs.List.{flat_map}
use Rattle.std.proofs.lemmas.Bool.{eq-eqb, eqb-true}
use Rattle.ale_declared.specs.Lists.{Has}
use Rattle.ale_declared.specs.Declarations.{Declared}
use Rattle.ale_declared.specs.Names.{name_of}
use Rattle.ale_graph.specs.Structures.{Structure, count, node_at, type_of}
use Rattle.ale_print.specs.declared.line.Place.{Place}
use Rattle.ale_print.specs.declared.line.Place.TheVariants.{Root, Value, Also}
use Rattle.ale_print.specs.declared.line.Shown.{Shown}
use Rattle.ale_print.specs.declared.line.Shown.TheVariants.{Unbound, First, Again}
use Rattle.ale_print.specs.declared.line.Line.{Line}
use Rattle.ale_print.specs.declared.line.Stop.{Stop}
use Rattle.ale_print.specs.Naming.{printed_name}
use Rattle.ale_print.specs.Walking.{stop_below}
use Rattle.ale_print.specs.Texts.{root_front, tag_text, shown_text, line_text}
use Rattle.ale_print.proofs.Spelled.{Look, blank, tagged, typed, both_of, look_text, IsSmall}
use Rattle.ale_print.proofs.Walks.{among, IsListed, alsos}
use Rattle.ale_print.proofs.Linked.{Links, Valued, Rooted}

-- what a line shows, as data

abbrev pub first_look : ℕ → List ℕ → Look
first_look k w = if eqb k 0 then typed w else both_of k w

abbrev pub look : Declared → (ℕ → ℕ) → (ℕ → ℕ) → Shown → Look
look d type tag Unbound = blank
look d type tag (First n) = first_look (tag n) (name_of d.types (type n))
look d type tag (Again n) = tagged (tag n)

pub looks : (d : Declared) (type tag : ℕ → ℕ) (x : Shown) → shown_text d type tag x ≡ look_text (look d type tag x)
looks d type tag Unbound = refl
looks d type tag (Again n) = refl
looks d type tag (First n) = go (eqb (tag n) 0)
  where
    go : (b : Bool) → (if b then [] else tag_text (tag n) ++ codes " ") ++ printed_name (name_of d.types (type n))
        ≡ look_text (if b then typed (name_of d.types (type n)) else both_of (tag n) (name_of d.types (type n)))
    go true = refl
    go false = append_assoc (tag_text (tag n)) (codes " ") (printed_name (name_of d.types (type n)))

pub look_small : (d : Declared) (type tag : ℕ → ℕ) → ((n : ℕ) → tag n < 10 ^ 64) → (x : Shown) → IsSmall (look d type tag x)
look_small d type tag small Unbound = tt
look_small d type tag small (Again n) = small n
look_small d type tag small (First n) = go (eqb (tag n) 0)
  where
    go : (b : Bool) → IsSmall (if b then typed (name_of d.types (type n)) else both_of (tag n) (name_of d.types (type n)))
    go true = tt
    go false = small n

-- both show the same, but for the numbers of nodes
abbrev pub Alike : Declared → (ℕ → ℕ) → (ℕ → ℕ) → (ℕ → ℕ) → (ℕ → ℕ) → Shown → Shown → Type 0
Alike d type_s tag_s type_t tag_t Unbound Unbound = Unit {0}
Alike d type_s tag_s type_t tag_t (First n) (First m) = (tag_s n ≡ tag_t m) × (name_of d.types (type_s n) ≡ name_of d.types (type_t m))
Alike d type_s tag_s type_t tag_t (Again n) (Again m) = tag_s n ≡ tag_t m
Alike d type_s tag_s type_t tag_t Unbound (First m) = ⊥
Alike d type_s tag_s type_t tag_t Unbound (Again m) = ⊥
Alike d type_s tag_s type_t tag_t (First n) Unbound = ⊥
Alike d type_s tag_s type_t tag_t (First n) (Again m) = ⊥
Alike d type_s tag_s type_t tag_t (Again n) Unbound = ⊥
Alike d type_s tag_s type_t tag_t (Again n) (First m) = ⊥

abbrev tag_in_look : Look → ℕ
tag_in_look blank = 0
tag_in_look (tagged k) = k
tag_in_look (typed w) = 0
tag_in_look (both_of k w) = k

abbrev name_in_look : Look → List ℕ
name_in_look blank = []
name_in_look (tagged k) = []
name_in_look (typed w) = w
name_in_look (both_of k w) = w

abbrev kind_of_look : Look → ℕ
kind_of_look blank = 0
kind_of_look (tagged k) = 1
kind_of_look (typed w) = 2
kind_of_look (both_of k w) = 2

first_parts : (k : ℕ) (w : List ℕ) → (tag_in_look (first_look k w) ≡ k) × (name_in_look (first_look k w) ≡ w) × (kind_of_look (first_look k w) ≡ 2)
first_parts k w = go (eqb k 0) refl
  where
    go : (b : Bool) → eqb k 0 ≡ b → (tag_in_look (if b then typed w else both_of k w) ≡ k) × (name_in_look (if b then typed w else both_of k w) ≡ w) × (kind_of_look (if b then typed w else both_of k w) ≡ 2)
    go true e = (sym (eqb-true k 0 e), refl, refl)
    go false e = (refl, refl, refl)

pub kinds : (i j : ℕ) → eqb i j ≡ false → i ≡ j → ⊥
kinds i j h e = let f : true ≡ false = sym (eq-eqb i j e) ∙ h in absurd cc

pub alike : (d : Declared) (type_s tag_s type_t tag_t : ℕ → ℕ) (x y : Shown) → look d type_s tag_s x ≡ look d type_t tag_t y → Alike d type_s tag_s type_t tag_t x y
alike d type_s tag_s type_t tag_t Unbound Unbound e = tt
alike d type_s tag_s type_t tag_t (First n) (First m) e =
    let a = first_parts (tag_s n) (name_of d.types (type_s n)) in
    let b = first_parts (tag_t m) (name_of d.types (type_t m)) in
    (sym a.0 ∙ ap tag_in_look e ∙ b.0, sym a.1 ∙ ap name_in_look e ∙ b.1)
alike d type_s tag_s type_t tag_t (Again n) (Again m) e = ap tag_in_look e
alike d type_s tag_s type_t tag_t Unbound (First m) e =
    absurd (kinds 0 2 refl (ap kind_of_look e ∙ (first_parts (tag_t m) (name_of d.types (type_t m))).2))
alike d type_s tag_s type_t tag_t Unbound (Again m) e = absurd (kinds 0 1 refl (ap kind_of_look e))
alike d type_s tag_s type_t tag_t (First n) Unbound e =
    absurd (kinds 2 0 refl (sym (first_parts (tag_s n) (name_of d.types (type_s n))).2 ∙ ap kind_of_look e))
alike d type_s tag_s type_t tag_t (First n) (Again m) e =
    absurd (kinds 2 1 refl (sym (first_parts (tag_s n) (name_of d.types (type_s n))).2 ∙ ap kind_of_look e))
alike d type_s tag_s type_t tag_t (Again n) Unbound e = absurd (kinds 1 0 refl (ap kind_of_look e))
alike d type_s tag_s type_t tag_t (Again n) (First m) e =
    absurd (kinds 1 2 refl (ap kind_of_look e ∙ (first_parts (tag_t m) (name_of d.types (type_t m))).2))

-- stops that stand in the same places; from some on, bare roots and nodes of pairs

abbrev pub IsBare : List (List ℕ) → Place → Type 0
IsBare names (Root i) = root_front (slice_get names i) ≡ []
IsBare names (Value level f) = ⊥
IsBare names Also = Unit {0}

abbrev pub AreBare : List (List ℕ) → List Stop → Type 0
AreBare names [] = Unit {0}
AreBare names (x ∷ xs) = IsBare names x.place × AreBare names xs

pub data Match (names : List (List ℕ)) : List Stop → List Stop → Type 0 where
  placed : (x y : Stop) (xs ys : List Stop) → x.place ≡ y.place → IsListed x.place → Match names xs ys → Match names (x ∷ xs) (y ∷ ys)
  bare : (xs ys : List Stop) → AreBare names xs → AreBare names ys → Match names xs ys

-- the nodes of listed stops
abbrev pub entry : Place → Option ℕ → List (Option ℕ) → List (Option ℕ)
entry (Root i) m os = m ∷ os
entry (Value level f) m os = m ∷ os
entry Also m os = os

abbrev pub entries : List Stop → List (Option ℕ)
entries [] = []
entries (x ∷ xs) = entry x.place x.node (entries xs)

-- what the two sides are
pub record Sides : Type 0 where
  pub d : Declared
  pub names : List (List ℕ)
  pub s : Structure
  pub t : Structure
  pub tag_s : ℕ → ℕ
  pub tag_t : ℕ → ℕ

abbrev pub text_s : Sides → List Line → List ℕ
text_s a ls = flat_map (line_text a.d a.names (type_of a.s) a.tag_s) ls

abbrev pub text_t : Sides → List Line → List ℕ
text_t a ls = flat_map (line_text a.d a.names (type_of a.t) a.tag_t) ls

-- what is known of the two sides
pub record AreSides (a : Sides) : Type 0 where
  pub small_s : (n : ℕ) → a.tag_s n < 10 ^ 64
  pub small_t : (n : ℕ) → a.tag_t n < 10 ^ 64
  pub one_s : (n m : ℕ) → 0 < a.tag_s n → a.tag_s n ≡ a.tag_s m → n ≡ m
  pub one_t : (n m : ℕ) → 0 < a.tag_t n → a.tag_t n ≡ a.tag_t m → n ≡ m
  pub types : (n m : ℕ) → name_of a.d.types (type_of a.s n) ≡ name_of a.d.types (type_of a.t m) → type_of a.s n ≡ type_of a.t m
  pub features : (n m : ℕ) → n < count a.s → m < count a.t → type_of a.s n ≡ type_of a.t m → map (λ v. v.0) (node_at a.s n).values ≡ map (λ v. v.0) (node_at a.t m).values

-- nodes that have been linked
pub record AreLinked (a : Sides) (f : Links) : Type 0 where
  pub one : (n m k : ℕ) → Has f (n, m) → Has f (n, k) → m ≡ k
  pub other : (n m k : ℕ) → Has f (n, k) → Has f (m, k) → n ≡ m
  pub tags : (n m : ℕ) → Has f (n, m) → a.tag_s n ≡ a.tag_t m
  pub types : (n m : ℕ) → Has f (n, m) → type_of a.s n ≡ type_of a.t m

abbrev pub lefts : Links → List ℕ
lefts [] = []
lefts (p ∷ ps) = p.0 ∷ lefts ps

abbrev pub rights : Links → List ℕ
rights [] = []
rights (p ∷ ps) = p.1 ∷ rights ps

-- what comes of two walks with one text, from these links on
pub record Joined (a : Sides) (before : Links) (xs ys : List Stop) (rest_s rest_t : List ℕ) : Type 0 where
  pub f : Links
  pub grows : (n m : ℕ) → Has before (n, m) → Has f (n, m)
  pub linked : AreLinked a f
  pub entered : Rooted f (entries xs) (entries ys)
  pub left : (n : ℕ) → Has (alsos xs) n → (m : ℕ) × Has f (n, m)
  pub right : (m : ℕ) → Has (alsos ys) m → (n : ℕ) × Has f (n, m)
  pub new : (n m : ℕ) → Has f (n, m) → Has before (n, m) ⊎ Valued f (node_at a.s n).values (node_at a.t m).values
  pub rest : rest_s ≡ rest_t

-- links

false_true : false ≡ true → ⊥
false_true e = absurd cc

pub among_left : (f : Links) (n : ℕ) → among (lefts f) n ≡ true → (m : ℕ) × Has f (n, m)
among_left [] n h = absurd (false_true h)
among_left (p ∷ ps) n h = go (eqb n p.0) refl h (among_left ps n)
  where
    go : (b : Bool) → eqb n p.0 ≡ b → (b || among (lefts ps) n) ≡ true → (among (lefts ps) n ≡ true → (m : ℕ) × Has ps (n, m)) → (m : ℕ) × Has (p ∷ ps) (n, m)
    go true e k ih = let same : n ≡ p.0 = eqb-true n p.0 e in (p.1, inl (λ i. (same i, p.1)))
    go false e k ih = let r = ih k in (r.0, inr r.1)

pub among_right : (f : Links) (m : ℕ) → among (rights f) m ≡ true → (n : ℕ) × Has f (n, m)
among_right [] m h = absurd (false_true h)
among_right (p ∷ ps) m h = go (eqb m p.1) refl h (among_right ps m)
  where
    go : (b : Bool) → eqb m p.1 ≡ b → (b || among (rights ps) m) ≡ true → (among (rights ps) m ≡ true → (n : ℕ) × Has ps (n, m)) → (n : ℕ) × Has (p ∷ ps) (n, m)
    go true e k ih = let same : m ≡ p.1 = eqb-true m p.1 e in (p.0, inl (λ i. (p.0, same i)))
    go false e k ih = let r = ih k in (r.0, inr r.1)

left_among : (f : Links) (n m : ℕ) → Has f (n, m) → among (lefts f) n ≡ true
left_among [] n m h = absurd h
left_among (p ∷ ps) n m (inl e) = ap (λ b. b || among (lefts ps) n) (eq-eqb n p.0 (ap (λ (z : ℕ × ℕ). z.0) e))
left_among (p ∷ ps) n m (inr h) = go (eqb n p.0) (left_among ps n m h)
  where
    go : (b : Bool) → among (lefts ps) n ≡ true → (b || among (lefts ps) n) ≡ true
    go true k = refl
    go false k = k

right_among : (f : Links) (n m : ℕ) → Has f (n, m) → among (rights f) m ≡ true
right_among [] n m h = absurd h
right_among (p ∷ ps) n m (inl e) = ap (λ b. b || among (rights ps) m) (eq-eqb m p.1 (ap (λ (z : ℕ × ℕ). z.1) e))
right_among (p ∷ ps) n m (inr h) = go (eqb m p.1) (right_among ps n m h)
  where
    go : (b : Bool) → among (rights ps) m ≡ true → (b || among (rights ps) m) ≡ true
    go true k = refl
    go false k = k

-- two more nodes are linked
pub link : (a : Sides) (f : Links) (n m : ℕ) → AreLinked a f → among (lefts f) n ≡ false → among (rights f) m ≡ false → a.tag_s n ≡ a.tag_t m → type_of a.s n ≡ type_of a.t m
    → AreLinked a ((n, m) ∷ f)
link a f n m l nl nr tag type = record { one = one; other = other; tags = tags; types = types }
  where
    first : {b c e g : ℕ} → ◌≡◌ {A = ℕ × ℕ} (b, c) (e, g) → b ≡ e
    first q = ap (λ (z : ℕ × ℕ). z.0) q

    second : {b c e g : ℕ} → ◌≡◌ {A = ℕ × ℕ} (b, c) (e, g) → c ≡ g
    second q = ap (λ (z : ℕ × ℕ). z.1) q

    one : (b c e : ℕ) → Has ((n, m) ∷ f) (b, c) → Has ((n, m) ∷ f) (b, e) → c ≡ e
    one b c e (inl p) (inl q) = second p ∙ sym (second q)
    one b c e (inl p) (inr q) = absurd (false_true (sym nl ∙ ap (among (lefts f)) (sym (first p)) ∙ left_among f b e q))
    one b c e (inr p) (inl q) = absurd (false_true (sym nl ∙ ap (among (lefts f)) (sym (first q)) ∙ left_among f b c p))
    one b c e (inr p) (inr q) = l.one b c e p q

    other : (b c e : ℕ) → Has ((n, m) ∷ f) (b, e) → Has ((n, m) ∷ f) (c, e) → b ≡ c
    other b c e (inl p) (inl q) = first p ∙ sym (first q)
    other b c e (inl p) (inr q) = absurd (false_true (sym nr ∙ ap (among (rights f)) (sym (second p)) ∙ right_among f c e q))
    other b c e (inr p) (inl q) = absurd (false_true (sym nr ∙ ap (among (rights f)) (sym (second q)) ∙ right_among f b e p))
    other b c e (inr p) (inr q) = l.other b c e p q

    tags : (b c : ℕ) → Has ((n, m) ∷ f) (b, c) → a.tag_s b ≡ a.tag_t c
    tags b c (inl p) = ap a.tag_s (first p) ∙ tag ∙ ap a.tag_t (sym (second p))
    tags b c (inr p) = l.tags b c p

    types : (b c : ℕ) → Has ((n, m) ∷ f) (b, c) → type_of a.s b ≡ type_of a.t c
    types b c (inl p) = ap (type_of a.s) (first p) ∙ type ∙ ap (type_of a.t) (sym (second p))
    types b c (inr p) = l.types b c p

-- the values of linked nodes

pub match_values : (names : List (List ℕ)) (level : ℕ) (vs ws : List (ℕ × ℕ)) (xs ys : List Stop) → map (λ v. v.0) vs ≡ map (λ v. v.0) ws → Match names xs ys
    → Match names (map (stop_below level) vs ++ xs) (map (stop_below level) ws ++ ys)
match_values names level [] [] xs ys e m = m
match_values names level [] (w ∷ ws) xs ys e m = absurd (nothing_more e)
  where
    nothing_more : {c : ℕ} {cs : List ℕ} → [] ≡ c ∷ cs → ⊥
    nothing_more e = absurd cc
match_values names level (v ∷ vs) [] xs ys e m = absurd (nothing_more (sym e))
  where
    nothing_more : {c : ℕ} {cs : List ℕ} → [] ≡ c ∷ cs → ⊥
    nothing_more e = absurd cc
match_values names level (v ∷ vs) (w ∷ ws) xs ys e m =
    let head : v.0 ≡ w.0 = cc in
    let tail : map (λ v. v.0) vs ≡ map (λ v. v.0) ws = cc in
    placed (stop_below level v) (stop_below level w) (map (stop_below level) vs ++ xs) (map (stop_below level) ws ++ ys) (ap (Value level) head) tt (match_values names level vs ws xs ys tail m)

pub values_entered : (f : Links) (level : ℕ) (vs ws : List (ℕ × ℕ)) (xs ys : List Stop) → map (λ v. v.0) vs ≡ map (λ v. v.0) ws
    → Rooted f (entries (map (stop_below level) vs ++ xs)) (entries (map (stop_below level) ws ++ ys))
    → Valued f vs ws × Rooted f (entries xs) (entries ys)
values_entered f level [] [] xs ys e r = (tt, r)
values_entered f level [] (w ∷ ws) xs ys e r = absurd (nothing_more e)
  where
    nothing_more : {c : ℕ} {cs : List ℕ} → [] ≡ c ∷ cs → ⊥
    nothing_more e = absurd cc
values_entered f level (v ∷ vs) [] xs ys e r = absurd (nothing_more (sym e))
  where
    nothing_more : {c : ℕ} {cs : List ℕ} → [] ≡ c ∷ cs → ⊥
    nothing_more e = absurd cc
values_entered f level (v ∷ vs) (w ∷ ws) xs ys e r =
    let head : v.0 ≡ w.0 = cc in
    let tail : map (λ v. v.0) vs ≡ map (λ v. v.0) ws = cc in
    let rest = values_entered f level vs ws xs ys tail r.1 in
    ((head, r.0, rest.0), rest.1)

-- The sample signature obeys the laws of a hierarchy: each law of numbers below its counts is a test that is computed,
-- and past the counts there is nothing.
use Rattle.std.proofs.Common.{◌≡◌, sym, subst, ap, refl, ◌∙◌, ℕ, zero, suc, ◌<◌, ◌≤◌, Bool, true, false, eqb, ltb, leb, Option, Some, None, List, [], ◌∷◌, length, inl, inr, arith}
use Rattle.std.specs.Prelude.{◌≢◌, ◌⊎◌, ◌&&◌, ◌||◌, not, get_or, is_some, if◌then◌else◌}
use Rattle.std.proofs.lemmas.Bool.{false≢true, and_parts, or_cases, ltb-true, lt-ltb, leb-true, eqb-true, eq-eqb}
use Rattle.std.proofs.lemmas.List.{get_or_past}
use Rattle.ale_declared.specs.Lists.{every, is_among, upto, sum_over}
use Rattle.ale_hierarchy.specs.Hierarchy.{IsLawful, size_at}
use Rattle.ale_worked.specs.Sample.{lines, above, join, restrictions, sample}

-- all numbers below n pass
abbrev all_below : (ℕ → Bool) → ℕ → Bool
all_below P zero = true
all_below P (suc n) = P n && all_below P n

below : (P : ℕ → Bool) (n : ℕ) → all_below P n ≡ true → (m : ℕ) → m < n → P m ≡ true
below P zero h m low = absurd (omega arith)
below P (suc n) h m low = go (below P n (and_parts (P n) (all_below P n) h).1 m) (grind arith)
  where
    go : (m < n → P m ≡ true) → (m < n) ⊎ (m ≡ n) → P m ≡ true
    go earlier (inl l) = earlier l
    go earlier (inr e) = subst (λ k. P k ≡ true) (sym e) (and_parts (P n) (all_below P n) h).0

abbrev implies : Bool → Bool → Bool
implies a b = not a || b

abbrev or_zero : Option ℕ → ℕ
or_zero None = 0
or_zero (Some x) = x

none_there : (x : ℕ) → None ≡ Some x → ⊥
none_there x e = false≢true (ap (λ (o : Option ℕ). is_some o) e)

then_true : (a b : Bool) → implies a b ≡ true → a ≡ true → b ≡ true
then_true true b h e = h
then_true false b h e = absurd (false≢true e)

-- it is there, and passes
abbrev passes : (ℕ → Bool) → Option ℕ → Bool
passes P None = false
passes P (Some x) = P x

passing : (P : ℕ → Bool) (o : Option ℕ) → passes P o ≡ true → (x : ℕ) × (o ≡ Some x) × (P x ≡ true)
passing P None h = absurd (false≢true h)
passing P (Some x) h = (x, refl, h)

-- where it is there, it passes
abbrev passes_if : (ℕ → Bool) → Option ℕ → Bool
passes_if P None = true
passes_if P (Some x) = P x

passing_if : (P : ℕ → Bool) (o : Option ℕ) (x : ℕ) → passes_if P o ≡ true → o ≡ Some x → P x ≡ true
passing_if P None x h e = absurd (none_there x e)
passing_if P (Some y) x h e = subst (λ o. passes_if P o ≡ true) e h

abbrev two : (ℕ → ℕ → Bool) → ℕ → ℕ → Bool
two P m n = all_below (λ a. all_below (P a) n) m

two_below : (P : ℕ → ℕ → Bool) (m n : ℕ) → two P m n ≡ true → (a b : ℕ) → a < m → b < n → P a b ≡ true
two_below P m n h a b la lb = below (P a) n (below (λ a. all_below (P a) n) m h a la) b lb

abbrev three : (ℕ → ℕ → ℕ → Bool) → ℕ → ℕ → ℕ → Bool
three P k m n = all_below (λ a. two (P a) m n) k

three_below : (P : ℕ → ℕ → ℕ → Bool) (k m n : ℕ) → three P k m n ≡ true → (a b c : ℕ) → a < k → b < m → c < n → P a b c ≡ true
three_below P k m n h a b c la lb lc = two_below (P a) m n (below (λ a. two (P a) m n) k h a la) b c lb lc

-- numbers that stand in a list that passes
among : (P : ℕ → Bool) (xs : List ℕ) → every P xs ≡ true → (a : ℕ) → is_among a xs ≡ true → P a ≡ true
among P [] h a e = absurd (false≢true e)
among P (x ∷ xs) h a e = elim (or_cases (eqb a x) (is_among a xs) e) [
  | inl same ↦ subst (λ k. P k ≡ true) (sym (eqb-true a x same)) (and_parts (P x) (every P xs) h).0
  | inr later ↦ among P xs (and_parts (P x) (every P xs) h).1 a later
]

few_lines : all_below (λ b. every (λ a. ltb a 11) (get_or lines b [])) 11 ≡ true
few_lines = refl

-- one type is above another where they are the same, or both are types
above_inside : (a b : ℕ) → above a b ≡ true → (a ≡ b) ⊎ ((a < 11) × (b < 11))
above_inside a b h = go (or_cases (eqb a b) (is_among a (get_or lines b [])) h) (grind arith)
  where
    go : (eqb a b ≡ true) ⊎ (is_among a (get_or lines b []) ≡ true) → (b < 11) ⊎ (11 ≤ b) → (a ≡ b) ⊎ ((a < 11) × (b < 11))
    go (inl e) o = inl (eqb-true a b e)
    go (inr e) (inl low) = inr (ltb-true a 11 (among (λ a. ltb a 11) (get_or lines b []) (below (λ b. every (λ a. ltb a 11) (get_or lines b [])) 11 few_lines b low) a e), low)
    go (inr e) (inr past) = absurd (false≢true (subst (λ (xs : List ℕ). is_among a xs ≡ true) (get_or_past lines b [] past) e))

above_self : (a : ℕ) → above a a ≡ true
above_self a = subst (λ t. (t || is_among a (get_or lines a [])) ≡ true) (sym (eq-eqb a a refl)) refl

along_test : three (λ a b c. implies (above a b) (implies (above b c) (above a c))) 11 11 11 ≡ true
along_test = refl

along : (a b c : ℕ) → above a b ≡ true → above b c ≡ true → above a c ≡ true
along a b c h k = go (above_inside a b h) (above_inside b c k)
  where
    go : (a ≡ b) ⊎ ((a < 11) × (b < 11)) → (b ≡ c) ⊎ ((b < 11) × (c < 11)) → above a c ≡ true
    go (inl e) o = subst (λ x. above x c ≡ true) (sym e) k
    go (inr l) (inl e) = subst (λ x. above a x ≡ true) e h
    go (inr l) (inr m) =
        then_true (above b c) (above a c)
        (then_true (above a b) (implies (above b c) (above a c)) (three_below (λ a b c. implies (above a b) (implies (above b c) (above a c))) 11 11 11 along_test a b c l.0 l.1 m.1) h) k

inside : (a b : ℕ) → above a b ≡ true → a < 11 → b < 11
inside a b h low = elim (above_inside a b h) [ inl e ↦ subst (λ x. x < 11) e low | inr l ↦ l.1 ]

above_low : (a b : ℕ) → above a b ≡ true → b < 11 → a < 11
above_low a b h low = elim (above_inside a b h) [ inl e ↦ subst (λ x. x < 11) (sym e) low | inr l ↦ l.0 ]

bottom_test : all_below (above 0) 11 ≡ true
bottom_test = refl

-- what a join is
joined : (a b c : ℕ) → join a b ≡ Some c → ((c ≡ b) × (above a b ≡ true) × (b < 11)) ⊎ ((c ≡ a) × (above b a ≡ true) × (a < 11))
joined a b c h = go (above a b && ltb b 11) (above b a && ltb a 11) refl refl h
  where
    go : (t u : Bool) → above a b && ltb b 11 ≡ t → above b a && ltb a 11 ≡ u → (if t then Some b else (if u then Some a else None)) ≡ Some c →
        ((c ≡ b) × (above a b ≡ true) × (b < 11)) ⊎ ((c ≡ a) × (above b a ≡ true) × (a < 11))
    go true u e f k = inl (sym (ap or_zero k), (and_parts (above a b) (ltb b 11) e).0, ltb-true b 11 (and_parts (above a b) (ltb b 11) e).1)
    go false true e f k = inr (sym (ap or_zero k), (and_parts (above b a) (ltb a 11) f).0, ltb-true a 11 (and_parts (above b a) (ltb a 11) f).1)
    go false false e f k = absurd (none_there c k)

comparable_test : three (λ a b d. implies (above a d) (implies (above b d) (above a b || above b a))) 11 11 11 ≡ true
comparable_test = refl

comparable : (a b d : ℕ) → d < 11 → above a d ≡ true → above b d ≡ true → (above a b ≡ true) ⊎ (above b a ≡ true)
comparable a b d low h k =
    or_cases (above a b) (above b a)
    (then_true (above b d) (above a b || above b a)
    (then_true (above a d) (implies (above b d) (above a b || above b a))
    (three_below (λ a b d. implies (above a d) (implies (above b d) (above a b || above b a))) 11 11 11 comparable_test a b d (above_low a d h low) (above_low b d k low) low) h) k)

join_there : (a b d : ℕ) → d < 11 → above a d ≡ true → above b d ≡ true → (c : ℕ) × (join a b ≡ Some c)
join_there a b d low h k = go (above a b) refl (comparable a b d low h k)
  where
    low_a : ltb a 11 ≡ true
    low_a = lt-ltb a 11 (above_low a d h low)

    low_b : ltb b 11 ≡ true
    low_b = lt-ltb b 11 (above_low b d k low)

    go : (t : Bool) → above a b ≡ t → (above a b ≡ true) ⊎ (above b a ≡ true) → (c : ℕ) × (join a b ≡ Some c)
    go true e o = (b, ap (λ (x : Bool). if x && ltb b 11 then Some b else (if above b a && ltb a 11 then Some a else None)) e ∙ ap (λ (x : Bool). if true && x then Some b else (if above b a && ltb a 11 then Some a else None)) low_b)
    go false e (inl f) = absurd (false≢true (sym e ∙ f))
    go false e (inr f) = (a, ap (λ (x : Bool). if x && ltb b 11 then Some b else (if above b a && ltb a 11 then Some a else None)) e ∙ (ap (λ (x : Bool). if x && ltb a 11 then Some a else None) f ∙ ap (λ (x : Bool). if x then Some a else None) low_a))

short_rows : all_below (λ f. eqb (length (get_or restrictions f [])) 11) 3 ≡ true
short_rows = refl

-- restrictions are there for features at types alone
approp_low : (f t r : ℕ) → get_or (get_or restrictions f []) t None ≡ Some r → (f < 3) × (t < 11)
approp_low f t r h = go (grind arith) (grind arith)
  where
    go : (f < 3) ⊎ (3 ≤ f) → (t < 11) ⊎ (11 ≤ t) → (f < 3) × (t < 11)
    go (inl l) (inl m) = (l, m)
    go (inr past) o = absurd (none_there r (sym (get_or_past [] t None (omega arith)) ∙ subst (λ (xs : List (Option ℕ)). get_or xs t None ≡ Some r) (get_or_past restrictions f [] past) h))
    go (inl l) (inr past) = absurd (none_there r (sym (get_or_past (get_or restrictions f []) t None (subst (λ n. n ≤ t) (sym (eqb-true (length (get_or restrictions f [])) 11 (below (λ f. eqb (length (get_or restrictions f [])) 11) 3 short_rows f l))) past)) ∙ h))

approp_test : two (λ f t. passes_if (λ r. ltb r 11 && above (sample.intro f) t) (sample.approp f t)) 3 11 ≡ true
approp_test = refl

approp_is : (f t r : ℕ) → sample.approp f t ≡ Some r → (r < 11) × (above (sample.intro f) t ≡ true)
approp_is f t r h =
    let low = approp_low f t r h in
    let both = and_parts (ltb r 11) (above (sample.intro f) t) (passing_if (λ r. ltb r 11 && above (sample.intro f) t) (sample.approp f t) r (two_below (λ f t. passes_if (λ r. ltb r 11 && above (sample.intro f) t) (sample.approp f t)) 3 11 approp_test f t low.0 low.1) h) in
    (ltb-true r 11 both.0, both.1)

further_test : three (λ f t u. implies (above t u) (passes_if (λ r. passes (λ q. above r q) (sample.approp f u)) (sample.approp f t))) 3 11 11 ≡ true
further_test = refl

further : (f t u r : ℕ) → u < 11 → above t u ≡ true → sample.approp f t ≡ Some r → (q : ℕ) × (sample.approp f u ≡ Some q) × (above r q ≡ true)
further f t u r low h k =
    let lows = approp_low f t r k in
    passing (λ q. above r q) (sample.approp f u)
    (passing_if (λ r. passes (λ q. above r q) (sample.approp f u)) (sample.approp f t) r
    (then_true (above t u) (passes_if (λ r. passes (λ q. above r q) (sample.approp f u)) (sample.approp f t))
    (three_below (λ f t u. implies (above t u) (passes_if (λ r. passes (λ q. above r q) (sample.approp f u)) (sample.approp f t))) 3 11 11 further_test f t u lows.0 lows.1 low) h) k)

intro_test : all_below (λ f. ltb (sample.intro f) 11) 3 ≡ true
intro_test = refl

there_test : two (λ f t. implies (above (sample.intro f) t) (passes (λ r. true) (sample.approp f t))) 3 11 ≡ true
there_test = refl

there : (f t : ℕ) → f < 3 → t < 11 → above (sample.intro f) t ≡ true → (r : ℕ) × (sample.approp f t ≡ Some r)
there f t lf lt h =
    let found = passing (λ r. true) (sample.approp f t) (then_true (above (sample.intro f) t) (passes (λ r. true) (sample.approp f t)) (two_below (λ f t. implies (above (sample.intro f) t) (passes (λ r. true) (sample.approp f t))) 3 11 there_test f t lf lt) h) in
    (found.0, found.1)

rank_test : two (λ a b. implies (above a b) (eqb a b || ltb (sample.rank b) (sample.rank a))) 11 11 ≡ true
rank_test = refl

rank_less : (a b : ℕ) → above a b ≡ true → a ≢ b → sample.rank b < sample.rank a
rank_less a b h apart = go (above_inside a b h)
  where
    go : (a ≡ b) ⊎ ((a < 11) × (b < 11)) → sample.rank b < sample.rank a
    go (inl e) = absurd (apart e)
    go (inr l) = elim (or_cases (eqb a b) (ltb (sample.rank b) (sample.rank a)) (then_true (above a b) (eqb a b || ltb (sample.rank b) (sample.rank a)) (two_below (λ a b. implies (above a b) (eqb a b || ltb (sample.rank b) (sample.rank a))) 11 11 rank_test a b l.0 l.1) h)) [
      | inl e ↦ absurd (apart (eqb-true a b e))
      | inr e ↦ ltb-true (sample.rank b) (sample.rank a) e
    ]

size_test : all_below (λ t. eqb (sample.size t) (suc (sum_over (λ f. size_at sample (sample.approp f t)) (upto 3)))) 11 ≡ true
size_test = refl

small_test : all_below (λ t. leb (sample.size t) 11) 11 ≡ true
small_test = refl

last_test : two (λ a b. implies (sample.is_ext a) (implies (above a b) (eqb a b))) 11 11 ≡ true
last_test = refl

ext_last : (a b : ℕ) → sample.is_ext a ≡ true → above a b ≡ true → a ≡ b
ext_last a b h k = go (above_inside a b k)
  where
    go : (a ≡ b) ⊎ ((a < 11) × (b < 11)) → a ≡ b
    go (inl e) = e
    go (inr l) = eqb-true a b (then_true (above a b) (eqb a b) (then_true (sample.is_ext a) (implies (above a b) (eqb a b)) (two_below (λ a b. implies (sample.is_ext a) (implies (above a b) (eqb a b))) 11 11 last_test a b l.0 l.1) h) k)

pub sample_is_lawful : IsLawful sample
sample_is_lawful = record {
  along_self = above_self;
  along = along;
  inside = inside;
  bottom = below (above 0) 11 bottom_test;
  some_type = omega arith;
  join_inside = λ a b c h. elim (joined a b c h) [ inl j ↦ subst (λ x. x < 11) (sym j.0) j.2 | inr j ↦ subst (λ x. x < 11) (sym j.0) j.2 ];
  join_left = λ a b c h. elim (joined a b c h) [ inl j ↦ subst (λ x. above a x ≡ true) (sym j.0) j.1 | inr j ↦ subst (λ x. above a x ≡ true) (sym j.0) (above_self a) ];
  join_right = λ a b c h. elim (joined a b c h) [ inl j ↦ subst (λ x. above b x ≡ true) (sym j.0) (above_self b) | inr j ↦ subst (λ x. above b x ≡ true) (sym j.0) j.1 ];
  join_least = λ a b c d h low k l. elim (joined a b c h) [ inl j ↦ subst (λ x. above x d ≡ true) (sym j.0) l | inr j ↦ subst (λ x. above x d ≡ true) (sym j.0) k ];
  join_there = join_there;
  approp_inside = λ f t r h. ((approp_low f t r h).0, (approp_is f t r h).0);
  approp_along = further;
  approp_intro = λ f t r h. (approp_is f t r h).1;
  intro_inside = λ f low. ltb-true (sample.intro f) 11 (below (λ f. ltb (sample.intro f) 11) 3 intro_test f low);
  intro_there = there;
  rank_less = rank_less;
  size_is = λ t low. eqb-true (sample.size t) (suc (sum_over (λ f. size_at sample (sample.approp f t)) (upto 3))) (below (λ t. eqb (sample.size t) (suc (sum_over (λ f. size_at sample (sample.approp f t)) (upto 3)))) 11 size_test t low);
  size_small = λ t low. let few : sample.size t ≤ 11 = leb-true (sample.size t) 11 (below (λ t. leb (sample.size t) 11) 11 small_test t low) in omega arith;
  ext_last = ext_last;
}

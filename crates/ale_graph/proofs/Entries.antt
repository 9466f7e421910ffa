-- Lists of values by rising features: one more value, and that the values by each feature determine the list.
use Rattle.std.proofs.Common.{◌≡◌, ℕ, ◌<◌, Bool, true, false, ltb, List, [], ◌∷◌, ◌⊎◌, inl, inr, refl, sym, ap, ◌∙◌, subst, arith, Some, None, if◌then◌else◌}
use Rattle.std.proofs.lemmas.Bool.{and_parts, and_from, eq-eqb, ne_eqb, ltb-true, lt-ltb}
use Rattle.ale_declared.specs.Lists.{every}
use Rattle.ale_graph.specs.Structures.{value_in, is_rising}
use Rattle.ale_graph.specs.Drafts.{insert_value}
use Rattle.ale_graph.proofs.Lists.{some_one, none_some, every_has, every_from}

-- the value at the front, or behind it
pub value_front : (v : ℕ × ℕ) (vs : List (ℕ × ℕ)) (f : ℕ) → v.0 ≡ f → value_in (v ∷ vs) f ≡ Some v.1
value_front v vs f e = subst (λ t. (if t then Some v.1 else value_in vs f) ≡ Some v.1) (sym (eq-eqb v.0 f e)) refl

pub value_behind : (v : ℕ × ℕ) (vs : List (ℕ × ℕ)) (f : ℕ) → (v.0 ≡ f → ⊥) → value_in (v ∷ vs) f ≡ value_in vs f
value_behind v vs f n = subst (λ t. (if t then Some v.1 else value_in vs f) ≡ value_in vs f) (sym (ne_eqb v.0 f n)) refl

pub same_or_not : (a b : ℕ) → (a ≡ b) ⊎ (a ≡ b → ⊥)
same_or_not a b = grind arith

-- where all values are by higher features there is none
pub higher_none : (f : ℕ) (vs : List (ℕ × ℕ)) → every (λ (w : ℕ × ℕ). ltb f w.0) vs ≡ true → value_in vs f ≡ None
higher_none f [] e = refl
higher_none f (v ∷ vs) e =
    let both = and_parts (ltb f v.0) (every (λ (w : ℕ × ℕ). ltb f w.0) vs) e in
    let lt = ltb-true f v.0 both.0 in
    value_behind v vs f (λ q. absurd (omega arith)) ∙ higher_none f vs both.1

pub front_not : (v : ℕ × ℕ) (vs : List (ℕ × ℕ)) (f : ℕ) → value_in (v ∷ vs) f ≡ None → v.0 ≡ f → ⊥
front_not v vs f e q = none_some (sym e ∙ value_front v vs f q)

insert_here : (f m : ℕ) (v : ℕ × ℕ) (vs : List (ℕ × ℕ)) → ltb f v.0 ≡ true → insert_value (v ∷ vs) f m ≡ (f, m) ∷ v ∷ vs
insert_here f m v vs e = subst (λ t. (if t then (f, m) ∷ v ∷ vs else v ∷ insert_value vs f m) ≡ (f, m) ∷ v ∷ vs) (sym e) refl

insert_later : (f m : ℕ) (v : ℕ × ℕ) (vs : List (ℕ × ℕ)) → ltb f v.0 ≡ false → insert_value (v ∷ vs) f m ≡ v ∷ insert_value vs f m
insert_later f m v vs e = subst (λ t. (if t then (f, m) ∷ v ∷ vs else v ∷ insert_value vs f m) ≡ v ∷ insert_value vs f m) (sym e) refl

-- the new value is there
pub insert_new : (vs : List (ℕ × ℕ)) (f m : ℕ) → value_in vs f ≡ None → value_in (insert_value vs f m) f ≡ Some m
insert_new [] f m e = value_front (f, m) [] f refl
insert_new (v ∷ vs) f m e = go (insert_new vs f m) (ltb f v.0) refl
  where
    go : (value_in vs f ≡ None → value_in (insert_value vs f m) f ≡ Some m) → (t : Bool) → ltb f v.0 ≡ t → value_in (insert_value (v ∷ vs) f m) f ≡ Some m
    go ih true is = ap (λ z. value_in z f) (insert_here f m v vs is) ∙ value_front (f, m) (v ∷ vs) f refl
    go ih false is =
        let n = front_not v vs f e in
        ap (λ z. value_in z f) (insert_later f m v vs is) ∙ value_behind v (insert_value vs f m) f n ∙ ih (sym (value_behind v vs f n) ∙ e)

-- the others stay
pub insert_old : (vs : List (ℕ × ℕ)) (f m g : ℕ) → (f ≡ g → ⊥) → value_in (insert_value vs f m) g ≡ value_in vs g
insert_old [] f m g n = value_behind (f, m) [] g n
insert_old (v ∷ vs) f m g n = go (insert_old vs f m g n) (ltb f v.0) refl (same_or_not v.0 g)
  where
    go : value_in (insert_value vs f m) g ≡ value_in vs g → (t : Bool) → ltb f v.0 ≡ t → (v.0 ≡ g) ⊎ (v.0 ≡ g → ⊥) → value_in (insert_value (v ∷ vs) f m) g ≡ value_in (v ∷ vs) g
    go ih true is q = ap (λ z. value_in z g) (insert_here f m v vs is) ∙ value_behind (f, m) (v ∷ vs) g n
    go ih false is (inl q) = ap (λ z. value_in z g) (insert_later f m v vs is) ∙ value_front v (insert_value vs f m) g q ∙ sym (value_front v vs g q)
    go ih false is (inr q) = ap (λ z. value_in z g) (insert_later f m v vs is) ∙ value_behind v (insert_value vs f m) g q ∙ ih ∙ sym (value_behind v vs g q)

every_insert : (test : ℕ × ℕ → Bool) (vs : List (ℕ × ℕ)) (f m : ℕ) → every test vs ≡ true → test (f, m) ≡ true → every test (insert_value vs f m) ≡ true
every_insert test [] f m e t = and_from (test (f, m)) true t refl
every_insert test (v ∷ vs) f m e t = go (every_insert test vs f m) (ltb f v.0) refl
  where
    go : (every test vs ≡ true → test (f, m) ≡ true → every test (insert_value vs f m) ≡ true) → (u : Bool) → ltb f v.0 ≡ u → every test (insert_value (v ∷ vs) f m) ≡ true
    go ih true is = ap (every test) (insert_here f m v vs is) ∙ and_from (test (f, m)) (every test (v ∷ vs)) t e
    go ih false is =
        let both = and_parts (test v) (every test vs) e in
        ap (every test) (insert_later f m v vs is) ∙ and_from (test v) (every test (insert_value vs f m)) both.0 (ih both.1 t)

pub insert_rises : (vs : List (ℕ × ℕ)) (f m : ℕ) → is_rising vs ≡ true → value_in vs f ≡ None → is_rising (insert_value vs f m) ≡ true
insert_rises [] f m r e = refl
insert_rises (v ∷ vs) f m r e = go (insert_rises vs f m) (ltb f v.0) refl
  where
    front : every (λ (w : ℕ × ℕ). ltb v.0 w.0) vs ≡ true
    front = (and_parts (every (λ (w : ℕ × ℕ). ltb v.0 w.0) vs) (is_rising vs) r).0

    rest : is_rising vs ≡ true
    rest = (and_parts (every (λ (w : ℕ × ℕ). ltb v.0 w.0) vs) (is_rising vs) r).1

    go : (is_rising vs ≡ true → value_in vs f ≡ None → is_rising (insert_value vs f m) ≡ true) → (t : Bool) → ltb f v.0 ≡ t → is_rising (insert_value (v ∷ vs) f m) ≡ true
    go ih true is =
        ap is_rising (insert_here f m v vs is)
        ∙ and_from (every (λ (w : ℕ × ℕ). ltb f w.0) (v ∷ vs)) (is_rising (v ∷ vs))
        (and_from (ltb f v.0) (every (λ (w : ℕ × ℕ). ltb f w.0) vs) is
        (every_from (λ (w : ℕ × ℕ). ltb f w.0) vs (λ w p. lt-ltb f w.0 (let a = ltb-true f v.0 is in let b = ltb-true v.0 w.0 (every_has (λ (w : ℕ × ℕ). ltb v.0 w.0) vs w front p) in omega arith)))) r
    go ih false is =
        let n = front_not v vs f e in
        let lt : v.0 < f = less (same_or_not v.0 f) n in
        ap is_rising (insert_later f m v vs is)
        ∙ and_from (every (λ (w : ℕ × ℕ). ltb v.0 w.0) (insert_value vs f m)) (is_rising (insert_value vs f m))
        (every_insert (λ (w : ℕ × ℕ). ltb v.0 w.0) vs f m front (lt-ltb v.0 f lt))
        (ih rest (sym (value_behind v vs f n) ∙ e))
      where
        less : (v.0 ≡ f) ⊎ (v.0 ≡ f → ⊥) → (v.0 ≡ f → ⊥) → v.0 < f
        less o n = pick (grind arith)
          where
            pick : (v.0 < f) ⊎ (v.0 ≡ f) ⊎ (f < v.0) → v.0 < f
            pick (inl l) = l
            pick (inr (inl q)) = absurd (n q)
            pick (inr (inr l)) = let bad : true ≡ false = sym (lt-ltb f v.0 l) ∙ is in absurd cc

-- rising lists with the same value by each feature are one
pub rising_one : (xs ys : List (ℕ × ℕ)) → is_rising xs ≡ true → is_rising ys ≡ true → ((f : ℕ) → value_in xs f ≡ value_in ys f) → xs ≡ ys
rising_one [] [] rx ry same = refl
rising_one [] (y ∷ ys) rx ry same = absurd (none_some (same y.0 ∙ value_front y ys y.0 refl))
rising_one (x ∷ xs) [] rx ry same = absurd (none_some (sym (same x.0) ∙ value_front x xs x.0 refl))
rising_one (x ∷ xs) (y ∷ ys) rx ry same = go (rising_one xs ys) (grind arith)
  where
    above_x : every (λ (w : ℕ × ℕ). ltb x.0 w.0) xs ≡ true
    above_x = (and_parts (every (λ (w : ℕ × ℕ). ltb x.0 w.0) xs) (is_rising xs) rx).0

    above_y : every (λ (w : ℕ × ℕ). ltb y.0 w.0) ys ≡ true
    above_y = (and_parts (every (λ (w : ℕ × ℕ). ltb y.0 w.0) ys) (is_rising ys) ry).0

    raise : (f g : ℕ) (vs : List (ℕ × ℕ)) → f < g → every (λ (w : ℕ × ℕ). ltb g w.0) vs ≡ true → every (λ (w : ℕ × ℕ). ltb f w.0) vs ≡ true
    raise f g vs l e = every_from (λ (w : ℕ × ℕ). ltb f w.0) vs (λ w p. lt-ltb f w.0 (let b = ltb-true g w.0 (every_has (λ (w : ℕ × ℕ). ltb g w.0) vs w e p) in omega arith))

    less : (v w : ℕ × ℕ) (vs ws : List (ℕ × ℕ)) → v.0 < w.0 → every (λ (u : ℕ × ℕ). ltb w.0 u.0) ws ≡ true → value_in (v ∷ vs) v.0 ≡ value_in (w ∷ ws) v.0 → ⊥
    less v w vs ws l e q =
        let none : value_in (w ∷ ws) v.0 ≡ None = value_behind w ws v.0 (λ z. absurd (omega arith)) ∙ higher_none v.0 ws (raise v.0 w.0 ws l e) in
        none_some (sym none ∙ sym q ∙ value_front v vs v.0 refl)

    go : (is_rising xs ≡ true → is_rising ys ≡ true → ((f : ℕ) → value_in xs f ≡ value_in ys f) → xs ≡ ys) → (x.0 < y.0) ⊎ (y.0 < x.0) ⊎ (x.0 ≡ y.0) → x ∷ xs ≡ y ∷ ys
    go ih (inl l) = absurd (less x y xs ys l above_y (same x.0))
    go ih (inr (inl l)) = absurd (less y x ys xs l above_x (sym (same y.0)))
    go ih (inr (inr e)) =
        let value : x.1 ≡ y.1 = some_one (sym (value_front x xs x.0 refl) ∙ same x.0 ∙ value_front y ys x.0 (sym e)) in
        let tails : xs ≡ ys = ih (and_parts (every (λ (w : ℕ × ℕ). ltb x.0 w.0) xs) (is_rising xs) rx).1 (and_parts (every (λ (w : ℕ × ℕ). ltb y.0 w.0) ys) (is_rising ys) ry).1 (λ f. tail f (same_or_not x.0 f)) in
        λ i. (e i, value i) ∷ tails i
      where
        tail : (f : ℕ) → (x.0 ≡ f) ⊎ (x.0 ≡ f → ⊥) → value_in xs f ≡ value_in ys f
        tail f (inl q) =
            higher_none f xs (subst (λ z. every (λ (w : ℕ × ℕ). ltb z w.0) xs ≡ true) q above_x)
            ∙ sym (higher_none f ys (subst (λ z. every (λ (w : ℕ × ℕ). ltb z w.0) ys ≡ true) (sym e ∙ q) above_y))
        tail f (inr n) = sym (value_behind x xs f n) ∙ same f ∙ value_behind y ys f (λ q. n (e ∙ q))

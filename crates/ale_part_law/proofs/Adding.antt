-- Structures with more nodes behind those of another: their nodes, when they are formed and total, and one node fewer.
use Rattle.std.proofs.Common.{◌≡◌, ℕ, zero, suc, ◌+◌, ◌-◌, ◌<◌, ◌≤◌, Bool, true, false, ◌&&◌, eqb, ltb, IsTrue, List, [], ◌∷◌, ◌++◌, map, length, length-append, get_or, option_map, ◌⊎◌, inl, inr, refl, sym, ap, ◌∙◌, subst, arith, Option, Some, None}
use Rattle.std.proofs.lemmas.Bool.{and_parts, and_from, lt-ltb, ltb-true, eqb-true, eq-eqb}
use Rattle.std.proofs.lemmas.List.{get_or_append_left, get_or-append_right}
use Rattle.ale_declared.specs.Lists.{Has, every}
use Rattle.ale_hierarchy.specs.Hierarchy.{Hierarchy, Above, IsLawful}
use Rattle.ale_graph.specs.declared.node.Node.{Node}
use Rattle.ale_graph.specs.Structures.{Structure, IsTotal, count, node_at, type_of, value_of, is_node, is_rising, is_root, is_formed}
use Rattle.ale_graph.proofs.Lists.{has_either, every_has, every_from, none_some, some_one}
use Rattle.ale_graph.proofs.Structures.{value_from, value_inside}
use Rattle.ale_morphism.proofs.MorphismSteps.{entry_of, entry_value}
use Rattle.ale_morphism.proofs.ReachSteps.{node_parts}

abbrev pub past : Node
past = record { of = 0; values = [] }

abbrev pub with_more : Structure → List Node → Structure
with_more s more = record { nodes = s.nodes ++ more; differ = s.differ; roots = s.roots }

-- a node with its values elsewhere
abbrev pub renode : (ℕ → ℕ) → Node → Node
renode r x = record { of = x.of; values = map (λ (v : ℕ × ℕ). (v.0, r v.1)) x.values }

pub count_more : (s : Structure) (more : List Node) → count (with_more s more) ≡ count s + length more
count_more s more = length-append s.nodes more

pub node_low : (s : Structure) (more : List Node) (k : ℕ) → k < count s → node_at (with_more s more) k ≡ node_at s k
node_low s more k low = get_or_append_left s.nodes more past k low

pub node_high : (s : Structure) (more : List Node) (k : ℕ) → count s ≤ k → node_at (with_more s more) k ≡ get_or more (k - count s) past
node_high s more k high = get_or-append_right s.nodes more (count s) k past refl high

pub option_of : (r : ℕ → ℕ) (o : Option ℕ) (m : ℕ) → option_map r o ≡ Some m → (k : ℕ) × (o ≡ Some k) × (r k ≡ m)
option_of r None m e = absurd (none_some e)
option_of r (Some k) m e = (k, refl, some_one e)

-- values renamed stay in order
rising_every : (f : ℕ) (r : ℕ → ℕ) (vs : List (ℕ × ℕ)) → every (λ (w : ℕ × ℕ). ltb f w.0) vs ≡ true → every (λ (w : ℕ × ℕ). ltb f w.0) (map (λ (v : ℕ × ℕ). (v.0, r v.1)) vs) ≡ true
rising_every f r [] e = refl
rising_every f r (v ∷ vs) e = let p = and_parts (ltb f v.0) (every (λ (w : ℕ × ℕ). ltb f w.0) vs) e in and_from (ltb f v.0) (every (λ (w : ℕ × ℕ). ltb f w.0) (map (λ (v : ℕ × ℕ). (v.0, r v.1)) vs)) p.0 (rising_every f r vs p.1)

pub rising_renamed : (r : ℕ → ℕ) (vs : List (ℕ × ℕ)) → is_rising vs ≡ true → is_rising (map (λ (v : ℕ × ℕ). (v.0, r v.1)) vs) ≡ true
rising_renamed r [] e = refl
rising_renamed r (v ∷ vs) e =
    let p = and_parts (every (λ (w : ℕ × ℕ). ltb v.0 w.0) vs) (is_rising vs) e in
    and_from (every (λ (w : ℕ × ℕ). ltb v.0 w.0) (map (λ (v : ℕ × ℕ). (v.0, r v.1)) vs)) (is_rising (map (λ (v : ℕ × ℕ). (v.0, r v.1)) vs)) (rising_every v.0 r vs p.0) (rising_renamed r vs p.1)

-- a node's values are below n, in order
pub record IsListed (n : ℕ) (x : Node) : Type 0 where
  pub low : (v : ℕ × ℕ) → Has x.values v → v.1 < n
  pub rises : is_rising x.values ≡ true

listed_is : (n : ℕ) (x : Node) → IsListed n x → is_node n x ≡ true
listed_is n x l = and_from (every (λ (v : ℕ × ℕ). ltb v.1 n) x.values) (is_rising x.values) (every_from (λ (v : ℕ × ℕ). ltb v.1 n) x.values (λ v has. lt-ltb v.1 n (l.low v has))) l.rises

pub is_listed : (n : ℕ) (x : Node) → is_node n x ≡ true → IsListed n x
is_listed n x e =
    let p = and_parts (every (λ (v : ℕ × ℕ). ltb v.1 n) x.values) (is_rising x.values) e in
    record { low = λ v has. ltb-true v.1 n (every_has (λ (v : ℕ × ℕ). ltb v.1 n) x.values v p.0 has); rises = p.1 }

-- more nodes, whose values are among all
pub more_formed : (s : Structure) (more : List Node) → IsTrue (is_formed s) → ((x : Node) → Has more x → IsListed (count (with_more s more)) x) → IsTrue (is_formed (with_more s more))
more_formed s more formed listed =
    and_from (every (is_node (count (with_more s more))) (s.nodes ++ more)) (every (λ (p : ℕ × ℕ). ltb p.0 (count (with_more s more)) && ltb p.1 (count (with_more s more))) s.differ && every (is_root (count (with_more s more))) s.roots)
    (every_from (is_node (count (with_more s more))) (s.nodes ++ more) (λ x has. node x (has_either s.nodes more x has)))
    (and_from (every (λ (p : ℕ × ℕ). ltb p.0 (count (with_more s more)) && ltb p.1 (count (with_more s more))) s.differ) (every (is_root (count (with_more s more))) s.roots)
    (every_from (λ (p : ℕ × ℕ). ltb p.0 (count (with_more s more)) && ltb p.1 (count (with_more s more))) s.differ (λ p has. pair p has))
    (every_from (is_root (count (with_more s more))) s.roots (λ o has. root o has)))
  where
    parts : (every (is_node (count s)) s.nodes ≡ true) × ((every (λ (p : ℕ × ℕ). ltb p.0 (count s) && ltb p.1 (count s)) s.differ && every (is_root (count s)) s.roots) ≡ true)
    parts = and_parts (every (is_node (count s)) s.nodes) (every (λ (p : ℕ × ℕ). ltb p.0 (count s) && ltb p.1 (count s)) s.differ && every (is_root (count s)) s.roots) formed

    others : (every (λ (p : ℕ × ℕ). ltb p.0 (count s) && ltb p.1 (count s)) s.differ ≡ true) × (every (is_root (count s)) s.roots ≡ true)
    others = and_parts (every (λ (p : ℕ × ℕ). ltb p.0 (count s) && ltb p.1 (count s)) s.differ) (every (is_root (count s)) s.roots) parts.1

    longer : (n : ℕ) → n < count s → ltb n (count (with_more s more)) ≡ true
    longer n low = let e = count_more s more in lt-ltb n (count (with_more s more)) (omega arith)

    node : (x : Node) → Has s.nodes x ⊎ Has more x → is_node (count (with_more s more)) x ≡ true
    node x (inl p) =
        let l = is_listed (count s) x (every_has (is_node (count s)) s.nodes x parts.0 p) in
        listed_is (count (with_more s more)) x (record { low = λ v has. let low = l.low v has in let e = count_more s more in omega arith; rises = l.rises })
    node x (inr p) = listed_is (count (with_more s more)) x (listed x p)

    pair : (p : ℕ × ℕ) → Has s.differ p → (ltb p.0 (count (with_more s more)) && ltb p.1 (count (with_more s more))) ≡ true
    pair p has =
        let both = and_parts (ltb p.0 (count s)) (ltb p.1 (count s)) (every_has (λ (p : ℕ × ℕ). ltb p.0 (count s) && ltb p.1 (count s)) s.differ p others.0 has) in
        and_from (ltb p.0 (count (with_more s more))) (ltb p.1 (count (with_more s more))) (longer p.0 (ltb-true p.0 (count s) both.0)) (longer p.1 (ltb-true p.1 (count s) both.1))

    root : (o : Option ℕ) → Has s.roots o → is_root (count (with_more s more)) o ≡ true
    root None has = refl
    root (Some m) has = longer m (ltb-true m (count s) (every_has (is_root (count s)) s.roots (Some m) others.1 has))

-- A structure whose nodes are those of another, with values elsewhere, is total as the other is.
pub record IsRenamed (h : Hierarchy) (t u : Structure) (old r : ℕ → ℕ) : Type 0 where
  pub inside : (k : ℕ) → k < count u → old k < count t
  pub types : (k : ℕ) → k < count u → type_of u k ≡ type_of t (old k)
  pub values : (k f : ℕ) → k < count u → value_of u k f ≡ option_map r (value_of t (old k) f)
  pub onward : (m : ℕ) → m < count t → Above h (type_of t m) (type_of u (r m))

pub renamed_total : (h : Hierarchy) → IsLawful h → (t u : Structure) (old r : ℕ → ℕ) → IsTrue (is_formed t) → IsTotal h t → IsRenamed h t u old r → IsTotal h u
renamed_total h law t u old r formed total n = record {
  types = λ k low. subst (λ z. z < h.types) (sym (n.types k low)) (total.types (old k) (n.inside k low));
  there = λ k f q low e. there k f q low (total.there (old k) f q (n.inside k low) (ap (h.approp f) (sym (n.types k low)) ∙ e));
  only = λ k f m e. let low = value_from u k f m e in only k f m low (option_of r (value_of t (old k) f) m (sym (n.values k f low) ∙ e));
}
  where
    there : (k f q : ℕ) → k < count u → (m : ℕ) × (value_of t (old k) f ≡ Some m) → (m : ℕ) × (value_of u k f ≡ Some m)
    there k f q low (m, e) = (r m, n.values k f low ∙ ap (option_map r) e)

    only : (k f m : ℕ) → k < count u → (j : ℕ) × (value_of t (old k) f ≡ Some j) × (r j ≡ m) → (q : ℕ) × (h.approp f (type_of u k) ≡ Some q) × Above h q (type_of u m)
    only k f m low (j, e, is) =
        let a = total.only (old k) f j e in
        (a.0, ap (h.approp f) (n.types k low) ∙ a.1, subst (λ z. Above h a.0 (type_of u z)) is (law.along a.0 (type_of t j) (type_of u (r j)) a.2 (n.onward j (value_inside t formed (old k) f j e))))

-- x has all that u has
pub record Covers (h : Hierarchy) (t : Structure) (u x : ℕ) : Type 0 where
  pub type : Above h (type_of t u) (type_of t x)
  pub values : (f m : ℕ) → value_of t u f ≡ Some m → value_of t x f ≡ Some m

abbrev has_value : Option ℕ → ℕ → Bool
has_value None m = false
has_value (Some k) m = eqb k m

abbrev pub covers_test : Hierarchy → Structure → ℕ → ℕ → Bool
covers_test h t u x = h.is_above (type_of t u) (type_of t x) && every (λ (v : ℕ × ℕ). has_value (value_of t x v.0) v.1) (node_at t u).values

value_has : (o : Option ℕ) (m : ℕ) → has_value o m ≡ true → o ≡ Some m
value_has None m e = absurd cc
value_has (Some k) m e = ap Some (eqb-true k m e)

has_is : (o : Option ℕ) (m : ℕ) → o ≡ Some m → has_value o m ≡ true
has_is None m e = absurd (none_some e)
has_is (Some k) m e = eq-eqb k m (some_one e)

pub test_covers : (h : Hierarchy) (t : Structure) (u x : ℕ) → covers_test h t u x ≡ true → Covers h t u x
test_covers h t u x e =
    let p = and_parts (h.is_above (type_of t u) (type_of t x)) (every (λ (v : ℕ × ℕ). has_value (value_of t x v.0) v.1) (node_at t u).values) e in
    record { type = p.0; values = λ f m q. value_has (value_of t x f) m (every_has (λ (v : ℕ × ℕ). has_value (value_of t x v.0) v.1) (node_at t u).values (f, m) p.1 (entry_of (node_at t u).values f m q)) }

pub covers_tested : (h : Hierarchy) (t : Structure) → IsTrue (is_formed t) → (u x : ℕ) → u < count t → Covers h t u x → covers_test h t u x ≡ true
covers_tested h t formed u x low c =
    and_from (h.is_above (type_of t u) (type_of t x)) (every (λ (v : ℕ × ℕ). has_value (value_of t x v.0) v.1) (node_at t u).values) c.type
    (every_from (λ (v : ℕ × ℕ). has_value (value_of t x v.0) v.1) (node_at t u).values
    (λ v has. has_is (value_of t x v.0) v.1 (c.values v.0 v.1 (entry_value (node_at t u).values v (node_parts t formed u low).1 has))))

-- a list without the element at a place
abbrev pub dropped : ℕ → List Node → List Node
dropped j [] = []
dropped zero (x ∷ xs) = xs
dropped (suc j) (x ∷ xs) = x ∷ dropped j xs

pub dropped_low : (j : ℕ) (xs : List Node) (k : ℕ) → k < j → get_or (dropped j xs) k past ≡ get_or xs k past
dropped_low j [] k low = refl
dropped_low zero (x ∷ xs) k low = absurd (omega arith)
dropped_low (suc j) (x ∷ xs) zero low = refl
dropped_low (suc j) (x ∷ xs) (suc k) low = dropped_low j xs k (omega arith)

pub dropped_high : (j : ℕ) (xs : List Node) (k : ℕ) → j ≤ k → get_or (dropped j xs) k past ≡ get_or xs (suc k) past
dropped_high j [] k high = refl
dropped_high zero (x ∷ xs) k high = refl
dropped_high (suc j) (x ∷ xs) zero high = absurd (omega arith)
dropped_high (suc j) (x ∷ xs) (suc k) high = dropped_high j xs k (omega arith)

pub dropped_length : (j : ℕ) (xs : List Node) → j < length xs → suc (length (dropped j xs)) ≡ length xs
dropped_length j [] low = absurd (omega arith)
dropped_length zero (x ∷ xs) low = refl
dropped_length (suc j) (x ∷ xs) low = let l = dropped_length j xs (omega arith) in omega arith

pub dropped_has : (j : ℕ) (xs : List Node) (x : Node) → Has (dropped j xs) x → Has xs x
dropped_has j [] x has = absurd has
dropped_has zero (y ∷ ys) x has = inr has
dropped_has (suc j) (y ∷ ys) x (inl e) = inl e
dropped_has (suc j) (y ∷ ys) x (inr has) = inr (dropped_has j ys x has)

-- Structures read: values are nodes, and what lies past the last node has none.
use Rattle.std.proofs.Common.{◌≡◌, ℕ, zero, suc, ◌<◌, ◌≤◌, Bool, true, false, eqb, ltb, IsTrue, List, [], ◌∷◌, ◌⊎◌, inl, inr, refl, sym, ap, ◌∙◌, get_or, length, arith, Some, if◌then◌else◌}
use Rattle.std.proofs.lemmas.Bool.{and_parts, ltb-true}
use Rattle.ale_declared.specs.Lists.{Has, every}
use Rattle.ale_graph.specs.declared.node.Node.{Node}
use Rattle.ale_graph.specs.Structures.{Structure, count, node_at, value_in, value_of, is_node, is_formed, is_rising}
use Rattle.ale_graph.proofs.Lists.{some_one, none_some, every_has}

pub value_has : (vs : List (ℕ × ℕ)) (f m : ℕ) → value_in vs f ≡ Some m → (g : ℕ) × Has vs (g, m)
value_has [] f m e = absurd (none_some e)
value_has (v ∷ vs) f m e = go (value_has vs f m) (eqb v.0 f) e
  where
    go : (value_in vs f ≡ Some m → (g : ℕ) × Has vs (g, m)) → (t : Bool) → (if t then Some v.1 else value_in vs f) ≡ Some m → (g : ℕ) × Has (v ∷ vs) (g, m)
    go ih true e = (v.0, inl (λ i. (v.0, some_one (sym e) i)))
    go ih false e = let r = ih e in (r.0, inr r.1)

pub get_has : {A : Type 0} (xs : List A) (n : ℕ) (d : A) → n < length xs → Has xs (get_or xs n d)
get_has [] n d lt = absurd (omega arith)
get_has (x ∷ xs) zero d lt = inl refl
get_has (x ∷ xs) (suc n) d lt = inr (get_has xs n d (omega arith))

pub get_past : {A : Type 0} (xs : List A) (n : ℕ) (d : A) → length xs ≤ n → get_or xs n d ≡ d
get_past [] n d le = refl
get_past (x ∷ xs) zero d le = absurd (omega arith)
get_past (x ∷ xs) (suc n) d le = get_past xs n d (omega arith)

-- only nodes have values
pub value_from : (s : Structure) (n f m : ℕ) → value_of s n f ≡ Some m → n < count s
value_from s n f m e = go (grind arith)
  where
    go : (n < count s) ⊎ (count s ≤ n) → n < count s
    go (inl l) = l
    go (inr g) =
        let past : node_at s n ≡ record { of = 0; values = [] } = get_past s.nodes n (record { of = 0; values = [] }) g in
        absurd (none_some (sym (ap (λ (x : Node). value_in x.values f) past) ∙ e))

-- a value is a node
pub value_inside : (s : Structure) → IsTrue (is_formed s) → (n f m : ℕ) → value_of s n f ≡ Some m → m < count s
value_inside s formed n f m e =
    let lt = value_from s n f m e in
    let nodes : every (is_node (count s)) s.nodes ≡ true = (and_parts (every (is_node (count s)) s.nodes) _ formed).0 in
    let node : is_node (count s) (node_at s n) ≡ true = every_has (is_node (count s)) s.nodes (node_at s n) nodes (get_has s.nodes n (record { of = 0; values = [] }) lt) in
    let values = (and_parts (every (λ (v : ℕ × ℕ). ltb v.1 (count s)) (node_at s n).values) (is_rising (node_at s n).values) node).0 in
    let h = value_has (node_at s n).values f m e in
    ltb-true m (count s) (every_has (λ (v : ℕ × ℕ). ltb v.1 (count s)) (node_at s n).values (h.0, m) values h.1)

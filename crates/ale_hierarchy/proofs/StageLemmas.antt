-- What the stages of building a signature rest on: edges and mentions within the numbers of the types.
use Rattle.std.proofs.Common.{◌≡◌, sym, ◌∙◌, subst, refl, ℕ, ◌<◌, true, List, [], ◌∷◌, length, inl, inr, eqb}
use Rattle.std.specs.Prelude.{nat_lt, ◌&&◌, IsTrue, ◌↔◌}
use Rattle.std.specs.List.{filter}
use Rattle.std.proofs.lemmas.Bool.{and_parts, and_from, ltb-true, lt-ltb, eqb-true, eq-eqb}
use Rattle.ale_relation.specs.Has.{Has}
use Rattle.ale_relation.specs.Paths.{ends_below, Leads}
use Rattle.ale_relation.specs.Rows.{Rows, holds}
use Rattle.ale_declared.specs.Declarations.{Declared}
use Rattle.ale_declared.specs.declared.decl.Mention.{Mention}
use Rattle.ale_hierarchy.specs.Stages.{IsOrdered, TellsLeads, are_below, are_within, directly_below, mentions_of}
use Rattle.ale_declared.proofs.ListLemmas.{map_has, filter_has, Has-map, Has-filter}
use Rattle.ale_hierarchy.proofs.LoopLemmas.{are_below-from}

-- both ends of each edge are below n
pub ends_below-from : (n : ℕ) (edges : List (ℕ × ℕ)) → ((a b : ℕ) → Has edges (a, b) → (a < n) × (b < n)) → ends_below n edges ≡ true
ends_below-from n [] h = refl
ends_below-from n ((a, b) ∷ es) h =
    let here = h a b (inl refl) in
    and_from (nat_lt a n && nat_lt b n) (ends_below n es)
    (and_from (nat_lt a n) (nat_lt b n) (lt-ltb a n here.0) (lt-ltb b n here.1))
    (ends_below-from n es (λ x y k. h x y (inr k)))

-- each mention names types below n
pub are_within-from : (n : ℕ) (ms : List Mention) → ((m : Mention) → Has ms m → (m.at < n) × (m.restriction < n)) → are_within n ms ≡ true
are_within-from n [] h = refl
are_within-from n (m ∷ ms) h =
    let first_m = h m (inl refl) in
    and_from (nat_lt m.at n && nat_lt m.restriction n) (are_within n ms)
    (and_from (nat_lt m.at n) (nat_lt m.restriction n) (lt-ltb m.at n first_m.0) (lt-ltb m.restriction n first_m.1))
    (are_within-from n ms (λ x k. h x (inr k)))

pub are_within-at : (n : ℕ) (ms : List Mention) (m : Mention) → are_within n ms ≡ true → Has ms m → (m.at < n) × (m.restriction < n)
are_within-at n [] m h k = absurd k
are_within-at n (x ∷ xs) m h (inl same) =
    let parts = and_parts (nat_lt x.at n && nat_lt x.restriction n) (are_within n xs) h in
    let both = and_parts (nat_lt x.at n) (nat_lt x.restriction n) parts.0 in
    subst (λ (z : Mention). (z.at < n) × (z.restriction < n)) (sym same) (ltb-true x.at n both.0, ltb-true x.restriction n both.1)
are_within-at n (x ∷ xs) m h (inr there) = are_within-at n xs m (and_parts (nat_lt x.at n && nat_lt x.restriction n) (are_within n xs) h).1 there

-- the mentions of a feature name types
pub mentions_of-within : (d : Declared) (f : ℕ) → IsOrdered d → are_within (length d.types) (mentions_of d.mentions f) ≡ true
mentions_of-within d f o =
    are_within-from (length d.types) (mentions_of d.mentions f) (λ m k.
    let ends = o.numbered.mentions m (filter_has (λ (m : Mention). eqb m.feature f) d.mentions m k).0 in
    (ends.0, ends.2))

-- a type directly below another, by an edge
pub directly_below_has : (edges : List (ℕ × ℕ)) (a k : ℕ) → Has (directly_below edges a) k → Has edges (a, k)
directly_below_has edges a k h =
    let made = map_has (λ (e : ℕ × ℕ). e.1) (filter (λ (e : ℕ × ℕ). eqb e.0 a) edges) k h in
    let kept = filter_has (λ (e : ℕ × ℕ). eqb e.0 a) edges made.0 made.1 in
    edge_is edges made.0 a k kept.0 (eqb-true made.0.0 a kept.1) made.2
  where
    edge_is : (edges : List (ℕ × ℕ)) (e : ℕ × ℕ) (a k : ℕ) → Has edges e → e.0 ≡ a → k ≡ e.1 → Has edges (a, k)
    edge_is edges (x, y) a k h p q = rw (q, ← p) h

-- the end of an edge is directly below its start
pub Has-directly_below : (edges : List (ℕ × ℕ)) (a k : ℕ) → Has edges (a, k) → Has (directly_below edges a) k
Has-directly_below edges a k h =
    Has-map (λ (e : ℕ × ℕ). e.1) (filter (λ (e : ℕ × ℕ). eqb e.0 a) edges) (a, k)
    (Has-filter (λ (e : ℕ × ℕ). eqb e.0 a) edges (a, k) h (eq-eqb a a refl))

-- types directly below another are types
pub directly_below-below : (d : Declared) (a : ℕ) → IsOrdered d → are_below (length d.types) (directly_below d.edges a) ≡ true
directly_below-below d a o =
    are_below-from (length d.types) (directly_below d.edges a) (λ k h. (o.numbered.edges a k (directly_below_has d.edges a k h)).1)

-- the rows that are told of the edges that are read tell what is declared
pub TellsLeads-from : (d : Declared) (rows : Rows) (edges : List (ℕ × ℕ)) (n : ℕ) → n ≡ length d.types → edges ≡ d.edges → rows.size ≡ n → ((a b : ℕ) → a < n → b < n → IsTrue (holds rows a b) ↔ Leads edges a b) → TellsLeads d rows
TellsLeads-from d rows edges n e f size leads = record {
  size = size ∙ e;
  leads = λ a b p q. subst (λ (es : List (ℕ × ℕ)). IsTrue (holds rows a b) ↔ Leads es a b) f (leads a b (rw e p) (rw e q));
}

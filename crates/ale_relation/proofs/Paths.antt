-- How paths along edges compose and split.
use Rattle.std.proofs.Common.{◌≡◌, ℕ, ◌<◌, ◌⊎◌, ◌&&◌, true, List, [], ◌∷◌, nat_lt, refl, sym, subst, inl, inr}
use Rattle.std.proofs.lemmas.Bool.{and_parts, ltb-true}
use Rattle.ale_relation.specs.Has.{Has}
use Rattle.ale_relation.specs.Paths.{Reaches, here, along, Leads, ends_below}

pub reaches_trans : (edges : List (ℕ × ℕ)) (a b c : ℕ) → Reaches edges a b → Reaches edges b c → Reaches edges a c
reaches_trans edges a b c (here _) q = q
reaches_trans edges a b c (along _ m _ e p) q = along a m c e (reaches_trans edges m b c p q)

-- a path of one or more edges is one of zero or more
pub reaches_from_leads : (edges : List (ℕ × ℕ)) (a b : ℕ) → Leads edges a b → Reaches edges a b
reaches_from_leads edges a b p = along a p.0 b p.1 p.2

pub leads_trans : (edges : List (ℕ × ℕ)) (a b c : ℕ) → Leads edges a b → Leads edges b c → Leads edges a c
leads_trans edges a b c p q =
    (p.0, p.1, reaches_trans edges p.0 b c p.2 (reaches_from_leads edges b c q))

-- a path has no edge, or one or more
pub reaches_split : (edges : List (ℕ × ℕ)) (a b : ℕ) → Reaches edges a b → (a ≡ b) ⊎ Leads edges a b
reaches_split edges a b (here _) = inl refl
reaches_split edges a b (along _ m _ e p) = inr (m, e, p)

-- both ends of an edge are below the size
pub has_below : (size : ℕ) (edges : List (ℕ × ℕ)) (edge : ℕ × ℕ) → ends_below size edges ≡ true → Has edges edge → (edge.0 < size) × (edge.1 < size)
has_below size [] edge within h = absurd h
has_below size (e ∷ es) edge within (inl same) =
    let here_below = and_parts (nat_lt e.0 size && nat_lt e.1 size) (ends_below size es) within in
    let both = and_parts (nat_lt e.0 size) (nat_lt e.1 size) here_below.0 in
    subst (λ (x : ℕ × ℕ). (x.0 < size) × (x.1 < size)) (sym same) (ltb-true e.0 size both.0, ltb-true e.1 size both.1)
has_below size (e ∷ es) edge within (inr h) =
    has_below size es edge (and_parts (nat_lt e.0 size && nat_lt e.1 size) (ends_below size es) within).1 h

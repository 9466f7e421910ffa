-- Maps of nodes: one beside another, and morphisms that agree on the nodes of a structure.
use Rattle.std.proofs.Common.{◌≡◌, ℕ, ◌+◌, ◌-◌, ◌<◌, ◌≤◌, Bool, true, false, ltb, List, ◌++◌, ◌⊎◌, inl, inr, refl, sym, ap, ◌∙◌, subst, arith, if◌then◌else◌}
use Rattle.std.proofs.Math.Path.{fun_ext}
use Rattle.std.proofs.lemmas.Bool.{lt-ltb, le-ltb}
use Rattle.ale_declared.specs.Lists.{Has}
use Rattle.ale_hierarchy.specs.Hierarchy.{Hierarchy}
use Rattle.ale_graph.specs.declared.fact.Fact.{Fact}
use Rattle.ale_graph.specs.Structures.{Structure, IsStructure, count}
use Rattle.ale_graph.specs.Facts.{Holds, HoldsFact}
use Rattle.ale_graph.specs.Morphisms.{IsMorphismAside}
use Rattle.ale_graph.proofs.Lists.{has_either}
use Rattle.ale_logic.specs.Putting.{graph_facts}
use Rattle.ale_logic.specs.PutLaws.{PutLaws}
use Rattle.ale_extension_law.proofs.Through.{along_nodes}

-- f below c, and g from c on
abbrev pub beside : ℕ → (ℕ → ℕ) → (ℕ → ℕ) → ℕ → ℕ
beside c f g k = if ltb k c then f k else g (k - c)

pub beside_low : (c : ℕ) (f g : ℕ → ℕ) (k : ℕ) → k < c → beside c f g k ≡ f k
beside_low c f g k low = go (ltb k c) (lt-ltb k c low)
  where
    go : (b : Bool) → b ≡ true → (if b then f k else g (k - c)) ≡ f k
    go true e = refl
    go false e = absurd cc

pub beside_high : (c : ℕ) (f g : ℕ → ℕ) (k : ℕ) → c ≤ k → beside c f g k ≡ g (k - c)
beside_high c f g k high = go (ltb k c) (le-ltb k c high)
  where
    go : (b : Bool) → b ≡ false → (if b then f k else g (k - c)) ≡ g (k - c)
    go false e = refl
    go true e = absurd cc

pub beside_from : (c : ℕ) (f g : ℕ → ℕ) (n : ℕ) → beside c f g (c + n) ≡ g n
beside_from c f g n = beside_high c f g (c + n) (omega arith) ∙ ap g (omega arith)

-- one node from c on
pub beside_at : (c : ℕ) (f : ℕ → ℕ) (m : ℕ) → beside c f (λ k. m) c ≡ m
beside_at c f m = beside_high c f (λ k. m) c (omega arith)

pub from_zero : (to : ℕ → ℕ) → (λ n. to (0 + n)) ≡ to
from_zero to = fun_ext (λ n. ap to (omega arith))

pub holds_both : (h : Hierarchy) (s : Structure) (to : ℕ → ℕ) (xs ys : List Fact) → Holds h s to xs → Holds h s to ys → Holds h s to (xs ++ ys)
holds_both h s to xs ys one two x has = go (has_either xs ys x has)
  where
    go : Has xs x ⊎ Has ys x → HoldsFact h s to x
    go (inl p) = one x p
    go (inr p) = two x p

module _ (puts : PutLaws) (h : Hierarchy) (s : Structure) where
  -- the facts of a structure hold under each map that is a morphism's on its nodes
  pub put_first : (g : Structure) (f to : ℕ → ℕ) → IsStructure h g → IsMorphismAside h g s f → ((n : ℕ) → n < count g → to n ≡ f n) → Holds h s to (graph_facts 0 g)
  put_first g f to str mor same =
      (puts h s to 0 g).up str.formed (subst (IsMorphismAside h g s) (sym (from_zero to)) (along_nodes h g s f to str mor same))

  pub put_from : (by : ℕ) (g : Structure) (f to : ℕ → ℕ) → IsStructure h g → IsMorphismAside h g s f → ((n : ℕ) → n < count g → to (by + n) ≡ f n) → Holds h s to (graph_facts by g)
  put_from by g f to str mor same = (puts h s to by g).up str.formed (along_nodes h g s f (λ n. to (by + n)) str mor same)

-- Laws of morphisms: the roots determine them, they compose where differing pairs stay apart, and structures
-- that subsume each other are alphabetic variants. Source: Carpenter 1992, chapters 2 and 3.
use Rattle.std.specs.Prelude.{◌≡◌, ◌≢◌, ◌⊎◌, ℕ, ◌<◌, false, None, List, IsTrue, option_map}
use Rattle.ale_declared.specs.Lists.{Has}
use Rattle.ale_declared.specs.Declarations.{declared}
use Rattle.ale_declared.specs.declared.decl.SigDecl.{SigDecl}
use Rattle.ale_hierarchy.specs.Hierarchy.{Hierarchy, IsLawful}
use Rattle.ale_hierarchy.specs.Accepted.{IsAccepted}
use Rattle.ale_hierarchy.specs.Order.{hierarchy}
use Rattle.ale_graph.specs.Structures.{Structure, count, type_of, value_of, root_at, is_formed, IsApart, IsStructure}
use Rattle.ale_graph.specs.Morphisms.{IsMorphism, Subsumes}
use Rattle.ale_morphism.specs.Rooted.{FromRoots, IsRooted}

-- two morphisms agree on the nodes that the roots reach
abbrev pub RootsDetermine : Type 0
RootsDetermine =
    (h : Hierarchy) (s t : Structure) (f g : ℕ → ℕ) → IsMorphism h s t f → IsMorphism h s t g → (n : ℕ) → FromRoots s n → f n ≡ g n

-- a structure whose differing pairs are apart subsumes itself
abbrev pub Identity : Type 0
Identity = (h : Hierarchy) (s : Structure) → IsLawful h → IsApart s → IsMorphism h s s (λ n. n)

-- the map takes the nodes of each differing pair to two nodes
abbrev pub KeepsApart : Structure → (ℕ → ℕ) → Type 0
KeepsApart s at = (a b : ℕ) → Has s.differ (a, b) → at a ≢ at b

-- the map takes each differing pair to a differing pair, in either order
abbrev pub KeepsPairs : Structure → Structure → (ℕ → ℕ) → Type 0
KeepsPairs s t at = (a b : ℕ) → Has s.differ (a, b) → Has t.differ (at a, at b) ⊎ Has t.differ (at b, at a)

-- A morphism after a morphism is one, where the two together keep the differing pairs of the first structure
-- apart. A morphism alone need not: it keeps apart what the second structure's pairs say, and the first
-- structure's pairs need not be among those.
abbrev pub Compose : Type 0
Compose =
    (h : Hierarchy) (s t u : Structure) (f g : ℕ → ℕ) → IsLawful h → IsMorphism h s t f → IsMorphism h t u g → KeepsApart s (λ n. g (f n)) → IsMorphism h s u (λ n. g (f n))

-- which is so where the first one takes pairs to pairs
abbrev pub ComposePairs : Type 0
ComposePairs =
    (h : Hierarchy) (s t u : Structure) (f g : ℕ → ℕ) → IsLawful h → IsMorphism h s t f → KeepsPairs s t f → IsMorphism h t u g → IsMorphism h s u (λ n. g (f n))

-- no feature is appropriate to the most general type, and its nodes are never identified for their values
pub record IsBotPlain (h : Hierarchy) : Type 0 where
  pub no_features : (f : ℕ) → h.approp f 0 ≡ None
  pub not_ext : h.is_ext 0 ≡ false

-- Without it subsumption is not transitive: where the most general type is plain, not even between total,
-- extensional structures of the signature.
abbrev pub NotTransitive : Type 0
NotTransitive =
    (h : Hierarchy) → IsLawful h → (s : Structure) × (t : Structure) × (u : Structure) × Subsumes h s t × Subsumes h t u × (Subsumes h s u → ⊥)
    × (IsBotPlain h → IsStructure h s × IsStructure h t × IsStructure h u)

-- and it is plain in some accepted signature
abbrev pub SomeBotIsPlain : Type 0
SomeBotIsPlain = (decls : List SigDecl) × IsAccepted (declared decls) × IsBotPlain (hierarchy (declared decls))

-- s and t are alphabetic variants, differing pairs aside: f and g are inverse to each other, and keep types,
-- values and roots
pub record AreVariants (s t : Structure) (f g : ℕ → ℕ) : Type 0 where
  pub into : (n : ℕ) → n < count s → f n < count t
  pub onto : (n : ℕ) → n < count t → g n < count s
  pub there : (n : ℕ) → n < count s → g (f n) ≡ n
  pub back : (n : ℕ) → n < count t → f (g n) ≡ n
  pub types : (n : ℕ) → n < count s → type_of t (f n) ≡ type_of s n
  pub values : (n x : ℕ) → n < count s → value_of t (f n) x ≡ option_map f (value_of s n x)
  pub roots : (i : ℕ) → root_at t i ≡ option_map f (root_at s i)

abbrev pub Variants : Type 0
Variants =
    (h : Hierarchy) (s t : Structure) (f g : ℕ → ℕ) → IsLawful h → IsTrue (is_formed s) → IsTrue (is_formed t) → IsRooted s → IsRooted t → IsMorphism h s t f → IsMorphism h t s g → AreVariants s t f g

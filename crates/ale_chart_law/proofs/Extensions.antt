-- Extensions one after the other, and what goes on into them: morphisms, constraints that are met, added nodes.
use Rattle.std.proofs.Common.{ℕ, ◌<◌, ◌≤◌, [], ◌⊎◌, inl, inr, refl, sym, subst, arith}
use Rattle.std.proofs.lemmas.Bool.{cases_lt}
use Rattle.std.proofs.lemmas.List.{append-nil}
use Rattle.ale_hierarchy.specs.Hierarchy.{Hierarchy, Above}
use Rattle.ale_graph.specs.Structures.{Structure, IsStructure, count, type_of}
use Rattle.ale_graph.specs.Morphisms.{IsMorphismAside}
use Rattle.ale_graph.specs.Extensions.{Extends}
use Rattle.ale_logic.specs.Programs.{Program}
use Rattle.ale_logic.specs.Models.{MeetsConstraint, MeetsAt}
use Rattle.ale_logic.specs.Extending.{AddedMeet}
use Rattle.ale_extension_law.proofs.Stays as stays

pub extends_self : (h : Hierarchy) (s : Structure) → IsStructure h s → Extends h s s
extends_self h s str = record { smaller = str; larger = str; nodes = ([], sym (append-nil s.nodes)); differ = refl; roots = refl }

pub morphism_on : (h : Hierarchy) (g s t : Structure) (f : ℕ → ℕ) → Extends h s t → IsMorphismAside h g s f → IsMorphismAside h g t f
morphism_on h g s t f ext mor = record {
  into = λ n low. stays.within h s t ext (f n) (mor.into n low);
  types = λ n low. subst (Above h (type_of g n)) (sym (stays.type_stays h s t ext (f n) (mor.into n low))) (mor.types n low);
  values = λ n k m e. stays.value_stays h s t ext (f n) k (f m) (mor.values n k m e);
  differs = mor.differs;
}

module _ (h : Hierarchy) (program : Program) (s t : Structure) (ext : Extends h s t) where
  pub meets_on : (k n : ℕ) → n < count s → MeetsAt h program s k n → MeetsAt h program t k n
  meets_on k n low met c at = (stays.stays_law h program s t ext).meets c n low (met c at)

  -- nodes that were added one after the other
  pub added_on : (r : Structure) → AddedMeet h program r s → AddedMeet h program s t → AddedMeet h program r t
  added_on r one two n k c high low at above = go (cases_lt n (count s))
    where
      go : (n < count s) ⊎ (count s ≤ n) → MeetsConstraint h program t c n
      go (inl inner) = (stays.stays_law h program s t ext).meets c n inner (one n k c high inner at (subst (Above h c.of) (stays.type_stays h s t ext n inner) above))
      go (inr outer) = two n k c outer low at above

pub none_added : (h : Hierarchy) (program : Program) (s : Structure) → AddedMeet h program s s
none_added h program s n k c high low at above = absurd (omega arith)

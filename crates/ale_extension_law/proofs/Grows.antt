-- What owes nothing grows to a model: an extension of its own graph in which it is sound is one, and shows the same.
use Rattle.std.proofs.Common.{◌≡◌, ℕ, ◌<◌, ◌≤◌, [], ◌∷◌, ◌⊎◌, inl, inr, sym, subst, arith, Some}
use Rattle.ale_declared.specs.Lists.{Has}
use Rattle.ale_hierarchy.specs.Hierarchy.{Hierarchy, Above}
use Rattle.ale_graph.specs.Structures.{Structure, count, type_of}
use Rattle.ale_graph.specs.Extensions.{Extends}
use Rattle.ale_morphism.specs.VisibleLaws.{VisibleLaw}
use Rattle.ale_logic.specs.Programs.{Constraint, Program}
use Rattle.ale_logic.specs.Models.{MeetsConstraint, constraint_at, IsModel}
use Rattle.ale_logic.specs.Words.{Kept, IsKept}
use Rattle.ale_logic.specs.Extending.{IsSoundFor, HasSoundExtension, OwesNothing}
use Rattle.ale_logic.specs.Growing.{GrowsTo}
use Rattle.ale_extension_law.proofs.Stays as stays
use Rattle.ale_extension_law.proofs.Visible.{visible_stays}

-- the extension is a model
pub sound_model : (h : Hierarchy) (program : Program) (kept : Kept) (root : ℕ) (t : Structure) → IsKept h kept root → OwesNothing h program kept → Extends h kept.graph t → IsSoundFor h program kept kept.graph t (λ n. n) → IsModel h program t
sound_model h program kept root t is owes ext sound = record {
  structure = ext.larger;
  some_node = let l = stays.larger h kept.graph t ext in let some = is.root_below in omega arith;
  meets = λ n k c low at above. go n k c low at above (grind arith);
}
  where
    go : (n k : ℕ) (c : Constraint) → n < count t → constraint_at program k ≡ Some c → Above h c.of (type_of t n) → (n < count kept.graph) ⊎ (count kept.graph ≤ n) → MeetsConstraint h program t c n
    go n k c low at above (inl inner) = sound.images n k c inner at (subst (Above h c.of) (stays.type_stays h kept.graph t ext n inner) above)
    go n k c low at above (inr outer) = sound.added n k c outer low at above

-- what holds in a sound extension of the kept graph itself solves, in a model that shows the same
pub grows : VisibleLaw → (h : Hierarchy) (program : Program) (kept : Kept) (root : ℕ) (Says Solves : Structure → Type 0) → IsKept h kept root → OwesNothing h program kept →
    HasSoundExtension h program kept kept.graph (λ n. n) Says → ((t : Structure) → IsModel h program t → count kept.graph ≤ count t → Says t → Solves t) → GrowsTo h kept.graph root Solves
grows law h program kept root Says Solves is owes e on = record {
  larger = e.larger;
  extends = e.extends;
  solves = on e.larger (sound_model h program kept root e.larger is owes e.extends e.sound) (stays.larger h kept.graph e.larger e.extends) e.says;
  visible_part = visible_stays law h kept.graph e.larger (Some root ∷ []) e.extends low;
}
  where
    low : (n : ℕ) → Has (Some root ∷ []) (Some n) → n < count kept.graph
    low n (inl same) = let e : n ≡ root = cc in subst (λ z. z < count kept.graph) (sym e) is.root_below
    low n (inr none) = absurd none

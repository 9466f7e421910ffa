-- What comes to hold in an extension whose added nodes meet the constraints of their types, in whatever extension one is.
use Rattle.std.proofs.Common.{◌<◌, ◌≤◌, [], ◌⊎◌, inl, inr, refl, sym, subst, arith}
use Rattle.std.proofs.lemmas.List.{append-nil}
use Rattle.ale_hierarchy.specs.Hierarchy.{Hierarchy, Above}
use Rattle.ale_graph.specs.Structures.{Structure, IsStructure, count}
use Rattle.ale_graph.specs.Extensions.{Extends}
use Rattle.ale_logic.specs.Programs.{Program}
use Rattle.ale_logic.specs.Models.{MeetsConstraint}
use Rattle.ale_logic.specs.Extending.{AddedMeet}
use Rattle.ale_extension_law.proofs.Stays.{stays_law}
use Rattle.ale_extension_law.proofs.Through.{extends_through}

pub extends_self : (h : Hierarchy) (s : Structure) → IsStructure h s → Extends h s s
extends_self h s str = record { smaller = str; larger = str; nodes = ([], sym (append-nil s.nodes)); differ = refl; roots = refl }

-- an extension in which A holds, and whose added nodes meet what is above their types
pub record Later (h : Hierarchy) (program : Program) (s : Structure) (A : Structure → Type 0) : Type 0 where
  pub larger : Structure
  pub extends : Extends h s larger
  pub added : AddedMeet h program s larger
  pub says : A larger

-- what the first step added meets its constraints in the second too
pub added_through : (h : Hierarchy) (program : Program) (s t u : Structure) → Extends h t u → AddedMeet h program s t → AddedMeet h program t u → AddedMeet h program s u
added_through h program s t u ext first second n k c high low at above = go (grind arith)
  where
    go : (n < count t) ⊎ (count t ≤ n) → MeetsConstraint h program u c n
    go (inl inner) =
        let same = (stays_law h program t u ext).types n inner in
        (stays_law h program t u ext).meets c n inner (first n k c high inner at (subst (Above h c.of) same above))
    go (inr outer) = second n k c outer low at above

module _ (h : Hierarchy) (program : Program) (s : Structure) where
  -- whatever s has grown to, it grows on to where A holds
  abbrev pub Soon : (Structure → Type 0) → Type 0
  Soon A = (u : Structure) → Extends h s u → Later h program u A

  -- what holds in an extension of s holds in each extension of that
  abbrev pub Stays : (Structure → Type 0) → Type 0
  Stays A = (u v : Structure) → Extends h s u → Extends h u v → A u → A v

  pub soon_now : (A : Structure → Type 0) → ((u : Structure) → Extends h s u → A u) → Soon A
  soon_now A now u ext = record {
    larger = u;
    extends = extends_self h u ext.larger;
    added = λ n k c high low at above. absurd (omega arith);
    says = now u ext;
  }

  pub soon_map : (A B : Structure → Type 0) → ((u : Structure) → Extends h s u → A u → B u) → Soon A → Soon B
  soon_map A B on soon u ext =
      let r = soon u ext in
      record { larger = r.larger; extends = r.extends; added = r.added; says = on r.larger (extends_through h s u r.larger ext r.extends) r.says }

  -- first the one, and then the other, where the one stays
  pub soon_both : (A B : Structure → Type 0) → Stays A → Soon A → Soon B → Soon (λ t. A t × B t)
  soon_both A B stay first second u ext =
      let a = first u ext in
      let through = extends_through h s u a.larger ext a.extends in
      let b = second a.larger through in
      record {
        larger = b.larger;
        extends = extends_through h u a.larger b.larger a.extends b.extends;
        added = added_through h program u a.larger b.larger b.extends a.added b.added;
        says = (stay a.larger b.larger through b.extends a.says, b.says);
      }

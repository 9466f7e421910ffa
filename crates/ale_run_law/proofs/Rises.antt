-- Wherever a part of an answer goes, the whole goes into an extension; and each further extension in which what was
-- imposed is met, and the nodes that were added since meet their constraints, is sound for the part.
use Rattle.std.proofs.Common.{◌≡◌, ℕ, ◌<◌, ◌≤◌, List, [], ◌++◌, ◌⊎◌, inl, inr, refl, sym, ap, ◌∙◌, subst, arith, Some}
use Rattle.std.proofs.lemmas.List.{append-nil}
use Rattle.ale_declared.specs.Lists.{Has}
use Rattle.ale_hierarchy.specs.Hierarchy.{Above, IsLawful}
use Rattle.ale_graph.specs.declared.node.Node.{Node}
use Rattle.ale_graph.specs.Structures.{Structure, IsStructure, count, type_of}
use Rattle.ale_graph.specs.Morphisms.{IsMorphismAside}
use Rattle.ale_graph.specs.Extensions.{Extends}
use Rattle.ale_graph.specs.Closure.{node_of}
use Rattle.ale_logic.specs.Programs.{Constraint}
use Rattle.ale_logic.specs.Models.{MeetsConstraint, MeetsAt, constraint_at}
use Rattle.ale_logic.specs.Words.{Grammar}
use Rattle.ale_logic.specs.Visits.{Answer}
use Rattle.ale_logic.specs.Parts.{Part}
use Rattle.ale_logic.specs.States.{State}
use Rattle.ale_logic.specs.Steps.{IsAllImposed, IsBrought}
use Rattle.ale_logic.specs.Runs.{MeetsPairs, FreeSense, Returns, IsAnswer}
use Rattle.ale_logic.specs.Extending.{AddedMeet, IsSoundFor}
use Rattle.ale_logic.specs.PartLaws.{IsReattached, IsPart}
use Rattle.ale_run_law.proofs.First.{stands}
use Rattle.ale_extension_law.proofs.Stays as stays

-- In a further extension, too, what was imposed is met, where what was given is met there and no word was used.
pub all_met_on : (gr : Grammar) → ((s : Structure) (n k : ℕ) → IsBrought gr s n k → ⊥) → (s t : Structure) → Extends gr.signature s t → (st : State) (a : Answer) → IsAnswer gr st a → (map : ℕ → ℕ) → IsMorphismAside gr.signature a.closed.graph s map →
    (free : FreeSense s a) → Returns gr s st a map free → ((n k : ℕ) → Has st.imposed (n, k) → MeetsAt gr.signature gr.program t k (map (node_of a.closed n))) → MeetsPairs gr t (λ n. map (node_of a.closed n)) a.state.imposed
all_met_on gr wordless s t ext st a is map m free r given n k has = elim (r.accounted (n, k) has) [
  | inl first ↦ given n k first
  | inr later ↦ elim later [
    | inl met ↦ λ c at.
        let low = is.is.imposed n k has in
        let longer = is.longer in
        let inside : map (node_of a.closed n) < count s = m.into (node_of a.closed n) (is.nodes n (omega arith)) in
        (stays.stays_law gr.signature gr.program s t ext).meets c (map (node_of a.closed n)) inside (subst (MeetsConstraint gr.signature gr.program s c) (r.node n) (met c at))
    | inr brought ↦ absurd (wordless s _ k brought)
  ]
]

module _ (gr : Grammar) (lawful : IsLawful gr.signature) (root : ℕ) (a : Answer) (p : Part) where
  pub rise_on : IsStructure gr.signature a.closed.graph → IsPart gr.signature gr.program root a p → IsAllImposed gr a → (s : Structure) (to : ℕ → ℕ) (r : IsReattached gr.signature a p s to) (t : Structure) → Extends gr.signature r.larger t →
      AddedMeet gr.signature gr.program r.larger t → MeetsPairs gr t (λ n. r.map (node_of a.closed n)) a.state.imposed → IsSoundFor gr.signature gr.program p.kept s t to
  rise_on str part imposed s to r t ext added met = record {
    added = λ n k c high low at above. behind n k c high low at above (grind arith);
    images = λ n k c low at above. image n k c low at above;
    imposed = λ n k has c at.
        let i = part.imposed n k has in
        let low = part.is.imposed_below n k has in
        subst (MeetsConstraint gr.signature gr.program t c) (ap r.map i.2 ∙ r.agrees n low) (met i.0 k i.1 c at);
  }
    where
      -- the whole's node meets what is above its type
      of_whole : (m k : ℕ) (c : Constraint) → m < count a.closed.graph → constraint_at gr.program k ≡ Some c → Above gr.signature c.of (type_of a.closed.graph m) → MeetsConstraint gr.signature gr.program t c (r.map m)
      of_whole m k c low at above =
          let i = imposed m k c low at above in
          subst (λ z. MeetsConstraint gr.signature gr.program t c (r.map z)) i.2 (met i.0 k i.1 c at)

      behind : (n k : ℕ) (c : Constraint) → count s ≤ n → n < count t → constraint_at gr.program k ≡ Some c → Above gr.signature c.of (type_of t n) → (n < count r.larger) ⊎ (count r.larger ≤ n) → MeetsConstraint gr.signature gr.program t c n
      behind n k c high low at above (inl inner) =
          let b = r.added n high inner in
          let same : type_of t n ≡ type_of r.larger n = (stays.stays_law gr.signature gr.program r.larger t ext).types n inner in
          subst (MeetsConstraint gr.signature gr.program t c) b.2 (of_whole b.0 k c b.1 at (b.3 c.of (subst (Above gr.signature c.of) same above)))
      behind n k c high low at above (inr outer) = added n k c outer low at above

      image : (n k : ℕ) (c : Constraint) → n < count p.kept.graph → constraint_at gr.program k ≡ Some c → Above gr.signature c.of (type_of p.kept.graph n) → MeetsConstraint gr.signature gr.program t c (to n)
      image n k c low at above =
          let m = part.onward a.closed.graph (λ z. z) (stands gr.signature lawful a.closed.graph str) in
          let higher : Above gr.signature c.of (type_of a.closed.graph (p.whole n)) = lawful.along c.of (type_of p.kept.graph n) (type_of a.closed.graph (p.whole n)) above (m.types n low) in
          subst (MeetsConstraint gr.signature gr.program t c) (r.agrees n low) (of_whole (p.whole n) k c (m.into n low) at higher)

  -- an extension that adds nothing
  pub rise : IsStructure gr.signature a.closed.graph → IsPart gr.signature gr.program root a p → IsAllImposed gr a → (s : Structure) (to : ℕ → ℕ) (r : IsReattached gr.signature a p s to) →
      MeetsPairs gr r.larger (λ n. r.map (node_of a.closed n)) a.state.imposed → IsSoundFor gr.signature gr.program p.kept s r.larger to
  rise str part imposed s to r met = rise_on str part imposed s to r r.larger (record { smaller = r.extends.larger; larger = r.extends.larger; nodes = ([], none r.larger.nodes); differ = refl; roots = refl })
      (λ n k c high low at above. absurd (omega arith)) met
    where
      none : (xs : List Node) → xs ≡ xs ++ []
      none xs = sym (append-nil xs)

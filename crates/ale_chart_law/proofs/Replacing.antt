-- An item that another one subsumes is replaced by it: the two maps one after the other are a morphism, as differing
-- pairs go to differing pairs.
use Rattle.std.proofs.Common.{◌≢◌, ℕ, ◌⊎◌, inl, inr, sym}
use Rattle.ale_declared.specs.Lists.{Has}
use Rattle.ale_hierarchy.specs.Hierarchy.{Hierarchy, IsLawful}
use Rattle.ale_graph.specs.Structures.{Structure, type_of}
use Rattle.ale_graph.specs.Morphisms.{IsMorphismAside}
use Rattle.ale_logic.specs.Starts.{ChartItem}
use Rattle.ale_chart_law.specs.Subsumed.{SubsumesItem, SubsumptionKeeps, AllKeeps}

after_it : (h : Hierarchy) → IsLawful h → (y x : ChartItem) → (by : SubsumesItem h y x) → (s : Structure) (g : ℕ → ℕ) → IsMorphismAside h x.kept.graph s g → IsMorphismAside h y.kept.graph s (λ n. g (by.subsumes.map n))
after_it h law y x by s g m = record {
  into = λ n low. m.into (by.subsumes.map n) (by.subsumes.is.into n low);
  types = λ n low. law.along (type_of y.kept.graph n) (type_of x.kept.graph (by.subsumes.map n)) (type_of s (g (by.subsumes.map n))) (by.subsumes.is.types n low) (m.types (by.subsumes.map n) (by.subsumes.is.into n low));
  values = λ n f k e. m.values (by.subsumes.map n) f (by.subsumes.map k) (by.subsumes.is.values n f k e);
  differs = λ a b has. apart a b (by.pairs a b has);
}
  where
    apart : (a b : ℕ) → Has x.kept.graph.differ (by.subsumes.map a, by.subsumes.map b) ⊎ Has x.kept.graph.differ (by.subsumes.map b, by.subsumes.map a) → g (by.subsumes.map a) ≢ g (by.subsumes.map b)
    apart a b (inl there) e = m.differs (by.subsumes.map a) (by.subsumes.map b) there e
    apart a b (inr there) e = m.differs (by.subsumes.map b) (by.subsumes.map a) there (sym e)

pub subsumption_keeps : SubsumptionKeeps
subsumption_keeps h keep drops law before x dropped =
    let r = drops before x dropped in
    (r.0, r.1, record { passive = r.2.passive; also = r.2.also; from = r.2.from; to = r.2.to; map = r.2.subsumes.map; root_to = r.2.subsumes.root_to; onward = after_it h law r.0 x r.2 })

pub all_keeps : AllKeeps
all_keeps h law before x dropped = absurd cc

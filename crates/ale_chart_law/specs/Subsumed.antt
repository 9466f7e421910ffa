-- A Keep that drops an item only where an earlier one over the same places subsumes it, differing pairs to differing
-- pairs. Source: subsumption checking in chart parsing, folklore; inequations as pairs are this project's own.
use Rattle.std.specs.Prelude.{◌≡◌, false, List, []}
use Rattle.ale_declared.specs.Lists.{Has}
use Rattle.ale_hierarchy.specs.Hierarchy.{Hierarchy}
use Rattle.ale_morphism.specs.MorphismLaws.{KeepsPairs}
use Rattle.ale_logic.specs.Starts.{ChartItem}
use Rattle.ale_logic.specs.Charts.{Keep, keep_all}
use Rattle.ale_logic.specs.Answers.{SubsumesAt}
use Rattle.ale_logic.specs.ChartLaws.{KeepLaw}

-- one passive item subsumes another over the same places, root to root
pub record SubsumesItem (h : Hierarchy) (y x : ChartItem) : Type 0 where
  pub passive : x.rest ≡ []
  pub also : y.rest ≡ []
  pub from : y.from ≡ x.from
  pub to : y.to ≡ x.to
  pub subsumes : SubsumesAt h y.kept.graph y.root x.kept.graph x.root
  pub pairs : KeepsPairs y.kept.graph x.kept.graph subsumes.map

abbrev pub DropsSubsumed : Hierarchy → Keep → Type 0
DropsSubsumed h keep = (before : List ChartItem) (x : ChartItem) → keep before x ≡ false → (y : ChartItem) × Has before y × SubsumesItem h y x

-- such a Keep replaces what it drops
abbrev pub SubsumptionKeeps : Type 0
SubsumptionKeeps = (h : Hierarchy) (keep : Keep) → DropsSubsumed h keep → KeepLaw h keep

-- and so does the one that drops nothing
abbrev pub AllKeeps : Type 0
AllKeeps = (h : Hierarchy) → KeepLaw h keep_all

use Rattle.ale_morphism.proofs.VisibleLaws as law
use Rattle.ale_morphism.proofs.laws.visible_laws.Goals as goal

pub returns : goal.returns
returns c = record {
  part = law.visible_law;
  twice = law.visible_twice;
  rooted = law.visible_rooted;
  subsumes = law.visible_subsumes;
}

use Rattle.ale_morphism.proofs.MorphismLaws as law
use Rattle.ale_morphism.proofs.laws.morphism_laws.Goals as goal

pub returns : goal.returns
returns c = record {
  determine = law.roots_determine;
  identity = law.identity;
  compose = law.compose;
  compose_pairs = law.compose_pairs;
  not_transitive = law.not_transitive;
  plain = law.some_bot_plain;
  variants = law.variants;
}

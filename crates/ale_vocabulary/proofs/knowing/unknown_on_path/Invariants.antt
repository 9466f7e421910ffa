use Rattle.std.proofs.Common.{◌≡◌, drop}
use Rattle.ale_declared.specs.Names.{is_named}
use Rattle.ale_vocabulary.specs.declared.error.NameError.TheVariants.{UnknownFeature}
use Rattle.ale_vocabulary.specs.First.{first_of}
use Rattle.ale_vocabulary.specs.Knowing.{unless}
use Rattle.ale_vocabulary.proofs.knowing.unknown_on_path.Given as goal

abbrev pub invariant-loop-name : goal.invariant-loop-name
invariant-loop-name l = first_of (λ f. unless (is_named f l.sig.features) (UnknownFeature f)) (drop l.name-index l.path) ≡ first_of (λ f. unless (is_named f l.sig.features) (UnknownFeature f)) l.path

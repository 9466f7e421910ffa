use Rattle.std.proofs.Common.{◌≡◌, ◌<◌, ◌+◌, arith, [], ◌∷◌, length, subst}
use Rattle.ale_expansion.specs.Marks.{path_at, paths_of}
use Rattle.ale_expansion.specs.Met.{MetData}
use Rattle.ale_expansion.proofs.Lineage.{known_stay, how_many_paths}
use Rattle.ale_expansion.proofs.met.Met.root.Goals as goal

pub returns-clause-there : goal.returns-clause-there
returns-clause-there c =
    let many : length (paths_of c.self.inside.calls) ≡ 1 + length c.self.inside.calls = how_many_paths ([] ∷ []) c.self.inside.calls in
    subst (λ (d : MetData). 0 < length d.paths) c.self.view_is (omega (arith, many))

pub returns-clause-path : goal.returns-clause-path
returns-clause-path c = subst (λ (d : MetData). path_at d.paths 0 ≡ []) c.self.view_is (known_stay ([] ∷ []) c.self.inside.calls 0 (omega arith))

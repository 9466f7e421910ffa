use Rattle.std.proofs.Common.{IsTrue, ◌≡◌, [], rules}
use Rattle.ale_declared.specs.Lists.{every}
use Rattle.ale_graph.specs.Structures.{is_formed}
use Rattle.ale_morphism.proofs.RootSteps.{roots_start, rooted_decides}
use Rattle.ale_morphism.proofs.rooted.is_rooted.Goals as goal

pub returns : goal.returns
returns c =
    let formed : IsTrue (is_formed c.args.g.now) = search rules in
    let is : c.are_set.result ≡ every (λ b. b) c.in_ok-flags.flags.items = search rules in
    rooted_decides c.args.g.now formed c.in_ok-flags.flags.items (c.in_ok-flags.ensures [] c.args.g.now.roots (roots_start c.args.g.now formed c.in_ok-roots.roots.items c.in_ok-roots.ensures)) c.are_set.result is

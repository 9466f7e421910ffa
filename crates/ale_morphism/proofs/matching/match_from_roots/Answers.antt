use Rattle.std.proofs.Common.{IsTrue, rules, ◌≡◌, None, refl, replicate}
use Rattle.ale_graph.specs.Structures.{count, is_formed}
use Rattle.ale_morphism.specs.Walking.{lists_of}
use Rattle.ale_morphism.proofs.WalkSteps.{code_starts, code_fails, code_visits, code_visit_fails, walk_ends}
use Rattle.ale_morphism.proofs.matching.match_from_roots.Goals as goal

pub returns-then-not-branch-clause-found : goal.returns-then-not-branch-clause-found
returns-then-not-branch-clause-found c =
    let formed : IsTrue (is_formed c.args.f.now) = search rules in
    let images : c.in_ok-images.images.items ≡ replicate (count c.args.f.now) None = search rules in
    code_fails c.args.f.now c.args.g.now formed c.as_slice-2.result.now c.as_slice-3.result.now _ c.send_roots.new.walk c.in_ok-send_roots.field-0 (search rules) (search rules) images c.in_ok-send_roots.ensures c.if-not-branch.true

pub nodes-init : goal.nodes-init
nodes-init c =
    let formed : IsTrue (is_formed c.args.f.now) = search rules in
    let images : c.in_ok-images.images.items ≡ replicate (count c.args.f.now) None = search rules in
    code_starts c.args.f.now c.args.g.now formed c.as_slice-2.result.now c.as_slice-3.result.now _ c.send_roots.new.walk c.in_ok-send_roots.field-0 (search rules) (search rules) images c.new.ensures.items c.in_ok-send_roots.ensures c.if-not-branch.false

pub returns-then-not-branch-2-clause-found : goal.returns-then-not-branch-2-clause-found
returns-then-not-branch-2-clause-found c =
    let formed : IsTrue (is_formed c.args.f.now) = search rules in
    code_visit_fails c.args.f.now c.args.g.now formed c.in-Some.node (lists_of c.nodes.walk) _ c.visit.new.walk c.in_ok-visit.field-0 c.nodes.invariant refl c.in_ok-visit.ensures c.if-not-branch-2.true

pub nodes-smaller : goal.nodes-smaller
nodes-smaller c =
    let formed : IsTrue (is_formed c.args.f.now) = search rules in
    (code_visits c.args.f.now c.args.g.now formed c.in-Some.node (lists_of c.nodes.walk) _ c.visit.new.walk c.in_ok-visit.field-0 c.nodes.invariant refl c.in-Some.ensures.items c.in_ok-visit.ensures c.if-not-branch-2.false).1

pub nodes-preserved : goal.nodes-preserved
nodes-preserved c =
    let formed : IsTrue (is_formed c.args.f.now) = search rules in
    (code_visits c.args.f.now c.args.g.now formed c.in-Some.node (lists_of c.nodes.walk) _ c.visit.new.walk c.in_ok-visit.field-0 c.nodes.invariant refl c.in-Some.ensures.items c.in_ok-visit.ensures c.if-not-branch-2.false).0

pub returns-clause-found : goal.returns-clause-found
returns-clause-found c =
    let formed : IsTrue (is_formed c.args.f.now) = search rules in
    walk_ends c.args.f.now c.args.g.now formed (lists_of c.nodes.walk) c.nodes.invariant (search rules) c.requires

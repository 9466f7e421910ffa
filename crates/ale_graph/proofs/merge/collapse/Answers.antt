use Rattle.std.proofs.Common.{sym, ◌∙◌, subst}
use Rattle.ale_hierarchy.specs.Order.{hierarchy}
use Rattle.ale_graph.specs.Working.{Working, lists_of, filled_of}
use Rattle.ale_graph.proofs.MergeSteps.{IsMerged, merge_steps, collapse_ends}
use Rattle.ale_graph.proofs.merge.collapse.Goals as goal

pub doubles-smaller : goal.doubles-smaller
doubles-smaller c =
    let s = subst (λ (z : Working). IsMerged (hierarchy c.args.sig.now) (lists_of c.doubles.draft) z) (sym c.in_ok-merge_in.ensures) (merge_steps (hierarchy c.args.sig.now) c.requires.lawful (lists_of c.doubles.draft) c.doubles.invariant.draft c.doubles.invariant.full c.in-Some.a c.in-Some.b (sym c.in-Some.ensures)) in
    s.less

pub doubles-preserved : goal.doubles-preserved
doubles-preserved c =
    let s = subst (λ (z : Working). IsMerged (hierarchy c.args.sig.now) (lists_of c.doubles.draft) z) (sym c.in_ok-merge_in.ensures) (merge_steps (hierarchy c.args.sig.now) c.requires.lawful (lists_of c.doubles.draft) c.doubles.invariant.draft c.doubles.invariant.full c.in-Some.a c.in-Some.b (sym c.in-Some.ensures)) in
    record { draft = s.draft; full = s.full; same = s.same ∙ c.doubles.invariant.same }

pub returns-clause-value : goal.returns-clause-value
returns-clause-value c =
    sym (collapse_ends (hierarchy c.args.sig.now) (filled_of (lists_of c.doubles.draft)) (sym c.in_default.ensures)) ∙ c.doubles.invariant.same

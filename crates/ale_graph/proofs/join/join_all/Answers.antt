use Rattle.std.proofs.Common.{length, subst, sym, ap, ◌∙◌, refl}
use Rattle.ale_graph.specs.Drafts.{class_in}
use Rattle.ale_graph.proofs.Lists.{length_upto}
use Rattle.ale_graph.proofs.Classes.{IsJoining}
use Rattle.ale_graph.proofs.Passes.{pass_was, joining_starts, joined_from}
use Rattle.ale_graph.proofs.join.join_all.Goals as goal

pub passes-init : goal.passes-init
passes-init c = record {
  joining = subst (λ z. IsJoining c.args.facts.now c.args.next (class_in z)) (sym c.in_ok-class.ensures) (joining_starts c.args.facts.now c.args.next);
  class_length = ap length c.in_ok-class.ensures ∙ length_upto c.args.next;
}

pub returns-then-not-changed : goal.returns-then-not-changed
returns-then-not-changed c =
    let p = pass_was c.args.facts.now c.args.next c.passes.class.items c.in_ok-values.values.items _ c.requires c.passes.invariant.joining c.passes.invariant.class_length c.in_ok-values.ensures c.in_ok-changed.ensures in
    joined_from c.args.facts.now c.args.next _ p.kept (p.quiet c.if-not-changed.true).1

pub passes-smaller : goal.passes-smaller
passes-smaller c =
    let p = pass_was c.args.facts.now c.args.next c.passes.class.items c.in_ok-values.values.items _ c.requires c.passes.invariant.joining c.passes.invariant.class_length c.in_ok-values.ensures c.in_ok-changed.ensures in
    p.falls.less refl c.if-not-changed.false

pub passes-preserved : goal.passes-preserved
passes-preserved c =
    let p = pass_was c.args.facts.now c.args.next c.passes.class.items c.in_ok-values.values.items _ c.requires c.passes.invariant.joining c.passes.invariant.class_length c.in_ok-values.ensures c.in_ok-changed.ensures in
    record { joining = p.kept.joining; class_length = p.kept.class_length }

use Rattle.std.proofs.Common.{Some, None, false, length, subst, sym, refl}
use Rattle.ale_hierarchy.specs.Order.{hierarchy}
use Rattle.ale_graph.specs.Drafts.{class_in}
use Rattle.ale_graph.proofs.RaiseSteps.{IsLifting, lifting_starts, pass_lifts, pass_done, types_missing}
use Rattle.ale_graph.proofs.raise.raise_all.Goals as goal

pub passes-init : goal.passes-init
passes-init c =
    subst (λ z. IsLifting (hierarchy c.args.sig.now) c.args.facts.now (length c.args.class.now) (class_in c.args.class.now) (record { types = z; changed = false })) (sym c.in_ok-types.ensures)
    (lifting_starts (hierarchy c.args.sig.now) c.args.facts.now (length c.args.class.now) (class_in c.args.class.now) c.requires.lawful c.requires.fits c.requires.classes)

pub returns-in-None : goal.returns-in-None
returns-in-None c =
    types_missing (hierarchy c.args.sig.now) c.args.facts.now (length c.args.class.now) (class_in c.args.class.now) c.requires.lawful c.requires.fits c.requires.classes
    (pass_lifts (hierarchy c.args.sig.now) c.args.facts.now (length c.args.class.now) (class_in c.args.class.now) c.requires.lawful c.requires.fits c.requires.classes c.passes.types.items c.passes.invariant None c.in-None.ensures.value)

pub returns-then-not-changed : goal.returns-then-not-changed
returns-then-not-changed c =
    let p = pass_lifts (hierarchy c.args.sig.now) c.args.facts.now (length c.args.class.now) (class_in c.args.class.now) c.requires.lawful c.requires.fits c.requires.classes c.passes.types.items c.passes.invariant (Some (record { types = c.raise_facts.new.types.items; changed = c.in-Some.changed })) c.in-Some.ensures.value in
    let d = pass_done (hierarchy c.args.sig.now) c.args.facts.now (length c.args.class.now) (class_in c.args.class.now) c.requires.lawful c.requires.fits c.requires.classes _ (record { types = c.raise_facts.new.types.items; changed = c.in-Some.changed }) p c.if-not-changed.true in
    record { are = d.0; found = d.1; types_length = p.kept.types_length }

pub passes-smaller : goal.passes-smaller
passes-smaller c =
    let p = pass_lifts (hierarchy c.args.sig.now) c.args.facts.now (length c.args.class.now) (class_in c.args.class.now) c.requires.lawful c.requires.fits c.requires.classes c.passes.types.items c.passes.invariant (Some (record { types = c.raise_facts.new.types.items; changed = c.in-Some.changed })) c.in-Some.ensures.value in
    p.less refl c.if-not-changed.false

pub passes-preserved : goal.passes-preserved
passes-preserved c =
    let p = pass_lifts (hierarchy c.args.sig.now) c.args.facts.now (length c.args.class.now) (class_in c.args.class.now) c.requires.lawful c.requires.fits c.requires.classes c.passes.types.items c.passes.invariant (Some (record { types = c.raise_facts.new.types.items; changed = c.in-Some.changed })) c.in-Some.ensures.value in
    record { raising = p.kept.raising; rest = p.kept.rest; types_length = p.kept.types_length }

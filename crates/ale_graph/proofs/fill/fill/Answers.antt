use Rattle.std.proofs.Common.{ℕ, suc, ◌+◌, ◌-◌, ◌<◌, ◌≤◌, length, subst, sym, ◌∙◌, arith, rules}
use Rattle.ale_hierarchy.specs.Order.{hierarchy}
use Rattle.ale_graph.specs.Working.{Working, lists_of}
use Rattle.ale_graph.proofs.FillSteps.{IsFilling, class_fills, filling_ends}
use Rattle.ale_graph.proofs.fill.fill.Goals as goal

pub classes-smaller : goal.classes-smaller
classes-smaller c =
    let lt : c.classes.class < length c.classes.draft.class.items = search rules in
    let s = subst (λ (z : Working). IsFilling (hierarchy c.args.sig.now) (suc c.classes.class) (lists_of c.classes.draft) z) (sym c.in_ok-fill_class.ensures) (class_fills (hierarchy c.args.sig.now) c.requires.lawful c.classes.class (lists_of c.classes.draft) c.classes.invariant.draft lt c.classes.invariant.done) in
    let le = s.le in
    let longer = s.longer in
    smaller _ _ _ _ _ le longer lt
  where
    smaller : (a b l m c : ℕ) → b + m ≤ a + l → l ≤ m → c < l → b + m - (c + 1) < a + l - c
    smaller a b l m c le longer lt = omega arith

pub classes-preserved : goal.classes-preserved
classes-preserved c =
    let lt : c.classes.class < length c.classes.draft.class.items = search rules in
    let s = subst (λ (z : Working). IsFilling (hierarchy c.args.sig.now) (suc c.classes.class) (lists_of c.classes.draft) z) (sym c.in_ok-fill_class.ensures) (class_fills (hierarchy c.args.sig.now) c.requires.lawful c.classes.class (lists_of c.classes.draft) c.classes.invariant.draft lt c.classes.invariant.done) in
    record {
      draft = s.draft;
      same = s.same ∙ c.classes.invariant.same;
      done = λ k f lk lf. s.done k f (omega arith) lf;
      within = (let longer = s.longer in omega arith);
    }

pub returns-clause-value : goal.returns-clause-value
returns-clause-value c =
    filling_ends (hierarchy c.args.sig.now) (lists_of c.args.draft.now) (lists_of c.classes.draft) c.classes.class (search rules) c.classes.invariant.same c.classes.invariant.done

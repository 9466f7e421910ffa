use Rattle.std.proofs.Common.{ℕ, ◌+◌, ◌<◌, ◌++◌, drop, length, subst, Option, List}
use Rattle.std.proofs.lemmas.Result.{err_from_is_err_and}
use Rattle.ale_hierarchy.specs.declared.stop.Stop.TheVariants.{Refused}
use Rattle.ale_relation.specs.Has.{Has}
use Rattle.ale_hierarchy.proofs.LoopLemmas.{IsErrOf-moved, drop_item, drop_end, Has_item, are_below-at, IfSome-at}
use Rattle.ale_signature.proofs.RestrictionLemmas.{IsLeft, listed, IsLeft_narrowed, HaveNoJoin_narrowed, join_of_some-found, found_there}
use Rattle.ale_signature.proofs.restrictions.join_all.Goals as goal

pub returns-in_err-narrowed-clause-refused : goal.returns-in_err-narrowed-clause-refused
returns-in_err-narrowed-clause-refused c =
    let d = c.args.order.now in
    let xs = c.args.types.now in
    let i = c.loop-t.t-index in
    let t = c.t-item.result in
    let here : Has xs t = Has_item xs i t c.loop-t-test.true c.t-item.is in
    let left = subst (λ (ys : List ℕ). IsLeft d (listed c.loop-t.found ++ ys) xs) (drop_item xs i t c.loop-t-test.true c.t-item.is) c.loop-t.invariant.left in
    let p = err_from_is_err_and c.from_residual.result c.from_residual.ensures.1 in
    rw (p.1, p.2) (λ h. HaveNoJoin_narrowed d c.loop-t.found t (drop (i + 1) xs) xs c.requires.ordered
    (λ j e. c.requires.least j t (IfSome-at (λ (j : ℕ). j < length d.types) c.loop-t.found j c.loop-t.invariant.inside e) (are_below-at (length d.types) xs t c.requires.types here))
    (c.in_err-narrowed.ensures.refused (IsErrOf-moved (Option ℕ) ℕ c.in_err-narrowed.field-0.0 Refused h)) left)

pub loop-t-preserved : goal.loop-t-preserved
loop-t-preserved c =
    let d = c.args.order.now in
    let xs = c.args.types.now in
    let i = c.loop-t.t-index in
    let t = c.t-item.result in
    let left = subst (λ (ys : List ℕ). IsLeft d (listed c.loop-t.found ++ ys) xs) (drop_item xs i t c.loop-t-test.true c.t-item.is) c.loop-t.invariant.left in
    record {
      inside = c.in_ok-narrowed.ensures.inside;
      left = IsLeft_narrowed d c.loop-t.found t c.in_ok-narrowed.field-0 (drop (i + 1) xs) xs c.requires.ordered c.in_ok-narrowed.ensures.value left;
    }

pub returns-clause-value : goal.returns-clause-value
returns-clause-value c =
    let d = c.args.order.now in
    let xs = c.args.types.now in
    let left = subst (λ (ys : List ℕ). IsLeft d (listed c.loop-t.found ++ ys) xs) (drop_end xs c.loop-t.t-index c.loop-t-test.false) c.loop-t.invariant.left in
    join_of_some-found d c.loop-t.found xs c.requires.ordered (λ j e. IfSome-at (λ (j : ℕ). j < length d.types) c.loop-t.found j c.loop-t.invariant.inside e) left

pub returns-clause-there : goal.returns-clause-there
returns-clause-there c =
    let d = c.args.order.now in
    let xs = c.args.types.now in
    let left = subst (λ (ys : List ℕ). IsLeft d (listed c.loop-t.found ++ ys) xs) (drop_end xs c.loop-t.t-index c.loop-t-test.false) c.loop-t.invariant.left in
    found_there d c.loop-t.found xs left

use Rattle.std.proofs.Common.{◌≡◌, ◌+◌, ◌∙◌, sym, [], length, get_or, drop, arith}
use Rattle.std.specs.List.{filter_map}
use Rattle.ale_hierarchy.specs.Order.{join}
use Rattle.ale_hierarchy.proofs.LoopLemmas.{drop_number}
use Rattle.ale_declared.proofs.TopLemmas.{Has-get_or}
use Rattle.ale_hierarchy.proofs.JoinTableLemmas.{filled_length, filled_entry, filter_map_some, filter_map_none}
use Rattle.ale_hierarchy.proofs.joins.find_candidates.Goals as goal
use Rattle.ale_hierarchy.proofs.joins.find_candidates.Goals.{in-Some+in_ok-push, in_default}

pub entry-requires-clause-column : goal.entry-requires-clause-column
entry-requires-clause-column c =
    let t = get_or c.args.others.now c.loop-t.t-index 0 in
    let filled = c.requires.filled t (Has-get_or c.args.others.now c.loop-t.t-index 0 c.loop-t-test.true) in
    let long : length (get_or c.args.rows.now t []) ≡ length c.args.order.now.types = filled_length c.args.order.now c.args.rows.now t filled in
    omega arith

pub loop-t-preserved : goal.loop-t-preserved
loop-t-preserved c =
    let d = c.args.order.now in
    let others = c.args.others.now in
    let i = c.loop-t.t-index in
    let t = get_or others i 0 in
    let filled = c.requires.filled t (Has-get_or others i 0 c.loop-t-test.true) in
    let is = c.entry.ensures ∙ filled_entry d c.args.rows.now t c.args.b filled c.requires.b in
    let so_far = rw (drop_number others i c.loop-t-test.true) at c.loop-t.invariant in
    elim c.match-entry.branch [
      | in-Some+in_ok-push w ↦
          rw w.candidates-is (filter_map_some (λ t. join d t c.args.b) t w.in-Some.j (drop (i + 1) others) c.loop-t.candidates.items w.push.new.self.items (filter_map (λ t. join d t c.args.b) others) (sym is ∙ w.in-Some.is) so_far w.in_ok-push.ensures.items)
      | in_default w ↦
          rw w.candidates-is (filter_map_none (λ t. join d t c.args.b) t (drop (i + 1) others) c.loop-t.candidates.items (filter_map (λ t. join d t c.args.b) others) (sym is ∙ w.in_default.is) so_far)
    ]

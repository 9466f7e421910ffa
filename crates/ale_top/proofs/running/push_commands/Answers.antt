use Rattle.std.proofs.Common.{◌≡◌, ◌++◌, ◌+◌, ◌&&◌, true, false, length, string_bytes, ap, ◌∙◌, subst}
use Rattle.ale_hierarchy.specs.Order.{hierarchy}
use Rattle.ale_logic.specs.Descriptions.{description}
use Rattle.ale_report.specs.Parts.{searched, command_text}
use Rattle.ale_report.specs.Written.{AreCountable}
use Rattle.ale_top.proofs.Looping.{fits_others, command_step, ended_step, counted_step, and_then, and_else}
use Rattle.ale_top.proofs.running.push_commands.Goals as goal
use Rattle.ale_top.proofs.running.push_commands.Goals.{then-finished, else-finished}

pub loop-index-preserved : goal.loop-index-preserved
loop-index-preserved c =
    let d = c.args.sig.now in
    let budget = c.args.budget in
    let qs = c.args.queries.now in
    let i = c.loop-index.index in
    let q = c.index-queries-index.result in
    let low = c.loop-index-test.true in
    let at = c.index-queries-index.is in
    let slots = ap length c.as_slice-slots.ensures in
    let wrote = subst (λ n. string_bytes c.push_command.new.out ≡ string_bytes c.loop-index.out ++ command_text d (i + 1) (searched d budget n (description q.desc))) slots c.in_ok-ended.ensures.text in
    let one = subst (λ n. c.in_ok-ended.ended ≡ (searched d budget n (description q.desc)).finished) slots c.in_ok-ended.ensures.finished in
    let small = subst (λ n. AreCountable (searched d budget n (description q.desc)).answers) slots c.in_ok-ended.ensures.countable in
    let both : c.if-finished.finished ≡ (c.loop-index.finished && c.in_ok-ended.ended) =
    elim c.if-finished.branch [
      | then-finished w ↦
          let e : c.loop-index.finished ≡ true = search in
          let f : c.if-finished.finished ≡ c.in_ok-ended.ended = search in
          and_then c.loop-index.finished c.in_ok-ended.ended c.if-finished.finished e f
      | else-finished w ↦
          let e : c.loop-index.finished ≡ false = search in
          let f : c.if-finished.finished ≡ false = search in
          and_else c.loop-index.finished c.in_ok-ended.ended c.if-finished.finished e f
    ] in
    record {
      fit = fits_others d budget qs i q low at (hierarchy d) c.loop-index.invariant.fit;
      so_far = command_step d budget qs i q low at (string_bytes c.loop-index.out) (string_bytes c.push_command.new.out) wrote ∙ c.loop-index.invariant.so_far;
      ended = ended_step d budget qs i q low at c.loop-index.finished c.in_ok-ended.ended c.if-finished.finished one both ∙ c.loop-index.invariant.ended;
      counted = counted_step d budget qs i q low at c.loop-index.invariant.counted small;
    }

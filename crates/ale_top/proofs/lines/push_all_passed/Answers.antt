use Rattle.std.proofs.Common.{string_bytes, ◌∙◌}
use Rattle.ale_top.proofs.Looping.{passed_step}
use Rattle.ale_top.proofs.lines.push_all_passed.Goals as goal

pub loop-directive-preserved : goal.loop-directive-preserved
loop-directive-preserved c =
    passed_step c.args.passed.now c.loop-directive.directive-index c.directive-item.result (string_bytes c.loop-directive.out) (string_bytes c.push_passed.new.out)
    c.loop-directive-test.true c.directive-item.is c.in_ok-push_passed.ensures ∙ c.loop-directive.invariant

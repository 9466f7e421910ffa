use Rattle.std.proofs.Common.{map, ◌∙◌}
use Rattle.ale_load.specs.Views.{passed_data}
use Rattle.ale_load.proofs.Sorting.{types_step, passed_step}
use Rattle.ale_load.proofs.grammar.sort.Goals as goal

pub loop-index-preserved : goal.loop-index-preserved
loop-index-preserved c = record {
  types = types_step c.args.declarations.now c.loop-index.index c.index-declarations-index.result c.loop-index.types.items c.keep_types.new.types.items
      c.loop-index-test.true c.index-declarations-index.is c.in_ok-keep_types.ensures ∙ c.loop-index.invariant.types;
  passed = passed_step c.args.declarations.now c.loop-index.index c.index-declarations-index.result (map passed_data c.loop-index.passed.items) (map passed_data c.keep_passed.new.passed.items)
      c.loop-index-test.true c.index-declarations-index.is c.in_ok-keep_passed.ensures ∙ c.loop-index.invariant.passed;
}

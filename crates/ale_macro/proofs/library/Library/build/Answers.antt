use Rattle.std.proofs.Common.{◌∙◌}
use Rattle.ale_macro.proofs.Building.{calls_within}
use Rattle.ale_macro.proofs.library.Library.build.Goals as goal

pub order_of_dependence-requires : goal.order_of_dependence-requires
order_of_dependence-requires c = record {
  within =
      calls_within c.args.macros.items c.as_slice.result.now c.len.result c.as_slice-2.result.now c.in_ok-calls.calls.items
      (c.len.ensures ∙ c.args.macros.ok.0) c.as_slice-2.ensures.value c.in_ok-calls.ensures c.as_slice.ensures.value c.requires.known;
}

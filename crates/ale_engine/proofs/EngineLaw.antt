-- The laws of the engine.
use Rattle.std.proofs.Common.{ℕ}
use Rattle.ale_engine.specs.Engine.{Visit}
use Rattle.ale_engine.specs.GrowthLaws.{EngineLaw}
use Rattle.ale_engine.proofs.Budget.{budget_law, stops}
use Rattle.ale_engine.proofs.InTurn.{run_all_law}

pub engine_law : (S A B : Type 0) (visit : ℕ → S → Visit S A) → EngineLaw S A B visit
engine_law S A B visit = record {
  budgets = budget_law S A visit;
  stops = stops S A visit;
  runs = run_all_law S A B visit;
}

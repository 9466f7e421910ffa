use Rattle.std.proofs.Common.{◌≡◌, ◌++◌, drop, map}
use Rattle.ale_macro.specs.Templates.{macro_data}
use Rattle.ale_macro.specs.Calls.{calls_from, calls_of}
use Rattle.ale_macro.proofs.calls.calls.Given as goal

abbrev pub invariant-loop-m : goal.invariant-loop-m
invariant-loop-m l = l.calls.items ++ calls_from l.m (map macro_data (drop l.m l.macros)) ≡ calls_of (map macro_data l.macros)

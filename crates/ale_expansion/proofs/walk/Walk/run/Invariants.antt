use Rattle.std.proofs.Common.{◌≡◌}
use Rattle.ale_macro.specs.Templates.{template_data}
use Rattle.ale_macro.specs.Slots.{numbered}
use Rattle.ale_expansion.specs.Walking.{IsKept, base, stands, whole}
use Rattle.ale_expansion.proofs.walk.Walk.run.Given as goal

abbrev pub invariant-steps : goal.invariant-steps
invariant-steps l = record {
  kept : IsKept l.self l.now;
  value : whole l.self l.now ≡ numbered l.fn.self.met.variables (stands (base l.fn.self) 0 (template_data l.fn.written));
}

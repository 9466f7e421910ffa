-- The answers that are left stand last first, and are printed behind what was.
use Rattle.std.proofs.Common.{◌≡◌, ◌⊎◌, ◌<◌, ◌^◌, ◌≤◌, ◌-◌, ◌++◌, suc, length, string_bytes}
use Rattle.std.specs.Prelude.{reverse}
use Rattle.ale_declared.specs.Lists.{Has}
use Rattle.ale_hierarchy.specs.Order.{hierarchy}
use Rattle.ale_graph.specs.Structures.{count}
use Rattle.ale_logic.specs.declared.answer.Answer.{Answer}
use Rattle.ale_report.specs.Parts.{answers_text}
use Rattle.ale_report.specs.Printing.{IsPrinted}
use Rattle.ale_report.proofs.command.push_answers.Given as goal

abbrev pub invariant-loop-answer : goal.invariant-loop-answer
invariant-loop-answer l = record {
  within : length l.rest.items ≤ l.count;
  printed : (c : Answer) → Has l.rest.items c → IsPrinted (hierarchy l.sig) c;
  so_far : string_bytes l.out ++ answers_text l.sig (suc (l.count - length l.rest.items)) (reverse l.rest.items)
      ≡ string_bytes l.fn.out ++ answers_text l.sig 1 l.fn.answers.items;
  countable : (c : Answer) → Has l.fn.answers.items c → Has l.rest.items c ⊎ (count c.closed.graph < 2 ^ 64);
}

abbrev pub decreases-loop-answer : goal.decreases-loop-answer
decreases-loop-answer l = length l.rest.items

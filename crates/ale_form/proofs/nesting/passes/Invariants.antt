use Rattle.std.proofs.Common.{◌≡◌, drop}
use Rattle.ale_form.specs.Nesting.{passes, at_start}
use Rattle.ale_form.proofs.nesting.passes.Given as goal

abbrev pub invariant-loop-lexeme : goal.invariant-loop-lexeme
invariant-loop-lexeme l = passes l.limit l.nest (drop l.lexeme-index l.lexemes) ≡ passes l.limit at_start l.lexemes

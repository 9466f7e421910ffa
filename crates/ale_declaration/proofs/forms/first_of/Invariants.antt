use Rattle.std.proofs.Common.{◌≡◌, drop}
use Rattle.ale_declaration.specs.Reading.{first_of}
use Rattle.ale_declaration.proofs.forms.first_of.Given as goal

abbrev pub invariant-loop-form : goal.invariant-loop-form
invariant-loop-form l = first_of (drop l.form-index l.forms) l.lexemes ≡ first_of l.forms l.lexemes

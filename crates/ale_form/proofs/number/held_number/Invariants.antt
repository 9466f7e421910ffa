use Rattle.std.proofs.Common.{◌≡◌, ◌<◌, IsUtf8, chars}
use Rattle.std.specs.Str.Iter.{chars_rest}
use Rattle.ale_form.specs.Numbers.{held, held_behind}
use Rattle.ale_form.proofs.number.held_number.Given as goal

abbrev pub invariant-loop-digit : goal.invariant-loop-digit
invariant-loop-digit l =
    IsUtf8 (chars_rest l.digit-iterator)
    × (held_behind l.number (chars (chars_rest l.digit-iterator)) ≡ held l.digits)
    × (l.number < 4294967296)

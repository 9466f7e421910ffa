use Rattle.std.proofs.Common.{◌≡◌}
use Rattle.std.specs.Str.{chars, IsUtf8}
use Rattle.std.specs.Str.Iter.{chars_rest}
use Rattle.ale_morph.specs.Search.{behind}
use Rattle.ale_morph.proofs.prefix.behind_letters.Given as goal

abbrev pub invariant-loop-letter : goal.invariant-loop-letter
invariant-loop-letter l =
    (goal.iterator-loop-letter).can_next l.letter-iterator ×
    (goal.iterator-loop-letter).is_finite l.letter-iterator ×
    IsUtf8 (chars_rest l.letter-iterator) ×
    (behind (chars (chars_rest l.letter-iterator)) l.left ≡ behind l.letters l.rest)

-- What the system's answers mean.
use Rattle.std.specs.Prelude.{ℕ, Option, None, Some, Result, Ok, Err, if◌then◌else◌, ◌==◌, ◌||◌, nat_lt}

-- how many bytes of a piece of `asked` bytes were written: as many as the system says, but none at all of
-- a piece that is not empty is a failure, as an error is
abbrev pub taken : {E : Type 0} → Result ℕ E → ℕ → Option ℕ
taken (Ok count) asked = if nat_lt 0 count || asked == 0 then Some count else None
taken (Err error) asked = None

-- how many bytes were read: as many as the system says
abbrev pub given : {E : Type 0} → Result ℕ E → Option ℕ
given (Ok count) = Some count
given (Err error) = None

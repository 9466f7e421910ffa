-- A sink that keeps its bytes in memory.
use Rattle.std.specs.Prelude.{ℕ, ◌-◌, Bool, List, length, min, nat_lt, nat_le, ◌||◌, ◌&&◌}
use Rattle.ale_base.specs.HeldFiles.{is_listed}

-- a sink in memory as contracts see it: the bytes written, the room for them, the most that one call
-- takes, the numbers of the calls that fail, the number of the next call, and the count of faults
pub record KeptBytes : Type 0 where
  pub bytes : List ℕ
  pub room : ℕ
  pub most : ℕ
  pub failing : List ℕ
  pub calls : ℕ
  pub faults : ℕ

-- how much of a piece the next call takes
abbrev pub taken_len : KeptBytes → List ℕ → ℕ
taken_len sink piece = min (min (length piece) sink.most) (sink.room - length sink.bytes)

-- whether the next call fails: it is listed, or the piece is not empty and no room is left
abbrev pub write_fails : KeptBytes → List ℕ → Bool
write_fails sink piece = is_listed sink.failing sink.calls || (nat_lt 0 (length piece) && nat_le sink.room (length sink.bytes))

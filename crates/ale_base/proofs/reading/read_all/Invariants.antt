use Rattle.std.proofs.Common.{◌≡◌, ◌↔◌, ◌+◌, ◌-◌, ◌<◌, ◌≤◌, List, ℕ, Some, vec_len, IfSome}
use Rattle.std.specs.Io.KnownBytes.{Consumes}
use Rattle.ale_base.proofs.reading.read_all.Given as goal

abbrev pub invariant-chunks : goal.invariant-chunks
invariant-chunks g l =
    (vec_len l.bytes ≤ l.limit)
    × (0 < vec_len l.buffer)
    × IfSome (g.F.Files.content l.fn.files l.name) (λ all. Consumes (Some all) (g.F.Files.left l.files) l.bytes.items)
    × (g.F.Files.content l.files ≡ g.F.Files.content l.fn.files)
    × ((other : List ℕ) → g.F.Files.may_choose l.files other ↔ g.F.Files.may_choose l.fn.files other)
    × (g.F.Files.faults l.files ≡ g.F.Files.faults l.fn.files)

abbrev pub decreases-chunks : goal.decreases-chunks
decreases-chunks g l = (l.limit + 1) - vec_len l.bytes

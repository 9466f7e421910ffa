use Rattle.std.proofs.Common.{◌≡◌, drop}
use Rattle.ale_base.specs.HeldFiles.{content_of}
use Rattle.ale_base.specs.NamedBytes.{all_named}
use Rattle.ale_base.proofs.held_file.place_of.Given as goal

abbrev pub invariant-loop-place : goal.invariant-loop-place
invariant-loop-place l = content_of (all_named (drop l.place l.held)) l.name ≡ content_of (all_named l.held) l.name

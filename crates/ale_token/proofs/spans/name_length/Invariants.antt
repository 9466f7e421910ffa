-- What was passed, and the span of the rest, are the whole span.
use Rattle.std.proofs.Common.{◌≡◌, ◌+◌, drop}
use Rattle.unicode_ident.specs.Ident.{is_xid_continue}
use Rattle.ale_token.specs.Pieces.{span}
use Rattle.ale_token.proofs.spans.name_length.Given as goal

abbrev pub invariant-loop-i : goal.invariant-loop-i
invariant-loop-i l = l.i + span is_xid_continue (drop l.i l.chars) ≡ span is_xid_continue l.chars

use Rattle.std.proofs.Common.{◌≡◌, drop}
use Rattle.unicode_ident.specs.Ident.{is_xid_continue}
use Rattle.ale_declared.specs.Lists.{every}
use Rattle.ale_print.proofs.name.continues.Given as goal

abbrev pub invariant-loop-c : goal.invariant-loop-c
invariant-loop-c l = every is_xid_continue (drop l.c-index l.rest) ≡ every is_xid_continue l.rest

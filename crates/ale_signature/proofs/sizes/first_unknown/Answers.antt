use Rattle.std.proofs.Common.{sym, eqb, length, get_or, arith}
use Rattle.std.proofs.lemmas.Bool.{eq-eqb}
use Rattle.ale_declared.proofs.ListLemmas.{first_upto, first_upto_none}
use Rattle.ale_signature.proofs.sizes.first_unknown.Goals as goal

pub returns-then-sizes-t-eq0 : goal.returns-then-sizes-t-eq0
returns-then-sizes-t-eq0 c =
    sym (first_upto (λ t. eqb (get_or c.args.sizes.now t 0) 0) (length c.args.sizes.now) c.loop-t.t (omega arith) (eq-eqb (get_or c.args.sizes.now c.loop-t.t 0) 0 c.if-sizes-t-eq0.true) c.loop-t.invariant)

pub returns : goal.returns
returns c = sym (first_upto_none (λ t. eqb (get_or c.args.sizes.now t 0) 0) (length c.args.sizes.now) (λ i h. c.loop-t.invariant i (omega arith)))

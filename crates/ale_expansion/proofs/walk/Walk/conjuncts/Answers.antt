use Rattle.std.proofs.Common.{ap, ◌∙◌, ◌-◌, length, take, drop}
use Rattle.ale_expansion.specs.Walking.{base, goes_on}
use Rattle.ale_expansion.proofs.Members.{conjuncts_end, conjuncts_more, cons_is}
use Rattle.ale_expansion.proofs.walk.Walk.conjuncts.Goals as goal

pub returns-in-empty-clause-value : goal.returns-in-empty-clause-value
returns-in-empty-clause-value c = ap (goes_on c.args.self.now) (conjuncts_end (base c.args.self.now) c.args.self.now.met.variables c.args.frame c.args.done.items c.from_vec.result c.args.items.now c.in-empty.len_below c.from_vec.ensures)

pub returns-in_ok-now-in-len1-up-clause-value : goal.returns-in_ok-now-in-len1-up-clause-value
returns-in_ok-now-in-len1-up-clause-value c = c.in_ok-now-in-len1-up.ensures.value ∙ ap (goes_on c.args.self.now) (conjuncts_more (base c.args.self.now) c.args.self.now.met.variables c.args.frame c.args.done.items c.conjunct-item.result c.args.items.now (take (length c.args.items.now - 1) (drop 1 c.args.items.now)) (cons_is c.args.items.now c.conjunct-item.result c.in-len1-up.len_at_least c.conjunct-item.is))

use Rattle.ale_morphism.proofs.seen.flags.Goals as goal

pub returns : goal.returns
returns c = c.in_ok-flags.ensures c.args.g.now.differ c.args.g.now.roots c.in_ok-starts.ensures

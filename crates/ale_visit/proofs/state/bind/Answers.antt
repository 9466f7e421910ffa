use Rattle.std.proofs.Common.{◌≡◌, slice_set, ap, ◌∙◌, sym, Some, get_or, []}
use Rattle.std.proofs.lemmas.List.{set-set, get_or_default}
use Rattle.ale_logic.specs.States.{env_at}
use Rattle.ale_visit.proofs.state.bind.Goals as goal

pub returns : goal.returns
returns c =
    set-set c.args.envs.now.items c.args.env c.replace.new.dest c.of-2.result
    ∙ ap (λ z. slice_set c.args.envs.now.items c.args.env z)
    (c.of-2.ensures ∙ ap (λ z. slice_set z c.args.slot (Some c.args.node)) (c.into_vec-nodes.ensures ∙ c.replace.ensures.value ∙ c.index_mut.ensures.value ∙ get_or_default c.args.envs.now.items c.args.env _ [] c.requires.env))

use Rattle.std.proofs.Common.{◌≡◌, List, ℕ, Bool, ap, ◌∙◌, replicate, false, get_or}
use Rattle.ale_print.specs.Steps.{flag_lines, flag_pairs}
use Rattle.ale_print.proofs.Tagged.{tags_are}
use Rattle.ale_print.proofs.tags.tags.Goals as goal

pub returns : goal.returns
returns c = λ n low.
    let flags : c.as_slice.result.now ≡ flag_pairs c.args.pairs.now (flag_lines c.args.lines.now (replicate c.args.count false)) =
    c.as_slice.ensures.value ∙ c.flag_pairs.ensures
    ∙ ap (λ (z : List Bool). flag_pairs c.args.pairs.now z) (c.flag_lines.ensures ∙ ap (λ (z : List Bool). flag_lines c.args.lines.now z) (c.in_ok-flags.ensures.items_if_clones_equal (λ y e. e))) in
    ap (λ (z : List ℕ). get_or z n 0) c.tag_lines.ensures
    ∙ tags_are c.args.lines.now c.args.pairs.now c.args.count n c.as_slice.result.now c.in_ok-tags.tags.items low c.requires.once c.requires.below flags
    (c.in_ok-tags.ensures.items_if_clones_equal (λ y e. e))

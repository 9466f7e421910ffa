use Rattle.std.proofs.Common.{◌≡◌, ℕ, List, map, get_or, subst, ap, ◌∙◌, IfOk, IsTrue}
use Rattle.ale_graph.specs.Structures.{Structure, count, is_formed}
use Rattle.ale_print.specs.Pairing.{in_order}
use Rattle.ale_print.specs.Tagging.{tag_of}
use Rattle.ale_print.proofs.Underway.{pairs_below}
use Rattle.ale_print.proofs.Answering.{pairs_same, both_by}
use Rattle.ale_print.proofs.answer.tag_pairs.Goals as goal

pub returns : goal.returns
returns c =
    let s = c.args.g.now in
    let formed = subst (λ (z : Structure). IsTrue (is_formed z)) c.g.view_is c.g.invariant in
    let pairs : c.as_slice.result.now ≡ s.differ = c.as_slice.ensures ∙ ap (λ (z : Structure). z.differ) c.g.view_is in
    let found : ℕ → ℕ = λ n. get_or c.args.tags.now n 0 in
    let tagged : c.as_slice-2.result.now ≡ map (both_by (tag_of s)) s.differ =
    c.as_slice-2.ensures.value ∙ c.in_ok-tagged.ensures ∙ ap (λ (z : List (ℕ × ℕ)). map (both_by found) z) pairs
    ∙ pairs_same found (tag_of s) (count s) c.requires s.differ (pairs_below s formed) in
    subst (λ (z : List (ℕ × ℕ)). IfOk c.in_order.result (λ v. v.items ≡ in_order z)) tagged c.in_order.ensures

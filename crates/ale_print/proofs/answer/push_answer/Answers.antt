use Rattle.std.proofs.Common.{◌≡◌, ◌<◌, ℕ, List, length, get_or, string_bytes, true, subst, sym, ap, ◌∙◌}
use Rattle.ale_declared.specs.Lists.{every}
use Rattle.ale_graph.specs.declared.node.Node.{Node}
use Rattle.ale_graph.specs.Structures.{Structure, count}
use Rattle.ale_print.specs.declared.line.Line.{Line}
use Rattle.ale_print.specs.Walking.{lines_of}
use Rattle.ale_print.specs.Tagging.{tag_in, tag_of}
use Rattle.ale_print.specs.Texts.{tag_pairs}
use Rattle.ale_print.specs.Steps.{AreOnce, is_shown_below, are_in}
use Rattle.ale_print.proofs.Appended.{on_ok}
use Rattle.ale_print.proofs.Kept.{lines_once, lines_in}
use Rattle.ale_print.proofs.Answering.{is_of, shown_below, written}
use Rattle.ale_print.proofs.answer.push_answer.Goals as goal

pub tags-requires-clause-once : goal.tags-requires-clause-once
tags-requires-clause-once c =
    let lines : c.as_slice-2.result.now ≡ lines_of c.args.g.now = c.as_slice-2.ensures.value ∙ c.in_ok-lines.ensures in
    subst (λ (z : List Line). AreOnce z) (sym lines) (lines_once c.args.g.now)

pub tags-requires-clause-below : goal.tags-requires-clause-below
tags-requires-clause-below c =
    let s = c.args.g.now in
    let d = c.args.sig.now in
    let lines : c.as_slice-2.result.now ≡ lines_of s = c.as_slice-2.ensures.value ∙ c.in_ok-lines.ensures in
    let size : length c.as_slice-count.result.now ≡ count s =
    ap (λ (z : List Node). length z) (c.as_slice-count.ensures ∙ ap (λ (z : Structure). z.nodes) c.g.view_is) in
    let all = lines_in s (length d.types) (length d.features) c.requires.formed (is_of d s c.type_count.ensures.lawful c.requires) in
    let below = shown_below (count s) (length d.features) (lines_of s) all in
    subst (λ k. every (λ (l : Line). is_shown_below k l.shown) c.as_slice-2.result.now ≡ true) (sym size)
    (subst (λ (z : List Line). every (λ (l : Line). is_shown_below (count s) l.shown) z ≡ true) (sym lines) below)

pub push_lines-requires-clause-of : goal.push_lines-requires-clause-of
push_lines-requires-clause-of c = is_of c.args.sig.now c.args.g.now c.type_count.ensures.lawful c.requires

pub push_lines-requires-clause-lines : goal.push_lines-requires-clause-lines
push_lines-requires-clause-lines c =
    let s = c.args.g.now in
    let d = c.args.sig.now in
    let lines : c.as_slice-5.result.now ≡ lines_of s = c.as_slice-5.ensures.value ∙ c.in_ok-lines.ensures in
    subst (λ (z : List Line). are_in (count s) (length d.features) z ≡ true) (sym lines)
    (lines_in s (length d.types) (length d.features) c.requires.formed (is_of d s c.type_count.ensures.lawful c.requires))

pub returns : goal.returns
returns c =
    let s = c.args.g.now in
    let d = c.args.sig.now in
    let known : c.as_slice-2.result.now ≡ lines_of s = c.as_slice-2.ensures.value ∙ c.in_ok-lines.ensures in
    let lines : c.as_slice-5.result.now ≡ lines_of s = c.as_slice-5.ensures.value ∙ c.in_ok-lines.ensures in
    let differ : c.as_slice-differ.result.now ≡ s.differ = c.as_slice-differ.ensures ∙ ap (λ (z : Structure). z.differ) c.g.view_is in
    let size : length c.as_slice-count.result.now ≡ count s =
    ap (λ (z : List Node). length z) (c.as_slice-count.ensures ∙ ap (λ (z : Structure). z.nodes) c.g.view_is) in
    let pairs : c.as_slice-6.result.now ≡ tag_pairs s = c.as_slice-6.ensures.value ∙ c.in_ok-tagged.ensures in
    let tags : (n : ℕ) → n < count s → get_or c.as_slice-4.result.now n 0 ≡ tag_of s n =
    λ n low.
    ap (λ (z : List ℕ). get_or z n 0) c.as_slice-4.ensures.value
    ∙ c.in_ok-tags.ensures n (subst (λ k. n < k) (sym size) low)
    ∙ ap (λ (z : List Line). tag_in z c.as_slice-differ.result.now n) known
    ∙ ap (λ (z : List (ℕ × ℕ)). tag_in (lines_of s) z n) differ in
    let below = lines_in s (length d.types) (length d.features) c.requires.formed (is_of d s c.type_count.ensures.lawful c.requires) in
    on_ok c.push_pairs.result
    (written d c.args.names.now s c.as_slice-4.result.now c.as_slice-5.result.now c.as_slice-6.result.now
    (string_bytes c.args.out.now) (string_bytes c.push_lines.new.out) (string_bytes c.push_pairs.new.out)
    lines tags below pairs c.in_ok-push_lines.ensures)
    c.push_pairs.ensures

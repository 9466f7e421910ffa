use Rattle.std.proofs.Common.{◌≡◌, ◌+◌, ◌&&◌, ◌∷◌, ◌++◌, true, drop, get_or, length, string_bytes, subst}
use Rattle.std.specs.Prelude.{encode_utf8_all}
use Rattle.std.specs.List.{flat_map}
use Rattle.std.proofs.lemmas.Bool.{and_parts}
use Rattle.ale_graph.specs.Structures.{count, type_of}
use Rattle.ale_print.specs.Texts.{line_text}
use Rattle.ale_print.specs.Steps.{are_in, is_shown_below, is_place_in}
use Rattle.ale_print.proofs.Appended.{one_more}
use Rattle.ale_print.proofs.Stepping.{left_from}
use Rattle.ale_print.proofs.text.push_lines.Goals as goal

pub loop-line-preserved : goal.loop-line-preserved
loop-line-preserved c =
    let text = line_text c.args.sig.now c.args.names.now (type_of c.args.g.now) (λ n. get_or c.args.tags.now n 0) in
    let old = string_bytes c.args.out.now in
    let mid = string_bytes c.loop-line.out in
    let new = string_bytes c.push_line.new.out in
    let x = c.line-item.result in
    let rest = drop (c.loop-line.line-index + 1) c.args.lines.now in
    let cut = left_from c.args.lines.now c.loop-line.line-index x c.loop-line-test.true c.line-item.is in
    let inside : are_in (count c.args.g.now) (length c.args.sig.now.features) (x ∷ rest) ≡ true =
    subst (λ z. are_in (count c.args.g.now) (length c.args.sig.now.features) z ≡ true) cut c.loop-line.invariant.0 in (
      (and_parts (is_shown_below (count c.args.g.now) x.shown && is_place_in (length c.args.sig.now.features) x.place) (are_in (count c.args.g.now) (length c.args.sig.now.features) rest) inside).1,
      one_more old mid new (text x) (flat_map text rest) (flat_map text c.args.lines.now)
          (subst (λ z. mid ++ encode_utf8_all (flat_map text z) ≡ old ++ encode_utf8_all (flat_map text c.args.lines.now)) cut c.loop-line.invariant.1)
          c.in_ok-push_line.ensures,
    )

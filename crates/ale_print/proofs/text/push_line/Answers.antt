use Rattle.std.proofs.Common.{codes, ◌++◌, string_bytes, get_or}
use Rattle.ale_graph.specs.Structures.{type_of}
use Rattle.ale_print.specs.Texts.{front, shown_text}
use Rattle.ale_print.proofs.Appended.{on_ok, both, said, new_line}
use Rattle.ale_print.proofs.text.push_line.Goals as goal

pub returns : goal.returns
returns c =
    let old = string_bytes c.args.out.now in
    let one = string_bytes c.push_front.new.out in
    let two = string_bytes c.push_shown.new.out in
    let new = string_bytes c.push_str.new.self in
    let place = front c.args.sig.now c.args.names.now c.args.line.now.place in
    let shown = shown_text c.args.sig.now (type_of c.args.g.now) (λ n. get_or c.args.tags.now n 0) c.args.line.now.shown in
    on_ok c.push_str.result
    (λ e. both old one new place (shown ++ codes "\n") c.in_ok-push_front.ensures (both one two new shown (codes "\n") c.in_ok-push_shown.ensures e))
    (said c.push_str.result two new (codes "\n") (codes "\n") new_line c.push_str.ensures.bytes)

use Rattle.std.proofs.Common.{codes, sym, ◌++◌, string_bytes}
use Rattle.ale_print.specs.Texts.{tag_text}
use Rattle.ale_print.proofs.Appended.{on_ok, both, said, plain, differs, new_line}
use Rattle.ale_print.proofs.text.push_pair.Goals as goal

pub returns : goal.returns
returns c =
    let old = string_bytes c.args.out.now in
    let one = string_bytes c.push_tag.new.out in
    let two = string_bytes c.push_str.new.self in
    let three = string_bytes c.push_tag-2.new.out in
    let new = string_bytes c.push_str-2.new.self in
    let first = tag_text c.args.pair.0 in
    let second = tag_text c.args.pair.1 in
    let sign = plain one two (codes " =\\= ") (sym differs) c.in_ok-push_str.ensures.bytes in
    on_ok c.push_str-2.result
    (λ e.
    both old one new first (codes " =\\= " ++ (second ++ codes "\n")) c.in_ok-push_tag.ensures
    (both one two new (codes " =\\= ") (second ++ codes "\n") sign (both two three new second (codes "\n") c.in_ok-push_tag-2.ensures e)))
    (said c.push_str-2.result three new (codes "\n") (codes "\n") new_line c.push_str-2.ensures.bytes)

use Rattle.std.proofs.Common.{codes, ap, ◌∙◌, ◌++◌, string_bytes}
use Rattle.ale_print.proofs.Appended.{on_ok, both, said, equals}
use Rattle.ale_print.proofs.text.push_root_name.Goals as goal

pub returns : goal.returns
returns c =
    let old = string_bytes c.args.out.now in
    let mid = string_bytes c.push_str.new.self in
    let new = string_bytes c.push_str-2.new.self in
    on_ok c.push_str-2.result
    (both old mid new c.args.name.now (codes " = ") (c.in_ok-push_str.ensures.bytes ∙ ap (λ z. old ++ z) c.as_str.ensures.bytes))
    (said c.push_str-2.result mid new (codes " = ") (codes " = ") equals c.push_str-2.ensures.bytes)

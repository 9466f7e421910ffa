use Rattle.std.proofs.Common.{[], ◌∷◌, ◌++◌, sym, ap, ◌∙◌, string_bytes, append-nil}
use Rattle.std.proofs.Math.Utf8.{encode}
use Rattle.ale_token.specs.Names.{doubled}
use Rattle.ale_print.proofs.Appended.{on_ok, both, said}
use Rattle.ale_print.proofs.name.push_in_quotes.Goals as goal

pub returns : goal.returns
returns c =
    let old = string_bytes c.args.out.now in
    let one = string_bytes c.push.new.self in
    let two = string_bytes c.push_doubled.new.out in
    let new = string_bytes c.push-2.new.self in
    let alone = sym (append-nil (encode 39)) in
    on_ok c.push-2.result
    (λ e.
    both old one new (39 ∷ []) (doubled c.args.name.now ++ 39 ∷ []) (c.in_ok-push.ensures.bytes ∙ ap (λ z. old ++ z) alone)
    (both one two new (doubled c.args.name.now) (39 ∷ []) c.in_ok-push_doubled.ensures e))
    (said c.push-2.result two new (encode 39) (39 ∷ []) alone c.push-2.ensures.bytes)

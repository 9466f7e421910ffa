use Rattle.std.proofs.Common.{ap, ◌∙◌, ◌++◌, string_bytes, arith}
use Rattle.ale_print.proofs.Appended.{on_ok, tag_bytes}
use Rattle.ale_print.proofs.text.push_tag.Goals as goal

pub returns : goal.returns
returns c =
    on_ok c.write.result (λ e. e ∙ ap (λ z. string_bytes c.args.out.now ++ z) (tag_bytes c.args.tag (omega (arith, c.ranges.tag)))) c.write.ensures.bytes

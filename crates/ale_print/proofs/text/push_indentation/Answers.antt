use Rattle.std.proofs.Common.{◌≡◌, suc, ◌-◌, codes, sym, subst, arith, string_bytes, ◌++◌}
use Rattle.std.specs.Prelude.{encode_utf8_all}
use Rattle.ale_print.specs.Texts.{indentation}
use Rattle.ale_print.proofs.Appended.{one_more, plain, two_spaces}
use Rattle.ale_print.proofs.text.push_indentation.Goals as goal

pub loop-left-preserved : goal.loop-left-preserved
loop-left-preserved c =
    let old = string_bytes c.args.out.now in
    let mid = string_bytes c.loop-left.out in
    let new = string_bytes c.push_str.new.self in
    let here : c.loop-left.left ≡ suc (c.loop-left.left - 1) = omega arith in
    one_more old mid new (codes "  ") (indentation (c.loop-left.left - 1)) (indentation c.args.level)
    (subst (λ z. mid ++ encode_utf8_all (indentation z) ≡ old ++ encode_utf8_all (indentation c.args.level)) here c.loop-left.invariant)
    (plain mid new (codes "  ") (sym two_spaces) c.in_ok-push_str.ensures.bytes)

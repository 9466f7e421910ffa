use Rattle.std.proofs.Common.{◌≡◌, ℕ, ◌+◌, ◌++◌, drop, get_or, string_bytes, subst}
use Rattle.std.specs.Prelude.{encode_utf8_all}
use Rattle.std.specs.List.{flat_map}
use Rattle.std.proofs.lemmas.List.{get_or_default}
use Rattle.ale_print.specs.Texts.{pair_text}
use Rattle.ale_print.proofs.Appended.{one_more}
use Rattle.ale_print.proofs.Stepping.{left_from}
use Rattle.ale_print.proofs.text.push_pairs.Goals as goal

pub loop-pair-preserved : goal.loop-pair-preserved
loop-pair-preserved c =
    let old = string_bytes c.args.out.now in
    let mid = string_bytes c.loop-pair.out in
    let new = string_bytes c.push_pair.new.out in
    let x : ℕ × ℕ = get_or c.args.pairs.now c.loop-pair.pair-index (0, 0) in
    let rest = drop (c.loop-pair.pair-index + 1) c.args.pairs.now in
    let cut = left_from c.args.pairs.now c.loop-pair.pair-index x c.loop-pair-test.true (get_or_default c.args.pairs.now c.loop-pair.pair-index (0, 0) x c.loop-pair-test.true) in
    one_more old mid new (pair_text x) (flat_map pair_text rest) (flat_map pair_text c.args.pairs.now)
    (subst (λ z. mid ++ encode_utf8_all (flat_map pair_text z) ≡ old ++ encode_utf8_all (flat_map pair_text c.args.pairs.now)) cut c.loop-pair.invariant)
    c.in_ok-push_pair.ensures

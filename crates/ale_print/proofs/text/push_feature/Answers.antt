use Rattle.std.proofs.Common.{codes, ◌++◌, string_bytes}
use Rattle.ale_declared.specs.Names.{name_of}
use Rattle.ale_print.specs.Naming.{printed_name}
use Rattle.ale_print.specs.Texts.{indentation}
use Rattle.ale_print.proofs.Appended.{on_ok, both, said, colon}
use Rattle.ale_print.proofs.text.push_feature.Goals as goal

pub returns : goal.returns
returns c =
    let old = string_bytes c.args.out.now in
    let one = string_bytes c.push_indentation.new.out in
    let two = string_bytes c.push_name.new.out in
    let new = string_bytes c.push_str.new.self in
    let name = printed_name (name_of c.args.sig.now.features c.args.feature) in
    let named = rw c.feat_name.ensures.value at c.in_ok-push_name.ensures in
    on_ok c.push_str.result
    (λ e. both old one new (indentation c.args.level) (name ++ codes ": ") c.in_ok-push_indentation.ensures (both one two new name (codes ": ") named e))
    (said c.push_str.result two new (codes ": ") (codes ": ") colon c.push_str.ensures.bytes)

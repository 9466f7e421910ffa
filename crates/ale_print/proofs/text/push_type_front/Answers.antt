use Rattle.std.proofs.Common.{[], codes, sym, ap, subst, ◌++◌, string_bytes, OnOk}
use Rattle.std.specs.Prelude.{if◌then◌else◌}
use Rattle.std.proofs.lemmas.Bool.{ne_eqb}
use Rattle.ale_print.specs.Texts.{tag_text}
use Rattle.ale_print.specs.Appending.{Appends}
use Rattle.ale_print.proofs.Appended.{on_ok, both, said, space}
use Rattle.ale_print.proofs.text.push_type_front.Goals as goal

pub returns : goal.returns
returns c =
    let old = string_bytes c.args.out.now in
    let mid = string_bytes c.push_tag.new.out in
    let new = string_bytes c.push_str.new.self in
    subst (λ z. OnOk c.push_str.result (Appends c.args.out.now c.push_str.new.self z))
    (sym (ap (λ b. if b then [] else tag_text c.args.tag ++ codes " ") (ne_eqb c.args.tag 0 c.if-tag-eq0.false)))
    (on_ok c.push_str.result
    (both old mid new (tag_text c.args.tag) (codes " ") c.in_ok-push_tag.ensures)
    (said c.push_str.result mid new (codes " ") (codes " ") space c.push_str.ensures.bytes))

use Rattle.std.proofs.Common.{◌≡◌, true, false, sym, ap, ◌∙◌, subst, rules, string_bytes, OnOk}
use Rattle.std.specs.Str.{chars}
use Rattle.std.proofs.lemmas.Str.{chars_from_encodes, encodes-chars}
use Rattle.ale_print.specs.Naming.{is_atom}
use Rattle.ale_print.specs.Appending.{Appends}
use Rattle.ale_print.proofs.Appended.{said, as_atom, as_quoted}
use Rattle.ale_print.proofs.name.push_name.Goals as goal

pub returns : goal.returns
returns c =
    let same : c.as_slice-else-is_atom.result.now ≡ chars c.args.name.now = search (rules, chars_from_encodes) in
    let tested : c.as_slice.result.now ≡ chars c.args.name.now = search (rules, chars_from_encodes) in
    let none : is_atom (chars c.args.name.now) ≡ false = ap is_atom (sym tested) ∙ sym c.is_atom.ensures ∙ c.if-is_atom.false in
    subst (λ cs. OnOk c.push_in_quotes.result (Appends c.args.out.now c.push_in_quotes.new.out cs))
    (sym (as_quoted (chars c.args.name.now) none)) (rw same at c.push_in_quotes.ensures)

pub returns-then-is_atom : goal.returns-then-is_atom
returns-then-is_atom c =
    let tested : c.as_slice.result.now ≡ chars c.args.name.now = search (rules, chars_from_encodes) in
    let one : is_atom (chars c.args.name.now) ≡ true = ap is_atom (sym tested) ∙ sym c.is_atom.ensures ∙ c.if-is_atom.true in
    subst (λ cs. OnOk c.push_str.result (Appends c.args.out.now c.push_str.new.self cs))
    (sym (as_atom (chars c.args.name.now) one))
    (said c.push_str.result (string_bytes c.args.out.now) (string_bytes c.push_str.new.self) c.args.name.now (chars c.args.name.now) (sym (encodes-chars _ c.utf8.name)) c.push_str.ensures.bytes)

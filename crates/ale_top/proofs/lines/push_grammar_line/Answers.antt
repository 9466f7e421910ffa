use Rattle.std.proofs.Common.{string_bytes}
use Rattle.std.specs.Prelude.{codes}
use Rattle.ale_top.specs.Lines.{signature_text}
use Rattle.ale_top.proofs.Joined.{on_ok, joined}
use Rattle.ale_top.proofs.lines.push_grammar_line.Goals as goal

pub returns-in_ok-push_str-in-Signature : goal.returns-in_ok-push_str-in-Signature
returns-in_ok-push_str-in-Signature c =
    rw c.in-Signature.is
    (on_ok c.push_signature.result
    (λ e. joined (string_bytes c.args.out.now) (codes "grammar refused: signature ") (string_bytes c.push_str-in-Signature.new.self) (signature_text c.in-Signature.error)
    (string_bytes c.push_signature.new.out) c.in_ok-push_str-in-Signature.ensures.bytes e)
    c.push_signature.ensures)

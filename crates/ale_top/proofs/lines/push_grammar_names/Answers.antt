use Rattle.std.proofs.Common.{string_bytes, codes, ◌++◌, decimal, ◌≡◌, OnOk, append_assoc, sym, subst}
use Rattle.ale_top.specs.Lines.{fault_name, fault_end}
use Rattle.ale_top.proofs.Pieces.{four_pieces}
use Rattle.ale_top.proofs.lines.push_grammar_names.Goals as goal

pub returns : goal.returns
returns c =
    let start = codes "grammar refused: names " ++ fault_name c.args.error.now in
    let here = codes " declaration " in
    subst (λ z. OnOk c.push_fault_end.result (string_bytes c.push_fault_end.new.out ≡ string_bytes c.args.out.now ++ (z ++ fault_end c.args.error.now)))
    (sym (append_assoc start here (decimal c.args.number)))
    (four_pieces c.push_fault_end.result (string_bytes c.args.out.now) (codes "grammar refused: names ") (fault_name c.args.error.now) (here ++ decimal c.args.number) (fault_end c.args.error.now)
    (string_bytes c.push_str.new.self) (string_bytes c.push_fault_name.new.out) (string_bytes c.write.new.self) (string_bytes c.push_fault_end.new.out)
    c.in_ok-push_str.ensures.bytes c.in_ok-push_fault_name.ensures c.in_ok-write.ensures.bytes c.push_fault_end.ensures)

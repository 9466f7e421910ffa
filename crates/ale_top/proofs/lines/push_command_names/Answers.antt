use Rattle.std.proofs.Common.{string_bytes, codes, ◌++◌, decimal}
use Rattle.ale_top.specs.Lines.{fault_name, fault_end}
use Rattle.ale_top.proofs.Pieces.{three_pieces}
use Rattle.ale_top.proofs.lines.push_command_names.Goals as goal

pub returns : goal.returns
returns c =
    three_pieces c.push_fault_end.result (string_bytes c.args.out.now) (codes "commands refused: 6 Name command " ++ decimal c.args.number ++ codes " names ")
    (fault_name c.args.error.now) (fault_end c.args.error.now) (string_bytes c.write.new.self) (string_bytes c.push_fault_name.new.out) (string_bytes c.push_fault_end.new.out)
    c.in_ok-write.ensures.bytes c.in_ok-push_fault_name.ensures c.push_fault_end.ensures

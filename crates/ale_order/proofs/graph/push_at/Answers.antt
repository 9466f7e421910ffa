use Rattle.std.proofs.Common.{rules}
use Rattle.ale_order.proofs.Tables.{push_row}
use Rattle.ale_order.proofs.graph.push_at.Goals as goal

pub returns : goal.returns
returns c =
    push_row (λ r. r.items) c.args.rows.now.items c.args.at c.args.value c.in-Some.row.now c.push.new.self (search rules) c.in-Some.ensures.value (search rules)

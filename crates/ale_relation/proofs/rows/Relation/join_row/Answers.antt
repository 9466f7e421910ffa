use Rattle.std.proofs.lemmas.Bool.{cases_lt}
use Rattle.ale_relation.proofs.Bits.{joined_holds, rows_apart}
use Rattle.ale_relation.proofs.rows.Relation.join_row.Goals as goal

pub join_words-requires-clause-apart : goal.join_words-requires-clause-apart
join_words-requires-clause-apart c =
    rows_apart c.self.inside.width c.args.to c.args.from (cases_lt c.args.from c.args.to)

pub returns-clause-joins : goal.returns-clause-joins
returns-clause-joins c =
    rw (← c.self.view_is) (λ x y _ within. joined_holds c.self.inside.size c.self.inside.width c.self.inside.words.items c.join_words.new.words.items c.args.to c.args.from x y c.self.invariant.wide (record { joined = c.join_words.ensures.joined; others = c.join_words.ensures.others }) within)

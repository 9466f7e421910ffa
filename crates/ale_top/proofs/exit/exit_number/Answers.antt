use Rattle.std.proofs.Common.{List, ℕ, map, drop, string_bytes, ap, ◌∙◌, subst}
use Rattle.ale_top.specs.Exits.{Exits}
use Rattle.ale_top.specs.Runs.{default_budget}
use Rattle.ale_top.proofs.exit.exit_number.Goals as goal

pub returns-in-Ok-clause-run : goal.returns-in-Ok-clause-run
returns-in-Ok-clause-run g c =
    rw c.in-Ok.is (subst (λ (w : List (List ℕ)). Exits c.number.result w default_budget (g.F.Files.content c.args.files.now)
    (record { before = g.F.Files.faults c.args.files.now; after = g.F.Files.faults c.run.new.files })
    (record { before = g.W.Sink.faults c.args.out.now; after = g.W.Sink.faults c.run.new.out })
    (g.W.Sink.written c.args.out.now) (g.W.Sink.written c.run.new.out))
    (ap (map string_bytes) (c.after_name.ensures ∙ ap (drop 1) c.as_slice.ensures.value))
    (record {
      end = c.run.result;
      number_is = c.number.ensures;
      usage = c.run.ensures.usage;
      words_refused = c.run.ensures.words;
      files_stay = c.run.ensures.files_stay;
      job = c.run.ensures.job;
      read_fault = c.run.ensures.read_fault;
      write_fault = c.run.ensures.write_fault;
      unread = c.run.ensures.unread;
    }))

use Rattle.std.proofs.Common.{◌≡◌, List, ℕ, Some, map, string_bytes}
use Rattle.ale_top.specs.Jobs.{Job, job_of}
use Rattle.ale_top.specs.Runs.{Stated, Ran, RanOnSome, default_budget}
use Rattle.ale_top.proofs.Endings.{one, made}
use Rattle.ale_top.proofs.Runs.{Laws, ran_on_some, ran_stated, grammar_stated, sound, complete, subsumed, enough, budgeted}
use Rattle.ale_top.proofs.program.run.Given.{Over}
use Rattle.ale_top.proofs.program.run.Goals as goal

laws : (g : Over) → goal.After-run_words g → Laws
laws g c = record {
  loads = c.load_law.ensures.loads;
  lawful = c.load_law.ensures.lawful;
  distinct = c.load_law.ensures.distinct;
  fits = c.load_law.ensures.fit;
  reads = c.commands_law.ensures.reads;
  fit = c.commands_law.ensures.fit;
  searches = c.search_law.ensures;
  written = c.written_law.ensures.satisfiers;
  texts = c.written_law.ensures.texts;
}

ran_at : (g : Over) (c : goal.After-run_words g) (job : Job) → job_of (map string_bytes c.args.words.now) ≡ Some job
    → RanOnSome (g.F.Files.content c.args.files.now) job default_budget c.run_words.result (g.W.Sink.written c.args.out.now) (g.W.Sink.written c.run_words.new.out)
ran_at g c job is =
    ran_on_some (laws g c) (g.F.Files.content c.args.files.now) job default_budget c.run_words.result (g.W.Sink.written c.args.out.now) (g.W.Sink.written c.run_words.new.out)
    (c.run_words.ensures.job job is)

stated_at : (g : Over) (c : goal.After-run_words g) (x y : List ℕ) → Stated (map string_bytes c.args.words.now) (g.F.Files.content c.args.files.now) x y
    → Ran x y default_budget c.run_words.result (g.W.Sink.written c.args.out.now) (g.W.Sink.written c.run_words.new.out)
stated_at g c x y stated =
    ran_stated (g.F.Files.content c.args.files.now) stated.job default_budget c.run_words.result (g.W.Sink.written c.args.out.now) (g.W.Sink.written c.run_words.new.out)
    (ran_at g c stated.job stated.words_are) x y stated.grammar stated.commands

pub returns-clause-job : goal.returns-clause-job
returns-clause-job g c = λ job is. ran_at g c job is

pub returns-clause-output : goal.returns-clause-output
returns-clause-output g c = λ x y stated. (stated_at g c x y stated).output

pub returns-clause-some : goal.returns-clause-some
returns-clause-some g c = λ x y. let m = made c.load_law.ensures.loads c.commands_law.ensures.reads x y default_budget in (m.status, (m.text, m.output))

pub returns-clause-one : goal.returns-clause-one
returns-clause-one g c = λ x y s t a b. one c.load_law.ensures.loads c.commands_law.ensures.reads x y default_budget s t a b

pub returns-clause-grammar : goal.returns-clause-grammar
returns-clause-grammar g c = λ x stated.
    grammar_stated (g.F.Files.content c.args.files.now) stated.job default_budget c.run_words.result (g.W.Sink.written c.args.out.now) (g.W.Sink.written c.run_words.new.out)
    (ran_at g c stated.job stated.words_are) x stated.grammar

pub returns-clause-commands : goal.returns-clause-commands
returns-clause-commands g c = λ x y stated. (stated_at g c x y stated).commands

pub returns-clause-done : goal.returns-clause-done
returns-clause-done g c = λ x y stated. (stated_at g c x y stated).done

pub returns-clause-unfinished : goal.returns-clause-unfinished
returns-clause-unfinished g c = λ x y stated. (stated_at g c x y stated).unfinished

pub returns-clause-visible : goal.returns-clause-visible
returns-clause-visible g c = λ x y stated. (stated_at g c x y stated).visible

pub returns-clause-sound : goal.returns-clause-sound
returns-clause-sound g c = sound (laws g c) default_budget

pub returns-clause-complete : goal.returns-clause-complete
returns-clause-complete g c = complete (laws g c) default_budget

pub returns-clause-subsumed : goal.returns-clause-subsumed
returns-clause-subsumed g c = subsumed (laws g c) default_budget

pub returns-clause-enough : goal.returns-clause-enough
returns-clause-enough g c = enough (laws g c) default_budget

pub returns-clause-budgeted : goal.returns-clause-budgeted
returns-clause-budgeted g c = budgeted (laws g c) default_budget

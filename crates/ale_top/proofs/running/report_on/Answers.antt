use Rattle.ale_load.specs.Views.{loaded_data}
use Rattle.ale_top.proofs.Accepted.{accepted_report, accepted_counted}
use Rattle.ale_top.proofs.Refused.{refused_report, refused_kind, refused_counted}
use Rattle.ale_top.proofs.running.report_on.Goals as goal

pub returns-in-Err : goal.returns-in-Err
returns-in-Err c = record {
  report = λ x y i j.
      refused_report c.grammar_refused.result c.in-Err.error x y c.args.budget c.grammar_refused.ensures.some c.grammar_refused.ensures.report (c.in-Err.ensures.exact x i);
  kind = refused_kind c.grammar_refused.result c.grammar_refused.ensures.status;
  counted = λ x y i j. refused_counted c.grammar_refused.result c.in-Err.error x y c.args.budget c.grammar_refused.ensures.some (c.in-Err.ensures.exact x i);
}

pub returns-in-Ok-clause-report : goal.returns-in-Ok-clause-report
returns-in-Ok-clause-report c = λ x y i j.
    accepted_report c.report_commands.result x y c.args.budget (loaded_data c.in-Ok.loaded) (c.in-Ok.ensures.exact x i) (c.report_commands.ensures.report y j)

pub returns-in-Ok-clause-counted : goal.returns-in-Ok-clause-counted
returns-in-Ok-clause-counted c = λ x y i j.
    accepted_counted c.report_commands.result x y c.args.budget (loaded_data c.in-Ok.loaded) (c.in-Ok.ensures.exact x i) (c.report_commands.ensures.counted y j)

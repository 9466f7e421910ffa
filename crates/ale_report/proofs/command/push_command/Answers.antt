use Rattle.std.proofs.Common.{ap, ◌∙◌, subst}
use Rattle.ale_declared.specs.Lists.{Has}
use Rattle.ale_hierarchy.specs.Order.{hierarchy}
use Rattle.ale_logic.specs.Descriptions.{description}
use Rattle.ale_engine.specs.Engine.{Outcome}
use Rattle.ale_logic.specs.declared.answer.Answer.{Answer}
use Rattle.ale_report.proofs.Printed.{printed}
use Rattle.ale_report.proofs.command.push_command.Goals as goal

pub push_answers-requires : goal.push_answers-requires
push_answers-requires c = λ answer has.
    let h = hierarchy c.args.sig.now in
    let law = c.search_law.ensures h c.args.slots (description c.args.desc.now) c.args.budget c.type_count.ensures.lawful c.requires in
    let same = c.into_vec-answers.ensures ∙ ap (λ (o : Outcome Answer). o.answers) c.in_ok-found.ensures in
    printed h (description c.args.desc.now) answer (law.sound answer (subst (λ z. Has z answer) same has))

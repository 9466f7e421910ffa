use Rattle.ale_graph.specs.Universal.{ClosureLaw}
use Rattle.ale_morphism.specs.VisibleLaws.{VisibleLaw}
use Rattle.ale_reply_law.specs.Replies.{ReplyLaws}
use Rattle.ale_run_law.proofs.Whole.{all_runs}
use Rattle.ale_run_law.proofs.Answers.{description_law, goal_law}
use Rattle.ale_lexicon_law.proofs.Lexica.{lexicon_law}
use Rattle.ale_chart_law.proofs.Whole.{chart_law}
use Rattle.ale_generation_law.proofs.Generations.{generation_law}
use Rattle.ale_reply_law.proofs.Replying as lemma
use Rattle.ale_reply_law.proofs.laws.reply_law.Goals as goal

all_replies : ClosureLaw → VisibleLaw → ReplyLaws
all_replies closes visible =
    let runs = all_runs closes in
    lemma.reply_laws (description_law runs) (goal_law runs) (lexicon_law visible runs) (chart_law runs visible) (generation_law runs visible)

pub returns-clause-replies : goal.returns-clause-replies
returns-clause-replies c = all_replies c.closure_law.ensures c.visible_laws.ensures.part

pub returns-clause-whole : goal.returns-clause-whole
returns-clause-whole c = lemma.whole_reply_laws (all_replies c.closure_law.ensures c.visible_laws.ensures.part)

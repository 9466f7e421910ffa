-- An answer's graph is a model where what was imposed at first and what entries brought is met in it.
use Rattle.std.proofs.Common.{subst, inl, inr, arith}
use Rattle.ale_graph.specs.Structures.{Structure}
use Rattle.ale_graph.specs.Closure.{node_of}
use Rattle.ale_logic.specs.Models.{MeetsAt}
use Rattle.ale_logic.specs.Words.{Grammar}
use Rattle.ale_logic.specs.States.{State}
use Rattle.ale_logic.specs.Spelling.{spelled}
use Rattle.ale_logic.specs.Visits.{Answer}
use Rattle.ale_logic.specs.Steps.{IsBrought}
use Rattle.ale_logic.specs.Runs.{MeetsPairs, FreeSense, Returns, IsAnswer, RunLaws}
use Rattle.ale_logic.specs.ModelLaws.{MeetsBrought, IsPlainStart, ModelLaws}
use Rattle.ale_extension_law.proofs.Spells.{spelling_law}
use Rattle.ale_run_law.proofs.First.{stands}

-- node 0 for each variable that is not bound, and the answer's own words
own_sense : (gr : Grammar) (st : State) (a : Answer) → IsAnswer gr st a → IsPlainStart gr st → FreeSense a.closed.graph a
own_sense gr st a is start = record {
  node = λ e v. node_of a.closed 0;
  inside = λ e v. let some = is.is.some_node in let longer = is.longer in is.nodes 0 (omega arith);
  words = spelled a.state.phrases a.state.said;
  is_said = (spelling_law gr.signature a.state is.is (is.once start.is.once)).spelled_as;
}

met : (gr : Grammar) (st : State) (a : Answer) (free : FreeSense a.closed.graph a) → Returns gr a.closed.graph st a (λ n. n) free → MeetsPairs gr a.closed.graph (node_of a.closed) st.imposed → MeetsBrought gr a → MeetsPairs gr a.closed.graph (node_of a.closed) a.state.imposed
met gr st a free r given brought n k has = elim (r.accounted (n, k) has) [
  | inl first ↦ given n k first
  | inr later ↦ elim later [ inl e ↦ subst (MeetsAt gr.signature gr.program a.closed.graph k) (r.node n) e | inr b ↦ brought n k has (subst (λ m. IsBrought gr a.closed.graph m k) (r.node n) b) ]
]

pub model_law : RunLaws → ModelLaws
model_law runs gr first budget grammar starts a has =
    let c = (runs gr first budget grammar (λ st k. (starts st k).is.is)).comes a has in
    let start : IsPlainStart gr c.state = starts c.state c.has in
    let free : FreeSense a.closed.graph a = own_sense gr c.state a c.is start in
    let r = c.back start.inside a.closed.graph (λ n. n) (record { structure = c.is.structure; is = stands gr.signature grammar.lawful a.closed.graph c.is.structure }) free in
    record { state = c.state; has = c.has; model = λ given brought. c.is.model (met gr c.state a free r given brought) }

-- What holds of each state of a list, and what one of a list satisfies.
use Rattle.std.proofs.Common.{List, [], ◌∷◌, ◌++◌, ◌⊎◌, inl, inr, refl, sym, subst}
use Rattle.ale_declared.specs.Lists.{Has}
use Rattle.ale_graph.specs.Structures.{Structure}
use Rattle.ale_graph.proofs.Lists.{has_left, has_right, has_either}
use Rattle.ale_logic.specs.Programs.{Element}
use Rattle.ale_logic.specs.Words.{Grammar}
use Rattle.ale_logic.specs.States.{State}
use Rattle.ale_logic.specs.Satisfaction.{Sense, Satisfies, Agrees}
use Rattle.ale_logic.specs.Steps.{SatisfiesOne}
use Rattle.ale_step_law.proofs.Agreeing.{agrees_self}

abbrev pub Every : (State → Type 0) → List State → Type 0
Every P sts = (kid : State) → Has sts kid → P kid

pub every_none : (P : State → Type 0) → Every P []
every_none P kid has = absurd has

pub every_more : (P : State → Type 0) (st : State) (sts : List State) → P st → Every P sts → Every P (st ∷ sts)
every_more P st sts p q kid (inl e) = subst P (sym e) p
every_more P st sts p q kid (inr e) = q kid e

pub every_one : (P : State → Type 0) (st : State) → P st → Every P (st ∷ [])
every_one P st p = every_more P st [] p (every_none P)

pub every_both : (P : State → Type 0) (sts others : List State) → Every P sts → Every P others → Every P (sts ++ others)
every_both P sts others p q kid has = go (has_either sts others kid has)
  where
    go : Has sts kid ⊎ Has others kid → P kid
    go (inl e) = p kid e
    go (inr e) = q kid e

module _ (gr : Grammar) (s : Structure) (st : State) (x : Sense) (remain : List Element) where
  pub one_first : (kid : State) (sts : List State) → Satisfies gr s x kid remain → SatisfiesOne gr s st x remain (kid ∷ sts)
  one_first kid sts p = record { state = kid; has = inl refl; sense = x; agrees = agrees_self st x; satisfies = p }

  pub one_later : (kid : State) (sts : List State) → SatisfiesOne gr s st x remain sts → SatisfiesOne gr s st x remain (kid ∷ sts)
  one_later kid sts p = record { state = p.state; has = inr p.has; sense = p.sense; agrees = p.agrees; satisfies = p.satisfies }

  pub one_new : (y : Sense) (kid : State) (sts : List State) → Agrees st y x → Satisfies gr s y kid remain → SatisfiesOne gr s st x remain (kid ∷ sts)
  one_new y kid sts a p = record { state = kid; has = inl refl; sense = y; agrees = a; satisfies = p }

  pub one_left : (sts others : List State) → SatisfiesOne gr s st x remain sts → SatisfiesOne gr s st x remain (sts ++ others)
  one_left sts others p = record { state = p.state; has = has_left sts others p.state p.has; sense = p.sense; agrees = p.agrees; satisfies = p.satisfies }

  pub one_right : (sts others : List State) → SatisfiesOne gr s st x remain others → SatisfiesOne gr s st x remain (sts ++ others)
  one_right sts others p = record { state = p.state; has = has_right sts others p.state p.has; sense = p.sense; agrees = p.agrees; satisfies = p.satisfies }

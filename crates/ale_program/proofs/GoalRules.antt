-- The plain data of each kind of goal, for a program that takes goals apart.
use Rattle.std.proofs.Common.{◌≡◌, sym, ap, ◌∙◌, List}
use Rattle.std.specs.Prelude.{ℕ, map}
use Rattle.ale_logic.specs.declared.desc.Desc.{Desc}
use Rattle.ale_logic.specs.Descriptions.{description, descriptions_of}
use Rattle.ale_logic.specs.Goals as plain
use Rattle.ale_logic.specs.Goals.{yes, cut, each, either, equal, call, unless, if_else, once}
use Rattle.ale_program.specs.declared.goal.Goal.{Goal, fold-roll-Goal}
use Rattle.ale_program.specs.declared.goal.Goal.TheOpen.{Goal-F}
use Rattle.ale_program.specs.declared.goal.Goal.TheVariants.{Yes, Cut, All, Any, Equal, Call, Not, IfElse, Once, rolls-Yes, rolls-Cut, rolls-All, rolls-Any, rolls-Equal, rolls-Call, rolls-Not, rolls-IfElse, rolls-Once}
use Rattle.ale_program.specs.Goals.{goals_of, goal_step, goal_data}

pub goal_yes : goal_data Yes ≡ yes
goal_yes = ap goal_data (sym rolls-Yes) ∙ fold-roll-Goal plain.Goal goal_step Goal-F.Yes

pub goal_cut : goal_data Cut ≡ cut
goal_cut = ap goal_data (sym rolls-Cut) ∙ fold-roll-Goal plain.Goal goal_step Goal-F.Cut

pub goal_all : (gs : List Goal) → goal_data (All gs) ≡ each (goals_of (map goal_data gs))
goal_all gs = ap goal_data (sym (rolls-All gs)) ∙ fold-roll-Goal plain.Goal goal_step (Goal-F.All gs)

pub goal_any : (gs : List Goal) → goal_data (Any gs) ≡ either (goals_of (map goal_data gs))
goal_any gs = ap goal_data (sym (rolls-Any gs)) ∙ fold-roll-Goal plain.Goal goal_step (Goal-F.Any gs)

pub goal_equal : (d e : Desc) → goal_data (Equal d e) ≡ equal (description d) (description e)
goal_equal d e = ap goal_data (sym (rolls-Equal d e)) ∙ fold-roll-Goal plain.Goal goal_step (Goal-F.Equal d e)

pub goal_call : (p : ℕ) (ds : List Desc) → goal_data (Call p ds) ≡ call p (descriptions_of (map description ds))
goal_call p ds = ap goal_data (sym (rolls-Call p ds)) ∙ fold-roll-Goal plain.Goal goal_step (Goal-F.Call p ds)

pub goal_not : (g : Goal) → goal_data (Not g) ≡ unless (goal_data g)
goal_not g = ap goal_data (sym (rolls-Not g)) ∙ fold-roll-Goal plain.Goal goal_step (Goal-F.Not g)

pub goal_if_else : (c t e : Goal) → goal_data (IfElse c t e) ≡ if_else (goal_data c) (goal_data t) (goal_data e)
goal_if_else c t e = ap goal_data (sym (rolls-IfElse c t e)) ∙ fold-roll-Goal plain.Goal goal_step (Goal-F.IfElse c t e)

pub goal_once : (c t : Goal) → goal_data (Once c t) ≡ once (goal_data c) (goal_data t)
goal_once c t = ap goal_data (sym (rolls-Once c t)) ∙ fold-roll-Goal plain.Goal goal_step (Goal-F.Once c t)

pub ruleset goal_rules = (goal_yes, goal_cut, goal_all, goal_any, goal_equal, goal_call, goal_not, goal_if_else, goal_once)

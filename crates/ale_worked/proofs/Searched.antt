-- The worked examples, computed.
use Rattle.std.proofs.Common.{refl}
use Rattle.ale_graph.specs.Classes.{classes}
use Rattle.ale_graph.specs.Types.{least_types}
use Rattle.ale_graph.specs.Filling.{fill}
use Rattle.ale_graph.specs.Collapsing.{collapse}
use Rattle.ale_graph.specs.Closure.{close}
use Rattle.ale_morphism.specs.Visible.{visible}
use Rattle.ale_logic.specs.Visits.{visit}
use Rattle.ale_logic.specs.Lexicons.{lexicon}
use Rattle.ale_logic.specs.Charts.{chart}
use Rattle.ale_worked.specs.Worked.{TwoClauses, Conjunction, Append, FirstOnly, Negation, IfThenElse, Inequations, Constraints, Levels, Parses, Generation}

pub two_clauses : TwoClauses
unfolding classes least_types fill collapse close visible visit
two_clauses = refl

pub conjunction : Conjunction
unfolding classes least_types fill collapse close visible visit
conjunction = refl

pub append : Append
unfolding classes least_types fill collapse close visible visit
append = refl

pub first_only : FirstOnly
unfolding classes least_types fill collapse close visible visit
first_only = refl

pub negation : Negation
unfolding classes least_types fill collapse close visible visit
negation = record { refuted = refl; not_there = refl }

pub if_then_else : IfThenElse
unfolding classes least_types fill collapse close visible visit
if_then_else = refl

pub inequations : Inequations
unfolding classes least_types fill collapse close visible visit
inequations = record { apart = refl; one_only = refl }

pub constraints : Constraints
unfolding classes least_types fill collapse close visible visit
constraints = record { one = refl; two = refl }

pub levels : Levels
unfolding classes least_types fill collapse close visible visit lexicon
levels = record { words = refl; visits = refl; finished = refl; cut_off = refl; looked_up = refl }

pub parses : Parses
unfolding classes least_types fill collapse close visible visit lexicon chart
parses = record { with_an_empty = refl; with_a_list = refl }

pub generation : Generation
unfolding classes least_types fill collapse close visible visit lexicon
generation = refl

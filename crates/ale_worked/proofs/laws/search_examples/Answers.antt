use Rattle.ale_worked.proofs.Searched as searched
use Rattle.ale_worked.proofs.laws.search_examples.Goals as goal

pub returns-clause-two_clauses : goal.returns-clause-two_clauses
returns-clause-two_clauses c = searched.two_clauses

pub returns-clause-conjunction : goal.returns-clause-conjunction
returns-clause-conjunction c = searched.conjunction

pub returns-clause-first_only : goal.returns-clause-first_only
returns-clause-first_only c = searched.first_only

pub returns-clause-negation : goal.returns-clause-negation
returns-clause-negation c = searched.negation

pub returns-clause-if_then_else : goal.returns-clause-if_then_else
returns-clause-if_then_else c = searched.if_then_else

pub returns-clause-inequations : goal.returns-clause-inequations
returns-clause-inequations c = searched.inequations

pub returns-clause-constraints : goal.returns-clause-constraints
returns-clause-constraints c = searched.constraints

pub returns-clause-append : goal.returns-clause-append
returns-clause-append c = searched.append

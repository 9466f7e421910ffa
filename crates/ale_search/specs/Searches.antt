-- What a search stands for, and how it halts at its first answer, at its end, or at the end of a budget.
-- Source: depth-first search by backtracking, folklore; budgets own.
use Rattle.std.specs.Prelude.{ℕ, Bool, List, []}
use Rattle.ale_engine.specs.Engine as engine
use Rattle.ale_engine.specs.Engine.{found, ended, spent, next_answer}
use Rattle.ale_logic.specs.States as plain
use Rattle.ale_logic.specs.Visits as visits
use Rattle.ale_logic.specs.Visits.{visit}
use Rattle.ale_program.specs.declared.parts.Parts.{Parts}
use Rattle.ale_visit.specs.Views.{grammar}
use Rattle.ale_search.specs.declared.answers.Next.{Next}
use Rattle.ale_search.specs.declared.answers.Next.TheVariants.{Found, Ended, Spent}
use Rattle.ale_search.specs.declared.searching.Search.{Search}
use Rattle.ale_search.specs.Told.{told}
use Rattle.ale_search.specs.Waiting.{waiting_of}

-- the parts of its program, and the states that wait, in the order of their visits
pub record SearchData : Type 0 where
  pub program : Parts
  pub waiting : List plain.State

abbrev pub told_search : Search → SearchData
told_search s = record { program = s.program; waiting = waiting_of s.waiting }

-- whether memory ran out in it
abbrev pub has_failed : Search → Bool
has_failed s = s.failed

-- how a search halts that stops at its first answer: what is told of it, what waits then, and how many visits are left
abbrev pub halt_of : engine.Next plain.State visits.Answer → Next
halt_of (found a waiting left) = Found (told a)
halt_of (ended left) = Ended
halt_of (spent waiting) = Spent

abbrev pub waits_in : engine.Next plain.State visits.Answer → List plain.State
waits_in (found a waiting left) = waiting
waits_in (ended left) = []
waits_in (spent waiting) = waiting

abbrev pub left_in : engine.Next plain.State visits.Answer → ℕ
left_in (found a waiting left) = left
left_in (ended left) = left
left_in (spent waiting) = 0

-- the defined search up to its first answer, within so many visits
abbrev pub halted : SearchData → ℕ → engine.Next plain.State visits.Answer
halted s left = next_answer (visit (grammar s.program)) left s.waiting

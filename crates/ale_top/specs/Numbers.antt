-- The number with which the process exits for each status. Source: this project's own.
use Rattle.std.specs.Prelude.{ℕ}
use Rattle.ale_top.specs.declared.status.Status.{Status}
use Rattle.ale_top.specs.declared.status.Status.TheVariants.{Done, Unfinished, Words, Grammar, Commands, ReadFault, WriteFault, NoMemory}

abbrev pub number_of : Status → ℕ
number_of Done = 0
number_of Unfinished = 1
number_of Words = 2
number_of Grammar = 3
number_of Commands = 4
number_of ReadFault = 5
number_of WriteFault = 6
number_of NoMemory = 7

-- With which number the process exits: that of the status with which a run of its words ends. Source: this project's own.
use Rattle.std.specs.Prelude.{◌≡◌, ◌≢◌, ℕ, Option, Some, None, List}
use Rattle.ale_base.specs.Faults.{ExactlyWhereRose}
use Rattle.ale_top.specs.declared.status.Status.{Status}
use Rattle.ale_top.specs.declared.status.Status.TheVariants as status
use Rattle.ale_top.specs.Jobs.{Job, job_of, usage}
use Rattle.ale_top.specs.Numbers.{number_of}
use Rattle.ale_top.specs.Runs.{Wrote, IsExactly, RanOnSome}

-- how many calls failed before and after a call
pub record Counts : Type 0 where
  pub before : ℕ
  pub after : ℕ

-- The process exits with this number: there is a status with it, with which a run of the words may end, as the clauses of
-- `run` say, over files with this content and a sink.
pub record Exits (number : ℕ) (words : List (List ℕ)) (budget : ℕ) (content : List ℕ → Option (List ℕ)) (reads writes : Counts) (old new : Option (List ℕ)) : Type 0 where
  pub end : Status
  pub number_is : number ≡ number_of end
  pub usage : job_of words ≡ None → Wrote (status.Words, usage) end old new
  pub words_refused : IsExactly end status.Words (job_of words ≡ None)
  pub files_stay : job_of words ≡ None → reads.after ≡ reads.before
  pub job : (job : Job) → job_of words ≡ Some job → RanOnSome content job budget end old new
  pub read_fault : ExactlyWhereRose reads.before reads.after (end ≡ status.ReadFault)
  pub write_fault : ExactlyWhereRose writes.before writes.after (end ≡ status.WriteFault)
  pub unread : end ≡ status.ReadFault → (job_of words ≢ None) × (new ≡ old) × (writes.after ≡ writes.before)

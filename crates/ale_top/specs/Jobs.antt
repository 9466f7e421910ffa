-- The words of the command line. Two words, neither beginning with a dash, name the grammar file and the
-- command file; other words stand for no job.
use Rattle.std.specs.Prelude.{ℕ, ◌==◌, Bool, false, ◌||◌, Option, Some, None, List, [], ◌∷◌, if◌then◌else◌, codes}

pub record Job : Type 0 where
  pub grammar : List ℕ
  pub commands : List ℕ

abbrev pub begins_with_dash : List ℕ → Bool
begins_with_dash [] = false
begins_with_dash (c ∷ cs) = c == 45

abbrev pub job_of : List (List ℕ) → Option Job
job_of [] = None
job_of (g ∷ []) = None
job_of (g ∷ c ∷ []) = if begins_with_dash g || begins_with_dash c then None else Some (record { grammar = g; commands = c })
job_of (g ∷ c ∷ x ∷ xs) = None

abbrev pub usage : List ℕ
usage = codes "usage: ale [--budget N] GRAMMAR COMMANDS | ale [--budget N] --made N\n"

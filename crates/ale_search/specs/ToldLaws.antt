-- What is shown of an answer is what replies show of it. Source: this project's own.
use Rattle.std.specs.Prelude.{◌≡◌, ℕ, List}
use Rattle.ale_logic.specs.Shown.{shown_root, shown_slots}
use Rattle.ale_logic.specs.Visits.{Answer}
use Rattle.ale_search.specs.Told.{told, root_shown, slots_shown}

-- from its root, and from the nodes of variables
pub record ToldLaw (a : Answer) : Type 0 where
  pub root : root_shown (told a) ≡ shown_root a
  pub slots : (slots : List ℕ) → slots_shown slots (told a) ≡ shown_slots slots a

abbrev pub ToldLaws : Type 0
ToldLaws = (a : Answer) → ToldLaw a

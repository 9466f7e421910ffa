-- Names that are there have numbers.
use Rattle.std.proofs.Common.{◌≡◌, ℕ, true, false, Option, Some, None, List, refl, sym, ap, ◌∙◌}
use Rattle.std.specs.Prelude.{codes, is_some}
use Rattle.std.specs.Str.{chars}
use Rattle.ale_declared.specs.Declarations.{Declared}
use Rattle.ale_declared.specs.Names.{named, number}
use Rattle.ale_list.specs.Lists.{lists_in}
use Rattle.ale_describe.specs.Known.{HasLists}
use Rattle.ale_describe.proofs.Numbering.{named_there}

pub found_number : (names : List (List ℕ)) (x : List ℕ) (k : ℕ) → Some k ≡ named names x → k ≡ number names x
found_number names x k e = sym (named_there names x k (sym e)).0

pub lists_have_end : (d : Declared) → HasLists d → named d.types (codes "e_list") ≡ None → ⊥
lists_have_end d h e = go (named d.types (codes "e_list")) refl e
  where
    go : (o : Option ℕ) → named d.types (codes "e_list") ≡ o → o ≡ None → ⊥
    go None q n = no (sym h ∙ ap (λ z. is_some z) (gone q))
      where
        gone : named d.types (codes "e_list") ≡ None → lists_in d ≡ None
        gone q = rw q refl

        no : true ≡ false → ⊥
        no f = absurd cc
    go (Some k) q n = absurd cc

pub e_list_chars : chars (codes "e_list") ≡ codes "e_list"
unfolding chars
e_list_chars = refl

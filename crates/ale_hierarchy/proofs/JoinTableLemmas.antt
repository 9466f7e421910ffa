-- The join of two types by way of the types directly below the first: each common subtype is below a candidate,
-- a join of one of those with the second.
use Rattle.std.proofs.Common.{◌≡◌, sym, ap, ◌∙◌, subst, refl, ℕ, ◌+◌, ◌<◌, arith, Bool, true, false, get_or, ◌++◌, append_assoc, Option, Some, None, List, [], ◌∷◌, length, inl, inr, eqb}
use Rattle.std.specs.List.{filter_map, cons_option}
use Rattle.std.proofs.lemmas.Bool.{both_ways, cases_eq, false≢true, eqb-true}
use Rattle.ale_relation.specs.Has.{Has}
use Rattle.ale_relation.specs.Paths.{Reaches, here}
use Rattle.ale_declared.specs.Lists.{first, every}
use Rattle.ale_declared.specs.Declarations.{Declared}
use Rattle.ale_hierarchy.specs.Order.{IsAbove, IsJoin, is_above, join, rank}
use Rattle.ale_hierarchy.specs.Stages.{IsOrdered, IsFilled, entry, directly_below, HasLeast, are_below, join_row, join_rows}
use Rattle.ale_declared.proofs.ListLemmas.{Has-filter_map, filter_map_has, first_has, first_none, every_at, every_from}
use Rattle.ale_hierarchy.proofs.PathLemmas.{Leads_apart, Reaches-edge}
use Rattle.ale_hierarchy.proofs.OrderLemmas.{rank-less, IsAbove-trans, IsAbove-antisym, IsAbove_inside, is_above_to, is_above_from}
use Rattle.ale_hierarchy.proofs.JoinLemmas.{HasJoins, join_to, join_from, none_from, join-above, join-comm}
use Rattle.ale_hierarchy.proofs.LoopLemmas.{are_below-from}
use Rattle.ale_hierarchy.proofs.TabulatedLemmas.{length-tabulated, get_or-tabulated, tabulated-ext, get_or-default}
use Rattle.ale_hierarchy.proofs.StageLemmas.{directly_below_has, Has-directly_below}

-- what is known when the join of a and b is looked for
pub record IsDue (d : Declared) (a b : ℕ) (below : List ℕ) : Type 0 where
  pub ordered : IsOrdered d
  pub a_in : a < length d.types
  pub b_in : b < length d.types
  pub back : is_above d b a ≡ false
  pub below_is : below ≡ directly_below d.edges a
  pub least : (t : ℕ) → Has below t → (c : ℕ) → c < length d.types → HasLeast d t c

abbrev pub candidates : Declared → ℕ → List ℕ → List ℕ
candidates d b below = filter_map (λ t. join d t b) below

-- an edge to a type directly below
edge_below : (d : Declared) (a b : ℕ) (below : List ℕ) (t : ℕ) → IsDue d a b below → Has below t → Has d.edges (a, t)
edge_below d a b below t due h = directly_below_has d.edges a t (subst (λ ts. Has ts t) due.below_is h)

-- a candidate is a common subtype
pub candidate_common : (d : Declared) (a b : ℕ) (below : List ℕ) (j : ℕ) → IsDue d a b below → Has (candidates d b below) j → (j < length d.types) × IsAbove d a j × IsAbove d b j
candidate_common d a b below j due h =
    let made = filter_map_has (λ t. join d t b) below j h in
    let found = join_to d made.0 b j due.ordered.numbered made.2 in (
      found.0,
      IsAbove-trans d a made.0 j (Reaches-edge d.edges a made.0 (edge_below d a b below made.0 due made.1)) found.1.left,
      found.1.right,
    )

-- each common subtype is below a candidate
pub candidate_there : (d : Declared) (a b : ℕ) (below : List ℕ) (c : ℕ) → IsDue d a b below → c < length d.types → IsAbove d a c → IsAbove d b c → (j : ℕ) × Has (candidates d b below) j × IsAbove d j c
candidate_there d a b below c due inside left right =
    let path = Leads_apart d.edges a c left (λ same. both_ways (is_above d b a) due.back (is_above_from d b a due.ordered.numbered (subst (λ z. IsAbove d b z) (sym same) right))) in
    let listed : Has below path.0 = subst (λ ts. Has ts path.0) (sym due.below_is) (Has-directly_below d.edges a path.0 path.1) in
    let found = due.least path.0 listed b due.b_in c inside path.2 right in
    (found.0, Has-filter_map (λ t. join d t b) below path.0 found.0 listed found.1, (join_to d path.0 b found.0 due.ordered.numbered found.1).1.least c path.2 right)

-- without candidates there is no common subtype
pub join_without : (d : Declared) (a b : ℕ) (below : List ℕ) → IsDue d a b below → candidates d b below ≡ [] → (join d a b ≡ None) × HasLeast d a b
join_without d a b below due none =
    let nowhere : (c : ℕ) → c < length d.types → IsAbove d a c → IsAbove d b c → ⊥ = λ c inside left right.
    let found = candidate_there d a b below c due inside left right in
    subst (λ js. Has js found.0) none found.1 in (
      none_from (join d a b) (λ j h.
          let found = join_to d a b j due.ordered.numbered h in
          nowhere j found.0 found.1.left found.1.right),
      λ c inside left right. absurd (nowhere c inside left right),
    )

-- a candidate that is above all is the join
IsJoin-top : (d : Declared) (a b : ℕ) (below : List ℕ) (j : ℕ) → IsDue d a b below → Has (candidates d b below) j → every (λ u. is_above d j u) (candidates d b below) ≡ true → IsJoin d a b j
IsJoin-top d a b below j due h above =
    let common = candidate_common d a b below j due h in
    record {
      left = common.1;
      right = common.2;
      least = λ c left right.
          let found = candidate_there d a b below c due (IsAbove_inside d a c due.ordered.numbered left due.a_in) left right in
          IsAbove-trans d j found.0 c (is_above_to d j found.0 (every_at (λ u. is_above d j u) (candidates d b below) found.0 above found.1)) found.2;
    }

pub join_top : (d : Declared) (a b : ℕ) (below : List ℕ) (j : ℕ) → IsDue d a b below → first (λ t. every (λ u. is_above d t u) (candidates d b below)) (candidates d b below) ≡ Some j → (join d a b ≡ Some j) × HasLeast d a b
join_top d a b below j due h =
    let at = first_has (λ t. every (λ u. is_above d t u) (candidates d b below)) (candidates d b below) j h in
    let common = candidate_common d a b below j due at.0 in
    let is : join d a b ≡ Some j = join_from d a b j due.ordered.numbered due.ordered.no_cycle common.0 (IsJoin-top d a b below j due at.0 at.1) in
    (is, λ c inside left right. (j, is))

-- where there are candidates and none is above all, the two types have common subtypes and no least one
pub join_lacking : (d : Declared) (a b : ℕ) (below : List ℕ) (x : ℕ) → IsDue d a b below → Has (candidates d b below) x → first (λ t. every (λ u. is_above d t u) (candidates d b below)) (candidates d b below) ≡ None → HasJoins d → ⊥
join_lacking d a b below x due h none joins =
    let common = candidate_common d a b below x due h in
    let w = due.ordered.numbered in
    let has = joins a b x common.0 common.1 common.2 in
    let j : ℕ = has.0 in
    let is : IsJoin d a b j = has.1 in
    let inside = IsAbove_inside d a j w is.left due.a_in in
    let found = candidate_there d a b below j due inside is.left is.right in
    let i = candidate_common d a b below found.0 due found.1 in
    let same : found.0 ≡ j = IsAbove-antisym d found.0 j due.ordered.no_cycle found.2 (is.least found.0 i.1 i.2) in
    let listed : Has (candidates d b below) j = subst (λ z. Has (candidates d b below) z) same found.1 in
    both_ways (every (λ u. is_above d j u) (candidates d b below))
    (first_none (λ t. every (λ u. is_above d t u) (candidates d b below)) (candidates d b below) j none listed)
    (every_from (λ u. is_above d j u) (candidates d b below) (λ u k.
    let at_u = candidate_common d a b below u due k in
    is_above_from d j u w (is.least u at_u.1 at_u.2)))

-- the join with a type above is the type itself
pub join_back : (d : Declared) (a b : ℕ) → IsOrdered d → a < length d.types → is_above d b a ≡ true → (join d a b ≡ Some a) × HasLeast d a b
join_back d a b o inside h =
    let is : join d a b ≡ Some a = join-comm d a b o.numbered o.no_cycle ∙ join-above d b a o.numbered o.no_cycle inside (is_above_to d b a h) in
    (is, λ c below left right. (a, is))

-- a list of no elements
pub empty_list : {A : Type 0} (xs : List A) (t : Bool) → t ≡ eqb (length xs) 0 → t ≡ true → xs ≡ []
empty_list [] t e h = refl
empty_list (x ∷ xs) t e h = let long : length (x ∷ xs) ≡ 0 = eqb-true (length (x ∷ xs)) 0 (sym e ∙ h) in absurd (omega arith)

-- a list that isn't empty has an element
pub has_element : {A : Type 0} (xs : List A) (t : Bool) → t ≡ eqb (length xs) 0 → t ≡ false → (x : A) × Has xs x
has_element [] t e h = absurd (false≢true (sym h ∙ e))
has_element (x ∷ xs) t e h = (x, inl refl)

-- what a filled row holds
pub filled_length : (d : Declared) (rows : List (List (Option ℕ))) (t : ℕ) → IsFilled d rows t → length (get_or rows t []) ≡ length d.types
filled_length d rows t h = ap length h.row ∙ length-tabulated (join d t) (length d.types)

pub filled_entry : (d : Declared) (rows : List (List (Option ℕ))) (t b : ℕ) → IsFilled d rows t → b < length d.types → entry rows t b ≡ join d t b
filled_entry d rows t b h below =
    ap (λ row. get_or row b None) h.row ∙ get_or-tabulated (join d t) (length d.types) b None below

-- the join of a and b is due where the rows of those directly below a are filled
pub IsDue-from : (d : Declared) (rows : List (List (Option ℕ))) (a b : ℕ) (below : List ℕ) (t : Bool) → IsOrdered d → a < length d.types → b < length d.types → t ≡ is_above d b a → t ≡ false → below ≡ directly_below d.edges a → ((k : ℕ) → Has below k → IsFilled d rows k) → IsDue d a b below
IsDue-from d rows a b below t ordered a_in b_in e fails is filled = record {
  ordered = ordered;
  a_in = a_in;
  b_in = b_in;
  back = sym e ∙ fails;
  below_is = is;
  least = λ k h. (filled k h).least;
}

-- candidates are types
pub candidates-below : (d : Declared) (a b : ℕ) (below : List ℕ) → IsDue d a b below → are_below (length d.types) (candidates d b below) ≡ true
candidates-below d a b below due =
    are_below-from (length d.types) (candidates d b below) (λ j h. (candidate_common d a b below j due h).0)

-- one element more of a list, of which something is made
pub filter_map_some : {A B : Type 0} (f : A → Option B) (x : A) (y : B) (xs : List A) (made now whole : List B) → f x ≡ Some y → made ++ filter_map f (x ∷ xs) ≡ whole → now ≡ made ++ y ∷ [] → now ++ filter_map f xs ≡ whole
filter_map_some f x y xs made now whole some so_far more =
    let here : made ++ cons_option (f x) (filter_map f xs) ≡ whole = so_far in
    let at : made ++ (y ∷ filter_map f xs) ≡ whole = subst (λ o. made ++ cons_option o (filter_map f xs) ≡ whole) some here in
    rw (more, append_assoc) at

-- or nothing
pub filter_map_none : {A B : Type 0} (f : A → Option B) (x : A) (xs : List A) (made whole : List B) → f x ≡ None → made ++ filter_map f (x ∷ xs) ≡ whole → made ++ filter_map f xs ≡ whole
filter_map_none f x xs made whole none so_far =
    let here : made ++ cons_option (f x) (filter_map f xs) ≡ whole = so_far in
    subst (λ o. made ++ cons_option o (filter_map f xs) ≡ whole) none here

-- a type directly below another is a type of smaller rank
pub rank-below : (d : Declared) (a t : ℕ) → IsOrdered d → Has (directly_below d.edges a) t → (t < length d.types) × (rank d t < rank d a)
rank-below d a t o h =
    let edge = directly_below_has d.edges a t h in (
      (o.numbered.edges a t edge).1,
      rank-less d a t o.numbered o.no_cycle (Reaches-edge d.edges a t edge) (λ same. o.no_cycle a (t, edge, subst (λ z. Reaches d.edges t z) (sym same) (here t))),
    )

-- what holds at each number below b and at b holds at each below b + 1
pub below_next : (P : ℕ → Type 0) (b : ℕ) → ((k : ℕ) → k < b → P k) → P b → (k : ℕ) → k < b + 1 → P k
below_next P b before at k less =
    elim (cases_eq k b) [
      | inl same ↦ subst P (sym same) at
      | inr apart ↦ before k (omega arith)
    ]

-- the rows of all types are filled
pub join_rows-filled : (d : Declared) (rows : List (List (Option ℕ))) → length rows ≡ length d.types → ((t : ℕ) → t < length d.types → IsFilled d rows t) → rows ≡ join_rows d
join_rows-filled d rows long filled =
    tabulated-ext rows (join_row d) (length d.types) long (λ k z below.
    get_or-default rows k z [] (subst (λ n. k < n) (sym long) below) ∙ (filled k below).row)

-- a row that is kept stays filled
pub filled_kept : (d : Declared) (old new : List (List (Option ℕ))) (t : ℕ) → get_or new t [] ≡ get_or old t [] → IsFilled d old t → IsFilled d new t
filled_kept d old new t same h = record { row = same ∙ h.row; least = h.least }

-- the rows of the ranks before the due one, after the row of a was filled if it was due
pub before_kept : (d : Declared) (old new : List (List (Option ℕ))) (due a : ℕ) → ((t : ℕ) → (t ≡ a → ⊥) → get_or new t [] ≡ get_or old t []) → ((rank d a ≡ due → ⊥) → get_or new a [] ≡ get_or old a []) → ((t : ℕ) → t < length d.types → rank d t < due → IsFilled d old t) → (t : ℕ) → t < length d.types → rank d t < due → IsFilled d new t
before_kept d old new due a others own before t inside less =
    elim (cases_eq t a) [
      | inl same ↦
          let at_a : get_or new a [] ≡ get_or old a [] = own (λ e. let less_a : rank d a < due = subst (λ z. rank d z < due) same less in absurd (omega arith)) in
          filled_kept d old new t (subst (λ z. get_or new z [] ≡ get_or old z []) (sym same) at_a) (before t inside less)
      | inr apart ↦ filled_kept d old new t (others t apart) (before t inside less)
    ]

-- those of the due rank up to a
pub here_kept : (d : Declared) (old new : List (List (Option ℕ))) (due a : ℕ) → ((t : ℕ) → (t ≡ a → ⊥) → get_or new t [] ≡ get_or old t []) → ((t : ℕ) → t < a → rank d t ≡ due → IsFilled d old t) → (rank d a ≡ due → IsFilled d new a) → (t : ℕ) → t < a + 1 → rank d t ≡ due → IsFilled d new t
here_kept d old new due a others so_far own t less is =
    elim (cases_eq t a) [
      | inl same ↦ subst (λ z. IsFilled d new z) (sym same) (own (subst (λ z. rank d z ≡ due) same is))
      | inr apart ↦ filled_kept d old new t (others t apart) (so_far t (omega arith) is)
    ]

-- the rows of all ranks up to the due one
pub ranks_filled : (d : Declared) (rows : List (List (Option ℕ))) (due : ℕ) → ((t : ℕ) → t < length d.types → rank d t < due → IsFilled d rows t) → ((t : ℕ) → t < length d.types → rank d t ≡ due → IsFilled d rows t) → (t : ℕ) → t < length d.types → rank d t < due + 1 → IsFilled d rows t
ranks_filled d rows due before due_filled t inside less =
    elim (cases_eq (rank d t) due) [
      | inl same ↦ due_filled t inside same
      | inr apart ↦ before t inside (omega arith)
    ]

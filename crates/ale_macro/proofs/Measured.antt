-- What is counted of templates is near to what they stand for: parts and nesting.
use Rattle.std.proofs.Common.{◌≡◌, ℕ, zero, suc, ◌+◌, ◌*◌, ◌<◌, ◌≤◌, ◌⊎◌, ◌&&◌, min, max, nat_le, Bool, true, false, if◌then◌else◌, Option, Some, None, List, [], ◌∷◌, length, get_or, refl, sym, ap, ◌∙◌, subst, inl, inr, arith}
use Rattle.std.proofs.lemmas.Bool.{leb-true, leb-false, le-leb}
use Rattle.ale_relation.specs.Has.{Has}
use Rattle.ale_declared.proofs.ListLemmas.{Has-append_left, Has-append_right}
use Rattle.ale_logic.specs.Programs.{ListTypes}
use Rattle.ale_order.specs.Entries.{HasRight}
use Rattle.ale_macro.specs.declared.tally.Tally.{Tally}
use Rattle.ale_macro.specs.declared.depth.Depth.{Depth}
use Rattle.ale_macro.specs.Templates as template
use Rattle.ale_macro.specs.Templates.{TemplateData, TemplatesData, MacroData, macro_at}
use Rattle.ale_macro.specs.Expansions.{Expansion, variable, expansions_of, parts, parts_of_all, nesting, nesting_of_all, within_limits}
use Rattle.ale_macro.specs.Expanding.{LibraryData, Meaning, list_of, expanded, all_expanded, meaning, expansion}
use Rattle.ale_macro.specs.Calls.{calls_in, calls_in_all, CallsKnown, AllCallsKnown, IsLibrary}
use Rattle.ale_macro.proofs.Nearly.{weighted_none}
use Rattle.ale_macro.specs.Sizes.{Near, Counts, Reaches, weighted, tallied, below, reached, list_parts, parts_by, total_parts, each_parts, tallied_if, tallied_by, IsTally, list_nesting, nesting_by, deepest, each_nesting, reached_if, reached_by, IsDepth}
use Rattle.ale_macro.specs.Tables.{AreNear, IsMeasured}
use Rattle.ale_macro.proofs.Projected.{body_known, same_count}
use Rattle.ale_macro.proofs.Fits.{known_below}
use Rattle.ale_macro.proofs.Unfolding.{each_macro, unfolds}

near_at : (limit : ℕ) (size : Expansion → ℕ) (xs : List ℕ) (es : List Expansion) (v n : ℕ) (e : Expansion) → AreNear limit size xs es → Near limit n (size e) → Near limit (get_or xs v n) (size (get_or es v e))
near_at limit size [] [] v n e near here = here
near_at limit size [] (d ∷ es) v n e near here = absurd near
near_at limit size (x ∷ xs) [] v n e near here = absurd near
near_at limit size (x ∷ xs) (d ∷ es) zero n e near here = near.0
near_at limit size (x ∷ xs) (d ∷ es) (suc v) n e near here = near_at limit size xs es v n e near.1 here

near_length : (limit : ℕ) (size : Expansion → ℕ) (xs : List ℕ) (es : List Expansion) → AreNear limit size xs es → length xs ≡ length es
near_length limit size [] [] near = refl
near_length limit size [] (d ∷ es) near = absurd near
near_length limit size (x ∷ xs) [] near = absurd near
near_length limit size (x ∷ xs) (d ∷ es) near = ap suc (near_length limit size xs es near.1)

near_list_parts : (l : ListTypes) (xs : List ℕ) (es : List Expansion) (n : ℕ) (e : Expansion) → AreNear 100001 parts xs es → Near 100001 n (parts e) → Near 100001 (list_parts xs n) (parts (list_of l es e))
near_list_parts l [] [] n e near here = here
near_list_parts l [] (d ∷ es) n e near here = absurd near
near_list_parts l (x ∷ xs) [] n e near here = absurd near
near_list_parts l (x ∷ xs) (d ∷ es) n e near here =
    let first : Near 100001 x (parts d) = near.0 in
    let rest : Near 100001 (list_parts xs n) (parts (list_of l es e)) = near_list_parts l xs es n e near.1 here in
    omega arith

near_list_nesting : (l : ListTypes) (xs : List ℕ) (es : List Expansion) (n : ℕ) (e : Expansion) → AreNear 4001 nesting xs es → Near 4001 n (nesting e) → Near 4001 (list_nesting xs n) (nesting (list_of l es e))
near_list_nesting l [] [] n e near here = here
near_list_nesting l [] (d ∷ es) n e near here = absurd near
near_list_nesting l (x ∷ xs) [] n e near here = absurd near
near_list_nesting l (x ∷ xs) (d ∷ es) n e near here =
    let first : Near 4001 x (nesting d) = near.0 in
    let rest : Near 4001 (list_nesting xs n) (nesting (list_of l es e)) = near_list_nesting l xs es n e near.1 here in
    cell_deep x (nesting d) (list_nesting xs n) (nesting (list_of l es e)) first rest
  where
    cell_deep : (a b c d : ℕ) → Near 4001 a b → Near 4001 c d → Near 4001 (2 + max a c) (suc (max 0 (max (suc b) (max (suc d) 0))))
    cell_deep a b c d first rest = omega arith

near_next : (limit a b : ℕ) → Near limit a b → Near limit (suc a) (suc b)
near_next limit a b h = omega arith

near_plus : (limit a b c d : ℕ) → Near limit a b → Near limit c d → Near limit (a + c) (b + d)
near_plus limit a b c d h k = omega arith

near_max : (limit a b c d : ℕ) → Near limit a b → Near limit c d → Near limit (max a c) (max b d)
near_max limit a b c d h k = omega arith

-- ---- parts

-- calls have as many parts as is said by those of their arguments
module _ (ms : List MacroData) (calls : Meaning) (by : ℕ → List ℕ → ℕ) where
  abbrev pub IsCounted : ℕ → Type 0
  IsCounted k =
      (path xs : List ℕ) (args : List Expansion) → AreNear 100001 parts xs args → length args ≡ (macro_at ms k).parameters → Near 100001 (by k xs) (parts (calls k path args))

  abbrev pub IsReached : ℕ → Type 0
  IsReached k =
      (path xs : List ℕ) (args : List Expansion) → AreNear 4001 nesting xs args → length args ≡ (macro_at ms k).parameters → Near 4001 (by k xs) (nesting (calls k path args))

module _ (l : ListTypes) (ms : List MacroData) (calls : Meaning) (by : ℕ → List ℕ → ℕ) (path xs : List ℕ) (args : List Expansion) where
  mutual
    near_parts : AreNear 100001 parts xs args → (t : TemplateData) → CallsKnown ms t → ((k : ℕ) → Has (calls_in t) k → IsCounted ms calls by k) →
        Near 100001 (parts_by by xs t) (parts (expanded l calls path args t))
    near_parts near (template.of_type t) known ok = refl
    near_parts near (template.variable v) known ok = near_at 100001 parts xs args v 1 (variable (path, v)) near refl
    near_parts near (template.at f t) known ok = near_next 100001 (parts_by by xs t) (parts (expanded l calls path args t)) (near_parts near t known ok)
    near_parts near (template.all ts) known ok =
        near_next 100001 (total_parts by xs ts) (parts_of_all (expansions_of (all_expanded l calls path args ts))) (near_total near ts known ok)
    near_parts near (template.any ts) known ok =
        near_next 100001 (total_parts by xs ts) (parts_of_all (expansions_of (all_expanded l calls path args ts))) (near_total near ts known ok)
    near_parts near (template.differs t) known ok = near_next 100001 (parts_by by xs t) (parts (expanded l calls path args t)) (near_parts near t known ok)
    near_parts near (template.path_equation p q) known ok = refl
    near_parts near (template.call k m ts) known ok =
        ok m (inl refl) (k ∷ path) (each_parts by xs ts) (all_expanded l calls path args ts) (near_each near ts known.2 (λ n h. ok n (inr h))) (same_count l calls path args ts ∙ known.1)
    near_parts near (template.cells ts t) known ok =
        near_list_parts l (each_parts by xs ts) (all_expanded l calls path args ts) (parts_by by xs t) (expanded l calls path args t)
        (near_each near ts known.0 (λ n h. ok n (Has-append_left (calls_in_all ts) (calls_in t) n h)))
        (near_parts near t known.1 (λ n h. ok n (Has-append_right (calls_in_all ts) (calls_in t) n h)))

    near_total : AreNear 100001 parts xs args → (ts : TemplatesData) → AllCallsKnown ms ts → ((k : ℕ) → Has (calls_in_all ts) k → IsCounted ms calls by k) →
        Near 100001 (total_parts by xs ts) (parts_of_all (expansions_of (all_expanded l calls path args ts)))
    near_total near template.none known ok = refl
    near_total near (template.more t ts) known ok =
        near_plus 100001 (parts_by by xs t) (parts (expanded l calls path args t)) (total_parts by xs ts) (parts_of_all (expansions_of (all_expanded l calls path args ts)))
        (near_parts near t known.0 (λ n h. ok n (Has-append_left (calls_in t) (calls_in_all ts) n h)))
        (near_total near ts known.1 (λ n h. ok n (Has-append_right (calls_in t) (calls_in_all ts) n h)))

    near_each : AreNear 100001 parts xs args → (ts : TemplatesData) → AllCallsKnown ms ts → ((k : ℕ) → Has (calls_in_all ts) k → IsCounted ms calls by k) →
        AreNear 100001 parts (each_parts by xs ts) (all_expanded l calls path args ts)
    near_each near template.none known ok = tt
    near_each near (template.more t ts) known ok = (
      near_parts near t known.0 (λ n h. ok n (Has-append_left (calls_in t) (calls_in_all ts) n h)),
      near_each near ts known.1 (λ n h. ok n (Has-append_right (calls_in t) (calls_in_all ts) n h)),
    )

  mutual
    near_nesting : AreNear 4001 nesting xs args → (t : TemplateData) → CallsKnown ms t → ((k : ℕ) → Has (calls_in t) k → IsReached ms calls by k) →
        Near 4001 (nesting_by by xs t) (nesting (expanded l calls path args t))
    near_nesting near (template.of_type t) known ok = refl
    near_nesting near (template.variable v) known ok = near_at 4001 nesting xs args v 0 (variable (path, v)) near refl
    near_nesting near (template.at f t) known ok = near_next 4001 (nesting_by by xs t) (nesting (expanded l calls path args t)) (near_nesting near t known ok)
    near_nesting near (template.all ts) known ok =
        near_next 4001 (deepest by xs ts) (nesting_of_all (expansions_of (all_expanded l calls path args ts))) (near_deepest near ts known ok)
    near_nesting near (template.any ts) known ok =
        near_next 4001 (deepest by xs ts) (nesting_of_all (expansions_of (all_expanded l calls path args ts))) (near_deepest near ts known ok)
    near_nesting near (template.differs t) known ok = near_next 4001 (nesting_by by xs t) (nesting (expanded l calls path args t)) (near_nesting near t known ok)
    near_nesting near (template.path_equation p q) known ok = refl
    near_nesting near (template.call k m ts) known ok =
        ok m (inl refl) (k ∷ path) (each_nesting by xs ts) (all_expanded l calls path args ts) (near_nestings near ts known.2 (λ n h. ok n (inr h))) (same_count l calls path args ts ∙ known.1)
    near_nesting near (template.cells ts t) known ok =
        near_list_nesting l (each_nesting by xs ts) (all_expanded l calls path args ts) (nesting_by by xs t) (expanded l calls path args t)
        (near_nestings near ts known.0 (λ n h. ok n (Has-append_left (calls_in_all ts) (calls_in t) n h)))
        (near_nesting near t known.1 (λ n h. ok n (Has-append_right (calls_in_all ts) (calls_in t) n h)))

    near_deepest : AreNear 4001 nesting xs args → (ts : TemplatesData) → AllCallsKnown ms ts → ((k : ℕ) → Has (calls_in_all ts) k → IsReached ms calls by k) →
        Near 4001 (deepest by xs ts) (nesting_of_all (expansions_of (all_expanded l calls path args ts)))
    near_deepest near template.none known ok = refl
    near_deepest near (template.more t ts) known ok =
        near_max 4001 (nesting_by by xs t) (nesting (expanded l calls path args t)) (deepest by xs ts) (nesting_of_all (expansions_of (all_expanded l calls path args ts)))
        (near_nesting near t known.0 (λ n h. ok n (Has-append_left (calls_in t) (calls_in_all ts) n h)))
        (near_deepest near ts known.1 (λ n h. ok n (Has-append_right (calls_in t) (calls_in_all ts) n h)))

    near_nestings : AreNear 4001 nesting xs args → (ts : TemplatesData) → AllCallsKnown ms ts → ((k : ℕ) → Has (calls_in_all ts) k → IsReached ms calls by k) →
        AreNear 4001 nesting (each_nesting by xs ts) (all_expanded l calls path args ts)
    near_nestings near template.none known ok = tt
    near_nestings near (template.more t ts) known ok = (
      near_nesting near t known.0 (λ n h. ok n (Has-append_left (calls_in t) (calls_in_all ts) n h)),
      near_nestings near ts known.1 (λ n h. ok n (Has-append_right (calls_in t) (calls_in_all ts) n h)),
    )

module _ (library : LibraryData) (is : IsLibrary library) where
  pub all_counted : (table : List (Option Tally)) → ((m : ℕ) → m < length library.macros → HasRight {T = Tally} (IsTally library.macros) table m) →
      (m : ℕ) → m < length library.macros → IsCounted library.macros (meaning library.lists library.macros) (tallied_by table) m
  all_counted table right =
      each_macro library is (IsCounted library.macros (meaning library.lists library.macros) (tallied_by table))
      (λ m low ok path xs args near long.
      let e = right m low in
      ap (λ o. min (tallied_if o xs) 100001) e.1
      ∙ (e.2.1 xs (near_length 100001 parts xs args near ∙ long)
      ∙ (near_parts library.lists library.macros (meaning library.lists library.macros) (tallied_by table) path xs args near (macro_at library.macros m).body
      (body_known library.macros library.macros is.known m low) ok
      ∙ ap (λ d. min (parts d) 100001) (sym (unfolds library is m low path args)))))

  pub all_reached : (table : List (Option Depth)) → ((m : ℕ) → m < length library.macros → HasRight {T = Depth} (IsDepth library.macros) table m) →
      (m : ℕ) → m < length library.macros → IsReached library.macros (meaning library.lists library.macros) (reached_by table) m
  all_reached table right =
      each_macro library is (IsReached library.macros (meaning library.lists library.macros) (reached_by table))
      (λ m low ok path xs args near long.
      let e = right m low in
      ap (λ o. min (reached_if o xs) 4001) e.1
      ∙ (e.2.1 xs (near_length 4001 nesting xs args near ∙ long)
      ∙ (near_nesting library.lists library.macros (meaning library.lists library.macros) (reached_by table) path xs args near (macro_at library.macros m).body
      (body_known library.macros library.macros is.known m low) ok
      ∙ ap (λ d. min (nesting d) 4001) (sym (unfolds library is m low path args)))))

  -- the same of templates outside macros
  pub are_measured : (tallies : List (Option Tally)) (depths : List (Option Depth)) →
      ((m : ℕ) → m < length library.macros → HasRight {T = Tally} (IsTally library.macros) tallies m) →
      ((m : ℕ) → m < length library.macros → HasRight {T = Depth} (IsDepth library.macros) depths m) →
      (t : TemplateData) → CallsKnown library.macros t → IsMeasured tallies depths library t
  are_measured tallies depths counted reached t known = record {
    counts = near_parts library.lists library.macros (meaning library.lists library.macros) (tallied_by tallies) [] [] [] tt t known (λ k h. all_counted tallies counted k (known_below library.macros t known k h));
    reaches = near_nesting library.lists library.macros (meaning library.lists library.macros) (reached_by depths) [] [] [] tt t known (λ k h. all_reached depths reached k (known_below library.macros t known k h));
  }

-- within the limits
pub within : (e : Expansion) (a b : ℕ) → Near 100001 a (parts e) → Near 4001 b (nesting e) → a ≤ 100000 → b ≤ 4000 → Some a ≡ within_limits e
within e a b few shallow p q =
    let parts_few : parts e ≤ 100000 = omega arith in
    let same : a ≡ parts e = omega arith in
    let nested : nesting e ≤ 4000 = omega arith in
    ap Some same ∙ sym (go (nat_le (parts e) 100000) (nat_le (nesting e) 4000) (le-leb (parts e) 100000 parts_few) (le-leb (nesting e) 4000 nested))
  where
    go : (x y : Bool) → x ≡ true → y ≡ true → (if x && y then Some (parts e) else None) ≡ Some (parts e)
    go x y s t = rw (s, t) refl

pub past : (e : Expansion) (a b : ℕ) → Near 100001 a (parts e) → Near 4001 b (nesting e) → (100000 < a) ⊎ (4000 < b) → None ≡ within_limits e
past e a b few shallow over =
    sym (go (nat_le (parts e) 100000) refl (nat_le (nesting e) 4000) refl over)
  where
    go : (x : Bool) → nat_le (parts e) 100000 ≡ x → (y : Bool) → nat_le (nesting e) 4000 ≡ y → (100000 < a) ⊎ (4000 < b) → (if x && y then Some (parts e) else None) ≡ None
    go false s y t q = refl
    go true s false t q = refl
    go true s true t (inl q) = let low : parts e ≤ 100000 = leb-true (parts e) 100000 s in absurd (omega arith)
    go true s true t (inr q) = let low : nesting e ≤ 4000 = leb-true (nesting e) 4000 t in absurd (omega arith)

-- what a walk through a template finds
pub own_parts : (table : List (Option Tally)) (t : TemplateData) (old new : Tally) → length old.uses.items ≡ 0 → ((xs : List ℕ) → tallied old xs ≡ 0) → Counts table t 1 old new →
    Near 100001 new.own (parts_by (tallied_by table) [] t)
own_parts table t old new none empty counts =
    let c : Near 100001 (tallied new []) (tallied old [] + 1 * parts_by (tallied_by table) [] t) = counts [] (sym none) in
    let z : tallied old [] ≡ 0 = empty [] in
    let w : weighted new.uses.items [] ≡ 0 = weighted_none new.uses.items in
    omega arith

below_none : (ps : List (Option ℕ)) → below ps [] ≡ 0
below_none [] = refl
below_none (p ∷ ps) = refl

pub own_nesting : (table : List (Option Depth)) (t : TemplateData) (old new : Depth) → length old.places.items ≡ 0 → ((xs : List ℕ) → reached old xs ≡ 0) → Reaches table t (Some 0) old new →
    Near 4001 new.own (nesting_by (reached_by table) [] t)
own_nesting table t old new none empty reaches =
    let c : Near 4001 (reached new []) (max (reached old []) (0 + nesting_by (reached_by table) [] t)) = reaches [] (sym none) in
    let z : reached old [] ≡ 0 = empty [] in
    let w : below new.places.items [] ≡ 0 = below_none new.places.items in
    go new.own (below new.places.items []) (reached old []) (nesting_by (reached_by table) [] t) c z w
  where
    go : (own b o n : ℕ) → Near 4001 (max own b) (max o (0 + n)) → o ≡ 0 → b ≡ 0 → Near 4001 own n
    go own b o n c z w = omega arith

pub limits_same : (e : Expansion) (a b : ℕ) → Near 100001 a (parts e) → Near 4001 b (nesting e) → (if nat_le a 100000 && nat_le b 4000 then Some a else None) ≡ within_limits e
limits_same e a b few shallow = go (nat_le a 100000) refl (nat_le b 4000) refl
  where
    go : (x : Bool) → nat_le a 100000 ≡ x → (y : Bool) → nat_le b 4000 ≡ y → (if x && y then Some a else None) ≡ within_limits e
    go true s true t = within e a b few shallow (leb-true a 100000 s) (leb-true b 4000 t)
    go false s y t = past e a b few shallow (inl (leb-false a 100000 s))
    go true s false t = past e a b few shallow (inr (leb-false b 4000 t))

pub measured_at : (tallies : List (Option Tally)) (depths : List (Option Depth)) (library now : LibraryData) → library ≡ now →
    ((t : TemplateData) → CallsKnown library.macros t → IsMeasured tallies depths library t) → (t : TemplateData) → CallsKnown now.macros t → IsMeasured tallies depths now t
measured_at tallies depths library now same all = subst (λ (l : LibraryData). (t : TemplateData) → CallsKnown l.macros t → IsMeasured tallies depths l t) same all

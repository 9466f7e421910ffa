-- Steps by which the parts of a template are counted.
use Rattle.std.proofs.Common.{◌≡◌, ℕ, zero, suc, ◌+◌, ◌*◌, ◌<◌, ◌≤◌, min, Option, Some, None, List, [], ◌∷◌, length, map, get_or, set, drop, refl, sym, ap, ◌∙◌, arith, mul-zero, mul-one, mul-suc, mul-add}
use Rattle.ale_macro.specs.declared.template.Template.{Template}
use Rattle.ale_macro.specs.declared.tally.Tally.{Tally}
use Rattle.ale_macro.specs.Templates.{TemplateData, TemplatesData, template_data, templates_of, of_type, variable, at, all, any, differs, path_equation, call, cells}
use Rattle.ale_macro.specs.Sizes.{Near, list_parts, parts_by, total_parts, each_parts, weighted, tallied, tallied_if, tallied_by, Counts}
use Rattle.ale_macro.proofs.Loops.{next_at}
use Rattle.ale_macro.proofs.Nearly.{counted_within, counted_one, counted_use, counted_member, weighted_none, weighted_next, weighted_put}

abbrev pub templates : List Template → TemplatesData
templates ts = templates_of (map template_data ts)

pub all_dropped : (ts : List Template) (i : ℕ) → length ts ≤ i → drop i ts ≡ []
all_dropped [] zero past = refl
all_dropped [] (suc i) past = refl
all_dropped (t ∷ ts) zero past = absurd (omega arith)
all_dropped (t ∷ ts) (suc i) past = all_dropped ts i (omega arith)

-- ---- parts of its own

-- so many of its own
abbrev pub Adds : ℕ → Tally → Tally → Type 0
Adds n old new = Near 100001 new.own (old.own + n) × (new.uses ≡ old.uses)

pub added : (n : ℕ) (old new : Tally) (xs : List ℕ) → Adds n old new → Near 100001 (tallied new xs) (tallied old xs + n)
added n old new xs adds =
    let own : Near 100001 new.own (old.own + n) = adds.0 in
    let same : weighted new.uses.items xs ≡ weighted old.uses.items xs = ap (λ u. weighted u.items xs) adds.1 in
    omega arith

pub as_long : (n : ℕ) (old new : Tally) → Adds n old new → length new.uses.items ≡ length old.uses.items
as_long n old new adds = ap (λ u. length u.items) adds.1

-- nothing so often
pub count_none : (table : List (Option Tally)) (whole : TemplateData) (t : ℕ) (tally : Tally) → t ≡ 0 → Counts table whole t tally tally
count_none table whole t tally e xs long =
    let z : t * parts_by (tallied_by table) xs whole ≡ 0 * parts_by (tallied_by table) xs whole = ap (λ n. n * parts_by (tallied_by table) xs whole) e in
    let y : 0 * parts_by (tallied_by table) xs whole ≡ 0 = omega arith in
    omega arith

-- one part
pub count_one : (table : List (Option Tally)) (whole : TemplateData) (t : ℕ) (old new : Tally) → ((xs : List ℕ) → parts_by (tallied_by table) xs whole ≡ 1) → Adds t old new → Counts table whole t old new
count_one table whole t old new one adds xs long =
    let a = added t old new xs adds in
    let e : t * parts_by (tallied_by table) xs whole ≡ t * 1 = ap (λ n. t * n) (one xs) in
    omega arith

-- a part, and what is in it
pub count_within : (table : List (Option Tally)) (whole inner : TemplateData) (t : ℕ) (old mid new : Tally) →
    ((xs : List ℕ) → parts_by (tallied_by table) xs whole ≡ suc (parts_by (tallied_by table) xs inner)) → Adds t old mid → Counts table inner t mid new → Counts table whole t old new
count_within table whole inner t old mid new is adds counts xs long =
    counted_within 100001 (tallied old xs) (tallied mid xs) (tallied new xs) t (parts_by (tallied_by table) xs inner) (added t old mid xs adds) (counts xs (long ∙ sym (as_long t old mid adds)))
    ∙ ap (λ n. min (tallied old xs + t * n) 100001) (sym (is xs))

-- two paths
pub count_paths : (table : List (Option Tally)) (whole : TemplateData) (p q : List ℕ) (t a b : ℕ) (old one two new : Tally) →
    ((xs : List ℕ) → parts_by (tallied_by table) xs whole ≡ suc (length p + length q)) →
    Near 100001 a (t * length p) → Near 100001 b (t * length q) → Adds t old one → Adds a one two → Adds b two new → Counts table whole t old new
count_paths table whole p q t a b old one two new is of_p of_q first second third xs long =
    let x = added t old one xs first in
    let y = added a one two xs second in
    let z = added b two new xs third in
    let e : t * suc (length p + length q) ≡ t * (length p + length q) + t = mul-suc t (length p + length q) in
    let f : t * (length p + length q) ≡ t * length p + t * length q = mul-add t (length p) (length q) in
    let g : t * parts_by (tallied_by table) xs whole ≡ t * suc (length p + length q) = ap (λ n. t * n) (is xs) in
    omega arith

-- ---- several

-- what is left of them
abbrev pub LeftToCount : List (Option Tally) → List Template → ℕ → TemplateData → Tally → Tally → Type 0
LeftToCount table left t whole old now =
    (xs : List ℕ) → length xs ≡ length old.uses.items →
    Near 100001 (tallied now xs + t * total_parts (tallied_by table) xs (templates left)) (tallied old xs + t * parts_by (tallied_by table) xs whole)

pub count_begins : (table : List (Option Tally)) (left : List Template) (whole : TemplateData) (t : ℕ) (old now : Tally) →
    ((xs : List ℕ) → parts_by (tallied_by table) xs whole ≡ suc (total_parts (tallied_by table) xs (templates left))) → Adds t old now → LeftToCount table left t whole old now
count_begins table left whole t old now is adds xs long =
    let s : ℕ = total_parts (tallied_by table) xs (templates left) in
    let a = added t old now xs adds in
    let e : t * suc (total_parts (tallied_by table) xs (templates left)) ≡ t * total_parts (tallied_by table) xs (templates left) + t = mul-suc t s in
    let f : t * parts_by (tallied_by table) xs whole ≡ t * suc (total_parts (tallied_by table) xs (templates left)) = ap (λ n. t * n) (is xs) in
    omega arith

pub count_goes_on : (table : List (Option Tally)) (ts : List Template) (i : ℕ) (x : Template) (whole : TemplateData) (t : ℕ) (old now new : Tally) →
    i < length ts → x ≡ get_or ts i x → length now.uses.items ≡ length old.uses.items → Counts table (template_data x) t now new →
    LeftToCount table (drop i ts) t whole old now → LeftToCount table (drop (i + 1) ts) t whole old new
count_goes_on table ts i x whole t old now new low is same counts left xs long =
    counted_one 100001 (tallied now xs) (tallied new xs) (tallied old xs + t * parts_by (tallied_by table) xs whole) t (parts_by (tallied_by table) xs (template_data x))
    (total_parts (tallied_by table) xs (templates (drop (i + 1) ts))) (counts xs (long ∙ sym same))
    (ap (λ ys. min (tallied now xs + t * total_parts (tallied_by table) xs (templates ys)) 100001) (sym (next_at ts i x low is)) ∙ left xs long)

pub count_ends : (table : List (Option Tally)) (ts : List Template) (i : ℕ) (whole : TemplateData) (t : ℕ) (old now : Tally) → length ts ≤ i →
    LeftToCount table (drop i ts) t whole old now → Counts table whole t old now
count_ends table ts i whole t old now past left xs long =
    let none : t * total_parts (tallied_by table) xs (templates (drop i ts)) ≡ t * 0 = ap (λ ys. t * total_parts (tallied_by table) xs (templates ys)) (all_dropped ts i past) in
    let all = left xs long in
    omega arith

-- ---- arguments, as often as they stand

abbrev pub LeftToUse : List (Option Tally) → List ℕ → List Template → ℕ → TemplateData → Tally → Tally → Type 0
LeftToUse table uses left t whole old now =
    (xs : List ℕ) → length xs ≡ length old.uses.items →
    Near 100001 (tallied now xs + t * weighted uses (each_parts (tallied_by table) xs (templates left))) (tallied old xs + t * parts_by (tallied_by table) xs whole)

pub use_begins : (table : List (Option Tally)) (called : Tally) (k m : ℕ) (args : List Template) (whole : TemplateData) (t q : ℕ) (old now : Tally) →
    whole ≡ call k m (templates args) → get_or table m None ≡ Some called → Near 100001 q (t * called.own) → Adds q old now → LeftToUse table called.uses.items args t whole old now
use_begins table called k m args whole t q old now is found own adds xs long =
    let ys : List ℕ = each_parts (tallied_by table) xs (templates args) in
    let a = added q old now xs adds in
    let e : parts_by (tallied_by table) xs whole ≡ called.own + weighted called.uses.items (each_parts (tallied_by table) xs (templates args)) =
    ap (parts_by (tallied_by table) xs) is ∙ ap (λ o. tallied_if o ys) found in
    let f : t * parts_by (tallied_by table) xs whole ≡ t * (called.own + weighted called.uses.items (each_parts (tallied_by table) xs (templates args))) = ap (λ n. t * n) e in
    let g : t * (called.own + weighted called.uses.items (each_parts (tallied_by table) xs (templates args))) ≡ t * called.own + t * weighted called.uses.items (each_parts (tallied_by table) xs (templates args)) =
    mul-add t called.own (weighted called.uses.items ys) in
    omega arith

pub use_goes_on : (table : List (Option Tally)) (uses : List ℕ) (ts : List Template) (i : ℕ) (x : Template) (whole : TemplateData) (t u n : ℕ) (old now new : Tally) →
    i < length ts → x ≡ get_or ts i x → u ≡ get_or uses i 0 → Near 100001 n (t * u) → length now.uses.items ≡ length old.uses.items → Counts table (template_data x) n now new →
    LeftToUse table (drop i uses) (drop i ts) t whole old now → LeftToUse table (drop (i + 1) uses) (drop (i + 1) ts) t whole old new
use_goes_on table uses ts i x whole t u n old now new low is often near same counts left xs long =
    let p : ℕ = parts_by (tallied_by table) xs (template_data x) in
    let ps : List ℕ = each_parts (tallied_by table) xs (templates (drop (i + 1) ts)) in
    counted_use 100001 (tallied now xs) (tallied new xs) (tallied old xs + t * parts_by (tallied_by table) xs whole) t u n p (weighted (drop (i + 1) uses) ps) near (counts xs (long ∙ sym same))
    (ap (λ v. min (tallied now xs + t * (v * p + weighted (drop (i + 1) uses) ps)) 100001) often
    ∙ (ap (λ w. min (tallied now xs + t * w) 100001) (sym (weighted_next uses i p ps))
    ∙ (ap (λ ys. min (tallied now xs + t * weighted (drop i uses) (each_parts (tallied_by table) xs (templates ys))) 100001) (sym (next_at ts i x low is)) ∙ left xs long)))

pub use_ends : (table : List (Option Tally)) (uses : List ℕ) (ts : List Template) (i : ℕ) (whole : TemplateData) (t : ℕ) (old now : Tally) → length ts ≤ i →
    LeftToUse table (drop i uses) (drop i ts) t whole old now → Counts table whole t old now
use_ends table uses ts i whole t old now past left xs long =
    let none : t * weighted (drop i uses) (each_parts (tallied_by table) xs (templates (drop i ts))) ≡ t * 0 =
    ap (λ ys. t * weighted (drop i uses) (each_parts (tallied_by table) xs (templates ys))) (all_dropped ts i past) ∙ ap (λ n. t * n) (weighted_none (drop i uses)) in
    let all = left xs long in
    omega arith

-- ---- members of a list

abbrev pub LeftToList : List (Option Tally) → List Template → TemplateData → ℕ → TemplateData → Tally → Tally → Type 0
LeftToList table left end t whole old now =
    (xs : List ℕ) → length xs ≡ length old.uses.items →
    Near 100001 (tallied now xs + t * list_parts (each_parts (tallied_by table) xs (templates left)) (parts_by (tallied_by table) xs end)) (tallied old xs + t * parts_by (tallied_by table) xs whole)

pub list_begins : (table : List (Option Tally)) (ts : List Template) (end whole : TemplateData) (t : ℕ) (old : Tally) → whole ≡ cells (templates ts) end → LeftToList table ts end t whole old old
list_begins table ts end whole t old is xs long = ap (λ d. min (tallied old xs + t * parts_by (tallied_by table) xs d) 100001) (sym is)

pub list_goes_on : (table : List (Option Tally)) (ts : List Template) (i : ℕ) (x : Template) (end whole : TemplateData) (t c : ℕ) (old now mid new : Tally) →
    i < length ts → x ≡ get_or ts i x → Near 100001 c (t * 4) → Adds c now mid → length now.uses.items ≡ length old.uses.items → Counts table (template_data x) t mid new →
    LeftToList table (drop i ts) end t whole old now → LeftToList table (drop (i + 1) ts) end t whole old new
list_goes_on table ts i x end whole t c old now mid new low is cell adds same counts left xs long =
    counted_member 100001 (tallied now xs) (tallied mid xs) (tallied new xs) (tallied old xs + t * parts_by (tallied_by table) xs whole) t c (parts_by (tallied_by table) xs (template_data x))
    (list_parts (each_parts (tallied_by table) xs (templates (drop (i + 1) ts))) (parts_by (tallied_by table) xs end)) cell (added c now mid xs adds)
    (counts xs (long ∙ (sym same ∙ sym (as_long c now mid adds))))
    (ap (λ ys. min (tallied now xs + t * list_parts (each_parts (tallied_by table) xs (templates ys)) (parts_by (tallied_by table) xs end)) 100001) (sym (next_at ts i x low is)) ∙ left xs long)

pub list_ends : (table : List (Option Tally)) (ts : List Template) (i : ℕ) (end whole : TemplateData) (t : ℕ) (old now new : Tally) → length ts ≤ i →
    length now.uses.items ≡ length old.uses.items → Counts table end t now new → LeftToList table (drop i ts) end t whole old now → Counts table whole t old new
list_ends table ts i end whole t old now new past same counts left xs long =
    counts xs (long ∙ sym same)
    ∙ (ap (λ ys. min (tallied now xs + t * list_parts (each_parts (tallied_by table) xs (templates ys)) (parts_by (tallied_by table) xs end)) 100001) (sym (all_dropped ts i past))
    ∙ left xs long)

-- ---- a variable

beyond : (xs : List ℕ) (v d : ℕ) → length xs ≤ v → get_or xs v d ≡ d
beyond [] v d past = refl
beyond (x ∷ xs) zero d past = absurd (omega arith)
beyond (x ∷ xs) (suc v) d past = beyond xs v d (omega arith)

pub put_past : (old new : Tally) (v t : ℕ) → length old.uses.items ≤ v → Adds t old new → (xs : List ℕ) → length xs ≡ length old.uses.items →
    Near 100001 (tallied new xs) (tallied old xs + t * get_or xs v 1)
put_past old new v t past adds xs long =
    let a = added t old new xs adds in
    let e : t * get_or xs v 1 ≡ t * 1 = ap (λ n. t * n) (beyond xs v 1 (omega arith)) in
    omega arith

pub put_in : (old new : Tally) (v t c : ℕ) → v < length old.uses.items → new.own ≡ old.own → new.uses.items ≡ set old.uses.items v c → Near 100001 c (get_or old.uses.items v 0 + t) →
    (xs : List ℕ) → length xs ≡ length old.uses.items → Near 100001 (tallied new xs) (tallied old xs + t * get_or xs v 1)
put_in old new v t c low own uses near xs long =
    let w : Near 100001 (weighted (set old.uses.items v c) xs) (weighted old.uses.items xs + t * get_or xs v 1) = weighted_put 100001 old.uses.items v c t xs low long near in
    let e : weighted new.uses.items xs ≡ weighted (set old.uses.items v c) xs = ap (λ u. weighted u xs) uses in
    omega arith

any_else : (cs : List ℕ) (i d e : ℕ) → i < length cs → get_or cs i d ≡ get_or cs i e
any_else [] i d e low = absurd (omega arith)
any_else (c ∷ cs) zero d e low = refl
any_else (c ∷ cs) (suc i) d e low = any_else cs i d e (omega arith)

pub put_near : (cs : List ℕ) (i x t n : ℕ) → i < length cs → x ≡ get_or cs i x → Near 100001 n (x + t) → Near 100001 n (get_or cs i 0 + t)
put_near cs i x t n low is near = near ∙ ap (λ z. min (z + t) 100001) (is ∙ any_else cs i x 0 low)

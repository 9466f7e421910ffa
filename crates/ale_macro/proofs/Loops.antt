-- Steps of loops over templates.
use Rattle.std.proofs.Common.{◌≡◌, ℕ, suc, ◌+◌, ◌<◌, List, [], ◌∷◌, ◌++◌, length, map, get_or, drop, drop-cons, add-one, append_assoc, refl, sym, ap, ◌∙◌}
use Rattle.ale_macro.specs.declared.template.Template.{Template}
use Rattle.ale_macro.specs.declared.macros.Macro.{Macro}
use Rattle.ale_macro.specs.Templates.{template_data, templates_of, macro_data}
use Rattle.ale_macro.specs.Calls.{calls_in, calls_in_all, pairs, calls_from}

-- the next entry, and what is left behind it
pub next_at : {A : Type 0} (xs : List A) (i : ℕ) (x : A) → i < length xs → x ≡ get_or xs i x → drop i xs ≡ x ∷ drop (i + 1) xs
next_at xs i x low is =
    drop-cons xs i x low ∙ (ap (λ y. y ∷ drop (suc i) xs) (sym is) ∙ ap (λ j. x ∷ drop j xs) (sym (add-one i)))

pairs_append : (m : ℕ) (ks js : List ℕ) → pairs m (ks ++ js) ≡ pairs m ks ++ pairs m js
pairs_append m [] js = refl
pairs_append m (k ∷ ks) js = ap (λ ps. (m, k) ∷ ps) (pairs_append m ks js)

-- some of the calls are pushed
pub pushed : (m : ℕ) (ks js : List ℕ) (old new target : List (ℕ × ℕ)) → new ≡ old ++ pairs m ks → old ++ pairs m (ks ++ js) ≡ target → new ++ pairs m js ≡ target
pushed m ks js old new target step all =
    ap (λ ps. ps ++ pairs m js) step ∙ (append_assoc old (pairs m ks) (pairs m js) ∙ (ap (λ ps. old ++ ps) (sym (pairs_append m ks js)) ∙ all))

abbrev pub calls_left : List Template → List ℕ
calls_left ts = calls_in_all (templates_of (map template_data ts))

-- those of the next template are pushed
pub pushed_next : (xs : List Template) (i : ℕ) (x : Template) (m : ℕ) (old new target : List (ℕ × ℕ)) → i < length xs → x ≡ get_or xs i x →
    new ≡ old ++ pairs m (calls_in (template_data x)) → old ++ pairs m (calls_left (drop i xs)) ≡ target → new ++ pairs m (calls_left (drop (i + 1) xs)) ≡ target
pushed_next xs i x m old new target low is step all =
    pushed m (calls_in (template_data x)) (calls_left (drop (i + 1) xs)) old new target step
    (ap (λ ys. old ++ pairs m (calls_left ys)) (sym (next_at xs i x low is)) ∙ all)

-- the same where something follows
pub pushed_before : (xs : List Template) (i : ℕ) (x : Template) (m : ℕ) (behind : List ℕ) (old new target : List (ℕ × ℕ)) → i < length xs → x ≡ get_or xs i x →
    new ≡ old ++ pairs m (calls_in (template_data x)) → old ++ pairs m (calls_left (drop i xs) ++ behind) ≡ target → new ++ pairs m (calls_left (drop (i + 1) xs) ++ behind) ≡ target
pushed_before xs i x m behind old new target low is step all =
    pushed m (calls_in (template_data x)) (calls_left (drop (i + 1) xs) ++ behind) old new target step
    (ap (λ ks. old ++ pairs m ks) (sym (append_assoc (calls_in (template_data x)) (calls_left (drop (i + 1) xs)) behind))
    ∙ (ap (λ ys. old ++ pairs m (calls_left ys ++ behind)) (sym (next_at xs i x low is)) ∙ all))

-- those of the next macro are pushed
pub pushed_macro : (xs : List Macro) (i : ℕ) (x : Macro) (old new target : List (ℕ × ℕ)) → i < length xs → x ≡ get_or xs i x →
    new ≡ old ++ pairs i (calls_in (template_data x.body)) → old ++ calls_from i (map macro_data (drop i xs)) ≡ target →
    new ++ calls_from (i + 1) (map macro_data (drop (i + 1) xs)) ≡ target
pushed_macro xs i x old new target low is step all =
    let rest : List Macro = drop (i + 1) xs in
    ap (λ ps. ps ++ calls_from (i + 1) (map macro_data rest)) step
    ∙ (append_assoc old (pairs i (calls_in (template_data x.body))) (calls_from (i + 1) (map macro_data rest))
    ∙ (ap (λ j. old ++ (pairs i (calls_in (template_data x.body)) ++ calls_from j (map macro_data rest))) (add-one i)
    ∙ (ap (λ ys. old ++ calls_from i (map macro_data ys)) (sym (next_at xs i x low is)) ∙ all)))

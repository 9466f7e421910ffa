-- Lemmas on the closure's working lists, as the functions that they stand for.
use Rattle.std.proofs.Common.{◌≡◌, ℕ, zero, suc, ◌<◌, ◌≤◌, min, max, eqb, List, [], ◌∷◌, ◌++◌, map, length, set, get_or, length-append, ◌⊎◌, inl, inr, refl, sym, ap, ◌∙◌, subst, arith, if◌then◌else◌}
use Rattle.std.proofs.Math.ListN.{get_or-append}
use Rattle.std.proofs.Math.Seq.{get_or-append_seam}
use Rattle.std.proofs.lemmas.List.{length-map, get_or-set_same, get_or-set_other, get_or_past, get_or_default, same_lists}
use Rattle.std.proofs.lemmas.Bool.{eq-eqb, ne_eqb}
use Rattle.ale_declared.specs.Lists.{Has, upto}
use Rattle.ale_graph.specs.Classes.{merged}
use Rattle.ale_graph.specs.Types.{set_at}
use Rattle.ale_graph.specs.Drafts.{class_in, type_in, values_in, renamed}
use Rattle.ale_graph.specs.Joining.{merge}
use Rattle.ale_graph.proofs.Lists.{length_upto, get_upto}
use Rattle.ale_graph.proofs.Structures.{get_has}

pub get_map : {A B : Type 0} (f : A → B) (xs : List A) (n : ℕ) (d : A) (e : B) → n < length xs → get_or (map f xs) n e ≡ f (get_or xs n d)
get_map f [] n d e lt = absurd (omega arith)
get_map f (x ∷ xs) zero d e lt = refl
get_map f (x ∷ xs) (suc n) d e lt = get_map f xs n d e (omega arith)

-- a merge of two class numbers of the list
pub class_merged : (xs : List ℕ) (a b : ℕ) → a < length xs → b < length xs → class_in (merge a b xs) ≡ merged (a, b) (class_in xs)
class_merged xs a b la lb = λ i. λ k. at k (grind arith) i
  where
    at : (k : ℕ) → (k < length xs) ⊎ (length xs ≤ k) → class_in (merge a b xs) k ≡ merged (a, b) (class_in xs) k
    at k (inl lt) = get_map (renamed (max a b) (min a b)) xs k k k lt
    at k (inr le) =
        let len = length-map xs (renamed (max a b) (min a b)) in
        let far : k ≡ max a b → ⊥ = λ e. omega arith in
        let old : class_in xs k ≡ k = get_or_past xs k k le in
        let new : class_in (merge a b xs) k ≡ k = get_or_past (merge a b xs) k k (omega arith) in
        new ∙ sym (ap (λ (z : ℕ). if eqb z (max a b) then min a b else z) old ∙ subst (λ t. (if t then min a b else k) ≡ k) (sym (ne_eqb k (max a b) far)) refl)

pub class_pushed : (xs : List ℕ) → class_in (xs ++ length xs ∷ []) ≡ class_in xs
class_pushed xs = λ i. λ k. at k (grind arith) i
  where
    at : (k : ℕ) → (k < length xs) ⊎ (k ≡ length xs) ⊎ (length xs < k) → class_in (xs ++ length xs ∷ []) k ≡ class_in xs k
    at k (inl lt) = get_or-append xs (length xs ∷ []) k k lt
    at k (inr (inl e)) = ap (λ z. get_or (xs ++ length xs ∷ []) z z) e ∙ get_or-append_seam xs (length xs) [] (length xs) ∙ sym (ap (λ z. get_or xs z z) e ∙ get_or_past xs (length xs) (length xs) (omega arith))
    at k (inr (inr l)) =
        let len = length-append xs (length xs ∷ []) in
        get_or_past (xs ++ length xs ∷ []) k k (omega arith) ∙ sym (get_or_past xs k k (omega arith))

pub class_upto : (n : ℕ) → class_in (upto n) ≡ (λ a. a)
class_upto n = λ i. λ k. at k (grind arith) i
  where
    at : (k : ℕ) → (k < n) ⊎ (n ≤ k) → class_in (upto n) k ≡ k
    at k (inl lt) = get_upto n k k lt
    at k (inr le) = let len = length_upto n in get_or_past (upto n) k k (omega arith)

pub map_class : (xs : List ℕ) → map (class_in xs) (upto (length xs)) ≡ xs
map_class xs = same_lists (map (class_in xs) (upto (length xs))) xs (length-map (upto (length xs)) (class_in xs) ∙ length_upto (length xs)) (λ k d lt. at k d lt)
  where
    at : (k d : ℕ) → k < length (map (class_in xs) (upto (length xs))) → get_or (map (class_in xs) (upto (length xs))) k d ≡ get_or xs k d
    at k d lt =
        let len = length-map (upto (length xs)) (class_in xs) in
        let all = length_upto (length xs) in
        let below : k < length xs = omega arith in
        get_map (class_in xs) (upto (length xs)) k 0 d (omega arith) ∙ ap (class_in xs) (get_upto (length xs) k 0 below) ∙ get_or_default xs k k d below

pub type_pushed : (xs : List ℕ) (t : ℕ) → type_in (xs ++ t ∷ []) ≡ set_at (length xs) t (type_in xs)
type_pushed xs t = λ i. λ k. at k (grind arith) i
  where
    at : (k : ℕ) → (k < length xs) ⊎ (k ≡ length xs) ⊎ (length xs < k) → type_in (xs ++ t ∷ []) k ≡ set_at (length xs) t (type_in xs) k
    at k (inl lt) =
        let ne : k ≡ length xs → ⊥ = λ e. omega arith in
        get_or-append xs (t ∷ []) 0 k lt ∙ sym (subst (λ z. (if z then t else type_in xs k) ≡ type_in xs k) (sym (ne_eqb k (length xs) ne)) refl)
    at k (inr (inl e)) =
        ap (λ z. get_or (xs ++ t ∷ []) z 0) e ∙ get_or-append_seam xs t [] 0
        ∙ sym (subst (λ z. (if z then t else type_in xs k) ≡ t) (sym (eq-eqb k (length xs) e)) refl)
    at k (inr (inr l)) =
        let len = length-append xs (t ∷ []) in
        let ne : k ≡ length xs → ⊥ = λ e. omega arith in
        get_or_past (xs ++ t ∷ []) k 0 (omega arith)
        ∙ sym (subst (λ z. (if z then t else type_in xs k) ≡ type_in xs k) (sym (ne_eqb k (length xs) ne)) refl ∙ get_or_past xs k 0 (omega arith))

pub type_set : (xs : List ℕ) (c v : ℕ) → c < length xs → type_in (set xs c v) ≡ set_at c v (type_in xs)
type_set xs c v lt = λ i. λ k. at k (grind arith) i
  where
    at : (k : ℕ) → (k ≡ c) ⊎ (k ≡ c → ⊥) → type_in (set xs c v) k ≡ set_at c v (type_in xs) k
    at k (inl e) = ap (λ z. get_or (set xs c v) z 0) e ∙ get_or-set_same xs c v 0 lt ∙ sym (subst (λ z. (if z then v else type_in xs k) ≡ v) (sym (eq-eqb k c e)) refl)
    at k (inr n) = get_or-set_other xs c k v 0 n ∙ sym (subst (λ z. (if z then v else type_in xs k) ≡ type_in xs k) (sym (ne_eqb k c n)) refl)

pub values_set : (xs : List (List (ℕ × ℕ))) (c : ℕ) (v : List (ℕ × ℕ)) → c < length xs → values_in (set xs c v) c ≡ v
values_set xs c v lt = get_or-set_same xs c v [] lt

pub values_other : (xs : List (List (ℕ × ℕ))) (c : ℕ) (v : List (ℕ × ℕ)) (k : ℕ) → (k ≡ c → ⊥) → values_in (set xs c v) k ≡ values_in xs k
values_other xs c v k n = get_or-set_other xs c k v [] n

pub values_pushed : (xs : List (List (ℕ × ℕ))) (k : ℕ) → values_in (xs ++ [] ∷ []) k ≡ values_in xs k
values_pushed xs k = go (grind arith)
  where
    go : (k < length xs) ⊎ (k ≡ length xs) ⊎ (length xs < k) → values_in (xs ++ [] ∷ []) k ≡ values_in xs k
    go (inl lt) = get_or-append xs ([] ∷ []) [] k lt
    go (inr (inl e)) = ap (λ z. get_or (xs ++ [] ∷ []) z []) e ∙ get_or-append_seam xs [] [] [] ∙ sym (get_or_past xs k [] (omega arith))
    go (inr (inr l)) =
        let len = length-append xs ([] ∷ []) in
        get_or_past (xs ++ [] ∷ []) k [] (omega arith) ∙ sym (get_or_past xs k [] (omega arith))

-- what is read from a list is in it
pub read_has : {A : Type 0} (xs : List A) (i : ℕ) (x : A) → i < length xs → x ≡ get_or xs i x → Has xs x
read_has xs i x lt e = subst (Has xs) (sym e) (get_has xs i x lt)

-- A stack with one more element at its end has one more at its front, read from the top.
use Rattle.std.proofs.Common.{◌≡◌, ℕ, suc, ◌+◌, ◌-◌, ◌<◌, ◌≤◌, List, [], ◌∷◌, ◌++◌, map, get_or, take, drop, length, refl, sym, ap, ◌∙◌, add-one, drop-cons, arith}
use Rattle.std.proofs.lemmas.List.{drop-drop, length-drop, take-append-drop}
use Rattle.ale_logic.specs.declared.desc.Desc.{Desc}
use Rattle.ale_logic.specs.Descriptions.{description, descriptions_of}
use Rattle.ale_logic.specs.DescriptionKids.{items_at}
use Rattle.ale_logic.specs.States as plain
use Rattle.ale_search.specs.declared.state.Item.{Item}
use Rattle.ale_search.specs.Views.{turned, item_of, agenda_of}

pub turned_push : {A B : Type 0} (view : A → B) (xs : List A) (x : A) (rest : List B) → turned view (xs ++ x ∷ []) rest ≡ view x ∷ turned view xs rest
turned_push view [] x rest = refl
turned_push view (y ∷ xs) x rest = turned_push view xs x (view y ∷ rest)

pub length-turned : {A B : Type 0} (view : A → B) (xs : List A) (rest : List B) → length (turned view xs rest) ≡ length xs + length rest
length-turned view [] rest = omega arith
length-turned view (x ∷ xs) rest = let ih = length-turned view xs (view x ∷ rest) in omega arith

-- the description at place k goes before those behind it
pub pushed_at : (e n : ℕ) (ds : List Desc) (k : ℕ) (d : Desc) (item : Item) (items : List Item) (rest : List plain.Item) → k < length ds → d ≡ get_or ds k d → item_of item ≡ plain.on n (plain.holds e (description d)) → agenda_of items ≡ items_at e n (descriptions_of (map description (drop (k + 1) ds))) ++ rest → agenda_of (items ++ item ∷ []) ≡ items_at e n (descriptions_of (map description (drop k ds))) ++ rest
pushed_at e n ds k d item items rest low at is so =
    let cut : drop k ds ≡ d ∷ drop (k + 1) ds = drop-cons ds k d low ∙ ap (λ x. x ∷ drop (suc k) ds) (sym at) ∙ ap (λ i. d ∷ drop i ds) (sym (add-one k)) in
    let top : agenda_of (items ++ item ∷ []) ≡ item_of item ∷ agenda_of items = turned_push item_of items item [] in
    top ∙ ap (λ x. x ∷ agenda_of items) is ∙ ap (λ z. plain.on n (plain.holds e (description d)) ∷ z) so ∙ ap (λ z. items_at e n (descriptions_of (map description z)) ++ rest) (sym cut)

turned_both : {A B : Type 0} (view : A → B) (xs ys : List A) (rest : List B) → turned view (xs ++ ys) rest ≡ turned view ys (turned view xs rest)
turned_both view [] ys rest = refl
turned_both view (x ∷ xs) ys rest = turned_both view xs ys (view x ∷ rest)

-- what stood before
dropped : {A B : Type 0} (view : A → B) (xs : List A) (rest : List B) → drop (length xs) (turned view xs rest) ≡ rest
dropped view [] rest = refl
dropped view (x ∷ xs) rest =
    let ih = dropped view xs (view x ∷ rest) in
    ap (λ n. drop n (turned view xs (view x ∷ rest))) (add-one' (length xs)) ∙ sym (drop-drop 1 (length xs) (turned view xs (view x ∷ rest))) ∙ ap (drop 1) ih
  where
    add-one' : (n : ℕ) → suc n ≡ n + 1
    add-one' n = omega arith

-- the last n of the stack, read from the top, are its first n
pub last_turned : {A B : Type 0} (view : A → B) (xs : List A) (n : ℕ) → drop (length (turned view xs []) - n) (turned view xs []) ≡ turned view (take n xs) []
last_turned view xs n =
    let size : length (turned view xs []) - n ≡ length (drop n xs) = let l = length-turned view xs [] in let d = length-drop n xs in omega arith in
    ap (λ k. drop k (turned view xs [])) size
    ∙ ap (λ z. drop (length (drop n xs)) z) (ap (λ z. turned view z []) (sym (take-append-drop n xs)) ∙ turned_both view (take n xs) (drop n xs) [])
    ∙ dropped view (drop n xs) (turned view (take n xs) [])

pub empty_agenda : (items : List Item) → length items ≡ 0 → agenda_of items ≡ []
empty_agenda [] e = refl
empty_agenda (x ∷ items) e = absurd (omega arith)

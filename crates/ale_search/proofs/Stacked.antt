-- A stack with one more element at its end has one more at its front, read from the top.
use Rattle.std.proofs.Common.{◌≡◌, ℕ, suc, ◌+◌, ◌-◌, List, [], ◌∷◌, ◌++◌, take, drop, length, refl, sym, ap, ◌∙◌, arith, append_assoc}
use Rattle.std.proofs.lemmas.List.{drop-drop, length-drop, take-append-drop, map-append}
use Rattle.ale_visit.specs.declared.state.State.{State}
use Rattle.ale_visit.specs.Views.{turned, state_of, states_of}
use Rattle.ale_visit.proofs.Turned.{turned_push}
use Rattle.ale_search.specs.Waiting.{waiting_of}

length_turned : {A B : Type 0} (view : A → B) (xs : List A) (rest : List B) → length (turned view xs rest) ≡ length xs + length rest
length_turned view [] rest = omega arith
length_turned view (x ∷ xs) rest = let ih = length_turned view xs (view x ∷ rest) in omega arith

pub length_waiting : (xs : List State) → length (waiting_of xs) ≡ length xs
length_waiting xs = let l = length_turned state_of xs [] in omega arith

turned_both : {A B : Type 0} (view : A → B) (xs ys : List A) (rest : List B) → turned view (xs ++ ys) rest ≡ turned view ys (turned view xs rest)
turned_both view [] ys rest = refl
turned_both view (x ∷ xs) ys rest = turned_both view xs ys (view x ∷ rest)

-- what stood before
dropped : {A B : Type 0} (view : A → B) (xs : List A) (rest : List B) → drop (length xs) (turned view xs rest) ≡ rest
dropped view [] rest = refl
dropped view (x ∷ xs) rest =
    let ih = dropped view xs (view x ∷ rest) in
    ap (λ n. drop n (turned view xs (view x ∷ rest))) (one_more (length xs)) ∙ sym (drop-drop 1 (length xs) (turned view xs (view x ∷ rest))) ∙ ap (drop 1) ih
  where
    one_more : (n : ℕ) → suc n ≡ n + 1
    one_more n = omega arith

-- the last n of what waits, in the order of visits, are the first n of the stack
pub last_waiting : (xs : List State) (n : ℕ) → drop (length (waiting_of xs) - n) (waiting_of xs) ≡ waiting_of (take n xs)
last_waiting xs n =
    let size : length (waiting_of xs) - n ≡ length (drop n xs) = let l = length_turned state_of xs [] in let d = length-drop n xs in omega arith in
    ap (λ k. drop k (waiting_of xs)) size
    ∙ ap (λ z. drop (length (drop n xs)) z) (ap waiting_of (sym (take-append-drop n xs)) ∙ turned_both state_of (take n xs) (drop n xs) [])
    ∙ dropped state_of (drop n xs) (waiting_of (take n xs))

-- one state moves from the end of the list to the top of the stack
pub put_one : (xs : List State) (x : State) (ws : List State) → states_of xs ++ waiting_of (ws ++ x ∷ []) ≡ states_of (xs ++ x ∷ []) ++ waiting_of ws
put_one xs x ws =
    ap (λ z. states_of xs ++ z) (turned_push state_of ws x [])
    ∙ sym (append_assoc (states_of xs) (state_of x ∷ []) (waiting_of ws))
    ∙ ap (λ z. z ++ waiting_of ws) (sym (map-append state_of xs (x ∷ [])))

-- the last of the stack waits first
pub first_waiting : (below : List State) (x : State) → waiting_of (below ++ x ∷ []) ≡ state_of x ∷ waiting_of below
first_waiting below x = turned_push state_of below x []

-- The kids of a disjunction, one after another.
use Rattle.std.proofs.Common.{◌≡◌, ℕ, zero, suc, ◌+◌, ◌<◌, List, [], ◌∷◌, ◌++◌, map, take, get_or, length, refl, sym, ap, ◌∙◌, add-one, arith}
use Rattle.std.proofs.Math.Seq.{take-suc}
use Rattle.std.proofs.lemmas.List.{map-append}
use Rattle.ale_logic.specs.declared.desc.Desc.{Desc}
use Rattle.ale_logic.specs.Descriptions.{Description, description, descriptions_of}
use Rattle.ale_logic.specs.DescriptionKids.{alternatives}
use Rattle.ale_logic.specs.States as plain
use Rattle.ale_logic.specs.States.{holds, on, doing, chosen, numbered}
use Rattle.ale_search.specs.declared.state.State.{State}
use Rattle.ale_search.specs.Views.{state_of, states_of}

-- the states for these descriptions
abbrev pub those : plain.State → ℕ → ℕ → List Desc → List plain.State
those st e n ds = alternatives e n (descriptions_of (map description ds)) st

-- one more, with the next number
more : (st : plain.State) (e n k : ℕ) (ds : List Desc) (d : Desc) → numbered k (those st e n (ds ++ d ∷ [])) ≡ numbered k (those st e n ds) ++ chosen (k + length ds) (doing (on n (holds e (description d))) st) ∷ []
more st e n k [] d = ap (λ (i : ℕ). chosen i (doing (on n (holds e (description d))) st) ∷ []) (omega arith)
more st e n k (x ∷ ds) d =
    let first : plain.State = chosen k (doing (on n (holds e (description x))) st) in
    let last : ℕ → plain.State = λ i. chosen i (doing (on n (holds e (description d))) st) in
    let number : suc k + length ds ≡ k + suc (length ds) = omega arith in
    ap (λ z. first ∷ z) (more st e n (suc k) ds d) ∙ ap (λ (i : ℕ). first ∷ (numbered (suc k) (those st e n ds) ++ last i ∷ [])) number

-- one more state is that of one more description
pub one_more : (st : plain.State) (e n : ℕ) (ds : List Desc) (d : Desc) (kids : List State) (kid : State) → states_of kids ≡ numbered 0 (those st e n ds) → state_of kid ≡ chosen (length ds) (doing (on n (holds e (description d))) st) → states_of (kids ++ kid ∷ []) ≡ numbered 0 (those st e n (ds ++ d ∷ []))
one_more st e n ds d kids kid so is =
    let number : 0 + length ds ≡ length ds = omega arith in
    map-append state_of kids (kid ∷ [])
    ∙ ap (λ z. z ++ state_of kid ∷ []) so
    ∙ ap (λ z. numbered 0 (those st e n ds) ++ z ∷ []) is
    ∙ ap (λ (i : ℕ). numbered 0 (those st e n ds) ++ chosen i (doing (on n (holds e (description d))) st) ∷ []) (sym number)
    ∙ sym (more st e n 0 ds d)

-- the first k and the next are the first k + 1
pub up_to : (ds : List Desc) (k : ℕ) (d : Desc) → k < length ds → d ≡ get_or ds k d → take k ds ++ d ∷ [] ≡ take (k + 1) ds
up_to ds k d low is = ap (λ z. take k ds ++ z ∷ []) is ∙ sym (take-suc ds k d low) ∙ ap (λ i. take i ds) (sym (add-one k))

-- A stack with one more element at its end has one more at its front, read from the top.
use Rattle.std.proofs.Common.{◌≡◌, ℕ, zero, suc, ◌+◌, ◌-◌, ◌<◌, ◌≤◌, List, [], ◌∷◌, ◌++◌, map, get_or, drop, length, refl, sym, ap, ◌∙◌, add-one, drop-cons, arith}
use Rattle.ale_logic.specs.declared.desc.Desc.{Desc}
use Rattle.ale_logic.specs.Descriptions.{Descriptions, none, more, how_many, description, descriptions_of}
use Rattle.ale_logic.specs.DescriptionKids.{items_at}
use Rattle.ale_logic.specs.GoalKids.{numbers, items_each, goals}
use Rattle.ale_logic.specs.States as plain
use Rattle.ale_program.specs.declared.goal.Goal.{Goal}
use Rattle.ale_program.specs.Goals.{goal_data, goals_of}
use Rattle.ale_visit.specs.declared.items.Item.{Item}
use Rattle.ale_visit.specs.Views.{turned, item_of, agenda_of}

pub turned_push : {A B : Type 0} (view : A → B) (xs : List A) (x : A) (rest : List B) → turned view (xs ++ x ∷ []) rest ≡ view x ∷ turned view xs rest
turned_push view [] x rest = refl
turned_push view (y ∷ xs) x rest = turned_push view xs x (view y ∷ rest)

-- the item of place k goes before those behind it
pushed : {A : Type 0} (items_of : List A → List plain.Item) (one : A → plain.Item) → ((x : A) (xs : List A) → items_of (x ∷ xs) ≡ one x ∷ items_of xs) → (ds : List A) (k : ℕ) (d : A) (item : Item) (items : List Item) (rest : List plain.Item) → k < length ds → d ≡ get_or ds k d → item_of item ≡ one d → agenda_of items ≡ items_of (drop (k + 1) ds) ++ rest → agenda_of (items ++ item ∷ []) ≡ items_of (drop k ds) ++ rest
pushed items_of one step ds k d item items rest low at is so =
    let cut : drop k ds ≡ d ∷ drop (k + 1) ds = drop-cons ds k d low ∙ ap (λ x. x ∷ drop (suc k) ds) (sym at) ∙ ap (λ i. d ∷ drop i ds) (sym (add-one k)) in
    let top : agenda_of (items ++ item ∷ []) ≡ item_of item ∷ agenda_of items = turned_push item_of items item [] in
    top ∙ ap (λ x. x ∷ agenda_of items) is ∙ ap (λ z. one d ∷ z) so ∙ ap (λ z. z ++ rest) (sym (ap items_of cut ∙ step d (drop (k + 1) ds)))

-- the description at place k
pub pushed_at : (e n : ℕ) (ds : List Desc) (k : ℕ) (d : Desc) (item : Item) (items : List Item) (rest : List plain.Item) → k < length ds → d ≡ get_or ds k d → item_of item ≡ plain.on n (plain.holds e (description d)) → agenda_of items ≡ items_at e n (descriptions_of (map description (drop (k + 1) ds))) ++ rest → agenda_of (items ++ item ∷ []) ≡ items_at e n (descriptions_of (map description (drop k ds))) ++ rest
pushed_at e n ds k d item items rest low at is so =
    pushed (λ (xs : List Desc). items_at e n (descriptions_of (map description xs))) (λ (x : Desc). plain.on n (plain.holds e (description x))) (λ x xs. refl) ds k d item items rest low at is so

-- the goal at place k
pub pushed_goal : (e c : ℕ) (gs : List Goal) (k : ℕ) (g : Goal) (item : Item) (items : List Item) (rest : List plain.Item) → k < length gs → g ≡ get_or gs k g → item_of item ≡ plain.derive e c (goal_data g) → agenda_of items ≡ goals e c (goals_of (map goal_data (drop (k + 1) gs))) ++ rest → agenda_of (items ++ item ∷ []) ≡ goals e c (goals_of (map goal_data (drop k gs))) ++ rest
pushed_goal e c gs k g item items rest low at is so =
    pushed (λ (xs : List Goal). goals e c (goals_of (map goal_data xs))) (λ (x : Goal). plain.derive e c (goal_data x)) (λ x xs. refl) gs k g item items rest low at is so

-- the descriptions from place k on, at the nodes from there on
abbrev pub from_place : ℕ → List Desc → ℕ → ℕ → ℕ → List plain.Item
from_place e ds first count k = items_each e (descriptions_of (map description (drop k ds))) (numbers (first + k) (count - k))

-- there are no more nodes, or no more descriptions
no_nodes : (e n : ℕ) (ds : Descriptions) → items_each e ds (numbers n 0) ≡ []
no_nodes e n none = refl
no_nodes e n (more d ds) = refl

pub none_from : (e : ℕ) (ds : List Desc) (first count k : ℕ) → count ≤ k → from_place e ds first count k ≡ []
none_from e ds first count k full =
    let out : count - k ≡ 0 = omega arith in
    ap (λ n. items_each e (descriptions_of (map description (drop k ds))) (numbers (first + k) n)) out ∙ no_nodes e (first + k) (descriptions_of (map description (drop k ds)))

drop_past : {A : Type 0} (xs : List A) (k : ℕ) → length xs ≤ k → drop k xs ≡ []
drop_past [] zero low = refl
drop_past [] (suc k) low = refl
drop_past (x ∷ xs) zero low = absurd (omega arith)
drop_past (x ∷ xs) (suc k) low = drop_past xs k (omega arith)

pub none_described : (e : ℕ) (ds : List Desc) (first count k : ℕ) → length ds ≤ k → from_place e ds first count k ≡ []
none_described e ds first count k low =
    ap (λ (z : List Desc). items_each e (descriptions_of (map description z)) (numbers (first + k) (count - k))) (drop_past ds k low)

pub from_start : (e : ℕ) (ds : List Desc) (first count k : ℕ) → k ≤ 0 → from_place e ds first count k ≡ items_each e (descriptions_of (map description ds)) (numbers first count)
from_start e ds first count zero low =
    let at : first + 0 ≡ first = omega arith in
    let all : count - 0 ≡ count = omega arith in
    ap (λ (z : ℕ). items_each e (descriptions_of (map description ds)) (numbers z (count - 0))) at ∙ ap (λ (z : ℕ). items_each e (descriptions_of (map description ds)) (numbers first z)) all
from_start e ds first count (suc k) low = absurd (omega arith)

-- one more at the front
pub each_at : (e first count : ℕ) (ds : List Desc) (k : ℕ) (d : Desc) (item : Item) (items : List Item) (rest : List plain.Item) → k < length ds → k < count → d ≡ get_or ds k d → item_of item ≡ plain.on (first + k) (plain.holds e (description d)) → agenda_of items ≡ from_place e ds first count (k + 1) ++ rest → agenda_of (items ++ item ∷ []) ≡ from_place e ds first count k ++ rest
each_at e first count ds k d item items rest low some at is so =
    let cut : drop k ds ≡ d ∷ drop (k + 1) ds = drop-cons ds k d low ∙ ap (λ x. x ∷ drop (suc k) ds) (sym at) ∙ ap (λ i. d ∷ drop i ds) (sym (add-one k)) in
    let top : agenda_of (items ++ item ∷ []) ≡ item_of item ∷ agenda_of items = turned_push item_of items item [] in
    let left : count - k ≡ suc (count - (k + 1)) = omega arith in
    let next : suc (first + k) ≡ first + (k + 1) = omega arith in
    let split : from_place e ds first count k ≡ plain.on (first + k) (plain.holds e (description d)) ∷ from_place e ds first count (k + 1) =
    ap (λ (z : List Desc). items_each e (descriptions_of (map description z)) (numbers (first + k) (count - k))) cut
    ∙ ap (λ (z : ℕ). items_each e (descriptions_of (map description (d ∷ drop (k + 1) ds))) (numbers (first + k) z)) left
    ∙ ap (λ (z : ℕ). plain.on (first + k) (plain.holds e (description d)) ∷ items_each e (descriptions_of (map description (drop (k + 1) ds))) (numbers z (count - (k + 1)))) next in
    top ∙ ap (λ x. x ∷ agenda_of items) is ∙ ap (λ z. plain.on (first + k) (plain.holds e (description d)) ∷ z) so ∙ ap (λ z. z ++ rest) (sym split)

pub how_many_described : (ds : List Desc) → how_many (descriptions_of (map description ds)) ≡ length ds
how_many_described [] = refl
how_many_described (d ∷ ds) = ap suc (how_many_described ds)

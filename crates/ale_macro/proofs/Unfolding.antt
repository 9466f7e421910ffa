-- What holds of macros along an order in which each calls only those before it; and that a call means what its body means.
use Rattle.std.proofs.Common.{◌≡◌, ℕ, zero, suc, ◌+◌, ◌<◌, ◌≤◌, ◌⊎◌, List, [], ◌∷◌, length, refl, sym, ap, ◌∙◌, subst, inl, inr, arith}
use Rattle.ale_relation.specs.Has.{Has}
use Rattle.ale_declared.proofs.ListLemmas.{Has-append_left, Has-append_right}
use Rattle.ale_logic.specs.Programs.{ListTypes}
use Rattle.ale_order.specs.Orders as order
use Rattle.ale_order.specs.Orders.{IsOrder}
use Rattle.ale_macro.specs.Templates as template
use Rattle.ale_macro.specs.Templates.{TemplateData, TemplatesData, MacroData, macro_at}
use Rattle.ale_macro.specs.Expansions.{Expansion, at, all, any, differs, expansions_of}
use Rattle.ale_macro.specs.Expanding.{LibraryData, Meaning, list_of, expanded, all_expanded, called, meaning}
use Rattle.ale_macro.specs.Calls.{calls_in, calls_in_all, calls_of, IsLibrary}
use Rattle.ale_macro.specs.Laws.{CallsUnfold}
use Rattle.ale_macro.specs.Resting.{called_by}
use Rattle.ale_macro.proofs.Fewer.{order_no_more}

-- what holds of each macro where it holds of those that it calls holds of all
pub along : (calls : List (ℕ × ℕ)) (P : ℕ → Type 0) (known rest : List ℕ) → order.CallsKnown calls known rest →
    ((m : ℕ) → Has rest m → ((k : ℕ) → Has {A = ℕ × ℕ} calls (m, k) → P k) → P m) →
    ((k : ℕ) → Has known k → P k) → (m : ℕ) → Has rest m → P m
along calls P known [] after step before m there = absurd there
along calls P known (x ∷ rest) after step before m there =
    let here : P x = step x (inl refl) (λ k c. before k (after.0 k c)) in
    let known_then : (k : ℕ) → (k ≡ x) ⊎ Has known k → P k = λ k q. elim q [ inl e ↦ subst P (sym e) here | inr h ↦ before k h ] in
    elim there [
      | inl e ↦ subst P (sym e) here
      | inr h ↦ along calls P (x ∷ known) rest after.1 (λ n there. step n (inr there)) known_then m h
    ]

-- what holds of each macro of a library where it holds of those that its body calls holds of all
pub each_macro : (library : LibraryData) → IsLibrary library → (P : ℕ → Type 0) →
    ((m : ℕ) → m < length library.macros → ((k : ℕ) → Has (calls_in (macro_at library.macros m).body) k → P k) → P m) →
    (m : ℕ) → m < length library.macros → P m
each_macro library is P step m low =
    along (calls_of library.macros) P [] is.order is.in_order.after
    (λ n there ok. let within : n < length library.macros = (is.in_order.each n).0 there in
    step n within (λ k h. ok k (called_by library.macros n k h)))
    (λ k h. absurd h) m ((is.in_order.each m).1 low)

-- calls mean the same
abbrev pub Same : Meaning → Meaning → ℕ → Type 0
Same calls others k = (path : List ℕ) (args : List Expansion) → calls k path args ≡ others k path args

-- a template stands for the same where its calls mean the same
mutual
  pub expanded_same : (l : ListTypes) (calls others : Meaning) (path : List ℕ) (args : List Expansion) (t : TemplateData) →
      ((k : ℕ) → Has (calls_in t) k → Same calls others k) → expanded l calls path args t ≡ expanded l others path args t
  expanded_same l calls others path args (template.of_type t) ok = refl
  expanded_same l calls others path args (template.variable v) ok = refl
  expanded_same l calls others path args (template.at f t) ok = ap (at f) (expanded_same l calls others path args t ok)
  expanded_same l calls others path args (template.all ts) ok = ap (λ es. all (expansions_of es)) (all_same l calls others path args ts ok)
  expanded_same l calls others path args (template.any ts) ok = ap (λ es. any (expansions_of es)) (all_same l calls others path args ts ok)
  expanded_same l calls others path args (template.differs t) ok = ap differs (expanded_same l calls others path args t ok)
  expanded_same l calls others path args (template.path_equation p q) ok = refl
  expanded_same l calls others path args (template.call k m ts) ok =
      ap (calls m (k ∷ path)) (all_same l calls others path args ts (λ n h. ok n (inr h)))
      ∙ ok m (inl refl) (k ∷ path) (all_expanded l others path args ts)
  expanded_same l calls others path args (template.cells ts t) ok =
      ap (λ es. list_of l es (expanded l calls path args t)) (all_same l calls others path args ts (λ n h. ok n (Has-append_left (calls_in_all ts) (calls_in t) n h)))
      ∙ ap (list_of l (all_expanded l others path args ts)) (expanded_same l calls others path args t (λ n h. ok n (Has-append_right (calls_in_all ts) (calls_in t) n h)))

  all_same : (l : ListTypes) (calls others : Meaning) (path : List ℕ) (args : List Expansion) (ts : TemplatesData) →
      ((k : ℕ) → Has (calls_in_all ts) k → Same calls others k) → all_expanded l calls path args ts ≡ all_expanded l others path args ts
  all_same l calls others path args template.none ok = refl
  all_same l calls others path args (template.more t ts) ok =
      ap (λ e. e ∷ all_expanded l calls path args ts) (expanded_same l calls others path args t (λ n h. ok n (Has-append_left (calls_in t) (calls_in_all ts) n h)))
      ∙ ap (λ es. expanded l others path args t ∷ es) (all_same l calls others path args ts (λ n h. ok n (Has-append_right (calls_in t) (calls_in_all ts) n h)))

module _ (l : ListTypes) (ms : List MacroData) where
  -- more depth changes nothing
  abbrev Deep : ℕ → ℕ → Type 0
  Deep d k = (n : ℕ) → d ≤ n → Same (called l ms n) (called l ms (suc n)) k

  -- so it is of a macro, one deeper, where it is of those that it calls
  deeper : (d m : ℕ) → ((k : ℕ) → Has (calls_in (macro_at ms m).body) k → Deep d k) → Deep (suc d) m
  deeper d m ok zero low path args = absurd (omega arith)
  deeper d m ok (suc n) low path args =
      expanded_same l (called l ms n) (called l ms (suc n)) path args (macro_at ms m).body (λ k h. ok k h n (omega arith))

  wider : (d e k : ℕ) → d ≤ e → Deep d k → Deep e k
  wider d e k less ok n low = ok n (omega arith)

  abbrev Unfolds : ℕ → Type 0
  Unfolds m = (path : List ℕ) (args : List Expansion) → meaning l ms m path args ≡ expanded l (meaning l ms) path args (macro_at ms m).body

  -- where as many macros stand before it as are known
  unfold_one : (d m : ℕ) → d < length ms → ((k : ℕ) → Has (calls_in (macro_at ms m).body) k → Deep d k) → Unfolds m
  unfold_one d m low ok = go (length ms) low
    where
      go : (n : ℕ) → d < n → (path : List ℕ) (args : List Expansion) → called l ms n m path args ≡ expanded l (called l ms n) path args (macro_at ms m).body
      go zero less path args = absurd (omega arith)
      go (suc n) less path args =
          expanded_same l (called l ms n) (called l ms (suc n)) path args (macro_at ms m).body (λ k h. ok k h n (omega arith))

  unfold_all : (known rest : List ℕ) → length known + length rest ≤ length ms → ((m : ℕ) → Has rest m → m < length ms) → order.CallsKnown (calls_of ms) known rest →
      ((k : ℕ) → Has known k → Deep (length known) k) → (m : ℕ) → Has rest m → Unfolds m
  unfold_all known [] few each after ok m there = absurd there
  unfold_all known (x ∷ rest) few each after ok m there =
      let below : (k : ℕ) → Has (calls_in (macro_at ms x).body) k → Deep (length known) k =
      λ k h. ok k (after.0 k (called_by ms x k h)) in
      let ok_then : (k : ℕ) → (k ≡ x) ⊎ Has known k → Deep (suc (length known)) k =
      λ k q. elim q [ inl e ↦ subst (Deep (suc (length known))) (sym e) (deeper (length known) x below) | inr h ↦ wider (length known) (suc (length known)) k (omega arith) (ok k h) ] in
      elim there [
        | inl e ↦ subst Unfolds (sym e) (unfold_one (length known) x (omega arith) below)
        | inr h ↦ unfold_all (x ∷ known) rest (omega arith) (λ n t. each n (inr t)) after.1 ok_then m h
      ]

pub unfolds : CallsUnfold
unfolds library is m low =
    let few : length {A = ℕ} [] + length is.order ≤ length library.macros =
    (let h = order_no_more (calls_of library.macros) (length library.macros) is.order is.in_order in omega arith) in
    unfold_all library.lists library.macros [] is.order few (λ n h. (is.in_order.each n).0 h) is.in_order.after (λ k h. absurd h) m ((is.in_order.each m).1 low)

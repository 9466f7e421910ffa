-- Which macros lead back to themselves: the first of them, and none in a library.
use Rattle.std.proofs.Common.{◌≡◌, ℕ, zero, suc, ◌+◌, ◌<◌, ◌⊎◌, Bool, true, false, Option, Some, None, List, [], ◌∷◌, ◌++◌, length, refl, sym, ap, ◌∙◌, subst, inl, inr, arith}
use Rattle.std.proofs.lemmas.Bool.{cases_Bool, both_ways}
use Rattle.ale_relation.specs.Has.{Has}
use Rattle.ale_relation.specs.Paths.{Reaches, here, along, Leads}
use Rattle.ale_relation.proofs.Paths.{reaches_trans}
use Rattle.ale_declared.specs.Lists.{first, upto}
use Rattle.ale_declared.proofs.ListLemmas.{Has-append_cases, upto_below, upto_has, first_has, first_none, first-append_some, first_upto, first_upto_none}
use Rattle.ale_hierarchy.specs.Order.{leads_through}
use Rattle.ale_hierarchy.proofs.PathLemmas.{Through, edge, step, leads_through_to, leads_through_from, Leads_through}
use Rattle.ale_order.specs.Orders.{IsCyclic, IsFirstCyclic, CallsKnown}
use Rattle.ale_macro.specs.Templates.{MacroData}
use Rattle.ale_macro.specs.Expanding.{LibraryData}
use Rattle.ale_macro.specs.Calls.{calls_in, pairs, calls_from, calls_of, IsLibrary}
use Rattle.ale_naming.specs.Rounds.{first_cyclic}

-- only macros that are there call
pairs_from : (n : ℕ) (ks : List ℕ) (m k : ℕ) → Has (pairs n ks) (m, k) → m ≡ n
pairs_from n [] m k h = absurd h
pairs_from n (j ∷ ks) m k (inl e) = ap (λ (p : ℕ × ℕ). p.0) e
pairs_from n (j ∷ ks) m k (inr h) = pairs_from n ks m k h

calls_within : (n : ℕ) (ms : List MacroData) (m k : ℕ) → Has (calls_from n ms) (m, k) → m < n + length ms
calls_within n [] m k h = absurd h
calls_within n (x ∷ xs) m k h = elim (Has-append_cases (pairs n (calls_in x.body)) (calls_from (suc n) xs) (m, k) h) [
  | inl own ↦ let same : m ≡ n = pairs_from n (calls_in x.body) m k own in omega arith
  | inr there ↦ let low : m < suc n + length xs = calls_within (suc n) xs m k there in omega arith
]

caller_below : (ms : List MacroData) (m k : ℕ) → Has (calls_of ms) (m, k) → m < length ms
caller_below ms m k h = let low : m < 0 + length ms = calls_within 0 ms m k h in omega arith

pub cyclic_below : (ms : List MacroData) (m : ℕ) → IsCyclic (calls_of ms) m → m < length ms
cyclic_below ms m c = caller_below ms m c.0 c.1

-- the test finds those that lead back to themselves
through : (ms : List MacroData) (a k b : ℕ) → Has (calls_of ms) (a, k) → Reaches (calls_of ms) k b → Through (calls_of ms) (length ms) a b
through ms a k b e (here _) = edge a k e
through ms a k b e (along _ j _ f r) = step a k b (caller_below ms k j f) e (through ms k j b f r)

abbrev test : List MacroData → ℕ → Bool
test ms m = leads_through (calls_of ms) (length ms) m m

test_from : (ms : List MacroData) (m : ℕ) → IsCyclic (calls_of ms) m → test ms m ≡ true
test_from ms m c = leads_through_from (calls_of ms) (length ms) m m (through ms m c.0 m c.1 c.2)

test_to : (ms : List MacroData) (m : ℕ) → test ms m ≡ true → IsCyclic (calls_of ms) m
test_to ms m t = Leads_through (calls_of ms) (length ms) m m (leads_through_to (calls_of ms) (length ms) m m t)

test_not : (ms : List MacroData) (m : ℕ) → (IsCyclic (calls_of ms) m → ⊥) → test ms m ≡ false
test_not ms m free = elim (cases_Bool (test ms m)) [ inl t ↦ absurd (free (test_to ms m t)) | inr f ↦ f ]

-- what is found first is the least
least : (passes : ℕ → Bool) (n c k : ℕ) → first passes (upto n) ≡ Some c → k < c → passes k ≡ false
least passes zero c k e low = absurd cc
least passes (suc n) c k e low = go (λ q. least passes n c k q low) (first passes (upto n)) refl
  where
    go : (first passes (upto n) ≡ Some c → passes k ≡ false) → (o : Option ℕ) → first passes (upto n) ≡ o → passes k ≡ false
    go before None q = let high : c < suc n = upto_below (suc n) c (first_has passes (upto (suc n)) c e).0 in first_none passes (upto n) k q (upto_has n k (omega arith))
    go before (Some j) q =
        let there : first passes (upto n ++ n ∷ []) ≡ Some j = first-append_some passes (upto n) (n ∷ []) j q in
        let same : j ≡ c = cc in
        before (q ∙ ap Some same)

-- the first macro that leads back to itself, where there is one
abbrev pub IsTheFirst : List (ℕ × ℕ) → Option ℕ → Type 0
IsTheFirst calls None = (m : ℕ) → IsCyclic calls m → ⊥
IsTheFirst calls (Some c) = IsFirstCyclic calls c

pub first_is : (ms : List MacroData) → IsTheFirst (calls_of ms) (first_cyclic ms)
first_is ms = go (first_cyclic ms) refl
  where
    go : (o : Option ℕ) → first_cyclic ms ≡ o → IsTheFirst (calls_of ms) o
    go None e = λ m c. both_ways (test ms m) (first_none (test ms) (upto (length ms)) m e (upto_has (length ms) m (cyclic_below ms m c))) (test_from ms m c)
    go (Some c) e = record {
      cyclic = test_to ms c (first_has (test ms) (upto (length ms)) c e).1;
      before = λ k low cycle. both_ways (test ms k) (least (test ms) (length ms) c k e low) (test_from ms k cycle);
    }

pub cyclic_is_first : (ms : List MacroData) (c : ℕ) → IsFirstCyclic (calls_of ms) c → first_cyclic ms ≡ Some c
cyclic_is_first ms c is = first_upto (test ms) (length ms) c (cyclic_below ms c is.cyclic) (test_from ms c is.cyclic) (λ i low. test_not ms i (is.before i low))

-- no macro of a library leads back to itself
follows : (calls : List (ℕ × ℕ)) (P : ℕ → Type 0) (known rest : List ℕ) → CallsKnown calls known rest →
    ((m : ℕ) → ((k : ℕ) → Has {A = ℕ × ℕ} calls (m, k) → P k) → P m) → ((k : ℕ) → Has known k → P k) → (m : ℕ) → Has rest m → P m
follows calls P known [] after onward before m there = absurd there
follows calls P known (x ∷ rest) after onward before m there =
    let now : P x = onward x (λ k c. before k (after.0 k c)) in
    let then : (k : ℕ) → (k ≡ x) ⊎ Has known k → P k = λ k q. elim q [ inl e ↦ subst P (sym e) now | inr h ↦ before k h ] in
    elim there [ inl e ↦ subst P (sym e) now | inr h ↦ follows calls P (x ∷ known) rest after.1 onward then m h ]

pub library_has_none : (library : LibraryData) → IsLibrary library → (m : ℕ) → IsCyclic (calls_of library.macros) m → ⊥
library_has_none library is m cycle =
    follows calls (λ k. IsCyclic calls k → ⊥) [] is.order is.in_order.after turned (λ k h. absurd h) m ((is.in_order.each m).1 (cyclic_below library.macros m cycle)) cycle
  where
    calls : List (ℕ × ℕ)
    calls = calls_of library.macros

    turned : (n : ℕ) → ((k : ℕ) → Has {A = ℕ × ℕ} calls (n, k) → IsCyclic calls k → ⊥) → IsCyclic calls n → ⊥
    turned n free c = free c.0 c.1 (back c.0 c.2)
      where
        back : (k : ℕ) → Reaches calls k n → Leads calls k c.0
        back k (here _) = (c.0, c.1, here c.0)
        back k (along _ j _ e r) = (j, e, reaches_trans calls j n c.0 r (along n c.0 c.0 c.1 (here c.0)))

pub library_first : (library : LibraryData) → IsLibrary library → first_cyclic library.macros ≡ None
library_first library is = first_upto_none (test library.macros) (length library.macros) (λ i low. test_not library.macros i (library_has_none library is i))

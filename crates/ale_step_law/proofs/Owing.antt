-- What is owed at a closure: a constraint above the type of a class; and what it means that nothing is.
use Rattle.std.proofs.Common.{◌≡◌, ℕ, zero, suc, ◌+◌, ◌<◌, Bool, true, false, ◌&&◌, ◌||◌, not, eqb, if◌then◌else◌, List, [], ◌∷◌, ◌++◌, get_or, map, ◌⊎◌, inl, inr, refl, sym, ap, ◌∙◌, subst, arith, Option, Some, None}
use Rattle.std.proofs.lemmas.Bool.{and_parts, eqb-true, eq-eqb}
use Rattle.ale_declared.specs.Lists.{Has}
use Rattle.ale_hierarchy.specs.Hierarchy.{Hierarchy, Above}
use Rattle.ale_graph.specs.declared.closed.Closed.{Closed}
use Rattle.ale_graph.specs.Structures.{type_of}
use Rattle.ale_graph.specs.Closure.{class_of, node_of, place, classes_below}
use Rattle.ale_graph.specs.Universal.{IsClosure}
use Rattle.ale_graph.proofs.Lists.{has_left, has_right, has_either, some_one, none_some}
use Rattle.ale_graph.proofs.Settled.{some_found, some_none}
use Rattle.ale_logic.specs.Programs.{Constraint}
use Rattle.ale_logic.specs.Models.{constraint_at}
use Rattle.ale_logic.specs.Words.{Grammar}
use Rattle.ale_logic.specs.States.{State}
use Rattle.ale_logic.specs.Visits.{is_imposed, Owed, owed_by, owed}
use Rattle.ale_logic.specs.Steps.{IsAllImposed}

below_from : (class : ℕ → ℕ) (n a : ℕ) → Has (classes_below class n) a → a < n
below_from class zero a k = absurd k
below_from class (suc n) a k = go (below_from class n a) (eqb (class n) n) k
  where
    last : (Has (classes_below class n) a → a < n) → Has (classes_below class n) a ⊎ Has (n ∷ []) a → a < suc n
    last ih (inl p) = let low = ih p in omega arith
    last ih (inr (inl e)) = omega arith
    last ih (inr (inr p)) = absurd p

    go : (Has (classes_below class n) a → a < n) → (b : Bool) → Has (if b then classes_below class n ++ n ∷ [] else classes_below class n) a → a < suc n
    go ih true p = last ih (has_either (classes_below class n) (n ∷ []) a p)
    go ih false p = let low = ih p in omega arith

below_has : (class : ℕ → ℕ) (n a : ℕ) → a < n → class a ≡ a → Has (classes_below class n) a
below_has class zero a low own = absurd (omega arith)
below_has class (suc n) a low own = go (below_has class n a) (eqb (class n) n) refl (grind arith)
  where
    go : (a < n → class a ≡ a → Has (classes_below class n) a) → (b : Bool) → eqb (class n) n ≡ b → (a < n) ⊎ (a ≡ n) → Has (if b then classes_below class n ++ n ∷ [] else classes_below class n) a
    go ih true e (inl less) = has_left (classes_below class n) (n ∷ []) a (ih less own)
    go ih true e (inr same) = has_right (classes_below class n) (n ∷ []) a (inl same)
    go ih false e (inl less) = ih less own
    go ih false e (inr same) =
        let is : class n ≡ n = ap class (sym same) ∙ own ∙ same in
        let clash : true ≡ false = sym (eq-eqb (class n) n is) ∙ e in absurd cc

-- the constraint with this number among several
abbrev at_number : List Constraint → ℕ → Option Constraint
at_number xs j = get_or (map Some xs) j None

-- what is owed is a constraint above the type of a class
pub record IsOwed (gr : Grammar) (c : Closed) (o : Owed) : Type 0 where
  pub below : o.class < c.next
  pub numbered : constraint_at gr.program o.number ≡ Some o.constraint
  pub has : Has gr.program.constraints o.constraint
  pub above : Above gr.signature o.constraint.of (type_of c.graph (node_of c o.class))

record IsOwedBy (h : Hierarchy) (c : Closed) (a k : ℕ) (xs : List Constraint) (o : Owed) : Type 0 where
  pub class : o.class ≡ a
  pub number : ℕ
  pub is : o.number ≡ k + number
  pub numbered : at_number xs number ≡ Some o.constraint
  pub has : Has xs o.constraint
  pub above : Above h o.constraint.of (type_of c.graph (node_of c a))

module _ (h : Hierarchy) (c : Closed) (imposed : List (ℕ × ℕ)) (a : ℕ) where
  owed_by_is : (k : ℕ) (xs : List Constraint) (o : Owed) → owed_by h c imposed a k xs ≡ Some o → IsOwedBy h c a k xs o
  owed_by_is k [] o e = absurd (none_some e)
  owed_by_is k (x ∷ xs) o e = go (owed_by_is (suc k) xs o) (h.is_above x.of (type_of c.graph (node_of c a)) && not (is_imposed (class_of c) imposed a k)) refl e
    where
      go : (owed_by h c imposed a (suc k) xs ≡ Some o → IsOwedBy h c a (suc k) xs o) → (b : Bool) → (h.is_above x.of (type_of c.graph (node_of c a)) && not (is_imposed (class_of c) imposed a k)) ≡ b →
          (if b then Some (record { class = a; number = k; constraint = x }) else owed_by h c imposed a (suc k) xs) ≡ Some o → IsOwedBy h c a k (x ∷ xs) o
      go ih true t q =
          let here : record { class = a; number = k; constraint = x } ≡ o = some_one q in
          subst (λ (z : Owed). IsOwedBy h c a k (x ∷ xs) z) here
          (record { class = refl; number = 0; is = omega arith; numbered = refl; has = inl refl; above = (and_parts (h.is_above x.of (type_of c.graph (node_of c a))) (not (is_imposed (class_of c) imposed a k)) t).0 })
      go ih false t q =
          let r = ih q in
          let is = r.is in
          record { class = r.class; number = suc r.number; is = omega arith; numbered = r.numbered; has = inr r.has; above = r.above }

  -- where nothing is owed, each constraint above the type was imposed
  not_owed : (k : ℕ) (xs : List Constraint) → owed_by h c imposed a k xs ≡ None → (j : ℕ) (x : Constraint) → at_number xs j ≡ Some x → Above h x.of (type_of c.graph (node_of c a)) → is_imposed (class_of c) imposed a (k + j) ≡ true
  not_owed k [] e j x there above = absurd (past j there)
    where
      past : (j : ℕ) → at_number [] j ≡ Some x → ⊥
      past zero q = none_some q
      past (suc j) q = none_some q
  not_owed k (y ∷ ys) e j x there above = go (λ q. not_owed (suc k) ys q) (h.is_above y.of (type_of c.graph (node_of c a)) && not (is_imposed (class_of c) imposed a k)) refl e j there
    where
      here : (up given : Bool) → (up && not given) ≡ false → up ≡ true → given ≡ true
      here true true t u = refl
      here true false t u = absurd cc
      here false given t u = absurd cc

      go : (owed_by h c imposed a (suc k) ys ≡ None → (i : ℕ) (z : Constraint) → at_number ys i ≡ Some z → Above h z.of (type_of c.graph (node_of c a)) → is_imposed (class_of c) imposed a (suc k + i) ≡ true) →
          (b : Bool) → (h.is_above y.of (type_of c.graph (node_of c a)) && not (is_imposed (class_of c) imposed a k)) ≡ b →
          (if b then Some (record { class = a; number = k; constraint = y }) else owed_by h c imposed a (suc k) ys) ≡ None → (i : ℕ) → at_number (y ∷ ys) i ≡ Some x → is_imposed (class_of c) imposed a (k + i) ≡ true
      go ih true t q i num = absurd (none_some (sym q))
      go ih false t q zero num =
          let same : y ≡ x = some_one num in
          let up : h.is_above y.of (type_of c.graph (node_of c a)) ≡ true = ap (λ (z : Constraint). h.is_above z.of (type_of c.graph (node_of c a))) same ∙ above in
          let zero_is : k + 0 ≡ k = omega arith in
          ap (is_imposed (class_of c) imposed a) zero_is ∙ here (h.is_above y.of (type_of c.graph (node_of c a))) (is_imposed (class_of c) imposed a k) t up
      go ih false t q (suc i) num =
          let next : k + suc i ≡ suc k + i = omega arith in
          ap (is_imposed (class_of c) imposed a) next ∙ ih q i x num above

imposed_there : (class : ℕ → ℕ) (ps : List (ℕ × ℕ)) (a k : ℕ) → is_imposed class ps a k ≡ true → (m : ℕ) × Has ps (m, k) × (class m ≡ a)
imposed_there class [] a k e = absurd cc
imposed_there class (p ∷ ps) a k e = go (imposed_there class ps a k) (eqb (class p.0) a && eqb p.1 k) refl e
  where
    go : (is_imposed class ps a k ≡ true → (m : ℕ) × Has ps (m, k) × (class m ≡ a)) → (b : Bool) → (eqb (class p.0) a && eqb p.1 k) ≡ b → (b || is_imposed class ps a k) ≡ true → (m : ℕ) × Has (p ∷ ps) (m, k) × (class m ≡ a)
    go ih true t q =
        let r = and_parts (eqb (class p.0) a) (eqb p.1 k) t in
        let number : p.1 ≡ k = eqb-true p.1 k r.1 in
        let pair : (p.0, k) ≡ p = ap (λ z. (p.0, z)) (sym number) in
        (p.0, inl pair, eqb-true (class p.0) a r.0)
    go ih false t q = let r = ih q in (r.0, inr r.1, r.2)

pub owed_is : (gr : Grammar) (c : Closed) (imposed : List (ℕ × ℕ)) (o : Owed) → owed gr c imposed ≡ Some o → IsOwed gr c o
owed_is gr c imposed o e =
    let f = some_found (λ a. owed_by gr.signature c imposed a 0 gr.program.constraints) (classes_below (class_of c) c.next) o e in
    let a : ℕ = f.0 in
    let r = owed_by_is gr.signature c imposed a 0 gr.program.constraints o f.2 in
    let low = below_from (class_of c) c.next a f.1 in
    let class = r.class in
    let is : o.number ≡ r.number = let i = r.is in omega arith in
    record {
      below = omega arith;
      numbered = ap (constraint_at gr.program) is ∙ r.numbered;
      has = r.has;
      above = subst (λ z. Above gr.signature o.constraint.of (type_of c.graph (node_of c z))) (sym class) r.above;
    }

pub nothing_owed : (gr : Grammar) (st : State) (c : Closed) → IsClosure gr.signature st.facts st.next c → owed gr c st.imposed ≡ None → IsAllImposed gr (record { closed = c; state = st })
nothing_owed gr st c k e n number x low there above =
    let at_node = k.onto n low in
    let a : ℕ = at_node.0 in
    let not_due = some_none (λ b. owed_by gr.signature c st.imposed b 0 gr.program.constraints) (classes_below (class_of c) c.next) a e (below_has (class_of c) c.next a at_node.1 at_node.2) in
    let up : Above gr.signature x.of (type_of c.graph (node_of c a)) = subst (λ z. Above gr.signature x.of (type_of c.graph z)) (sym at_node.3) above in
    let is : 0 + number ≡ number = omega arith in
    let imposed = imposed_there (class_of c) st.imposed a number (ap (is_imposed (class_of c) st.imposed a) (sym is) ∙ not_owed gr.signature c st.imposed a 0 gr.program.constraints not_due number x there up) in
    let same : node_of c imposed.0 ≡ node_of c a = ap (place (class_of c)) (imposed.2 ∙ sym at_node.2) in
    (imposed.0, imposed.1, same ∙ at_node.3)

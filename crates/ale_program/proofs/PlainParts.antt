-- A program is inside the fragment where each of its parts is.
use Rattle.std.proofs.Common.{inl, inr, refl, sym, subst, ℕ, zero, suc, List, [], ◌∷◌, map, get_or}
use Rattle.ale_declared.specs.Lists.{Has}
use Rattle.ale_logic.specs.Goals.{IsPlain}
use Rattle.ale_logic.specs.Programs as plain
use Rattle.ale_logic.specs.Programs.{goal_of}
use Rattle.ale_logic.specs.Fitting.{IsPlainElement, IsPlainProgram}
use Rattle.ale_program.specs.Views.{clause_data, clauses_data, constraint_data, lex_rule_data, element_data, rule_data, program}
use Rattle.ale_program.specs.Fragment.{Each, IsPlainPred, IsPlainRule, HasPlainClauses, HasPlainRules}
use Rattle.ale_program.specs.declared.clause.Pred.{Pred}
use Rattle.ale_program.specs.declared.element.Rule.{Rule}
use Rattle.ale_program.specs.declared.parts.Parts.{Parts}

-- what holds of the image of each element holds of each image
each_has : {A B : Type 0} (f : A → B) (P : B → Type 0) (xs : List A) (y : B) → Each (λ x. P (f x)) xs → Has (map f xs) y → P y
each_has f P [] y e h = absurd h
each_has f P (x ∷ xs) y e (inl same) = subst P (sym same) e.0
each_has f P (x ∷ xs) y e (inr h) = each_has f P xs y e.1 h

each_from : {A B : Type 0} (f : A → B) (P : B → Type 0) (xs : List A) → ((y : B) → Has (map f xs) y → P y) → Each (λ x. P (f x)) xs
each_from f P [] h = tt
each_from f P (x ∷ xs) h = (h (f x) (inl refl), each_from f P xs (λ y k. h y (inr k)))

-- the clauses of each predicate, by its number
clauses_have : (ps : List Pred) (p : ℕ) (c : plain.Clause) → Each IsPlainPred ps → Has (get_or (map clauses_data ps) p []) c → IsPlain c.body
clauses_have [] p c e h = absurd h
clauses_have (q ∷ qs) zero c e h = each_has clause_data (λ x. IsPlain x.body) q.clauses c e.0 h
clauses_have (q ∷ qs) (suc p) c e h = clauses_have qs p c e.1 h

clauses_from : (ps : List Pred) → ((p : ℕ) (c : plain.Clause) → Has (get_or (map clauses_data ps) p []) c → IsPlain c.body) → Each IsPlainPred ps
clauses_from [] h = tt
clauses_from (q ∷ qs) h = (each_from clause_data (λ x. IsPlain x.body) q.clauses (h zero), clauses_from qs (λ p c k. h (suc p) c k))

rules_have : (rs : List Rule) (r : plain.Rule) (e : plain.Element) → Each IsPlainRule rs → Has (map rule_data rs) r → Has r.elements e → IsPlainElement e
rules_have [] r e a h k = absurd h
rules_have (q ∷ qs) r e a (inl same) k = each_has element_data IsPlainElement q.elements e a.0 (subst (λ (x : plain.Rule). Has x.elements e) same k)
rules_have (q ∷ qs) r e a (inr h) k = rules_have qs r e a.1 h k

rules_from : (rs : List Rule) → ((r : plain.Rule) → Has (map rule_data rs) r → (e : plain.Element) → Has r.elements e → IsPlainElement e) → Each IsPlainRule rs
rules_from [] h = tt
rules_from (q ∷ qs) h = (each_from element_data IsPlainElement q.elements (h (rule_data q) (inl refl)), rules_from qs (λ r k. h r (inr k)))

pub plain_from : (p : Parts) → HasPlainClauses p → HasPlainRules p → IsPlainProgram (program p)
plain_from p a b = record {
  clauses = λ n c h. clauses_have p.preds n c a.0 h;
  constraints = λ c h. each_has constraint_data (λ x. IsPlain (goal_of x.goal)) p.constraints c a.1 h;
  rules = λ r h e k. rules_have p.rules r e b.1 h k;
  lex_rules = λ r h. each_has lex_rule_data (λ x. IsPlain (goal_of x.goal)) p.lex_rules r b.0 h;
}

pub plain_clauses : (p : Parts) → IsPlainProgram (program p) → HasPlainClauses p
plain_clauses p w =
    (clauses_from p.preds w.clauses, each_from constraint_data (λ x. IsPlain (goal_of x.goal)) p.constraints w.constraints)

pub plain_rules : (p : Parts) → IsPlainProgram (program p) → HasPlainRules p
plain_rules p w =
    (each_from lex_rule_data (λ x. IsPlain (goal_of x.goal)) p.lex_rules w.lex_rules, rules_from p.rules w.rules)

-- What a part gives tells which part it is; so what holds of all parts holds of each that gives something.
use Rattle.std.proofs.Common.{◌≡◌, ℕ, zero, suc, Bool, true, false, List, [], ◌∷◌, map, refl, sym, ap, ◌∙◌, subst, inl, inr}
use Rattle.std.specs.Prelude.{get_or}
use Rattle.std.specs.List.{flat_map}
use Rattle.ale_relation.specs.Has.{Has}
use Rattle.ale_declared.specs.Names.{same_name}
use Rattle.ale_declared.proofs.ListLemmas.{flat_map_has}
use Rattle.ale_declared.proofs.NumberLemmas.{same_name_to}
use Rattle.ale_logic.specs.Programs.{Clause, Constraint, WordDeclaration, EmptyDeclaration, LexicalRule, Rule}
use Rattle.ale_grammar.specs.Programs.{Part, adds_clause, adds_constraint, adds_word, adds_empty, adds_lex_rule, adds_rule, sets_semantics, sets_lex_depth, sets_chain_length, adds_nothing, constraint_in, word_in, empty_in, lex_rule_in, rule_in, semantics_in, clause_in, if_of}

pub constraint_told : (q : Part) (a : Constraint) → Has (constraint_in q) a → q ≡ adds_constraint a
constraint_told (adds_constraint x) a (inl e) = ap adds_constraint (sym e)
constraint_told (adds_constraint x) a (inr has) = absurd has
constraint_told (adds_clause k x) a has = absurd has
constraint_told (adds_word x) a has = absurd has
constraint_told (adds_empty x) a has = absurd has
constraint_told (adds_lex_rule x) a has = absurd has
constraint_told (adds_rule x) a has = absurd has
constraint_told (sets_semantics x) a has = absurd has
constraint_told (sets_lex_depth x) a has = absurd has
constraint_told (sets_chain_length x) a has = absurd has
constraint_told adds_nothing a has = absurd has

pub word_told : (q : Part) (a : WordDeclaration) → Has (word_in q) a → q ≡ adds_word a
word_told (adds_word x) a (inl e) = ap adds_word (sym e)
word_told (adds_word x) a (inr has) = absurd has
word_told (adds_clause k x) a has = absurd has
word_told (adds_constraint x) a has = absurd has
word_told (adds_empty x) a has = absurd has
word_told (adds_lex_rule x) a has = absurd has
word_told (adds_rule x) a has = absurd has
word_told (sets_semantics x) a has = absurd has
word_told (sets_lex_depth x) a has = absurd has
word_told (sets_chain_length x) a has = absurd has
word_told adds_nothing a has = absurd has

pub empty_told : (q : Part) (a : EmptyDeclaration) → Has (empty_in q) a → q ≡ adds_empty a
empty_told (adds_empty x) a (inl e) = ap adds_empty (sym e)
empty_told (adds_empty x) a (inr has) = absurd has
empty_told (adds_clause k x) a has = absurd has
empty_told (adds_constraint x) a has = absurd has
empty_told (adds_word x) a has = absurd has
empty_told (adds_lex_rule x) a has = absurd has
empty_told (adds_rule x) a has = absurd has
empty_told (sets_semantics x) a has = absurd has
empty_told (sets_lex_depth x) a has = absurd has
empty_told (sets_chain_length x) a has = absurd has
empty_told adds_nothing a has = absurd has

pub lex_rule_told : (q : Part) (a : LexicalRule) → Has (lex_rule_in q) a → q ≡ adds_lex_rule a
lex_rule_told (adds_lex_rule x) a (inl e) = ap adds_lex_rule (sym e)
lex_rule_told (adds_lex_rule x) a (inr has) = absurd has
lex_rule_told (adds_clause k x) a has = absurd has
lex_rule_told (adds_constraint x) a has = absurd has
lex_rule_told (adds_word x) a has = absurd has
lex_rule_told (adds_empty x) a has = absurd has
lex_rule_told (adds_rule x) a has = absurd has
lex_rule_told (sets_semantics x) a has = absurd has
lex_rule_told (sets_lex_depth x) a has = absurd has
lex_rule_told (sets_chain_length x) a has = absurd has
lex_rule_told adds_nothing a has = absurd has

pub rule_told : (q : Part) (a : Rule) → Has (rule_in q) a → q ≡ adds_rule a
rule_told (adds_rule x) a (inl e) = ap adds_rule (sym e)
rule_told (adds_rule x) a (inr has) = absurd has
rule_told (adds_clause k x) a has = absurd has
rule_told (adds_constraint x) a has = absurd has
rule_told (adds_word x) a has = absurd has
rule_told (adds_empty x) a has = absurd has
rule_told (adds_lex_rule x) a has = absurd has
rule_told (sets_semantics x) a has = absurd has
rule_told (sets_lex_depth x) a has = absurd has
rule_told (sets_chain_length x) a has = absurd has
rule_told adds_nothing a has = absurd has

pub semantics_told : (q : Part) (a : ℕ) → Has (semantics_in q) a → q ≡ sets_semantics a
semantics_told (sets_semantics x) a (inl e) = ap sets_semantics (sym e)
semantics_told (sets_semantics x) a (inr has) = absurd has
semantics_told (adds_clause k x) a has = absurd has
semantics_told (adds_constraint x) a has = absurd has
semantics_told (adds_word x) a has = absurd has
semantics_told (adds_empty x) a has = absurd has
semantics_told (adds_lex_rule x) a has = absurd has
semantics_told (adds_rule x) a has = absurd has
semantics_told (sets_lex_depth x) a has = absurd has
semantics_told (sets_chain_length x) a has = absurd has
semantics_told adds_nothing a has = absurd has

if_told : (p k : List ℕ) (x c : Clause) → Has (if_of p k x) c → adds_clause k x ≡ adds_clause p c
if_told p k x c has = go (same_name k p) refl
  where
    one : same_name k p ≡ true → Has (x ∷ []) c → adds_clause k x ≡ adds_clause p c
    one e (inl q) = ap (λ z. adds_clause z x) (same_name_to k p e) ∙ ap (adds_clause p) (sym q)
    one e (inr more) = absurd more

    go : (b : Bool) → same_name k p ≡ b → adds_clause k x ≡ adds_clause p c
    go true e = let there : Has (x ∷ []) c = rw e at has in one e there
    go false e = let there : Has {A = Clause} [] c = rw e at has in absurd there

pub clause_told : (p : List ℕ) (q : Part) (a : Clause) → Has (clause_in p q) a → q ≡ adds_clause p a
clause_told p (adds_clause k x) a has = if_told p k x a has
clause_told p (adds_constraint x) a has = absurd has
clause_told p (adds_word x) a has = absurd has
clause_told p (adds_empty x) a has = absurd has
clause_told p (adds_lex_rule x) a has = absurd has
clause_told p (adds_rule x) a has = absurd has
clause_told p (sets_semantics x) a has = absurd has
clause_told p (sets_lex_depth x) a has = absurd has
clause_told p (sets_chain_length x) a has = absurd has
clause_told p adds_nothing a has = absurd has

pub gathered : {A : Type 0} (f : Part → List A) (to : A → Part) (P : Part → Type 0) → ((q : Part) (a : A) → Has (f q) a → q ≡ to a) →
    (ps : List Part) → ((q : Part) → Has ps q → P q) → (a : A) → Has (flat_map f ps) a → P (to a)
gathered f to P told ps all a has =
    let there = flat_map_has f ps a has in
    subst P (told there.0 a there.2) (all there.0 there.1)

-- a list that is looked up by its number is one of the lists, or empty
pub has_numbered : {A : Type 0} (f : List ℕ → List A) (ks : List (List ℕ)) (n : ℕ) (a : A) → Has (get_or (map f ks) n []) a → (k : List ℕ) × Has (f k) a
has_numbered f [] n a has = absurd has
has_numbered f (k ∷ ks) zero a has = (k, has)
has_numbered f (k ∷ ks) (suc n) a has = has_numbered f ks n a has

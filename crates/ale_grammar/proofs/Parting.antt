-- What each declaration adds fits the signature, and its calls fit the predicates, where its mentions are known and it stands where it may.
use Rattle.std.proofs.Common.{◌≡◌, ℕ, suc, ◌≤◌, true, false, Option, Some, None, List, [], ◌∷◌, ◌++◌, map, length, refl, sym, ap, subst, inl, inr, arith}
use Rattle.std.specs.Prelude.{slice_get}
use Rattle.std.proofs.lemmas.Bool.{cases_Bool, both_ways}
use Rattle.ale_relation.specs.Has.{Has}
use Rattle.ale_declared.specs.Declarations.{Declared}
use Rattle.ale_declared.specs.Names.{same_name, number}
use Rattle.ale_declared.proofs.NumberLemmas.{same_name_to, same_name_from, number_below}
use Rattle.ale_hierarchy.specs.Hierarchy.{Hierarchy}
use Rattle.ale_hierarchy.specs.Order.{hierarchy}
use Rattle.ale_term.specs.Terms.{TermData}
use Rattle.ale_term.specs.Goals.{GoalData}
use Rattle.ale_declaration.specs.Declarations as declaration
use Rattle.ale_declaration.specs.Declarations.{DeclarationData}
use Rattle.ale_declaration.specs.declared.declaration.MorphLine.{MorphLine}
use Rattle.ale_logic.specs.Descriptions.{Description, Descriptions, none, more, FitsDescription, FitDescriptions, how_many}
use Rattle.ale_logic.specs.Goals.{Goal, FitsGoal}
use Rattle.ale_logic.specs.Programs.{Clause, Constraint, LexicalRule, Element, cat, cats, derived, sem_head, member, tail, Rule, goal_of}
use Rattle.ale_logic.specs.Fitting.{FitsClause, FitsConstraint, FitsElement, IsDaughter, sem_heads, FitsRule, FitsLexicalRule}
use Rattle.ale_vocabulary.specs.First.{AllRight}
use Rattle.ale_vocabulary.specs.Keys.{key}
use Rattle.ale_vocabulary.specs.Knowing.{IsUnknown}
use Rattle.ale_vocabulary.specs.Mentions.{Mention, mentions, mentions_of_each, mentions_of_goal, mentions_of_some, mentions_of_element, mentions_of_elements, mentions_of_declaration}
use Rattle.ale_vocabulary.specs.Vocabularies.{VocabularyData}
use Rattle.ale_program.specs.Kept.{CallsFit}
use Rattle.ale_describe.specs.Arities.{arity_of, arities}
use Rattle.ale_describe.specs.Known.{HasLists, IsKnownGoal}
use Rattle.ale_describe.specs.Names.{NamesData}
use Rattle.ale_describe.specs.Scopes.{ScopeData, new_scope}
use Rattle.ale_describe.specs.Describing.{described, each_described, goal_described}
use Rattle.ale_describe.specs.Laws.{FitsNames, FitsScope}
use Rattle.ale_describe.proofs.Fitting.{describe_law}
use Rattle.ale_describe.proofs.CallsHaveArities.{calls_law}
use Rattle.ale_describe.proofs.Knowing.{right_left, right_right, known_type, known_predicate, known_lists, known_term, known_each, known_goal}
use Rattle.ale_naming.specs.Faults.{heads, has_daughter}
use Rattle.ale_grammar.specs.Programs.{some_goal_described, clause_of, constraint_of, lex_rule_of, element_described, elements_described, rule_of, Part, adds_clause, adds_constraint, adds_word, adds_empty, adds_lex_rule, adds_rule, sets_semantics, sets_lex_depth, sets_chain_length, adds_nothing, part_of}

pub record ClauseFits (d : Declared) (v : VocabularyData) (k : List ℕ) (c : Clause) : Type 0 where
  pub fits : FitsClause (hierarchy d) c
  pub head : how_many c.args ≡ arity_of k
  pub body : CallsFit (arities v) c.body

pub record ConstraintFits (d : Declared) (v : VocabularyData) (c : Constraint) : Type 0 where
  pub fits : FitsConstraint (hierarchy d) c
  pub goal : CallsFit (arities v) (goal_of c.goal)

pub record LexRuleFits (d : Declared) (v : VocabularyData) (r : LexicalRule) : Type 0 where
  pub fits : FitsLexicalRule (hierarchy d) r
  pub goal : CallsFit (arities v) (goal_of r.goal)

pub record RuleFits (d : Declared) (v : VocabularyData) (r : Rule) : Type 0 where
  pub fits : FitsRule (hierarchy d) r
  pub calls : (g : Goal) → Has r.elements (derived g) → CallsFit (arities v) g
  pub lists : (x : Description) → Has r.elements (cats x) → HasLists d

abbrev pub PartFits : Declared → VocabularyData → Part → Type 0
PartFits d v (adds_clause k c) = ClauseFits d v k c
PartFits d v (adds_constraint c) = ConstraintFits d v c
PartFits d v (adds_word w) = FitsDescription (hierarchy d) w.slots w.desc
PartFits d v (adds_empty e) = FitsDescription (hierarchy d) e.slots e.desc
PartFits d v (adds_lex_rule r) = LexRuleFits d v r
PartFits d v (adds_rule r) = RuleFits d v r
PartFits d v (sets_semantics s) = slice_get (arities v) s ≡ Some 2
PartFits d v (sets_lex_depth n) = Unit {0}
PartFits d v (sets_chain_length n) = Unit {0}
PartFits d v adds_nothing = Unit {0}

-- a rule has no two heads, and a daughter
abbrev pub IsPlaced : DeclarationData → Type 0
IsPlaced (declaration.rule n t es) = (heads es ≤ 1) × (has_daughter es ≡ true)
IsPlaced (declaration.signature s) = Unit {0}
IsPlaced (declaration.constraint n t g) = Unit {0}
IsPlaced (declaration.macro m ps t) = Unit {0}
IsPlaced (declaration.clause p ts g) = Unit {0}
IsPlaced (declaration.word w t) = Unit {0}
IsPlaced (declaration.empty t) = Unit {0}
IsPlaced (declaration.lex_rule n t u g ls) = Unit {0}
IsPlaced (declaration.semantics p) = Unit {0}
IsPlaced (declaration.lex_depth n) = Unit {0}
IsPlaced (declaration.chain_length n) = Unit {0}
IsPlaced (declaration.passed_over n) = Unit {0}

wider_description : (h : Hierarchy) (a b : ℕ) → a ≤ b → (x : Description) → FitsDescription h a x → FitsDescription h b x
wider_description h a b le = (describe_law.wider h a b le).description

wider_goal : (h : Hierarchy) (a b : ℕ) → a ≤ b → (g : Goal) → FitsGoal h a g → FitsGoal h b g
wider_goal h a b le = (describe_law.wider h a b le).goal

wider_each : (h : Hierarchy) (a b : ℕ) → a ≤ b → (xs : Descriptions) → FitDescriptions h a xs → FitDescriptions h b xs
wider_each h a b le none f = tt
wider_each h a b le (more x xs) f = (wider_description h a b le x f.0, wider_each h a b le xs f.1)

wider_element : (h : Hierarchy) (a b : ℕ) → a ≤ b → (e : Element) → FitsElement h a e → FitsElement h b e
wider_element h a b le (cat x) f = wider_description h a b le x f
wider_element h a b le (cats x) f = wider_description h a b le x f
wider_element h a b le (derived g) f = wider_goal h a b le g f
wider_element h a b le (sem_head x) f = wider_description h a b le x f
wider_element h a b le (member n) f = absurd f
wider_element h a b le (tail n) f = absurd f

pub arity_there : (ks : List (List ℕ)) (k : List ℕ) → Has ks k → slice_get (map arity_of ks) (number ks k) ≡ Some (arity_of k)
arity_there [] k has = absurd has
arity_there (j ∷ ks) k has = elim (cases_Bool (same_name k j)) [
  | inl t ↦ rw t (ap (λ z. Some (arity_of z)) (sym (same_name_to k j t)))
  | inr f ↦ rw f (arity_there ks k (elsewhere has f))
]
  where
    elsewhere : Has (j ∷ ks) k → same_name k j ≡ false → Has ks k
    elsewhere (inl e) f = absurd (both_ways (same_name k j) f (same_name_from k j e))
    elsewhere (inr others) f = others

module _ (d : Declared) (names : NamesData) where
  each_counted : (scope : ScopeData) (ts : List TermData) → how_many (each_described d names scope ts).0 ≡ length ts
  each_counted scope [] = refl
  each_counted scope (t ∷ ts) = ap suc (each_counted (described d names scope t).1 ts)

  abbrev Right : List Mention → Type 0
  Right ms = AllRight (IsUnknown d names.vocabulary) ms

  describes : (scope : ScopeData) (t : TermData) → FitsNames d names → Right (mentions t) → FitsScope d scope (described d names scope t).0 (described d names scope t).1
  describes scope t f h = describe_law.descriptions d names scope t f (known_term d names.vocabulary t h)

  -- a goal that may be left out
  record SomeFits (scope : ScopeData) (o : Option GoalData) : Type 0 where
    fits : FitsGoal (hierarchy d) (length (some_goal_described d names scope o).1.slots) (goal_of (some_goal_described d names scope o).0)
    grows : length scope.slots ≤ length (some_goal_described d names scope o).1.slots
    calls : CallsFit (arities names.vocabulary) (goal_of (some_goal_described d names scope o).0)

  some_fits : (scope : ScopeData) (o : Option GoalData) → FitsNames d names → Right (mentions_of_some o) → SomeFits scope o
  some_fits scope None f h = record { fits = tt; grows = omega arith; calls = tt }
  some_fits scope (Some g) f h =
      let known : IsKnownGoal d names.vocabulary g = known_goal d names.vocabulary g h in
      let r = describe_law.goals d names scope g f known in
      record { fits = r.fits; grows = r.grows; calls = calls_law d names scope g known }

  clause_fits : (p : List ℕ) (ts : List TermData) (g : GoalData) → FitsNames d names → Right (mentions_of_declaration (declaration.clause p ts g)) →
      ClauseFits d names.vocabulary (key p (length ts)) (clause_of d names ts g)
  clause_fits p ts g f h =
      let args = describe_law.each d names new_scope ts f (known_each d names.vocabulary ts (right_left (IsUnknown d names.vocabulary) (mentions_of_each ts) (mentions_of_goal g) h)) in
      let first : ScopeData = (each_described d names new_scope ts).1 in
      let known : IsKnownGoal d names.vocabulary g = known_goal d names.vocabulary g (right_right (IsUnknown d names.vocabulary) (mentions_of_each ts) (mentions_of_goal g) h) in
      let body = describe_law.goals d names first g f known in
      record {
        fits = record {
          args = wider_each (hierarchy d) (length first.slots) (length (goal_described d names first g).1.slots) body.grows (each_described d names new_scope ts).0 args.fit;
          body = body.fits;
        };
        head = each_counted new_scope ts;
        body = calls_law d names first g known;
      }

  constraint_fits : (n : List ℕ) (t : TermData) (g : Option GoalData) → FitsNames d names → Right (mentions_of_declaration (declaration.constraint n t g)) →
      ConstraintFits d names.vocabulary (constraint_of d names n t g)
  unfolding hierarchy
  constraint_fits n t g f h =
      let one = describes new_scope t f (right_left (IsUnknown d names.vocabulary) (mentions t) (mentions_of_some g) h.1) in
      let first : ScopeData = (described d names new_scope t).1 in
      let goal = some_fits first g f (right_right (IsUnknown d names.vocabulary) (mentions t) (mentions_of_some g) h.1) in
      record {
        fits = record {
          of = number_below d.types n (known_type d names.vocabulary n h.0);
          desc = wider_description (hierarchy d) (length first.slots) (length (some_goal_described d names first g).1.slots) goal.grows (described d names new_scope t).0 one.fits;
          goal = goal.fits;
        };
        goal = goal.calls;
      }

  lex_rule_fits : (n : List ℕ) (t u : TermData) (g : Option GoalData) (ls : List MorphLine) → FitsNames d names →
      Right (mentions_of_declaration (declaration.lex_rule n t u g ls)) → LexRuleFits d names.vocabulary (lex_rule_of d names t u g ls)
  lex_rule_fits n t u g ls f h =
      let sides : Right (mentions t ++ mentions u) = right_left (IsUnknown d names.vocabulary) (mentions t ++ mentions u) (mentions_of_some g) h in
      let one = describes new_scope t f (right_left (IsUnknown d names.vocabulary) (mentions t) (mentions u) sides) in
      let first : ScopeData = (described d names new_scope t).1 in
      let two = describes first u f (right_right (IsUnknown d names.vocabulary) (mentions t) (mentions u) sides) in
      let second : ScopeData = (described d names first u).1 in
      let goal = some_fits second g f (right_right (IsUnknown d names.vocabulary) (mentions t ++ mentions u) (mentions_of_some g) h) in
      let middle : length first.slots ≤ length second.slots = two.grows in
      let last : length second.slots ≤ length (some_goal_described d names second g).1.slots = goal.grows in
      let whole : length first.slots ≤ length (some_goal_described d names second g).1.slots = omega arith in
      record {
        fits = record {
          input = wider_description (hierarchy d) (length first.slots) (length (some_goal_described d names second g).1.slots) whole (described d names new_scope t).0 one.fits;
          output = wider_description (hierarchy d) (length second.slots) (length (some_goal_described d names second g).1.slots) last (described d names first u).0 two.fits;
          goal = goal.fits;
        };
        goal = goal.calls;
      }

  -- an element, with what it is taken for
  record ElementFits (scope : ScopeData) (e : declaration.Element) : Type 0 where
    fits : FitsElement (hierarchy d) (length (element_described d names scope e).1.slots) (element_described d names scope e).0
    grows : length scope.slots ≤ length (element_described d names scope e).1.slots
    calls : (g : Goal) → derived g ≡ (element_described d names scope e).0 → CallsFit (arities names.vocabulary) g
    lists : (x : Description) → cats x ≡ (element_described d names scope e).0 → HasLists d

  not_derived_cat : (g : Goal) (x : Description) → derived g ≡ cat x → ⊥
  not_derived_cat g x e = absurd cc

  not_derived_cats : (g : Goal) (x : Description) → derived g ≡ cats x → ⊥
  not_derived_cats g x e = absurd cc

  not_derived_head : (g : Goal) (x : Description) → derived g ≡ sem_head x → ⊥
  not_derived_head g x e = absurd cc

  not_cats_cat : (y x : Description) → cats y ≡ cat x → ⊥
  not_cats_cat y x e = absurd cc

  not_cats_derived : (y : Description) (g : Goal) → cats y ≡ derived g → ⊥
  not_cats_derived y g e = absurd cc

  not_cats_head : (y x : Description) → cats y ≡ sem_head x → ⊥
  not_cats_head y x e = absurd cc

  same_goal : (g k : Goal) → derived g ≡ derived k → k ≡ g
  same_goal g k e = cc

  element_fits : (scope : ScopeData) (e : declaration.Element) → FitsNames d names → Right (mentions_of_element e) → ElementFits scope e
  element_fits scope (declaration.daughter t) f h =
      let r = describes scope t f h in
      let x : Description = (described d names scope t).0 in
      record { fits = r.fits; grows = r.grows; calls = λ g e. absurd (not_derived_cat g x e); lists = λ y e. absurd (not_cats_cat y x e) }
  element_fits scope (declaration.daughters t) f h =
      let r = describes scope t f h.1 in
      let x : Description = (described d names scope t).0 in
      record { fits = r.fits; grows = r.grows; calls = λ g e. absurd (not_derived_cats g x e); lists = λ y e. known_lists d names.vocabulary h.0 }
  element_fits scope (declaration.condition g) f h =
      let known : IsKnownGoal d names.vocabulary g = known_goal d names.vocabulary g h in
      let r = describe_law.goals d names scope g f known in
      let made : Goal = (goal_described d names scope g).0 in
      record {
        fits = r.fits;
        grows = r.grows;
        calls = λ k e. subst (CallsFit (arities names.vocabulary)) (same_goal k made e) (calls_law d names scope g known);
        lists = λ y e. absurd (not_cats_derived y made e);
      }
  element_fits scope (declaration.head t) f h =
      let r = describes scope t f h in
      let x : Description = (described d names scope t).0 in
      record { fits = r.fits; grows = r.grows; calls = λ g e. absurd (not_derived_head g x e); lists = λ y e. absurd (not_cats_head y x e) }

  record ElementsFit (scope : ScopeData) (es : List declaration.Element) : Type 0 where
    fit : (e : Element) → Has (elements_described d names scope es).0 e → FitsElement (hierarchy d) (length (elements_described d names scope es).1.slots) e
    grows : length scope.slots ≤ length (elements_described d names scope es).1.slots
    calls : (g : Goal) → Has (elements_described d names scope es).0 (derived g) → CallsFit (arities names.vocabulary) g
    lists : (x : Description) → Has (elements_described d names scope es).0 (cats x) → HasLists d

  elements_fit : (scope : ScopeData) (es : List declaration.Element) → FitsNames d names → Right (mentions_of_elements es) → ElementsFit scope es
  elements_fit scope [] f h = record { fit = λ e has. absurd has; grows = omega arith; calls = λ g has. absurd has; lists = λ x has. absurd has }
  elements_fit scope (e ∷ es) f h =
      more_fit scope e es (element_fits scope e f (right_left (IsUnknown d names.vocabulary) (mentions_of_element e) (mentions_of_elements es) h))
      (elements_fit (element_described d names scope e).1 es f (right_right (IsUnknown d names.vocabulary) (mentions_of_element e) (mentions_of_elements es) h))
    where
      more_fit : (scope : ScopeData) (e : declaration.Element) (es : List declaration.Element) → ElementFits scope e → ElementsFit (element_described d names scope e).1 es →
          ElementsFit scope (e ∷ es)
      more_fit scope e es one rest =
          let middle : ScopeData = (element_described d names scope e).1 in
          let first : length scope.slots ≤ length middle.slots = one.grows in
          let second : length middle.slots ≤ length (elements_described d names middle es).1.slots = rest.grows in
          record { fit = fit; grows = omega arith; calls = calls; lists = lists }
        where
          fit : (x : Element) → Has (elements_described d names scope (e ∷ es)).0 x → FitsElement (hierarchy d) (length (elements_described d names scope (e ∷ es)).1.slots) x
          fit x (inl q) =
              subst (FitsElement (hierarchy d) (length (elements_described d names scope (e ∷ es)).1.slots)) (sym q)
              (wider_element (hierarchy d) (length (element_described d names scope e).1.slots) (length (elements_described d names scope (e ∷ es)).1.slots) rest.grows
              (element_described d names scope e).0 one.fits)
          fit x (inr has) = rest.fit x has

          calls : (g : Goal) → Has (elements_described d names scope (e ∷ es)).0 (derived g) → CallsFit (arities names.vocabulary) g
          calls g (inl q) = one.calls g q
          calls g (inr has) = rest.calls g has

          lists : (x : Description) → Has (elements_described d names scope (e ∷ es)).0 (cats x) → HasLists d
          lists x (inl q) = one.lists x q
          lists x (inr has) = rest.lists x has

  heads_same : (scope : ScopeData) (es : List declaration.Element) → sem_heads (elements_described d names scope es).0 ≡ heads es
  heads_same scope [] = refl
  heads_same scope (declaration.daughter t ∷ es) = heads_same (described d names scope t).1 es
  heads_same scope (declaration.daughters t ∷ es) = heads_same (described d names scope t).1 es
  heads_same scope (declaration.condition g ∷ es) = heads_same (goal_described d names scope g).1 es
  heads_same scope (declaration.head t ∷ es) = ap suc (heads_same (described d names scope t).1 es)

  a_daughter : (scope : ScopeData) (es : List declaration.Element) → has_daughter es ≡ true → (e : Element) × Has (elements_described d names scope es).0 e × IsDaughter e
  a_daughter scope [] q = absurd cc
  a_daughter scope (declaration.daughter t ∷ es) q = (cat (described d names scope t).0, inl refl, tt)
  a_daughter scope (declaration.daughters t ∷ es) q = (cats (described d names scope t).0, inl refl, tt)
  a_daughter scope (declaration.head t ∷ es) q = (sem_head (described d names scope t).0, inl refl, tt)
  a_daughter scope (declaration.condition g ∷ es) q =
      let rest = a_daughter (goal_described d names scope g).1 es q in
      (rest.0, inr rest.1, rest.2)

  rule_fits : (n : List ℕ) (t : TermData) (es : List declaration.Element) → FitsNames d names → Right (mentions_of_declaration (declaration.rule n t es)) →
      IsPlaced (declaration.rule n t es) → RuleFits d names.vocabulary (rule_of d names t es)
  rule_fits n t es f h placed =
      let one = describes new_scope t f (right_left (IsUnknown d names.vocabulary) (mentions t) (mentions_of_elements es) h) in
      let first : ScopeData = (described d names new_scope t).1 in
      let rest = elements_fit first es f (right_right (IsUnknown d names.vocabulary) (mentions t) (mentions_of_elements es) h) in
      record {
        fits = record {
          mother = wider_description (hierarchy d) (length first.slots) (length (elements_described d names first es).1.slots) rest.grows (described d names new_scope t).0 one.fits;
          elements = rest.fit;
          daughter = a_daughter first es placed.1;
          one_head = subst (λ k. k ≤ 1) (sym (heads_same first es)) placed.0;
        };
        calls = rest.calls;
        lists = rest.lists;
      }

  pub part_fits : (x : DeclarationData) → FitsNames d names → Right (mentions_of_declaration x) → IsPlaced x → PartFits d names.vocabulary (part_of d names x)
  part_fits (declaration.signature s) f h placed = tt
  part_fits (declaration.constraint n t g) f h placed = constraint_fits n t g f h
  part_fits (declaration.macro m ps t) f h placed = tt
  part_fits (declaration.clause p ts g) f h placed = clause_fits p ts g f h
  part_fits (declaration.word w t) f h placed = (describes new_scope t f h).fits
  part_fits (declaration.empty t) f h placed = (describes new_scope t f h).fits
  part_fits (declaration.lex_rule n t u g ls) f h placed = lex_rule_fits n t u g ls f h
  part_fits (declaration.rule n t es) f h placed = rule_fits n t es f h placed
  part_fits (declaration.semantics p) f h placed = arity_there names.vocabulary.predicates (key p 2) (known_predicate d names.vocabulary p 2 h.0)
  part_fits (declaration.lex_depth n) f h placed = tt
  part_fits (declaration.chain_length n) f h placed = tt
  part_fits (declaration.passed_over n) f h placed = tt

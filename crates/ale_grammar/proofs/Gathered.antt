-- The parts that declarations make are kept to their signature and to one another, where nothing is at fault.
use Rattle.std.proofs.Common.{◌≡◌, ℕ, zero, suc, ◌≤◌, Bool, true, false, Option, Some, None, List, [], ◌∷◌, ◌++◌, map, refl, sym, ap, ◌∙◌, subst, inl, inr, arith}
use Rattle.std.specs.Prelude.{slice_get, get_or, is_some}
use Rattle.std.specs.List.{flat_map}
use Rattle.std.proofs.lemmas.Bool.{cases_Bool}
use Rattle.ale_relation.specs.Has.{Has}
use Rattle.ale_declared.specs.Declarations.{Declared}
use Rattle.ale_declared.specs.Names.{same_name}
use Rattle.ale_declared.proofs.ListLemmas.{Has-map, map_has, flat_map_has}
use Rattle.ale_declared.proofs.NumberLemmas.{same_name_to}
use Rattle.ale_hierarchy.specs.Hierarchy.{IsLawful}
use Rattle.ale_hierarchy.specs.Order.{hierarchy}
use Rattle.ale_declaration.specs.Declarations as declaration
use Rattle.ale_declaration.specs.Declarations.{DeclarationData}
use Rattle.ale_logic.specs.Descriptions.{Description, FitsDescription}
use Rattle.ale_logic.specs.Goals.{Goal}
use Rattle.ale_logic.specs.Programs as plain
use Rattle.ale_logic.specs.Programs.{ListTypes, Program, clauses_of, goal_of}
use Rattle.ale_logic.specs.Fitting.{FitsProgram}
use Rattle.ale_list.specs.Lists.{lists_in}
use Rattle.ale_list.proofs.ListNames.{lists_fit}
use Rattle.ale_morph.specs.declared.line.Line.{Line}
use Rattle.ale_morph.specs.Bound.{AreBound}
use Rattle.ale_vocabulary.specs.First.{IsFirst, AllRight, first_of}
use Rattle.ale_vocabulary.specs.Keys.{key}
use Rattle.ale_vocabulary.specs.Knowing.{IsUnknown, unknown_in}
use Rattle.ale_vocabulary.specs.Mentions.{Mention, mentions_of_declaration}
use Rattle.ale_vocabulary.specs.Vocabularies.{VocabularyData, vocabulary_of}
use Rattle.ale_vocabulary.specs.declared.error.NameError.{NameError}
use Rattle.ale_vocabulary.specs.declared.error.NameError.TheVariants.{TwoHeads, NoDaughter}
use Rattle.ale_vocabulary.proofs.Found.{first_is_found}
use Rattle.ale_macro.specs.Calls.{calls_of}
use Rattle.ale_program.specs.declared.clause.Clause.{Clause}
use Rattle.ale_program.specs.declared.clause.Pred.{Pred}
use Rattle.ale_program.specs.declared.lexical.LexRule.{LexRule}
use Rattle.ale_program.specs.declared.parts.Parts.{Parts}
use Rattle.ale_program.specs.Views.{clause_data, clauses_data, program}
use Rattle.ale_program.specs.Kept as kept
use Rattle.ale_program.specs.Kept.{CallsFit, HasArities, IsProgram}
use Rattle.ale_describe.specs.Arities.{arity_of, arities}
use Rattle.ale_describe.specs.Names.{NamesData}
use Rattle.ale_describe.specs.Macros.{names_of}
use Rattle.ale_describe.specs.Declaring.{AreKnownDeclarations}
use Rattle.ale_describe.specs.Laws.{FitsNames}
use Rattle.ale_naming.specs.Places.{places_from}
use Rattle.ale_naming.specs.Faults.{Fault, HasUnknown, HasMisplaced, AreRight, heads, has_daughter, two_heads, no_daughter}
use Rattle.ale_grammar.specs.Programs.{Part, adds_clause, adds_constraint, adds_word, adds_empty, adds_lex_rule, adds_rule, sets_semantics, sets_lex_depth, sets_chain_length, adds_nothing, part_of, constraint_in, word_in, empty_in, lex_rule_in, rule_in, semantics_in, clause_in, if_of, first_in, program_with, program_of}
use Rattle.ale_grammar.specs.Written.{lines_of, lines_in, pred_key}
use Rattle.ale_grammar.specs.Building.{Bucket, bucket}
use Rattle.ale_grammar.specs.Assembling.{HasBoundLines, HaveBoundLines, bucket_of, IsAssembled}
use Rattle.ale_grammar.proofs.Gathering.{clause_told, constraint_told, word_told, empty_told, lex_rule_told, rule_told, semantics_told, gathered, has_numbered}
use Rattle.ale_grammar.proofs.LinesAreBound.{lines_bound}
use Rattle.ale_grammar.proofs.Parting.{ClauseFits, ConstraintFits, LexRuleFits, RuleFits, PartFits, IsPlaced, part_fits}

-- Where no declaration is at fault, all mentions are known, and each rule stands where it may.

right_mentions : (d : Declared) (v : VocabularyData) (k : ℕ) (ms : List Mention) →
    ((f : Fault) → (f.0 ≡ k) × IsFirst (IsUnknown d v) ms f.1 → ⊥) → AllRight (IsUnknown d v) ms
right_mentions d v k ms clear = go (first_of (unknown_in d v) ms) refl
  where
    go : (o : Option NameError) → first_of (unknown_in d v) ms ≡ o → AllRight (IsUnknown d v) ms
    go None e = (first_is_found d v ms).none.0 e
    go (Some x) e = absurd (clear (k, x) (refl, ((first_is_found d v ms).first x).0 e))

pub all_right : (d : Declared) (v : VocabularyData) (k : ℕ) (before xs : List DeclarationData) → AllRight (HasUnknown d v) (places_from k before xs) → AreKnownDeclarations d v xs
all_right d v k before [] h = tt
all_right d v k before (x ∷ xs) h =
    (right_mentions d v k (mentions_of_declaration x) h.0, all_right d v (suc k) (before ++ x ∷ []) xs h.1)

ArePlaced : List DeclarationData → Type 0
ArePlaced xs = (x : DeclarationData) → Has xs x → IsPlaced x

rule_placed : (calls : List (ℕ × ℕ)) (v : VocabularyData) (k : ℕ) (before : List DeclarationData) (x : DeclarationData) →
    ((f : Fault) → HasMisplaced calls v (record { number = k; before = before; declaration = x }) f → ⊥) → IsPlaced x
rule_placed calls v k before (declaration.rule n t es) clear =
    let few : 2 ≤ heads es → ⊥ = λ le. clear (k, TwoHeads n) (refl, two_heads n t es le) in
    (one_head (heads es) few, elim (cases_Bool (has_daughter es)) [ inl t ↦ t | inr f ↦ absurd (clear (k, NoDaughter n) (refl, no_daughter n t es f)) ])
  where
    one_head : (n : ℕ) → (2 ≤ n → ⊥) → n ≤ 1
    one_head zero few = omega arith
    one_head (suc zero) few = omega arith
    one_head (suc (suc n)) few = absurd (few (omega arith))
rule_placed calls v k before (declaration.signature s) clear = tt
rule_placed calls v k before (declaration.constraint n t g) clear = tt
rule_placed calls v k before (declaration.macro m ps t) clear = tt
rule_placed calls v k before (declaration.clause p ts g) clear = tt
rule_placed calls v k before (declaration.word w t) clear = tt
rule_placed calls v k before (declaration.empty t) clear = tt
rule_placed calls v k before (declaration.lex_rule n t u g ls) clear = tt
rule_placed calls v k before (declaration.semantics p) clear = tt
rule_placed calls v k before (declaration.lex_depth n) clear = tt
rule_placed calls v k before (declaration.chain_length n) clear = tt
rule_placed calls v k before (declaration.passed_over n) clear = tt

-- What fits of each part fits of all that they give.
module _ (d : Declared) (names : NamesData) where
  each_fits : (calls : List (ℕ × ℕ)) (v : VocabularyData) (k : ℕ) (before xs : List DeclarationData) → FitsNames d names → AreKnownDeclarations d names.vocabulary xs →
      AllRight (HasMisplaced calls v) (places_from k before xs) → (q : Part) → Has (map (part_of d names) xs) q → PartFits d names.vocabulary q
  each_fits calls v k before [] f known placed q has = absurd has
  each_fits calls v k before (x ∷ xs) f known placed q (inl e) =
      subst (PartFits d names.vocabulary) (sym e) (part_fits d names x f known.0 (rule_placed calls v k before x placed.0))
  each_fits calls v k before (x ∷ xs) f known placed q (inr has) = each_fits calls v (suc k) (before ++ x ∷ []) xs f known.1 placed.1 q has

first_has : {A : Type 0} (xs : List A) (x : A) → first_in xs ≡ Some x → Has xs x
first_has [] x e = absurd cc
first_has (y ∷ ys) x e = let q : x ≡ y = cc in inl q

some_lists : (o : Option ListTypes) → is_some o ≡ true → (l : ListTypes) × (o ≡ Some l)
some_lists None e = absurd cc
some_lists (Some l) e = (l, refl)

-- The program that declarations make.
module _ (d : Declared) (names : NamesData) (ps : List Part) (all : (q : Part) → Has ps q → PartFits d names.vocabulary q) where
  abbrev clauses_by : List ℕ → List plain.Clause
  clauses_by k = flat_map (clause_in k) ps

  clause_in_it : (k : List ℕ) (c : plain.Clause) → Has (clauses_by k) c → ClauseFits d names.vocabulary k c
  clause_in_it k = gathered (clause_in k) (adds_clause k) (PartFits d names.vocabulary) (clause_told k) ps all

  constraint_in_it : (c : plain.Constraint) → Has (program_with d names ps).constraints c → ConstraintFits d names.vocabulary c
  constraint_in_it = gathered constraint_in adds_constraint (PartFits d names.vocabulary) constraint_told ps all

  lex_rule_in_it : (r : plain.LexicalRule) → Has (program_with d names ps).lex_rules r → LexRuleFits d names.vocabulary r
  lex_rule_in_it = gathered lex_rule_in adds_lex_rule (PartFits d names.vocabulary) lex_rule_told ps all

  rule_in_it : (r : plain.Rule) → Has (program_with d names ps).rules r → RuleFits d names.vocabulary r
  rule_in_it = gathered rule_in adds_rule (PartFits d names.vocabulary) rule_told ps all

  semantics_in_it : (s : ℕ) → (program_with d names ps).semantics ≡ Some s → slice_get (arities names.vocabulary) s ≡ Some 2
  semantics_in_it s e =
      gathered semantics_in sets_semantics (PartFits d names.vocabulary) semantics_told ps all s (first_has (flat_map semantics_in ps) s e)

  program_fits : IsLawful (hierarchy d) → FitsProgram (hierarchy d) (program_with d names ps)
  program_fits lawful = record {
    clauses = λ p c has. let there = has_numbered clauses_by names.vocabulary.predicates p c has in (clause_in_it there.0 c there.1).fits;
    constraints = λ c has. (constraint_in_it c has).fits;
    rules = λ r has. (rule_in_it r has).fits;
    words = gathered word_in adds_word (PartFits d names.vocabulary) word_told ps all;
    empties = gathered empty_in adds_empty (PartFits d names.vocabulary) empty_told ps all;
    lex_rules = λ r has. (lex_rule_in_it r has).fits;
    lists = λ l e. lists_fit d l lawful e;
  }

-- Parts with these buckets.
abbrev bucket_arity : Bucket → ℕ
bucket_arity b = arity_of b.key

arities_of_preds : (qs : List Pred) → map bucket_arity (map bucket qs) ≡ map {B = ℕ} (λ q. q.arity) qs
arities_of_preds [] = refl
arities_of_preds (q ∷ qs) = ap (λ (ns : List ℕ). q.arity ∷ ns) (arities_of_preds qs)

arities_of_keys : (ps : List Part) (ks : List (List ℕ)) → map bucket_arity (map (bucket_of ps) ks) ≡ map arity_of ks
arities_of_keys ps [] = refl
arities_of_keys ps (k ∷ ks) = ap (λ (ns : List ℕ). arity_of k ∷ ns) (arities_of_keys ps ks)

lines_of_one : (x : DeclarationData) → HasBoundLines x → (ls : List Line) → Has (lines_of x) ls → AreBound ls
lines_of_one (declaration.lex_rule n t u g ms) told ls (inl e) = subst AreBound (sym e) (lines_bound ms told)
lines_of_one (declaration.lex_rule n t u g ms) told ls (inr has) = absurd has
lines_of_one (declaration.signature s) told ls has = absurd has
lines_of_one (declaration.constraint n t g) told ls has = absurd has
lines_of_one (declaration.macro m ps t) told ls has = absurd has
lines_of_one (declaration.clause p ts g) told ls has = absurd has
lines_of_one (declaration.word w t) told ls has = absurd has
lines_of_one (declaration.empty t) told ls has = absurd has
lines_of_one (declaration.rule n t es) told ls has = absurd has
lines_of_one (declaration.semantics p) told ls has = absurd has
lines_of_one (declaration.lex_depth n) told ls has = absurd has
lines_of_one (declaration.chain_length n) told ls has = absurd has
lines_of_one (declaration.passed_over n) told ls has = absurd has

one_of_them : (ds : List DeclarationData) → HaveBoundLines ds → (x : DeclarationData) → Has ds x → HasBoundLines x
one_of_them [] bound x has = absurd has
one_of_them (y ∷ ys) bound x (inl e) = subst HasBoundLines (sym e) bound.0
one_of_them (y ∷ ys) bound x (inr has) = one_of_them ys bound.1 x has

all_lines_bound : (ds : List DeclarationData) → HaveBoundLines ds → (ls : List Line) → Has (flat_map lines_of ds) ls → AreBound ls
all_lines_bound ds bound ls has =
    let there = flat_map_has lines_of ds ls has in
    lines_of_one there.0 (one_of_them ds bound there.0 there.1) ls there.2

-- The parts of declarations that are right fit, and so does their program.
module _ (d : Declared) (ds : List DeclarationData) (fits : FitsNames d (names_of d ds)) (right : AreRight d ds) where
  right_parts_fit : (q : Part) → Has (map (part_of d (names_of d ds)) ds) q → PartFits d (vocabulary_of ds) q
  right_parts_fit q has =
      each_fits d (names_of d ds) (calls_of (names_of d ds).library.macros) (vocabulary_of ds) 1 [] ds fits (all_right d (vocabulary_of ds) 1 [] ds right.known) right.placed q has

  pub right_program_fits : IsLawful (hierarchy d) → FitsProgram (hierarchy d) (program_of d ds)
  right_program_fits lawful = program_fits d (names_of d ds) (map (part_of d (names_of d ds)) ds) right_parts_fit lawful

module _ (d : Declared) (ds : List DeclarationData) (p : Parts) (fits : FitsNames d (names_of d ds)) (right : AreRight d ds) (told : HaveBoundLines ds) (made : IsAssembled d ds p) where
  abbrev names : NamesData
  names = names_of d ds

  abbrev v : VocabularyData
  v = vocabulary_of ds

  abbrev all_parts : List Part
  all_parts = map (part_of d (names_of d ds)) ds

  parts_fit : (q : Part) → Has all_parts q → PartFits d v q
  parts_fit q has = right_parts_fit d ds fits right q has

  arities_are : kept.arities p ≡ arities v
  arities_are = sym (arities_of_preds p.preds) ∙ (ap (map bucket_arity) made.preds ∙ arities_of_keys all_parts v.predicates)

  calls_fit : (g : Goal) → CallsFit (arities v) g → CallsFit (kept.arities p) g
  calls_fit g h = subst (λ ns. CallsFit ns g) (sym arities_are) h

  clause_in_pred : (q : Pred) (c : Clause) → Has p.preds q → Has q.clauses c → ClauseFits d v (pred_key q) (clause_data c)
  clause_in_pred q c has here =
      let there = map_has (bucket_of all_parts) v.predicates (bucket q) (subst (λ bs. Has bs (bucket q)) made.preds (Has-map bucket p.preds q has)) in
      let k : List ℕ = there.0 in
      let same : bucket q ≡ bucket_of all_parts k = there.2 in
      let clauses : clauses_data q ≡ flat_map (clause_in k) all_parts = ap (λ (b : Bucket). b.clauses) same in
      subst (λ z. ClauseFits d v z (clause_data c)) (sym (ap (λ (b : Bucket). b.key) same))
      (clause_in_it d names all_parts parts_fit k (clause_data c) (subst (λ cs. Has cs (clause_data c)) clauses (Has-map clause_data q.clauses c here)))

  constraint_there : (c : plain.Constraint) → Has (program p).constraints c → ConstraintFits d v c
  constraint_there c has = constraint_in_it d names all_parts parts_fit c (subst (λ (g : Program). Has g.constraints c) made.program has)

  lex_rule_there : (r : plain.LexicalRule) → Has (program p).lex_rules r → LexRuleFits d v r
  lex_rule_there r has = lex_rule_in_it d names all_parts parts_fit r (subst (λ (g : Program). Has g.lex_rules r) made.program has)

  rule_there : (r : plain.Rule) → Has (program p).rules r → RuleFits d v r
  rule_there r has = rule_in_it d names all_parts parts_fit r (subst (λ (g : Program). Has g.rules r) made.program has)

  arities_kept : HasArities p
  arities_kept = record {
    heads = λ q c has here. (clause_in_pred q c has here).head;
    bodies = λ q c has here. calls_fit (clause_data c).body (clause_in_pred q c has here).body;
    constraints = λ c has. calls_fit (goal_of c.goal) (constraint_there c has).goal;
    lex_rules = λ r has. calls_fit (goal_of r.goal) (lex_rule_there r has).goal;
    rules = λ r g has here. calls_fit g ((rule_there r has).calls g here);
  }

  fits_signature : IsLawful (hierarchy d) → FitsProgram (hierarchy p.signature) (program p)
  fits_signature lawful =
      subst (λ s. FitsProgram (hierarchy s) (program p)) (sym made.signature)
      (subst (FitsProgram (hierarchy d)) (sym made.program) (right_program_fits d ds fits right lawful))

  semantics_there : (s : ℕ) → p.semantics ≡ Some s → slice_get (kept.arities p) s ≡ Some 2
  semantics_there s e =
      ap (λ ns. slice_get ns s) arities_are ∙
      semantics_in_it d names all_parts parts_fit s (sym (ap (λ (g : Program). g.semantics) made.program) ∙ e)

  lines_there : (r : LexRule) → Has p.lex_rules r → AreBound r.lines
  lines_there r has = all_lines_bound ds told r.lines (subst (λ ls. Has ls r.lines) made.written.lines (Has-map lines_in p.lex_rules r has))

  lists_there : (r : plain.Rule) (x : Description) → Has (program p).rules r → Has r.elements (plain.cats x) → (l : ListTypes) × (lists_in p.signature ≡ Some l)
  lists_there r x has here =
      subst (λ s. (l : ListTypes) × (lists_in s ≡ Some l)) (sym made.signature) (some_lists (lists_in d) ((rule_there r has).lists x here))

  pub is_program : IsLawful (hierarchy d) → IsProgram p
  is_program lawful = record { fits = fits_signature lawful; calls = arities_kept; semantics = semantics_there; lines = lines_there; lists = lists_there }

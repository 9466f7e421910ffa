-- What is made of all declarations is their program.
use Rattle.std.proofs.Common.{◌≡◌, ℕ, Option, None, List, [], ◌∷◌, map, refl, sym, ap, ◌∙◌, subst}
use Rattle.std.specs.List.{flat_map}
use Rattle.ale_declared.specs.Declarations.{Declared}
use Rattle.ale_declaration.specs.Declarations.{DeclarationData}
use Rattle.ale_logic.specs.Programs.{Clause, Constraint, WordDeclaration, EmptyDeclaration, LexicalRule, Rule, ListTypes, Program}
use Rattle.ale_list.specs.Lists.{lists_in}
use Rattle.ale_program.specs.declared.clause.Pred.{Pred}
use Rattle.ale_program.specs.declared.parts.Parts.{Parts}
use Rattle.ale_program.specs.Views.{clauses_data, program}
use Rattle.ale_describe.specs.Names.{NamesData}
use Rattle.ale_describe.specs.Macros.{names_of}
use Rattle.ale_grammar.specs.Programs.{Part, part_of, semantics_in, lex_depth_in, chain_length_in, clause_in, first_or, program_of, usual_lex_depth, usual_chain_length}
use Rattle.ale_grammar.specs.Written.{pred_key}
use Rattle.ale_grammar.specs.Building.{Bucket, bucket, IsMade, Made, first_said, nothing_made, said_or, with_declarations}
use Rattle.ale_grammar.specs.Assembling.{IsAssembled, bucket_of}
use Rattle.ale_grammar.proofs.Tying.{constraints_all, words_all, empties_all, lex_rules_all, lex_rule_names_all, lines_all, rules_all, rule_names_all, semantics_all, lex_depth_all, chain_length_all, all_buckets, said_first}

abbrev clauses_in : Bucket → List Clause
clauses_in b = b.clauses

of_preds : (ps : List Pred) → map clauses_in (map bucket ps) ≡ map clauses_data ps
of_preds [] = refl
of_preds (p ∷ ps) = ap (λ (z : List (List Clause)). clauses_data p ∷ z) (of_preds ps)

of_keys : (ps : List Part) (ks : List (List ℕ)) → map clauses_in (map (bucket_of ps) ks) ≡ map (λ k. flat_map (clause_in k) ps) ks
of_keys ps [] = refl
of_keys ps (k ∷ ks) = ap (λ (z : List (List Clause)). flat_map (clause_in k) ps ∷ z) (of_keys ps ks)

abbrev key_in : Bucket → List ℕ
key_in b = b.key

keys_of_preds : (ps : List Pred) → map key_in (map bucket ps) ≡ map pred_key ps
keys_of_preds [] = refl
keys_of_preds (p ∷ ps) = ap (λ (z : List (List ℕ)). pred_key p ∷ z) (keys_of_preds ps)

keys_of_keys : (ps : List Part) (ks : List (List ℕ)) → map key_in (map (bucket_of ps) ks) ≡ ks
keys_of_keys ps [] = refl
keys_of_keys ps (k ∷ ks) = ap (λ (z : List (List ℕ)). k ∷ z) (keys_of_keys ps ks)

or_usual : (usual : ℕ) (ns : List ℕ) → said_or usual (first_said None ns) ≡ first_or usual ns
or_usual usual [] = refl
or_usual usual (n ∷ ns) = refl

same_program : (a a' : List (List Clause)) (b b' : List Constraint) (c c' : List WordDeclaration) (e e' : List EmptyDeclaration) (f f' : List LexicalRule)
    (g g' : List Rule) (h h' : Option ℕ) (i i' : Option ListTypes) (j j' k k' : ℕ) → a ≡ a' → b ≡ b' → c ≡ c' → e ≡ e' → f ≡ f' → g ≡ g' → h ≡ h' → i ≡ i' → j ≡ j' → k ≡ k' →
    ◌≡◌ {A = Program}
    (record { preds = a; constraints = b; words = c; empties = e; lex_rules = f; rules = g; semantics = h; lists = i; lex_depth = j; chain_length = k })
    (record { preds = a'; constraints = b'; words = c'; empties = e'; lex_rules = f'; rules = g'; semantics = h'; lists = i'; lex_depth = j'; chain_length = k' })
same_program a a' b b' c c' e e' f f' g g' h h' i i' j j' k k' p0 p1 p2 p3 p4 p5 p6 p7 p8 p9 = cc

module _ (d : Declared) (ds : List DeclarationData) where
  abbrev names : NamesData
  names = names_of d ds

  abbrev parts : List Part
  parts = map (part_of d (names_of d ds)) ds

  abbrev all : Made
  all = with_declarations d (names_of d ds) nothing_made ds

  pub assembled_from : (p : Parts) → IsMade d (with_declarations d (names_of d ds) nothing_made ds) p → IsAssembled d ds p
  assembled_from p is = record {
    signature = is.signature;
    program = same_program
        (map clauses_data p.preds) (map (λ k. flat_map (clause_in k) parts) names.vocabulary.predicates)
        (program p).constraints (program_of d ds).constraints (program p).words (program_of d ds).words (program p).empties (program_of d ds).empties
        (program p).lex_rules (program_of d ds).lex_rules (program p).rules (program_of d ds).rules p.semantics (program_of d ds).semantics
        (lists_in p.signature) (lists_in d) p.lex_depth (program_of d ds).lex_depth p.chain_length (program_of d ds).chain_length
        (sym (of_preds p.preds) ∙ (ap (map clauses_in) (is.preds ∙ buckets) ∙ of_keys parts names.vocabulary.predicates))
        (is.constraints ∙ constraints_all d names nothing_made ds) (is.words ∙ words_all d names nothing_made ds) (is.empties ∙ empties_all d names nothing_made ds)
        (is.lex_rules ∙ lex_rules_all d names nothing_made ds) (is.rules ∙ rules_all d names nothing_made ds)
        (is.semantics ∙ (semantics_all d names nothing_made ds ∙ said_first (flat_map semantics_in parts)))
        (ap lists_in is.signature)
        (is.lex_depth ∙ (ap (said_or usual_lex_depth) (lex_depth_all d names nothing_made ds) ∙ or_usual usual_lex_depth (flat_map lex_depth_in parts)))
        (is.chain_length ∙ (ap (said_or usual_chain_length) (chain_length_all d names nothing_made ds) ∙ or_usual usual_chain_length (flat_map chain_length_in parts)));
    preds = is.preds ∙ buckets;
    written = record {
      lex_rules = is.lex_rule_names ∙ lex_rule_names_all d names nothing_made ds;
      lines = is.lines ∙ lines_all d names nothing_made ds;
      rules = is.rule_names ∙ rule_names_all d names nothing_made ds;
      predicates = sym (keys_of_preds p.preds) ∙ (ap (map key_in) (is.preds ∙ buckets) ∙ keys_of_keys parts names.vocabulary.predicates);
    };
  }
    where
      buckets : all.buckets ≡ map (bucket_of parts) names.vocabulary.predicates
      buckets = all_buckets d names ds refl

pub assembled_is : (d : Declared) (ds : List DeclarationData) (given : NamesData) (m : Made) (p : Parts) → given ≡ names_of d ds →
    m ≡ with_declarations d given nothing_made ds → IsMade d m p → IsAssembled d ds p
assembled_is d ds given m p own built is =
    assembled_from d ds p (subst (λ (z : Made). IsMade d z p) (built ∙ ap (λ (n : NamesData). with_declarations d n nothing_made ds) own) is)

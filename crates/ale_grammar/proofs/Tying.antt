-- What declarations make one after another is the program that they make: field by field, and clauses with their predicates.
use Rattle.std.proofs.Common.{◌≡◌, ℕ, suc, Bool, true, false, Option, Some, None, List, [], ◌∷◌, ◌++◌, map, length, refl, sym, ap, ◌∙◌, subst, inl, inr}
use Rattle.std.specs.Prelude.{if◌then◌else◌}
use Rattle.std.specs.Option.{option_map}
use Rattle.std.specs.List.{flat_map}
use Rattle.std.proofs.lemmas.Bool.{cases_Bool, both_ways}
use Rattle.std.proofs.lemmas.List.{append_assoc, append-nil}
use Rattle.ale_relation.specs.Has.{Has}
use Rattle.ale_declared.specs.Declarations.{Declared}
use Rattle.ale_declared.specs.Names.{same_name, is_named, named, numbered}
use Rattle.ale_declared.proofs.NumberLemmas.{same_name_to, same_name_from, IsDistinct, IsDistinct-numbered, Has-numbered, Has-numbered_old}
use Rattle.ale_declaration.specs.Declarations as declaration
use Rattle.ale_declaration.specs.Declarations.{DeclarationData}
use Rattle.ale_logic.specs.Programs.{Clause}
use Rattle.ale_vocabulary.specs.Keys.{key}
use Rattle.ale_vocabulary.specs.Vocabularies.{predicate_key, keys_by}
use Rattle.ale_describe.specs.Names.{NamesData}
use Rattle.ale_grammar.specs.Programs.{Part, part_of, clause_of, if_of, clause_in, first_in, constraint_in, word_in, empty_in, lex_rule_in, rule_in, semantics_in, lex_depth_in, chain_length_in}
use Rattle.ale_grammar.specs.Building.{Bucket, put_where, with_all, first_said, Made, with_declaration, with_declarations, nothing_made}
use Rattle.ale_grammar.specs.Written.{lex_rule_names_of, lines_of, rule_names_of}
use Rattle.ale_grammar.specs.Assembling.{bucket_of}

-- Lists that grow at the end, and what is said first.

all_behind : {A : Type 0} (xs ys : List A) → with_all xs ys ≡ xs ++ ys
all_behind xs [] = sym (append-nil xs)
all_behind xs (y ∷ ys) = refl

then_all : {A : Type 0} (xs ys zs : List A) → with_all xs ys ++ zs ≡ xs ++ (ys ++ zs)
then_all xs ys zs = ap (λ ws. ws ++ zs) (all_behind xs ys) ∙ append_assoc xs ys zs

then_said : {A : Type 0} (o : Option A) (xs ys : List A) → first_said (first_said o xs) ys ≡ first_said o (xs ++ ys)
then_said None [] ys = refl
then_said None (x ∷ xs) ys = refl
then_said (Some a) xs ys = refl

pub said_first : {A : Type 0} (xs : List A) → first_said None xs ≡ first_in xs
said_first [] = refl
said_first (x ∷ xs) = refl

said_nothing : {A : Type 0} (o : Option A) → first_said o [] ≡ o
said_nothing None = refl
said_nothing (Some a) = refl

-- A field to which each part adds what it has.
module _ (d : Declared) (names : NamesData) where
  abbrev parts : List DeclarationData → List Part
  parts xs = map (part_of d names) xs

  abbrev made_of : Made → List DeclarationData → Made
  made_of m xs = with_declarations d names m xs

  pub constraints_all : (m : Made) (xs : List DeclarationData) → (made_of m xs).constraints ≡ m.constraints ++ flat_map constraint_in (parts xs)
  constraints_all m [] = sym (append-nil m.constraints)
  constraints_all m (x ∷ xs) = constraints_all (with_declaration d names m x) xs ∙ then_all m.constraints (constraint_in (part_of d names x)) (flat_map constraint_in (parts xs))

  pub words_all : (m : Made) (xs : List DeclarationData) → (made_of m xs).words ≡ m.words ++ flat_map word_in (parts xs)
  words_all m [] = sym (append-nil m.words)
  words_all m (x ∷ xs) = words_all (with_declaration d names m x) xs ∙ then_all m.words (word_in (part_of d names x)) (flat_map word_in (parts xs))

  pub empties_all : (m : Made) (xs : List DeclarationData) → (made_of m xs).empties ≡ m.empties ++ flat_map empty_in (parts xs)
  empties_all m [] = sym (append-nil m.empties)
  empties_all m (x ∷ xs) = empties_all (with_declaration d names m x) xs ∙ then_all m.empties (empty_in (part_of d names x)) (flat_map empty_in (parts xs))

  pub lex_rules_all : (m : Made) (xs : List DeclarationData) → (made_of m xs).lex_rules ≡ m.lex_rules ++ flat_map lex_rule_in (parts xs)
  lex_rules_all m [] = sym (append-nil m.lex_rules)
  lex_rules_all m (x ∷ xs) = lex_rules_all (with_declaration d names m x) xs ∙ then_all m.lex_rules (lex_rule_in (part_of d names x)) (flat_map lex_rule_in (parts xs))

  pub rules_all : (m : Made) (xs : List DeclarationData) → (made_of m xs).rules ≡ m.rules ++ flat_map rule_in (parts xs)
  rules_all m [] = sym (append-nil m.rules)
  rules_all m (x ∷ xs) = rules_all (with_declaration d names m x) xs ∙ then_all m.rules (rule_in (part_of d names x)) (flat_map rule_in (parts xs))

  pub lines_all : (m : Made) (xs : List DeclarationData) → (made_of m xs).lines ≡ m.lines ++ flat_map lines_of xs
  lines_all m [] = sym (append-nil m.lines)
  lines_all m (x ∷ xs) = lines_all (with_declaration d names m x) xs ∙ then_all m.lines (lines_of x) (flat_map lines_of xs)

  pub lex_rule_names_all : (m : Made) (xs : List DeclarationData) → (made_of m xs).lex_rule_names ≡ m.lex_rule_names ++ flat_map lex_rule_names_of xs
  lex_rule_names_all m [] = sym (append-nil m.lex_rule_names)
  lex_rule_names_all m (x ∷ xs) = lex_rule_names_all (with_declaration d names m x) xs ∙ then_all m.lex_rule_names (lex_rule_names_of x) (flat_map lex_rule_names_of xs)

  pub rule_names_all : (m : Made) (xs : List DeclarationData) → (made_of m xs).rule_names ≡ m.rule_names ++ flat_map rule_names_of xs
  rule_names_all m [] = sym (append-nil m.rule_names)
  rule_names_all m (x ∷ xs) = rule_names_all (with_declaration d names m x) xs ∙ then_all m.rule_names (rule_names_of x) (flat_map rule_names_of xs)

  pub semantics_all : (m : Made) (xs : List DeclarationData) → (made_of m xs).semantics ≡ first_said m.semantics (flat_map semantics_in (parts xs))
  semantics_all m [] = sym (said_nothing m.semantics)
  semantics_all m (x ∷ xs) = semantics_all (with_declaration d names m x) xs ∙ then_said m.semantics (semantics_in (part_of d names x)) (flat_map semantics_in (parts xs))

  pub lex_depth_all : (m : Made) (xs : List DeclarationData) → (made_of m xs).lex_depth ≡ first_said m.lex_depth (flat_map lex_depth_in (parts xs))
  lex_depth_all m [] = sym (said_nothing m.lex_depth)
  lex_depth_all m (x ∷ xs) = lex_depth_all (with_declaration d names m x) xs ∙ then_said m.lex_depth (lex_depth_in (part_of d names x)) (flat_map lex_depth_in (parts xs))

  pub chain_length_all : (m : Made) (xs : List DeclarationData) → (made_of m xs).chain_length ≡ first_said m.chain_length (flat_map chain_length_in (parts xs))
  chain_length_all m [] = sym (said_nothing m.chain_length)
  chain_length_all m (x ∷ xs) = chain_length_all (with_declaration d names m x) xs ∙ then_said m.chain_length (chain_length_in (part_of d names x)) (flat_map chain_length_in (parts xs))

-- Clauses: a clause put where the number of its key is, is put with the bucket of its key.

put_by : List Bucket → List ℕ → Clause → List Bucket
put_by [] k c = record { key = k; clauses = c ∷ [] } ∷ []
put_by (b ∷ bs) k c = if same_name k b.key then record { key = b.key; clauses = b.clauses ++ c ∷ [] } ∷ bs else b ∷ put_by bs k c

-- the names begin with the keys of these
abbrev Begins : List (List ℕ) → List Bucket → Type 0
Begins all [] = Unit {0}
Begins [] (b ∷ bs) = ⊥
Begins (a ∷ all) (b ∷ bs) = (a ≡ b.key) × Begins all bs

put_later : (b : Bucket) (bs : List Bucket) (o : Option ℕ) (k : List ℕ) (c : Clause) → put_where (b ∷ bs) (option_map suc o) k c ≡ b ∷ put_where bs o k c
put_later b bs None k c = refl
put_later b bs (Some n) k c = refl

put_first : (o : Option ℕ) (k : List ℕ) (c : Clause) → put_where [] o k c ≡ record { key = k; clauses = c ∷ [] } ∷ []
put_first None k c = refl
put_first (Some n) k c = refl

put_is : (all : List (List ℕ)) (bs : List Bucket) (k : List ℕ) (c : Clause) → Begins all bs → put_where bs (named all k) k c ≡ put_by bs k c
unfolding put_by
put_is all [] k c begins = put_first (named all k) k c
put_is [] (b ∷ bs) k c begins = absurd begins
put_is (a ∷ all) (b ∷ bs) k c begins =
    subst (λ z. put_where (b ∷ bs) (named (z ∷ all) k) k c ≡ put_by (b ∷ bs) k c) (sym begins.0) (go (put_is all bs k c begins.1) (same_name k b.key) refl)
  where
    go : put_where bs (named all k) k c ≡ put_by bs k c → (t : Bool) → same_name k b.key ≡ t → put_where (b ∷ bs) (named (b.key ∷ all) k) k c ≡ put_by (b ∷ bs) k c
    go rest true e = rw e refl
    go rest false e = rw e (put_later b bs (named all k) k c ∙ ap (λ z. b ∷ z) rest)

-- Buckets of keys, by a function that gives the clauses of each.
abbrev by : (List ℕ → List Clause) → List ℕ → Bucket
by g k = record { key = k; clauses = g k }

abbrev with_one : (List ℕ → List Clause) → List ℕ → Clause → List ℕ → List Clause
with_one g k c j = g j ++ if_of j k c

abbrev key_added : List (List ℕ) → List ℕ → List (List ℕ)
key_added ks k = if is_named k ks then ks else ks ++ k ∷ []

map_same : {A B : Type 0} (f g : A → B) (xs : List A) → ((x : A) → Has xs x → f x ≡ g x) → map f xs ≡ map g xs
map_same f g [] same = refl
map_same f g (x ∷ xs) same = ap (λ z. z ∷ map f xs) (same x (inl refl)) ∙ ap (λ zs. g x ∷ zs) (map_same f g xs (λ y has. same y (inr has)))

if_other : (j k : List ℕ) (c : Clause) → same_name k j ≡ false → if_of j k c ≡ []
if_other j k c e = rw e refl

if_own : (j k : List ℕ) (c : Clause) → same_name k j ≡ true → if_of j k c ≡ c ∷ []
if_own j k c e = rw e refl

not_same : (j k : List ℕ) → (k ≡ j → ⊥) → same_name k j ≡ false
not_same j k other = elim (cases_Bool (same_name k j)) [ inl t ↦ absurd (other (same_name_to k j t)) | inr f ↦ f ]

unchanged : (g : List ℕ → List Clause) (j k : List ℕ) (c : Clause) → same_name k j ≡ false → g j ≡ with_one g k c j
unchanged g j k c e = sym (ap (λ z. g j ++ z) (if_other j k c e) ∙ append-nil (g j))

if_cons : (b : Bool) (j k : List ℕ) (js : List (List ℕ)) → ◌≡◌ {A = List (List ℕ)} (if b then j ∷ js else j ∷ js ++ k ∷ []) (j ∷ (if b then js else js ++ k ∷ []))
if_cons true j k js = refl
if_cons false j k js = refl

put_maps : (g : List ℕ → List Clause) (ks : List (List ℕ)) (k : List ℕ) (c : Clause) → IsDistinct ks → ((Has ks k → ⊥) → g k ≡ []) →
    put_by (map (by g) ks) k c ≡ map (by (with_one g k c)) (key_added ks k)
unfolding put_by
put_maps g [] k c once new =
    let none : g k ≡ [] = new (λ has. has) in
    let all : c ∷ [] ≡ with_one g k c k = sym (ap (λ z. z ++ if_of k k c) none ∙ if_own k k c (same_name_from k k refl)) in
    ap (λ (z : List Clause). record { key = k; clauses = z } ∷ []) all
put_maps g (j ∷ js) k c once new = go (put_maps g js k c once.1) (same_name k j) refl
  where
    go : (((Has js k → ⊥) → g k ≡ []) → put_by (map (by g) js) k c ≡ map (by (with_one g k c)) (key_added js k)) → (t : Bool) → same_name k j ≡ t → put_by (map (by g) (j ∷ js)) k c ≡ map (by (with_one g k c)) (key_added (j ∷ js) k)
    go rest true e = rw e (here e)
      where
        others : same_name k j ≡ true → (i : List ℕ) → Has js i → by g i ≡ by (with_one g k c) i
        others e i has =
            let other : k ≡ i → ⊥ = λ q. once.0 (subst (λ z. Has js z) (sym q ∙ same_name_to k j e) has) in
            ap (λ (z : List Clause). record { key = i; clauses = z }) (unchanged g i k c (not_same i k other))

        here : same_name k j ≡ true → record { key = j; clauses = g j ++ c ∷ [] } ∷ map (by g) js ≡ by (with_one g k c) j ∷ map (by (with_one g k c)) js
        here e =
            ap (λ (z : List Clause). record { key = j; clauses = g j ++ z } ∷ map (by g) js) (sym (if_own j k c e)) ∙
            ap (λ zs. by (with_one g k c) j ∷ zs) (map_same (by g) (by (with_one g k c)) js (others e))
    go rest false e = rw e (there e ∙ ap (map (by (with_one g k c))) (sym (if_cons (is_named k js) j k js)))
      where
        still : same_name k j ≡ false → (Has js k → ⊥) → g k ≡ []
        still e no_more = new (λ has. elsewhere has)
          where
            elsewhere : Has (j ∷ js) k → ⊥
            elsewhere (inl q) = both_ways (same_name k j) e (same_name_from k j q)
            elsewhere (inr more) = no_more more

        there : same_name k j ≡ false → by g j ∷ put_by (map (by g) js) k c ≡ map (by (with_one g k c)) (j ∷ key_added js k)
        there e =
            ap (λ (z : List Clause). record { key = j; clauses = z } ∷ put_by (map (by g) js) k c) (unchanged g j k c e) ∙
            ap (λ zs. by (with_one g k c) j ∷ zs) (rest (still e))

-- names that are numbered after others begin with those
numbered_begins : (ks xs : List (List ℕ)) → (us : List (List ℕ)) × (numbered ks xs ≡ ks ++ us)
numbered_begins ks [] = ([], sym (append-nil ks))
numbered_begins ks (x ∷ xs) =
    let rest = numbered_begins (key_added ks x) xs in
    let one = added_begins (is_named x ks) in
    (one.0 ++ rest.0, rest.1 ∙ (ap (λ zs. zs ++ rest.0) one.1 ∙ append_assoc ks one.0 rest.0))
  where
    added_begins : (b : Bool) → (us : List (List ℕ)) × ((if b then ks else ks ++ x ∷ []) ≡ ks ++ us)
    added_begins true = ([], sym (append-nil ks))
    added_begins false = (x ∷ [], refl)

begins_by : (g : List ℕ → List Clause) (ks us : List (List ℕ)) → Begins (ks ++ us) (map (by g) ks)
begins_by g [] us = tt
begins_by g (k ∷ ks) us = (refl, begins_by g ks us)

module _ (d : Declared) (names : NamesData) where
  abbrev all_keys : List (List ℕ)
  all_keys = names.vocabulary.predicates

  -- the clauses so far, with those of the rest
  abbrev and_rest : (List ℕ → List Clause) → List DeclarationData → List ℕ → List Clause
  and_rest g xs k = g k ++ flat_map (clause_in k) (parts d names xs)

  step : (g : List ℕ → List Clause) (ks : List (List ℕ)) (bs : List Bucket) (k : List ℕ) (c : Clause) (rest : List (List ℕ)) → bs ≡ map (by g) ks → IsDistinct ks →
      ((j : List ℕ) → (Has ks j → ⊥) → g j ≡ []) → all_keys ≡ numbered ks (k ∷ rest) → put_where bs (named all_keys k) k c ≡ map (by (with_one g k c)) (key_added ks k)
  step g ks bs k c rest e once new q =
      let behind = numbered_begins ks (k ∷ rest) in
      let begins : Begins all_keys (map (by g) ks) = subst (λ zs. Begins zs (map (by g) ks)) (sym (q ∙ behind.1)) (begins_by g ks behind.0) in
      ap (λ zs. put_where zs (named all_keys k) k c) e ∙ (put_is all_keys (map (by g) ks) k c begins ∙ put_maps g ks k c once (new k))

  still_new : (g : List ℕ → List Clause) (ks : List (List ℕ)) (k : List ℕ) (c : Clause) → ((j : List ℕ) → (Has ks j → ⊥) → g j ≡ []) →
      (j : List ℕ) → (Has (key_added ks k) j → ⊥) → with_one g k c j ≡ []
  still_new g ks k c new j missing =
      let old : g j ≡ [] = new j (λ has. missing (Has-numbered_old ks (k ∷ []) j has)) in
      let other : k ≡ j → ⊥ = λ e. missing (subst (λ z. Has (key_added ks k) z) e (Has-numbered ks (k ∷ []) k (inl refl))) in
      ap (λ z. z ++ if_of j k c) old ∙ if_other j k c (not_same j k other)

  pub buckets_all : (m : Made) (xs : List DeclarationData) (g : List ℕ → List Clause) (ks : List (List ℕ)) → m.buckets ≡ map (by g) ks → IsDistinct ks →
      ((j : List ℕ) → (Has ks j → ⊥) → g j ≡ []) → all_keys ≡ numbered ks (keys_by predicate_key xs) →
      (with_declarations d names m xs).buckets ≡ map (by (and_rest g xs)) (numbered ks (keys_by predicate_key xs))
  buckets_all m [] g ks e once new q =
      e ∙ map_same (by g) (by (and_rest g [])) ks (λ k has. ap (λ (z : List Clause). record { key = k; clauses = z }) (sym (append-nil (g k))))
  buckets_all m (declaration.clause p ts b ∷ xs) g ks e once new q =
      let k : List ℕ = key p (length ts) in
      let c : Clause = clause_of d names ts b in
      buckets_all (with_declaration d names m (declaration.clause p ts b)) xs (with_one g k c) (key_added ks k)
      (step g ks m.buckets k c (keys_by predicate_key xs) e once new q) (IsDistinct-numbered ks (k ∷ []) once) (still_new g ks k c new) q ∙
      map_same (by (and_rest (with_one g k c) xs)) (by (and_rest g (declaration.clause p ts b ∷ xs))) (numbered (key_added ks k) (keys_by predicate_key xs))
      (λ j has. ap (λ (z : List Clause). record { key = j; clauses = z }) (append_assoc (g j) (if_of j k c) (flat_map (clause_in j) (parts d names xs))))
  buckets_all m (declaration.signature s ∷ xs) g ks e once new q = buckets_all (with_declaration d names m (declaration.signature s)) xs g ks e once new q
  buckets_all m (declaration.constraint n t h ∷ xs) g ks e once new q = buckets_all (with_declaration d names m (declaration.constraint n t h)) xs g ks e once new q
  buckets_all m (declaration.macro n ps t ∷ xs) g ks e once new q = buckets_all (with_declaration d names m (declaration.macro n ps t)) xs g ks e once new q
  buckets_all m (declaration.word w t ∷ xs) g ks e once new q = buckets_all (with_declaration d names m (declaration.word w t)) xs g ks e once new q
  buckets_all m (declaration.empty t ∷ xs) g ks e once new q = buckets_all (with_declaration d names m (declaration.empty t)) xs g ks e once new q
  buckets_all m (declaration.lex_rule n t u h ls ∷ xs) g ks e once new q = buckets_all (with_declaration d names m (declaration.lex_rule n t u h ls)) xs g ks e once new q
  buckets_all m (declaration.rule n t es ∷ xs) g ks e once new q = buckets_all (with_declaration d names m (declaration.rule n t es)) xs g ks e once new q
  buckets_all m (declaration.semantics p ∷ xs) g ks e once new q = buckets_all (with_declaration d names m (declaration.semantics p)) xs g ks e once new q
  buckets_all m (declaration.lex_depth n ∷ xs) g ks e once new q = buckets_all (with_declaration d names m (declaration.lex_depth n)) xs g ks e once new q
  buckets_all m (declaration.chain_length n ∷ xs) g ks e once new q = buckets_all (with_declaration d names m (declaration.chain_length n)) xs g ks e once new q
  buckets_all m (declaration.passed_over n ∷ xs) g ks e once new q = buckets_all (with_declaration d names m (declaration.passed_over n)) xs g ks e once new q

  pub all_buckets : (xs : List DeclarationData) → all_keys ≡ numbered [] (keys_by predicate_key xs) →
      (with_declarations d names nothing_made xs).buckets ≡ map (bucket_of (parts d names xs)) all_keys
  all_buckets xs q =
      buckets_all nothing_made xs (λ k. []) [] refl tt (λ j missing. refl) q ∙ ap (map (bucket_of (parts d names xs))) (sym q)

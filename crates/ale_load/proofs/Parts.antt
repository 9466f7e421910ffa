-- Parts are read in one way, which the function gives; and what a loop over them has read.
use Rattle.std.proofs.Common.{◌≡◌, ◌↔◌, ℕ, suc, List, [], ◌∷◌, ◌++◌, Result, Ok, Err, refl, sym, ap, ◌∙◌, append_assoc}
use Rattle.ale_term.specs.declared.lexeme.Lexeme.{Lexeme}
use Rattle.ale_form.specs.declared.error.FormError.{FormError}
use Rattle.ale_load.specs.Reading.{Refusal, AreRead, all_read, one_refused, later_refused, one_more, with_first, read_with, each_read}

-- a function carries out what a relation says of one part
abbrev pub Carries : {A : Type 0} → (List Lexeme → Result A FormError → Type 0) → (List Lexeme → Result A FormError) → Type 0
Carries {A} One one = (p : List Lexeme) (r : Result A FormError) → One p r ↔ one p ≡ r

pub read_given : {A : Type 0} (One : List Lexeme → Result A FormError → Type 0) (one : List Lexeme → Result A FormError) → Carries One one →
    {k : ℕ} {ps : List (List Lexeme)} {r : Result (List A) Refusal} → AreRead One k ps r → each_read one k ps ≡ r
read_given One one carries (all_read k) = refl
read_given One one carries (one_refused k p ps e is) = ap (λ r. read_with k r (each_read one (suc k) ps)) ((carries p (Err e)).0 is)
read_given One one carries (later_refused k p ps a r is later) =
    ap (λ x. read_with k x (each_read one (suc k) ps)) ((carries p (Ok a)).0 is) ∙ ap (with_first a) (read_given One one carries later)
read_given One one carries (one_more k p ps a items is later) =
    ap (λ x. read_with k x (each_read one (suc k) ps)) ((carries p (Ok a)).0 is) ∙ ap (with_first a) (read_given One one carries later)

more_made : {A : Type 0} (One : List Lexeme → Result A FormError → Type 0) (k : ℕ) (p : List Lexeme) (ps : List (List Lexeme)) (a : A) → One p (Ok a) →
    (later : Result (List A) Refusal) → AreRead One (suc k) ps later → AreRead One k (p ∷ ps) (with_first a later)
more_made One k p ps a is (Ok items) later = one_more k p ps a items is later
more_made One k p ps a is (Err r) later = later_refused k p ps a r is later

one_made : {A : Type 0} (One : List Lexeme → Result A FormError → Type 0) (k : ℕ) (p : List Lexeme) (ps : List (List Lexeme)) (x : Result A FormError) → One p x →
    (later : Result (List A) Refusal) → AreRead One (suc k) ps later → AreRead One k (p ∷ ps) (read_with k x later)
one_made One k p ps (Ok a) is later rest = more_made One k p ps a is later rest
one_made One k p ps (Err e) is later rest = one_refused k p ps e is

pub read_made : {A : Type 0} (One : List Lexeme → Result A FormError → Type 0) (one : List Lexeme → Result A FormError) → Carries One one →
    (k : ℕ) (ps : List (List Lexeme)) → AreRead One k ps (each_read one k ps)
read_made One one carries k [] = all_read k
read_made One one carries k (p ∷ ps) =
    one_made One k p ps (one p) ((carries p (one p)).1 refl) (each_read one (suc k) ps) (read_made One one carries (suc k) ps)

-- what was read before what the others give
abbrev pub front : {A : Type 0} → List A → Result (List A) Refusal → Result (List A) Refusal
front items (Ok bs) = Ok (items ++ bs)
front items (Err r) = Err r

pub front_none : {A : Type 0} (r : Result (List A) Refusal) → front [] r ≡ r
front_none (Ok items) = refl
front_none (Err r) = refl

front_more : {A : Type 0} (items : List A) (a : A) (r : Result (List A) Refusal) → front items (with_first a r) ≡ front (items ++ a ∷ []) r
front_more items a (Ok bs) = ap (λ cs. let r : Result (List _) Refusal = Ok cs in r) (sym (append_assoc items (a ∷ []) bs))
front_more items a (Err r) = refl

-- one part is read
pub part_read : {A : Type 0} (one : List Lexeme → Result A FormError) (k : ℕ) (items : List A) (p : List Lexeme) (ps : List (List Lexeme)) (a : A) → one p ≡ Ok a →
    front items (each_read one k (p ∷ ps)) ≡ front (items ++ a ∷ []) (each_read one (suc k) ps)
part_read one k items p ps a e = ap (λ x. front items (read_with k x (each_read one (suc k) ps))) e ∙ front_more items a (each_read one (suc k) ps)

-- one part is refused
pub part_refused : {A : Type 0} (one : List Lexeme → Result A FormError) (k : ℕ) (items : List A) (p : List Lexeme) (ps : List (List Lexeme)) (e : FormError) → one p ≡ Err e →
    front items (each_read one k (p ∷ ps)) ≡ Err (k, e)
part_refused one k items p ps e is = ap (λ x. front items (read_with k x (each_read one (suc k) ps))) is

-- A clause put with those of its predicate.
use Rattle.std.proofs.Common.{◌≡◌, ℕ, zero, suc, ◌<◌, ◌≤◌, Option, Some, None, List, [], ◌∷◌, ◌++◌, map, length, get_or, Result, Ok, Err, refl, sym, ap, ◌∙◌, subst, arith}
use Rattle.std.specs.Prelude.{slice_set, OnOk}
use Rattle.std.proofs.lemmas.List.{map-append}
use Rattle.ale_program.specs.declared.clause.Clause.{Clause}
use Rattle.ale_program.specs.declared.clause.Pred.{Pred}
use Rattle.ale_program.specs.Views.{clause_data}
use Rattle.ale_logic.specs.Programs as plain
use Rattle.ale_grammar.specs.Building.{Bucket, bucket, put_at, put_where}

with_one : (p : Pred) (c : Clause) → bucket (record p { clauses = p.clauses ++ c ∷ [] }) ≡ record (bucket p) { clauses = (bucket p).clauses ++ clause_data c ∷ [] }
with_one p c = ap (λ (z : List plain.Clause). record (bucket p) { clauses = z }) (map-append clause_data p.clauses (c ∷ []))

pub put_within : (ps : List Pred) (n : ℕ) (q r : Pred) (k : List ℕ) (c : Clause) → n < length ps → q ≡ get_or ps n q →
    r ≡ record q { clauses = q.clauses ++ c ∷ [] } → map bucket (slice_set ps n r) ≡ put_at (map bucket ps) n k (clause_data c)
put_within [] n q r k c low is e = absurd (omega arith)
put_within (p ∷ ps) zero q r k c low is e =
    ap (λ (z : Pred). bucket z ∷ map bucket ps) (e ∙ ap (λ (z : Pred). record z { clauses = z.clauses ++ c ∷ [] }) is) ∙ ap (λ z. z ∷ map bucket ps) (with_one p c)
put_within (p ∷ ps) (suc n) q r k c low is e = ap (λ z. bucket p ∷ z) (put_within ps n q r k c (omega arith) is e)

pub put_beyond : (bs : List Bucket) (n : ℕ) (k : List ℕ) (c : plain.Clause) → length bs ≤ n → put_at bs n k c ≡ put_where bs None k c
put_beyond [] n k c far = refl
put_beyond (b ∷ bs) zero k c far = absurd (omega arith)
put_beyond (b ∷ bs) (suc n) k c far = ap (λ z. b ∷ z) (put_beyond bs n k c (omega arith))

pub pushed : (ps ps' : List Pred) (q : Pred) (k : List ℕ) (c : plain.Clause) → ps' ≡ ps ++ q ∷ [] → bucket q ≡ record { key = k; clauses = c ∷ [] } →
    map bucket ps' ≡ put_where (map bucket ps) None k c
pushed ps ps' q k c e f = ap (map bucket) e ∙ (map-append bucket ps (q ∷ []) ∙ ap (λ z. map bucket ps ++ z ∷ []) f)

pub on_ok : {A E : Type 0} (r : Result A E) (P Q : Type 0) → (P → Q) → OnOk r P → OnOk r Q
on_ok (Ok x) P Q f p = f p
on_ok (Err e) P Q f p = tt

length_buckets : (ps : List Pred) → length (map bucket ps) ≡ length ps
length_buckets [] = refl
length_buckets (p ∷ ps) = ap suc (length_buckets ps)

-- beyond the predicates that are there, the clause is the first of a new one
pub beyond : (ps : List Pred) (o : Option ℕ) (n : ℕ) (k : List ℕ) (c : plain.Clause) → o ≡ Some n → length ps ≤ n →
    put_where (map bucket ps) None k c ≡ put_where (map bucket ps) o k c
beyond ps o n k c e far =
    sym (put_beyond (map bucket ps) n k c (subst (λ z. z ≤ n) (sym (length_buckets ps)) far)) ∙ ap (λ z. put_where (map bucket ps) z k c) (sym e)

pub within : (ps : List Pred) (o : Option ℕ) (n : ℕ) (q r : Pred) (k : List ℕ) (c : Clause) → o ≡ Some n → n < length ps → q ≡ get_or ps n q →
    r ≡ record q { clauses = q.clauses ++ c ∷ [] } → map bucket (slice_set ps n r) ≡ put_where (map bucket ps) o k (clause_data c)
within ps o n q r k c e low is f = put_within ps n q r k c low is f ∙ ap (λ z. put_where (map bucket ps) z k (clause_data c)) (sym e)

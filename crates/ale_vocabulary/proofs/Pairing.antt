-- Keys as pairs of places and numbers of arguments.
use Rattle.std.proofs.Common.{◌≡◌, ℕ, suc, ◌+◌, Bool, Option, Some, None, List, [], ◌∷◌, ◌++◌, refl, sym, ap, ◌∙◌, inl, inr, arith, nat_eq, zero-add, position}
use Rattle.std.specs.Prelude.{◌&&◌, ◌||◌}
use Rattle.std.specs.List.{list_any, position_from}
use Rattle.std.specs.Option.{option_map}
use Rattle.std.proofs.lemmas.Bool.{cases_Bool, both_ways, false_from_ne_true, and_parts, and_from, eqb-true, eq-eqb}
use Rattle.std.proofs.lemmas.Iterator.Adapters.{position_from-zero}
use Rattle.indexmap.specs.IndexSet.{insert_key}
use Rattle.ale_declared.specs.Names.{same_name, is_named, named, name_of, numbered}
use Rattle.ale_declared.proofs.NumberLemmas.{same_name_to, same_name_from}
use Rattle.ale_vocabulary.specs.Keys.{key}
use Rattle.ale_vocabulary.specs.Pairs.{keys_of, ArePaired}
use Rattle.ale_vocabulary.proofs.Named.{name_of_named, named_numbered}
use Rattle.ale_vocabulary.proofs.Keying.{keys_apart}

-- two pairs are the same
abbrev pub same_pair : ℕ × ℕ → ℕ × ℕ → Bool
same_pair p q = nat_eq p.0 q.0 && nat_eq p.1 q.1

-- a pair that is there is the one of a key exactly where the key is the same
pair_key : (ns : List (List ℕ)) (x : List ℕ) (n a : ℕ) (p : ℕ × ℕ) → named ns x ≡ Some n →
    named ns (name_of ns p.0) ≡ Some p.0 → same_pair (n, a) p ≡ same_name (key x a) (key (name_of ns p.0) p.1)
pair_key ns x n a p e its = elim (cases_Bool (same_name (key x a) (key (name_of ns p.0) p.1))) [
  | inl t ↦
      let both = keys_apart x (name_of ns p.0) a p.1 (same_name_to (key x a) (key (name_of ns p.0) p.1) t) in
      let places : Some n ≡ Some p.0 = sym e ∙ ap (named ns) both.0 ∙ its in
      let place : n ≡ p.0 = cc in
      and_from (nat_eq n p.0) (nat_eq a p.1) (eq-eqb n p.0 place) (eq-eqb a p.1 both.1) ∙ sym t
  | inr f ↦
      false_from_ne_true (same_pair (n, a) p) (λ h.
      let parts = and_parts (nat_eq n p.0) (nat_eq a p.1) h in
      let place : n ≡ p.0 = eqb-true n p.0 parts.0 in
      let arity : a ≡ p.1 = eqb-true a p.1 parts.1 in
      let name : x ≡ name_of ns p.0 = sym (name_of_named ns x n e) ∙ ap (name_of ns) place in
      both_ways (same_name (key x a) (key (name_of ns p.0) p.1)) f
      (same_name_from (key x a) (key (name_of ns p.0) p.1) (ap (λ z. key z a) name ∙ ap (key (name_of ns p.0)) arity)))
      ∙ sym f
]

-- a name that is not there is in no key
pub named_nowhere : (ns : List (List ℕ)) (ps : List (ℕ × ℕ)) (x : List ℕ) (a : ℕ) → ArePaired ns ps → named ns x ≡ None → named (keys_of ns ps) (key x a) ≡ None
named_nowhere ns [] x a h e = refl
named_nowhere ns (p ∷ ps) x a h e = elim (cases_Bool (same_name (key x a) (key (name_of ns p.0) p.1))) [
  | inl t ↦
      let both = keys_apart x (name_of ns p.0) a p.1 (same_name_to (key x a) (key (name_of ns p.0) p.1) t) in
      let places : None ≡ Some p.0 = sym e ∙ ap (named ns) both.0 ∙ h.0 in
      absurd cc
  | inr f ↦ rw f (ap (option_map suc) (named_nowhere ns ps x a h.1 e))
]

place_from : (ns : List (List ℕ)) (ps : List (ℕ × ℕ)) (x : List ℕ) (n a i : ℕ) → ArePaired ns ps → named ns x ≡ Some n →
    position_from (same_pair (n, a)) i ps ≡ option_map (λ j. j + i) (named (keys_of ns ps) (key x a))
place_from ns [] x n a i h e = refl
place_from ns (p ∷ ps) x n a i h e =
    let same = pair_key ns x n a p e h.0 in
    elim (cases_Bool (same_name (key x a) (key (name_of ns p.0) p.1))) [
      | inl t ↦ rw (same, t) (ap Some (sym (zero-add i)))
      | inr f ↦ rw (same, f) (place_from ns ps x n a (i + 1) h.1 e ∙ moved (named (keys_of ns ps) (key x a)))
    ]
  where
    moved : (o : Option ℕ) → option_map (λ j. j + (i + 1)) o ≡ option_map (λ j. j + i) (option_map suc o)
    moved None = refl
    moved (Some j) = ap Some (omega arith)

-- the place of a pair is that of its key
pub named_pair : (ns : List (List ℕ)) (ps : List (ℕ × ℕ)) (x : List ℕ) (n a : ℕ) → ArePaired ns ps → named ns x ≡ Some n →
    position (same_pair (n, a)) ps ≡ named (keys_of ns ps) (key x a)
named_pair ns ps x n a h e =
    position_from-zero (same_pair (n, a)) ps ∙ place_from ns ps x n a 0 h e ∙ still (named (keys_of ns ps) (key x a))
  where
    still : (o : Option ℕ) → option_map (λ j. j + 0) o ≡ o
    still None = refl
    still (Some j) = ap Some (omega arith)

-- a name more changes no key
pub paired_wider : (ns : List (List ℕ)) (ps : List (ℕ × ℕ)) (x : List ℕ) → ArePaired ns ps → ArePaired (numbered ns (x ∷ [])) ps
paired_wider ns [] x h = tt
paired_wider ns (p ∷ ps) x h =
    let there = named_numbered ns x (name_of ns p.0) p.0 h.0 in
    (ap (named (numbered ns (x ∷ []))) (name_of_named (numbered ns (x ∷ [])) (name_of ns p.0) p.0 there) ∙ there, paired_wider ns ps x h.1)

pub keys_wider : (ns : List (List ℕ)) (ps : List (ℕ × ℕ)) (x : List ℕ) → ArePaired ns ps → keys_of (numbered ns (x ∷ [])) ps ≡ keys_of ns ps
keys_wider ns [] x h = refl
keys_wider ns (p ∷ ps) x h =
    let there = named_numbered ns x (name_of ns p.0) p.0 h.0 in
    ap (λ z. key z p.1 ∷ keys_of (numbered ns (x ∷ [])) ps) (name_of_named (numbered ns (x ∷ [])) (name_of ns p.0) p.0 there)
    ∙ ap (λ ks. key (name_of ns p.0) p.1 ∷ ks) (keys_wider ns ps x h.1)

paired_append : (ns : List (List ℕ)) (ps : List (ℕ × ℕ)) (q : ℕ × ℕ) → ArePaired ns ps → named ns (name_of ns q.0) ≡ Some q.0 → ArePaired ns (ps ++ q ∷ [])
paired_append ns [] q h its = (its, tt)
paired_append ns (p ∷ ps) q h its = (h.0, paired_append ns ps q h.1 its)

keys_append : (ns : List (List ℕ)) (ps : List (ℕ × ℕ)) (q : ℕ × ℕ) → keys_of ns (ps ++ q ∷ []) ≡ keys_of ns ps ++ key (name_of ns q.0) q.1 ∷ []
keys_append ns [] q = refl
keys_append ns (p ∷ ps) q = ap (λ ks. key (name_of ns p.0) p.1 ∷ ks) (keys_append ns ps q)

any_pair : (ns : List (List ℕ)) (ps : List (ℕ × ℕ)) (x : List ℕ) (n a : ℕ) → ArePaired ns ps → named ns x ≡ Some n →
    list_any (same_pair (n, a)) ps ≡ is_named (key x a) (keys_of ns ps)
any_pair ns [] x n a h e = refl
any_pair ns (p ∷ ps) x n a h e =
    ap (λ b. b || list_any (same_pair (n, a)) ps) (pair_key ns x n a p e h.0)
    ∙ ap (λ b. same_name (key x a) (key (name_of ns p.0) p.1) || b) (any_pair ns ps x n a h.1 e)

-- a pair more
pub paired_more : (ns : List (List ℕ)) (ps : List (ℕ × ℕ)) (x : List ℕ) (n a : ℕ) → ArePaired ns ps → named ns x ≡ Some n → ArePaired ns (insert_key same_pair ps (n, a))
paired_more ns ps x n a h e = elim (cases_Bool (list_any (same_pair (n, a)) ps)) [
  | inl t ↦ rw t h
  | inr f ↦ rw f (paired_append ns ps (n, a) h (ap (named ns) (name_of_named ns x n e) ∙ e))
]

pub keys_more : (ns : List (List ℕ)) (ps : List (ℕ × ℕ)) (x : List ℕ) (n a : ℕ) → ArePaired ns ps → named ns x ≡ Some n →
    keys_of ns (insert_key same_pair ps (n, a)) ≡ numbered (keys_of ns ps) (key x a ∷ [])
keys_more ns ps x n a h e =
    let same = any_pair ns ps x n a h e in
    elim (cases_Bool (is_named (key x a) (keys_of ns ps))) [
      | inl t ↦ rw (same, t) refl
      | inr f ↦ rw (same, f) (keys_append ns ps (n, a) ∙ ap (λ z. keys_of ns ps ++ key z a ∷ []) (name_of_named ns x n e))
    ]

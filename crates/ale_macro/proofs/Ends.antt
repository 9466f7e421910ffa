-- Both ends of the pairs of calls are macros that are there.
use Rattle.std.proofs.Common.{◌≡◌, ℕ, suc, ◌+◌, ◌<◌, ◌≤◌, ◌&&◌, true, nat_lt, List, [], ◌∷◌, ◌++◌, length, refl, inl, inr, arith}
use Rattle.std.proofs.lemmas.Bool.{and_from, lt-ltb}
use Rattle.ale_relation.specs.Has.{Has}
use Rattle.ale_relation.specs.Paths.{ends_below}
use Rattle.ale_macro.specs.Templates.{MacroData}
use Rattle.ale_macro.specs.Calls.{calls_in, pairs, calls_from, calls_of, BodiesKnown}
use Rattle.ale_macro.proofs.Fits.{known_below}

pairs_below : (size m : ℕ) (ks : List ℕ) (behind : List (ℕ × ℕ)) → m < size → ((k : ℕ) → Has ks k → k < size) → ends_below size behind ≡ true → ends_below size (pairs m ks ++ behind) ≡ true
pairs_below size m [] behind low each rest = rest
pairs_below size m (k ∷ ks) behind low each rest =
    and_from (nat_lt m size && nat_lt k size) (ends_below size (pairs m ks ++ behind))
    (and_from (nat_lt m size) (nat_lt k size) (lt-ltb m size low) (lt-ltb k size (each k (inl refl))))
    (pairs_below size m ks behind low (λ n h. each n (inr h)) rest)

calls_below : (ms xs : List MacroData) (n : ℕ) → n + length xs ≤ length ms → BodiesKnown ms xs → ends_below (length ms) (calls_from n xs) ≡ true
calls_below ms [] n few known = refl
calls_below ms (x ∷ xs) n few known =
    pairs_below (length ms) n (calls_in x.body) (calls_from (suc n) xs) (omega arith) (known_below ms x.body known.0)
    (calls_below ms xs (suc n) (omega arith) known.1)

pub ends_are_below : (ms : List MacroData) → BodiesKnown ms ms → ends_below (length ms) (calls_of ms) ≡ true
ends_are_below ms known = calls_below ms ms 0 (omega arith) known

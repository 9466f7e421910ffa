-- Looking for the longer symbols first finds the longest.
use Rattle.std.proofs.Common.{◌≡◌, ℕ, ◌≤◌, max, Bool, true, false, ◌||◌, ◌&&◌, List, [], ◌∷◌, ◌++◌, length, refl, ap, ◌∙◌, arith}
use Rattle.std.specs.Prelude.{◌==◌, if◌then◌else◌}
use Rattle.std.proofs.lemmas.Bool.{and_parts, eqb-true}
use Rattle.ale_token.specs.Pieces.{begins, longest, symbols}
use Rattle.ale_token.specs.Symbols.{begins_any, symbols_of_four, symbols_of_three, symbols_of_two, symbols_of_one, symbol_length}

-- each of these has so many characters
abbrev all_long : ℕ → List (List ℕ) → Bool
all_long k [] = true
all_long k (s ∷ ss) = (length s == k) && all_long k ss

-- of two, each of which is at most so long
longer : (b : Bool) (k m : ℕ) → m ≤ k → max (if b then k else 0) m ≡ (if b then k else m)
longer true k m h = omega arith
longer false k m h = omega arith

at_most : (b : Bool) (k m n : ℕ) → k ≤ n → m ≤ n → (if b then k else m) ≤ n
at_most true k m n h l = h
at_most false k m n h l = l

-- one more, which begins the text or not
one_more : (b : Bool) (rest : Bool) (s : List ℕ) (k m : ℕ) → length s ≡ k → m ≡ (if rest then k else 0)
    → (if b then max (length s) m else m) ≡ (if (b || rest) then k else 0)
one_more true true s k m e r = omega (arith, r)
one_more true false s k m e r = omega (arith, r)
one_more false true s k m e r = r
one_more false false s k m e r = r

-- where all are of one length
longest-even : (k : ℕ) (ss : List (List ℕ)) (cs : List ℕ) → all_long k ss ≡ true
    → longest ss cs ≡ (if begins_any ss cs then k else 0)
longest-even k [] cs h = refl
longest-even k (s ∷ ss) cs h =
    let parts = and_parts (length s == k) (all_long k ss) h in
    one_more (begins s cs) (begins_any ss cs) s k (longest ss cs) (eqb-true (length s) k parts.0) (longest-even k ss cs parts.1)

-- of the first part of a list or of the second
one_longest : (b : Bool) (l m n : ℕ) → (if b then max l (max m n) else max m n) ≡ max (if b then max l m else m) n
one_longest true l m n = omega arith
one_longest false l m n = refl

longest-append : (ss us : List (List ℕ)) (cs : List ℕ) → longest (ss ++ us) cs ≡ max (longest ss cs) (longest us cs)
longest-append [] us cs = omega arith
longest-append (s ∷ ss) us cs =
    ap (λ m. if begins s cs then max (length s) m else m) (longest-append ss us cs)
    ∙ one_longest (begins s cs) (length s) (longest ss cs) (longest us cs)

-- one length before the lengths below it
longest-before : (k m : ℕ) (ss us : List (List ℕ)) (cs : List ℕ) → all_long k ss ≡ true → longest us cs ≡ m → m ≤ k
    → longest (ss ++ us) cs ≡ (if begins_any ss cs then k else m)
longest-before k m ss us cs h e l =
    longest-append ss us cs ∙ rw (longest-even k ss cs h, e) (longer (begins_any ss cs) k m l)

pub longest-symbols : (cs : List ℕ) → longest symbols cs ≡ symbol_length cs
unfolding symbols
longest-symbols cs =
    let one = begins_any symbols_of_one cs in
    let two = begins_any symbols_of_two cs in
    let three = begins_any symbols_of_three cs in
    let ones = longest-even 1 symbols_of_one cs refl in
    let twos = longest-before 2 (if one then 1 else 0) symbols_of_two symbols_of_one cs
    refl ones (at_most one 1 0 2 (omega arith) (omega arith)) in
    let threes = longest-before 3 (if two then 2 else if one then 1 else 0) symbols_of_three
    (symbols_of_two ++ symbols_of_one) cs refl twos
    (at_most two 2 (if one then 1 else 0) 3 (omega arith) (at_most one 1 0 3 (omega arith) (omega arith))) in
    longest-before 4 (if three then 3 else if two then 2 else if one then 1 else 0) symbols_of_four
    (symbols_of_three ++ (symbols_of_two ++ symbols_of_one)) cs refl threes
    (at_most three 3 (if two then 2 else if one then 1 else 0) 4 (omega arith)
    (at_most two 2 (if one then 1 else 0) 4 (omega arith) (at_most one 1 0 4 (omega arith) (omega arith))))

pub ruleset longest_first = (longest-symbols)

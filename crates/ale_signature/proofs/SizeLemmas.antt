-- The size of what is filled in below a type: once it is below the depth that it is counted to, it is the whole.
use Rattle.std.proofs.Common.{◌≡◌, sym, ap, ◌<◌, refl, ℕ, zero, suc, ◌≤◌, Option, Some, None, arith, subst, length}
use Rattle.ale_declared.specs.Lists.{sum_over}
use Rattle.ale_declared.specs.Declarations.{Declared}
use Rattle.ale_hierarchy.specs.Hierarchy.{size_at}
use Rattle.ale_hierarchy.specs.Order.{all_features, approp, leads_through, if_there, size_to, size, hierarchy}
use Rattle.ale_hierarchy.specs.Accepted.{restriction_edges}
use Rattle.ale_hierarchy.specs.Limits.{most_types, most_nodes}
use Rattle.ale_declared.specs.Numbering.{IsWellNumbered}
use Rattle.ale_hierarchy.proofs.PathLemmas.{HasNoCycle, led, led-less}
use Rattle.ale_hierarchy.proofs.AcceptedLemmas.{Has-restriction_edges, EndsBelow-restriction_edges}
use Rattle.ale_declared.proofs.ListLemmas.{le-sum_over, sum_over_same, sum_over-le, upto_has, upto_below, length-filter-upto-le}

-- measures that agree up to n agree on what is there
if_there_same : (f g : ℕ → ℕ) (n : ℕ) (o : Option ℕ) → ((r : ℕ) → g r ≤ n → f r ≡ g r) → if_there g o ≤ n → if_there f o ≡ if_there g o
if_there_same f g n None h below = refl
if_there_same f g n (Some r) h below = h r below

-- a larger measure of what is there
if_there-le : (f g : ℕ → ℕ) (o : Option ℕ) → ((r : ℕ) → f r ≤ g r) → if_there f o ≤ if_there g o
if_there-le f g None h = omega arith
if_there-le f g (Some r) h = h r

-- counted to a larger depth the size stays the same, once it is below the depth
pub size_to-steady : (d : Declared) (n m t : ℕ) → n ≤ m → size_to d (suc n) t ≤ n → size_to d (suc m) t ≡ size_to d (suc n) t
size_to-steady d zero m t more below = absurd (omega arith)
size_to-steady d (suc n) zero t more below = absurd (omega arith)
size_to-steady d (suc n) (suc m) t more below =
    ap suc (sum_over_same (λ f. if_there (size_to d (suc m)) (approp d f t)) (λ f. if_there (size_to d (suc n)) (approp d f t)) (all_features d)
    (λ f there.
    let part : if_there (size_to d (suc n)) (approp d f t) ≤ sum_over (λ f. if_there (size_to d (suc n)) (approp d f t)) (all_features d) =
    le-sum_over (λ f. if_there (size_to d (suc n)) (approp d f t)) (all_features d) f there in
    if_there_same (size_to d (suc m)) (size_to d (suc n)) n (approp d f t)
    (λ r small. size_to-steady d n m r (omega arith) small)
    (omega arith)))

-- one more, and the sizes of all that is filled in
pub size_to-is : (d : Declared) (n t : ℕ) → size_to d (suc n) t ≤ n → size_to d (suc n) t ≡ suc (sum_over (λ f. if_there (size_to d (suc n)) (approp d f t)) (all_features d))
size_to-is d n t below = sym (size_to-steady d n (suc n) t (omega arith) below)

-- of a type within the limit
pub size_is : (d : Declared) (t : ℕ) → size d t ≤ most_nodes → size d t ≡ suc (sum_over (λ f. if_there (size d) (approp d f t)) (all_features d))
unfolding size
size_is d t below = size_to-is d most_nodes t below

-- a size counted to a depth above it is the size
pub size_to-size : (d : Declared) (n t : ℕ) → n ≤ most_nodes → size_to d (suc n) t ≤ n → size d t ≡ size_to d (suc n) t
unfolding size
size_to-size d n t h below = size_to-steady d n most_nodes t h below

-- counted to a larger depth the size is no smaller
pub size_to-le : (d : Declared) (n m t : ℕ) → n ≤ m → size_to d n t ≤ size_to d m t
size_to-le d zero m t more = omega arith
size_to-le d (suc n) zero t more = absurd (omega arith)
size_to-le d (suc n) (suc m) t more =
    let parts : sum_over (λ f. if_there (size_to d n) (approp d f t)) (all_features d) ≤ sum_over (λ f. if_there (size_to d m) (approp d f t)) (all_features d) =
    sum_over-le (λ f. if_there (size_to d n) (approp d f t)) (λ f. if_there (size_to d m) (approp d f t)) (all_features d)
    (λ f. if_there-le (size_to d n) (size_to d m) (approp d f t) (λ r. size_to-le d n m r (omega arith))) in
    omega arith

-- counted one less deep it is no larger
size_to-within : (d : Declared) (n t : ℕ) → suc (sum_over (λ f. if_there (size_to d (suc n)) (approp d f t)) (all_features d)) ≤ n → size_to d (suc n) t ≤ n
size_to-within d n t below =
    let more : size_to d (suc n) t ≤ size_to d (suc (suc n)) t = size_to-le d (suc n) (suc (suc n)) t (omega arith) in
    omega arith

-- a type whose fill is within the limit is
size_within : (d : Declared) (t : ℕ) → suc (sum_over (λ f. if_there (size d) (approp d f t)) (all_features d)) ≤ most_nodes → size d t ≤ most_nodes
unfolding size
size_within d t below = size_to-within d most_nodes t below

-- one more than the sizes of all that is filled in, where that is within the limit
pub size_from : (d : Declared) (t : ℕ) → suc (sum_over (λ f. if_there (size d) (approp d f t)) (all_features d)) ≤ most_nodes → size d t ≡ suc (sum_over (λ f. if_there (size d) (approp d f t)) (all_features d))
size_from d t below = size_is d t (size_within d t below)

-- what is filled in is smaller, where all is within the limit
pub size-less : (d : Declared) (f t r : ℕ) → f < length d.features → approp d f t ≡ Some r → size d t ≤ most_nodes → size d r < size d t
size-less d f t r listed h below =
    let all : size d t ≡ suc (sum_over (λ f. if_there (size d) (approp d f t)) (all_features d)) = size_is d t below in
    let part : if_there (size d) (approp d f t) ≤ sum_over (λ f. if_there (size d) (approp d f t)) (all_features d) =
    le-sum_over (λ f. if_there (size d) (approp d f t)) (all_features d) f (upto_has (length d.features) f listed) in
    let at_r : size d r ≤ sum_over (λ f. if_there (size d) (approp d f t)) (all_features d) = subst (λ o. if_there (size d) o ≤ sum_over (λ f. if_there (size d) (approp d f t)) (all_features d)) h part in
    omega arith

-- the same words in `Hierarchy`
pub size_at-is : (d : Declared) (o : Option ℕ) → size_at (hierarchy d) o ≡ if_there (size d) o
unfolding hierarchy
size_at-is d None = refl
size_at-is d (Some r) = refl

-- ---- where restrictions never lead back

-- what is filled in at one feature, counted one deeper
settled_part : (d : Declared) (n t f : ℕ) (o : Option ℕ) → approp d f t ≡ o → ((r : ℕ) → approp d f t ≡ Some r → size_to d (suc n) r ≡ size_to d n r) → if_there (size_to d (suc n)) o ≡ if_there (size_to d n) o
settled_part d n t f None e later = refl
settled_part d n t f (Some r) e later = later r e

-- counted deeper than restrictions lead the size stays the same
size_to-settled : (d : Declared) (n t : ℕ) → IsWellNumbered d → HasNoCycle (restriction_edges d) → t < length d.types
    → led (restriction_edges d) (length d.types) t < n → size_to d (suc n) t ≡ size_to d n t
size_to-settled d zero t w free inside less = absurd (omega arith)
size_to-settled d (suc n) t w free inside less =
    ap suc (sum_over_same (λ f. if_there (size_to d (suc n)) (approp d f t)) (λ f. if_there (size_to d n) (approp d f t)) (all_features d)
    (λ f there. settled_part d n t f (approp d f t) refl (λ r e.
    let edge = Has-restriction_edges d f t r (upto_below (length d.features) f there) inside e in
    let fewer : led (restriction_edges d) (length d.types) r < led (restriction_edges d) (length d.types) t =
    led-less (restriction_edges d) (length d.types) t r (EndsBelow-restriction_edges d w) free edge in
    size_to-settled d n r w free (EndsBelow-restriction_edges d w t r edge).1 (omega arith))))

size_to-adds_up : (d : Declared) (n t : ℕ) → IsWellNumbered d → HasNoCycle (restriction_edges d) → t < length d.types
    → length d.types < n → size_to d n t ≡ suc (sum_over (λ f. if_there (size_to d n) (approp d f t)) (all_features d))
size_to-adds_up d n t w free inside more =
    let few : led (restriction_edges d) (length d.types) t ≤ length d.types = length-filter-upto-le (λ u. leads_through (restriction_edges d) (length d.types) t u) (length d.types) in
    sym (size_to-settled d n t w free inside (omega arith))

-- within the limit of types no restrictions lead deeper than sizes are counted
pub size-adds_up : (d : Declared) (t : ℕ) → IsWellNumbered d → HasNoCycle (restriction_edges d) → length d.types ≤ most_types → t < length d.types
    → size d t ≡ suc (sum_over (λ f. if_there (size d) (approp d f t)) (all_features d))
unfolding size
size-adds_up d t w free few inside = size_to-adds_up d (suc most_nodes) t w free inside (omega (arith, few))

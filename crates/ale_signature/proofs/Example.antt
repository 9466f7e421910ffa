-- A small accepted signature: `a sub [c] intro [f:bot]. b sub [c]. c intro [f:b]. ext [c].`
use Rattle.std.proofs.Common.{◌≡◌, sym, subst, refl, ℕ, zero, suc, ◌<◌, ◌≤◌, Bool, true, false, eqb, Option, Some, None, List, [], ◌∷◌, length, inl, inr, arith, ltb, leb}
use Rattle.std.specs.Prelude.{is_some, ◌&&◌, ◌||◌, not, codes, ◌≢◌}
use Rattle.std.proofs.lemmas.Bool.{both_ways, false≢true, and_parts, and_from, or_cases, ltb-true, leb-true, eqb-true, not-true}
use Rattle.ale_relation.specs.Has.{Has}
use Rattle.ale_declared.specs.Lists.{upto, first, every}
use Rattle.ale_declared.specs.Declarations.{Declared, declared}
use Rattle.ale_hierarchy.specs.Order.{Applies, Introduces, is_above, leads_through, join_of, join, restrictions, mentioning, approp, is_ext, size_to, size}
use Rattle.ale_hierarchy.specs.Limits.{most_nodes}
use Rattle.ale_hierarchy.specs.Accepted.{IsAccepted, restriction_edges}
use Rattle.ale_declared.specs.Numbering.{IsWellNumbered}
use Rattle.ale_signature.specs.Laws.{SomeIsAccepted}
use Rattle.ale_declared.specs.declared.decl.Mention.{Mention}
use Rattle.ale_declared.specs.declared.decl.SigDecl.{SigDecl}
use Rattle.ale_declared.specs.declared.decl.SigDecl.TheVariants.{Kind, Ext}
use Rattle.ale_declared.proofs.ListLemmas.{upto_has, every_at}
use Rattle.ale_hierarchy.proofs.AppropLemmas.{Has-restrictions, IsRestriction_inside, approp_to, first_introduces}
use Rattle.ale_hierarchy.proofs.JoinLemmas.{none_from}
use Rattle.ale_signature.proofs.SizeLemmas.{size_to-size}
use Rattle.ale_hierarchy.proofs.AcceptedLemmas.{HasNoCycle-from, HasJoins-from, HasRestrictions-from, EndsBelow-restriction_edges, ext_last-from}

-- the written declarations
unfoldable pub written : List SigDecl
written =
    Kind (codes "a") (codes "c" ∷ []) ((codes "f", codes "bot") ∷ [])
    ∷ Kind (codes "b") (codes "c" ∷ []) []
    ∷ Kind (codes "c") [] ((codes "f", codes "b") ∷ [])
    ∷ Ext (codes "c" ∷ [])
    ∷ []

-- what they declare
unfoldable pub small : Declared
small = record {
  types = codes "bot" ∷ codes "a" ∷ codes "c" ∷ codes "b" ∷ [];
  features = codes "f" ∷ [];
  edges = (1, 2) ∷ (3, 2) ∷ (0, 1) ∷ (0, 3) ∷ [];
  mentions = record { at = 1; feature = 0; restriction = 0 } ∷ record { at = 2; feature = 0; restriction = 3 } ∷ [];
  ext = 2 ∷ [];
}

-- as `declared` reads them
pub declared-written : declared written ≡ small
unfolding declared written small
declared-written = refl

-- what is there, of a test
some_is : (o : Option ℕ) → is_some o ≡ true → (x : ℕ) × (o ≡ Some x)
some_is None h = absurd (false≢true h)
some_is (Some x) h = (x, refl)

-- a list without elements
is_nil : List ℕ → Bool
is_nil [] = true
is_nil (x ∷ xs) = false

-- a list without elements has none
not_nil : (xs : List ℕ) (x : ℕ) → is_nil xs ≡ true → Has xs x → ⊥
unfolding is_nil
not_nil [] x h k = k
not_nil (y ∷ ys) x h k = false≢true h

-- each type but `bot` has a type directly above it
parent : (t : ℕ) → t < 4 → t ≢ 0 → (p : ℕ) × Has small.edges (p, t)
unfolding small
parent zero below apart = absurd (apart refl)
parent (suc zero) below apart = (0, inr (inr (inl refl)))
parent (suc (suc zero)) below apart = (1, inl refl)
parent (suc (suc (suc zero))) below apart = (0, inr (inr (inr (inl refl))))
parent (suc (suc (suc (suc t)))) below apart = absurd (omega arith)

-- the feature is mentioned
small_mentioned : (f : ℕ) → f < 1 → (m : Mention) × Has small.mentions m × (m.feature ≡ f)
unfolding small
small_mentioned zero below = (record { at = 1; feature = 0; restriction = 0 }, inl refl, refl)
small_mentioned (suc f) below = absurd (omega arith)

-- all numbers are those of types and features
well_numbered : IsWellNumbered small
unfolding small
well_numbered = record {
  edges = λ a b h.
      let both = and_parts (ltb a 4) (ltb b 4) (every_at (λ (e : ℕ × ℕ). ltb e.0 4 && ltb e.1 4) small.edges (a, b) refl h) in
      (ltb-true a 4 both.0, ltb-true b 4 both.1);
  mentions = λ m h.
      let both = and_parts (ltb m.at 4) (ltb m.feature 1 && ltb m.restriction 4) (every_at (λ (m : Mention). ltb m.at 4 && (ltb m.feature 1 && ltb m.restriction 4)) small.mentions m refl h) in
      let more = and_parts (ltb m.feature 1) (ltb m.restriction 4) both.1 in
      (ltb-true m.at 4 both.0, ltb-true m.feature 1 more.0, ltb-true m.restriction 4 more.1);
  ext = λ t h. ltb-true t 4 (every_at (λ t. ltb t 4) small.ext t refl h);
  some_type = omega arith;
  has_parent = parent;
  mentioned = small_mentioned;
}

-- no type leads back to itself, by computing, as all the tests that follow
no_cycle_test : every (λ t. not (leads_through small.edges 4 t t)) (upto 4) ≡ true
unfolding small leads_through
no_cycle_test = refl

-- two types have a join or no common subtype
joins_test : every (λ a. every (λ b. is_some (join small a b) || every (λ c. not (is_above small a c && is_above small b c)) (upto 4)) (upto 4)) (upto 4) ≡ true
unfolding small join_of is_above leads_through
joins_test = refl

-- type 1 introduces the feature
intro_test : first (λ t. every (λ u. is_above small t u) (mentioning small 0)) (mentioning small 0) ≡ Some 1
unfolding small is_above leads_through
intro_test = refl

-- restrictions that apply together have a join
restrictions_test : every (λ f. every (λ t. is_some (approp small f t) || is_nil (restrictions small f t)) (upto 4)) (upto 1) ≡ true
unfolding small approp join_of is_above leads_through is_nil
restrictions_test = refl

-- `a` leads to `bot` by its feature, and `c` to `b`
small_restriction_edges : restriction_edges small ≡ (1, 0) ∷ (2, 3) ∷ []
unfolding small approp join_of is_above leads_through
small_restriction_edges = refl

-- none leads back to itself so
loop_test : every (λ t. not (leads_through ((1, 0) ∷ (2, 3) ∷ []) 4 t t)) (upto 4) ≡ true
unfolding leads_through
loop_test = refl

-- no other type is below an extensional one
ext_test : every (λ t. every (λ u. not (is_above small t u) || eqb t u) (upto 4)) small.ext ≡ true
unfolding small is_above leads_through
ext_test = refl

-- no fill has more than three nodes
size_test : every (λ t. leb (size_to small 4 t) 3) (upto 4) ≡ true
unfolding small approp join_of is_above leads_through
size_test = refl

-- what the test of joins says
joins_there : (a b c : ℕ) → a < 4 → b < 4 → c < 4 → is_above small a c ≡ true → is_above small b c ≡ true → (j : ℕ) × (join small a b ≡ Some j)
joins_there a b c h i k left right =
    let at_a = every_at (λ a. every (λ b. is_some (join small a b) || every (λ c. not (is_above small a c && is_above small b c)) (upto 4)) (upto 4)) (upto 4) a joins_test (upto_has 4 a h) in
    let at_b = every_at (λ b. is_some (join small a b) || every (λ c. not (is_above small a c && is_above small b c)) (upto 4)) (upto 4) b at_a (upto_has 4 b i) in
    elim (or_cases (is_some (join small a b)) (every (λ c. not (is_above small a c && is_above small b c)) (upto 4)) at_b) [
      | inl e ↦ some_is (join small a b) e
      | inr e ↦
          absurd (both_ways (is_above small a c && is_above small b c)
          (not-true (is_above small a c && is_above small b c) (every_at (λ c. not (is_above small a c && is_above small b c)) (upto 4) c e (upto_has 4 c k)))
          (and_from (is_above small a c) (is_above small b c) left right))
    ]

-- what the test of restrictions says
restrictions_there : (f t : ℕ) (m : Mention) → f < 1 → t < 4 → Applies small f t m → (r : ℕ) × (approp small f t ≡ Some r)
restrictions_there f t m h i a =
    let at_f = every_at (λ f. every (λ t. is_some (approp small f t) || is_nil (restrictions small f t)) (upto 4)) (upto 1) f restrictions_test (upto_has 1 f h) in
    let at_t = every_at (λ t. is_some (approp small f t) || is_nil (restrictions small f t)) (upto 4) t at_f (upto_has 4 t i) in
    elim (or_cases (is_some (approp small f t)) (is_nil (restrictions small f t)) at_t) [
      | inl e ↦ some_is (approp small f t) e
      | inr e ↦ absurd (not_nil (restrictions small f t) m.restriction e (Has-restrictions small f t m well_numbered a))
    ]

-- what the test of the feature says
introduced : (f : ℕ) → f < 1 → (t : ℕ) × Introduces small f t
introduced zero h = (1, first_introduces small 0 1 intro_test)
introduced (suc f) h = absurd (omega arith)

-- what the test of extensional types says
last_there : (t u : ℕ) → Has small.ext t → u < 4 → is_above small t u ≡ true → t ≡ u
last_there t u h i r =
    let at_t = every_at (λ t. every (λ u. not (is_above small t u) || eqb t u) (upto 4)) small.ext t ext_test h in
    let at_u = every_at (λ u. not (is_above small t u) || eqb t u) (upto 4) u at_t (upto_has 4 u i) in
    elim (or_cases (not (is_above small t u)) (eqb t u) at_u) [
      | inl e ↦ absurd (both_ways (is_above small t u) (not-true (is_above small t u) e) r)
      | inr e ↦ eqb-true t u e
    ]

-- what the test of sizes says
size_there : (t : ℕ) → t < 4 → size small t ≤ most_nodes
size_there t h =
    let fits : size_to small 4 t ≤ 3 = leb-true (size_to small 4 t) 3 (every_at (λ t. leb (size_to small 4 t) 3) (upto 4) t size_test (upto_has 4 t h)) in
    let same : size small t ≡ size_to small 4 t = size_to-size small 3 t (omega arith) fits in
    omega arith

-- all that is asked of an accepted signature
accepted : IsAccepted small
unfolding small
accepted = record {
  few_types = omega arith;
  few_features = omega arith;
  no_cycle = HasNoCycle-from small.edges 4 well_numbered.edges (λ t h.
      not-true (leads_through small.edges 4 t t) (every_at (λ t. not (leads_through small.edges 4 t t)) (upto 4) t no_cycle_test (upto_has 4 t h)));
  joins = HasJoins-from small well_numbered joins_there;
  one_intro = introduced;
  restrictions_join = HasRestrictions-from small well_numbered restrictions_there;
  no_loop = HasNoCycle-from (restriction_edges small) 4 (EndsBelow-restriction_edges small well_numbered) (λ t h.
      subst (λ es. leads_through es 4 t t ≡ false) (sym small_restriction_edges)
      (not-true (leads_through ((1, 0) ∷ (2, 3) ∷ []) 4 t t) (every_at (λ t. not (leads_through ((1, 0) ∷ (2, 3) ∷ []) 4 t t)) (upto 4) t loop_test (upto_has 4 t h))));
  ext_last = ext_last-from small well_numbered last_there;
  small = size_there;
}

-- `bot` has no feature
bot_test : approp small 0 0 ≡ None
unfolding small approp join_of is_above leads_through
bot_test = refl

bot_lacks : (f r : ℕ) → f < 1 → approp small f 0 ≡ Some r → ⊥
bot_lacks zero r below e = not_both (approp small 0 0) r bot_test e
  where
    not_both : (o : Option ℕ) (x : ℕ) → o ≡ None → o ≡ Some x → ⊥
    not_both o x p q = absurd cc
bot_lacks (suc f) r below e = absurd (omega arith)

bot_plain : (f : ℕ) → approp small f 0 ≡ None
unfolding small
bot_plain f = none_from (approp small f 0) (λ r e. bot_lacks f r (IsRestriction_inside small f 0 r well_numbered (approp_to small f 0 r well_numbered e)).0 e)

-- the facts of a signature
record IsGood (d : Declared) : Type 0 where
  numbered : IsWellNumbered d
  accepted : IsAccepted d
  featured : 0 < length d.features
  plain : (f : ℕ) → approp d f 0 ≡ None
  not_ext : is_ext d 0 ≡ false

-- the example has them
small_good : IsGood small
unfolding small
small_good = record {
  numbered = well_numbered;
  accepted = accepted;
  featured = omega arith;
  plain = bot_plain;
  not_ext = refl;
}

-- some declarations with a feature are accepted
pub some_is_accepted : SomeIsAccepted
some_is_accepted =
    let good : IsGood (declared written) = subst IsGood (sym declared-written) small_good in
    (written, good.numbered, good.accepted, good.featured, good.plain, good.not_ext)

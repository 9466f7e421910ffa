-- Laws of morphisms.
use Rattle.std.proofs.Common.{◌≡◌, ℕ, zero, suc, ◌<◌, true, List, [], ◌∷◌, ◌⊎◌, inl, inr, refl, sym, ap, ◌∙◌, subst, arith, Option, Some, None, option_map}
use Rattle.ale_declared.specs.Lists.{Has}
use Rattle.ale_hierarchy.specs.Hierarchy.{Hierarchy, Above, IsLawful}
use Rattle.ale_graph.specs.Structures.{Structure, count, type_of, value_of, root_at, is_formed, IsApart, IsStructure}
use Rattle.ale_graph.specs.Morphisms.{IsMorphism}
use Rattle.ale_morphism.specs.Rooted.{FromRoots, IsRooted}
use Rattle.ale_morphism.specs.MorphismLaws.{RootsDetermine, Identity, Compose, ComposePairs, IsBotPlain, NotTransitive, SomeBotIsPlain, Variants}
use Rattle.ale_hierarchy.specs.Order.{hierarchy}
use Rattle.ale_signature.proofs.Example.{some_is_accepted}
use Rattle.std.proofs.lemmas.Bool.{false≢true}
use Rattle.std.specs.Prelude.{IsTrue}
use Rattle.ale_graph.proofs.Lists.{some_one, none_some}
use Rattle.ale_graph.proofs.Entries.{same_or_not}

-- two maps that go from roots to roots and from values to values agree on what the roots reach
determined : (s t : Structure) (f g : ℕ → ℕ) → ((i n : ℕ) → root_at s i ≡ Some n → f n ≡ g n) → ((n x m : ℕ) → value_of s n x ≡ Some m → f n ≡ g n → f m ≡ g m) → (n : ℕ) → FromRoots s n → f n ≡ g n
determined s t f g roots values n (FromRoots.root i _ e) = roots i n e
determined s t f g roots values n (FromRoots.value p x _ from e) = values p x n e (determined s t f g roots values p from)

pub roots_determine : RootsDetermine
roots_determine h s t f g a b =
    determined s t f g (λ i n e. some_one (sym (a.roots i n e) ∙ b.roots i n e))
    (λ n x m e same. some_one (sym (a.aside.values n x m e) ∙ ap (λ z. value_of t z x) same ∙ b.aside.values n x m e))

pub identity : Identity
identity h s law apart = record {
  aside = record { into = λ n lt. lt; types = λ n lt. law.along_self (type_of s n); values = λ n x m e. e; differs = apart };
  roots = λ i n e. e;
}

pub compose : Compose
compose h s t u f g law a b apart = record {
  aside = record {
    into = λ n lt. b.aside.into (f n) (a.aside.into n lt);
    types = λ n lt. law.along (type_of s n) (type_of t (f n)) (type_of u (g (f n))) (a.aside.types n lt) (b.aside.types (f n) (a.aside.into n lt));
    values = λ n x m e. b.aside.values (f n) x (f m) (a.aside.values n x m e);
    differs = apart;
  };
  roots = λ i n e. b.roots i (f n) (a.roots i n e);
}

pub compose_pairs : ComposePairs
compose_pairs h s t u f g law a pairs b = compose h s t u f g law a b (λ n m p q. elim (pairs n m p) [ inl z ↦ b.aside.differs (f n) (f m) z q | inr z ↦ b.aside.differs (f m) (f n) z (sym q) ])

-- Two nodes that the roots name apart: with a differing pair, without it, and as one node.
abbrev twin : List (ℕ × ℕ) → Structure
twin differ = record { nodes = record { of = 0; values = [] } ∷ record { of = 0; values = [] } ∷ []; differ = differ; roots = Some 0 ∷ Some 1 ∷ [] }

abbrev single : Structure
single = record { nodes = record { of = 0; values = [] } ∷ []; differ = []; roots = Some 0 ∷ Some 0 ∷ [] }

no_value : (differ : List (ℕ × ℕ)) (n x m : ℕ) → value_of (twin differ) n x ≡ Some m → ⊥
no_value differ zero x m e = none_some e
no_value differ (suc zero) x m e = none_some e
no_value differ (suc (suc n)) x m e = none_some e

-- nodes of a plain type without values are a structure
plain_structure : (h : Hierarchy) (s : Structure) → IsLawful h → IsBotPlain h → IsTrue (is_formed s) → ((n : ℕ) → type_of s n ≡ 0) → ((n x m : ℕ) → value_of s n x ≡ Some m → ⊥) → IsApart s → IsStructure h s
plain_structure h s law plain formed bots no_values apart = record {
  formed = formed;
  total = record {
    types = λ n lt. subst (λ z. z < h.types) (sym (bots n)) law.some_type;
    there = λ n f r lt e. absurd (none_some (sym (plain.no_features f) ∙ subst (λ z. h.approp f z ≡ Some r) (bots n) e));
    only = λ n f m e. absurd (no_values n f m e);
  };
  extensional = λ a b lt-a lt-b same ext values. absurd (false≢true (sym plain.not_ext ∙ subst (λ z. h.is_ext z ≡ true) (bots a) ext));
  apart = apart;
}

twin_bots : (differ : List (ℕ × ℕ)) (n : ℕ) → type_of (twin differ) n ≡ 0
twin_bots differ zero = refl
twin_bots differ (suc zero) = refl
twin_bots differ (suc (suc n)) = refl

single_bots : (n : ℕ) → type_of single n ≡ 0
single_bots zero = refl
single_bots (suc n) = refl

single_no_value : (n x m : ℕ) → value_of single n x ≡ Some m → ⊥
single_no_value zero x m e = none_some e
single_no_value (suc n) x m e = none_some e

-- the pair is of two nodes
twin_apart : (a b : ℕ) → Has (twin ((0, 1) ∷ [])).differ (a, b) → a ≡ b → ⊥
twin_apart a b (inl e) q =
    let first : a ≡ 0 = ap (λ (z : ℕ × ℕ). z.0) e in
    let second : b ≡ 1 = ap (λ (z : ℕ × ℕ). z.1) e in
    absurd (omega arith)
twin_apart a b (inr p) q = absurd p

pub not_transitive : NotTransitive
not_transitive h law = (
  twin ((0, 1) ∷ []),
  twin [],
  single,
  record { map = λ n. n; is = forget },
  record { map = λ n. 0; is = join },
  (λ sub. never sub.map sub.is),
  λ plain. (
    plain_structure h (twin ((0, 1) ∷ [])) law plain refl (twin_bots ((0, 1) ∷ [])) (no_value ((0, 1) ∷ [])) twin_apart,
    plain_structure h (twin []) law plain refl (twin_bots []) (no_value []) (λ a b p. absurd p),
    plain_structure h single law plain refl single_bots single_no_value (λ a b p. absurd p),
  ),
)
  where
    forget : IsMorphism h (twin ((0, 1) ∷ [])) (twin []) (λ n. n)
    forget = record {
      aside = record {
        into = λ n lt. lt;
        types = λ n lt. law.along_self (type_of (twin []) n);
        values = λ n x m e. absurd (no_value ((0, 1) ∷ []) n x m e);
        differs = twin_apart;
      };
      roots = λ i n e. e;
    }

    roots : (i n : ℕ) → root_at (twin []) i ≡ Some n → root_at single i ≡ Some 0
    roots zero n e = refl
    roots (suc zero) n e = refl
    roots (suc (suc i)) n e = absurd (none_some e)

    join : IsMorphism h (twin []) single (λ n. 0)
    join = record {
      aside = record {
        into = λ n lt. omega arith;
        types = λ n lt. subst (λ z. Above h z 0) (sym (twin_bots [] n)) (law.along_self 0);
        values = λ n x m e. absurd (no_value [] n x m e);
        differs = λ a b p. absurd p;
      };
      roots = roots;
    }

    never : (at : ℕ → ℕ) → IsMorphism h (twin ((0, 1) ∷ [])) single at → ⊥
    never at m = m.aside.differs 0 1 (inl refl) (some_one (sym (m.roots 0 0 refl) ∙ m.roots 1 1 refl))

pub some_bot_plain : SomeBotIsPlain
unfolding hierarchy
some_bot_plain =
    let some = some_is_accepted in
    (some.0, some.2, record { no_features = some.4; not_ext = some.5 })

-- types that are above each other are one
one_type : (h : Hierarchy) → IsLawful h → (a b : ℕ) → Above h a b → Above h b a → a ≡ b
one_type h law a b up down = go (same_or_not a b)
  where
    go : (a ≡ b) ⊎ (a ≡ b → ⊥) → a ≡ b
    go (inl e) = e
    go (inr n) =
        let one = law.rank_less a b up n in
        let two = law.rank_less b a down (λ e. n (sym e)) in
        absurd (omega arith)

-- there and back again is nowhere else
round_trip : (h : Hierarchy) (s t : Structure) (f g : ℕ → ℕ) → IsMorphism h s t f → IsMorphism h t s g → IsRooted s → (n : ℕ) → n < count s → g (f n) ≡ n
round_trip h s t f g a b rooted n lt =
    determined s s (λ n. g (f n)) (λ n. n) (λ i n e. some_one (sym (b.roots i (f n) (a.roots i n e)) ∙ e))
    (λ n x m e same. some_one (sym (b.aside.values (f n) x (f m) (a.aside.values n x m e)) ∙ ap (λ z. value_of s z x) same ∙ e)) n (rooted n lt)

pub variants : Variants
variants h s t f g law formed-s formed-t rooted-s rooted-t a b = record {
  into = a.aside.into;
  onto = b.aside.into;
  there = there;
  back = round_trip h t s g f b a rooted-t;
  types = λ n lt. one_type h law (type_of t (f n)) (type_of s n) (subst (λ z. Above h (type_of t (f n)) (type_of s z)) (there n lt) (b.aside.types (f n) (a.aside.into n lt))) (a.aside.types n lt);
  values = λ n x lt. values n x lt (value_of s n x) refl (value_of t (f n) x) refl;
  roots = λ i. roots i (root_at s i) refl (root_at t i) refl;
}
  where
    there : (n : ℕ) → n < count s → g (f n) ≡ n
    there = round_trip h s t f g a b rooted-s

    values : (n x : ℕ) → n < count s → (o : Option ℕ) → value_of s n x ≡ o → (p : Option ℕ) → value_of t (f n) x ≡ p → p ≡ option_map f o
    values n x lt (Some m) e p q = sym q ∙ a.aside.values n x m e
    values n x lt None e None q = refl
    values n x lt None e (Some m) q = absurd (none_some (sym e ∙ ap (λ z. value_of s z x) (sym (there n lt)) ∙ b.aside.values (f n) x m q))

    roots : (i : ℕ) (o : Option ℕ) → root_at s i ≡ o → (p : Option ℕ) → root_at t i ≡ p → p ≡ option_map f o
    roots i (Some n) e p q = sym q ∙ a.roots i n e
    roots i None e None q = refl
    roots i None e (Some m) q = absurd (none_some (sym e ∙ b.roots i m q))

-- The values of each class in a list by class: one more value, and the value of a class that the facts tell.
use Rattle.std.proofs.Common.{◌≡◌, ℕ, ◌<◌, true, List, length, ◌⊎◌, inl, inr, refl, sym, ap, ◌∙◌, Option, Some, None, option_map}
use Rattle.ale_graph.specs.declared.fact.Fact.{Fact}
use Rattle.ale_graph.specs.Structures.{value_in, is_rising}
use Rattle.ale_graph.specs.Filling.{class_value}
use Rattle.ale_graph.specs.Drafts.{values_in, insert_value}
use Rattle.ale_graph.specs.Keeping.{IsClasses, IsTable}
use Rattle.ale_graph.specs.Joining.{put_value}
use Rattle.ale_graph.proofs.Lists.{some_one, none_some}
use Rattle.ale_graph.proofs.Closing.{value_found, value_there}
use Rattle.ale_graph.proofs.Vectors.{values_set, values_other}
use Rattle.ale_graph.proofs.Entries.{insert_new, insert_old, insert_rises, same_or_not}

module _ (values : List (List (ℕ × ℕ))) (c f m : ℕ) (below : c < length values) (none : value_in (values_in values c) f ≡ None) where
  here : (d : ℕ) → d ≡ c → values_in (put_value c f m values) d ≡ insert_value (values_in values c) f m
  here d e = ap (values_in (put_value c f m values)) e ∙ values_set values c (insert_value (values_in values c) f m) below

  else : (d : ℕ) → (d ≡ c → ⊥) → values_in (put_value c f m values) d ≡ values_in values d
  else d n = values_other values c (insert_value (values_in values c) f m) d n

  pub put_new : value_in (values_in (put_value c f m values) c) f ≡ Some m
  put_new = ap (λ z. value_in z f) (here c refl) ∙ insert_new (values_in values c) f m none

  pub put_rises : ((d : ℕ) → is_rising (values_in values d) ≡ true) → (d : ℕ) → is_rising (values_in (put_value c f m values) d) ≡ true
  put_rises rises d = go (same_or_not d c)
    where
      go : (d ≡ c) ⊎ (d ≡ c → ⊥) → is_rising (values_in (put_value c f m values) d) ≡ true
      go (inl e) = ap is_rising (here d e) ∙ insert_rises (values_in values c) f m (rises c) none
      go (inr n) = ap is_rising (else d n) ∙ rises d

  -- a value that is there is the new one or an old one
  pub put_from : (d g v : ℕ) → value_in (values_in (put_value c f m values) d) g ≡ Some v → (value_in (values_in values d) g ≡ Some v) ⊎ ((d ≡ c) × (g ≡ f) × (v ≡ m))
  put_from d g v e = go (same_or_not d c) (same_or_not f g)
    where
      go : (d ≡ c) ⊎ (d ≡ c → ⊥) → (f ≡ g) ⊎ (f ≡ g → ⊥) → (value_in (values_in values d) g ≡ Some v) ⊎ ((d ≡ c) × (g ≡ f) × (v ≡ m))
      go (inr n) o = inl (sym (ap (λ z. value_in z g) (else d n)) ∙ e)
      go (inl q) (inr n) = inl (ap (λ z. value_in (values_in values z) g) q ∙ sym (insert_old (values_in values c) f m g n) ∙ sym (ap (λ z. value_in z g) (here d q)) ∙ e)
      go (inl q) (inl p) = inr (q, sym p, some_one (sym e ∙ ap (λ z. value_in (values_in (put_value c f m values) z) g) q ∙ ap (value_in (values_in (put_value c f m values) c)) (sym p) ∙ put_new))

  -- a value that was there is there
  pub put_grows : (d g v : ℕ) → value_in (values_in values d) g ≡ Some v → value_in (values_in (put_value c f m values) d) g ≡ Some v
  put_grows d g v e = go (same_or_not d c) (same_or_not f g)
    where
      go : (d ≡ c) ⊎ (d ≡ c → ⊥) → (f ≡ g) ⊎ (f ≡ g → ⊥) → value_in (values_in (put_value c f m values) d) g ≡ Some v
      go (inr n) o = ap (λ z. value_in z g) (else d n) ∙ e
      go (inl q) (inr n) = ap (λ z. value_in z g) (here d q) ∙ insert_old (values_in values c) f m g n ∙ ap (λ z. value_in (values_in values z) g) (sym q) ∙ e
      go (inl q) (inl p) = absurd (none_some (sym none ∙ ap (value_in (values_in values c)) p ∙ ap (λ z. value_in (values_in values z) g) (sym q) ∙ e))

-- the value of a class is the class of the one in its list
pub table_value : (facts : List Fact) (next : ℕ) (cs : ℕ → ℕ) (values : List (List (ℕ × ℕ))) → IsClasses facts next cs → IsTable facts cs values → (c f : ℕ) → cs c ≡ c → class_value cs facts c f ≡ option_map cs (value_in (values_in values c) f)
table_value facts next cs values is t c f own = go (value_in (values_in values c) f) refl (class_value cs facts c f) refl
  where
    go : (o : Option ℕ) → value_in (values_in values c) f ≡ o → (p : Option ℕ) → class_value cs facts c f ≡ p → class_value cs facts c f ≡ option_map cs o
    go (Some k) e p q = let w = t.told c f k own e in value_there facts next cs is c f w.node k w.has w.of
    go None e None q = q
    go None e (Some m) q =
        let w = value_found facts cs c f m q in
        let k = t.there w.node f w.value w.has in
        absurd (none_some (sym e ∙ ap (λ z. value_in (values_in values z) f) (sym w.of) ∙ k.1))

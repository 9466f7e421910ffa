-- Finding two classes that nothing tells apart in the working lists, and making them one there.
use Rattle.std.proofs.Common.{◌≡◌, ℕ, ◌+◌, ◌<◌, ◌≤◌, min, max, Bool, true, false, ◌&&◌, eqb, ltb, [], ◌∷◌, ◌++◌, length, ◌⊎◌, inl, inr, refl, sym, ap, ◌∙◌, subst, arith, Option, Some, None, option_map, if◌then◌else◌}
use Rattle.std.proofs.lemmas.Bool.{and_parts, and_from, eqb-true, eq-eqb, ltb-true, lt-ltb}
use Rattle.std.proofs.lemmas.List.{length-map}
use Rattle.ale_declared.specs.Lists.{Has, upto}
use Rattle.ale_hierarchy.specs.Hierarchy.{Hierarchy, IsLawful}
use Rattle.ale_graph.specs.declared.fact.Fact.TheVariants.{Value, Same}
use Rattle.ale_graph.specs.Structures.{value_in, is_rising}
use Rattle.ale_graph.specs.Settled.{first_some}
use Rattle.ale_graph.specs.Classes.{merged, class_sum}
use Rattle.ale_graph.specs.Filling.{Filled, class_value}
use Rattle.ale_graph.specs.Collapsing.{same_option, same_values, is_class, is_double, double, first_double, merge_double, collapse}
use Rattle.ale_graph.specs.Drafts.{class_in, type_in, values_in, renamed, mapped, same_lists}
use Rattle.ale_graph.specs.Keeping.{IsReady, IsTable, IsTold, IsFull}
use Rattle.ale_graph.specs.Working.{Working, IsDraft, filled_of, is_like, merge_in}
use Rattle.ale_graph.proofs.Lists.{none_some, has_left, has_either, has_upto, below_upto, every_has, every_from}
use Rattle.ale_graph.proofs.Settled.{settle_step, settle_none, all_none}
use Rattle.ale_graph.proofs.Classes.{merged_at}
use Rattle.ale_graph.proofs.Closing.{IsClosing}
use Rattle.ale_graph.proofs.Filling.{IsFilled}
use Rattle.ale_graph.proofs.Collapsing.{IsDouble, same_option_true, true_same_option, double_found, merge_keeps, merge_full, merge_less}
use Rattle.ale_graph.proofs.Vectors.{class_merged}
use Rattle.ale_graph.proofs.Entries.{rising_one}
use Rattle.ale_graph.proofs.Mapped.{mapped_value, mapped_rises, same_to, same_from, bool_one}
use Rattle.ale_graph.proofs.Tables.{table_value}
use Rattle.ale_graph.proofs.FillSteps.{ready_closing, closing_ready, first_upto}

module _ (h : Hierarchy) (w : Working) (d : IsDraft h w) where
  value_is : (c f : ℕ) → class_in w.class c ≡ c → class_value (class_in w.class) w.facts c f ≡ option_map (class_in w.class) (value_in (values_in w.values c) f)
  value_is c f own = table_value w.facts (length w.class) (class_in w.class) w.values d.ready.classes d.table c f own

  mapped_is : (c f : ℕ) → class_in w.class c ≡ c → value_in (mapped (class_in w.class) (values_in w.values c)) f ≡ class_value (class_in w.class) w.facts c f
  mapped_is c f own = mapped_value (class_in w.class) (values_in w.values c) f ∙ sym (value_is c f own)

  -- a class has no value by a feature that isn't one of the signature
  none_past : (c f : ℕ) → class_in w.class c ≡ c → h.features ≤ f → class_value (class_in w.class) w.facts c f ≡ None
  none_past c f own le = value_is c f own ∙ go (value_in (values_in w.values c) f) refl
    where
      go : (o : Option ℕ) → value_in (values_in w.values c) f ≡ o → option_map (class_in w.class) o ≡ None
      go None e = refl
      go (Some k) e = let t = d.table.told c f k own e in let fit = (d.ready.fits (Value t.node f k) t.has).1 in absurd (omega arith)

  values_same : (a b : ℕ) → class_in w.class a ≡ a → class_in w.class b ≡ b → same_lists (class_in w.class) (values_in w.values a) (values_in w.values b) ≡ same_values h (filled_of w) a b
  values_same a b oa ob = bool_one (same_lists (class_in w.class) (values_in w.values a) (values_in w.values b)) (same_values h (filled_of w) a b) to back
    where
      to : same_lists (class_in w.class) (values_in w.values a) (values_in w.values b) ≡ true → same_values h (filled_of w) a b ≡ true
      to e =
          let one = same_to (class_in w.class) (values_in w.values a) (values_in w.values b) e in
          every_from (λ f. same_option (class_value (class_in w.class) w.facts a f) (class_value (class_in w.class) w.facts b f)) (upto h.features)
          (λ f p. true_same_option (class_value (class_in w.class) w.facts a f) (class_value (class_in w.class) w.facts b f) (sym (mapped_is a f oa) ∙ ap (λ z. value_in z f) one ∙ mapped_is b f ob))

      rise : (c : ℕ) → is_rising (mapped (class_in w.class) (values_in w.values c)) ≡ true
      rise c = mapped_rises (class_in w.class) (values_in w.values c) ∙ d.table.rises c

      back : same_values h (filled_of w) a b ≡ true → same_lists (class_in w.class) (values_in w.values a) (values_in w.values b) ≡ true
      back e = same_from (class_in w.class) (values_in w.values a) (values_in w.values b) (rising_one (mapped (class_in w.class) (values_in w.values a)) (mapped (class_in w.class) (values_in w.values b)) (rise a) (rise b) (λ f. at f (grind arith)))
        where
          at : (f : ℕ) → (f < h.features) ⊎ (h.features ≤ f) → value_in (mapped (class_in w.class) (values_in w.values a)) f ≡ value_in (mapped (class_in w.class) (values_in w.values b)) f
          at f (inl l) =
              mapped_is a f oa
              ∙ same_option_true (class_value (class_in w.class) w.facts a f) (class_value (class_in w.class) w.facts b f) (every_has (λ f. same_option (class_value (class_in w.class) w.facts a f) (class_value (class_in w.class) w.facts b f)) (upto h.features) f e (has_upto h.features f l))
              ∙ sym (mapped_is b f ob)
          at f (inr le) = mapped_is a f oa ∙ none_past a f oa le ∙ sym (none_past b f ob le) ∙ sym (mapped_is b f ob)

  double_some : (a b : ℕ) → is_double h (filled_of w) a b ≡ true → double h (filled_of w) a b ≡ Some (a, b)
  double_some a b e = subst (λ t. ◌≡◌ {A = Option (ℕ × ℕ)} (if t then Some (a, b) else None) (Some (a, b))) (sym e) refl

  double_none : (a b : ℕ) → (is_double h (filled_of w) a b ≡ true → ⊥) → double h (filled_of w) a b ≡ None
  double_none a b n = go (is_double h (filled_of w) a b) refl
    where
      go : (t : Bool) → is_double h (filled_of w) a b ≡ t → ◌≡◌ {A = Option (ℕ × ℕ)} (if t then Some (a, b) else None) None
      go true e = absurd (n e)
      go false e = refl

  -- what a double's test says
  parts : (a b : ℕ) → is_double h (filled_of w) a b ≡ true → (a < b) × (class_in w.class a ≡ a) × (h.is_ext (type_in w.types a) ≡ true) × (is_like w a b ≡ true)
  parts a b e =
      let two = and_parts (ltb a b && (is_class (filled_of w) a && is_class (filled_of w) b)) ((eqb (type_in w.types a) (type_in w.types b) && h.is_ext (type_in w.types a)) && same_values h (filled_of w) a b) e in
      let left = and_parts (ltb a b) (is_class (filled_of w) a && is_class (filled_of w) b) two.0 in
      let own = and_parts (is_class (filled_of w) a) (is_class (filled_of w) b) left.1 in
      let right = and_parts (eqb (type_in w.types a) (type_in w.types b) && h.is_ext (type_in w.types a)) (same_values h (filled_of w) a b) two.1 in
      let ty = and_parts (eqb (type_in w.types a) (type_in w.types b)) (h.is_ext (type_in w.types a)) right.0 in
      let oa = eqb-true (class_in w.class a) a own.0 in
      let ob = eqb-true (class_in w.class b) b own.1 in (
        ltb-true a b left.0,
        oa,
        ty.1,
        and_from (eqb (class_in w.class b) b && eqb (type_in w.types a) (type_in w.types b)) (same_lists (class_in w.class) (values_in w.values a) (values_in w.values b))
            (and_from (eqb (class_in w.class b) b) (eqb (type_in w.types a) (type_in w.types b)) own.1 ty.0)
            (values_same a b oa ob ∙ right.1),
      )

  pub like_some : (a b : ℕ) → a < b → class_in w.class a ≡ a → h.is_ext (type_in w.types a) ≡ true → is_like w a b ≡ true → double h (filled_of w) a b ≡ Some (a, b)
  like_some a b lt oa ext e =
      let two = and_parts (eqb (class_in w.class b) b && eqb (type_in w.types a) (type_in w.types b)) (same_lists (class_in w.class) (values_in w.values a) (values_in w.values b)) e in
      let left = and_parts (eqb (class_in w.class b) b) (eqb (type_in w.types a) (type_in w.types b)) two.0 in
      let ob = eqb-true (class_in w.class b) b left.0 in
      double_some a b
      (and_from (ltb a b && (is_class (filled_of w) a && is_class (filled_of w) b)) ((eqb (type_in w.types a) (type_in w.types b) && h.is_ext (type_in w.types a)) && same_values h (filled_of w) a b)
      (and_from (ltb a b) (is_class (filled_of w) a && is_class (filled_of w) b) (lt-ltb a b lt) (and_from (is_class (filled_of w) a) (is_class (filled_of w) b) (eq-eqb (class_in w.class a) a oa) left.0))
      (and_from (eqb (type_in w.types a) (type_in w.types b) && h.is_ext (type_in w.types a)) (same_values h (filled_of w) a b)
      (and_from (eqb (type_in w.types a) (type_in w.types b)) (h.is_ext (type_in w.types a)) left.1 ext)
      (sym (values_same a b oa ob) ∙ two.1)))

  unlike : (a b : ℕ) → is_like w a b ≡ false → double h (filled_of w) a b ≡ None
  unlike a b e = double_none a b (λ t. (let bad : true ≡ false = sym (parts a b t).3 ∙ e in absurd cc))

  not_higher : (a b : ℕ) → b ≤ a → double h (filled_of w) a b ≡ None
  not_higher a b le = double_none a b (λ t. (let lt = (parts a b t).0 in absurd (omega arith)))

  -- the loop over b: nothing below b, then one more
  pub none_more : (a b : ℕ) → ((k : ℕ) → k < b → double h (filled_of w) a k ≡ None) → is_like w a b ≡ false → (k : ℕ) → k < b + 1 → double h (filled_of w) a k ≡ None
  none_more a b none e k lt = go (grind arith)
    where
      go : (k < b) ⊎ (k ≡ b) → double h (filled_of w) a k ≡ None
      go (inl l) = none k l
      go (inr q) = ap (double h (filled_of w) a) q ∙ unlike a b e

  pub none_first : (a k : ℕ) → k < a + 1 → double h (filled_of w) a k ≡ None
  none_first a k lt = not_higher a k (omega arith)

  pub row_some : (a b : ℕ) → a < b → b < length w.class → class_in w.class a ≡ a → h.is_ext (type_in w.types a) ≡ true → ((k : ℕ) → k < b → double h (filled_of w) a k ≡ None) → is_like w a b ≡ true → first_some (double h (filled_of w) a) (upto (length w.class)) ≡ Some (a, b)
  row_some a b lt below oa ext none e = first_upto (double h (filled_of w) a) (length w.class) b (a, b) below none (like_some a b lt oa ext e)

  pub row_none : (a n : ℕ) → length w.class ≤ n → ((k : ℕ) → k < n → double h (filled_of w) a k ≡ None) → first_some (double h (filled_of w) a) (upto (length w.class)) ≡ None
  row_none a n le none = all_none (double h (filled_of w) a) (upto (length w.class)) (λ k p. none k (let l = below_upto (length w.class) k p in omega arith))

  pub row_other : (a : ℕ) → (class_in w.class a ≡ a → ⊥) → first_some (double h (filled_of w) a) (upto (length w.class)) ≡ None
  row_other a n = all_none (double h (filled_of w) a) (upto (length w.class)) (λ k p. double_none a k (λ t. n (parts a k t).1))

  pub row_plain : (a : ℕ) → h.is_ext (type_in w.types a) ≡ false → first_some (double h (filled_of w) a) (upto (length w.class)) ≡ None
  row_plain a e = all_none (double h (filled_of w) a) (upto (length w.class)) (λ k p. double_none a k (λ t. (let bad : true ≡ false = sym (parts a k t).2 ∙ e in absurd cc)))

  pub rows_some : (a : ℕ) (p : ℕ × ℕ) → a < length w.class → ((k : ℕ) → k < a → first_some (double h (filled_of w) k) (upto (length w.class)) ≡ None) → first_some (double h (filled_of w) a) (upto (length w.class)) ≡ Some p → first_double h (filled_of w) ≡ Some p
  rows_some a p lt none e = first_upto (λ x. first_some (double h (filled_of w) x) (upto (length w.class))) (length w.class) a p lt none e

  pub rows_none : (n : ℕ) → length w.class ≤ n → ((k : ℕ) → k < n → first_some (double h (filled_of w) k) (upto (length w.class)) ≡ None) → first_double h (filled_of w) ≡ None
  rows_none n le none = all_none (λ x. first_some (double h (filled_of w) x) (upto (length w.class))) (upto (length w.class)) (λ k p. none k (let l = below_upto (length w.class) k p in omega arith))

-- one merge of the definition's loop
pub collapse_one : (h : Hierarchy) (st : Filled) (p : ℕ × ℕ) → IsLawful h → IsReady h st → IsFull h st → first_double h st ≡ Some p → collapse h st ≡ collapse h (merge_double p st)
unfolding collapse
collapse_one h st p law r full e =
    settle_step (first_double h) merge_double (λ st. class_sum st.next st.class) (IsFilled h st.facts st.next) (record {
      less = λ t p k e. merge_less h st.facts st.next law t k.closing k.full p (double_found h t p e);
      kept = λ t p k e. record { closing = merge_keeps h st.facts st.next law t k.closing k.full p (double_found h t p e); full = merge_full h st.facts st.next law t k.closing k.full p (double_found h t p e) };
    }) st p (record { closing = ready_closing h st r; full = full }) e

pub collapse_ends : (h : Hierarchy) (st : Filled) → first_double h st ≡ None → collapse h st ≡ st
unfolding collapse
collapse_ends h st e = settle_none (first_double h) merge_double (class_sum st.next st.class) st e

-- one merge in the working lists
pub record IsMerged (h : Hierarchy) (w v : Working) : Type 0 where
  pub draft : IsDraft h v
  pub full : IsFull h (filled_of v)
  pub same : collapse h (filled_of v) ≡ collapse h (filled_of w)
  pub less : class_sum (length v.class) (class_in v.class) < class_sum (length w.class) (class_in w.class)

module _ (h : Hierarchy) (law : IsLawful h) (w : Working) (d : IsDraft h w) (full : IsFull h (filled_of w)) (a b : ℕ) (e : first_double h (filled_of w) ≡ Some (a, b)) where
  two : IsDouble h (filled_of w) a b
  two = double_found h (filled_of w) (a, b) e

  closing : IsClosing h w.facts (length w.class) (filled_of w)
  closing = ready_closing h (filled_of w) d.ready

  class_is : class_in (merge_in a b w).class ≡ merged (a, b) (class_in w.class)
  class_is = class_merged w.class a b (let l = two.less in let m = two.below in omega arith) two.below

  merged_is : filled_of (merge_in a b w) ≡ merge_double (a, b) (filled_of w)
  merged_is =
      let len : length (merge_in a b w).class ≡ length w.class = length-map w.class (renamed (max a b) (min a b)) in
      let c = class_is in
      λ i. record { facts = w.facts ++ Same a b ∷ []; next = len i; class = c i; types = type_in w.types }

  -- what the merge does to a class number
  moved : (c : ℕ) → ((class_in w.class c ≡ b) × (merged (a, b) (class_in w.class) c ≡ a)) ⊎ ((class_in w.class c ≡ b → ⊥) × (merged (a, b) (class_in w.class) c ≡ class_in w.class c))
  moved c = go (merged_at (a, b) (class_in w.class) c)
    where
      high : max a b ≡ b
      high = let l = two.less in omega arith

      low : min a b ≡ a
      low = let l = two.less in omega arith

      go : ((class_in w.class c ≡ max a b) × (merged (a, b) (class_in w.class) c ≡ min a b)) ⊎ ((class_in w.class c ≡ max a b → ⊥) × (merged (a, b) (class_in w.class) c ≡ class_in w.class c)) → ((class_in w.class c ≡ b) × (merged (a, b) (class_in w.class) c ≡ a)) ⊎ ((class_in w.class c ≡ b → ⊥) × (merged (a, b) (class_in w.class) c ≡ class_in w.class c))
      go (inl q) = inl (q.0 ∙ high, q.1 ∙ low)
      go (inr q) = inr (λ x. q.0 (x ∙ sym high), q.1)

  merged_table : IsTable (merge_in a b w).facts (merged (a, b) (class_in w.class)) w.values
  merged_table = record {
    rises = d.table.rises;
    told = λ c f k own v. told c f k own v (moved c);
    there = λ n f m p. there n f m (has_either w.facts (Same a b ∷ []) (Value n f m) p);
  }
    where
      -- a class of its own after the merge was one before, and isn't the higher one
      told : (c f k : ℕ) → merged (a, b) (class_in w.class) c ≡ c → value_in (values_in w.values c) f ≡ Some k → ((class_in w.class c ≡ b) × (merged (a, b) (class_in w.class) c ≡ a)) ⊎ ((class_in w.class c ≡ b → ⊥) × (merged (a, b) (class_in w.class) c ≡ class_in w.class c)) → IsTold (merge_in a b w).facts (merged (a, b) (class_in w.class)) c f k
      told c f k own v (inl q) =
          let here : c ≡ a = sym own ∙ q.1 in
          let bad : a ≡ b = sym two.own_first ∙ ap (class_in w.class) (sym here) ∙ q.0 in
          let l = two.less in
          absurd (omega arith)
      told c f k own v (inr q) =
          let self : class_in w.class c ≡ c = sym q.1 ∙ own in
          let t = d.table.told c f k self v in
          record { node = t.node; has = has_left w.facts (Same a b ∷ []) (Value t.node f k) t.has; of = pick t.node t.of (moved t.node) }
        where
          pick : (n : ℕ) → class_in w.class n ≡ c → ((class_in w.class n ≡ b) × (merged (a, b) (class_in w.class) n ≡ a)) ⊎ ((class_in w.class n ≡ b → ⊥) × (merged (a, b) (class_in w.class) n ≡ class_in w.class n)) → merged (a, b) (class_in w.class) n ≡ c
          pick n of (inl r) = absurd (q.0 (sym q.1 ∙ own ∙ sym of ∙ r.0))
          pick n of (inr r) = r.1 ∙ of

      old : (n f m : ℕ) → Has w.facts (Value n f m) → ((class_in w.class n ≡ b) × (merged (a, b) (class_in w.class) n ≡ a)) ⊎ ((class_in w.class n ≡ b → ⊥) × (merged (a, b) (class_in w.class) n ≡ class_in w.class n)) → (k : ℕ) × (value_in (values_in w.values (merged (a, b) (class_in w.class) n)) f ≡ Some k)
      old n f m p (inr q) =
          let k = d.table.there n f m p in
          (k.0, ap (λ z. value_in (values_in w.values z) f) q.1 ∙ k.1)
      old n f m p (inl q) =
          let k = d.table.there n f m p in
          let at_b : value_in (values_in w.values b) f ≡ Some k.0 = ap (λ z. value_in (values_in w.values z) f) (sym q.0) ∙ k.1 in
          let value_b : class_value (class_in w.class) w.facts b f ≡ Some (class_in w.class k.0) = value_is h w d b f two.own_second ∙ ap (option_map (class_in w.class)) at_b in
          let value_a : option_map (class_in w.class) (value_in (values_in w.values a) f) ≡ Some (class_in w.class k.0) = sym (value_is h w d a f two.own_first) ∙ two.values f (d.ready.fits (Value n f m) p).1 ∙ value_b in
          let j = some_of (value_in (values_in w.values a) f) value_a in
          (j.0, ap (λ z. value_in (values_in w.values z) f) q.1 ∙ j.1)
        where
          some_of : (o : Option ℕ) → option_map (class_in w.class) o ≡ Some (class_in w.class (d.table.there n f m p).0) → (j : ℕ) × (o ≡ Some j)
          some_of None x = absurd (none_some x)
          some_of (Some j) x = (j, refl)

      there : (n f m : ℕ) → Has w.facts (Value n f m) ⊎ Has (Same a b ∷ []) (Value n f m) → (k : ℕ) × (value_in (values_in w.values (merged (a, b) (class_in w.class) n)) f ≡ Some k)
      there n f m (inl p) = old n f m p (moved n)
      there n f m (inr (inl x)) = absurd cc
      there n f m (inr (inr p)) = absurd p

  pub merge_steps : IsMerged h w (merge_in a b w)
  merge_steps =
      let len : length (merge_in a b w).class ≡ length w.class = length-map w.class (renamed (max a b) (min a b)) in
      record {
        draft = record {
          ready = subst (λ (z : Filled). IsReady h z) (sym merged_is) (closing_ready h w.facts (length w.class) _ (merge_keeps h w.facts (length w.class) law (filled_of w) closing full (a, b) two));
          table = subst (λ (z : ℕ → ℕ). IsTable (merge_in a b w).facts z w.values) (sym class_is) merged_table;
          types_length = d.types_length ∙ sym len;
          values_length = d.values_length ∙ sym len;
        };
        full = subst (λ (z : Filled). IsFull h z) (sym merged_is) (merge_full h w.facts (length w.class) law (filled_of w) closing full (a, b) two);
        same = ap (collapse h) merged_is ∙ sym (collapse_one h (filled_of w) (a, b) law d.ready full e);
        less = subst (λ (z : Filled). class_sum z.next z.class < class_sum (length w.class) (class_in w.class)) (sym merged_is) (merge_less h w.facts (length w.class) law (filled_of w) closing full (a, b) two);
      }

-- Filling class by class, feature by feature, is filling the least class's first missing feature each time.
use Rattle.std.proofs.Common.{◌≡◌, ℕ, zero, suc, ◌+◌, ◌<◌, ◌≤◌, Bool, true, false, eqb, List, [], ◌∷◌, ◌++◌, length, is_some, filter, length-append, ◌⊎◌, inl, inr, refl, sym, ap, ◌∙◌, subst, le_refl, arith, Option, Some, None, option_map, if◌then◌else◌}
use Rattle.std.proofs.lemmas.Bool.{eqb-true, eqb-false, eq-eqb, ne_eqb}
use Rattle.std.proofs.lemmas.List.{length-set}
use Rattle.ale_declared.specs.Lists.{Has, upto}
use Rattle.ale_hierarchy.specs.Hierarchy.{Hierarchy, IsLawful}
use Rattle.ale_graph.specs.declared.fact.Fact.{Fact}
use Rattle.ale_graph.specs.declared.fact.Fact.TheVariants.{OfType, Value}
use Rattle.ale_graph.specs.Structures.{value_in, is_rising}
use Rattle.ale_graph.specs.Settled.{or_else, first_some, first_pair}
use Rattle.ale_graph.specs.Types.{set_at}
use Rattle.ale_graph.specs.Filling.{Filled, Gap, value_told, class_value, gap_at, gap, first_gap, fill_gap, debt, fill}
use Rattle.ale_graph.specs.Drafts.{class_in, type_in, values_in, insert_value}
use Rattle.ale_graph.specs.Keeping.{IsReady, IsTable, IsTold}
use Rattle.ale_graph.specs.Joining.{put_value}
use Rattle.ale_graph.specs.Raising.{AllInside}
use Rattle.ale_graph.specs.Working.{Working, IsDraft, filled_of, add_value, fill_at, fill_features, features_of, fill_class}
use Rattle.ale_graph.proofs.Lists.{none_some, has_left, has_right, has_either, has_upto, below_upto}
use Rattle.ale_graph.proofs.Settled.{some_longer, some_none, all_none, settle_step, settle_none}
use Rattle.ale_graph.proofs.Types.{set_here, set_else}
use Rattle.ale_graph.proofs.Closing.{IsClosing, closing_starts, told_here}
use Rattle.ale_graph.proofs.Debt.{gap_found, fill_less}
use Rattle.ale_graph.proofs.Filling.{fill_keeps}
use Rattle.ale_graph.proofs.Values.{Rises, upto_rises}
use Rattle.ale_graph.proofs.Vectors.{class_pushed, type_pushed, values_pushed}
use Rattle.ale_graph.proofs.Entries.{same_or_not}
use Rattle.ale_graph.proofs.Tables.{put_new, put_rises, put_from, put_grows, table_value}

pub ready_closing : (h : Hierarchy) (st : Filled) → IsReady h st → IsClosing h st.facts st.next st
ready_closing h st r = closing_starts h st.facts st.next st.class st.types r.fits r.classes r.types

pub closing_ready : (h : Hierarchy) (given : List Fact) (before : ℕ) (st : Filled) → IsClosing h given before st → IsReady h st
closing_ready h given before st k = record { classes = k.classes; types = k.types; fits = k.fits }

-- the first of the first numbers that gives something
pub first_upto : {B : Type 0} (give : ℕ → Option B) (n c : ℕ) (b : B) → c < n → ((k : ℕ) → k < c → give k ≡ None) → give c ≡ Some b → first_some give (upto n) ≡ Some b
first_upto give zero c b lt none e = absurd (omega arith)
first_upto give (suc n) c b lt none e = go (first_upto give n c b) (grind arith)
  where
    go : (c < n → ((k : ℕ) → k < c → give k ≡ None) → give c ≡ Some b → first_some give (upto n) ≡ Some b) → (c < n) ⊎ (c ≡ n) → first_some give (upto n ++ n ∷ []) ≡ Some b
    go ih (inl l) = some_longer give (upto n) (n ∷ []) b (ih l none e)
    go ih (inr q) = last (upto n) (λ k p. none k (let l = below_upto n k p in omega arith))
      where
        last : (xs : List ℕ) → ((k : ℕ) → Has xs k → give k ≡ None) → first_some give (xs ++ n ∷ []) ≡ Some b
        last [] all = ap (λ o. or_else o None) (ap give (sym q) ∙ e)
        last (x ∷ xs) all = ap (λ o. or_else o (first_some give (xs ++ n ∷ []))) (all x (inl refl)) ∙ last xs (λ k p. all k (inr p))

pub pair_at : {C : Type 0} (give : ℕ → ℕ → Option C) (n m a b : ℕ) (p : C) → a < n → b < m → ((k l : ℕ) → k < a → l < m → give k l ≡ None) → ((l : ℕ) → l < b → give a l ≡ None) → give a b ≡ Some p → first_pair give (upto n) (upto m) ≡ Some p
pair_at give n m a b p la lb rows row e =
    first_upto (λ x. first_some (give x) (upto m)) n a p la
    (λ k lt. all_none (give k) (upto m) (λ l h. rows k l lt (below_upto m l h)))
    (first_upto (give a) m b p lb row e)

pub pair_nowhere : {C : Type 0} (give : ℕ → ℕ → Option C) (n m : ℕ) → ((k l : ℕ) → k < n → l < m → give k l ≡ None) → first_pair give (upto n) (upto m) ≡ None
pair_nowhere give n m none = all_none (λ x. first_some (give x) (upto m)) (upto n) (λ k h. all_none (give k) (upto m) (λ l i. none k l (below_upto n k h) (below_upto m l i)))

-- one fill of the definition's loop
pub fill_one : (h : Hierarchy) (st : Filled) (g : Gap) → IsLawful h → IsReady h st → first_gap h st ≡ Some g → fill h st ≡ fill h (fill_gap g st)
unfolding fill
fill_one h st g law r e =
    settle_step (first_gap h) fill_gap (debt h) (IsClosing h st.facts st.next) (record {
      less = λ t g k e. fill_less h law t k.classes k.types g (gap_found h t g e);
      kept = λ t g k e. fill_keeps h st.facts st.next law t k g (gap_found h t g e);
    }) st g (ready_closing h st r) e

pub fill_ends : (h : Hierarchy) (st : Filled) → first_gap h st ≡ None → fill h st ≡ st
unfolding fill
fill_ends h st e = settle_none (first_gap h) fill_gap (debt h st) st e

module _ (h : Hierarchy) (law : IsLawful h) (w : Working) (d : IsDraft h w) (c f r : ℕ) (lt : c < length w.class) (own : class_in w.class c ≡ c) (none : value_in (values_in w.values c) f ≡ None) where
  class_same : class_in (add_value c f r w).class ≡ class_in w.class
  class_same = class_pushed w.class

  -- the working lists stand for what the fill makes
  pub added_is : filled_of (add_value c f r w) ≡ fill_gap (record { class = c; feature = f; fill = r }) (filled_of w)
  added_is =
      let len : length (w.class ++ length w.class ∷ []) ≡ suc (length w.class) = (let l = length-append w.class (length w.class ∷ []) in omega arith) in
      let cs = class_pushed w.class in
      let ts : type_in (w.types ++ r ∷ []) ≡ set_at (length w.class) r (type_in w.types) = type_pushed w.types r ∙ ap (λ z. set_at z r (type_in w.types)) d.types_length in
      λ i. record { facts = w.facts ++ Value c f (length w.class) ∷ OfType (length w.class) r ∷ []; next = len i; class = cs i; types = ts i }

  put_below : c < length w.values
  put_below = let len = d.values_length in omega arith

  values_at : (k : ℕ) → values_in (add_value c f r w).values k ≡ values_in (put_value c f (length w.class) w.values) k
  values_at k = values_pushed (put_value c f (length w.class) w.values) k

  told_new : Has (add_value c f r w).facts (Value c f (length w.class))
  told_new = has_right w.facts (Value c f (length w.class) ∷ OfType (length w.class) r ∷ []) (Value c f (length w.class)) (inl refl)

  added_table : IsTable (add_value c f r w).facts (class_in (add_value c f r w).class) (add_value c f r w).values
  added_table = subst (λ (z : ℕ → ℕ). IsTable (add_value c f r w).facts z (add_value c f r w).values) (sym class_same) (record {
    rises = λ k. ap is_rising (values_at k) ∙ put_rises w.values c f (length w.class) put_below none d.table.rises k;
    told = λ k g v self e. told k g v self (put_from w.values c f (length w.class) put_below none k g v (ap (λ z. value_in z g) (sym (values_at k)) ∙ e));
    there = λ n g m p. there n g m (has_either w.facts (Value c f (length w.class) ∷ OfType (length w.class) r ∷ []) (Value n g m) p);
  })
    where
      told : (k g v : ℕ) → class_in w.class k ≡ k → (value_in (values_in w.values k) g ≡ Some v) ⊎ ((k ≡ c) × (g ≡ f) × (v ≡ length w.class)) → IsTold (add_value c f r w).facts (class_in w.class) k g v
      told k g v self (inl e) = let t = d.table.told k g v self e in record { node = t.node; has = has_left w.facts (Value c f (length w.class) ∷ OfType (length w.class) r ∷ []) (Value t.node g v) t.has; of = t.of }
      told k g v self (inr q) = record {
        node = c;
        has = subst (λ z. Has (add_value c f r w).facts (Value c z v)) (sym q.1) (subst (λ z. Has (add_value c f r w).facts (Value c f z)) (sym q.2) told_new);
        of = own ∙ sym q.0;
      }

      old : (n g v : ℕ) → value_in (values_in w.values (class_in w.class n)) g ≡ Some v → value_in (values_in (add_value c f r w).values (class_in w.class n)) g ≡ Some v
      old n g v e = ap (λ z. value_in z g) (values_at (class_in w.class n)) ∙ put_grows w.values c f (length w.class) put_below none (class_in w.class n) g v e

      new : value_in (values_in (add_value c f r w).values c) f ≡ Some (length w.class)
      new = ap (λ z. value_in z f) (values_at c) ∙ put_new w.values c f (length w.class) put_below none

      there : (n g m : ℕ) → Has w.facts (Value n g m) ⊎ Has (Value c f (length w.class) ∷ OfType (length w.class) r ∷ []) (Value n g m) → (k : ℕ) × (value_in (values_in (add_value c f r w).values (class_in w.class n)) g ≡ Some k)
      there n g m (inl p) = let k = d.table.there n g m p in (k.0, old n g k.0 k.1)
      there n g m (inr (inl e)) =
          let node : n ≡ c = cc in
          let feature : g ≡ f = cc in
          (length w.class, ap (λ z. value_in (values_in (add_value c f r w).values z) g) (ap (class_in w.class) node ∙ own) ∙ ap (value_in (values_in (add_value c f r w).values c)) feature ∙ new)
      there n g m (inr (inr (inl e))) = absurd cc
      there n g m (inr (inr (inr p))) = absurd p

  pub added_draft : first_gap h (filled_of w) ≡ Some (record { class = c; feature = f; fill = r }) → IsDraft h (add_value c f r w)
  added_draft e = record {
    ready = subst (λ (z : Filled). IsReady h z) (sym added_is) (closing_ready h w.facts (length w.class) _ (fill_keeps h w.facts (length w.class) law (filled_of w) (ready_closing h (filled_of w) d.ready) (record { class = c; feature = f; fill = r }) (gap_found h (filled_of w) (record { class = c; feature = f; fill = r }) e)));
    table = added_table;
    types_length = (let a = length-append w.types (r ∷ []) in let b = length-append w.class (length w.class ∷ []) in let l = d.types_length in omega arith);
    values_length = (let a = length-append (put_value c f (length w.class) w.values) ([] ∷ []) in let b = length-append w.class (length w.class ∷ []) in let s = length-set w.values c (insert_value (values_in w.values c) f (length w.class)) in let l = d.values_length in omega arith);
  }

-- where there was no gap there is none after a fill
gap_stays : (h : Hierarchy) (st : Filled) (g : Gap) (c f : ℕ) → c < st.next → gap h st c f ≡ None → gap h (fill_gap g st) c f ≡ None
gap_stays h st g c f lt e = go (eqb (st.class c) c) e
  where
    types_same : (fill_gap g st).types c ≡ st.types c
    types_same = set_else st.next g.fill st.types c (λ q. absurd (omega arith))

    at : (a v : Option ℕ) → class_value st.class st.facts c f ≡ v → gap_at c f a v ≡ None → gap_at c f a (class_value st.class (fill_gap g st).facts c f) ≡ None
    at None v q n = refl
    at (Some r) None q n = absurd (none_some (sym n))
    at (Some r) (Some m) q n = ap (gap_at c f (Some r)) (some_longer (value_told st.class c f) st.facts (Value g.class g.feature st.next ∷ OfType st.next g.fill ∷ []) m q)

    go : (t : Bool) → (if t then gap_at c f (h.approp f (st.types c)) (class_value st.class st.facts c f) else None) ≡ None → (if t then gap_at c f (h.approp f ((fill_gap g st).types c)) (class_value st.class (fill_gap g st).facts c f) else None) ≡ None
    go false n = refl
    go true n = ap (λ z. gap_at c f (h.approp f z) (class_value st.class (fill_gap g st).facts c f)) types_same ∙ at (h.approp f (st.types c)) (class_value st.class st.facts c f) refl n

gap_gone : (h : Hierarchy) (st : Filled) (c f r : ℕ) → st.class c ≡ c → gap h (fill_gap (record { class = c; feature = f; fill = r }) st) c f ≡ None
gap_gone h st c f r own = go (eqb (st.class c) c) (class_value st.class new.facts c f) refl
  where
    new : Filled
    new = fill_gap (record { class = c; feature = f; fill = r }) st

    some_none' : (a : Option ℕ) (m : ℕ) → gap_at c f a (Some m) ≡ None
    some_none' None m = refl
    some_none' (Some q) m = refl

    go : (t : Bool) → (v : Option ℕ) → class_value st.class (fill_gap (record { class = c; feature = f; fill = r }) st).facts c f ≡ v → (if t then gap_at c f (h.approp f ((fill_gap (record { class = c; feature = f; fill = r }) st).types c)) (class_value st.class (fill_gap (record { class = c; feature = f; fill = r }) st).facts c f) else None) ≡ None
    go false v e = refl
    go true (Some m) e = ap (gap_at c f (h.approp f ((fill_gap (record { class = c; feature = f; fill = r }) st).types c))) e ∙ some_none' _ m
    go true None e =
        absurd (none_some (sym (some_none (value_told st.class c f) (fill_gap (record { class = c; feature = f; fill = r }) st).facts (Value c f st.next) e
        (has_right st.facts (Value c f st.next ∷ OfType st.next r ∷ []) (Value c f st.next) (inl refl))) ∙ told_here st.class c f c st.next own))

-- a gap of a class, from what its lists say
gap_own : (h : Hierarchy) (st : Filled) (c f : ℕ) → st.class c ≡ c → gap h st c f ≡ gap_at c f (h.approp f (st.types c)) (class_value st.class st.facts c f)
gap_own h st c f own = subst (λ t. (if t then gap_at c f (h.approp f (st.types c)) (class_value st.class st.facts c f) else None) ≡ gap_at c f (h.approp f (st.types c)) (class_value st.class st.facts c f)) (sym (eq-eqb (st.class c) c own)) refl

pub gap_other : (h : Hierarchy) (st : Filled) (c f : ℕ) → (st.class c ≡ c → ⊥) → gap h st c f ≡ None
gap_other h st c f n = subst (λ t. (if t then gap_at c f (h.approp f (st.types c)) (class_value st.class st.facts c f) else None) ≡ None) (sym (ne_eqb (st.class c) c n)) refl

-- filling went from one draft to another, and the classes below c have no gap
pub record IsFilling (h : Hierarchy) (c : ℕ) (w v : Working) : Type 0 where
  pub draft : IsDraft h v
  pub same : fill h (filled_of v) ≡ fill h (filled_of w)
  pub done : (k f : ℕ) → k < c → f < h.features → gap h (filled_of v) k f ≡ None
  pub le : debt h (filled_of v) + length v.class ≤ debt h (filled_of w) + length w.class
  pub longer : length w.class ≤ length v.class

-- the class lacks at most the listed features
AtMost : Hierarchy → ℕ → List ℕ → Working → Type 0
AtMost h c fs w = (f : ℕ) → f < h.features → (gap h (filled_of w) c f ≡ None) ⊎ Has fs f

module _ (h : Hierarchy) (law : IsLawful h) (c : ℕ) where
  features_fill : (fs : List ℕ) (w : Working) → IsDraft h w → c < length w.class → class_in w.class c ≡ c → ((k f : ℕ) → k < c → f < h.features → gap h (filled_of w) k f ≡ None) → Rises fs → ((f : ℕ) → Has fs f → f < h.features) → AtMost h c fs w → IsFilling h (suc c) w (fill_features h c fs w)
  unfolding AtMost
  features_fill [] w d lt own below rises fits most = record {
    draft = d;
    same = refl;
    done = λ k f lk lf. done k f lf (grind arith);
    le = le_refl (debt h (filled_of w) + length w.class);
    longer = le_refl (length w.class);
  }
    where
      none : (f : ℕ) → (gap h (filled_of w) c f ≡ None) ⊎ Has [] f → gap h (filled_of w) c f ≡ None
      none f (inl e) = e
      none f (inr p) = absurd p

      done : (k f : ℕ) → f < h.features → (k < c) ⊎ (k ≡ c) → gap h (filled_of w) k f ≡ None
      done k f lf (inl l) = below k f l lf
      done k f lf (inr e) = ap (λ z. gap h (filled_of w) z f) e ∙ none f (most f lf)
  features_fill (f ∷ fs) w d lt own below rises fits most = go (λ v. features_fill fs v) (h.approp f (type_in w.types c)) refl (value_in (values_in w.values c) f) refl
    where
      value_is : class_value (class_in w.class) w.facts c f ≡ option_map (class_in w.class) (value_in (values_in w.values c) f)
      value_is = table_value w.facts (length w.class) (class_in w.class) w.values d.ready.classes d.table c f own

      -- without a gap at the feature, the rest lists all that the class lacks
      drop_one : gap h (filled_of w) c f ≡ None → (g : ℕ) → (gap h (filled_of w) c g ≡ None) ⊎ Has (f ∷ fs) g → (gap h (filled_of w) c g ≡ None) ⊎ Has fs g
      drop_one e g (inl n) = inl n
      drop_one e g (inr (inl q)) = inl (ap (gap h (filled_of w) c) q ∙ e)
      drop_one e g (inr (inr p)) = inr p

      stay : ((v : Working) → IsDraft h v → c < length v.class → class_in v.class c ≡ c → ((k g : ℕ) → k < c → g < h.features → gap h (filled_of v) k g ≡ None) → Rises fs → ((g : ℕ) → Has fs g → g < h.features) → ((g : ℕ) → g < h.features → (gap h (filled_of v) c g ≡ None) ⊎ Has fs g) → IsFilling h (suc c) v (fill_features h c fs v)) → gap h (filled_of w) c f ≡ None → IsFilling h (suc c) w (fill_features h c fs w)
      stay ih e = ih w d lt own below rises.1 (λ g p. fits g (inr p)) (λ g l. drop_one e g (most g l))

      add : ((v : Working) → IsDraft h v → c < length v.class → class_in v.class c ≡ c → ((k g : ℕ) → k < c → g < h.features → gap h (filled_of v) k g ≡ None) → Rises fs → ((g : ℕ) → Has fs g → g < h.features) → ((g : ℕ) → g < h.features → (gap h (filled_of v) c g ≡ None) ⊎ Has fs g) → IsFilling h (suc c) v (fill_features h c fs v)) → (r : ℕ) → h.approp f (type_in w.types c) ≡ Some r → value_in (values_in w.values c) f ≡ None → IsFilling h (suc c) w (fill_features h c fs (add_value c f r w))
      add ih r a none =
          record {
            draft = rest.draft;
            same = rest.same ∙ ap (fill h) is ∙ sym (fill_one h (filled_of w) g law d.ready first);
            done = rest.done;
            le = (let one = less in let more = rest.le in let len = longer in omega arith);
            longer = (let len = longer in let l = rest.longer in omega arith);
          }
        where
          g : Gap
          g = record { class = c; feature = f; fill = r }

          here : gap h (filled_of w) c f ≡ Some (record { class = c; feature = f; fill = r })
          here =
              gap_own h (filled_of w) c f own
              ∙ ap (λ z. gap_at c f z (class_value (class_in w.class) w.facts c f)) a
              ∙ ap (gap_at c f (Some r)) (value_is ∙ ap (option_map (class_in w.class)) none)

          before : (l : ℕ) → l < f → (gap h (filled_of w) c l ≡ None) ⊎ Has (f ∷ fs) l → gap h (filled_of w) c l ≡ None
          before l lf (inl e) = e
          before l lf (inr (inl q)) = absurd (omega arith)
          before l lf (inr (inr p)) = let less = rises.0 l p in absurd (omega arith)

          first : first_gap h (filled_of w) ≡ Some (record { class = c; feature = f; fill = r })
          first = pair_at (gap h (filled_of w)) (length w.class) h.features c f (record { class = c; feature = f; fill = r }) lt (fits f (inl refl)) below (λ l lf. before l lf (most l (let ff = fits f (inl refl) in omega arith))) here

          is : filled_of (add_value c f r w) ≡ fill_gap (record { class = c; feature = f; fill = r }) (filled_of w)
          is = added_is h law w d c f r lt own none

          longer : length (add_value c f r w).class ≡ suc (length w.class)
          longer = let l = length-append w.class (length w.class ∷ []) in omega arith

          less : debt h (filled_of (add_value c f r w)) < debt h (filled_of w)
          less = subst (λ (z : Filled). debt h z < debt h (filled_of w)) (sym is) (fill_less h law (filled_of w) d.ready.classes d.ready.types (record { class = c; feature = f; fill = r }) (gap_found h (filled_of w) (record { class = c; feature = f; fill = r }) first))

          stays : (k l : ℕ) → k < length w.class → gap h (filled_of w) k l ≡ None → gap h (filled_of (add_value c f r w)) k l ≡ None
          stays k l lk e = subst (λ (z : Filled). gap h z k l ≡ None) (sym is) (gap_stays h (filled_of w) (record { class = c; feature = f; fill = r }) k l lk e)

          left : (l : ℕ) → (gap h (filled_of w) c l ≡ None) ⊎ Has (f ∷ fs) l → (gap h (filled_of (add_value c f r w)) c l ≡ None) ⊎ Has fs l
          left l (inl e) = inl (stays c l lt e)
          left l (inr (inl q)) = inl (ap (gap h (filled_of (add_value c f r w)) c) q ∙ subst (λ (z : Filled). gap h z c f ≡ None) (sym is) (gap_gone h (filled_of w) c f r own))
          left l (inr (inr p)) = inr p

          rest : IsFilling h (suc c) (add_value c f r w) (fill_features h c fs (add_value c f r w))
          rest =
              ih (add_value c f r w) (added_draft h law w d c f r lt own none first) (let l = longer in omega arith)
              (ap (λ (z : ℕ → ℕ). z c) (class_pushed w.class) ∙ own)
              (λ k l lk ll. stays k l (omega arith) (below k l lk ll)) rises.1 (λ l p. fits l (inr p)) (λ l ll. left l (most l ll))

      go : ((v : Working) → IsDraft h v → c < length v.class → class_in v.class c ≡ c → ((k g : ℕ) → k < c → g < h.features → gap h (filled_of v) k g ≡ None) → Rises fs → ((g : ℕ) → Has fs g → g < h.features) → ((g : ℕ) → g < h.features → (gap h (filled_of v) c g ≡ None) ⊎ Has fs g) → IsFilling h (suc c) v (fill_features h c fs v)) → (a : Option ℕ) → h.approp f (type_in w.types c) ≡ a → (v : Option ℕ) → value_in (values_in w.values c) f ≡ v → IsFilling h (suc c) w (fill_features h c fs (fill_at c f a v w))
      go ih None a v e = stay ih (gap_own h (filled_of w) c f own ∙ ap (λ z. gap_at c f z (class_value (class_in w.class) w.facts c f)) a)
      go ih (Some r) a (Some m) e =
          stay ih (gap_own h (filled_of w) c f own ∙ ap (λ z. gap_at c f z (class_value (class_in w.class) w.facts c f)) a ∙ ap (gap_at c f (Some r)) (value_is ∙ ap (option_map (class_in w.class)) e))
      go ih (Some r) a None e = add ih r a e

-- the features of a type rise, and no other one is appropriate
filter_has : (test : ℕ → Bool) (xs : List ℕ) (x : ℕ) → Has (filter test xs) x → Has xs x
filter_has test [] x p = absurd p
filter_has test (y ∷ xs) x p = go (filter_has test xs x) (test y) p
  where
    go : (Has (filter test xs) x → Has xs x) → (t : Bool) → Has (if t then y ∷ filter test xs else filter test xs) x → Has (y ∷ xs) x
    go ih true (inl e) = inl e
    go ih true (inr p) = inr (ih p)
    go ih false p = inr (ih p)

filter_there : (test : ℕ → Bool) (xs : List ℕ) (x : ℕ) → Has xs x → test x ≡ true → Has (filter test xs) x
filter_there test [] x p e = absurd p
filter_there test (y ∷ xs) x p e = go (filter_there test xs x) (test y) refl p
  where
    go : (Has xs x → test x ≡ true → Has (filter test xs) x) → (t : Bool) → test y ≡ t → (x ≡ y) ⊎ Has xs x → Has (if t then y ∷ filter test xs else filter test xs) x
    go ih true is (inl q) = inl q
    go ih true is (inr p) = inr (ih p e)
    go ih false is (inl q) = let bad : true ≡ false = sym e ∙ ap test q ∙ is in absurd cc
    go ih false is (inr p) = ih p e

filter_rises : (test : ℕ → Bool) (xs : List ℕ) → Rises xs → Rises (filter test xs)
filter_rises test [] r = tt
filter_rises test (y ∷ xs) r = go (filter_rises test xs r.1) (test y)
  where
    go : Rises (filter test xs) → (t : Bool) → Rises (if t then y ∷ filter test xs else filter test xs)
    go ih true = (λ g p. r.0 g (filter_has test xs g p), ih)
    go ih false = ih

pub feature_below : (h : Hierarchy) (t f : ℕ) → Has (features_of h t) f → f < h.features
feature_below h t f p = below_upto h.features f (filter_has (λ f. is_some (h.approp f t)) (upto h.features) f p)

pub inside_pushed : (h : Hierarchy) (types : List ℕ) (t : ℕ) → AllInside h types → t < h.types → AllInside h (types ++ t ∷ [])
inside_pushed h types t all lt c = go (same_or_not c (length types))
  where
    go : (c ≡ length types) ⊎ (c ≡ length types → ⊥) → type_in (types ++ t ∷ []) c < h.types
    go (inl e) = subst (λ z. z < h.types) (sym (ap (λ (z : ℕ → ℕ). z c) (type_pushed types t) ∙ set_here (length types) t (type_in types) c e)) lt
    go (inr n) = subst (λ z. z < h.types) (sym (ap (λ (z : ℕ → ℕ). z c) (type_pushed types t) ∙ set_else (length types) t (type_in types) c n)) (all c)

-- the next class is filled, or is none
pub class_fills : (h : Hierarchy) → IsLawful h → (c : ℕ) (w : Working) → IsDraft h w → c < length w.class → ((k f : ℕ) → k < c → f < h.features → gap h (filled_of w) k f ≡ None) → IsFilling h (suc c) w (fill_class h c w)
unfolding AtMost
class_fills h law c w d lt below = go (eqb (class_in w.class c) c) refl
  where
    most : class_in w.class c ≡ c → (f : ℕ) → f < h.features → (o : Option ℕ) → h.approp f (type_in w.types c) ≡ o → (gap h (filled_of w) c f ≡ None) ⊎ Has (features_of h (type_in w.types c)) f
    most own f lf None e = inl (gap_own h (filled_of w) c f own ∙ ap (λ z. gap_at c f z (class_value (class_in w.class) w.facts c f)) e)
    most own f lf (Some r) e = inr (filter_there (λ f. is_some (h.approp f (type_in w.types c))) (upto h.features) f (has_upto h.features f lf) (ap (λ (z : Option ℕ). is_some z) e))

    done : (class_in w.class c ≡ c → ⊥) → (k f : ℕ) → f < h.features → (k < c) ⊎ (k ≡ c) → gap h (filled_of w) k f ≡ None
    done n k f lf (inl l) = below k f l lf
    done n k f lf (inr e) = gap_other h (filled_of w) k f (λ q. n (ap (class_in w.class) (sym e) ∙ q ∙ e))

    go : (t : Bool) → eqb (class_in w.class c) c ≡ t → IsFilling h (suc c) w (if t then fill_features h c (features_of h (type_in w.types c)) w else w)
    go true e =
        let own = eqb-true (class_in w.class c) c e in
        features_fill h law c (features_of h (type_in w.types c)) w d lt own below
        (filter_rises (λ f. is_some (h.approp f (type_in w.types c))) (upto h.features) (upto_rises h.features))
        (feature_below h (type_in w.types c)) (λ f lf. most own f lf (h.approp f (type_in w.types c)) refl)
    go false e = record {
      draft = d;
      same = refl;
      done = λ k f lk lf. done (eqb-false (class_in w.class c) c e) k f lf (grind arith);
      le = le_refl (debt h (filled_of w) + length w.class);
      longer = le_refl (length w.class);
    }

-- when all classes are filled, filling is done
pub filling_ends : (h : Hierarchy) (w v : Working) (c : ℕ) → length v.class ≤ c → fill h (filled_of v) ≡ fill h (filled_of w) → ((k f : ℕ) → k < c → f < h.features → gap h (filled_of v) k f ≡ None) → filled_of v ≡ fill h (filled_of w)
filling_ends h w v c le same done =
    sym (fill_ends h (filled_of v) (pair_nowhere (gap h (filled_of v)) (length v.class) h.features (λ k f lk lf. done k f (omega arith) lf))) ∙ same

-- The words by which a state goes on give states, which have all that was there.
use Rattle.std.proofs.Common.{◌≡◌, ℕ, ◌+◌, ◌<◌, List, [], ◌∷◌, ◌++◌, length, ◌⊎◌, inl, inr, refl, sym, ap, ◌∙◌, subst, arith, replicate, None}
use Rattle.std.proofs.lemmas.List.{append-nil, append_assoc}
use Rattle.ale_declared.specs.Lists.{Has}
use Rattle.ale_hierarchy.specs.Hierarchy.{Hierarchy}
use Rattle.ale_graph.specs.declared.fact.Fact.{Fact}
use Rattle.ale_graph.specs.declared.closed.Closed.{Closed}
use Rattle.ale_graph.specs.Facts.{FitsFact, Fits}
use Rattle.ale_graph.specs.Universal.{IsClosure}
use Rattle.ale_graph.proofs.Lists.{has_left, has_either}
use Rattle.ale_logic.specs.Programs.{Element, member, tail}
use Rattle.ale_logic.specs.States.{Piece, Item, env_at, State, told, doing, doing_all, grown, with_env, bind, imposing, with_phrases, say, remaining, chosen}
use Rattle.ale_logic.specs.Visits.{closed_at}
use Rattle.ale_logic.specs.WellFormed.{Scope, scope_of, FitPieces, FitsItem, FitItems, FitsRest, IsState}
use Rattle.ale_step_law.proofs.Closures.{given_has}
use Rattle.ale_step_law.proofs.EnvLists.{bind_length, bind_lengths, bind_cases, bound_back, env_old, more_envs}
use Rattle.ale_step_law.proofs.Wider.{Wider, wider_self, wider_on, fact_wider, items_wider, rest_wider, pieces_wider}

-- b is a state, and has all of a; what was imposed on a comes first
pub record Goes (h : Hierarchy) (a b : State) : Type 0 where
  pub is : IsState h b
  pub wider : Wider (scope_of a) (scope_of b)
  pub imposed : (more : List (ℕ × ℕ)) × (b.imposed ≡ a.imposed ++ more)
  pub choices : b.choices ≡ a.choices

pub goes_self : (h : Hierarchy) (a : State) → IsState h a → Goes h a a
goes_self h a is = record { is = is; wider = wider_self (scope_of a); imposed = ([], sym (append-nil a.imposed)); choices = refl }

-- each of the items fits
pub fit_all : (h : Hierarchy) (c : Scope) (is js : List Item) → FitItems h c is → FitItems h c js → FitItems h c (is ++ js)
fit_all h c [] js p q = q
fit_all h c (i ∷ is) js p q = (p.0, fit_all h c is js p.1 q)

fits_more : (h : Hierarchy) (facts others : List Fact) (next : ℕ) → Fits h facts next → ((x : Fact) → Has others x → FitsFact h next x) → Fits h (facts ++ others) next
fits_more h facts others next p q x e = go (has_either facts others x e)
  where
    go : Has facts x ⊎ Has others x → FitsFact h next x
    go (inl r) = p x r
    go (inr r) = q x r

-- one more of a list
pub one_more : {A : Type 0} (P : A → Type 0) (xs : List A) (y : A) → ((x : A) → Has xs x → P x) → P y → (x : A) → Has (xs ++ y ∷ []) x → P x
one_more P xs y old new x e = go (has_either xs (y ∷ []) x e)
  where
    go : Has xs x ⊎ Has (y ∷ []) x → P x
    go (inl p) = old x p
    go (inr (inl p)) = subst P (sym p) new
    go (inr (inr p)) = absurd p

-- the state with a wider scope
pub record Widened (h : Hierarchy) (st : State) (d : Scope) : Type 0 where
  pub items : FitItems h d st.agenda
  pub rest : (e : Element) → Has st.rest e → FitsRest h d e
  pub said : (g : ℕ) (ps : List Piece) → Has st.said (g, ps) → (g < d.phrases) × FitPieces d g ps

pub widened : (h : Hierarchy) (st : State) (d : Scope) → IsState h st → Wider (scope_of st) d → Widened h st d
widened h st d is w = record {
  items = items_wider h (scope_of st) d w st.agenda is.items;
  rest = λ e p. rest_wider h (scope_of st) d w e (is.rest e p);
  said = λ g ps p. (let low = (is.said g ps p).0 in let more = w.phrases in omega arith, pieces_wider h (scope_of st) d w g ps (is.said g ps p).1);
}

module _ (h : Hierarchy) (a b : State) (k : Goes h a b) where
  -- the words, by the wider scope that each gives
  facts_wider : (others : List Fact) → Wider (scope_of b) (scope_of (record b { facts = b.facts ++ others }))
  facts_wider others = record { facts = λ x p. has_left b.facts others x p; next = omega arith; envs = omega arith; lengths = λ e low. refl; phrases = omega arith }

  pub goes_told : (x : Fact) → FitsFact h b.next x → Goes h a (told x b)
  goes_told x fit =
      let w = facts_wider (x ∷ []) in
      let r = widened h b (scope_of (told x b)) k.is w in
      record {
        is = record {
          some_node = k.is.some_node;
          facts = one_more (FitsFact h b.next) b.facts x k.is.facts fit;
          below = k.is.below;
          items = r.items;
          rest = r.rest;
          imposed = k.is.imposed;
          said = r.said;
        };
        wider = wider_on (scope_of a) (scope_of b) (scope_of (told x b)) k.wider w;
        imposed = k.imposed;
        choices = k.choices;
      }

  pub goes_doing : (i : Item) → FitsItem h (scope_of b) i → Goes h a (doing i b)
  goes_doing i fit = record {
    is = record { some_node = k.is.some_node; facts = k.is.facts; below = k.is.below; items = (fit, k.is.items); rest = k.is.rest; imposed = k.is.imposed; said = k.is.said };
    wider = k.wider;
    imposed = k.imposed;
    choices = k.choices;
  }

  pub goes_doing_all : (is : List Item) → FitItems h (scope_of b) is → Goes h a (doing_all is b)
  goes_doing_all is fit = record {
    is = record { some_node = k.is.some_node; facts = k.is.facts; below = k.is.below; items = fit_all h (scope_of b) is b.agenda fit k.is.items; rest = k.is.rest; imposed = k.is.imposed; said = k.is.said };
    wider = k.wider;
    imposed = k.imposed;
    choices = k.choices;
  }

  pub goes_grown : (n : ℕ) → Goes h a (grown n b)
  goes_grown n =
      let w : Wider (scope_of b) (scope_of (grown n b)) = record { facts = λ x p. p; next = omega arith; envs = omega arith; lengths = λ e low. refl; phrases = omega arith } in
      let r = widened h b (scope_of (grown n b)) k.is w in
      record {
        is = record {
          some_node = let low = k.is.some_node in omega arith;
          facts = λ x p. fact_wider h b.next (b.next + n) (omega arith) x (k.is.facts x p);
          below = λ e v m p. let low = k.is.below e v m p in omega arith;
          items = r.items;
          rest = r.rest;
          imposed = λ m c p. let low = k.is.imposed m c p in omega arith;
          said = r.said;
        };
        wider = wider_on (scope_of a) (scope_of b) (scope_of (grown n b)) k.wider w;
        imposed = k.imposed;
        choices = k.choices;
      }

  pub goes_with_env : (slots : ℕ) → Goes h a (with_env slots b)
  goes_with_env slots =
      let w : Wider (scope_of b) (scope_of (with_env slots b)) = record {
        facts = λ x p. p;
        next = omega arith;
        envs = let e = more_envs b.envs (replicate slots None) in omega arith;
        lengths = λ e low. ap length (env_old b.envs (replicate slots None) e low);
        phrases = omega arith;
      } in
      let r = widened h b (scope_of (with_env slots b)) k.is w in
      record {
        is = record {
          some_node = k.is.some_node;
          facts = k.is.facts;
          below = λ e v m p. k.is.below e v m (bound_back b.envs slots e v m p);
          items = r.items;
          rest = r.rest;
          imposed = k.is.imposed;
          said = r.said;
        };
        wider = wider_on (scope_of a) (scope_of b) (scope_of (with_env slots b)) k.wider w;
        imposed = k.imposed;
        choices = k.choices;
      }

  pub goes_bind : (e v n : ℕ) → e < length b.envs → v < length (env_at b.envs e) → n < b.next → Goes h a (bind e v n b)
  goes_bind e v n low inside below =
      let w : Wider (scope_of b) (scope_of (bind e v n b)) = record {
        facts = λ x p. p;
        next = omega arith;
        envs = let l = bind_length b.envs e v n in omega arith;
        lengths = λ d q. bind_lengths b.envs e v n d low;
        phrases = omega arith;
      } in
      let r = widened h b (scope_of (bind e v n b)) k.is w in
      record {
        is = record {
          some_node = k.is.some_node;
          facts = k.is.facts;
          below = λ d u m p. bind_cases b.envs e v n d u m (λ d u m. m < b.next) low inside below (k.is.below d u m) p;
          items = r.items;
          rest = r.rest;
          imposed = k.is.imposed;
          said = r.said;
        };
        wider = wider_on (scope_of a) (scope_of b) (scope_of (bind e v n b)) k.wider w;
        imposed = k.imposed;
        choices = k.choices;
      }

  pub goes_imposing : (n c : ℕ) → n < b.next → Goes h a (imposing n c b)
  goes_imposing n c low = record {
    is = record {
      some_node = k.is.some_node;
      facts = k.is.facts;
      below = k.is.below;
      items = k.is.items;
      rest = k.is.rest;
      imposed = λ m d p. one_more (λ z. z.0 < b.next) b.imposed (n, c) (λ z q. k.is.imposed z.0 z.1 q) low (m, d) p;
      said = k.is.said;
    };
    wider = k.wider;
    imposed = (k.imposed.0 ++ (n, c) ∷ [], ap (λ z. z ++ (n, c) ∷ []) k.imposed.1 ∙ append_assoc a.imposed k.imposed.0 ((n, c) ∷ []));
    choices = k.choices;
  }

  pub goes_with_phrases : (n : ℕ) → Goes h a (with_phrases n b)
  goes_with_phrases n =
      let w : Wider (scope_of b) (scope_of (with_phrases n b)) = record { facts = λ x p. p; next = omega arith; envs = omega arith; lengths = λ e low. refl; phrases = omega arith } in
      let r = widened h b (scope_of (with_phrases n b)) k.is w in
      record {
        is = record { some_node = k.is.some_node; facts = k.is.facts; below = k.is.below; items = r.items; rest = r.rest; imposed = k.is.imposed; said = r.said };
        wider = wider_on (scope_of a) (scope_of b) (scope_of (with_phrases n b)) k.wider w;
        imposed = k.imposed;
        choices = k.choices;
      }

  pub goes_say : (g : ℕ) (ps : List Piece) → g < b.phrases → FitPieces (scope_of b) g ps → Goes h a (say g ps b)
  goes_say g ps low fit = record {
    is = record {
      some_node = k.is.some_node;
      facts = k.is.facts;
      below = k.is.below;
      items = k.is.items;
      rest = k.is.rest;
      imposed = k.is.imposed;
      said = λ f us p. one_more (λ z. (z.0 < b.phrases) × FitPieces (scope_of b) z.0 z.1) b.said (g, ps) (λ z q. k.is.said z.0 z.1 q) (low, fit) (f, us) p;
    };
    wider = k.wider;
    imposed = k.imposed;
    choices = k.choices;
  }

  pub goes_remaining : (n : ℕ) → n < b.next → Goes h a (remaining n b)
  goes_remaining n low = record {
    is = record { some_node = k.is.some_node; facts = k.is.facts; below = k.is.below; items = k.is.items; rest = go; imposed = k.is.imposed; said = k.is.said };
    wider = k.wider;
    imposed = k.imposed;
    choices = k.choices;
  }
    where
      go : (e : Element) → Has (member n ∷ tail n ∷ b.rest) e → FitsRest h (scope_of b) e
      go e (inl p) = subst (FitsRest h (scope_of b)) (sym p) low
      go e (inr (inl p)) = subst (FitsRest h (scope_of b)) (sym p) low
      go e (inr (inr p)) = k.is.rest e p

-- the kid with its number is a state as before
pub chosen_state : (h : Hierarchy) (n : ℕ) (st : State) → IsState h st → IsState h (chosen n st)
chosen_state h n st is = record { some_node = is.some_node; facts = is.facts; below = is.below; items = is.items; rest = is.rest; imposed = is.imposed; said = is.said }

-- A state at its closure, with what was to be done or less.
pub closed_wider : (h : Hierarchy) (st : State) (c : Closed) → IsClosure h st.facts st.next c → (is : List Item) → Wider (scope_of st) (scope_of (closed_at c is st))
closed_wider h st c k is = record {
  facts = λ x p. given_has h st.facts st.next c k x p;
  next = k.longer;
  envs = omega arith;
  lengths = λ e low. refl;
  phrases = omega arith;
}

pub closed_goes : (h : Hierarchy) (st : State) (c : Closed) → IsClosure h st.facts st.next c → IsState h st → (is : List Item) → FitItems h (scope_of st) is → Goes h st (closed_at c is st)
closed_goes h st c k state is fit =
    let w = closed_wider h st c k is in
    let r = widened h st (scope_of (closed_at c is st)) state w in
    record {
      is = record {
        some_node = let low = state.some_node in let more = k.longer in omega arith;
        facts = k.fits;
        below = λ e v n p. let low = state.below e v n p in let more = k.longer in omega arith;
        items = items_wider h (scope_of st) (scope_of (closed_at c is st)) w is fit;
        rest = r.rest;
        imposed = λ n m p. let low = state.imposed n m p in let more = k.longer in omega arith;
        said = r.said;
      };
      wider = w;
      imposed = ([], sym (append-nil st.imposed));
      choices = refl;
    }

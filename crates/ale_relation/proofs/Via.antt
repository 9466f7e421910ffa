-- Paths by the nodes between their ends: what each pass of the closure has found.
use Rattle.std.proofs.Common.{◌≡◌, ℕ, ◌+◌, ◌<◌, ◌≤◌, ◌⊎◌, ◌↔◌, Bool, true, ◌||◌, ◌&&◌, List, IsTrue, sym, subst, inl, inr, arith, ◌∙◌}
use Rattle.std.proofs.lemmas.Bool.{cases_lt, and_parts, or_cases, and_from, or_left, or_right}
use Rattle.ale_relation.specs.Has.{Has}
use Rattle.ale_relation.specs.Paths.{Reaches, here, along, Leads, ends_below}
use Rattle.ale_relation.proofs.Paths.{reaches_from_leads, has_below}

-- one or more edges lead from `a` to `b`, by nodes below `m` between the two
pub data Via (edges : List (ℕ × ℕ)) (m : ℕ) : ℕ → ℕ → Type 0 where
  direct : (a b : ℕ) → Has edges (a, b) → Via edges m a b
  through : (a b c : ℕ) → Has edges (a, b) → b < m → Via edges m b c → Via edges m a c

via_weaken : (edges : List (ℕ × ℕ)) (m a b : ℕ) → Via edges m a b → Via edges (m + 1) a b
via_weaken edges m a b (direct _ _ e) = direct a b e
via_weaken edges m a b (through _ c _ e low p) =
    through a c b e (omega arith) (via_weaken edges m c b p)

via_join : (edges : List (ℕ × ℕ)) (m a n b : ℕ) → n < m + 1 → Via edges m a n → Via edges m n b → Via edges (m + 1) a b
via_join edges m a n b within (direct _ _ e) q = through a n b e within (via_weaken edges m n b q)
via_join edges m a n b within (through _ c _ e low p) q =
    through a c b e (omega arith) (via_join edges m c n b within p q)

-- a path by nodes below `m`, or two that meet at `m`
abbrev Meets : List (ℕ × ℕ) → ℕ → ℕ → ℕ → Type 0
Meets edges m a b = Via edges m a b ⊎ (Via edges m a m × Via edges m m b)

through_less : (edges : List (ℕ × ℕ)) (m a c b : ℕ) → Has edges (a, c) → c < m → Meets edges m c b → Meets edges m a b
through_less edges m a c b e low (inl p) = inl (through a c b e low p)
through_less edges m a c b e low (inr p) = inr (through a c m e low p.0, p.1)

through_same : (edges : List (ℕ × ℕ)) (m a b : ℕ) → Has edges (a, m) → Meets edges m m b → Meets edges m a b
through_same edges m a b e (inl p) = inr (direct a m e, p)
through_same edges m a b e (inr p) = inr (direct a m e, p.1)

through_more : (edges : List (ℕ × ℕ)) (m a c b : ℕ) → Has edges (a, c) → c < m + 1 → Meets edges m c b → (c < m) ⊎ (m ≤ c) → Meets edges m a b
through_more edges m a c b e within p (inl low) = through_less edges m a c b e low p
through_more edges m a c b e within p (inr high) =
    let same : c ≡ m = omega arith in
    through_same edges m a b (subst (λ (x : ℕ). Has edges (a, x)) same e) (subst (λ (x : ℕ). Meets edges m x b) same p)

via_split : (edges : List (ℕ × ℕ)) (m a b : ℕ) → Via edges (m + 1) a b → Meets edges m a b
via_split edges m a b (direct _ _ e) = inl (direct a b e)
via_split edges m a b (through _ c _ e within p) =
    through_more edges m a c b e within (via_split edges m c b p) (cases_lt c m)

more_via : (edges : List (ℕ × ℕ)) (m a b : ℕ) (ab am mb : Bool) → (IsTrue ab → Via edges m a b) → (IsTrue am → Via edges m a m) → (IsTrue mb → Via edges m m b) → (IsTrue ab) ⊎ (IsTrue (am && mb)) → Via edges (m + 1) a b
more_via edges m a b ab am mb f g h (inl t) = via_weaken edges m a b (f t)
more_via edges m a b ab am mb f g h (inr t) =
    via_join edges m a m b (omega arith) (g (and_parts am mb t).0) (h (and_parts am mb t).1)

more_test : (edges : List (ℕ × ℕ)) (m a b : ℕ) (ab am mb : Bool) → (Via edges m a b → IsTrue ab) → (Via edges m a m → IsTrue am) → (Via edges m m b → IsTrue mb) → Meets edges m a b → (ab || (am && mb)) ≡ true
more_test edges m a b ab am mb f g h (inl p) = or_left ab (am && mb) (f p)
more_test edges m a b ab am mb f g h (inr p) =
    or_right ab (am && mb) (and_from am mb (g p.0) (h p.1))

-- one pass of the closure, at one pair
pub via_more : (edges : List (ℕ × ℕ)) (m a b : ℕ) (ab am mb new : Bool) → (IsTrue ab ↔ Via edges m a b) → (IsTrue am ↔ Via edges m a m) → (IsTrue mb ↔ Via edges m m b) → new ≡ (ab || (am && mb)) → IsTrue new ↔ Via edges (m + 1) a b
via_more edges m a b ab am mb new f g h e =
    (λ t. more_via edges m a b ab am mb f.0 g.0 h.0 (or_cases ab (am && mb) (sym e ∙ t)), λ p. e ∙ more_test edges m a b ab am mb f.1 g.1 h.1 (via_split edges m a b p))

-- with no node between the ends there is one edge
via_none : (edges : List (ℕ × ℕ)) (a b : ℕ) → Via edges 0 a b → Has edges (a, b)
via_none edges a b (direct _ _ e) = e
via_none edges a b (through _ c _ e low p) = absurd (omega arith)

leads_from_via : (edges : List (ℕ × ℕ)) (m a b : ℕ) → Via edges m a b → Leads edges a b
leads_from_via edges m a b (direct _ _ e) = (b, e, here b)
leads_from_via edges m a b (through _ c _ e low p) =
    (c, e, reaches_from_leads edges c b (leads_from_via edges m c b p))

via_from_path : (edges : List (ℕ × ℕ)) (size a b c : ℕ) → ends_below size edges ≡ true → Has edges (a, b) → Reaches edges b c → Via edges size a c
via_from_path edges size a b c within e (here _) = direct a b e
via_from_path edges size a b c within e (along _ m _ f p) =
    through a b c e (has_below size edges (a, b) within e).1 (via_from_path edges size b m c within f p)

-- by nodes below the size lead all edges
via_last : (edges : List (ℕ × ℕ)) (size a b : ℕ) → ends_below size edges ≡ true → Via edges size a b ↔ Leads edges a b
via_last edges size a b within =
    (leads_from_via edges size a b, λ p. via_from_path edges size a p.0 b within p.1 p.2)

-- after the last pass
pub via_all : (edges : List (ℕ × ℕ)) (size m a b : ℕ) (found : Bool) → ends_below size edges ≡ true → m ≡ size → (IsTrue found ↔ Via edges m a b) → IsTrue found ↔ Leads edges a b
via_all edges size m a b found within e so_far =
    let last = via_last edges size a b within in
    let now = subst (λ (n : ℕ). IsTrue found ↔ Via edges n a b) e so_far in
    (λ t. last.0 (now.0 t), λ p. now.1 (last.1 p))

-- before the first pass
pub via_first : (edges : List (ℕ × ℕ)) (a b : ℕ) (found : Bool) → (IsTrue found ↔ Has edges (a, b)) → IsTrue found ↔ Via edges 0 a b
via_first edges a b found e = (λ t. direct a b (e.0 t), λ p. e.1 (via_none edges a b p))

-- ---- the edges put in one by one

-- the pair is in, or among the edges to come
abbrev pub IsIn : Bool → List (ℕ × ℕ) → ℕ → ℕ → Type 0
IsIn found rest a b = IsTrue found ⊎ Has rest (a, b)

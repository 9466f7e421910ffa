-- Paths of calls, each on from one before it.
use Rattle.std.proofs.Common.{◌≡◌, refl, sym, ap, ◌∙◌, subst, ℕ, zero, suc, ◌+◌, ◌<◌, ◌≤◌, ◌⊎◌, List, [], ◌∷◌, ◌++◌, length, length-append, get_or, inl, inr, arith}
use Rattle.std.proofs.lemmas.List.{get_or_append_left}
use Rattle.std.proofs.Math.Seq.{get_or-append_seam}
use Rattle.ale_expansion.specs.declared.mark.Mark.{Mark}
use Rattle.ale_expansion.specs.Marks.{place_of, with_mark, path_at, paths_from, paths_of, origins_of}
use Rattle.ale_expansion.specs.Met.{MetData, IsMet, LeadOn, AreDistinct}
use Rattle.ale_expansion.proofs.Numbering.{old_or_new, IsOld, IsNew}
use Rattle.ale_expansion.proofs.Slotting.{below_wider, origins_wider}

-- the path to which a call leads
abbrev pub onward : List (List ℕ) → Mark → List ℕ
onward paths m = m.number ∷ path_at paths m.path

-- paths that are known stay
pub known_stay : (known : List (List ℕ)) (ms : List Mark) (i : ℕ) → i < length known → path_at (paths_from known ms) i ≡ path_at known i
known_stay known [] i h = refl
known_stay known (m ∷ ms) i h =
    known_stay (known ++ onward known m ∷ []) ms i (omega (arith, h, length-append known (onward known m ∷ [])))
    ∙ get_or_append_left known (onward known m ∷ []) [] i h

pub how_many_paths : (known : List (List ℕ)) (ms : List Mark) → length (paths_from known ms) ≡ length known + length ms
how_many_paths known [] = omega arith
how_many_paths known (m ∷ ms) =
    how_many_paths (known ++ onward known m ∷ []) ms ∙ omega (arith, length-append known (onward known m ∷ []))

-- one more call
pub one_more : (known : List (List ℕ)) (ms : List Mark) (m : Mark) → paths_from known (ms ++ m ∷ []) ≡ paths_from known ms ++ onward (paths_from known ms) m ∷ []
one_more known [] m = refl
one_more known (n ∷ ms) m = one_more (known ++ onward known n ∷ []) ms m

-- a call leads on from a path before it
pub lead_at : (n : ℕ) (ms : List Mark) (k : ℕ) (d : Mark) → LeadOn n ms → k < length ms → (get_or ms k d).path < n + k
lead_at n [] k d lead h = absurd (omega (arith, h))
lead_at n (m ∷ ms) zero d lead h = omega (arith, lead.0)
lead_at n (m ∷ ms) (suc k) d lead h = omega (arith, lead_at (suc n) ms k d lead.1 (omega (arith, h)))

pub lead_more : (n : ℕ) (ms : List Mark) (m : Mark) → LeadOn n ms → m.path < n + length ms → LeadOn n (ms ++ m ∷ [])
lead_more n [] m lead h = (omega (arith, h), tt)
lead_more n (k ∷ ms) m lead h = (lead.0, lead_more (suc n) ms m lead.1 (omega (arith, h)))

-- each call leads to the path after its own
pub led_to : (known : List (List ℕ)) (ms : List Mark) (k : ℕ) (d : Mark) → LeadOn (length known) ms → k < length ms → path_at (paths_from known ms) (length known + k) ≡ onward (paths_from known ms) (get_or ms k d)
led_to known [] k d lead h = absurd (omega (arith, h))
led_to known (m ∷ ms) zero d lead h =
    let wider : length (known ++ onward known m ∷ []) ≡ length known + 1 = length-append known (onward known m ∷ []) in
    let here : length known + 0 ≡ length known = omega arith in
    let stays : path_at (paths_from (known ++ onward known m ∷ []) ms) m.path ≡ path_at known m.path =
    known_stay (known ++ onward known m ∷ []) ms m.path (omega (arith, lead.0, wider)) ∙ get_or_append_left known (onward known m ∷ []) [] m.path lead.0 in
    ap (λ i. path_at (paths_from (known ++ onward known m ∷ []) ms) i) here
    ∙ (known_stay (known ++ onward known m ∷ []) ms (length known) (omega (arith, wider))
    ∙ (get_or-append_seam known (onward known m) [] []
    ∙ ap (λ p. m.number ∷ p) (sym stays)))
led_to known (m ∷ ms) (suc k) d lead h =
    let wider : length (known ++ onward known m ∷ []) ≡ length known + 1 = length-append known (onward known m ∷ []) in
    let same : suc (length known) ≡ length (known ++ onward known m ∷ []) = omega (arith, wider) in
    let there : length known + suc k ≡ length (known ++ onward known m ∷ []) + k = omega (arith, wider) in
    ap (λ i. path_at (paths_from (known ++ onward known m ∷ []) ms) i) there
    ∙ led_to (known ++ onward known m ∷ []) ms k d (subst (λ n. LeadOn n ms) same lead.1) (omega (arith, h))

-- no path that is there is that to which a new call leads
pub apart : (ms : List Mark) (m : Mark) → LeadOn 1 ms → AreDistinct (paths_of ms) → m.path < length (paths_of ms) → ((j : ℕ) → j < length ms → get_or ms j m ≡ m → ⊥) → (i : ℕ) → i < length (paths_of ms) → path_at (paths_of ms) i ≡ onward (paths_of ms) m → ⊥
apart ms m lead distinct inside new zero h e =
    let first : path_at (paths_of ms) 0 ≡ [] = known_stay ([] ∷ []) ms 0 (omega arith) in
    let no : [] ≡ onward (paths_of ms) m = sym first ∙ e in
    absurd cc
apart ms m lead distinct inside new (suc k) h e =
    let many : length (paths_of ms) ≡ 1 + length ms = how_many_paths ([] ∷ []) ms in
    let there : k < length ms = omega (arith, h, many) in
    let at : 1 + k ≡ suc k = omega arith in
    let u = get_or ms k m in
    let is : path_at (paths_of ms) (suc k) ≡ onward (paths_of ms) u = subst (λ i. path_at (paths_of ms) i ≡ onward (paths_of ms) u) at (led_to ([] ∷ []) ms k m lead there) in
    let both : onward (paths_of ms) u ≡ onward (paths_of ms) m = sym is ∙ e in
    let before : u.path < 1 + k = lead_at 1 ms k m lead there in
    new k there (joined u (parts both).0 (distinct u.path m.path (omega (arith, before, h)) inside (parts both).1))
  where
    parts : {a b : ℕ} → {p q : List ℕ} → ◌≡◌ {A = List ℕ} (a ∷ p) (b ∷ q) → (a ≡ b) × (p ≡ q)
    parts e = (cc, cc)

    joined : (u : Mark) → u.number ≡ m.number → u.path ≡ m.path → u ≡ m
    joined u a b = made u.path m.path u.number m.number b a
      where
        made : (a b c d : ℕ) → a ≡ b → c ≡ d → ◌≡◌ {A = Mark} (record { path = a; number = c }) (record { path = b; number = d })
        made a b c d p q = rw (p, q) refl

-- a path that is new leaves them distinct
pub distinct_more : (paths : List (List ℕ)) (p : List ℕ) → AreDistinct paths → ((i : ℕ) → i < length paths → path_at paths i ≡ p → ⊥) → AreDistinct (paths ++ p ∷ [])
distinct_more paths p distinct new i j h k e =
    let wider : length (paths ++ p ∷ []) ≡ length paths + 1 = length-append paths (p ∷ []) in
    go i j (there i h wider) (there j k wider) e
  where
    there : (i : ℕ) → i < length (paths ++ p ∷ []) → length (paths ++ p ∷ []) ≡ length paths + 1 → (i < length paths) ⊎ (i ≡ length paths)
    there i h wider = grind arith

    old : (i : ℕ) → i < length paths → path_at (paths ++ p ∷ []) i ≡ path_at paths i
    old i h = get_or_append_left paths (p ∷ []) [] i h

    last : (i : ℕ) → i ≡ length paths → path_at (paths ++ p ∷ []) i ≡ p
    last i e = ap (path_at (paths ++ p ∷ [])) e ∙ get_or-append_seam paths p [] []

    go : (i j : ℕ) → (i < length paths) ⊎ (i ≡ length paths) → (j < length paths) ⊎ (j ≡ length paths) → path_at (paths ++ p ∷ []) i ≡ path_at (paths ++ p ∷ []) j → i ≡ j
    go i j (inl h) (inl k) e = distinct i j h k (sym (old i h) ∙ (e ∙ old j k))
    go i j (inl h) (inr k) e = absurd (new i h (sym (old i h) ∙ (e ∙ last j k)))
    go i j (inr h) (inl k) e = absurd (new j k (sym (old j k) ∙ (sym e ∙ last i h)))
    go i j (inr h) (inr k) e = h ∙ sym k

-- what going on from a path by a call comes to
record PathLaw (ms : List Mark) (m : Mark) (k : ℕ) (new : List Mark) : Type 0 where
  pub within : k + 1 < length (paths_of new)
  pub path : path_at (paths_of new) (k + 1) ≡ onward (paths_of ms) m
  pub more : (more : List (List ℕ)) × (paths_of new ≡ paths_of ms ++ more)
  pub lead : LeadOn 1 new
  pub distinct : AreDistinct (paths_of new)

path_law : (ms : List Mark) (m : Mark) → LeadOn 1 ms → AreDistinct (paths_of ms) → m.path < length (paths_of ms) → PathLaw ms m (place_of ms m) (with_mark ms m)
path_law ms m lead distinct inside = elim (old_or_new ms m) [ inl o ↦ old o | inr n ↦ new n ]
  where
    many : length (paths_of ms) ≡ 1 + length ms
    many = how_many_paths ([] ∷ []) ms

    append_none : (xs : List (List ℕ)) → xs ++ [] ≡ xs
    append_none [] = refl
    append_none (x ∷ xs) = ap (λ ys. x ∷ ys) (append_none xs)

    old : IsOld ms m → PathLaw ms m (place_of ms m) (with_mark ms m)
    old o =
        let at : 1 + place_of ms m ≡ place_of ms m + 1 = omega arith in
        rw o.2 (record {
          within = omega (arith, o.0, many);
          path = subst (λ i. path_at (paths_of ms) i ≡ onward (paths_of ms) m) at (led_to ([] ∷ []) ms (place_of ms m) m lead o.0 ∙ ap (onward (paths_of ms)) o.1);
          more = ([], sym (append_none (paths_of ms)));
          lead = lead;
          distinct = distinct;
        })

    new : IsNew ms m → PathLaw ms m (place_of ms m) (with_mark ms m)
    new n =
        let grown : paths_of (ms ++ m ∷ []) ≡ paths_of ms ++ onward (paths_of ms) m ∷ [] = one_more ([] ∷ []) ms m in
        let wider : length (paths_of ms ++ onward (paths_of ms) m ∷ []) ≡ length (paths_of ms) + 1 = length-append (paths_of ms) (onward (paths_of ms) m ∷ []) in
        let at : length ms + 1 ≡ length (paths_of ms) = omega (arith, many) in
        let there : length ms + 1 < length (paths_of ms ++ onward (paths_of ms) m ∷ []) = omega (arith, wider, many) in
        let is : path_at (paths_of ms ++ onward (paths_of ms) m ∷ []) (length ms + 1) ≡ onward (paths_of ms) m = ap (path_at (paths_of ms ++ onward (paths_of ms) m ∷ [])) at ∙ get_or-append_seam (paths_of ms) (onward (paths_of ms) m) [] [] in
        rw (n.1, n.0) (record {
          within = subst (λ ps. length ms + 1 < length ps) (sym grown) there;
          path = subst (λ ps. path_at ps (length ms + 1) ≡ onward (paths_of ms) m) (sym grown) is;
          more = (onward (paths_of ms) m ∷ [], grown);
          lead = lead_more 1 ms m lead (omega (arith, inside, many));
          distinct = subst AreDistinct (sym grown) (distinct_more (paths_of ms) (onward (paths_of ms) m) distinct (apart ms m lead distinct inside n.2));
        })

-- the same beside the variables
pub record OnwardLaw (slots : List Mark) (d : MetData) (m : Mark) (k : ℕ) (new : List Mark) : Type 0 where
  pub is : IsMet new slots
  pub within : k + 1 < length (paths_of new)
  pub path : path_at (paths_of new) (k + 1) ≡ m.number ∷ path_at d.paths m.path
  pub more : (more : List (List ℕ)) × (paths_of new ≡ d.paths ++ more)
  pub variables : origins_of (paths_of new) slots ≡ d.variables

pub onward_law : (calls slots new : List Mark) (k : ℕ) (d : MetData) (m : Mark) → record { paths = paths_of calls; variables = origins_of (paths_of calls) slots } ≡ d → IsMet calls slots → m.path < length d.paths → k ≡ place_of calls m → new ≡ with_mark calls m → OnwardLaw slots d m k new
onward_law calls slots new k d m view is h e f =
    subst (λ (d : MetData). m.path < length d.paths → OnwardLaw slots d m k new) view (λ h. rw (e, f) (of (with_mark calls m) (path_law calls m is.lead is.distinct h))) h
  where
    of : (new : List Mark) → PathLaw calls m (place_of calls m) new → OnwardLaw slots (record { paths = paths_of calls; variables = origins_of (paths_of calls) slots }) m (place_of calls m) new
    of new law =
        let longer : length (paths_of calls ++ law.more.0) ≡ length (paths_of calls) + length law.more.0 = length-append (paths_of calls) law.more.0 in
        let least : length (paths_of calls) ≤ length (paths_of new) = subst (λ ps. length (paths_of calls) ≤ length ps) (sym law.more.1) (omega (arith, longer)) in
        record {
          is = record { lead = law.lead; distinct = law.distinct; below = below_wider (length (paths_of calls)) (length (paths_of new)) slots least is.below };
          within = law.within;
          path = law.path;
          more = law.more;
          variables = subst (λ ps. origins_of ps slots ≡ origins_of (paths_of calls) slots) (sym law.more.1) (origins_wider (paths_of calls) law.more.0 slots is.below);
        }

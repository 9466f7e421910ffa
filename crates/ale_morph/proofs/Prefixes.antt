-- What stands behind a prefix.
use Rattle.std.proofs.Common.{◌≡◌, ℕ, ◌+◌, ◌≤◌, ◌⊎◌, inl, inr, Bool, true, false, if◌then◌else◌, eqb, Option, Some, None, List, [], ◌∷◌, ◌++◌, length, drop, refl, sym, ap, ◌∙◌, arith}
use Rattle.std.proofs.Math.Seq.{drop-append_seam}
use Rattle.std.proofs.lemmas.List.{drop-drop}
use Rattle.std.proofs.lemmas.Bool.{eqb-true, eq-eqb}
use Rattle.std.proofs.lemmas.Str.{chars_past_char, chars-nil}
use Rattle.std.proofs.Math.Utf8.{encode}
use Rattle.std.specs.Str.{chars, IsUtf8}
use Rattle.ale_morph.specs.Search.{behind, and_then}

pub behind_is : (prefix rest left : List ℕ) → behind prefix rest ≡ Some left → rest ≡ prefix ++ left
behind_is [] rest left e = cc
behind_is (p ∷ ps) [] left e = absurd cc
behind_is (p ∷ ps) (c ∷ cs) left e = go (behind_is ps cs left) (eqb c p) refl e
  where
    go : (behind ps cs ≡ Some left → cs ≡ ps ++ left) → (b : Bool) → eqb c p ≡ b → (if b then behind ps cs else None) ≡ Some left → c ∷ cs ≡ p ∷ ps ++ left
    go later true same e' = let first = eqb-true c p same in let rest = later e' in cc
    go later false other e' = absurd cc

pub behind_append : (prefix left : List ℕ) → behind prefix (prefix ++ left) ≡ Some left
behind_append [] left = refl
behind_append (p ∷ ps) left = rw (eq-eqb p p refl) (behind_append ps left)

-- at a later place less is left
pub behind_later : (prefix rest left : List ℕ) (n : ℕ) (later : List ℕ) → behind prefix rest ≡ Some left → behind prefix (drop n rest) ≡ Some later → later ≡ drop n left
behind_later prefix rest left n later at_once at_n =
    let whole = behind_is prefix rest left at_once in
    let part = behind_is prefix (drop n rest) later at_n in
    let order : n + length prefix ≡ length prefix + n = omega arith in
    sym (drop-append_seam prefix later)
    ∙ ap (drop (length prefix)) (sym part)
    ∙ drop-drop (length prefix) n rest
    ∙ ap (λ k. drop k rest) order
    ∙ sym (drop-drop n (length prefix) rest)
    ∙ ap (λ xs. drop n (drop (length prefix) xs)) whole
    ∙ ap (drop n) (drop-append_seam prefix left)

-- of two ways to cut a text, one prefix is a prefix of the other
pub cuts : (a b c d : List ℕ) → a ++ b ≡ c ++ d
    → ((more : List ℕ) × (c ≡ a ++ more) × (b ≡ more ++ d) × (1 ≤ length more))
    ⊎ ((more : List ℕ) × (a ≡ c ++ more) × (d ≡ more ++ b))
cuts [] b [] d e = inr ([], refl, sym e)
cuts [] b (z ∷ c) d e = inl (z ∷ c, refl, e, omega arith)
cuts (x ∷ a) b [] d e = inr (x ∷ a, refl, sym e)
cuts (x ∷ a) b (z ∷ c) d e =
    let first : x ≡ z = cc in
    let rest : a ++ b ≡ c ++ d = cc in
    elim (cuts a b c d rest) [
      | inl s ↦ let whole = s.1 in inl (s.0, cc, s.2, s.3)
      | inr s ↦ let whole = s.1 in inr (s.0, cc, s.2)
    ]

-- with prefixes of one length there is one way
pub cut : (a b c d : List ℕ) → a ++ b ≡ c ++ d → length a ≡ length c → (a ≡ c) × (b ≡ d)
cut [] b [] d e same = (refl, e)
cut [] b (z ∷ c) d e same = absurd (omega arith)
cut (x ∷ a) b [] d e same = absurd (omega arith)
cut (x ∷ a) b (z ∷ c) d e same =
    let first : x ≡ z = cc in
    let rest : a ++ b ≡ c ++ d = cc in
    let later = cut a b c d rest (omega arith) in
    let prefix = later.0 in
    (cc, later.1)

-- one character after another
pub behind_cons : (p : ℕ) (ps rest : List ℕ) → behind (p ∷ ps) rest ≡ and_then (behind ps) (behind (p ∷ []) rest)
behind_cons p ps [] = refl
behind_cons p ps (c ∷ cs) = go (eqb c p)
  where
    go : (b : Bool) → (if b then behind ps cs else None) ≡ and_then (behind ps) (if b then Some cs else None)
    go true = refl
    go false = refl

-- the same of the characters of a text
pub chars_stop : (bs rest : List ℕ) (c : ℕ) (left : List ℕ) (whole : Option (List ℕ)) → IsUtf8 bs → bs ≡ encode c ++ rest
    → ◌≡◌ {A = Option (List ℕ)} None (behind (c ∷ []) left) → behind (chars bs) left ≡ whole → ◌≡◌ {A = Option (List ℕ)} None whole
chars_stop bs rest c left whole utf8 e none so_far =
    ap (and_then (behind (chars rest))) none
    ∙ sym (behind_cons c (chars rest) left)
    ∙ ap (λ cs. behind cs left) (sym (chars_past_char bs rest c utf8 e))
    ∙ so_far

pub chars_go : (bs rest : List ℕ) (c : ℕ) (left later : List ℕ) (whole : Option (List ℕ)) → IsUtf8 bs → bs ≡ encode c ++ rest
    → Some later ≡ behind (c ∷ []) left → behind (chars bs) left ≡ whole → behind (chars rest) later ≡ whole
chars_go bs rest c left later whole utf8 e one so_far =
    ap (and_then (behind (chars rest))) one
    ∙ sym (behind_cons c (chars rest) left)
    ∙ ap (λ cs. behind cs left) (sym (chars_past_char bs rest c utf8 e))
    ∙ so_far

pub chars_end : (bs left : List ℕ) (whole : Option (List ℕ)) → length bs ≡ 0 → behind (chars bs) left ≡ whole → Some left ≡ whole
chars_end [] left whole e so_far = rw chars-nil at so_far
chars_end (b ∷ bs) left whole e so_far = absurd (omega arith)

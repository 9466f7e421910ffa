-- Reading part after part: what has been read stands before what is still read.
use Rattle.std.proofs.Common.{◌≡◌, ◌≢◌, ℕ, zero, suc, ◌+◌, ◌-◌, ◌<◌, ◌≤◌, true, false, Bool, Option, Some, None, List, [], ◌∷◌, ◌++◌, refl, sym, ap, append_assoc, arith}
use Rattle.std.proofs.lemmas.List.{append-nil}
use Rattle.ale_term.specs.declared.error.ReadError.{ReadError}
use Rattle.ale_term.specs.declared.error.ReadError.TheVariants.{NotTheForm, NoMemory}
use Rattle.ale_term.specs.declared.symbol.Symbol.{Symbol}
use Rattle.ale_term.specs.declared.lexeme.Lexeme.{Lexeme}
use Rattle.ale_term.specs.Results.{Fails}
use Rattle.ale_term.specs.Goals.{GoalData}
use Rattle.ale_term.specs.Reading.{past, atom_at, more_at, unnamed_at, simple_of, alternative_at, alternatives_at, ◌>>=◌}

abbrev pub with_front : {A : Type 0} → List A → Option (List A × List Lexeme) → Option (List A × List Lexeme)
with_front xs None = None
with_front xs (Some p) = Some (xs ++ p.0, p.1)

abbrev pub read_all : {A : Type 0} → List A → List Lexeme → Option (List A × List Lexeme)
read_all xs ls = Some (xs, ls)

pub with_more : {A : Type 0} (xs : List A) (x : A) (o : Option (List A × List Lexeme)) →
    with_front xs (o >>= λ p. read_all (x ∷ p.0) p.1) ≡ with_front (xs ++ x ∷ []) o
with_more xs x None = refl
with_more xs x (Some p) = ap (λ ys. read_all ys p.1) (sym (append_assoc xs (x ∷ []) p.0))

pub more_stop : {A : Type 0} (n : ℕ) (s : Symbol) (one : List Lexeme → Option (A × List Lexeme)) (xs : List A) (ls : List Lexeme) →
    None ≡ past s ls → with_front xs (more_at n s one ls) ≡ read_all xs ls
more_stop zero s one xs ls e = ap (λ ys. read_all ys ls) (append-nil xs)
more_stop (suc n) s one xs ls e = rw (← e) (ap (λ ys. read_all ys ls) (append-nil xs))

pub more_end : {A : Type 0} (n i : ℕ) (s : Symbol) (one : List Lexeme → Option (A × List Lexeme)) (xs : List A) (ls : List Lexeme) →
    n ≤ i → with_front xs (more_at (n - i) s one ls) ≡ read_all xs ls
more_end n i s one xs ls h =
    let e : n - i ≡ 0 = omega arith in rw e (ap (λ ys. read_all ys ls) (append-nil xs))

pub more_fail : {A : Type 0} (n i : ℕ) (s : Symbol) (one : List Lexeme → Option (A × List Lexeme)) (xs : List A) (ls behind : List Lexeme) →
    i < n → Some behind ≡ past s ls → one behind ≡ None → with_front xs (more_at (n - i) s one ls) ≡ None
more_fail n i s one xs ls behind h e f =
    let g : n - i ≡ suc (n - (i + 1)) = omega arith in rw (g, ← e, f) refl

pub more_step : {A : Type 0} (n i : ℕ) (s : Symbol) (one : List Lexeme → Option (A × List Lexeme)) (xs : List A) (x : A) (ls behind rest : List Lexeme) →
    i < n → Some behind ≡ past s ls → one behind ≡ Some (x, rest) →
    with_front xs (more_at (n - i) s one ls) ≡ with_front (xs ++ x ∷ []) (more_at (n - (i + 1)) s one rest)
more_step n i s one xs x ls behind rest h e f =
    let g : n - i ≡ suc (n - (i + 1)) = omega arith in rw (g, ← e, f) (with_more xs x (more_at (n - (i + 1)) s one rest))

-- where the next part is not read, as the error says, nothing is
pub more_fails : {A : Type 0} (e : ReadError) (n i : ℕ) (s : Symbol) (one : List Lexeme → Option (A × List Lexeme)) (xs : List A) (ls behind : List Lexeme) →
    i < n → Some behind ≡ past s ls → Fails e (one behind) → Fails e (with_front xs (more_at (n - i) s one ls))
more_fails NotTheForm n i s one xs ls behind h e f = more_fail n i s one xs ls behind h e f
more_fails NoMemory n i s one xs ls behind h e f = tt

-- the same for the alternatives of a goal
abbrev pub GoalReader : Type 0
GoalReader = List Lexeme → Option (GoalData × List Lexeme)

abbrev pub one_read : GoalData → Bool → List Lexeme → Option ((GoalData × Bool) × List Lexeme)
one_read x more ls = Some ((x, more), ls)

pub alternatives_step : (n i : ℕ) (g2 g0 : GoalReader) (xs : List GoalData) (x : GoalData) (ls rest : List Lexeme) →
    i < n → alternative_at g2 g0 ls ≡ one_read x true rest →
    with_front xs (alternatives_at (n - i) g2 g0 ls) ≡ with_front (xs ++ x ∷ []) (alternatives_at (n - (i + 1)) g2 g0 rest)
alternatives_step n i g2 g0 xs x ls rest h e =
    let g : n - i ≡ suc (n - (i + 1)) = omega arith in rw (g, e) (with_more xs x (alternatives_at (n - (i + 1)) g2 g0 rest))

pub alternatives_last : (n i : ℕ) (g2 g0 : GoalReader) (xs : List GoalData) (x : GoalData) (ls rest : List Lexeme) →
    i < n → alternative_at g2 g0 ls ≡ one_read x false rest →
    with_front xs (alternatives_at (n - i) g2 g0 ls) ≡ read_all (xs ++ x ∷ []) rest
alternatives_last n i g2 g0 xs x ls rest h e =
    let g : n - i ≡ suc (n - (i + 1)) = omega arith in rw (g, e) refl

alternatives_fail : (n i : ℕ) (g2 g0 : GoalReader) (xs : List GoalData) (ls : List Lexeme) →
    i < n → alternative_at g2 g0 ls ≡ None → with_front xs (alternatives_at (n - i) g2 g0 ls) ≡ None
alternatives_fail n i g2 g0 xs ls h e =
    let g : n - i ≡ suc (n - (i + 1)) = omega arith in rw (g, e) refl

pub alternatives_fails : (e : ReadError) (n i : ℕ) (g2 g0 : GoalReader) (xs : List GoalData) (ls : List Lexeme) →
    i < n → Fails e (alternative_at g2 g0 ls) → Fails e (with_front xs (alternatives_at (n - i) g2 g0 ls))
alternatives_fails NotTheForm n i g2 g0 xs ls h e = alternatives_fail n i g2 g0 xs ls h e
alternatives_fails NoMemory n i g2 g0 xs ls h e = tt

pub alternatives_end : (n i : ℕ) (g2 g0 : GoalReader) (xs : List GoalData) (ls : List Lexeme) →
    n ≤ i → with_front xs (alternatives_at (n - i) g2 g0 ls) ≡ None
alternatives_end n i g2 g0 xs ls h = let e : n - i ≡ 0 = omega arith in rw e refl

-- what a reader of so many levels reads where no atom stands
pub simple_unnamed : (n : ℕ) (ls : List Lexeme) → n ≢ 0 → None ≡ atom_at ls → simple_of n ls ≡ unnamed_at (simple_of (n - 1)) ls
simple_unnamed zero ls h e = absurd (h refl)
simple_unnamed (suc n) ls h e = let g : suc n - 1 ≡ n = omega arith in rw (g, ← e) refl

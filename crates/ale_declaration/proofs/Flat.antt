-- Reading piece after piece: the parts that were read stand before those of what is still read.
use Rattle.std.proofs.Common.{◌≡◌, ℕ, zero, suc, ◌+◌, ◌-◌, ◌<◌, ◌≤◌, Option, Some, None, List, ◌∷◌, ◌++◌, refl, sym, ap, append_assoc, arith}
use Rattle.std.proofs.lemmas.List.{append-nil}
use Rattle.ale_term.specs.declared.error.ReadError.{ReadError}
use Rattle.ale_term.specs.declared.error.ReadError.TheVariants.{NotTheForm, NoMemory}
use Rattle.ale_term.specs.declared.symbol.Symbol.TheVariants.{Comma}
use Rattle.ale_term.specs.declared.lexeme.Lexeme.{Lexeme}
use Rattle.ale_term.specs.Results.{Fails}
use Rattle.ale_term.specs.Reading.{past, more_at, ◌>>=◌}
use Rattle.ale_declaration.specs.declared.declaration.LinePart.{LinePart}
use Rattle.ale_declaration.specs.Forms.{concat}
use Rattle.ale_declaration.specs.Reading.{piece_at, flat_behind}

abbrev parts : List LinePart → List Lexeme → Option (List LinePart × List Lexeme)
parts xs ls = Some (xs, ls)

abbrev listed : List (List LinePart) → List Lexeme → Option (List (List LinePart) × List Lexeme)
listed xs ls = Some (xs, ls)

flat_more : (xs x : List LinePart) (o : Option (List (List LinePart) × List Lexeme)) →
    flat_behind xs (o >>= λ p. listed (x ∷ p.0) p.1) ≡ flat_behind (xs ++ x) o
flat_more xs x None = refl
flat_more xs x (Some p) = ap (λ ys. parts ys p.1) (sym (append_assoc xs x (concat p.0)))

pub flat_stop : (n : ℕ) (xs : List LinePart) (ls : List Lexeme) → None ≡ past Comma ls → flat_behind xs (more_at n Comma piece_at ls) ≡ parts xs ls
flat_stop zero xs ls e = ap (λ ys. parts ys ls) (append-nil xs)
flat_stop (suc n) xs ls e = rw (← e) (ap (λ ys. parts ys ls) (append-nil xs))

pub flat_end : (n i : ℕ) (xs : List LinePart) (ls : List Lexeme) → n ≤ i → flat_behind xs (more_at (n - i) Comma piece_at ls) ≡ parts xs ls
flat_end n i xs ls h = let e : n - i ≡ 0 = omega arith in rw e (ap (λ ys. parts ys ls) (append-nil xs))

flat_fail : (n i : ℕ) (xs : List LinePart) (ls behind : List Lexeme) → i < n → Some behind ≡ past Comma ls → piece_at behind ≡ None →
    flat_behind xs (more_at (n - i) Comma piece_at ls) ≡ None
flat_fail n i xs ls behind h e f = let g : n - i ≡ suc (n - (i + 1)) = omega arith in rw (g, ← e, f) refl

pub flat_fails : (e : ReadError) (n i : ℕ) (xs : List LinePart) (ls behind : List Lexeme) → i < n → Some behind ≡ past Comma ls → Fails e (piece_at behind) →
    Fails e (flat_behind xs (more_at (n - i) Comma piece_at ls))
flat_fails NotTheForm n i xs ls behind h e f = flat_fail n i xs ls behind h e f
flat_fails NoMemory n i xs ls behind h e f = tt

pub flat_step : (n i : ℕ) (xs x : List LinePart) (ls behind rest : List Lexeme) → i < n → Some behind ≡ past Comma ls → piece_at behind ≡ parts x rest →
    flat_behind xs (more_at (n - i) Comma piece_at ls) ≡ flat_behind (xs ++ x) (more_at (n - (i + 1)) Comma piece_at rest)
flat_step n i xs x ls behind rest h e f =
    let g : n - i ≡ suc (n - (i + 1)) = omega arith in rw (g, ← e, f) (flat_more xs x (more_at (n - (i + 1)) Comma piece_at rest))

-- Open slots as code has them, and the stack with its top at the end.
use Rattle.std.proofs.Common.{◌≡◌, ℕ, suc, ◌+◌, ◌<◌, Bool, Option, Some, List, [], ◌∷◌, ◌++◌, length, take, drop, refl, sym, ap, ◌∙◌, arith}
use Rattle.std.proofs.Math.Seq.{take-suc, drop-cons}
use Rattle.ale_morph.specs.declared.line.Piece.{Piece}
use Rattle.ale_morph.specs.Stack.{Open, grown, longer, put_on, resume, turned, top_first}

pub grown_at : (slot : ℕ) (once : Bool) (others : List Piece) (rest : List ℕ) (k more : ℕ) → k < length rest → more ≡ k + 1
    → ◌≡◌ {A = Option Open} (Some (record { slot = slot; once = once; others = others; text = take more rest; left = drop more rest }))
    (grown (record { slot = slot; once = once; others = others; text = take k rest; left = drop k rest }) (drop k rest))
grown_at slot once others rest k more less is =
    let e : more ≡ suc k = omega arith in
    ap (λ n. Some (open_at (take n rest) (drop n rest))) e
    ∙ ap (λ t. Some (open_at t (drop (suc k) rest))) (take-suc rest k 0 less)
    ∙ ap (grown (open_at (take k rest) (drop k rest))) (sym (drop-cons rest k 0 less))
  where
    open_at : List ℕ → List ℕ → Open
    open_at text left = record { slot = slot; once = once; others = others; text = text; left = left }

pub turned_push : {A : Type 0} (xs : List A) (x : A) (rest : List A) → turned (xs ++ x ∷ []) rest ≡ x ∷ turned xs rest
turned_push [] x rest = refl
turned_push (y ∷ xs) x rest = turned_push xs x (y ∷ rest)

pub resume_pop : (hopeless : Bool) (xs ys : List Open) (o : Open) → xs ≡ ys ++ o ∷ []
    → resume hopeless (top_first xs) ≡ put_on (longer hopeless o) (top_first ys) (resume o.once (top_first ys))
resume_pop hopeless xs ys o e = ap (λ zs. resume hopeless (turned zs [])) e ∙ ap (resume hopeless) (turned_push ys o [])

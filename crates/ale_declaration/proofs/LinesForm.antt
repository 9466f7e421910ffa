-- Lines of morphology are read as their forms say.
use Rattle.std.proofs.Common.{◌≡◌, inl, inr, ℕ, Bool, true, false, if◌then◌else◌, Option, Some, None, List, [], ◌∷◌, ◌++◌, length, refl, sym, ap, subst, ◌∙◌, append_assoc, arith}
use Rattle.std.specs.Prelude.{codes}
use Rattle.ale_term.specs.declared.symbol.Symbol.TheVariants.{Comma, OpenRound, CloseRound, CloseSquare}
use Rattle.ale_term.specs.declared.lexeme.Lexeme.{Lexeme}
use Rattle.ale_term.specs.declared.lexeme.Lexeme.TheVariants.{Atom, Variable, Sign}
use Rattle.ale_term.specs.Grammar.{Separated}
use Rattle.ale_term.specs.Follows.{Front}
use Rattle.ale_term.specs.Reading.{◌>>=◌, choose, past, past_word, atom_at, variable_at, separated_at, ended_by}
use Rattle.ale_term.proofs.Fronts.{bind_some, choose_some, word_front, atom_front, variable_front, IsSound, sound_separated, sound_ended, between}
use Rattle.ale_term.proofs.Full.{IsFull, Anything, full_separated}
use Rattle.ale_term.proofs.Balance.{atom_past}
use Rattle.ale_form.specs.Whole.{whole}
use Rattle.ale_declaration.specs.declared.declaration.LinePart.{LinePart}
use Rattle.ale_declaration.specs.declared.declaration.LinePart.TheVariants.{Piece, Slot}
use Rattle.ale_declaration.specs.declared.declaration.MorphLine.{MorphLine}
use Rattle.ale_declaration.specs.Forms.{pieces, concat, IsPiece, letters, unknown, several, IsSide, one, more, IsLine, line}
use Rattle.ale_declaration.specs.Reading.{atoms_at, piece_at, side_at, is_bound, bound_of, line_at, lines_of}
use Rattle.ale_declaration.proofs.Distinct.{bound_true, true_bound}
use Rattle.ale_declaration.proofs.TypesForm.{SomeAtoms, full_atoms, sound_atoms}
use Rattle.ale_form.proofs.Wholes.{sound_whole, full_whole}
use Rattle.ale_declaration.proofs.Wholes.{got}

full_piece : (n : ℕ) → IsFull IsPiece Anything n piece_at
full_piece n _ _ rest (letters l m a) le ends = rw a refl
full_piece n _ _ rest (unknown x) le ends = refl
full_piece n _ _ rest (several xs ns d) le ends =
    let g : xs ++ Sign CloseSquare ∷ [] ++ rest ≡ xs ++ Sign CloseSquare ∷ rest = append_assoc xs (Sign CloseSquare ∷ []) rest in
    rw (g, full_atoms d rest) refl

-- no piece begins with a round bracket
not_round : {xs : List Lexeme} {ps : List LinePart} → IsPiece xs ps → (rest : List Lexeme) → past OpenRound (xs ++ rest) ≡ None
not_round (letters l m a) rest = atom_past l m OpenRound rest a
not_round (unknown x) rest = refl
not_round (several xs ns d) rest = refl

-- a piece that begins with no atom
abbrev unnamed : List Lexeme → Option (List LinePart × List Lexeme)
unnamed ls = choose (variable_at ls) (atoms_at ls >>= λ ns. got (pieces ns.0) ns.1) (λ x. got (Slot x.0 ∷ []) x.1)

sound_unnamed : IsSound IsPiece unnamed
sound_unnamed zs p e =
    elim (choose_some (variable_at zs) (atoms_at zs >>= λ ns. got (pieces ns.0) ns.1) (λ x. got (Slot x.0 ∷ []) x.1) p e) [
      | inl h ↦
          let x = bind_some (atoms_at zs) (λ ns. got (pieces ns.0) ns.1) p (h.1) in
          let f = sound_atoms zs (x.0) (x.1) in
          let a : SomeAtoms (f.0) x.0.0 = f.2 in
          let made : List LinePart × List Lexeme = (pieces x.0.0, x.0.1) in
          let q : made ≡ p = cc (x.2) in
          subst (Front IsPiece zs) q (f.0, f.1, subst (λ ys. IsPiece ys (pieces x.0.0)) (sym (a.split)) (several (a.inner) (x.0.0) (a.atoms)))
      | inr h ↦
          let made : List LinePart × List Lexeme = (Slot h.0.0 ∷ [], h.0.1) in
          let q : made ≡ p = cc (h.2) in
          subst (Front IsPiece zs) q (Variable h.0.0 ∷ [], variable_front zs (h.0) (h.1), unknown (h.0.0))
    ]

sound_piece : IsSound IsPiece piece_at
sound_piece zs p e =
    elim (choose_some (atom_at zs) (unnamed zs) (λ n. got (Piece n.0 ∷ []) n.1) p e) [
      | inl h ↦ sound_unnamed zs p (h.1)
      | inr h ↦
          let made : List LinePart × List Lexeme = (Piece h.0.0 ∷ [], h.0.1) in
          let q : made ≡ p = cc (h.2) in
          let a = atom_front zs (h.0) (h.1) in
          subst (Front IsPiece zs) q (a.0 ∷ [], a.2, letters (a.0) (h.0.0) (a.1))
    ]

full_side : (n : ℕ) → IsFull IsSide Anything n side_at
full_side n _ _ rest (one xs ps d) le ends = rw (not_round d rest, full_piece (length xs) xs ps rest d (omega arith) tt) refl
full_side n _ _ rest (more xs pss d) le ends =
    let g : xs ++ Sign CloseRound ∷ [] ++ rest ≡ xs ++ Sign CloseRound ∷ rest = append_assoc xs (Sign CloseRound ∷ []) rest in
    let r : separated_at Comma piece_at (xs ++ Sign CloseRound ∷ rest) ≡ got pss (Sign CloseRound ∷ rest) =
    full_separated Comma IsPiece Anything (length xs) piece_at (full_piece (length xs)) (record { found = λ zs. refl; ends = λ zs. tt }) d (omega arith) (Sign CloseRound ∷ rest) tt refl in
    rw (g, r) refl

sound_side : IsSound IsSide side_at
sound_side zs p e =
    elim (choose_some (past OpenRound zs) (piece_at zs) (λ inner. ended_by CloseRound (separated_at Comma piece_at inner) >>= λ ps. got (concat ps.0) ps.1) p e) [
      | inl h ↦ let f = sound_piece zs p (h.1) in (f.0, f.1, one (f.0) (p.0) (f.2))
      | inr h ↦
          let x = bind_some (ended_by CloseRound (separated_at Comma piece_at h.0)) (λ ps. got (concat ps.0) ps.1) p (h.2) in
          let f = sound_ended CloseRound (Separated Comma IsPiece) (separated_at Comma piece_at) (sound_separated Comma IsPiece piece_at sound_piece) (h.0) (x.0) (x.1) in
          let made : List LinePart × List Lexeme = (concat x.0.0, x.0.1) in
          let q : made ≡ p = cc (x.2) in
          subst (Front IsSide zs) q
          (Sign OpenRound ∷ f.0 ++ Sign CloseRound ∷ [], between OpenRound CloseRound zs (h.0) (f.0) (x.0.1) (h.1) (f.1), more (f.0) (x.0.0) (f.2))
    ]

pub full_line : (n : ℕ) → IsFull IsLine Anything n line_at
full_line n _ _ rest (line xs ys ps qs s t bound) le ends =
    let behind : List Lexeme = Atom (codes "becomes") ∷ ys ++ rest in
    let g : xs ++ Atom (codes "becomes") ∷ ys ++ rest ≡ xs ++ (Atom (codes "becomes") ∷ ys ++ rest) = append_assoc xs (Atom (codes "becomes") ∷ ys) rest in
    let r : side_at (xs ++ (Atom (codes "becomes") ∷ ys ++ rest)) ≡ got ps (Atom (codes "becomes") ∷ ys ++ rest) =
    full_side (length xs) xs ps behind s (omega arith) tt in
    let u : side_at (ys ++ rest) ≡ got qs rest = full_side (length ys) ys qs rest t (omega arith) tt in
    rw (g, r, u, bound_true ps qs bound) refl

abbrev one_line : List LinePart → List LinePart → List Lexeme → Option (MorphLine × List Lexeme)
one_line ps qs ls = Some (record { left = ps; right = qs }, ls)

bound_some : (ps qs : List LinePart) (ls : List Lexeme) (p : MorphLine × List Lexeme) (b : Bool) → is_bound ps qs ≡ b →
    (if b then one_line ps qs ls else None) ≡ Some p → (is_bound ps qs ≡ true) × (one_line ps qs ls ≡ Some p)
bound_some ps qs ls p true t e = (t, e)
bound_some ps qs ls p false t e = cc

pub sound_line : IsSound IsLine line_at
sound_line zs p e =
    let x = bind_some (side_at zs) (λ p. past_word (codes "becomes") p.1 >>= λ behind. side_at behind >>= λ q. bound_of p.0 q.0 q.1) p e in
    let b = bind_some (past_word (codes "becomes") x.0.1) (λ behind. side_at behind >>= λ q. bound_of x.0.0 q.0 q.1) p (x.2) in
    let y = bind_some (side_at b.0) (λ q. bound_of x.0.0 q.0 q.1) p (b.2) in
    let v = bound_some (x.0.0) (y.0.0) (y.0.1) p (is_bound x.0.0 y.0.0) refl (y.2) in
    let f = sound_side zs (x.0) (x.1) in
    let g = sound_side (b.0) (y.0) (y.1) in
    let both : MorphLine = record { left = x.0.0; right = y.0.0 } in
    let made : MorphLine × List Lexeme = (both, y.0.1) in
    let q : made ≡ p = cc (v.1) in
    let split : zs ≡ f.0 ++ Atom (codes "becomes") ∷ g.0 ++ y.0.1 =
    f.1 ∙ ap (λ ls. f.0 ++ ls) (word_front (codes "becomes") (x.0.1) (b.0) (b.1) ∙ ap (λ ls. Atom (codes "becomes") ∷ ls) (g.1))
    ∙ sym (append_assoc (f.0) (Atom (codes "becomes") ∷ g.0) (y.0.1)) in
    subst (Front IsLine zs) q
    (f.0 ++ Atom (codes "becomes") ∷ g.0, split, line (f.0) (g.0) (x.0.0) (y.0.0) (f.2) (g.2) (true_bound (x.0.0) (y.0.0) (v.0)))

-- Lines behind "morphs".

pub full_lines : (zs : List Lexeme) (ls : List MorphLine) → Separated Comma IsLine zs ls → lines_of (Atom (codes "morphs") ∷ zs) ≡ Some ls
full_lines zs ls d =
    full_whole (separated_at Comma line_at) zs ls
    (full_separated Comma IsLine Anything (length zs) line_at (full_line (length zs)) (record { found = λ ys. refl; ends = λ ys. tt }) d (omega arith) [] tt refl)

pub record AreLines (rest : List Lexeme) (ls : List MorphLine) : Type 0 where
  pub inner : List Lexeme
  pub split : rest ≡ Atom (codes "morphs") ∷ inner
  pub lines : Separated Comma IsLine inner ls

pub sound_lines : (rest : List Lexeme) (ls : List MorphLine) → lines_of rest ≡ Some ls → AreLines rest ls
sound_lines rest ls e =
    let b = bind_some (past_word (codes "morphs") rest) (λ behind. whole (separated_at Comma line_at behind)) ls e in
    record {
      inner = b.0;
      split = word_front (codes "morphs") rest (b.0) (b.1);
      lines = sound_whole (Separated Comma IsLine) (separated_at Comma line_at) (sound_separated Comma IsLine line_at sound_line) (b.0) ls (b.2);
    }

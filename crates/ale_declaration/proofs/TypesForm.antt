-- Declarations of types are read as their forms say.
use Rattle.std.proofs.Common.{◌≡◌, inl, inr, ℕ, Option, Some, List, [], ◌∷◌, ◌++◌, length, refl, sym, ap, subst, ◌∙◌, append_assoc, arith}
use Rattle.std.specs.Prelude.{codes}
use Rattle.std.proofs.lemmas.List.{append-nil}
use Rattle.ale_declared.specs.declared.decl.SigDecl.TheVariants.{Kind, Ext}
use Rattle.ale_term.specs.declared.symbol.Symbol.TheVariants.{Colon, Comma, OpenRound, CloseRound, OpenSquare, CloseSquare}
use Rattle.ale_term.specs.declared.lexeme.Lexeme.{Lexeme}
use Rattle.ale_term.specs.declared.lexeme.Lexeme.TheVariants.{Atom, Sign}
use Rattle.ale_term.specs.Grammar.{atom_name, IsAtom, Separated, last, before, Listed, empty, items, IsPath}
use Rattle.ale_term.specs.Follows.{Front}
use Rattle.ale_term.specs.Reading.{◌>>=◌, past, past_word, atom_at, list_at, path_at}
use Rattle.ale_term.proofs.Fronts.{bind_some, choose_some, past_front, word_front, atom_front, IsSound, sound_list, sound_path}
use Rattle.ale_term.proofs.Full.{IsFull, Anything, NeverCloses, full_list, full_path}
use Rattle.ale_term.proofs.Balance.{atom_past}
use Rattle.ale_form.specs.Whole.{ended}
use Rattle.ale_declaration.specs.declared.form.Form.TheVariants.{Types, Extensional}
use Rattle.ale_declaration.specs.Declarations.{DeclarationData, signature}
use Rattle.ale_declaration.specs.Forms.{IsRestriction, restriction, Fits, subtypes, subtypes_and_features, features, extensional_types}
use Rattle.ale_declaration.specs.Reading.{some_of, atoms_at, restriction_at, restrictions_of, introduced_of, kind_of, types_of, extensional_of}
use Rattle.ale_form.proofs.Wholes.{nothing_left, sound_whole, full_whole}
use Rattle.ale_declaration.proofs.Wholes.{got}

abbrev Restrictions : Type 0
Restrictions = List (List ℕ × List ℕ)

full_restriction : (n : ℕ) → IsFull IsRestriction Anything n restriction_at
full_restriction n _ _ rest (restriction l m f t a b) le ends = rw (a, b) refl

restriction_opens : NeverCloses IsRestriction
restriction_opens _ _ rest (restriction l m f t a b) = atom_past l f CloseSquare _ a

full_restrictions : (ls : List Lexeme) (fs : Restrictions) → Listed IsRestriction ls fs → restrictions_of ls ≡ Some fs
full_restrictions ls fs d =
    full_whole (list_at restriction_at) ls fs
    (full_list IsRestriction Anything (length ls) restriction_at (full_restriction (length ls)) (record { found = λ ys. refl; ends = λ ys. tt }) (λ ys. tt) restriction_opens d (omega arith) [])

sound_restriction : IsSound IsRestriction restriction_at
sound_restriction zs p e =
    let x = bind_some (atom_at zs) (λ f. past Colon f.1 >>= λ behind. atom_at behind >>= λ t. Some ((f.0, t.0), t.1)) p e in
    let b = bind_some (past Colon x.0.1) (λ behind. atom_at behind >>= λ t. Some ((x.0.0, t.0), t.1)) p (x.2) in
    let y = bind_some (atom_at b.0) (λ t. Some ((x.0.0, t.0), t.1)) p (b.2) in
    let pair : List ℕ × List ℕ = (x.0.0, y.0.0) in
    let made : (List ℕ × List ℕ) × List Lexeme = (pair, y.0.1) in
    let q : made ≡ p = cc (y.2) in
    let f = atom_front zs (x.0) (x.1) in
    let g = atom_front (b.0) (y.0) (y.1) in
    let split : zs ≡ f.0 ∷ Sign Colon ∷ g.0 ∷ y.0.1 =
    f.2 ∙ ap (λ ls. f.0 ∷ ls) (past_front Colon (x.0.1) (b.0) (b.1) ∙ ap (λ ls. Sign Colon ∷ ls) (g.2)) in
    subst (Front IsRestriction zs) q (f.0 ∷ Sign Colon ∷ g.0 ∷ [], split, restriction (f.0) (g.0) (x.0.0) (y.0.0) (f.1) (g.1))

sound_restrictions : (ls : List Lexeme) (fs : Restrictions) → restrictions_of ls ≡ Some fs → Listed IsRestriction ls fs
sound_restrictions ls fs e =
    sound_whole (Listed IsRestriction) (list_at restriction_at) (sound_list IsRestriction restriction_at sound_restriction) ls fs e

pub full_types : (ls : List Lexeme) (d : DeclarationData) → Fits Types ls d → types_of ls ≡ Some d
full_types _ _ (subtypes l t xs ts a p) =
    let r : path_at xs ≡ got ts [] = ap path_at (sym (append-nil xs)) ∙ full_path p [] in rw (a, r) refl
full_types _ _ (subtypes_and_features l t xs ys ts fs a p d) =
    let r : path_at (xs ++ Atom (codes "intro") ∷ ys) ≡ got ts (Atom (codes "intro") ∷ ys) = full_path p (Atom (codes "intro") ∷ ys) in
    rw (a, r, full_restrictions ys fs d) refl
full_types _ _ (features l t ys fs a d) = rw (a, full_restrictions ys fs d) refl

abbrev none_introduced : Option Restrictions
none_introduced = Some []

-- what follows the subtypes of a type makes a declaration with them
sound_subtypes : (l : Lexeme) (t : List ℕ) → atom_name l ≡ Some t → (xs : List Lexeme) (ts : List (List ℕ)) → IsPath xs ts →
    (rest : List Lexeme) (fs : Restrictions) → introduced_of rest ≡ Some fs → Fits Types (l ∷ Atom (codes "sub") ∷ xs ++ rest) (signature (Kind t ts fs))
sound_subtypes l t a xs ts p rest fs e =
    elim (choose_some (past_word (codes "intro") rest) (ended rest >>= λ end. none_introduced) (λ behind. restrictions_of behind) fs e) [
      | inl h ↦
          let x = bind_some (ended rest) (λ end. none_introduced) fs (h.1) in
          let none : Restrictions = [] in
          let q : none ≡ fs = cc (x.2) in
          let n : rest ≡ [] = nothing_left rest (x.0) (x.1) in
          subst (λ ys. Fits Types (l ∷ Atom (codes "sub") ∷ xs ++ ys) (signature (Kind t ts fs))) (sym n)
          (subst (λ ys. Fits Types (l ∷ Atom (codes "sub") ∷ ys) (signature (Kind t ts fs))) (sym (append-nil xs))
          (subst (λ gs. Fits Types (l ∷ Atom (codes "sub") ∷ xs) (signature (Kind t ts gs))) q (subtypes l t xs ts a p)))
      | inr h ↦
          let w : rest ≡ Atom (codes "intro") ∷ h.0 = word_front (codes "intro") rest (h.0) (h.1) in
          subst (λ ys. Fits Types (l ∷ Atom (codes "sub") ∷ xs ++ ys) (signature (Kind t ts fs))) (sym w)
          (subtypes_and_features l t xs (h.0) ts fs a p (sound_restrictions (h.0) fs (h.2)))
    ]

-- what follows the name of a type makes a declaration with it
sound_kind : (l : Lexeme) (t : List ℕ) → atom_name l ≡ Some t → (ls : List Lexeme) (d : DeclarationData) → kind_of t ls ≡ Some d → Fits Types (l ∷ ls) d
sound_kind l t a ls d e =
    elim (choose_some (past_word (codes "sub") ls) (past_word (codes "intro") ls >>= λ behind. restrictions_of behind >>= λ fs. Some (signature (Kind t [] fs)))
    (λ behind. path_at behind >>= λ ts. introduced_of ts.1 >>= λ fs. Some (signature (Kind t ts.0 fs))) d e) [
      | inl h ↦
          let b = bind_some (past_word (codes "intro") ls) (λ behind. restrictions_of behind >>= λ fs. Some (signature (Kind t [] fs))) d (h.1) in
          let f = bind_some (restrictions_of b.0) (λ fs. Some (signature (Kind t [] fs))) d (b.2) in
          let q : signature (Kind t [] f.0) ≡ d = cc (f.2) in
          let w : ls ≡ Atom (codes "intro") ∷ b.0 = word_front (codes "intro") ls (b.0) (b.1) in
          subst (λ ys. Fits Types (l ∷ ys) d) (sym w) (subst (Fits Types (l ∷ Atom (codes "intro") ∷ b.0)) q
          (features l t (b.0) (f.0) a (sound_restrictions (b.0) (f.0) (f.1))))
      | inr h ↦
          let p = bind_some (path_at h.0) (λ ts. introduced_of ts.1 >>= λ fs. Some (signature (Kind t ts.0 fs))) d (h.2) in
          let f = bind_some (introduced_of p.0.1) (λ fs. Some (signature (Kind t p.0.0 fs))) d (p.2) in
          let q : signature (Kind t p.0.0 f.0) ≡ d = cc (f.2) in
          let w : ls ≡ Atom (codes "sub") ∷ h.0 = word_front (codes "sub") ls (h.0) (h.1) in
          let s = sound_path (h.0) (p.0) (p.1) in
          subst (λ ys. Fits Types (l ∷ ys) d) (sym w) (subst (Fits Types (l ∷ Atom (codes "sub") ∷ h.0)) q
          (subst (λ ys. Fits Types (l ∷ Atom (codes "sub") ∷ ys) (signature (Kind t p.0.0 f.0))) (sym (s.1))
          (sound_subtypes l t a (s.0) (p.0.0) (s.2) (p.0.1) (f.0) (f.1))))
    ]

pub sound_types : (ls : List Lexeme) (d : DeclarationData) → types_of ls ≡ Some d → Fits Types ls d
sound_types ls d e =
    let x = bind_some (atom_at ls) (λ t. kind_of t.0 t.1) d e in
    let a = atom_front ls (x.0) (x.1) in
    subst (λ ys. Fits Types ys d) (sym (a.2)) (sound_kind (a.0) (x.0.0) (a.1) (x.0.1) d (x.2))

-- Atoms in square brackets, one or more.

pub record SomeAtoms (ls : List Lexeme) (ns : List (List ℕ)) : Type 0 where
  pub inner : List Lexeme
  pub split : ls ≡ Sign OpenSquare ∷ inner ++ Sign CloseSquare ∷ []
  pub atoms : Separated Comma IsAtom inner ns

some_full : {xs : List Lexeme} {ns : List (List ℕ)} → Separated Comma IsAtom xs ns → (rest : List Lexeme) → some_of ns rest ≡ got ns rest
some_full (last xs a d) rest = refl
some_full (before xs ys a others d ds) rest = refl

pub full_atoms : {xs : List Lexeme} {ns : List (List ℕ)} → Separated Comma IsAtom xs ns → (rest : List Lexeme) →
    atoms_at (Sign OpenSquare ∷ xs ++ Sign CloseSquare ∷ rest) ≡ got ns rest
full_atoms {xs} {ns} d rest =
    let g : xs ++ Sign CloseSquare ∷ [] ++ rest ≡ xs ++ Sign CloseSquare ∷ rest = append_assoc xs (Sign CloseSquare ∷ []) rest in
    let r : path_at (Sign OpenSquare ∷ xs ++ Sign CloseSquare ∷ rest) ≡ got ns rest =
    ap (λ ls. path_at (Sign OpenSquare ∷ ls)) (sym g) ∙ full_path (items xs ns d) rest in
    rw r (some_full d rest)

some_is : (ns : List (List ℕ)) (rest : List Lexeme) (p : List (List ℕ) × List Lexeme) → some_of ns rest ≡ Some p → got ns rest ≡ Some p
some_is [] rest p e = cc
some_is (n ∷ ns) rest p e = e

some_listed : {ys : List Lexeme} {ns : List (List ℕ)} → IsPath ys ns → (rest : List Lexeme) (p : List (List ℕ) × List Lexeme) → some_of ns rest ≡ Some p → SomeAtoms ys ns
some_listed empty rest p e = cc
some_listed (items xs found d) rest p e = record { inner = xs; split = refl; atoms = d }

pub sound_atoms : IsSound SomeAtoms atoms_at
sound_atoms zs p e =
    let x = bind_some (path_at zs) (λ ns. some_of ns.0 ns.1) p e in
    let f = sound_path zs (x.0) (x.1) in
    let made : List (List ℕ) × List Lexeme = (x.0.0, x.0.1) in
    let q : made ≡ p = cc (some_is (x.0.0) (x.0.1) p (x.2)) in
    subst (Front SomeAtoms zs) q (f.0, f.1, some_listed (f.2) (x.0.1) p (x.2))

pub full_extensional : (ls : List Lexeme) (d : DeclarationData) → Fits Extensional ls d → extensional_of ls ≡ Some d
full_extensional _ _ (extensional_types xs ts d) =
    let r : atoms_at (Sign OpenSquare ∷ xs ++ Sign CloseSquare ∷ Sign CloseRound ∷ []) ≡ got ts (Sign CloseRound ∷ []) = full_atoms d (Sign CloseRound ∷ []) in
    rw r refl

pub sound_extensional : (ls : List Lexeme) (d : DeclarationData) → extensional_of ls ≡ Some d → Fits Extensional ls d
sound_extensional ls d e =
    let b = bind_some (past_word (codes "ext") ls)
    (λ behind. past OpenRound behind >>= λ inner. atoms_at inner >>= λ ns. past CloseRound ns.1 >>= λ rest. ended rest >>= λ end. Some (signature (Ext ns.0))) d e in
    let i = bind_some (past OpenRound b.0) (λ inner. atoms_at inner >>= λ ns. past CloseRound ns.1 >>= λ rest. ended rest >>= λ end. Some (signature (Ext ns.0))) d (b.2) in
    let n = bind_some (atoms_at i.0) (λ ns. past CloseRound ns.1 >>= λ rest. ended rest >>= λ end. Some (signature (Ext ns.0))) d (i.2) in
    let c = bind_some (past CloseRound n.0.1) (λ rest. ended rest >>= λ end. Some (signature (Ext n.0.0))) d (n.2) in
    let u = bind_some (ended c.0) (λ end. Some (signature (Ext n.0.0))) d (c.2) in
    let q : signature (Ext n.0.0) ≡ d = cc (u.2) in
    let f = sound_atoms (i.0) (n.0) (n.1) in
    let a : SomeAtoms (f.0) n.0.0 = f.2 in
    let rest : n.0.1 ≡ Sign CloseRound ∷ [] =
    past_front CloseRound (n.0.1) (c.0) (c.1) ∙ ap (λ ys. Sign CloseRound ∷ ys) (nothing_left (c.0) (u.0) (u.1)) in
    let inner : i.0 ≡ Sign OpenSquare ∷ a.inner ++ Sign CloseSquare ∷ Sign CloseRound ∷ [] =
    f.1 ∙ ap (λ ys. ys ++ n.0.1) (a.split) ∙ append_assoc (Sign OpenSquare ∷ a.inner) (Sign CloseSquare ∷ []) (n.0.1)
    ∙ ap (λ ys. Sign OpenSquare ∷ a.inner ++ Sign CloseSquare ∷ ys) rest in
    let split : ls ≡ Atom (codes "ext") ∷ Sign OpenRound ∷ Sign OpenSquare ∷ a.inner ++ Sign CloseSquare ∷ Sign CloseRound ∷ [] =
    word_front (codes "ext") ls (b.0) (b.1) ∙ ap (λ ys. Atom (codes "ext") ∷ ys) (past_front OpenRound (b.0) (i.0) (i.1) ∙ ap (λ ys. Sign OpenRound ∷ ys) inner) in
    subst (λ ys. Fits Extensional ys d) (sym split) (subst (Fits Extensional (Atom (codes "ext") ∷ Sign OpenRound ∷ Sign OpenSquare ∷ a.inner ++ Sign CloseSquare ∷ Sign CloseRound ∷ [])) q
    (extensional_types (a.inner) (n.0.0) (a.atoms)))

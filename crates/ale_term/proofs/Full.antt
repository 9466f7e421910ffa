-- What the grammar says that lexemes stand for as a description is read, whatever follows that the form would not
-- go on with.
use Rattle.std.proofs.Common.{◌≡◌, ℕ, zero, suc, ◌+◌, ◌<◌, ◌≤◌, Option, Some, None, List, [], ◌∷◌, ◌++◌, length, refl, sym, ap, ◌∙◌, append_assoc, length-append, arith}
use Rattle.ale_term.specs.declared.symbol.Symbol.{Symbol}
use Rattle.ale_term.specs.declared.symbol.Symbol.TheVariants.{SamePath, Comma, Semicolon, OpenRound, CloseRound, OpenSquare, CloseSquare, Bar}
use Rattle.ale_term.specs.declared.lexeme.Lexeme.{Lexeme}
use Rattle.ale_term.specs.declared.lexeme.Lexeme.TheVariants.{Sign}
use Rattle.ale_term.specs.Terms.{TermData}
use Rattle.ale_term.specs.Grammar.{IsAtom, atom, Separated, last, before, Listed, empty, items, IsPath, IsDescription, AreDisjuncts, IsConjunction, AreParts, IsPart, IsSimple, IsCall, disjunction, last_disjunct, disjunct, conjunction, last_part, part, paths, simple, feature, inequation, macro_call, type, variable, group, empty_list, closed_list, open_list, plain, applied}
use Rattle.ale_term.specs.Reading.{past, atom_at, more_at, separated_at, ended_by, list_at, path_at, part_at, parts_at, conjunction_at, disjunction_at, call_of, simple_at, simple_of, description_at, element_at, call_at}
use Rattle.ale_term.specs.Follows.{EndsSimple, EndsPart, EndsConjunction, EndsDescription}
use Rattle.ale_term.specs.Behind.{behind}
use Rattle.ale_term.proofs.Fronts.{sound_ended, sound_path}
use Rattle.ale_term.proofs.Balance.{atom_past, path_behind, list_behind}
use Rattle.ale_term.proofs.Sound.{TermReader}

-- what is of the form and of no more lexemes than that is read, whatever follows that may
abbrev pub IsFull : {A : Type 0} → (List Lexeme → A → Type 0) → (List Lexeme → Type 0) → ℕ → (List Lexeme → Option (A × List Lexeme)) → Type 0
IsFull {A} One Ends n one = (xs : List Lexeme) (a : A) (rest : List Lexeme) → One xs a → length xs ≤ n → Ends rest → one (xs ++ rest) ≡ Some (a, rest)

-- the symbol is found where it stands, and may follow
pub record Separates (s : Symbol) (Ends : List Lexeme → Type 0) : Type 0 where
  pub found : (ls : List Lexeme) → past s (Sign s ∷ ls) ≡ Some ls
  pub ends : (ls : List Lexeme) → Ends (Sign s ∷ ls)

more_none : {A : Type 0} (n : ℕ) (s : Symbol) (one : List Lexeme → Option (A × List Lexeme)) (rest : List Lexeme) → past s rest ≡ None →
    more_at n s one rest ≡ Some ([], rest)
more_none zero s one rest e = refl
more_none (suc n) s one rest e = rw e refl

full_more : {A : Type 0} (s : Symbol) (One : List Lexeme → A → Type 0) (Ends : List Lexeme → Type 0) (n : ℕ) (one : List Lexeme → Option (A × List Lexeme)) →
    IsFull One Ends n one → Separates s Ends → {ys : List Lexeme} {found : List A} → Separated s One ys found → (k : ℕ) → length ys < k → length ys ≤ n →
    (rest : List Lexeme) → Ends rest → past s rest ≡ None → more_at k s one (Sign s ∷ ys ++ rest) ≡ Some (found, rest)
full_more s One Ends n one full by (last xs a d) zero lt le rest e f = absurd (omega arith)
full_more s One Ends n one full by (last xs a d) (suc k) lt le rest e f =
    let r : one (xs ++ rest) ≡ Some (a, rest) = full xs a rest d le e in
    rw (by.found (xs ++ rest), r, more_none k s one rest f) refl
full_more s One Ends n one full by (before xs ys a others d ds) zero lt le rest e f = absurd (omega arith)
full_more s One Ends n one full by (before xs ys a others d ds) (suc k) lt le rest e f =
    let g : xs ++ Sign s ∷ ys ++ rest ≡ xs ++ (Sign s ∷ ys ++ rest) = append_assoc xs (Sign s ∷ ys) rest in
    let sum : length (xs ++ Sign s ∷ ys) ≡ length xs + length (Sign s ∷ ys) = length-append xs (Sign s ∷ ys) in
    let r : one (xs ++ (Sign s ∷ ys ++ rest)) ≡ Some (a, Sign s ∷ ys ++ rest) =
    full xs a (Sign s ∷ ys ++ rest) d (omega (arith, sum, le)) (by.ends (ys ++ rest)) in
    let m : more_at k s one (Sign s ∷ ys ++ rest) ≡ Some (others, rest) =
    full_more s One Ends n one full by ds k (omega (arith, sum, lt)) (omega (arith, sum, le)) rest e f in
    rw (by.found (xs ++ Sign s ∷ ys ++ rest), g, r, m) refl

pub full_separated : {A : Type 0} (s : Symbol) (One : List Lexeme → A → Type 0) (Ends : List Lexeme → Type 0) (n : ℕ) (one : List Lexeme → Option (A × List Lexeme)) →
    IsFull One Ends n one → Separates s Ends → {xs : List Lexeme} {found : List A} → Separated s One xs found → length xs ≤ n →
    (rest : List Lexeme) → Ends rest → past s rest ≡ None → separated_at s one (xs ++ rest) ≡ Some (found, rest)
full_separated s One Ends n one full by (last xs a d) le rest e f =
    let r : one (xs ++ rest) ≡ Some (a, rest) = full xs a rest d le e in
    rw (r, more_none (length rest) s one rest f) refl
full_separated s One Ends n one full by (before xs ys a others d ds) le rest e f =
    let g : xs ++ Sign s ∷ ys ++ rest ≡ xs ++ (Sign s ∷ ys ++ rest) = append_assoc xs (Sign s ∷ ys) rest in
    let sum : length (xs ++ Sign s ∷ ys) ≡ length xs + length (Sign s ∷ ys) = length-append xs (Sign s ∷ ys) in
    let r : one (xs ++ (Sign s ∷ ys ++ rest)) ≡ Some (a, Sign s ∷ ys ++ rest) =
    full xs a (Sign s ∷ ys ++ rest) d (omega (arith, sum, le)) (by.ends (ys ++ rest)) in
    let m : more_at (suc (length (ys ++ rest))) s one (Sign s ∷ ys ++ rest) ≡ Some (others, rest) =
    full_more s One Ends n one full by ds (suc (length (ys ++ rest))) (omega (arith, length-append ys rest)) (omega (arith, sum, le)) rest e f in
    rw (g, r, m) refl

-- a form that never begins with "]"
abbrev pub NeverCloses : {A : Type 0} → (List Lexeme → A → Type 0) → Type 0
NeverCloses {A} One = (xs : List Lexeme) (a : A) (rest : List Lexeme) → One xs a → past CloseSquare (xs ++ rest) ≡ None

pub separated_opens : {A : Type 0} (s : Symbol) (One : List Lexeme → A → Type 0) → NeverCloses One → {xs : List Lexeme} {found : List A} → Separated s One xs found →
    (rest : List Lexeme) → past CloseSquare (xs ++ rest) ≡ None
separated_opens s One never (last xs a d) rest = never xs a rest d
separated_opens s One never (before xs ys a others d ds) rest =
    ap (past CloseSquare) (append_assoc xs (Sign s ∷ ys) rest) ∙ never xs a (Sign s ∷ ys ++ rest) d

pub full_list : {A : Type 0} (One : List Lexeme → A → Type 0) (Ends : List Lexeme → Type 0) (n : ℕ) (one : List Lexeme → Option (A × List Lexeme)) →
    IsFull One Ends n one → Separates Comma Ends → ((ls : List Lexeme) → Ends (Sign CloseSquare ∷ ls)) → NeverCloses One →
    {xs : List Lexeme} {found : List A} → Listed One xs found → length xs ≤ n → (rest : List Lexeme) → list_at one (xs ++ rest) ≡ Some (found, rest)
full_list One Ends n one full by ends never empty le rest = refl
full_list One Ends n one full by ends never (items xs found d) le rest =
    let close : List Lexeme = Sign CloseSquare ∷ rest in
    let g : xs ++ Sign CloseSquare ∷ [] ++ rest ≡ xs ++ close = append_assoc xs (Sign CloseSquare ∷ []) rest in
    let b : past CloseSquare (xs ++ close) ≡ None = separated_opens Comma One never d close in
    let r : separated_at Comma one (xs ++ close) ≡ Some (found, close) =
    full_separated Comma One Ends n one full by d (omega (arith, le, length-append xs (Sign CloseSquare ∷ []))) close (ends rest) refl in
    rw (g, b, r) refl

-- anything may follow an atom alone
abbrev pub Anything : List Lexeme → Type 0
Anything rest = Unit {0}

pub full_atom : (n : ℕ) → IsFull IsAtom Anything n atom_at
full_atom n _ a rest (atom l t e) le ends = rw e refl

pub atom_opens : NeverCloses IsAtom
atom_opens _ a rest (atom l t e) = atom_past l t CloseSquare rest e

pub full_path : {xs : List Lexeme} {p : List (List ℕ)} → IsPath xs p → (rest : List Lexeme) → path_at (xs ++ rest) ≡ Some (p, rest)
full_path {xs} d rest =
    full_list IsAtom Anything (length xs) atom_at (full_atom (length xs)) (record { found = λ ls. refl; ends = λ ls. tt }) (λ ls. tt) atom_opens d (omega arith) rest

path_opens : {xs : List Lexeme} {p : List (List ℕ)} → IsPath xs p → (rest : List Lexeme) → (inner : List Lexeme) × (past OpenSquare (xs ++ rest) ≡ Some inner)
path_opens empty rest = (Sign CloseSquare ∷ rest, refl)
path_opens (items xs found d) rest = (xs ++ Sign CloseSquare ∷ [] ++ rest, refl)

path_never : {xs : List Lexeme} {p : List (List ℕ)} → IsPath xs p → (rest : List Lexeme) → past CloseSquare (xs ++ rest) ≡ None
path_never empty rest = refl
path_never (items xs found d) rest = refl

-- a description that no "==" follows isn't read as the first path of an equation
not_path : {xs : List Lexeme} {t : TermData} → IsSimple xs t → (rest : List Lexeme) → past SamePath rest ≡ None →
    (o : Option (List (List ℕ) × List Lexeme)) → ended_by SamePath (path_at (xs ++ rest)) ≡ o → o ≡ None
not_path d rest e None h = refl
not_path {xs} d rest e (Some p) h =
    let f = sound_ended SamePath IsPath path_at sound_path (xs ++ rest) p h in
    let i = path_opens (f.2) (Sign SamePath ∷ p.1) in
    let a : rest ≡ behind zero (i.0) = list_behind d rest (i.0) (ap (past OpenSquare) (f.1) ∙ i.1) in
    let b : Sign SamePath ∷ p.1 ≡ behind zero (i.0) = path_behind (f.2) (Sign SamePath ∷ p.1) (i.0) (i.1) in
    let q : past SamePath rest ≡ Some (p.1) = ap (past SamePath) (a ∙ sym b) in
    let never : None ≡ Some (p.1) = sym e ∙ q in
    cc

pub simple_opens : NeverCloses IsSimple
simple_opens _ _ rest (feature l f xs t a d) = atom_past l f CloseSquare _ a
simple_opens _ _ rest (inequation xs t d) = refl
simple_opens _ _ rest (macro_call xs m ts d) = refl
simple_opens _ _ rest (type l m a) = atom_past l m CloseSquare rest a
simple_opens _ _ rest (variable m) = refl
simple_opens _ _ rest (group xs t d) = refl
simple_opens _ _ rest empty_list = refl
simple_opens _ _ rest (closed_list xs ts d) = refl
simple_opens _ _ rest (open_list xs ys ts t d f) = refl

pub part_opens : NeverCloses IsPart
part_opens _ _ rest (paths xs ys p q d e) =
    ap (past CloseSquare) (append_assoc xs (Sign SamePath ∷ ys) rest) ∙ path_never d (Sign SamePath ∷ ys ++ rest)
part_opens _ _ rest (simple xs t d) = simple_opens xs t rest d

separated_parts : {xs : List Lexeme} {ts : List TermData} → AreParts xs ts → Separated Comma IsPart xs ts
separated_parts (last_part xs t d) = last xs t d
separated_parts (part xs ys t ts d ds) = before xs ys t ts d (separated_parts ds)

separated_disjuncts : {xs : List Lexeme} {ts : List TermData} → AreDisjuncts xs ts → Separated Semicolon IsConjunction xs ts
separated_disjuncts (last_disjunct xs t d) = last xs t d
separated_disjuncts (disjunct xs ys t ts d ds) = before xs ys t ts d (separated_disjuncts ds)

-- what may follow before one of these symbols
pub simple_ends_at_comma : (ls : List Lexeme) → EndsPart (Sign Comma ∷ ls)
simple_ends_at_comma ls = record { simple = record { no_colon = refl; no_round = refl }; no_same_path = refl }

module _ (n : ℕ) (deep : TermReader) (full : IsFull IsSimple EndsSimple n deep) where
  pub full_part : IsFull IsPart EndsPart n (part_at deep)
  full_part _ _ rest (paths xs ys p q d e) le ends =
      let g : xs ++ Sign SamePath ∷ ys ++ rest ≡ xs ++ (Sign SamePath ∷ ys ++ rest) = append_assoc xs (Sign SamePath ∷ ys) rest in
      let r : path_at (xs ++ (Sign SamePath ∷ ys ++ rest)) ≡ Some (p, Sign SamePath ∷ ys ++ rest) = full_path d (Sign SamePath ∷ ys ++ rest) in
      let s : path_at (ys ++ rest) ≡ Some (q, rest) = full_path e rest in
      rw (g, r, s) refl
  full_part _ _ rest (simple xs t d) le ends =
      let h : ended_by SamePath (path_at (xs ++ rest)) ≡ None = not_path d rest ends.no_same_path (ended_by SamePath (path_at (xs ++ rest))) refl in
      let r : deep (xs ++ rest) ≡ Some (t, rest) = full xs t rest d le ends.simple in
      rw (h, r) refl

  pub full_parts : {xs : List Lexeme} {ts : List TermData} → AreParts xs ts → length xs ≤ n → (rest : List Lexeme) → EndsConjunction rest →
      parts_at deep (xs ++ rest) ≡ Some (ts, rest)
  full_parts d le rest ends =
      full_separated Comma IsPart EndsPart n (part_at deep) full_part (record { found = λ ls. refl; ends = simple_ends_at_comma }) (separated_parts d) le rest ends.part ends.no_comma

  full_conjunction : IsFull IsConjunction EndsConjunction n (conjunction_at deep)
  full_conjunction _ _ rest (conjunction xs ts d) le ends =
      let r : parts_at deep (xs ++ rest) ≡ Some (ts, rest) = full_parts d le rest ends in rw r refl

  pub full_description : IsFull IsDescription EndsDescription n (disjunction_at deep)
  full_description _ _ rest (disjunction xs ts d) le ends =
      let at_semicolon : (ls : List Lexeme) → EndsConjunction (Sign Semicolon ∷ ls) =
      λ ls. record { part = record { simple = record { no_colon = refl; no_round = refl }; no_same_path = refl }; no_comma = refl } in
      let r : separated_at Semicolon (conjunction_at deep) (xs ++ rest) ≡ Some (ts, rest) =
      full_separated Semicolon IsConjunction EndsConjunction n (conjunction_at deep) full_conjunction (record { found = λ ls. refl; ends = at_semicolon }) (separated_disjuncts d) le rest ends.conjunction ends.no_semicolon in
      rw r refl

  -- behind a closing bracket all that is open ends
  at_round : (ls : List Lexeme) → EndsDescription (Sign CloseRound ∷ ls)
  at_round ls = record {
    conjunction = record { part = record { simple = record { no_colon = refl; no_round = refl }; no_same_path = refl }; no_comma = refl };
    no_semicolon = refl;
  }

  at_square : (ls : List Lexeme) → EndsConjunction (Sign CloseSquare ∷ ls)
  at_square ls = record { part = record { simple = record { no_colon = refl; no_round = refl }; no_same_path = refl }; no_comma = refl }

  at_bar : (ls : List Lexeme) → EndsConjunction (Sign Bar ∷ ls)
  at_bar ls = record { part = record { simple = record { no_colon = refl; no_round = refl }; no_same_path = refl }; no_comma = refl }

  pub full_call : {xs : List Lexeme} {m : List ℕ} {ts : List TermData} → IsCall xs m ts → length xs ≤ suc n → (rest : List Lexeme) → past OpenRound rest ≡ None →
      call_of deep (xs ++ rest) ≡ Some ((m, ts), rest)
  full_call (plain l m a) le rest ends = rw (a, ends) refl
  full_call (applied l m xs ts a d) le rest ends =
      let close : List Lexeme = Sign CloseRound ∷ rest in
      let g : xs ++ Sign CloseRound ∷ [] ++ rest ≡ xs ++ close = append_assoc xs (Sign CloseRound ∷ []) rest in
      let sum : length (xs ++ Sign CloseRound ∷ []) ≡ length xs + 1 = length-append xs (Sign CloseRound ∷ []) in
      let r : parts_at deep (xs ++ close) ≡ Some (ts, close) = full_parts d (omega (arith, le, sum)) close ((at_round rest).conjunction) in
      rw (a, g, r) refl

  full_level : IsFull IsSimple EndsSimple (suc n) (simple_at deep)
  full_level _ _ rest (feature l f xs t a d) le ends =
      let r : deep (xs ++ rest) ≡ Some (t, rest) = full xs t rest d (omega (arith, le)) ends in rw (a, r) refl
  full_level _ _ rest (inequation xs t d) le ends =
      let r : deep (xs ++ rest) ≡ Some (t, rest) = full xs t rest d (omega (arith, le)) ends in rw r refl
  full_level _ _ rest (macro_call xs m ts d) le ends =
      let r : call_of deep (xs ++ rest) ≡ Some ((m, ts), rest) = full_call d (omega (arith, le)) rest ends.no_round in rw r refl
  full_level _ _ rest (type l m a) le ends = rw (a, ends.no_colon) refl
  full_level _ _ rest (variable m) le ends = refl
  full_level _ _ rest (group xs t d) le ends =
      let close : List Lexeme = Sign CloseRound ∷ rest in
      let g : xs ++ Sign CloseRound ∷ [] ++ rest ≡ xs ++ close = append_assoc xs (Sign CloseRound ∷ []) rest in
      let sum : length (xs ++ Sign CloseRound ∷ []) ≡ length xs + 1 = length-append xs (Sign CloseRound ∷ []) in
      let r : disjunction_at deep (xs ++ close) ≡ Some (t, close) = full_description xs t close d (omega (arith, le, sum)) (at_round rest) in
      rw (g, r) refl
  full_level _ _ rest empty_list le ends = refl
  full_level _ _ rest (closed_list xs ts d) le ends =
      let close : List Lexeme = Sign CloseSquare ∷ rest in
      let g : xs ++ Sign CloseSquare ∷ [] ++ rest ≡ xs ++ close = append_assoc xs (Sign CloseSquare ∷ []) rest in
      let sum : length (xs ++ Sign CloseSquare ∷ []) ≡ length xs + 1 = length-append xs (Sign CloseSquare ∷ []) in
      let b : past CloseSquare (xs ++ close) ≡ None = separated_opens Comma IsPart part_opens (separated_parts d) close in
      let r : parts_at deep (xs ++ close) ≡ Some (ts, close) = full_parts d (omega (arith, le, sum)) close (at_square rest) in
      rw (g, b, r) refl
  full_level _ _ rest (open_list xs ys ts t d f) le ends =
      let close : List Lexeme = Sign CloseSquare ∷ rest in
      let tail : List Lexeme = Sign Bar ∷ ys ++ close in
      let g : xs ++ Sign Bar ∷ ys ++ Sign CloseSquare ∷ [] ++ rest ≡ xs ++ tail =
      append_assoc (xs ++ Sign Bar ∷ ys) (Sign CloseSquare ∷ []) rest ∙ append_assoc xs (Sign Bar ∷ ys) close in
      let sum : length (xs ++ Sign Bar ∷ ys ++ Sign CloseSquare ∷ []) ≡ length (xs ++ Sign Bar ∷ ys) + 1 = length-append (xs ++ Sign Bar ∷ ys) (Sign CloseSquare ∷ []) in
      let more : length (xs ++ Sign Bar ∷ ys) ≡ length xs + suc (length ys) = length-append xs (Sign Bar ∷ ys) in
      let b : past CloseSquare (xs ++ tail) ≡ None = separated_opens Comma IsPart part_opens (separated_parts d) tail in
      let r : parts_at deep (xs ++ tail) ≡ Some (ts, tail) = full_parts d (omega (arith, le, sum, more)) tail (at_bar (ys ++ close)) in
      let u : part_at deep (ys ++ close) ≡ Some (t, close) = full_part ys t close f (omega (arith, le, sum, more)) ((at_square rest).part) in
      rw (g, b, r, u) refl

simple_some : {xs : List Lexeme} {t : TermData} → IsSimple xs t → 0 < length xs
simple_some (feature l f xs t a d) = omega arith
simple_some (inequation xs t d) = omega arith
simple_some (macro_call xs m ts d) = omega arith
simple_some (type l m a) = omega arith
simple_some (variable m) = omega arith
simple_some (group xs t d) = omega arith
simple_some empty_list = omega arith
simple_some (closed_list xs ts d) = omega arith
simple_some (open_list xs ys ts t d f) = omega arith

pub full_simple : (n : ℕ) → IsFull IsSimple EndsSimple n (simple_of n)
full_simple zero xs t rest d le ends = absurd (omega (arith, le, simple_some d))
full_simple (suc n) xs t rest d le ends = full_level n (simple_of n) (full_simple n) xs t rest d le ends

-- Descriptions, elements and calls are read.
pub description_read : {xs : List Lexeme} {t : TermData} → IsDescription xs t → (rest : List Lexeme) → EndsDescription rest → description_at (xs ++ rest) ≡ Some (t, rest)
description_read {xs} {t} d rest ends =
    let n : ℕ = length (xs ++ rest) in
    full_description n (simple_of n) (full_simple n) xs t rest d (omega (arith, length-append xs rest)) ends

pub element_read : {xs : List Lexeme} {t : TermData} → IsPart xs t → (rest : List Lexeme) → EndsPart rest → element_at (xs ++ rest) ≡ Some (t, rest)
element_read {xs} {t} d rest ends =
    let n : ℕ = length (xs ++ rest) in
    full_part n (simple_of n) (full_simple n) xs t rest d (omega (arith, length-append xs rest)) ends

pub call_read : {xs : List Lexeme} {m : List ℕ} {ts : List TermData} → IsCall xs m ts → (rest : List Lexeme) → past OpenRound rest ≡ None → call_at (xs ++ rest) ≡ Some ((m, ts), rest)
call_read {xs} d rest ends =
    let n : ℕ = length (xs ++ rest) in
    full_call n (simple_of n) (full_simple n) d (omega (arith, length-append xs rest)) rest ends

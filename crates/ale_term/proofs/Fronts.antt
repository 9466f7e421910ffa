-- What the smallest readers read stands at the front; and readers of several, of lists and with an end.
use Rattle.std.proofs.Common.{◌≡◌, ◌⊎◌, inl, inr, ℕ, zero, suc, Bool, true, false, ◌==◌, if◌then◌else◌, Option, Some, None, List, [], ◌∷◌, ◌++◌, length, refl, sym, ap, subst, ◌∙◌, append_assoc}
use Rattle.std.proofs.lemmas.Bool.{eqb-true}
use Rattle.std.proofs.lemmas.List.{append-nil}
use Rattle.std.proofs.lemmas.Slice.Eq.{bytes_eq-Decides}
use Rattle.std.specs.Str.{bytes_eq}
use Rattle.ale_term.specs.declared.symbol.Symbol.{Symbol}
use Rattle.ale_term.specs.declared.symbol.Symbol.TheVariants.{RuleArrow, WordArrow, FunctionArrow, LexRuleArrow, OtherThan, SamePath, Identical, Neck, Then, NotProved, Equals, Colon, Comma, Semicolon, OpenRound, CloseRound, OpenSquare, CloseSquare, Bar, MacroSign, Exclamation, Slash, Greater}
use Rattle.ale_term.specs.declared.lexeme.Lexeme.{Lexeme}
use Rattle.ale_term.specs.declared.lexeme.Lexeme.TheVariants.{Atom, Quoted, Variable, Number, Sign, Other, End}
use Rattle.ale_term.specs.Grammar.{atom_name, IsAtom, atom, Separated, last, before, Listed, empty, items, IsPath}
use Rattle.ale_term.specs.Reading.{symbol_number, past_sign, past, past_word, atom_at, variable_at, more_at, separated_at, ended_by, list_at, path_at, ◌>>=◌, choose}
use Rattle.ale_term.specs.Follows.{Front}
use Rattle.ale_term.proofs.Loops.{read_all}

-- the symbol with a number
symbol_with : ℕ → Symbol
symbol_with n =
    if n == 0 then RuleArrow else if n == 1 then WordArrow else if n == 2 then FunctionArrow else if n == 3 then LexRuleArrow
    else if n == 4 then OtherThan else if n == 5 then SamePath else if n == 6 then Identical else if n == 7 then Neck
    else if n == 8 then Then else if n == 9 then NotProved else if n == 10 then Equals else if n == 11 then Colon
    else if n == 12 then Comma else if n == 13 then Semicolon else if n == 14 then OpenRound else if n == 15 then CloseRound
    else if n == 16 then OpenSquare else if n == 17 then CloseSquare else if n == 18 then Bar else if n == 19 then MacroSign
    else if n == 20 then Exclamation else if n == 21 then Slash else Greater

numbered : (s : Symbol) → symbol_with (symbol_number s) ≡ s
unfolding symbol_with
numbered RuleArrow = refl
numbered WordArrow = refl
numbered FunctionArrow = refl
numbered LexRuleArrow = refl
numbered OtherThan = refl
numbered SamePath = refl
numbered Identical = refl
numbered Neck = refl
numbered Then = refl
numbered NotProved = refl
numbered Equals = refl
numbered Colon = refl
numbered Comma = refl
numbered Semicolon = refl
numbered OpenRound = refl
numbered CloseRound = refl
numbered OpenSquare = refl
numbered CloseSquare = refl
numbered Bar = refl
numbered MacroSign = refl
numbered Exclamation = refl
numbered Slash = refl
numbered Greater = refl

same_symbol : (k s : Symbol) → symbol_number k ≡ symbol_number s → k ≡ s
same_symbol k s e = sym (numbered k) ∙ ap symbol_with e ∙ numbered s

pub behind_by : {A : Type 0} (b : Bool) (ls ys : A) → (if b then Some ls else None) ≡ Some ys → (b ≡ true) × (ls ≡ ys)
behind_by true ls ys e = (refl, cc)
behind_by false ls ys e = cc

sign_front : (s : Symbol) (l : Lexeme) (ls ys : List Lexeme) → past_sign s l ls ≡ Some ys → l ∷ ls ≡ Sign s ∷ ys
sign_front s (Sign k) ls ys e =
    let p = behind_by (symbol_number k == symbol_number s) ls ys e in
    let same : k ≡ s = same_symbol k s (eqb-true (symbol_number k) (symbol_number s) (p.0)) in
    let left : ls ≡ ys = p.1 in
    cc
sign_front s (Atom n) ls ys e = cc
sign_front s (Quoted n) ls ys e = cc
sign_front s (Variable n) ls ys e = cc
sign_front s (Number n) ls ys e = cc
sign_front s Other ls ys e = cc
sign_front s End ls ys e = cc

pub past_front : (s : Symbol) (zs ys : List Lexeme) → past s zs ≡ Some ys → zs ≡ Sign s ∷ ys
past_front s [] ys e = cc
past_front s (l ∷ ls) ys e = sign_front s l ls ys e

pub word_front : (w : List ℕ) (zs ys : List Lexeme) → past_word w zs ≡ Some ys → zs ≡ Atom w ∷ ys
word_front w [] ys e = cc
word_front w (Atom n ∷ ls) ys e =
    let p = behind_by (bytes_eq n w) ls ys e in
    let d = bytes_eq-Decides n w in
    let same : n ≡ w = d.0 (p.0) in
    let left : ls ≡ ys = p.1 in
    cc
word_front w (Quoted n ∷ ls) ys e = cc
word_front w (Variable n ∷ ls) ys e = cc
word_front w (Number n ∷ ls) ys e = cc
word_front w (Sign k ∷ ls) ys e = cc
word_front w (Other ∷ ls) ys e = cc
word_front w (End ∷ ls) ys e = cc

pub bind_some : {A B : Type 0} (o : Option A) (f : A → Option B) (y : B) → (o >>= f) ≡ Some y → (x : A) × (o ≡ Some x) × (f x ≡ Some y)
bind_some None f y e = cc
bind_some (Some x) f y e = (x, refl, e)

pub choose_some : {A B : Type 0} (o : Option A) (otherwise : Option B) (f : A → Option B) (y : B) → choose o otherwise f ≡ Some y →
    ((o ≡ None) × (otherwise ≡ Some y)) ⊎ ((x : A) × (o ≡ Some x) × (f x ≡ Some y))
choose_some None otherwise f y e = inl (refl, e)
choose_some (Some x) otherwise f y e = inr (x, refl, e)

pub atom_front : (zs : List Lexeme) (p : List ℕ × List Lexeme) → atom_at zs ≡ Some p → (l : Lexeme) × (atom_name l ≡ Some p.0) × (zs ≡ l ∷ p.1)
atom_front [] p e = cc
atom_front (l ∷ ls) p e =
    let x = bind_some (atom_name l) (λ n. Some (n, ls)) p e in
    let got : List ℕ × List Lexeme = (x.0, ls) in
    let q : got ≡ p = cc (x.2) in
    (l, x.1 ∙ ap (λ g. Some g.0) q, ap (λ g. l ∷ g.1) q)

pub variable_front : (zs : List Lexeme) (p : List ℕ × List Lexeme) → variable_at zs ≡ Some p → zs ≡ Variable p.0 ∷ p.1
variable_front [] p e = cc
variable_front (Variable n ∷ ls) p e =
    let got : List ℕ × List Lexeme = (n, ls) in
    let q : got ≡ p = cc in ap (λ g. Variable g.0 ∷ g.1) q
variable_front (Atom n ∷ ls) p e = cc
variable_front (Quoted n ∷ ls) p e = cc
variable_front (Number n ∷ ls) p e = cc
variable_front (Sign k ∷ ls) p e = cc
variable_front (Other ∷ ls) p e = cc
variable_front (End ∷ ls) p e = cc

-- what is read stands at the front
abbrev pub IsSound : {A : Type 0} → (List Lexeme → A → Type 0) → (List Lexeme → Option (A × List Lexeme)) → Type 0
IsSound {A} One one = (zs : List Lexeme) (p : A × List Lexeme) → one zs ≡ Some p → Front One zs p

-- the same where a symbol ends it
abbrev pub Ended : {A : Type 0} → Symbol → (List Lexeme → A → Type 0) → List Lexeme → A × List Lexeme → Type 0
Ended s One zs p = (xs : List Lexeme) × (zs ≡ xs ++ Sign s ∷ p.1) × One xs p.0

pub sound_ended : {A : Type 0} (s : Symbol) (One : List Lexeme → A → Type 0) (one : List Lexeme → Option (A × List Lexeme)) → IsSound One one →
    (zs : List Lexeme) (p : A × List Lexeme) → ended_by s (one zs) ≡ Some p → Ended s One zs p
sound_ended {A} s One one sound zs p e =
    let x = bind_some (one zs) (λ x. past s x.1 >>= λ behind. Some (x.0, behind)) p e in
    let b = bind_some (past s x.0.1) (λ behind. Some (x.0.0, behind)) p (x.2) in
    let got : A × List Lexeme = (x.0.0, b.0) in
    let q : got ≡ p = cc (b.2) in
    let f = sound zs (x.0) (x.1) in
    subst (Ended s One zs) q (f.0, f.1 ∙ ap (λ ls. f.0 ++ ls) (past_front s (x.0.1) (b.0) (b.1)), f.2)

-- what is read, put together
pub sound_made : {A B : Type 0} (One : List Lexeme → A → Type 0) (Two : List Lexeme → B → Type 0) (one : List Lexeme → Option (A × List Lexeme)) (make : A → B) →
    IsSound One one → ((xs : List Lexeme) (a : A) → One xs a → Two xs (make a)) → IsSound Two (λ ls. one ls >>= λ x. Some (make x.0, x.1))
sound_made {A} {B} One Two one make sound turn zs p e =
    let x = bind_some (one zs) (λ x. Some (make x.0, x.1)) p e in
    let got : B × List Lexeme = (make x.0.0, x.0.1) in
    let q : got ≡ p = cc (x.2) in
    let f = sound zs (x.0) (x.1) in
    subst (Front Two zs) q (f.0, f.1, turn (f.0) (x.0.0) (f.2))

-- what stands before, a symbol, and what stands behind it
pub after_sign : (s : Symbol) (zs xs behind ys rest : List Lexeme) → zs ≡ xs ++ Sign s ∷ behind → behind ≡ ys ++ rest → zs ≡ xs ++ Sign s ∷ ys ++ rest
after_sign s zs xs behind ys rest e f = e ∙ ap (λ ls. xs ++ Sign s ∷ ls) f ∙ sym (append_assoc xs (Sign s ∷ ys) rest)

-- what stands between two symbols
pub between : (s t : Symbol) (zs inner xs rest : List Lexeme) → past s zs ≡ Some inner → inner ≡ xs ++ Sign t ∷ rest → zs ≡ Sign s ∷ xs ++ Sign t ∷ [] ++ rest
between s t zs inner xs rest e f =
    past_front s zs inner e ∙ ap (λ ls. Sign s ∷ ls) (f ∙ sym (append_assoc xs (Sign t ∷ []) rest))

-- { s one }
pub data Further {A : Type 0} (s : Symbol) (One : List Lexeme → A → Type 0) : List Lexeme → List A → Type 0 where
  no_more : Further s One [] []
  some_more : (ys : List Lexeme) (found : List A) → Separated s One ys found → Further s One (Sign s ∷ ys) found

with_further : {A : Type 0} (s : Symbol) (One : List Lexeme → A → Type 0) (xs : List Lexeme) (a : A) {ys : List Lexeme} {found : List A} →
    One xs a → Further s One ys found → Separated s One (xs ++ ys) (a ∷ found)
with_further s One xs a o no_more = subst (λ ls. Separated s One ls (a ∷ [])) (sym (append-nil xs)) (last xs a o)
with_further s One xs a o (some_more ys found d) = before xs ys a found o d

sound_more : {A : Type 0} (s : Symbol) (One : List Lexeme → A → Type 0) (one : List Lexeme → Option (A × List Lexeme)) → IsSound One one →
    (n : ℕ) → IsSound (Further s One) (more_at n s one)
sound_more {A} s One one sound zero zs p e =
    let got : List A × List Lexeme = ([], zs) in
    let q : got ≡ p = cc in subst (Front (Further s One) zs) q ([], refl, no_more)
sound_more {A} s One one sound (suc n) zs p e =
    elim (choose_some (past s zs) (read_all [] zs) (λ behind. one behind >>= λ x. more_at n s one x.1 >>= λ xs. read_all (x.0 ∷ xs.0) xs.1) p e) [
      | inl h ↦
          let got : List A × List Lexeme = ([], zs) in
          let q : got ≡ p = cc (h.1) in subst (Front (Further s One) zs) q ([], refl, no_more)
      | inr h ↦
          let x = bind_some (one h.0) (λ x. more_at n s one x.1 >>= λ xs. read_all (x.0 ∷ xs.0) xs.1) p (h.2) in
          let y = bind_some (more_at n s one x.0.1) (λ xs. read_all (x.0.0 ∷ xs.0) xs.1) p (x.2) in
          let got : List A × List Lexeme = (x.0.0 ∷ y.0.0, y.0.1) in
          let q : got ≡ p = cc (y.2) in
          let f = sound (h.0) (x.0) (x.1) in
          let g = sound_more s One one sound n (x.0.1) (y.0) (y.1) in
          let split : zs ≡ Sign s ∷ f.0 ++ g.0 ++ y.0.1 =
          past_front s zs (h.0) (h.1) ∙ ap (λ ls. Sign s ∷ ls) (f.1 ∙ ap (λ ls. f.0 ++ ls) (g.1) ∙ sym (append_assoc (f.0) (g.0) (y.0.1))) in
          subst (Front (Further s One) zs) q
          (Sign s ∷ f.0 ++ g.0, split, some_more (f.0 ++ g.0) (x.0.0 ∷ y.0.0) (with_further s One (f.0) (x.0.0) (f.2) (g.2)))
    ]

pub sound_separated : {A : Type 0} (s : Symbol) (One : List Lexeme → A → Type 0) (one : List Lexeme → Option (A × List Lexeme)) → IsSound One one →
    IsSound (Separated s One) (separated_at s one)
sound_separated {A} s One one sound zs p e =
    let x = bind_some (one zs) (λ x. more_at (length x.1) s one x.1 >>= λ xs. read_all (x.0 ∷ xs.0) xs.1) p e in
    let y = bind_some (more_at (length x.0.1) s one x.0.1) (λ xs. read_all (x.0.0 ∷ xs.0) xs.1) p (x.2) in
    let got : List A × List Lexeme = (x.0.0 ∷ y.0.0, y.0.1) in
    let q : got ≡ p = cc (y.2) in
    let f = sound zs (x.0) (x.1) in
    let g = sound_more s One one sound (length x.0.1) (x.0.1) (y.0) (y.1) in
    let split : zs ≡ f.0 ++ g.0 ++ y.0.1 = f.1 ∙ ap (λ ls. f.0 ++ ls) (g.1) ∙ sym (append_assoc (f.0) (g.0) (y.0.1)) in
    subst (Front (Separated s One) zs) q (f.0 ++ g.0, split, with_further s One (f.0) (x.0.0) (f.2) (g.2))

pub sound_list : {A : Type 0} (One : List Lexeme → A → Type 0) (one : List Lexeme → Option (A × List Lexeme)) → IsSound One one →
    IsSound (Listed One) (list_at one)
sound_list {A} One one sound zs p e =
    let i = bind_some (past OpenSquare zs)
    (λ inner. choose (past CloseSquare inner) (ended_by CloseSquare (separated_at Comma one inner)) (λ behind. read_all [] behind)) p e in
    elim (choose_some (past CloseSquare i.0) (ended_by CloseSquare (separated_at Comma one i.0)) (λ behind. read_all [] behind) p (i.2)) [
      | inl h ↦
          let f = sound_ended CloseSquare (Separated Comma One) (separated_at Comma one) (sound_separated Comma One one sound) (i.0) p (h.1) in
          (Sign OpenSquare ∷ f.0 ++ Sign CloseSquare ∷ [], between OpenSquare CloseSquare zs (i.0) (f.0) (p.1) (i.1) (f.1), items (f.0) (p.0) (f.2))
      | inr h ↦
          let got : List A × List Lexeme = ([], h.0) in
          let q : got ≡ p = cc (h.2) in
          let split : zs ≡ Sign OpenSquare ∷ Sign CloseSquare ∷ h.0 =
          past_front OpenSquare zs (i.0) (i.1) ∙ ap (λ ls. Sign OpenSquare ∷ ls) (past_front CloseSquare (i.0) (h.0) (h.1)) in
          subst (Front (Listed One) zs) q (Sign OpenSquare ∷ Sign CloseSquare ∷ [], split, empty)
    ]

pub sound_atom : IsSound IsAtom atom_at
sound_atom zs p e = let f = atom_front zs p e in (f.0 ∷ [], f.2, atom (f.0) (p.0) (f.1))

pub sound_path : IsSound IsPath path_at
sound_path zs p e = sound_list IsAtom atom_at sound_atom zs p e

-- What is read of descriptions is what the grammar says, and the lexemes behind it are left.
use Rattle.std.proofs.Common.{◌≡◌, inl, inr, ℕ, zero, suc, Option, Some, None, List, [], ◌∷◌, ◌++◌, length, refl, sym, ap, subst, ◌∙◌}
use Rattle.ale_term.specs.declared.symbol.Symbol.TheVariants.{OtherThan, SamePath, Colon, Comma, Semicolon, OpenRound, CloseRound, OpenSquare, CloseSquare, Bar, MacroSign}
use Rattle.ale_term.specs.declared.lexeme.Lexeme.{Lexeme}
use Rattle.ale_term.specs.declared.lexeme.Lexeme.TheVariants.{Variable, Sign}
use Rattle.ale_term.specs.Terms.{TermData, name, slot, at, differs, meet, macro, list, list_with, terms_of, all_of, any_of}
use Rattle.ale_term.specs.Grammar.{atom_name, Separated, last, before, IsPath, IsDescription, AreDisjuncts, IsConjunction, AreParts, IsPart, IsSimple, IsCall, lone_true, disjunction, last_disjunct, disjunct, conjunction, last_part, part, paths, simple, feature, inequation, macro_call, type, variable, group, empty_list, closed_list, open_list, plain, applied}
use Rattle.ale_term.specs.Reading.{past, atom_at, variable_at, separated_at, ended_by, path_at, part_at, parts_at, conjunction_at, disjunction_at, arguments_at, call_of, named_at, group_at, tail_at, items_at, signed_at, unnamed_at, simple_of, description_at, element_at, call_at, ◌>>=◌, choose}
use Rattle.ale_term.specs.Follows.{Front, IsCallPair}
use Rattle.ale_term.proofs.Loops.{read_all}
use Rattle.ale_term.proofs.Fronts.{past_front, atom_front, variable_front, bind_some, choose_some, IsSound, sound_ended, sound_made, sound_separated, sound_path, after_sign, between}

-- a description that was read
abbrev pub one_term : TermData → List Lexeme → Option (TermData × List Lexeme)
one_term t ls = Some (t, ls)

abbrev pub TermReader : Type 0
TermReader = List Lexeme → Option (TermData × List Lexeme)

-- a call that was read
abbrev pub one_call : List ℕ → List TermData → List Lexeme → Option ((List ℕ × List TermData) × List Lexeme)
one_call n ts ls = Some ((n, ts), ls)

-- a call stands at the front; it is not `true` alone where arguments follow
pub record CallFront (zs : List Lexeme) (n : List ℕ) (ts : List TermData) (rest : List Lexeme) : Type 0 where
  pub form : List Lexeme
  pub split : zs ≡ form ++ rest
  pub is : IsCall form n ts
  pub lone : form ≡ lone_true → past OpenRound rest ≡ None

are_parts : {xs : List Lexeme} {ts : List TermData} → Separated Comma IsPart xs ts → AreParts xs ts
are_parts (last xs t d) = last_part xs t d
are_parts (before xs ys t ts d ds) = part xs ys t ts d (are_parts ds)

are_disjuncts : {xs : List Lexeme} {ts : List TermData} → Separated Semicolon IsConjunction xs ts → AreDisjuncts xs ts
are_disjuncts (last xs t d) = last_disjunct xs t d
are_disjuncts (before xs ys t ts d ds) = disjunct xs ys t ts d (are_disjuncts ds)

module _ (deep : TermReader) (sound : IsSound IsSimple deep) where
  pub sound_part : IsSound IsPart (part_at deep)
  sound_part zs p e =
      elim (choose_some (ended_by SamePath (path_at zs)) (deep zs) (λ a. path_at a.1 >>= λ b. one_term (meet a.0 b.0) b.1) p e) [
        | inl h ↦ let f = sound zs p (h.1) in (f.0, f.1, simple (f.0) (p.0) (f.2))
        | inr h ↦
            let y = bind_some (path_at h.0.1) (λ b. one_term (meet h.0.0 b.0) b.1) p (h.2) in
            let got : TermData × List Lexeme = (meet h.0.0 y.0.0, y.0.1) in
            let q : got ≡ p = cc (y.2) in
            let f = sound_ended SamePath IsPath path_at sound_path zs (h.0) (h.1) in
            let g = sound_path (h.0.1) (y.0) (y.1) in
            subst (Front IsPart zs) q
            (f.0 ++ Sign SamePath ∷ g.0, after_sign SamePath zs (f.0) (h.0.1) (g.0) (y.0.1) (f.1) (g.1), paths (f.0) (g.0) (h.0.0) (y.0.0) (f.2) (g.2))
      ]

  pub sound_parts : IsSound AreParts (parts_at deep)
  sound_parts zs p e =
      let f = sound_separated Comma IsPart (part_at deep) sound_part zs p e in (f.0, f.1, are_parts (f.2))

  sound_conjunction : IsSound IsConjunction (conjunction_at deep)
  sound_conjunction zs p e =
      sound_made AreParts IsConjunction (parts_at deep) all_of sound_parts (λ xs ts d. conjunction xs ts d) zs p e

  sound_disjuncts : IsSound AreDisjuncts (separated_at Semicolon (conjunction_at deep))
  sound_disjuncts zs p e =
      let f = sound_separated Semicolon IsConjunction (conjunction_at deep) sound_conjunction zs p e in (f.0, f.1, are_disjuncts (f.2))

  pub sound_disjunction : IsSound IsDescription (disjunction_at deep)
  sound_disjunction zs p e =
      sound_made AreDisjuncts IsDescription (separated_at Semicolon (conjunction_at deep)) any_of sound_disjuncts (λ xs ts d. disjunction xs ts d) zs p e

  -- what follows the name of a call makes a call with it
  sound_arguments : (l : Lexeme) (n : List ℕ) → atom_name l ≡ Some n → (zs : List Lexeme) (p : List TermData × List Lexeme) → arguments_at deep zs ≡ Some p →
      CallFront (l ∷ zs) n p.0 p.1
  sound_arguments l n a zs p e =
      elim (choose_some (past OpenRound zs) (read_all [] zs) (λ inner. ended_by CloseRound (parts_at deep inner)) p e) [
        | inl h ↦
            let got : List TermData × List Lexeme = ([], zs) in
            let q : got ≡ p = cc (h.1) in
            subst (λ (r : List TermData × List Lexeme). CallFront (l ∷ zs) n r.0 r.1) q
            (record { form = l ∷ []; split = refl; is = plain l n a; lone = λ same. h.0 })
        | inr h ↦
            let f = sound_ended CloseRound AreParts (parts_at deep) sound_parts (h.0) p (h.2) in
            record {
              form = l ∷ Sign OpenRound ∷ f.0 ++ Sign CloseRound ∷ [];
              split = ap (λ ls. l ∷ ls) (between OpenRound CloseRound zs (h.0) (f.0) (p.1) (h.1) (f.1));
              is = applied l n (f.0) (p.0) a (f.2);
              lone = λ same. cc;
            }
      ]

  pub call_front : (zs : List Lexeme) (p : (List ℕ × List TermData) × List Lexeme) → call_of deep zs ≡ Some p → CallFront zs p.0.0 p.0.1 p.1
  call_front zs p e =
      let x = bind_some (atom_at zs) (λ n. arguments_at deep n.1 >>= λ ts. one_call n.0 ts.0 ts.1) p e in
      let y = bind_some (arguments_at deep x.0.1) (λ ts. one_call x.0.0 ts.0 ts.1) p (x.2) in
      let call : List ℕ × List TermData = (x.0.0, y.0.0) in
      let got : (List ℕ × List TermData) × List Lexeme = (call, y.0.1) in
      let q : got ≡ p = cc (y.2) in
      let a = atom_front zs (x.0) (x.1) in
      let f = sound_arguments (a.0) (x.0.0) (a.1) (x.0.1) (y.0) (y.1) in
      subst (λ (r : (List ℕ × List TermData) × List Lexeme). CallFront zs r.0.0 r.0.1 r.1) q
      (record { form = f.form; split = a.2 ∙ f.split; is = f.is; lone = f.lone })

  pub sound_call : IsSound IsCallPair (call_of deep)
  sound_call zs p e = let f = call_front zs p e in (f.form, f.split, f.is)

  -- what follows an atom makes a description with it
  sound_named : (l : Lexeme) (n : List ℕ) → atom_name l ≡ Some n → (zs : List Lexeme) (p : TermData × List Lexeme) → named_at deep n zs ≡ Some p →
      Front IsSimple (l ∷ zs) p
  sound_named l n a zs p e =
      elim (choose_some (past Colon zs) (one_term (name n) zs) (λ behind. deep behind >>= λ t. one_term (at n t.0) t.1) p e) [
        | inl h ↦
            let got : TermData × List Lexeme = (name n, zs) in
            let q : got ≡ p = cc (h.1) in subst (Front IsSimple (l ∷ zs)) q (l ∷ [], refl, type l n a)
        | inr h ↦
            let x = bind_some (deep h.0) (λ t. one_term (at n t.0) t.1) p (h.2) in
            let got : TermData × List Lexeme = (at n x.0.0, x.0.1) in
            let q : got ≡ p = cc (x.2) in
            let f = sound (h.0) (x.0) (x.1) in
            let split : l ∷ zs ≡ l ∷ Sign Colon ∷ f.0 ++ x.0.1 =
            ap (λ ls. l ∷ ls) (past_front Colon zs (h.0) (h.1) ∙ ap (λ ls. Sign Colon ∷ ls) (f.1)) in
            subst (Front IsSimple (l ∷ zs)) q (l ∷ Sign Colon ∷ f.0, split, feature l n (f.0) (x.0.0) a (f.2))
      ]

  -- what follows the items of a list makes a list with them
  sound_tail : (zs inner xs : List Lexeme) (ts : List TermData) (rest : List Lexeme) → past OpenSquare zs ≡ Some inner → inner ≡ xs ++ rest → AreParts xs ts →
      (p : TermData × List Lexeme) → tail_at deep ts rest ≡ Some p → Front IsSimple zs p
  sound_tail zs inner xs ts rest opens split d p e =
      elim (choose_some (past Bar rest) (past CloseSquare rest >>= λ behind. one_term (list (terms_of ts)) behind)
      (λ more. ended_by CloseSquare (part_at deep more) >>= λ t. one_term (list_with (terms_of ts) t.0) t.1) p e) [
        | inl h ↦
            let b = bind_some (past CloseSquare rest) (λ behind. one_term (list (terms_of ts)) behind) p (h.1) in
            let got : TermData × List Lexeme = (list (terms_of ts), b.0) in
            let q : got ≡ p = cc (b.2) in
            let all : inner ≡ xs ++ Sign CloseSquare ∷ b.0 = split ∙ ap (λ ls. xs ++ ls) (past_front CloseSquare rest (b.0) (b.1)) in
            subst (Front IsSimple zs) q
            (Sign OpenSquare ∷ xs ++ Sign CloseSquare ∷ [], between OpenSquare CloseSquare zs inner xs (b.0) opens all, closed_list xs ts d)
        | inr h ↦
            let x = bind_some (ended_by CloseSquare (part_at deep h.0)) (λ t. one_term (list_with (terms_of ts) t.0) t.1) p (h.2) in
            let got : TermData × List Lexeme = (list_with (terms_of ts) x.0.0, x.0.1) in
            let q : got ≡ p = cc (x.2) in
            let f = sound_ended CloseSquare IsPart (part_at deep) sound_part (h.0) (x.0) (x.1) in
            let bar : inner ≡ xs ++ Sign Bar ∷ h.0 = split ∙ ap (λ ls. xs ++ ls) (past_front Bar rest (h.0) (h.1)) in
            let all : inner ≡ xs ++ Sign Bar ∷ f.0 ++ Sign CloseSquare ∷ x.0.1 =
            after_sign Bar inner xs (h.0) (f.0) (Sign CloseSquare ∷ x.0.1) bar (f.1) in
            subst (Front IsSimple zs) q (
              Sign OpenSquare ∷ xs ++ Sign Bar ∷ f.0 ++ Sign CloseSquare ∷ [],
              between OpenSquare CloseSquare zs inner (xs ++ Sign Bar ∷ f.0) (x.0.1) opens all,
              open_list xs (f.0) ts (x.0.0) d (f.2),
            )
      ]

  sound_items : (zs inner : List Lexeme) → past OpenSquare zs ≡ Some inner → (p : TermData × List Lexeme) → items_at deep inner ≡ Some p → Front IsSimple zs p
  sound_items zs inner opens p e =
      elim (choose_some (past CloseSquare inner) (parts_at deep inner >>= λ ts. tail_at deep ts.0 ts.1) (λ behind. one_term (list (terms_of [])) behind) p e) [
        | inl h ↦
            let x = bind_some (parts_at deep inner) (λ ts. tail_at deep ts.0 ts.1) p (h.1) in
            let f = sound_parts inner (x.0) (x.1) in
            sound_tail zs inner (f.0) (x.0.0) (x.0.1) opens (f.1) (f.2) p (x.2)
        | inr h ↦
            let got : TermData × List Lexeme = (list (terms_of []), h.0) in
            let q : got ≡ p = cc (h.2) in
            let split : zs ≡ Sign OpenSquare ∷ Sign CloseSquare ∷ h.0 =
            past_front OpenSquare zs inner opens ∙ ap (λ ls. Sign OpenSquare ∷ ls) (past_front CloseSquare inner (h.0) (h.1)) in
            subst (Front IsSimple zs) q (Sign OpenSquare ∷ Sign CloseSquare ∷ [], split, empty_list)
      ]

  -- a list or a group
  abbrev bracketed : (zs : List Lexeme) → Option (TermData × List Lexeme)
  bracketed zs = choose (past OpenRound zs) (past OpenSquare zs >>= λ inner. items_at deep inner) (λ inner. group_at deep inner)

  sound_bracketed : IsSound IsSimple bracketed
  sound_bracketed zs p e =
      elim (choose_some (past OpenRound zs) (past OpenSquare zs >>= λ inner. items_at deep inner) (λ inner. group_at deep inner) p e) [
        | inl h ↦
            let x = bind_some (past OpenSquare zs) (λ inner. items_at deep inner) p (h.1) in
            sound_items zs (x.0) (x.1) p (x.2)
        | inr h ↦
            let f = sound_ended CloseRound IsDescription (disjunction_at deep) sound_disjunction (h.0) p (h.2) in
            (Sign OpenRound ∷ f.0 ++ Sign CloseRound ∷ [], between OpenRound CloseRound zs (h.0) (f.0) (p.1) (h.1) (f.1), group (f.0) (p.0) (f.2))
      ]

  -- a macro call, a list or a group
  abbrev called : (zs : List Lexeme) → Option (TermData × List Lexeme)
  called zs = choose (past MacroSign zs) (bracketed zs) (λ behind. call_of deep behind >>= λ c. one_term (macro c.0.0 (terms_of c.0.1)) c.1)

  sound_called : IsSound IsSimple called
  sound_called zs p e =
      elim (choose_some (past MacroSign zs) (bracketed zs) (λ behind. call_of deep behind >>= λ c. one_term (macro c.0.0 (terms_of c.0.1)) c.1) p e) [
        | inl h ↦ sound_bracketed zs p (h.1)
        | inr h ↦
            let x = bind_some (call_of deep h.0) (λ c. one_term (macro c.0.0 (terms_of c.0.1)) c.1) p (h.2) in
            let got : TermData × List Lexeme = (macro x.0.0.0 (terms_of x.0.0.1), x.0.1) in
            let q : got ≡ p = cc (x.2) in
            let f = sound_call (h.0) (x.0) (x.1) in
            let split : zs ≡ Sign MacroSign ∷ f.0 ++ x.0.1 = past_front MacroSign zs (h.0) (h.1) ∙ ap (λ ls. Sign MacroSign ∷ ls) (f.1) in
            subst (Front IsSimple zs) q (Sign MacroSign ∷ f.0, split, macro_call (f.0) (x.0.0.0) (x.0.0.1) (f.2))
      ]

  sound_signed : IsSound IsSimple (signed_at deep)
  sound_signed zs p e =
      elim (choose_some (past OtherThan zs) (called zs) (λ behind. deep behind >>= λ t. one_term (differs t.0) t.1) p e) [
        | inl h ↦ sound_called zs p (h.1)
        | inr h ↦
            let x = bind_some (deep h.0) (λ t. one_term (differs t.0) t.1) p (h.2) in
            let got : TermData × List Lexeme = (differs x.0.0, x.0.1) in
            let q : got ≡ p = cc (x.2) in
            let f = sound (h.0) (x.0) (x.1) in
            let split : zs ≡ Sign OtherThan ∷ f.0 ++ x.0.1 = past_front OtherThan zs (h.0) (h.1) ∙ ap (λ ls. Sign OtherThan ∷ ls) (f.1) in
            subst (Front IsSimple zs) q (Sign OtherThan ∷ f.0, split, inequation (f.0) (x.0.0) (f.2))
      ]

  sound_unnamed : IsSound IsSimple (unnamed_at deep)
  sound_unnamed zs p e =
      elim (choose_some (variable_at zs) (signed_at deep zs) (λ n. one_term (slot n.0) n.1) p e) [
        | inl h ↦ sound_signed zs p (h.1)
        | inr h ↦
            let got : TermData × List Lexeme = (slot h.0.0, h.0.1) in
            let q : got ≡ p = cc (h.2) in
            subst (Front IsSimple zs) q (Variable h.0.0 ∷ [], variable_front zs (h.0) (h.1), variable (h.0.0))
      ]

  sound_level : IsSound IsSimple (λ zs. choose (atom_at zs) (unnamed_at deep zs) (λ n. named_at deep n.0 n.1))
  sound_level zs p e =
      elim (choose_some (atom_at zs) (unnamed_at deep zs) (λ n. named_at deep n.0 n.1) p e) [
        | inl h ↦ sound_unnamed zs p (h.1)
        | inr h ↦
            let a = atom_front zs (h.0) (h.1) in
            let f : Front IsSimple (a.0 ∷ h.0.1) p = sound_named (a.0) (h.0.0) (a.1) (h.0.1) p (h.2) in
            subst (λ ls. Front IsSimple ls p) (sym (a.2)) f
      ]

pub sound_simple : (n : ℕ) → IsSound IsSimple (simple_of n)
sound_simple zero zs p e = cc
sound_simple (suc n) zs p e = sound_level (simple_of n) (sound_simple n) zs p e

-- Descriptions, elements and calls that are read are of the grammar.
pub sound_description : IsSound IsDescription description_at
sound_description zs p e = sound_disjunction (simple_of (length zs)) (sound_simple (length zs)) zs p e

pub sound_element : IsSound IsPart element_at
sound_element zs p e = sound_part (simple_of (length zs)) (sound_simple (length zs)) zs p e

pub sound_whole_call : IsSound IsCallPair call_at
sound_whole_call zs p e = sound_call (simple_of (length zs)) (sound_simple (length zs)) zs p e

-- What is written of a name is read as one token, which stands for the name.
use Rattle.ale_token.specs.declared.pieces.Piece.{Piece}
use Rattle.std.proofs.Common.{◌≡◌, ◌&&◌, ℕ, suc, ◌+◌, ◌-◌, ◌<◌, Bool, true, false, not, List, [], ◌∷◌, ◌++◌, length, length-append, refl, sym, ap, ◌∙◌, subst, arith, Option, Some, None, ◌≤◌, drop, append-nil, nat_lt, codes}
use Rattle.std.specs.Prelude.{◌==◌, if◌then◌else◌}
use Rattle.std.specs.Char.{is_ascii_alphabetic}
use Rattle.std.proofs.lemmas.Bool.{and_parts, eqb-true}
use Rattle.unicode_ident.specs.Ident.{is_xid_continue}
use Rattle.ale_declared.specs.Lists.{every}
use Rattle.ale_token.specs.declared.token.Kind.{Kind}
use Rattle.ale_token.specs.declared.token.Kind.TheVariants.{Atom, Quoted, Variable, Number, Symbol, Other, End}
use Rattle.ale_token.specs.declared.pieces.Piece.TheVariants.{Word, Gap, Bad}
use Rattle.ale_token.specs.Pieces.{piece, span, starts_atom, closed, mark_at, token_at, longest, symbols, is_other, up_to, quoted, starts_variable, is_digit, ends_here, is_layout, is_in_line, begins, comment}
use Rattle.ale_token.specs.Names.{name_of, doubled, in_quotes}
use Rattle.ale_token.proofs.Quoting.{quotes_are_read, quotes_mean_the_name}
use Rattle.ale_print.specs.Naming.{is_atom, printed_name, ends_name, NamesAreReadBack, PlainIsAtom}
use Rattle.ale_print.proofs.Appended.{as_atom, as_quoted}
use Rattle.ale_print.proofs.Spelled.{stops, ends_stops, no_quote, not_starting}

false_true : false ≡ true → ⊥
false_true e = absurd cc

-- a character that starts an atom is none of those that aren't letters
no_other : (c k : ℕ) → starts_atom c ≡ true → k < 128 → is_ascii_alphabetic k ≡ false → (c == k) ≡ false
no_other c k h low plain = go (c == k) refl
  where
    go : (b : Bool) → (c == k) ≡ b → b ≡ false
    go true e = let same : c ≡ k = eqb-true c k e in absurd (false_true (sym (not_starting k low plain) ∙ ap starts_atom (sym same) ∙ h))
    go false e = refl

span_all : (test : ℕ → Bool) (cs rest : List ℕ) → every test cs ≡ true → stops test rest ≡ true → span test (cs ++ rest) ≡ length cs
span_all test [] [] h s = refl
span_all test [] (d ∷ ds) h s = go (test d) s
  where
    go : (b : Bool) → not b ≡ true → (if b then suc (span test ds) else 0) ≡ 0
    go true e = absurd (false_true e)
    go false e = refl
span_all test (c ∷ cs) rest h s =
    let both = and_parts (test c) (every test cs) h in
    ap (λ b. if b then suc (span test (cs ++ rest)) else 0) both.0 ∙ ap suc (span_all test cs rest both.1 s)

atom_read : (c : ℕ) (cs : List ℕ) → starts_atom c ≡ true → piece (c ∷ cs) ≡ Word Atom (span is_xid_continue cs)
unfolding piece
atom_read c cs h =
    rw (
      no_other c 32 h (omega arith) refl,
      no_other c 9 h (omega arith) refl,
      no_other c 10 h (omega arith) refl,
      no_other c 13 h (omega arith) refl,
      no_other c 37 h (omega arith) refl,
      no_other c 47 h (omega arith) refl,
      h,
    ) refl

plain_read : (name rest : List ℕ) → is_atom name ≡ true → ends_name rest ≡ true → piece (name ++ rest) ≡ Word Atom (length name - 1)
plain_read [] rest h e = absurd (false_true h)
plain_read (c ∷ cs) rest h e =
    let both = and_parts (starts_atom c) (every is_xid_continue cs) h in
    let size : length cs ≡ length (c ∷ cs) - 1 = omega arith in
    atom_read c (cs ++ rest) both.0 ∙ ap (Word Atom) (span_all is_xid_continue cs rest both.1 (ends_stops rest e) ∙ size)

pub names_are_read_back : NamesAreReadBack
names_are_read_back name rest e = go (is_atom name) refl
  where
    go : (b : Bool) → is_atom name ≡ b
        → (kind : Kind) × (piece (printed_name name ++ rest) ≡ Word kind (length (printed_name name) - 1)) × (name_of kind (printed_name name) ≡ name)
    go true h =
        let same = as_atom name h in
        (Atom, subst (λ (z : List ℕ). piece (z ++ rest) ≡ Word Atom (length z - 1)) (sym same) (plain_read name rest h e), same)
    go false h =
        let same = as_quoted name h in
        let long = length-append (doubled name) (39 ∷ []) in
        let size : length (doubled name) + 1 ≡ length (in_quotes name) - 1 = omega arith in (
          Quoted,
          subst (λ (z : List ℕ). piece (z ++ rest) ≡ Word Quoted (length z - 1)) (sym same) (quotes_are_read name rest (no_quote rest e) ∙ ap (Word Quoted) size),
          ap (name_of Quoted) same ∙ quotes_mean_the_name name,
        )

-- a name is written plain exactly where the whole of it reads as an atom

abbrev is_atom_word : Piece → Bool
is_atom_word (Gap n) = false
is_atom_word Bad = false
is_atom_word (Word Atom n) = true
is_atom_word (Word Quoted n) = false
is_atom_word (Word Variable n) = false
is_atom_word (Word Number n) = false
is_atom_word (Word Symbol n) = false
is_atom_word (Word Other n) = false
is_atom_word (Word End n) = false

neither : (b : Bool) (x y : Piece) → is_atom_word x ≡ false → is_atom_word y ≡ false → is_atom_word (if b then x else y) ≡ false
neither true x y h k = h
neither false x y h k = k

closed_other : (reaches : ℕ → Piece) (o : Option ℕ) → ((n : ℕ) → is_atom_word (reaches n) ≡ false) → is_atom_word (closed reaches o) ≡ false
closed_other reaches None h = refl
closed_other reaches (Some n) h = h n

no_atom_mark : (c : ℕ) (cs : List ℕ) → is_atom_word (mark_at c cs) ≡ false
no_atom_mark c cs =
    neither (nat_lt 0 (longest symbols (c ∷ cs))) (Word Symbol (longest symbols (c ∷ cs) - 1))
    (if is_other c then Word Other 0 else if c == 34 then closed (Word Other) (up_to 34 cs) else Bad) refl
    (neither (is_other c) (Word Other 0) (if c == 34 then closed (Word Other) (up_to 34 cs) else Bad) refl
    (neither (c == 34) (closed (Word Other) (up_to 34 cs)) Bad (closed_other (Word Other) (up_to 34 cs) (λ n. refl)) refl))

no_atom_token : (c : ℕ) (cs : List ℕ) → starts_atom c ≡ false → is_atom_word (token_at c cs) ≡ false
no_atom_token c cs h =
    let rest : Piece =
    if c == 39 then closed (Word Quoted) (quoted cs)
    else if starts_variable c then Word Variable (span is_xid_continue cs)
    else if is_digit c then Word Number (span is_digit cs)
    else if (c == 46) && ends_here cs then Word End 0
    else mark_at c cs in
    ap (λ b. is_atom_word (if b then Word Atom (span is_xid_continue cs) else rest)) h
    ∙ neither (c == 39) (closed (Word Quoted) (quoted cs))
    (if starts_variable c then Word Variable (span is_xid_continue cs) else if is_digit c then Word Number (span is_digit cs) else if (c == 46) && ends_here cs then Word End 0 else mark_at c cs)
    (closed_other (Word Quoted) (quoted cs) (λ n. refl))
    (neither (starts_variable c) (Word Variable (span is_xid_continue cs)) (if is_digit c then Word Number (span is_digit cs) else if (c == 46) && ends_here cs then Word End 0 else mark_at c cs) refl
    (neither (is_digit c) (Word Number (span is_digit cs)) (if (c == 46) && ends_here cs then Word End 0 else mark_at c cs) refl
    (neither ((c == 46) && ends_here cs) (Word End 0) (mark_at c cs) refl (no_atom_mark c cs))))

no_atom_piece : (c : ℕ) (cs : List ℕ) → starts_atom c ≡ false → is_atom_word (piece (c ∷ cs)) ≡ false
unfolding piece
no_atom_piece c cs h =
    neither (is_layout c) (Gap 0) (if c == 37 then Gap (span is_in_line cs) else if begins (codes "/*") (c ∷ cs) then closed (λ n. Gap (n + 1)) (comment (drop 1 cs)) else token_at c cs) refl
    (neither (c == 37) (Gap (span is_in_line cs)) (if begins (codes "/*") (c ∷ cs) then closed (λ n. Gap (n + 1)) (comment (drop 1 cs)) else token_at c cs) refl
    (neither (begins (codes "/*") (c ∷ cs)) (closed (λ n. Gap (n + 1)) (comment (drop 1 cs))) (token_at c cs)
    (closed_other (λ n. Gap (n + 1)) (comment (drop 1 cs)) (λ n. refl)) (no_atom_token c cs h)))

bad_piece : piece [] ≡ Bad
unfolding piece
bad_piece = refl

span_full : (test : ℕ → Bool) (cs : List ℕ) → span test cs ≡ length cs → every test cs ≡ true
span_full test [] e = refl
span_full test (c ∷ cs) e = go (test c) e (span_full test cs)
  where
    go : (b : Bool) → (if b then suc (span test cs) else 0) ≡ suc (length cs) → (span test cs ≡ length cs → every test cs ≡ true) → (b && every test cs) ≡ true
    go true f ih = ih (omega arith)
    go false f ih = absurd (omega arith)

reads_atom : (name : List ℕ) → piece name ≡ Word Atom (length name - 1) → is_atom name ≡ true
reads_atom [] e = absurd (false_true (sym (ap is_atom_word bad_piece) ∙ ap is_atom_word e))
reads_atom (c ∷ cs) e = go (starts_atom c) refl
  where
    go : (b : Bool) → starts_atom c ≡ b → (b && every is_xid_continue cs) ≡ true
    go true h =
        let both : Word Atom (span is_xid_continue cs) ≡ Word Atom (length (c ∷ cs) - 1) = sym (atom_read c cs h) ∙ e in
        let same : span is_xid_continue cs ≡ length (c ∷ cs) - 1 = cc in
        span_full is_xid_continue cs (omega arith)
    go false h = absurd (false_true (sym (no_atom_piece c cs h) ∙ ap is_atom_word e))

doubled_long : (name : List ℕ) → length name ≤ length (doubled name)
doubled_long [] = omega arith
doubled_long (c ∷ cs) = go (c == 39) (doubled_long cs)
  where
    go : (b : Bool) → length cs ≤ length (doubled cs) → suc (length cs) ≤ length (if b then 39 ∷ 39 ∷ doubled cs else c ∷ doubled cs)
    go true l = omega arith
    go false l = omega arith

plain_atom : (name : List ℕ) → printed_name name ≡ name → is_atom name ≡ true
plain_atom name e = go (is_atom name) refl
  where
    go : (b : Bool) → is_atom name ≡ b → b ≡ true
    go true h = refl
    go false h =
        let same : length (in_quotes name) ≡ length name = ap (λ (z : List ℕ). length z) (sym (as_quoted name h) ∙ e) in
        let long = length-append (doubled name) (39 ∷ []) in
        let more = doubled_long name in
        absurd (omega arith)

pub plain_is_atom : PlainIsAtom
plain_is_atom name = (
  λ e. subst (λ (z : List ℕ). piece z ≡ Word Atom (length name - 1)) (append-nil name) (plain_read name [] (plain_atom name e) refl),
  λ e. as_atom name (reads_atom name e),
)

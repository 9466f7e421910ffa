-- Names and tags are told apart from what follows them, and so are the lines of a text.
use Rattle.std.proofs.Common.{◌≡◌, ℕ, ◌+◌, ◌%◌, ◌<◌, ◌^◌, Bool, true, false, ◌&&◌, not, eqb, ltb, List, [], ◌∷◌, ◌++◌, length, length-append, codes, inl, inr, refl, sym, ap, ◌∙◌, subst, arith, append_assoc}
use Rattle.std.specs.List.{flat_map}
use Rattle.std.specs.Fmt.{decimal}
use Rattle.std.specs.Str.Parse.{digits_value}
use Rattle.std.proofs.lemmas.Fmt.{decimal_by_steps_wide, decimal_is_IsNumeral_wide}
use Rattle.std.proofs.lemmas.Bool.{and_parts, and_from, eq-eqb, lt-ltb}
use Rattle.std.specs.Char.{is_ascii_alphabetic}
use Rattle.unicode_ident.specs.Ident.{is_xid_start, is_xid_continue}
use Rattle.unicode_ident.proofs.IdentLemmas.{is_xid_start-ascii, is_xid_continue-ascii, is_xid_start-is_xid_continue}
use Rattle.ale_declared.specs.Lists.{Has, every}
use Rattle.ale_token.specs.declared.token.Kind.TheVariants.{Quoted}
use Rattle.ale_token.specs.declared.pieces.Piece.TheVariants.{Word}
use Rattle.ale_token.specs.Pieces.{begins, is_capital, piece, starts_atom}
use Rattle.ale_token.specs.Names.{name_of, doubled, in_quotes}
use Rattle.ale_token.proofs.Quoting.{quotes_are_read, quotes_mean_the_name}
use Rattle.ale_print.specs.Naming.{is_atom, printed_name, ends_name}
use Rattle.ale_print.specs.Texts.{tag_text, pair_text}
use Rattle.ale_print.proofs.Appended.{as_atom, as_quoted}

false_true : false ≡ true → ⊥
false_true e = absurd cc

not_true : (b : Bool) → not b ≡ true → b ≡ true → ⊥
not_true true e f = false_true e
not_true false e f = false_true f

-- lists that end where a test fails

abbrev pub stops : (ℕ → Bool) → List ℕ → Bool
stops test [] = true
stops test (c ∷ cs) = not (test c)

pub same_span : (test : ℕ → Bool) (a b x y : List ℕ) → every test a ≡ true → every test b ≡ true → stops test x ≡ true → stops test y ≡ true
    → a ++ x ≡ b ++ y → (a ≡ b) × (x ≡ y)
same_span test [] [] x y ha hb hx hy e = (refl, e)
same_span test [] (d ∷ b) x y ha hb hx hy e =
    absurd (not_true (test d) (subst (λ (z : List ℕ). stops test z ≡ true) e hx) (and_parts (test d) (every test b) hb).0)
same_span test (c ∷ a) [] x y ha hb hx hy e =
    absurd (not_true (test c) (subst (λ (z : List ℕ). stops test z ≡ true) (sym e) hy) (and_parts (test c) (every test a) ha).0)
same_span test (c ∷ a) (d ∷ b) x y ha hb hx hy e =
    let head : c ≡ d = cc in
    let tail : a ++ x ≡ b ++ y = cc in
    let rest = same_span test a b x y (and_parts (test c) (every test a) ha).1 (and_parts (test d) (every test b) hb).1 hx hy tail in
    (λ i. head i ∷ rest.0 i, rest.1)

pub same_front : (a b x y : List ℕ) → length a ≡ length b → a ++ x ≡ b ++ y → (a ≡ b) × (x ≡ y)
same_front [] [] x y l e = (refl, e)
same_front [] (d ∷ b) x y l e = absurd (omega arith)
same_front (c ∷ a) [] x y l e = absurd (omega arith)
same_front (c ∷ a) (d ∷ b) x y l e =
    let head : c ≡ d = cc in
    let tail : a ++ x ≡ b ++ y = cc in
    let rest = same_front a b x y (omega arith) tail in
    (λ i. head i ∷ rest.0 i, rest.1)

pub cancel : (a x y : List ℕ) → a ++ x ≡ a ++ y → x ≡ y
cancel a x y e = (same_front a a x y refl e).1

-- names

starts_continues : (c : ℕ) → starts_atom c ≡ true → is_xid_continue c ≡ true
starts_continues c h = is_xid_start-is_xid_continue c (and_parts (is_xid_start c) (not (is_capital c)) h).0

atom_continues : (name : List ℕ) → is_atom name ≡ true → every is_xid_continue name ≡ true
atom_continues [] h = refl
atom_continues (c ∷ cs) h =
    let both = and_parts (starts_atom c) (every is_xid_continue cs) h in
    and_from (is_xid_continue c) (every is_xid_continue cs) (starts_continues c both.0) both.1

pub ends_stops : (x : List ℕ) → ends_name x ≡ true → stops is_xid_continue x ≡ true
ends_stops [] h = refl
ends_stops (c ∷ cs) h = (and_parts (not (is_xid_continue c)) (not (eqb c 39)) h).0

pub no_quote : (x : List ℕ) → ends_name x ≡ true → begins (codes "'") x ≡ false
no_quote [] h = refl
no_quote (c ∷ cs) h = go (eqb c 39) (and_parts (not (is_xid_continue c)) (not (eqb c 39)) h).1
  where
    go : (b : Bool) → not b ≡ true → (b && true) ≡ false
    go true e = absurd (false_true e)
    go false e = refl

pub not_starting : (c : ℕ) → c < 128 → is_ascii_alphabetic c ≡ false → starts_atom c ≡ false
not_starting c low h = ap (λ b. b && not (is_capital c)) (is_xid_start-ascii c low ∙ h)

-- a plain name doesn't begin as a quoted one does
atom_quoted : (a b x y : List ℕ) → is_atom a ≡ true → a ++ x ≡ in_quotes b ++ y → ⊥
atom_quoted [] b x y h e = false_true h
atom_quoted (c ∷ cs) b x y h e =
    let head : c ≡ 39 = cc in
    false_true (sym (not_starting 39 (omega arith) refl) ∙ ap starts_atom (sym head) ∙ (and_parts (starts_atom c) (every is_xid_continue cs) h).0)

quoted_same : (a b x y : List ℕ) → ends_name x ≡ true → ends_name y ≡ true → in_quotes a ++ x ≡ in_quotes b ++ y → (a ≡ b) × (x ≡ y)
quoted_same a b x y hx hy e =
    let read_a : piece (in_quotes a ++ x) ≡ Word Quoted (length (doubled a) + 1) = quotes_are_read a x (no_quote x hx) in
    let read_b : piece (in_quotes b ++ y) ≡ Word Quoted (length (doubled b) + 1) = quotes_are_read b y (no_quote y hy) in
    let both : Word Quoted (length (doubled a) + 1) ≡ Word Quoted (length (doubled b) + 1) = sym read_a ∙ ap piece e ∙ read_b in
    let long : length (doubled a) + 1 ≡ length (doubled b) + 1 = cc in
    let la = length-append (doubled a) (39 ∷ []) in
    let lb = length-append (doubled b) (39 ∷ []) in
    let same = same_front (in_quotes a) (in_quotes b) x y (omega arith) e in
    (sym (quotes_mean_the_name a) ∙ ap (name_of Quoted) same.0 ∙ quotes_mean_the_name b, same.1)

pub same_name : (a b x y : List ℕ) → ends_name x ≡ true → ends_name y ≡ true → printed_name a ++ x ≡ printed_name b ++ y → (a ≡ b) × (x ≡ y)
same_name a b x y hx hy e = go (is_atom a) (is_atom b) refl refl
  where
    go : (p q : Bool) → is_atom a ≡ p → is_atom b ≡ q → (a ≡ b) × (x ≡ y)
    go true true pa qb =
        same_span is_xid_continue a b x y (atom_continues a pa) (atom_continues b qb) (ends_stops x hx) (ends_stops y hy)
        (ap (λ (z : List ℕ). z ++ x) (sym (as_atom a pa)) ∙ e ∙ ap (λ (z : List ℕ). z ++ y) (as_atom b qb))
    go true false pa qb =
        absurd (atom_quoted a b x y pa (ap (λ (z : List ℕ). z ++ x) (sym (as_atom a pa)) ∙ e ∙ ap (λ (z : List ℕ). z ++ y) (as_quoted b qb)))
    go false true pa qb =
        absurd (atom_quoted b a y x qb (ap (λ (z : List ℕ). z ++ y) (sym (as_atom b qb)) ∙ sym e ∙ ap (λ (z : List ℕ). z ++ x) (as_quoted a pa)))
    go false false pa qb =
        quoted_same a b x y hx hy (ap (λ (z : List ℕ). z ++ x) (sym (as_quoted a pa)) ∙ e ∙ ap (λ (z : List ℕ). z ++ y) (as_quoted b qb))

-- no name begins with such a character
pub not_name : (c : ℕ) (w x y : List ℕ) → starts_atom c ≡ false → eqb c 39 ≡ false → printed_name w ++ x ≡ c ∷ y → ⊥
not_name c w x y other_start quote e = go (is_atom w) refl
  where
    plain : (w : List ℕ) → is_atom w ≡ true → w ++ x ≡ c ∷ y → ⊥
    plain [] h f = false_true h
    plain (d ∷ ds) h f =
        let head : d ≡ c = cc in
        false_true (sym other_start ∙ ap starts_atom (sym head) ∙ (and_parts (starts_atom d) (every is_xid_continue ds) h).0)

    go : (b : Bool) → is_atom w ≡ b → ⊥
    go true h = plain w h (ap (λ (z : List ℕ). z ++ x) (sym (as_atom w h)) ∙ e)
    go false h =
        let f : in_quotes w ++ x ≡ c ∷ y = ap (λ (z : List ℕ). z ++ x) (sym (as_quoted w h)) ∙ e in
        let head : 39 ≡ c = cc in
        false_true (sym quote ∙ ap (λ k. eqb k 39) (sym head))

-- tags

digits_low : (n : ℕ) → n < 10 ^ 64 → every (λ c. ltb c 93) (decimal n) ≡ true
digits_low = decimal_by_steps_wide (λ n ds. every (λ c. ltb c 93) ds ≡ true)
    (λ n low. and_from (ltb (48 + n) 93) true (lt-ltb (48 + n) 93 (omega arith)) refl)
    (λ n ds high h. pushed ds (48 + n % 10) h (lt-ltb (48 + n % 10) 93 (omega arith)))
  where
    pushed : (ds : List ℕ) (c : ℕ) → every (λ c. ltb c 93) ds ≡ true → ltb c 93 ≡ true → every (λ c. ltb c 93) (ds ++ c ∷ []) ≡ true
    pushed [] c h k = and_from (ltb c 93) true k refl
    pushed (d ∷ ds) c h k =
        let both = and_parts (ltb d 93) (every (λ c. ltb c 93) ds) h in
        and_from (ltb d 93) (every (λ c. ltb c 93) (ds ++ c ∷ [])) both.0 (pushed ds c both.1 k)

pub same_tag : (i j : ℕ) (x y : List ℕ) → i < 10 ^ 64 → j < 10 ^ 64 → tag_text i ++ x ≡ tag_text j ++ y → (i ≡ j) × (x ≡ y)
same_tag i j x y li lj e =
    let inner : (decimal i ++ codes "]") ++ x ≡ (decimal j ++ codes "]") ++ y = cc in
    let flat : decimal i ++ 93 ∷ x ≡ decimal j ++ 93 ∷ y =
    sym (append_assoc (decimal i) (codes "]") x) ∙ inner ∙ append_assoc (decimal j) (codes "]") y in
    let both = same_span (λ c. ltb c 93) (decimal i) (decimal j) (93 ∷ x) (93 ∷ y) (digits_low i li) (digits_low j lj) refl refl flat in
    let rest : x ≡ y = let f : 93 ∷ x ≡ 93 ∷ y = both.1 in cc in
    (sym (decimal_is_IsNumeral_wide i li).1 ∙ ap (digits_value 10) both.0 ∙ (decimal_is_IsNumeral_wide j lj).1, rest)

-- the pairs of a text

abbrev pub AreSmall : List (ℕ × ℕ) → Type 0
AreSmall ps = (p : ℕ × ℕ) → Has ps p → (p.0 < 10 ^ 64) × (p.1 < 10 ^ 64)

one_pair : (p q : ℕ × ℕ) (x y : List ℕ) → p.0 < 10 ^ 64 → p.1 < 10 ^ 64 → q.0 < 10 ^ 64 → q.1 < 10 ^ 64 → pair_text p ++ x ≡ pair_text q ++ y → (p ≡ q) × (x ≡ y)
one_pair p q x y p0 p1 q0 q1 e =
    let sign : List ℕ = codes " =\\= " in
    let regroup : (r : ℕ × ℕ) (z : List ℕ) → pair_text r ++ z ≡ tag_text r.0 ++ (sign ++ (tag_text r.1 ++ (codes "\n" ++ z))) =
    λ r z.
    append_assoc (tag_text r.0) (sign ++ (tag_text r.1 ++ codes "\n")) z
    ∙ ap (λ (w : List ℕ). tag_text r.0 ++ w) (append_assoc sign (tag_text r.1 ++ codes "\n") z ∙ ap (λ (w : List ℕ). sign ++ w) (append_assoc (tag_text r.1) (codes "\n") z)) in
    let first = same_tag p.0 q.0 (sign ++ (tag_text p.1 ++ (codes "\n" ++ x))) (sign ++ (tag_text q.1 ++ (codes "\n" ++ y))) p0 q0 (sym (regroup p x) ∙ e ∙ regroup q y) in
    let behind = cancel sign (tag_text p.1 ++ (codes "\n" ++ x)) (tag_text q.1 ++ (codes "\n" ++ y)) first.1 in
    let second = same_tag p.1 q.1 (codes "\n" ++ x) (codes "\n" ++ y) p1 q1 behind in
    (λ i. (first.0 i, second.0 i), cancel (codes "\n") x y second.1)

nothing : {c : ℕ} {x : List ℕ} → [] ≡ c ∷ x → ⊥
nothing e = absurd cc

pair_nothing : (p : ℕ × ℕ) (x : List ℕ) → [] ≡ pair_text p ++ x → ⊥
pair_nothing p x e = absurd (nothing e)

pub same_pairs : (ps qs : List (ℕ × ℕ)) → AreSmall ps → AreSmall qs → flat_map pair_text ps ≡ flat_map pair_text qs → ps ≡ qs
same_pairs [] [] hp hq e = refl
same_pairs [] (q ∷ qs) hp hq e = absurd (pair_nothing q (flat_map pair_text qs) e)
same_pairs (p ∷ ps) [] hp hq e = absurd (pair_nothing p (flat_map pair_text ps) (sym e))
same_pairs (p ∷ ps) (q ∷ qs) hp hq e =
    let small = hp p (inl refl) in
    let also_small = hq q (inl refl) in
    let one = one_pair p q (flat_map pair_text ps) (flat_map pair_text qs) small.0 small.1 also_small.0 also_small.1 e in
    λ i. one.0 i ∷ same_pairs ps qs (λ r h. hp r (inr h)) (λ r h. hq r (inr h)) one.1 i

-- lists that begin with different characters

abbrev front_of : List ℕ → ℕ
front_of [] = 0
front_of (c ∷ cs) = c

other : {x y : List ℕ} → x ≡ y → eqb (front_of x) (front_of y) ≡ false → ⊥
other {x} {y} e h = false_true (sym h ∙ eq-eqb (front_of x) (front_of y) (ap front_of e))

-- what a line shows, as data

pub data Look : Type 0 where
  blank : Look
  tagged : ℕ → Look
  typed : List ℕ → Look
  both_of : ℕ → List ℕ → Look

abbrev pub look_text : Look → List ℕ
look_text blank = codes "_"
look_text (tagged k) = tag_text k
look_text (typed w) = printed_name w
look_text (both_of k w) = tag_text k ++ (codes " " ++ printed_name w)

abbrev pub IsSmall : Look → Type 0
IsSmall blank = Unit {0}
IsSmall (tagged k) = k < 10 ^ 64
IsSmall (typed w) = Unit {0}
IsSmall (both_of k w) = k < 10 ^ 64

-- where a line ends, a name does
ends_line : (r : List ℕ) → ends_name (10 ∷ r) ≡ true
ends_line r = ap (λ b. not b && not (eqb 10 39)) (is_xid_continue-ascii 10 (omega arith))

ends_space : (r : List ℕ) → ends_name (32 ∷ r) ≡ true
ends_space r = ap (λ b. not b && not (eqb 32 39)) (is_xid_continue-ascii 32 (omega arith))

low_line : starts_atom 95 ≡ false
low_line = not_starting 95 (omega arith) refl

bracket : starts_atom 91 ≡ false
bracket = not_starting 91 (omega arith) refl

equals_sign : starts_atom 61 ≡ false
equals_sign = not_starting 61 (omega arith) refl

abbrev line : Look → List ℕ → List ℕ
line a r = look_text a ++ 10 ∷ r

both_text : (k : ℕ) (w r : List ℕ) → line (both_of k w) r ≡ tag_text k ++ 32 ∷ (printed_name w ++ 10 ∷ r)
both_text k w r = append_assoc (tag_text k) (codes " " ++ printed_name w) (10 ∷ r)

pub same_look : (a b : Look) (r s : List ℕ) → IsSmall a → IsSmall b → look_text a ++ 10 ∷ r ≡ look_text b ++ 10 ∷ s → (a ≡ b) × (r ≡ s)
same_look blank blank r s ha hb e = (refl, cancel (95 ∷ 10 ∷ []) r s e)
same_look blank (tagged k) r s ha hb e = absurd (other e refl)
same_look blank (typed w) r s ha hb e = absurd (not_name 95 w (10 ∷ s) (10 ∷ r) low_line refl (sym e))
same_look blank (both_of k w) r s ha hb e = absurd (other e refl)
same_look (tagged k) blank r s ha hb e = absurd (other e refl)
same_look (tagged k) (tagged j) r s ha hb e =
    let one = same_tag k j (10 ∷ r) (10 ∷ s) ha hb e in
    (ap tagged one.0, cancel (10 ∷ []) r s one.1)
same_look (tagged k) (typed w) r s ha hb e = absurd (not_name 91 w (10 ∷ s) ((decimal k ++ codes "]") ++ 10 ∷ r) bracket refl (sym e))
same_look (tagged k) (both_of j w) r s ha hb e =
    let one = same_tag k j (10 ∷ r) (32 ∷ (printed_name w ++ 10 ∷ s)) ha hb (e ∙ both_text j w s) in
    let f : 10 ∷ r ≡ 32 ∷ (printed_name w ++ 10 ∷ s) = one.1 in
    absurd (other f refl)
same_look (typed v) blank r s ha hb e = absurd (not_name 95 v (10 ∷ r) (10 ∷ s) low_line refl e)
same_look (typed v) (tagged j) r s ha hb e = absurd (not_name 91 v (10 ∷ r) ((decimal j ++ codes "]") ++ 10 ∷ s) bracket refl e)
same_look (typed v) (typed w) r s ha hb e =
    let one = same_name v w (10 ∷ r) (10 ∷ s) (ends_line r) (ends_line s) e in
    (ap typed one.0, cancel (10 ∷ []) r s one.1)
same_look (typed v) (both_of j w) r s ha hb e =
    absurd (not_name 91 v (10 ∷ r) ((decimal j ++ codes "]") ++ 32 ∷ (printed_name w ++ 10 ∷ s)) bracket refl (e ∙ both_text j w s))
same_look (both_of k v) blank r s ha hb e = absurd (other e refl)
same_look (both_of k v) (tagged j) r s ha hb e =
    let one = same_tag k j (32 ∷ (printed_name v ++ 10 ∷ r)) (10 ∷ s) ha hb (sym (both_text k v r) ∙ e) in
    let f : 32 ∷ (printed_name v ++ 10 ∷ r) ≡ 10 ∷ s = one.1 in
    absurd (other f refl)
same_look (both_of k v) (typed w) r s ha hb e =
    absurd (not_name 91 w (10 ∷ s) ((decimal k ++ codes "]") ++ 32 ∷ (printed_name v ++ 10 ∷ r)) bracket refl (sym e ∙ both_text k v r))
same_look (both_of k v) (both_of j w) r s ha hb e =
    let one = same_tag k j (32 ∷ (printed_name v ++ 10 ∷ r)) (32 ∷ (printed_name w ++ 10 ∷ s)) ha hb (sym (both_text k v r) ∙ e ∙ both_text j w s) in
    let two = same_name v w (10 ∷ r) (10 ∷ s) (ends_line r) (ends_line s) (cancel (32 ∷ []) (printed_name v ++ 10 ∷ r) (printed_name w ++ 10 ∷ s) one.1) in
    (λ i. both_of (one.0 i) (two.0 i), cancel (10 ∷ []) r s two.1)

-- a bare line, a line after `also`, and the pairs

also_atom : is_atom (codes "also") ≡ true
also_atom =
    ap (λ b. (b && not (is_capital 97)) && every is_xid_continue (codes "lso")) (is_xid_start-ascii 97 (omega arith))
    ∙ ap (λ b. b && every is_xid_continue (codes "so")) (is_xid_continue-ascii 108 (omega arith))
    ∙ ap (λ b. b && every is_xid_continue (codes "o")) (is_xid_continue-ascii 115 (omega arith))
    ∙ ap (λ b. b && true) (is_xid_continue-ascii 111 (omega arith))

pub bare_also : (a : Look) (r y : List ℕ) → look_text a ++ 10 ∷ r ≡ codes "also " ++ y → ⊥
bare_also blank r y e = absurd (other e refl)
bare_also (tagged k) r y e = absurd (other e refl)
bare_also (both_of k w) r y e = absurd (other e refl)
bare_also (typed w) r y e =
    let f : printed_name w ++ 10 ∷ r ≡ printed_name (codes "also") ++ 32 ∷ y = e ∙ ap (λ (z : List ℕ). z ++ 32 ∷ y) (sym (as_atom (codes "also") also_atom)) in
    let one = same_name w (codes "also") (10 ∷ r) (32 ∷ y) (ends_line r) (ends_space y) f in
    let g : 10 ∷ r ≡ 32 ∷ y = one.1 in
    absurd (other g refl)

pub bare_pairs : (a : Look) (r : List ℕ) (ps : List (ℕ × ℕ)) → IsSmall a → AreSmall ps → look_text a ++ 10 ∷ r ≡ flat_map pair_text ps → ⊥
bare_pairs blank r [] ha hp e = absurd (other e refl)
bare_pairs (tagged k) r [] ha hp e = absurd (other e refl)
bare_pairs (both_of k w) r [] ha hp e = absurd (other e refl)
bare_pairs (typed w) r [] ha hp e =
    let f : printed_name w ++ (10 ∷ r) ≡ printed_name w ++ (10 ∷ r) = refl in
    let la = length-append (printed_name w) (10 ∷ r) in
    let lb : length (printed_name w ++ 10 ∷ r) ≡ 0 = ap (λ (z : List ℕ). length z) e in
    absurd (omega arith)
bare_pairs blank r (p ∷ ps) ha hp e = absurd (other e refl)
bare_pairs (tagged k) r (p ∷ ps) ha hp e =
    let small = hp p (inl refl) in
    let rest : List ℕ = (codes " =\\= " ++ (tag_text p.1 ++ codes "\n")) ++ flat_map pair_text ps in
    let one = same_tag k p.0 (10 ∷ r) rest ha small.0 (e ∙ append_assoc (tag_text p.0) (codes " =\\= " ++ (tag_text p.1 ++ codes "\n")) (flat_map pair_text ps)) in
    let f : 10 ∷ r ≡ rest = one.1 in
    absurd (other f refl)
bare_pairs (typed w) r (p ∷ ps) ha hp e =
    absurd (not_name 91 w (10 ∷ r) (((decimal p.0 ++ codes "]") ++ (codes " =\\= " ++ (tag_text p.1 ++ codes "\n"))) ++ flat_map pair_text ps) bracket refl e)
bare_pairs (both_of k w) r (p ∷ ps) ha hp e =
    let small = hp p (inl refl) in
    let more : List ℕ = codes "\\= " ++ (tag_text p.1 ++ codes "\n") in
    let one = same_tag k p.0 (32 ∷ (printed_name w ++ 10 ∷ r)) (32 ∷ 61 ∷ (more ++ flat_map pair_text ps)) ha small.0
    (sym (both_text k w r) ∙ e ∙ append_assoc (tag_text p.0) (codes " =\\= " ++ (tag_text p.1 ++ codes "\n")) (flat_map pair_text ps)) in
    absurd (not_name 61 w (10 ∷ r) (more ++ flat_map pair_text ps) equals_sign refl (cancel (32 ∷ []) (printed_name w ++ 10 ∷ r) (61 ∷ (more ++ flat_map pair_text ps)) one.1))

pub also_pairs : (y : List ℕ) (ps : List (ℕ × ℕ)) → codes "also " ++ y ≡ flat_map pair_text ps → ⊥
also_pairs y [] e = absurd (other e refl)
also_pairs y (p ∷ ps) e = absurd (other e refl)

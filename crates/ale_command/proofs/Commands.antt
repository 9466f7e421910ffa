-- The function that reads commands reads just those.
use Rattle.std.proofs.Common.{◌≡◌, ◌↔◌, ℕ, ◌≤◌, Bool, true, false, if◌then◌else◌, ltb, Option, Some, None, List, [], ◌∷◌, length, inl, inr, refl, sym, ap, ◌∙◌, subst}
use Rattle.std.proofs.lemmas.Bool.{le-ltb, ltb-false}
use Rattle.std.specs.Prelude.{codes}
use Rattle.ale_term.specs.declared.symbol.Symbol.TheVariants.{Slash}
use Rattle.ale_term.specs.declared.lexeme.Lexeme.{Lexeme}
use Rattle.ale_term.specs.declared.lexeme.Lexeme.TheVariants.{Atom, Quoted, Variable, Number, Sign, Other, End}
use Rattle.ale_term.specs.Reading.{◌>>=◌, choose, past, past_word, atom_at}
use Rattle.ale_term.proofs.Fronts.{bind_some, choose_some, past_front, word_front, atom_front}
use Rattle.ale_form.specs.Numbers.{number_at, held}
use Rattle.ale_form.specs.Whole.{ended, description_of, goal_of, path_of}
use Rattle.ale_form.proofs.Wholes.{nothing_left, description_reads, goal_reads, path_reads}
use Rattle.ale_command.specs.Commands.{CommandData, mgsat, query, lex, rec, gen, code, IsCommand, satisfiers, proofs, entries, parses, sentences, instructions, keyword}
use Rattle.ale_command.specs.Reading.{most_digits, satisfiers_of, proofs_of, entries_of, parses_of, sentences_of, arity_of, instructions_of, command_at}

nine : most_digits ≡ 9
unfolding most_digits
nine = refl

-- every command is read
arity_read : (cs : List ℕ) → length cs ≤ 9 → arity_of (Number cs ∷ []) ≡ Some (held cs)
arity_read cs h =
    let few : ltb most_digits (length cs) ≡ false = ap (λ m. ltb m (length cs)) nine ∙ le-ltb 9 (length cs) h in
    rw few refl

pub full_command : {ls : List Lexeme} {c : CommandData} → IsCommand ls c → command_at ls ≡ Some c
full_command (satisfiers xs t d) = rw ((description_reads xs t).0 d) refl
full_command (proofs xs g d) = rw ((goal_reads xs g).0 d) refl
full_command (entries l w e) = rw e refl
full_command (parses xs ws d) = rw ((path_reads xs ws).0 d) refl
full_command (sentences xs t d) = rw ((description_reads xs t).0 d) refl
full_command (instructions l p cs e h) = rw (e, arity_read cs h) refl

-- what is read is a command
number_front : (zs : List Lexeme) (p : List ℕ × List Lexeme) → number_at zs ≡ Some p → zs ≡ Number p.0 ∷ p.1
number_front [] p e = cc
number_front (Number n ∷ ls) p e =
    let got : List ℕ × List Lexeme = (n, ls) in
    let q : got ≡ p = cc in ap (λ g. Number g.0 ∷ g.1) q
number_front (Atom n ∷ ls) p e = cc
number_front (Quoted n ∷ ls) p e = cc
number_front (Variable n ∷ ls) p e = cc
number_front (Sign k ∷ ls) p e = cc
number_front (Other ∷ ls) p e = cc
number_front (End ∷ ls) p e = cc

-- digits that are all of the lexemes, and no more than nine
record Arity (zs : List Lexeme) (n : ℕ) : Type 0 where
  digits : List ℕ
  alone : zs ≡ Number digits ∷ []
  few : length digits ≤ 9
  value : held digits ≡ n

few_digits : (b : Bool) (n m : ℕ) → (if b then None else Some n) ≡ Some m → (b ≡ false) × (n ≡ m)
few_digits true n m e = cc
few_digits false n m e = (refl, cc)

arity_front : (zs : List Lexeme) (n : ℕ) → arity_of zs ≡ Some n → Arity zs n
arity_front zs n e =
    let x = bind_some (number_at zs) (λ x. ended x.1 >>= λ end. if ltb most_digits (length x.0) then None else Some (held x.0)) n e in
    let u = bind_some (ended x.0.1) (λ end. if ltb most_digits (length x.0.0) then None else Some (held x.0.0)) n (x.2) in
    let f = few_digits (ltb most_digits (length x.0.0)) (held x.0.0) n (u.2) in
    record {
      digits = x.0.0;
      alone = number_front zs (x.0) (x.1) ∙ ap (λ ls. Number x.0.0 ∷ ls) (nothing_left (x.0.1) (u.0) (u.1));
      few = ltb-false 9 (length x.0.0) (ap (λ m. ltb m (length x.0.0)) (sym nine) ∙ f.0);
      value = f.1;
    }

-- a word, and a form behind it
placed : (w : List ℕ) (ls behind xs : List Lexeme) (c : CommandData) → past_word w ls ≡ Some behind → behind ≡ xs → IsCommand (keyword w ∷ xs) c → IsCommand ls c
placed w ls behind xs c front e is =
    subst (λ zs. IsCommand zs c) (sym (word_front w ls behind front ∙ ap (λ zs. keyword w ∷ zs) e)) is

made_by : {A : Type 0} (w : List ℕ) (read : List Lexeme → Option A) (make : A → CommandData) →
    ((xs : List Lexeme) (a : A) → read xs ≡ Some a → IsCommand (keyword w ∷ xs) (make a)) →
    (ls behind : List Lexeme) (c : CommandData) → past_word w ls ≡ Some behind → (read behind >>= λ a. Some (make a)) ≡ Some c → IsCommand ls c
made_by w read make is ls behind c front e =
    let x = bind_some (read behind) (λ a. Some (make a)) c e in
    let q : make x.0 ≡ c = cc (x.2) in
    placed w ls behind behind c front refl (subst (IsCommand (keyword w ∷ behind)) q (is behind (x.0) (x.1)))

made_entries : (ls behind : List Lexeme) (c : CommandData) → past_word (codes "lex") ls ≡ Some behind → entries_of behind ≡ Some c → IsCommand ls c
made_entries ls behind c front e =
    let x = bind_some (atom_at behind) (λ w. ended w.1 >>= λ end. Some (lex w.0)) c e in
    let u = bind_some (ended x.0.1) (λ end. Some (lex x.0.0)) c (x.2) in
    let a = atom_front behind (x.0) (x.1) in
    let all : behind ≡ a.0 ∷ [] = a.2 ∙ ap (λ zs. a.0 ∷ zs) (nothing_left (x.0.1) (u.0) (u.1)) in
    let q : lex x.0.0 ≡ c = cc (u.2) in
    placed (codes "lex") ls behind (a.0 ∷ []) c front all
    (subst (IsCommand (keyword (codes "lex") ∷ a.0 ∷ [])) q (entries (a.0) (x.0.0) (a.1)))

made_instructions : (ls behind : List Lexeme) (c : CommandData) → past_word (codes "code") ls ≡ Some behind → instructions_of behind ≡ Some c → IsCommand ls c
made_instructions ls behind c front e =
    let x = bind_some (atom_at behind) (λ p. past Slash p.1 >>= λ rest. arity_of rest >>= λ n. Some (code p.0 n)) c e in
    let s = bind_some (past Slash x.0.1) (λ rest. arity_of rest >>= λ n. Some (code x.0.0 n)) c (x.2) in
    let n = bind_some (arity_of s.0) (λ n. Some (code x.0.0 n)) c (s.2) in
    let a = atom_front behind (x.0) (x.1) in
    let f = arity_front (s.0) (n.0) (n.1) in
    let slash : x.0.1 ≡ Sign Slash ∷ s.0 = past_front Slash (x.0.1) (s.0) (s.1) in
    let number : s.0 ≡ Number f.digits ∷ [] = f.alone in
    let rest : x.0.1 ≡ Sign Slash ∷ Number f.digits ∷ [] = slash ∙ ap (λ zs. Sign Slash ∷ zs) number in
    let front_is : behind ≡ a.0 ∷ x.0.1 = a.2 in
    let all : behind ≡ a.0 ∷ Sign Slash ∷ Number f.digits ∷ [] = front_is ∙ ap (λ zs. a.0 ∷ zs) rest in
    let q : code x.0.0 n.0 ≡ c = cc (n.2) in
    placed (codes "code") ls behind (a.0 ∷ Sign Slash ∷ Number f.digits ∷ []) c front all
    (subst (IsCommand (keyword (codes "code") ∷ a.0 ∷ Sign Slash ∷ Number f.digits ∷ [])) (ap (code x.0.0) f.value ∙ q)
    (instructions (a.0) (x.0.0) f.digits (a.1) f.few))

-- a word and its form, or what else is read
after_word : (w : List ℕ) (form : List Lexeme → Option CommandData) (ls : List Lexeme) (others : Option CommandData) (c : CommandData) →
    ((behind : List Lexeme) → past_word w ls ≡ Some behind → form behind ≡ Some c → IsCommand ls c) → (others ≡ Some c → IsCommand ls c) →
    choose (past_word w ls) others form ≡ Some c → IsCommand ls c
after_word w form ls others c this other e =
    elim (choose_some (past_word w ls) others form c e) [
      | inl h ↦ other (h.1)
      | inr h ↦ this (h.0) (h.1) (h.2)
    ]

pub sound_command : (ls : List Lexeme) (c : CommandData) → command_at ls ≡ Some c → IsCommand ls c
sound_command ls c =
    after_word (codes "mgsat") satisfiers_of ls _ c
    (λ behind. made_by (codes "mgsat") description_of mgsat (λ xs t e. satisfiers xs t ((description_reads xs t).1 e)) ls behind c)
    (after_word (codes "query") proofs_of ls _ c
    (λ behind. made_by (codes "query") goal_of query (λ xs g e. proofs xs g ((goal_reads xs g).1 e)) ls behind c)
    (after_word (codes "lex") entries_of ls _ c (λ behind. made_entries ls behind c)
    (after_word (codes "rec") parses_of ls _ c
    (λ behind. made_by (codes "rec") path_of rec (λ xs ws e. parses xs ws ((path_reads xs ws).1 e)) ls behind c)
    (after_word (codes "gen") sentences_of ls _ c
    (λ behind. made_by (codes "gen") description_of gen (λ xs t e. sentences xs t ((description_reads xs t).1 e)) ls behind c)
    (λ e. let x = bind_some (past_word (codes "code") ls) instructions_of c e in made_instructions ls (x.0) c (x.1) (x.2))))))

pub command_reads : (ls : List Lexeme) (c : CommandData) → IsCommand ls c ↔ command_at ls ≡ Some c
command_reads ls c = (λ d. full_command d, sound_command ls c)

-- The first answer of longer texts.
use Rattle.std.proofs.Common.{◌≡◌, ℕ, ◌<◌, ◌≤◌, ◌⊎◌, inl, inr, Option, Some, None, List, [], ◌∷◌, ◌++◌, length, append_assoc, refl, sym, ap, ◌∙◌, subst, arith}
use Rattle.ale_morph.specs.Search.{behind, or_else, and_then, first_longer, at_slot}

pub or_none : {A : Type 0} (one two : Option A) → or_else one two ≡ None → (one ≡ None) × (two ≡ None)
or_none None two e = (refl, e)
or_none (Some x) two e = absurd cc

pub or_assoc : {A : Type 0} (one two three : Option A) → or_else (or_else one two) three ≡ or_else one (or_else two three)
or_assoc None two three = refl
or_assoc (Some x) two three = refl

-- no text gives an answer
pub none_longer : {A : Type 0} (answer : List ℕ → List ℕ → Option A) (text rest : List ℕ)
    → ((more left : List ℕ) → more ++ left ≡ rest → 1 ≤ length more → answer (text ++ more) left ≡ None)
    → first_longer answer text rest ≡ None
none_longer answer text [] none = refl
none_longer answer text (c ∷ cs) none =
    let here : answer (text ++ c ∷ []) cs ≡ None = none (c ∷ []) cs refl (omega arith) in
    let there = none_longer answer (text ++ c ∷ []) cs
    (λ more left e some. subst (λ t. answer t left ≡ None) (sym (append_assoc text (c ∷ []) more)) (none (c ∷ more) left (ap (λ xs. c ∷ xs) e) (omega arith))) in
    rw here there

-- where one fails, the other does
pub longer_alike : {A : Type 0} (one two : List ℕ → List ℕ → Option A)
    → ((text left : List ℕ) → one text left ≡ None → two text left ≡ None)
    → (text rest : List ℕ) → first_longer one text rest ≡ None → first_longer two text rest ≡ None
longer_alike one two alike text [] e = refl
longer_alike one two alike text (c ∷ cs) e =
    let both = or_none (one (text ++ c ∷ []) cs) (first_longer one (text ++ c ∷ []) cs) e in
    let here = alike (text ++ c ∷ []) cs both.0 in
    let there = longer_alike one two alike (text ++ c ∷ []) cs both.1 in
    rw here there

pub then_alike : {A B : Type 0} (one two : A → Option B) → ((x : A) → one x ≡ None → two x ≡ None)
    → (o : Option A) → and_then one o ≡ None → and_then two o ≡ None
then_alike one two alike None e = refl
then_alike one two alike (Some x) e = alike x e

pub slot_alike : {A : Type 0} (free free' : List ℕ → List ℕ → Option A) (held held' : List ℕ → Option A)
    → ((text left : List ℕ) → free text left ≡ None → free' text left ≡ None)
    → ((left : List ℕ) → held left ≡ None → held' left ≡ None)
    → (text : Option (List ℕ)) (rest : List ℕ) → at_slot free held text rest ≡ None → at_slot free' held' text rest ≡ None
slot_alike free free' held held' alike same None rest e = longer_alike free free' alike [] rest e
slot_alike free free' held held' alike same (Some text) rest e = then_alike held held' same (behind text rest) e

-- the answer that is found is that of some text
pub record IsLonger (A : Type 0) (answer : List ℕ → List ℕ → Option A) (text rest : List ℕ) (found : A) : Type 0 where
  pub more : List ℕ
  pub left : List ℕ
  pub whole : more ++ left ≡ rest
  pub some : 1 ≤ length more
  pub gives : answer (text ++ more) left ≡ Some found

pub longer_sound : {A : Type 0} (answer : List ℕ → List ℕ → Option A) (text rest : List ℕ) (found : A)
    → first_longer answer text rest ≡ Some found → IsLonger A answer text rest found
longer_sound answer text [] found e = absurd cc
longer_sound {A = A} answer text (c ∷ cs) found e =
    go (longer_sound answer (text ++ c ∷ []) cs found) (answer (text ++ c ∷ []) cs) refl e
  where
    go : (first_longer answer (text ++ c ∷ []) cs ≡ Some found → IsLonger A answer (text ++ c ∷ []) cs found)
        → (o : Option A) → answer (text ++ c ∷ []) cs ≡ o → or_else o (first_longer answer (text ++ c ∷ []) cs) ≡ Some found
        → IsLonger A answer text (c ∷ cs) found
    go later None none e = let l = later e in record {
      more = c ∷ l.more;
      left = l.left;
      whole = ap (λ xs. c ∷ xs) l.whole;
      some = omega arith;
      gives = subst (λ t. answer t l.left ≡ Some found) (append_assoc text (c ∷ []) l.more) l.gives;
    }
    go later (Some x) is e = record { more = c ∷ []; left = cs; whole = refl; some = omega arith; gives = is ∙ e }

-- where a text gives an answer, the answer that is found is that of a shorter text, or the same
pub record IsFirst (A : Type 0) (answer : List ℕ → List ℕ → Option A) (text more left : List ℕ) (given : A) : Type 0 where
  pub found : A
  pub finds : first_longer answer text (more ++ left) ≡ Some found
  pub least : ((shorter others : List ℕ) × (answer (text ++ shorter) others ≡ Some found) × (length shorter < length more) × (1 ≤ length shorter)) ⊎ (found ≡ given)

pub longer_least : {A : Type 0} (answer : List ℕ → List ℕ → Option A) (text more left : List ℕ) (given : A)
    → 1 ≤ length more → answer (text ++ more) left ≡ Some given → IsFirst A answer text more left given
longer_least answer text [] left given some e = absurd (omega arith)
longer_least answer text (c ∷ []) left given some e = record { found = given; finds = rw e refl; least = inr refl }
longer_least {A = A} answer text (c ∷ d ∷ more) left given some e =
    go (answer (text ++ c ∷ []) (d ∷ more ++ left)) refl
    (longer_least answer (text ++ c ∷ []) (d ∷ more) left given (omega arith)
    (subst (λ t. answer t left ≡ Some given) (sym (append_assoc text (c ∷ []) (d ∷ more))) e))
  where
    go : (o : Option A) → answer (text ++ c ∷ []) (d ∷ more ++ left) ≡ o → IsFirst A answer (text ++ c ∷ []) (d ∷ more) left given
        → IsFirst A answer text (c ∷ d ∷ more) left given
    go (Some x) is later = record {
      found = x;
      finds = rw is refl;
      least = inl (c ∷ [], d ∷ more ++ left, is, omega arith, omega arith);
    }
    go None none later = record {
      found = later.found;
      finds = rw none later.finds;
      least = elim later.least [
        | inl s ↦ inl (c ∷ s.0, s.1, subst (λ t. answer t s.1 ≡ Some later.found) (append_assoc text (c ∷ []) s.0) s.2, omega arith, omega arith)
        | inr same ↦ inr same
      ];
    }

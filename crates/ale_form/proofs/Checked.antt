-- What the reading of a form that lexemes must have answers, from whether they are admitted and from what is read.
use Rattle.std.proofs.Common.{◌≡◌, ◌≢◌, ◌↔◌, ℕ, Bool, true, false, ltb, Option, Some, None, Result, Ok, Err, IfOk, IfErr, List, refl, sym, ap, subst}
use Rattle.std.proofs.lemmas.Bool.{ltb-true, lt-ltb, le-ltb, ltb-false}
use Rattle.ale_term.specs.declared.error.ReadError.{ReadError}
use Rattle.ale_term.specs.declared.error.ReadError.TheVariants as read
use Rattle.ale_term.specs.declared.lexeme.Lexeme.{Lexeme}
use Rattle.ale_term.specs.Results as term
use Rattle.ale_form.specs.declared.error.FormError.{FormError}
use Rattle.ale_form.specs.declared.error.FormError.TheVariants.{TooDeep, OutOfProfile, NotADeclaration, NoMemory}
use Rattle.ale_form.specs.Nesting.{nesting, nesting_limit}
use Rattle.ale_form.specs.LeftOut.{left_out}
use Rattle.ale_form.specs.Results.{Gives, Fails, Answers, too_deep, left_word, of_no_form, of_the_form, formed, after, admitted, checked, form_result}

-- where lexemes are not admitted, nothing is read
pub refused : {A : Type 0} (e : FormError) (ls : List Lexeme) (o : Option A) → Fails e (admitted ls) → Fails e (checked ls o)
refused TooDeep ls o h = rw h refl
refused (OutOfProfile w) ls o h = rw h refl
refused NotADeclaration ls o h = rw h refl
refused NoMemory ls o h = tt

formed_gives : {A B : Type 0} (view : A → B) (result : Result A ReadError) (o : Option B) → term.Gives view result o → Gives view (form_result result) (formed o)
formed_gives view (Ok a) o h = ap formed h
formed_gives view (Err read.NotTheForm) o h = ap formed h
formed_gives view (Err read.NoMemory) o h = tt

-- where they are, what is read of the form is
pub admits : {A B : Type 0} (view : A → B) (result : Result A ReadError) (ls : List Lexeme) (o : Option B) →
    admitted ls ≡ Ok tt → term.Gives view result o → Gives view (form_result result) (checked ls o)
admits view result ls o h g =
    subst (Gives view (form_result result)) (sym (ap (λ found. after found (formed o)) h)) (formed_gives view result o g)

module _ {A : Type 0} (Is : List Lexeme → A → Type 0) (ls : List Lexeme) (o : Option A) (reads : (a : A) → Is ls a ↔ o ≡ Some a) where
  given : (r : Result A FormError) → Answers Is ls r → checked ls o ≡ r
  given _ (too_deep h) = rw (lt-ltb nesting_limit (nesting ls) h) refl
  given _ (left_word w h e) = rw (le-ltb nesting_limit (nesting ls) h, e) refl
  given _ (of_no_form h e none) = rw (le-ltb nesting_limit (nesting ls) h, e) (nothing o refl)
    where
      nothing : (p : Option A) → o ≡ p → formed o ≡ Err NotADeclaration
      nothing None f = ap formed f
      nothing (Some a) f = absurd (none a ((reads a).1 f))
  given _ (of_the_form a h e is) = rw (le-ltb nesting_limit (nesting ls) h, e) (ap formed ((reads a).0 is))

  made : Answers Is ls (checked ls o)
  made = go (ltb nesting_limit (nesting ls)) refl (left_out ls) refl o refl
    where
      go : (b : Bool) → ltb nesting_limit (nesting ls) ≡ b → (w : Option (List ℕ)) → left_out ls ≡ w → (p : Option A) → o ≡ p → Answers Is ls (checked ls o)
      go true e w f p g = rw e (too_deep (ltb-true nesting_limit (nesting ls) e))
      go false e (Some w) f p g = rw (e, f) (left_word w (ltb-false nesting_limit (nesting ls) e) f)
      go false e None f None g = rw (e, f, g) (of_no_form (ltb-false nesting_limit (nesting ls) e) f (λ a is. let h : o ≡ Some a = (reads a).0 is in cc))
      go false e None f (Some a) g = rw (e, f, g) (of_the_form a (ltb-false nesting_limit (nesting ls) e) f ((reads a).1 g))

-- lexemes of a form that a function reads are answered as it checks them
pub answered : {A : Type 0} (Is : List Lexeme → A → Type 0) (ls : List Lexeme) (o : Option A) → ((a : A) → Is ls a ↔ o ≡ Some a) →
    (r : Result A FormError) → Answers Is ls r ↔ checked ls o ≡ r
answered Is ls o reads r = (given Is ls o reads r, λ e. subst (Answers Is ls) e (made Is ls o reads))

-- the clauses of a call that answers with what is read: what it found is of the form,
pub found : {A B : Type 0} (Is : List Lexeme → B → Type 0) (ls : List Lexeme) (o : Option B) → ((b : B) → Is ls b ↔ o ≡ Some b) →
    (view : A → B) (result : Result A FormError) → Gives view result (checked ls o) → IfOk result (λ a. Is ls (view a))
found Is ls o reads view (Ok a) g = is_of_form ((answered Is ls o reads (Ok (view a))).1 g)
  where
    is_of_form : Answers Is ls (Ok (view a)) → Is ls (view a)
    is_of_form (of_the_form _ h e is) = is
found Is ls o reads view (Err e) g = tt

-- it answers with nothing else than what lexemes answer,
pub only : {A B : Type 0} (Is : List Lexeme → B → Type 0) (ls : List Lexeme) (o : Option B) → ((b : B) → Is ls b ↔ o ≡ Some b) →
    (view : A → B) (result : Result A FormError) → Gives view result (checked ls o) → (r : Result B FormError) → Answers Is ls r → Gives view result r
only Is ls o reads view result g r a = subst (Gives view result) ((answered Is ls o reads r).0 a) g

-- and what it refuses is refused for its cause
pub cause : {A B : Type 0} (Is : List Lexeme → B → Type 0) (ls : List Lexeme) (o : Option B) → ((b : B) → Is ls b ↔ o ≡ Some b) →
    (view : A → B) (result : Result A FormError) → Gives view result (checked ls o) → IfErr result (λ e. e ≢ NoMemory → Answers Is ls (Err e))
cause Is ls o reads view (Ok a) g = tt
cause Is ls o reads view (Err TooDeep) g = λ h. (answered Is ls o reads (Err TooDeep)).1 g
cause Is ls o reads view (Err (OutOfProfile w)) g = λ h. (answered Is ls o reads (Err (OutOfProfile w))).1 g
cause Is ls o reads view (Err NotADeclaration) g = λ h. (answered Is ls o reads (Err NotADeclaration)).1 g
cause Is ls o reads view (Err NoMemory) g = λ h. absurd (h refl)

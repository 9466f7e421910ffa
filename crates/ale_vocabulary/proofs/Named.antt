-- Names and their places.
use Rattle.std.proofs.Common.{◌≡◌, ℕ, suc, Bool, true, false, Option, Some, None, List, [], ◌∷◌, ◌++◌, length, map, refl, sym, ap, ◌∙◌, subst, inl, inr}
use Rattle.std.specs.Prelude.{is_some, String}
use Rattle.std.specs.Option.{option_map}
use Rattle.std.proofs.lemmas.Bool.{cases_Bool}
use Rattle.ale_declared.specs.Names.{same_name, is_named, named, name_of, numbered}
use Rattle.ale_declared.proofs.NumberLemmas.{same_name_to, same_name_from}
use Rattle.ale_declared.proofs.NameLemmas.{shown}

-- a name with a place is there
pub named_is : (ns : List (List ℕ)) (x : List ℕ) → is_some (named ns x) ≡ is_named x ns
named_is [] x = refl
named_is (y ∷ ys) x = elim (cases_Bool (same_name x y)) [
  | inl e ↦ rw e refl
  | inr e ↦ rw e (moved (named ys x) ∙ named_is ys x)
]
  where
    moved : (o : Option ℕ) → is_some (option_map suc o) ≡ is_some o
    moved None = refl
    moved (Some j) = refl

-- by what a look-up answered
pub told_named : (ns : List (List ℕ)) (x y : List ℕ) (o : Option ℕ) (b : Bool) → b ≡ is_some o → o ≡ named ns x → x ≡ y → b ≡ is_named y ns
told_named ns x y o b e f g = e ∙ ap is_some f ∙ named_is ns x ∙ ap (λ z. is_named z ns) g

-- the name at the place of a name
pub name_of_named : (ns : List (List ℕ)) (x : List ℕ) (n : ℕ) → named ns x ≡ Some n → name_of ns n ≡ x
name_of_named [] x n e = absurd cc
name_of_named (y ∷ ys) x n e = elim (cases_Bool (same_name x y)) [
  | inl t ↦ let here : Some 0 ≡ Some n = rw t at e in let is : 0 ≡ n = cc in subst (λ k. name_of (y ∷ ys) k ≡ x) is (sym (same_name_to x y t))
  | inr f ↦ let there : option_map suc (named ys x) ≡ Some n = rw f at e in later (λ j q. name_of_named ys x j q) (named ys x) refl there
]
  where
    later : ((j : ℕ) → named ys x ≡ Some j → name_of ys j ≡ x) → (o : Option ℕ) → named ys x ≡ o → option_map suc o ≡ Some n → name_of (y ∷ ys) n ≡ x
    later inner None q h = absurd cc
    later inner (Some j) q h = let is : suc j ≡ n = cc in subst (λ k. name_of (y ∷ ys) k ≡ x) is (inner j q)

-- further names change no place
pub named_append : (ns ms : List (List ℕ)) (x : List ℕ) (n : ℕ) → named ns x ≡ Some n → named (ns ++ ms) x ≡ Some n
named_append [] ms x n e = absurd cc
named_append (y ∷ ys) ms x n e = elim (cases_Bool (same_name x y)) [
  | inl t ↦ rw t (rw t at e)
  | inr f ↦ let there : option_map suc (named ys x) ≡ Some n = rw f at e in rw f (later (λ j q. named_append ys ms x j q) (named ys x) refl there)
]
  where
    later : ((j : ℕ) → named ys x ≡ Some j → named (ys ++ ms) x ≡ Some j) → (o : Option ℕ) → named ys x ≡ o → option_map suc o ≡ Some n → option_map suc (named (ys ++ ms) x) ≡ Some n
    later inner None q h = absurd cc
    later inner (Some j) q h = ap (option_map suc) (inner j q) ∙ h

-- a name that is not there has the next place
pub named_last : (ns : List (List ℕ)) (x : List ℕ) → named ns x ≡ None → named (ns ++ x ∷ []) x ≡ Some (length ns)
named_last [] x e = rw (same_name_from x x refl) refl
named_last (y ∷ ys) x e = elim (cases_Bool (same_name x y)) [
  | inl t ↦ let here : ◌≡◌ {A = Option ℕ} (Some 0) None = rw t at e in absurd cc
  | inr f ↦ let there : option_map suc (named ys x) ≡ None = rw f at e in rw f (ap (option_map suc) (named_last ys x (later (named ys x) there)))
]
  where
    later : (o : Option ℕ) → option_map suc o ≡ None → o ≡ None
    later None h = refl
    later (Some j) h = absurd cc

-- adding a name that is there, and one that is not
pub numbered_there : (ns : List (List ℕ)) (x : List ℕ) (n : ℕ) → named ns x ≡ Some n → numbered ns (x ∷ []) ≡ ns
numbered_there ns x n e = let is : is_named x ns ≡ true = sym (named_is ns x) ∙ ap is_some e in rw is refl

pub numbered_new : (ns : List (List ℕ)) (x : List ℕ) → named ns x ≡ None → numbered ns (x ∷ []) ≡ ns ++ x ∷ []
numbered_new ns x e = let is : is_named x ns ≡ false = sym (named_is ns x) ∙ ap is_some e in rw is refl

pub named_numbered : (ns : List (List ℕ)) (x z : List ℕ) (n : ℕ) → named ns z ≡ Some n → named (numbered ns (x ∷ [])) z ≡ Some n
named_numbered ns x z n e = elim (cases_Bool (is_named x ns)) [
  | inl t ↦ rw t e
  | inr f ↦ rw f (named_append ns (x ∷ []) z n e)
]

length_shown : {Z : Type 0} (ks : List (String Z)) → length (map shown ks) ≡ length ks
length_shown [] = refl
length_shown (k ∷ ks) = ap suc (length_shown ks)

-- the place of a string that is added
pub place_new : {Z : Type 0} (ks : List (String Z)) (ns : List (List ℕ)) (x : List ℕ) (n : ℕ) → ns ≡ numbered (map shown ks) (x ∷ []) → named (map shown ks) x ≡ None → n ≡ length ks → named ns x ≡ Some n
place_new ks ns x n e none count =
    ap (λ (ms : List (List ℕ)). named ms x) (e ∙ numbered_new (map shown ks) x none) ∙ named_last (map shown ks) x none ∙ ap Some (length_shown ks ∙ sym count)

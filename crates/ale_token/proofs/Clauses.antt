-- What follows for a call that gives what the function reads.
use Rattle.std.proofs.Common.{◌≡◌, ℕ, List, [], Result, Ok, Err, IfOk, IfErr, refl, sym, subst, arith}
use Rattle.std.specs.List.{All}
use Rattle.std.specs.Str.{chars, IsUtf8}
use Rattle.std.proofs.lemmas.Str.{encodes-chars, scalars-chars}
use Rattle.ale_token.specs.declared.token.TokenError.{TokenError}
use Rattle.ale_token.specs.declared.token.Token.{Token}
use Rattle.ale_token.specs.declared.token.TokenError.TheVariants.{BadToken, NoEnd, NoMemory}
use Rattle.ale_token.specs.Answers.{Gives}
use Rattle.ale_token.specs.Tokens.{Reads, BadAt, tokens_of, IsRefusal, ReadInOneWay, BadAtOnePlace, NotBoth}
use Rattle.ale_token.specs.Places.{Stands, InOrder}
use Rattle.ale_token.proofs.Reading.{Reads-tokens_from, BadAt-tokens_from, tokens_from-Reads, tokens_from-BadAt}
use Rattle.ale_token.proofs.Standing.{Reads-Stands, Reads-InOrder}

pub Gives-found : {V : Type 0} (view : V → List Token) (r : Result V TokenError) (cs : List ℕ)
    → Gives view r (tokens_of cs) → IfOk r (λ v. Reads 0 cs (view v))
Gives-found view (Ok v) cs g = tokens_from-Reads 0 cs (view v) g
Gives-found view (Err e) cs g = tt

pub Gives-cause : {V : Type 0} (view : V → List Token) (r : Result V TokenError) (cs : List ℕ)
    → Gives view r (tokens_of cs) → IfErr r (IsRefusal cs)
Gives-cause view (Ok v) cs g = tt
Gives-cause view (Err NoMemory) cs g = tt
Gives-cause view (Err (BadToken p)) cs g =
    let b = tokens_from-BadAt 0 cs (BadToken p) g in
    let same : b.0 ≡ p = cc in subst (BadAt 0 cs) same b.2
Gives-cause view (Err (NoEnd p)) cs g = let b = tokens_from-BadAt 0 cs (NoEnd p) g in cc

pub Gives-in_order : {V : Type 0} (view : V → List Token) (r : Result V TokenError) (cs : List ℕ)
    → Gives view r (tokens_of cs) → IfOk r (λ v. InOrder 0 (view v))
Gives-in_order view (Ok v) cs g = Reads-InOrder (tokens_from-Reads 0 cs (view v) g) 0 (omega arith)
Gives-in_order view (Err e) cs g = tt

pub Gives-stand : {V : Type 0} (view : V → List Token) (r : Result V TokenError) (text : List ℕ) → IsUtf8 text
    → Gives view r (tokens_of (chars text)) → IfOk r (λ v. All (Stands text) (view v))
Gives-stand view (Ok v) text known g =
    Reads-Stands (tokens_from-Reads 0 (chars text) (view v) g) text [] refl (sym (encodes-chars text known)) (scalars-chars text known)
Gives-stand view (Err e) text known g = tt

pub read_in_one_way : ReadInOneWay
read_in_one_way cs ts us r s = let f = Reads-tokens_from r in let g = Reads-tokens_from s in cc

pub bad_at_one_place : BadAtOnePlace
bad_at_one_place cs p q b d = let f = BadAt-tokens_from b in let g = BadAt-tokens_from d in cc

pub not_both : NotBoth
not_both cs ts p r b = let f = Reads-tokens_from r in let g = BadAt-tokens_from b in cc

pub tokens_of-BadAt : (cs : List ℕ) (p : ℕ) → tokens_of cs ≡ Err (BadToken p) → BadAt 0 cs p
tokens_of-BadAt cs p e =
    let b = tokens_from-BadAt 0 cs (BadToken p) e in
    let same : b.0 ≡ p = cc in subst (BadAt 0 cs) same b.2

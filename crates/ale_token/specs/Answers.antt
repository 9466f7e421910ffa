-- What a call that may run out of memory has answered.
use Rattle.std.specs.Prelude.{◌≡◌, List, Result, Ok, Err}
use Rattle.ale_token.specs.declared.token.TokenError.{TokenError}
use Rattle.ale_token.specs.declared.token.TokenError.TheVariants.{BadToken, NoEnd, NoMemory}

-- the call answered this list or this error, or memory ran out
abbrev pub Gives : {V A : Type 0} → (V → List A) → Result V TokenError → Result (List A) TokenError → Type 0
Gives view (Ok value) answer = answer ≡ Ok (view value)
Gives view (Err NoMemory) answer = Unit {0}
Gives view (Err (BadToken place)) answer = answer ≡ Err (BadToken place)
Gives view (Err (NoEnd place)) answer = answer ≡ Err (NoEnd place)

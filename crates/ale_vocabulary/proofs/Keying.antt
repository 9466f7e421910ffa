-- Keys tell names and numbers of arguments apart.
use Rattle.std.proofs.Common.{◌≡◌, ℕ, List, ◌∷◌}
use Rattle.ale_vocabulary.specs.Laws.{KeysTellApart}

pub keys_apart : KeysTellApart
keys_apart x y a b e =
    let name : x ≡ y = cc in
    let arity : a ≡ b = cc in
    (name, arity)

-- Declarations that are sorted one after the other: what was kept, before what those that are left give.
use Rattle.std.proofs.Common.{◌≡◌, ℕ, suc, ◌+◌, ◌<◌, List, ◌∷◌, ◌++◌, map, drop, get_or, length, sym, ap, ◌∙◌, append_assoc, add-one}
use Rattle.ale_declared.specs.declared.decl.SigDecl.{SigDecl}
use Rattle.ale_hierarchy.proofs.LoopLemmas.{drop_item}
use Rattle.ale_declaration.specs.declared.declaration.Declaration.{Declaration}
use Rattle.ale_declaration.specs.Declarations.{declaration_data}
use Rattle.ale_load.specs.Grammars.{PassedOver, built_of, types_in, types_of, passed_in, passed_from}

pub types_step : (ds : List Declaration) (i : ℕ) (x : Declaration) (old new : List SigDecl) → i < length ds → x ≡ get_or ds i x → new ≡ old ++ types_in (built_of (declaration_data x)) →
    new ++ types_of (map declaration_data (drop (i + 1) ds)) ≡ old ++ types_of (map declaration_data (drop i ds))
types_step ds i x old new low at is =
    ap (λ z. z ++ types_of (map declaration_data (drop (i + 1) ds))) is
    ∙ append_assoc old (types_in (built_of (declaration_data x))) (types_of (map declaration_data (drop (i + 1) ds)))
    ∙ ap (λ z. old ++ types_of (map declaration_data z)) (sym (drop_item ds i x low at))

pub passed_step : (ds : List Declaration) (i : ℕ) (x : Declaration) (old new : List PassedOver) → i < length ds → x ≡ get_or ds i x → new ≡ old ++ passed_in (i + 1) (built_of (declaration_data x)) →
    new ++ passed_from (suc (i + 1)) (map declaration_data (drop (i + 1) ds)) ≡ old ++ passed_from (suc i) (map declaration_data (drop i ds))
passed_step ds i x old new low at is =
    let cut : drop i ds ≡ x ∷ drop (i + 1) ds = drop_item ds i x low at in
    rw (is, cut, add-one i)
    (append_assoc old (passed_in (suc i) (built_of (declaration_data x))) (passed_from (suc (suc i)) (map declaration_data (drop (suc i) ds))))

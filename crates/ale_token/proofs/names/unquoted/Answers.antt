-- At the quote that closes, and at the end, nothing more belongs to the name.
use Rattle.std.proofs.Common.{◌≡◌, false, [], drop, codes, ap, sym, ◌∙◌}
use Rattle.std.proofs.lemmas.List.{take_rest}
use Rattle.ale_token.specs.Pieces.{begins}
use Rattle.ale_token.specs.Names.{unquoted}
use Rattle.ale_token.proofs.Quoting.{gathered, unquoted-none, unquoted-closed}
use Rattle.ale_token.proofs.names.unquoted.Goals as goal

pub returns-else-is_doubled : goal.returns-else-is_doubled
returns-else-is_doubled c =
    let next : begins (codes "'") (drop 1 c.loop-rest.rest.now) ≡ false =
    sym (ap (begins (codes "'")) (take_rest c.loop-rest.rest.now 1)) ∙ sym c.is_doubled.ensures.value ∙ c.if-is_doubled.false in
    let closed : unquoted c.loop-rest.rest.now ≡ [] =
    unquoted-closed c.c-item.result c.loop-rest.rest.now c.in-len1-up.len_at_least (sym c.c-item.is ∙ c.if-c-ne39.false) next in
    gathered c.loop-rest.name c.args.inside.now c.loop-rest.rest.now c.loop-rest.invariant closed

pub returns : goal.returns
returns c =
    gathered c.loop-rest.name c.args.inside.now c.loop-rest.rest.now c.loop-rest.invariant
    (unquoted-none c.loop-rest.rest.now c.in_default.len_below)

use Rattle.std.proofs.Common.{◌≡◌, ℕ, length, sym, subst}
use Rattle.ale_hierarchy.specs.Order.{hierarchy}
use Rattle.ale_term.specs.Terms.{term_data}
use Rattle.ale_logic.specs.Descriptions.{Description, description, FitsDescription}
use Rattle.ale_describe.specs.Scopes.{ScopeData}
use Rattle.ale_describe.proofs.Knowing.{known_term}
use Rattle.test_logic.proofs.meanings.known.Goals as goal

-- src/meanings.rt:41:1
pub returns : goal.returns
returns c =
    let t = term_data c.args.term.now in
    let is = known_term c.args.sig.now c.args.names.now.vocabulary t c.requires.known in
    let whole = (c.describe_law.ensures.descriptions c.args.sig.now c.args.names.now c.new-scope.result t c.requires.names is).fits in
    subst (λ n. FitsDescription (hierarchy c.args.sig.now) n (description c.in_ok-desc.desc)) (sym c.count-slots.ensures)
    (subst (λ (p : Description × ScopeData). FitsDescription (hierarchy c.args.sig.now) (length p.1.slots) p.0) (sym c.in_ok-desc.ensures) whole)

use Rattle.std.proofs.Common.{ap, sym, subst}
use Rattle.ale_term.specs.Terms.{term_data}
use Rattle.ale_macro.specs.Calls.{CallsKnown}
use Rattle.ale_describe.specs.Known.{IsKnownTerm}
use Rattle.ale_describe.specs.Names.{NamesData}
use Rattle.ale_describe.proofs.Knowing.{calls_known}
use Rattle.ale_describe.proofs.names.Names.described.Goals as goal

pub expand-requires : goal.expand-requires
expand-requires c =
    let d = c.args.sig.now in
    let t = term_data c.args.term.now in
    let known = subst (λ (n : NamesData). IsKnownTerm d n.vocabulary t) (sym c.self.view_is) c.requires.known in
    record {
      known = subst (CallsKnown c.self.inside.library.macros) (sym (ap (λ p. p.0) c.in_ok-template.ensures))
          (calls_known d c.self.inside.vocabulary c.self.inside.library.macros c.scope.inside.written t c.self.invariant known);
    }

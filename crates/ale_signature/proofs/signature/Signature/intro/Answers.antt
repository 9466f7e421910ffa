use Rattle.std.proofs.Common.{◌≡◌, ◌∙◌, sym, subst, ℕ, length, arith}
use Rattle.ale_hierarchy.specs.Order.{Introduces, intro}
use Rattle.ale_signature.proofs.LawLemmas.{Introduces-intro}
use Rattle.ale_signature.proofs.SignatureLemmas.{table_length, table_at}
use Rattle.ale_signature.proofs.signature.Signature.intro.Goals as goal

pub bounds-as_slice-index : goal.bounds-as_slice-index
bounds-as_slice-index c =
    let tabled = rw c.self.view_is at c.self.invariant in
    let long : length c.as_slice.result.now ≡ length c.args.self.now.features = table_length c.as_slice.result.now c.self.inside.intros (intro c.args.self.now) (length c.args.self.now.features) c.as_slice.ensures tabled.intros_are in
    omega arith

pub returns-clause-value : goal.returns-clause-value
returns-clause-value c =
    let tabled = rw c.self.view_is at c.self.invariant in
    c.index-as_slice-index.is ∙ table_at c.as_slice.result.now c.self.inside.intros (intro c.args.self.now) (length c.args.self.now.features) c.args.f c.index.result c.index-as_slice-index.result c.as_slice.ensures tabled.intros_are c.index.ensures c.requires

pub returns-clause-most_general : goal.returns-clause-most_general
returns-clause-most_general c =
    let tabled = rw c.self.view_is at c.self.invariant in
    subst (λ (t : ℕ). Introduces c.args.self.now c.args.f t) (sym (returns-clause-value c)) (Introduces-intro c.args.self.now c.args.f tabled.numbered tabled.accepted c.requires)

use Rattle.std.proofs.Common.{◌≡◌, ◌∙◌, length, arith}
use Rattle.ale_hierarchy.specs.Order.{features}
use Rattle.ale_signature.proofs.SignatureLemmas.{table_length, table_at}
use Rattle.ale_signature.proofs.signature.Signature.features.Goals as goal

pub bounds-as_slice-index : goal.bounds-as_slice-index
bounds-as_slice-index c =
    let tabled = rw c.self.view_is at c.self.invariant in
    let long : length c.as_slice.result.now ≡ length c.args.self.now.types = table_length c.as_slice.result.now c.self.inside.lists (features c.args.self.now) (length c.args.self.now.types) c.as_slice.ensures tabled.lists_are in
    omega arith

pub returns : goal.returns
returns c =
    let tabled = rw c.self.view_is at c.self.invariant in
    c.as_slice-2.ensures ∙ c.index-as_slice-index.is ∙ table_at c.as_slice.result.now c.self.inside.lists (features c.args.self.now) (length c.args.self.now.types) c.args.t c.index.result c.index-as_slice-index.result c.as_slice.ensures tabled.lists_are c.index.ensures c.requires

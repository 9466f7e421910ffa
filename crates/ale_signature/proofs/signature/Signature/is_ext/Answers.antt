use Rattle.std.proofs.Common.{◌≡◌, false, length, get_or, arith}
use Rattle.ale_hierarchy.specs.Order.{is_ext}
use Rattle.ale_signature.proofs.SignatureLemmas.{table_length, table_at, ext_found}
use Rattle.ale_signature.proofs.signature.Signature.is_ext.Goals as goal

pub bounds-as_slice-index : goal.bounds-as_slice-index
bounds-as_slice-index c =
    let tabled = rw c.self.view_is at c.self.invariant in
    let long : length c.as_slice.result.now ≡ length c.args.self.now.types = table_length c.as_slice.result.now c.self.inside.ext (is_ext c.args.self.now) (length c.args.self.now.types) c.as_slice.ensures tabled.ext_are in
    omega arith

pub returns-clause-value : goal.returns-clause-value
returns-clause-value c =
    let tabled = rw c.self.view_is at c.self.invariant in
    table_at c.as_slice.result.now c.self.inside.ext (is_ext c.args.self.now) (length c.args.self.now.types) c.args.t c.index.result false c.as_slice.ensures tabled.ext_are c.index.ensures c.requires

pub returns-clause-declared : goal.returns-clause-declared
returns-clause-declared c =
    ext_found c.args.self.now c.args.t (get_or c.as_slice.result.now c.index.result false) (returns-clause-value c)

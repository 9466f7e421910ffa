use Rattle.std.proofs.Common.{◌≡◌, ◌++◌, ◌∷◌, [], ◌<◌, ◌≤◌, List, length, map, subst}
use Rattle.std.specs.Prelude.{OnOk, slice_set}
use Rattle.ale_vocabulary.specs.Keys.{key}
use Rattle.ale_program.specs.declared.clause.Pred.{Pred}
use Rattle.ale_program.specs.Views.{clause_data}
use Rattle.ale_grammar.specs.Building.{Bucket, bucket, put_where}
use Rattle.ale_grammar.proofs.Putting.{on_ok, beyond, within}
use Rattle.ale_grammar.proofs.pred.put_clause.Goals as goal

pub returns-then-place-count : goal.returns-then-place-count
returns-then-place-count c =
    subst (λ (z : List Bucket). OnOk c.push_pred-then-place-count.result (map bucket c.push_pred-then-place-count.new.preds.items ≡ z))
    (beyond c.args.preds.now.items c.args.place c.in-Some.place (key c.args.name.now c.args.arity) (clause_data c.args.clause) c.in-Some.is (subst (λ (z : List Pred). length z ≤ c.in-Some.place) c.as_slice-count.ensures.value c.if-place-count.true)) c.push_pred-then-place-count.ensures

pub returns : goal.returns
returns c =
    let ps = c.args.preds.now.items in
    let q = c.index_mut.result.now in
    let k = key c.args.name.now c.args.arity in
    on_ok c.add_clause.result (c.add_clause.new.pred ≡ record q { clauses = q.clauses ++ c.args.clause ∷ [] })
    (map bucket (slice_set ps c.in-Some.place c.add_clause.new.pred) ≡ put_where (map bucket ps) c.args.place k (clause_data c.args.clause))
    (λ e. within ps c.args.place c.in-Some.place q c.add_clause.new.pred k c.args.clause c.in-Some.is (subst (λ (z : List Pred). c.in-Some.place < length z) c.as_slice-count.ensures.value c.if-place-count.false) c.index_mut.ensures.value e) c.add_clause.ensures

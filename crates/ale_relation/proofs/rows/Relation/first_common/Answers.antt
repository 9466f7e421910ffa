use Rattle.std.proofs.Common.{◌∙◌, sym}
use Rattle.ale_relation.specs.Rows.{both_hold}
use Rattle.ale_relation.proofs.Bits.{place_next, nothing_found, apart_rows}
use Rattle.ale_relation.proofs.rows.Relation.first_common.Goals.{then-word-ne0+else-is_some, else-word-ne0}
use Rattle.ale_relation.proofs.rows.Relation.first_common.Goals as goal

pub loop-place-preserved : goal.loop-place-preserved
loop-place-preserved c =
    let rows = c.args.self.now in
    place_next (both_hold rows c.args.a c.args.b) rows.size c.loop-place.place c.loop-place.invariant
    (elim c.if-word-ne0.branch [
      | then-word-ne0+else-is_some w ↦
          nothing_found w.first_common_in-found.result (sym w.is_some.ensures ∙ w.if-is_some.false) w.first_common_in-found.ensures.none
      | else-word-ne0 w ↦ λ k inside e.
          apart_rows rows c.args.a c.args.b c.word.result c.word-in-loop-place.result k (c.word.ensures k e) (c.word-in-loop-place.ensures k e) w.if-word-ne0.false
    ])

use Rattle.ale_relation.specs.Rows.{both_but}
use Rattle.ale_relation.proofs.Bits.{place_next, covered_rows}
use Rattle.ale_relation.proofs.rows.Relation.has_common_outside.Goals.{else-common-word-via-then-common-word+else-has_outside_in, else-common-word-via-else-common-word}
use Rattle.ale_relation.proofs.rows.Relation.has_common_outside.Goals as goal

pub loop-place-preserved : goal.loop-place-preserved
loop-place-preserved c =
    let rows = c.args.self.now in
    place_next (both_but rows c.args.a c.args.b c.args.c) rows.size c.loop-place.place c.loop-place.invariant
    (elim c.else-common-word.branch [
      | else-common-word-via-then-common-word+else-has_outside_in w ↦ w.has_outside_in.ensures.none w.if-has_outside_in.false
      | else-common-word-via-else-common-word w ↦ λ k inside e.
          covered_rows rows c.args.a c.args.b c.args.c c.word.result c.word-in-loop-place.result c.word-in-loop-place-2.result k (c.word.ensures k e) (c.word-in-loop-place.ensures k e) (c.word-in-loop-place-2.ensures k e) w.if-common-word.false
    ])

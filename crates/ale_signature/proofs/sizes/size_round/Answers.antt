use Rattle.std.proofs.Common.{◌≡◌, ◌∙◌, ◌<◌, sym, ap, List, ℕ, length, get_or, arith, length-set}
use Rattle.std.proofs.lemmas.Bool.{true≢false}
use Rattle.ale_hierarchy.specs.Order.{features}
use Rattle.ale_hierarchy.proofs.TabulatedLemmas.{length-tabulated, get_or-tabulated}
use Rattle.ale_signature.proofs.SizeTableLemmas.{TellsSizes-set, KnowsTo-set, size_found, known_next}
use Rattle.ale_signature.proofs.sizes.size_round.Goals as goal
use Rattle.ale_signature.proofs.sizes.size_round.Goals.{then-note, else-note}

pub bounds-lists-t : goal.bounds-lists-t
bounds-lists-t c =
    let long : length c.args.lists.now ≡ length c.args.order.now.types = ap length c.requires.lists ∙ length-tabulated (features c.args.order.now) (length c.args.order.now.types) in
    omega arith

pub size_of-size-requires-clause-listed : goal.size_of-size-requires-clause-listed
size_of-size-requires-clause-listed c =
    let inside : c.loop-t.t < length c.args.order.now.types = omega arith in
    c.as_slice.ensures ∙ c.index-lists-t.is ∙ ap (λ (xs : List (List ℕ)). get_or xs c.loop-t.t c.index-lists-t.result) c.requires.lists ∙ get_or-tabulated (features c.args.order.now) (length c.args.order.now.types) c.loop-t.t c.index-lists-t.result inside

pub loop-t-preserved : goal.loop-t-preserved
loop-t-preserved c =
    let d = c.args.order.now in
    let sizes = c.loop-t.sizes.items in
    let t = c.loop-t.t in
    let s = c.size_of-size.result in
    let below : c.loop-t.t < length c.args.order.now.types = omega arith in
    let inside : c.loop-t.t < length c.loop-t.sizes.items = omega arith in
    let unknown = rw c.as_slice-in-loop-t.ensures.value at c.size_of-size.ensures.unknown in
    let written = c.note.ensures.written in
    record {
      same = elim c.if-note.branch [
        | then-note w ↦ λ h. absurd (true≢false (sym w.changed-is ∙ h))
        | else-note w ↦ λ h. c.note.ensures.same w.if-note.false ∙ c.loop-t.invariant.same (sym w.changed-is ∙ h)
      ];
      len = ap length written ∙ length-set sizes t s ∙ c.loop-t.invariant.len;
      tells = rw written (TellsSizes-set d sizes t s inside c.loop-t.invariant.tells c.size_of-size.ensures.known);
      more = λ k knows. rw written (KnowsTo-set d sizes k t s inside (c.loop-t.invariant.more k knows) (λ less small.
          size_found d sizes k t s c.type_count-t-end.ensures.ordered below (c.loop-t.invariant.more k knows) unknown (omega arith) small));
      here = λ k u knows. rw written (known_next d sizes k t s inside (λ v. c.loop-t.invariant.here k v knows) (λ less small.
          size_found d sizes k t s c.type_count-t-end.ensures.ordered below (c.loop-t.invariant.more k knows) unknown less small) u);
    }

pub returns-clause-more : goal.returns-clause-more
returns-clause-more c = λ k knows t below less small. c.loop-t.invariant.here k t knows (omega arith) less small

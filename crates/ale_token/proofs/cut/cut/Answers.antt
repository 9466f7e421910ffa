-- A token steps the function that cuts.
use Rattle.std.proofs.Common.{◌≡◌, ℕ, ◌+◌, ◌-◌, true, false, [], ◌∷◌, get_or, take, drop, sym, ◌∙◌, arith}
use Rattle.ale_token.specs.declared.token.Kind.TheVariants.{Atom}
use Rattle.ale_token.specs.declared.token.Token.{Token}
use Rattle.ale_token.specs.Declarations.{is_end, cut_on}
use Rattle.ale_token.proofs.Cutting.{cut_on-step, cut_on-close}
use Rattle.ale_token.proofs.Reading.{with_front-append}
use Rattle.ale_token.proofs.cut.cut.Goals as goal
use Rattle.ale_token.proofs.cut.cut.Goals.{then-is_end+in_ok-push, else-is_end}

pub loop-at-preserved : goal.loop-at-preserved
loop-at-preserved c =
    let any : Token = record { kind = Atom; from = 0; to = 0 } in
    let from = c.loop-at.from in
    let at = c.loop-at.at in
    let list = c.args.list.now in
    elim c.if-is_end.branch [
      | then-is_end+in_ok-push w ↦
          let e : is_end (get_or list at any).kind ≡ true = sym c.is_end.ensures ∙ w.if-is_end.true in
          let close = cut_on-close list from at any c.loop-at.invariant.ordered c.loop-at-test.true e in
          let front = with_front-append {A = ℕ × ℕ} c.loop-at.ranges.items ((from, at) ∷ [])
          (cut_on (at + 1) (take (at + 1 - (at + 1)) (drop (at + 1) list)) (drop (at + 1) list)) in
          record { value = cc w.in_ok-push.ensures.items; ordered = omega arith }
      | else-is_end w ↦
          let e : is_end (get_or list at any).kind ≡ false = sym c.is_end.ensures ∙ w.if-is_end.false in
          let step = cut_on-step list from at any c.loop-at.invariant.ordered c.loop-at-test.true e in
          record { value = cc; ordered = omega arith }
    ]

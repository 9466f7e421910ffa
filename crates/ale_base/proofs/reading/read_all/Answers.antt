use Rattle.std.proofs.Common.{ℕ, true, false, ◌≡◌, ◌≤◌, ◌++◌, ◌∙◌, List, Some, IfSome, length, take, sym, subst, arith, length-take}
use Rattle.std.specs.Io.KnownBytes.{Consumes}
use Rattle.ale_base.proofs.Faults.{stays}
use Rattle.ale_base.proofs.Streams.{consumes-too_long, consumes-more, consumes-within}
use Rattle.ale_base.proofs.reading.read_all.Goals as goal

pub returns-then-len-count-clause-too_long : goal.returns-then-len-count-clause-too_long
returns-then-len-count-clause-too_long g c =
    let within : c.in_ok-count.count ≤ length c.read.new.buf = c.in_ok-count.ensures.bound.0 in
    let counted : c.in_ok-count.count ≡ length (take c.in_ok-count.count c.read.new.buf) = c.in_ok-count.ensures.bound.1 in
    let asked : length (take c.min-asked.result c.deref_mut.result.now) ≤ c.min-asked.result = rw length-take (omega arith) in
    let room : c.chunks.bytes.len ≤ c.args.limit = c.chunks.invariant.0 in
    consumes-too_long _ _ _ _ _ _ _ c.chunks.invariant.2 c.in_ok-count.ensures.bytes.0
    (omega (arith, within, counted, asked, room, c.chunks.bytes.ok, c.read.auto.buf, c.len.ensures, c.len-in-chunks-2.ensures))

pub chunks-preserved : goal.chunks-preserved
chunks-preserved g c =
    let grown : c.extend_from_slice.new.self.items ≡ c.chunks.bytes.items ++ take c.in_ok-count.count c.read.new.buf = c.in_ok-extend_from_slice.ensures.items in
    let counted : c.in_ok-count.count ≡ length (take c.in_ok-count.count c.read.new.buf) = c.in_ok-count.ensures.bound.1 in
    let told : List ℕ → Type 0 = λ bytes. IfSome (g.F.Files.content c.args.files.now c.args.name.now) (λ all. Consumes (Some all) (g.F.Files.left c.read.new.self) bytes) in (
      omega (arith, c.in_ok-extend_from_slice.ensures.len, counted, c.len-in-chunks-2.ensures),
      c.chunks.invariant.1,
      subst told (sym grown) (consumes-more _ _ _ _ _ c.chunks.invariant.2 c.in_ok-count.ensures.bytes.0),
      c.in_ok-count.ensures.content ∙ c.chunks.invariant.3,
      (λ (other : List ℕ). (λ h. (c.chunks.invariant.4 other).0 ((c.in_ok-count.ensures.names other).0 h), λ h. (c.in_ok-count.ensures.names other).1 ((c.chunks.invariant.4 other).1 h))),
      stays _ _ _ c.in_ok-count.ensures.faults (λ (h : false ≡ true). cc) ∙ c.chunks.invariant.5,
    )

pub returns-in_err-extend_from_slice-clause-within : goal.returns-in_err-extend_from_slice-clause-within
returns-in_err-extend_from_slice-clause-within g c =
    let counted : c.in_ok-count.count ≡ length (take c.in_ok-count.count c.read.new.buf) = c.in_ok-count.ensures.bound.1 in
    consumes-within _ _ _ _ _ _ _ _ c.chunks.invariant.2 c.in_ok-count.ensures.bytes.0
    (omega (arith, counted, c.chunks.bytes.ok, c.len-in-chunks-2.ensures))

use Rattle.std.proofs.Common.{arith}
use Rattle.ale_signature.proofs.sizes.part_size.Goals as goal

pub known_size-requires : goal.known_size-requires
known_size-requires c = omega (arith, c.in-Some.ensures.inside)

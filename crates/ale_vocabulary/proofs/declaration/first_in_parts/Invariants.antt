use Rattle.std.proofs.Common.{◌≡◌, drop, map}
use Rattle.ale_declaration.specs.Declarations.{element_data}
use Rattle.ale_vocabulary.specs.First.{first_of}
use Rattle.ale_vocabulary.specs.Knowing.{unknown_in}
use Rattle.ale_vocabulary.specs.Mentions.{mentions_of_elements}
use Rattle.ale_vocabulary.proofs.declaration.first_in_parts.Given as goal

abbrev pub invariant-loop-part : goal.invariant-loop-part
invariant-loop-part l = first_of (unknown_in l.sig l.vocabulary) (mentions_of_elements (map element_data (drop l.part-index l.parts))) ≡ first_of (unknown_in l.sig l.vocabulary) (mentions_of_elements (map element_data l.parts))

use Rattle.std.proofs.Common.{◌≡◌, take, option_map}
use Rattle.ale_morph.specs.Search.{text_in}
use Rattle.ale_morph.specs.Stack.{fillings, top_first}
use Rattle.ale_morph.proofs.stack.text_of.Given as goal

abbrev pub invariant-loop-open_slot : goal.invariant-loop-open_slot
invariant-loop-open_slot l =
    option_map (λ t. t.now) l.text ≡ text_in (fillings (top_first (take l.open_slot-index l.stack))) l.slot

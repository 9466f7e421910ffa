-- The law of libraries.
use Rattle.ale_macro.specs.Laws.{LibraryLaw}
use Rattle.ale_macro.proofs.Numbers.{descriptions_fit, met_grow, same_parts}
use Rattle.ale_macro.proofs.Plain.{descriptions_plain}
use Rattle.ale_macro.proofs.Unfolding.{unfolds}

pub library_law : LibraryLaw
library_law = record { unfolds = unfolds; fits = descriptions_fit; plain = descriptions_plain; parts = same_parts; grows = met_grow }

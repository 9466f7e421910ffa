use Rattle.std.proofs.Common.{ap, subst, ◌∙◌}
use Rattle.ale_term.specs.Results.{Gives}
use Rattle.ale_term.specs.Terms.{term_data}
use Rattle.ale_term.specs.Grammar.{IsDescription}
use Rattle.ale_term.specs.Follows.{Front}
use Rattle.ale_term.specs.Reading.{description_at}
use Rattle.ale_term.proofs.Readings.{found}
use Rattle.ale_term.proofs.Full.{description_read}
use Rattle.ale_term.proofs.Sound.{sound_description}
use Rattle.ale_term.proofs.read.description.Goals as goal

pub returns-clause-found : goal.returns-clause-found
returns-clause-found c =
    found (λ p. (term_data p.0, p.1.now)) c.read_description.result (description_at c.args.lexemes.now) (Front IsDescription c.args.lexemes.now) c.read_description.ensures (sound_description c.args.lexemes.now)

pub returns-clause-read : goal.returns-clause-read
returns-clause-read c xs rest t split d ends =
    subst (Gives (λ p. (term_data p.0, p.1.now)) c.read_description.result) (ap description_at split ∙ description_read d rest ends) c.read_description.ensures

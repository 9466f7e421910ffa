use Rattle.std.proofs.Common.{ap, subst, ◌∙◌}
use Rattle.ale_term.specs.Results.{Gives}
use Rattle.ale_term.specs.Terms.{term_data}
use Rattle.ale_term.specs.Grammar.{IsPart}
use Rattle.ale_term.specs.Follows.{Front}
use Rattle.ale_term.specs.Reading.{element_at}
use Rattle.ale_term.proofs.Readings.{found}
use Rattle.ale_term.proofs.Full.{element_read}
use Rattle.ale_term.proofs.Sound.{sound_element}
use Rattle.ale_term.proofs.read.element.Goals as goal

pub returns-clause-found : goal.returns-clause-found
returns-clause-found c =
    found (λ p. (term_data p.0, p.1.now)) c.read_element.result (element_at c.args.lexemes.now) (Front IsPart c.args.lexemes.now) c.read_element.ensures (sound_element c.args.lexemes.now)

pub returns-clause-read : goal.returns-clause-read
returns-clause-read c xs rest t split d ends =
    subst (Gives (λ p. (term_data p.0, p.1.now)) c.read_element.result) (ap element_at split ∙ element_read d rest ends) c.read_element.ensures

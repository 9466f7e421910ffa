use Rattle.std.proofs.Common.{ap, subst, ◌∙◌, map}
use Rattle.ale_term.specs.Results.{Gives}
use Rattle.ale_term.specs.Terms.{term_data}
use Rattle.ale_term.specs.Follows.{Front, IsCallPair}
use Rattle.ale_term.specs.Reading.{call_at}
use Rattle.ale_term.proofs.Readings.{found}
use Rattle.ale_term.proofs.Full.{call_read}
use Rattle.ale_term.proofs.Sound.{sound_whole_call}
use Rattle.ale_term.proofs.read.call.Goals as goal

pub returns-clause-found : goal.returns-clause-found
returns-clause-found c =
    found (λ p. ((p.0.0, map term_data p.0.1), p.1.now)) c.read_call.result (call_at c.args.lexemes.now) (Front IsCallPair c.args.lexemes.now) c.read_call.ensures (sound_whole_call c.args.lexemes.now)

pub returns-clause-read : goal.returns-clause-read
returns-clause-read c xs rest n ts split d ends =
    subst (Gives (λ p. ((p.0.0, map term_data p.0.1), p.1.now)) c.read_call.result) (ap call_at split ∙ call_read d rest ends) c.read_call.ensures

use Rattle.std.proofs.Common.{ap, subst, ◌∙◌}
use Rattle.ale_term.specs.Results.{Gives}
use Rattle.ale_term.specs.Grammar.{IsPath}
use Rattle.ale_term.specs.Follows.{Front}
use Rattle.ale_term.specs.Reading.{path_at}
use Rattle.ale_term.proofs.Readings.{found}
use Rattle.ale_term.proofs.Full.{full_path}
use Rattle.ale_term.proofs.Fronts.{sound_path}
use Rattle.ale_term.proofs.read.atoms.Goals as goal

pub returns-clause-found : goal.returns-clause-found
returns-clause-found c =
    found (λ p. (p.0, p.1.now)) c.path.result (path_at c.args.lexemes.now) (Front IsPath c.args.lexemes.now) c.path.ensures (sound_path c.args.lexemes.now)

pub returns-clause-read : goal.returns-clause-read
returns-clause-read c xs rest ns split d =
    subst (Gives (λ p. (p.0, p.1.now)) c.path.result) (ap path_at split ∙ full_path d rest) c.path.ensures

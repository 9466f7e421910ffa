use Rattle.ale_token.proofs.Clauses.{read_in_one_way, bad_at_one_place, not_both, tokens_of-BadAt}
use Rattle.ale_token.proofs.Reading.{read_or_bad, Reads-tokens_from, tokens_from-Reads, BadAt-tokens_from}
use Rattle.ale_token.proofs.scan.one_reading.Goals as goal

pub returns-clause-same : goal.returns-clause-same
returns-clause-same c = read_in_one_way

pub returns-clause-place : goal.returns-clause-place
returns-clause-place c = bad_at_one_place

pub returns-clause-apart : goal.returns-clause-apart
returns-clause-apart c = not_both

pub returns-clause-either : goal.returns-clause-either
returns-clause-either c = read_or_bad 0

pub returns-clause-reads : goal.returns-clause-reads
returns-clause-reads c = λ cs ts. (λ r. Reads-tokens_from r, λ e. tokens_from-Reads 0 cs ts e)

pub returns-clause-bad : goal.returns-clause-bad
returns-clause-bad c = λ cs p. (λ b. BadAt-tokens_from b, λ e. tokens_of-BadAt cs p e)

use Rattle.ale_token.proofs.Quoting.{quotes_are_read, quotes_mean_the_name}
use Rattle.ale_token.proofs.names.quoted_names.Goals as goal

pub returns-clause-reads : goal.returns-clause-reads
returns-clause-reads c = quotes_are_read

pub returns-clause-means : goal.returns-clause-means
returns-clause-means c = quotes_mean_the_name

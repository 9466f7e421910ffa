use Rattle.std.proofs.Common.{◌≡◌, drop, map}
use Rattle.ale_term.specs.Terms.{term_data, terms_of}
use Rattle.ale_vocabulary.specs.First.{first_of}
use Rattle.ale_vocabulary.specs.Knowing.{unknown_in}
use Rattle.ale_vocabulary.specs.Mentions.{mentions_of_all}
use Rattle.ale_vocabulary.proofs.description.+terms.Given as goal

abbrev pub invariant-first_in_each-loop-term : goal.invariant-first_in_each-loop-term
invariant-first_in_each-loop-term l = first_of (unknown_in l.sig l.vocabulary) (mentions_of_all (terms_of (map term_data (drop l.term-index l.terms)))) ≡ first_of (unknown_in l.sig l.vocabulary) (mentions_of_all (terms_of (map term_data l.terms)))

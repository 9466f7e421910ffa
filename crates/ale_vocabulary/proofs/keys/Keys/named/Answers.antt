use Rattle.std.proofs.Common.{map, sym, ap, ◌∙◌, List, ℕ}
use Rattle.std.specs.Str.{chars}
use Rattle.ale_declared.specs.Names.{named}
use Rattle.ale_declared.proofs.NameLemmas.{shown, named_shown}
use Rattle.ale_vocabulary.specs.Keys.{key}
use Rattle.ale_vocabulary.proofs.Pairing.{named_nowhere, named_pair}
use Rattle.ale_vocabulary.proofs.keys.Keys.named.Goals as goal

pub returns-in_err-place : goal.returns-in_err-place
returns-in_err-place c =
    c.from_residual.ensures
    ∙ sym (named_nowhere (map shown c.self.inside.names.keys) c.self.inside.pairs.keys (chars c.args.name.now) c.args.arity c.self.invariant
    (sym (c.in_err-place.ensures.index ∙ named_shown c.args.name.now c.self.inside.names.keys c.utf8.name)))
    ∙ ap (λ (ks : List (List ℕ)). named ks (key (chars c.args.name.now) c.args.arity)) c.self.view_is

pub returns : goal.returns
returns c =
    c.get_index_of-2.ensures.index
    ∙ named_pair (map shown c.self.inside.names.keys) c.self.inside.pairs.keys (chars c.args.name.now) c.in_ok-place.place c.args.arity c.self.invariant
    (sym (c.in_ok-place.ensures.index ∙ named_shown c.args.name.now c.self.inside.names.keys c.utf8.name))
    ∙ ap (λ (ks : List (List ℕ)). named ks (key (chars c.args.name.now) c.args.arity)) c.self.view_is

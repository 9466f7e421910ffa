use Rattle.std.proofs.Common.{map, sym, ap, ◌∙◌, List, ℕ, [], ◌∷◌}
use Rattle.std.specs.Str.{chars}
use Rattle.ale_declared.specs.Names.{named, numbered}
use Rattle.ale_declared.proofs.NameLemmas.{shown, named_shown, insert_shown}
use Rattle.ale_vocabulary.proofs.Named.{numbered_there, place_new}
use Rattle.ale_vocabulary.proofs.keys.place.Goals as goal

pub returns-in-Some-clause-place : goal.returns-in-Some-clause-place
returns-in-Some-clause-place c =
    sym
    (c.in-Some.ensures.index ∙ named_shown c.as_str.result.now c.args.names.now.keys c.as_str.utf8
    ∙ ap (named (map shown c.args.names.now.keys)) c.as_str.ensures.value)

pub returns-in-Some-clause-added : goal.returns-in-Some-clause-added
returns-in-Some-clause-added c = sym (numbered_there (map shown c.args.names.now.keys) c.args.name.now c.in-Some.found (returns-in-Some-clause-place c))

pub returns-clause-added : goal.returns-clause-added
returns-clause-added c =
    ap (map shown) c.in_ok-insert.ensures.keys
    ∙ insert_shown c.args.names.now.keys c.in_ok-own.own
    ∙ ap (λ (x : List ℕ). numbered (map shown c.args.names.now.keys) (x ∷ [])) (ap chars c.in_ok-own.ensures.ok ∙ c.as_str-2.ensures.value)

pub returns-clause-place : goal.returns-clause-place
returns-clause-place c =
    place_new c.args.names.now.keys (map shown c.insert.new.self.keys) c.args.name.now c.len-place.result (returns-clause-added c)
    (sym
    (c.in_default.ensures.index ∙ named_shown c.as_str.result.now c.args.names.now.keys c.as_str.utf8
    ∙ ap (named (map shown c.args.names.now.keys)) c.as_str.ensures.value))
    c.len-place.ensures.len

use Rattle.std.proofs.Common.{ap}
use Rattle.std.specs.Str.{chars}
use Rattle.ale_vocabulary.specs.Keys.{key}
use Rattle.ale_vocabulary.proofs.Named.{told_named}
use Rattle.ale_vocabulary.proofs.vocabulary.Vocabulary.has_macro.Goals as goal

pub returns : goal.returns
returns c =
    told_named c.args.self.now.macros (key (chars c.as_str.result.now) c.args.arity) (key c.args.name.now c.args.arity) c.macro_named.result c.is_some.result
    c.is_some.ensures c.macro_named.ensures (ap (λ x. key x c.args.arity) c.as_str.ensures.value)

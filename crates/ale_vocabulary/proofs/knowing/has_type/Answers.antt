use Rattle.std.specs.Str.{chars}
use Rattle.ale_vocabulary.proofs.Named.{told_named}
use Rattle.ale_vocabulary.proofs.knowing.has_type.Goals as goal

pub returns : goal.returns
returns c = told_named c.args.sig.now.types (chars c.as_str.result.now) c.args.name.now c.type_named.result c.is_some.result c.is_some.ensures c.type_named.ensures.value c.as_str.ensures.value

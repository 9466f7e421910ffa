-- The characters that are passed and the rest have the bytes of all.
use Rattle.std.proofs.Common.{ap, ◌∙◌, arith}
use Rattle.ale_token.specs.Tokens.{byte_length}
use Rattle.ale_token.proofs.Reading.{byte_length-append}
use Rattle.ale_token.proofs.scan.past.Goals as goal

pub byte_length-requires : goal.byte_length-requires
byte_length-requires c =
    let parts = ap byte_length c.split_at.ensures.by_index.0
    ∙ byte_length-append c.split_at.result.0.now c.split_at.result.1.now in omega arith

pub overflow_add-result : goal.overflow_add-result
overflow_add-result c =
    let parts = ap byte_length c.split_at.ensures.by_index.0
    ∙ byte_length-append c.split_at.result.0.now c.split_at.result.1.now in omega arith

pub returns-clause-all : goal.returns-clause-all
returns-clause-all c =
    let parts = ap byte_length c.split_at.ensures.by_index.0
    ∙ byte_length-append c.split_at.result.0.now c.split_at.result.1.now in omega arith

use Rattle.std.proofs.Common.{◌≡◌, ◌∙◌, ap, drop}
use Rattle.ale_base.specs.HeldFiles.{rest_of}
use Rattle.ale_base.specs.NamedBytes.{all_named}
use Rattle.ale_base.proofs.HeldFilesLemmas.{rest_of-more, copied-consumes}
use Rattle.ale_base.proofs.memory_files.MemoryFilesFiles.read.Goals as goal

pub returns-clause-bytes : goal.returns-clause-bytes
returns-clause-bytes c =
    let is : rest_of (all_named c.self.inside.held.items) c.self.inside.chosen c.self.inside.at ≡ c.args.self.now.left = ap (λ f. f.left) c.self.view_is in
    let given : c.rest_at.result.now ≡ c.args.self.now.left = (rw c.deref-2.ensures.value at c.rest_at.ensures.rest) ∙ is in
    copied-consumes c.args.self.now.left c.args.buf.now _ _ _
    (rw given at c.copy_front-count.ensures.count) (rw given at c.copy_front-count.ensures.bytes)
    (rest_of-more (all_named c.self.inside.held.items) c.self.inside.chosen c.self.inside.at c.copy_front-count.result ∙ ap (λ l. drop c.copy_front-count.result l) is)

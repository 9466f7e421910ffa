use Rattle.std.proofs.Common.{◌≡◌, None, ap}
use Rattle.ale_base.specs.HeldFiles.{content_of}
use Rattle.ale_base.specs.NamedBytes.{all_named}
use Rattle.ale_base.proofs.HeldFilesLemmas.{content-pushed, others-pushed}
use Rattle.ale_base.proofs.memory_files.MemoryFiles.add.Goals as goal

pub returns-in_ok-push-in-None-clause-content : goal.returns-in_ok-push-in-None-clause-content
returns-in_ok-push-in-None-clause-content c =
    let none : content_of (all_named c.self.inside.held.items) c.args.name.now ≡ None = rw c.deref.ensures.value at c.in-None.ensures in
    content-pushed _ _ _ _ _ _ (ap (λ f. f.held) c.self.view_is) none c.in_ok-push-in-None.ensures.items
    c.in_ok-from_str-in-None.ensures.ok (rw c.new.ensures.items at c.in_ok-extend_from_slice-in-None.ensures.items)

pub returns-in_ok-push-in-None-clause-others : goal.returns-in_ok-push-in-None-clause-others
returns-in_ok-push-in-None-clause-others c =
    others-pushed _ _ _ _ _ _ (ap (λ f. f.held) c.self.view_is) c.in_ok-push-in-None.ensures.items
    c.in_ok-from_str-in-None.ensures.ok (rw c.new.ensures.items at c.in_ok-extend_from_slice-in-None.ensures.items)

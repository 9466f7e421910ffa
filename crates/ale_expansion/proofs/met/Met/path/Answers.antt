use Rattle.ale_expansion.proofs.Lineage.{onward_law}
use Rattle.ale_expansion.proofs.met.Met.path.Goals as goal
use Rattle.ale_expansion.proofs.met.Met.path.Goals.{in-Some, in-None}

pub invariant_of-self-2 : goal.invariant_of-self-2
invariant_of-self-2 c = (onward_law c.self.inside.calls c.self.inside.slots c.number.new.self c.in_ok-place.place c.args.self.now (record { path = c.args.outer; number = c.args.call }) c.self.view_is c.self.invariant c.requires.there c.in_ok-place.ensures.number c.in_ok-place.ensures.added).is

pub returns-clause-within : goal.returns-clause-within
returns-clause-within c =
    let law = onward_law c.self.inside.calls c.self.inside.slots c.number.new.self c.in_ok-place.place c.args.self.now (record { path = c.args.outer; number = c.args.call }) c.self.view_is c.self.invariant c.requires.there c.in_ok-place.ensures.number c.in_ok-place.ensures.added in
    elim c.match-checked_add.branch [
      | in-Some w ↦ rw (w.result-is, w.in-Some.ensures.1) law.within
      | in-None w ↦ rw w.result-is tt
    ]

pub returns-clause-path : goal.returns-clause-path
returns-clause-path c =
    let law = onward_law c.self.inside.calls c.self.inside.slots c.number.new.self c.in_ok-place.place c.args.self.now (record { path = c.args.outer; number = c.args.call }) c.self.view_is c.self.invariant c.requires.there c.in_ok-place.ensures.number c.in_ok-place.ensures.added in
    elim c.match-checked_add.branch [
      | in-Some w ↦ rw (w.result-is, w.in-Some.ensures.1) law.path
      | in-None w ↦ rw w.result-is tt
    ]

pub returns-clause-more : goal.returns-clause-more
returns-clause-more c =
    let law = onward_law c.self.inside.calls c.self.inside.slots c.number.new.self c.in_ok-place.place c.args.self.now (record { path = c.args.outer; number = c.args.call }) c.self.view_is c.self.invariant c.requires.there c.in_ok-place.ensures.number c.in_ok-place.ensures.added in
    elim c.match-checked_add.branch [
      | in-Some w ↦ rw w.result-is law.more
      | in-None w ↦ rw w.result-is tt
    ]

pub returns-clause-variables : goal.returns-clause-variables
returns-clause-variables c =
    let law = onward_law c.self.inside.calls c.self.inside.slots c.number.new.self c.in_ok-place.place c.args.self.now (record { path = c.args.outer; number = c.args.call }) c.self.view_is c.self.invariant c.requires.there c.in_ok-place.ensures.number c.in_ok-place.ensures.added in
    elim c.match-checked_add.branch [
      | in-Some w ↦ rw w.result-is law.variables
      | in-None w ↦ rw w.result-is tt
    ]

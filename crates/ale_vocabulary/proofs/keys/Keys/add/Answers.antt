use Rattle.std.proofs.Common.{map, sym, ap, ◌∙◌, List, ℕ, subst, [], ◌∷◌}
use Rattle.ale_declared.specs.Names.{numbered}
use Rattle.ale_declared.proofs.NameLemmas.{shown}
use Rattle.ale_vocabulary.specs.Keys.{key}
use Rattle.ale_vocabulary.specs.Pairs.{keys_of, ArePaired}
use Rattle.ale_vocabulary.proofs.Pairing.{paired_wider, keys_wider, paired_more, keys_more}
use Rattle.ale_vocabulary.proofs.keys.Keys.add.Goals as goal

pub invariant_of-self-in_err-insert : goal.invariant_of-self-in_err-insert
invariant_of-self-in_err-insert c =
    subst (λ (ps : List (ℕ × ℕ)). ArePaired (map shown c.place.new.names.keys) ps) (sym c.in_err-insert.ensures.err)
    (subst (λ (ns : List (List ℕ)). ArePaired ns c.self.inside.pairs.keys) (sym c.in_ok-place.ensures.added)
    (paired_wider (map shown c.self.inside.names.keys) c.self.inside.pairs.keys c.args.name.now c.self.invariant))

pub invariant_of-self-2 : goal.invariant_of-self-2
invariant_of-self-2 c =
    subst (λ (ps : List (ℕ × ℕ)). ArePaired (map shown c.place.new.names.keys) ps) (sym c.in_ok-insert.ensures.keys)
    (paired_more (map shown c.place.new.names.keys) c.self.inside.pairs.keys c.args.name.now c.in_ok-place.place c.args.arity
    (subst (λ (ns : List (List ℕ)). ArePaired ns c.self.inside.pairs.keys) (sym c.in_ok-place.ensures.added)
    (paired_wider (map shown c.self.inside.names.keys) c.self.inside.pairs.keys c.args.name.now c.self.invariant))
    c.in_ok-place.ensures.place)

pub returns : goal.returns
returns c =
    ap (keys_of (map shown c.place.new.names.keys)) c.in_ok-insert.ensures.keys
    ∙ keys_more (map shown c.place.new.names.keys) c.self.inside.pairs.keys c.args.name.now c.in_ok-place.place c.args.arity
    (subst (λ (ns : List (List ℕ)). ArePaired ns c.self.inside.pairs.keys) (sym c.in_ok-place.ensures.added)
    (paired_wider (map shown c.self.inside.names.keys) c.self.inside.pairs.keys c.args.name.now c.self.invariant))
    c.in_ok-place.ensures.place
    ∙ ap (λ (ks : List (List ℕ)). numbered ks (key c.args.name.now c.args.arity ∷ []))
    (ap (λ (ns : List (List ℕ)). keys_of ns c.self.inside.pairs.keys) c.in_ok-place.ensures.added
    ∙ keys_wider (map shown c.self.inside.names.keys) c.self.inside.pairs.keys c.args.name.now c.self.invariant
    ∙ c.self.view_is)

use Rattle.std.proofs.Common.{sym, ap, ◌∙◌, subst, [], ◌++◌}
use Rattle.std.specs.List.{flat_map}
use Rattle.ale_declared.specs.Names.{name_of}
use Rattle.ale_declared.specs.Numbering.{IsNumbering}
use Rattle.ale_declared.specs.Declarations.{type_names, sub_names, top_edges}
use Rattle.ale_declared.proofs.TopLemmas.{first_is_bot, IsNumbering-types, top_edges-numbered}
use Rattle.ale_declared.proofs.written.push_tops.Goals as goal

pub push_unmentioned-requires-clause-first : goal.push_unmentioned-requires-clause-first
push_unmentioned-requires-clause-first c =
    ap (λ v. name_of v 0) c.requires ∙ first_is_bot [] (flat_map type_names c.args.decls.now)

pub push_unmentioned-requires-clause-distinct : goal.push_unmentioned-requires-clause-distinct
push_unmentioned-requires-clause-distinct c = subst IsNumbering (sym c.requires) (IsNumbering-types c.args.decls.now)

pub returns : goal.returns
returns c =
    c.in_ok-push_unmentioned.ensures
    ∙ ap (λ v. c.args.edges.now.items ++ top_edges c.args.types.now v) c.in_ok-subs.ensures
    ∙ ap (λ v. c.args.edges.now.items ++ v) (top_edges-numbered c.args.types.now (flat_map sub_names c.args.decls.now))

use Rattle.std.proofs.Common.{◌≡◌, ℕ, List, ◌++◌, refl}
use Rattle.std.specs.List.{flat_map}
use Rattle.ale_declared.specs.Declarations.{Declared, sub_names, written_edges, written_mentions, written_ext, top_edges, types_of, features_of, declared}
use Rattle.ale_declared.specs.declared.decl.Mention.{Mention}
use Rattle.ale_declared.specs.declared.decl.SigDecl.{SigDecl}
use Rattle.ale_declared.proofs.outline.Outline.read.Goals as goal

-- the parts together
whole : (decls : List SigDecl) (types features : List (List ℕ)) (written edges : List (ℕ × ℕ)) (mentions : List Mention) (ext : List ℕ)
    → types ≡ types_of decls → features ≡ features_of decls
    → written ≡ flat_map (written_edges types) decls → edges ≡ written ++ top_edges types (flat_map sub_names decls)
    → mentions ≡ flat_map (written_mentions types features) decls → ext ≡ flat_map (written_ext types) decls
    → let made : Declared = record { types = types; features = features; edges = edges; mentions = mentions; ext = ext } in made ≡ declared decls
unfolding declared
whole decls types features written edges mentions ext e_types e_features e_written e_edges e_mentions e_ext =
    rw (e_ext, e_mentions, e_edges, e_written, e_features, e_types) refl

pub returns : goal.returns
returns c =
    whole c.args.decls.now c.in_ok-types.types c.in_ok-features.features c.in_ok-edges.edges.items c.push_tops.new.edges.items
    c.in_ok-mentions.mentions.items c.in_ok-ext.ext.items
    c.in_ok-types.ensures c.in_ok-features.ensures c.in_ok-edges.ensures c.in_ok-push_tops.ensures c.in_ok-mentions.ensures c.in_ok-ext.ensures

-- The signature that written declarations give, as plain data: the names of types and features, which
-- type is declared directly below which, which type mentions which feature, and the extensional types.
-- Source: `sub` and `intro` in the ALE 3.2 User's Guide; `bot` is the most general type.
use Rattle.std.specs.Prelude.{ℕ, Bool, ◌&&◌, not, List, [], ◌∷◌, ◌++◌, map, filter, codes}
use Rattle.std.specs.List.{flat_map}
use Rattle.ale_declared.specs.Names.{same_name, is_named, number, numbered}
use Rattle.ale_declared.specs.declared.decl.Mention.{Mention}
use Rattle.ale_declared.specs.declared.decl.SigDecl.{SigDecl}
use Rattle.ale_declared.specs.declared.decl.SigDecl.TheVariants.{Kind, Ext}

-- Types and features are numbered in order of first mention, `bot` first. An edge (a, b) says that b is
-- declared directly below a.
pub record Declared : Type 0 where
  pub types : List (List ℕ)
  pub features : List (List ℕ)
  pub edges : List (ℕ × ℕ)
  pub mentions : List Mention
  pub ext : List ℕ

abbrev pub bot : List ℕ
bot = codes "bot"

-- the names in type positions, as they are written
abbrev pub type_names : SigDecl → List (List ℕ)
type_names (Kind name subs intros) = name ∷ subs ++ map (λ i. i.1) intros
type_names (Ext names) = names

-- the names in feature positions
abbrev pub feature_names : SigDecl → List (List ℕ)
feature_names (Kind name subs intros) = map (λ i. i.0) intros
feature_names (Ext names) = []

-- the names in `sub` lists
abbrev pub sub_names : SigDecl → List (List ℕ)
sub_names (Kind name subs intros) = subs
sub_names (Ext names) = []

-- each name of a `sub` list is directly below the type that the declaration is about
abbrev pub written_edges : List (List ℕ) → SigDecl → List (ℕ × ℕ)
written_edges types (Kind name subs intros) = map (λ s. (number types name, number types s)) subs
written_edges types (Ext names) = []

abbrev pub written_mentions : List (List ℕ) → List (List ℕ) → SigDecl → List Mention
written_mentions types features (Kind name subs intros) =
    map (λ i. record { at = number types name; feature = number features i.0; restriction = number types i.1 }) intros
written_mentions types features (Ext names) = []

abbrev pub written_ext : List (List ℕ) → SigDecl → List ℕ
written_ext types (Kind name subs intros) = []
written_ext types (Ext names) = map (number types) names

-- a type other than `bot` that no `sub` list mentions
abbrev pub is_top : List (List ℕ) → List ℕ → Bool
is_top subs name = not (same_name name bot) && not (is_named name subs)

-- `bot` stands directly above each type that no `sub` list mentions
abbrev pub top_edges : List (List ℕ) → List (List ℕ) → List (ℕ × ℕ)
top_edges types subs = map (λ t. (0, number types t)) (filter (is_top subs) types)

abbrev pub types_of : List SigDecl → List (List ℕ)
types_of decls = numbered (bot ∷ []) (flat_map type_names decls)

abbrev pub features_of : List SigDecl → List (List ℕ)
features_of decls = numbered [] (flat_map feature_names decls)

-- what the declarations declare, all of them together
unfoldable pub declared : List SigDecl → Declared
declared decls = record {
  types = types_of decls;
  features = features_of decls;
  edges = flat_map (written_edges (types_of decls)) decls ++ top_edges (types_of decls) (flat_map sub_names decls);
  mentions = flat_map (written_mentions (types_of decls) (features_of decls)) decls;
  ext = flat_map (written_ext (types_of decls)) decls;
}

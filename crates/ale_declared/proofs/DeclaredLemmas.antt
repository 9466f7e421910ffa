-- Whatever is declared is well numbered.
use Rattle.std.proofs.Common.{◌≡◌, sym, ap, ◌∙◌, subst, refl, ℕ, ◌<◌, true, false, List, [], ◌∷◌, ◌++◌, map, length, inl, inr, arith}
use Rattle.std.specs.Prelude.{◌≢◌, not}
use Rattle.std.specs.List.{filter, flat_map}
use Rattle.std.proofs.lemmas.Bool.{cases_Bool, and_from, not_from_false, false_from_ne_true}
use Rattle.ale_relation.specs.Has.{Has}
use Rattle.ale_declared.specs.Names.{same_name, is_named, number}
use Rattle.ale_declared.specs.Declarations.{bot, type_names, feature_names, sub_names, written_edges, written_mentions, written_ext, is_top, top_edges, types_of, features_of, declared}
use Rattle.ale_declared.specs.Numbering.{IsWellNumbered}
use Rattle.ale_declared.specs.declared.decl.Mention.{Mention}
use Rattle.ale_declared.specs.declared.decl.SigDecl.{SigDecl}
use Rattle.ale_declared.specs.declared.decl.SigDecl.TheVariants.{Kind, Ext}
use Rattle.ale_declared.proofs.ListLemmas.{Has-append_left, Has-append_right, Has-append_cases, Has-flat_map, flat_map_has, Has-map, map_has, Has-filter, filter_has}
use Rattle.ale_declared.proofs.NumberLemmas.{same_name_to, is_named_has, number_below, number_at, number-first, IsDistinct-numbered, Has-numbered, Has-numbered_old, numbered_has}

-- a name in a type position is that of a type
type_there : (decls : List SigDecl) (s : SigDecl) (x : List ℕ) → Has decls s → Has (type_names s) x → Has (types_of decls) x
type_there decls s x k h = Has-numbered (bot ∷ []) (flat_map type_names decls) x (Has-flat_map type_names decls s x k h)

-- a name in a feature position is that of a feature
feature_there : (decls : List SigDecl) (s : SigDecl) (x : List ℕ) → Has decls s → Has (feature_names s) x → Has (features_of decls) x
feature_there decls s x k h = Has-numbered [] (flat_map feature_names decls) x (Has-flat_map feature_names decls s x k h)

-- `bot` is a type
bot_there : (decls : List SigDecl) → Has (types_of decls) bot
bot_there decls = Has-numbered_old (bot ∷ []) (flat_map type_names decls) bot (inl refl)

-- the number of a type in a declaration is below the count
type_below : (decls : List SigDecl) (s : SigDecl) (x : List ℕ) → Has decls s → Has (type_names s) x → number (types_of decls) x < length (types_of decls)
type_below decls s x k h = number_below (types_of decls) x (type_there decls s x k h)

-- an edge of one declaration
written_edges_inside : (decls : List SigDecl) (s : SigDecl) (a b : ℕ) → Has decls s → Has (written_edges (types_of decls) s) (a, b) → (a < length (types_of decls)) × (b < length (types_of decls))
written_edges_inside decls (Kind name subs intros) a b k h =
    let made = map_has (λ s. (number (types_of decls) name, number (types_of decls) s)) subs (a, b) h in
    let left : a ≡ number (types_of decls) name = ap (λ p. p.0) made.2 in
    let right : b ≡ number (types_of decls) made.0 = ap (λ p. p.1) made.2 in
    let ends : (number (types_of decls) name < length (types_of decls)) × (number (types_of decls) made.0 < length (types_of decls)) = (
      type_below decls (Kind name subs intros) name k (inl refl),
      type_below decls (Kind name subs intros) made.0 k (inr (Has-append_left subs (map (λ i. i.1) intros) made.0 made.1)),
    ) in
    rw (left, right) ends
written_edges_inside decls (Ext names) a b k h = absurd h

-- an edge from `bot`
top_edges_inside : (decls : List SigDecl) (subs : List (List ℕ)) (a b : ℕ) → Has (top_edges (types_of decls) subs) (a, b) → (a < length (types_of decls)) × (b < length (types_of decls))
top_edges_inside decls subs a b h =
    let made = map_has {B = ℕ × ℕ} (λ t. (0, number (types_of decls) t)) (filter (is_top subs) (types_of decls)) (a, b) h in
    let left : a ≡ 0 = ap (λ p. p.0) made.2 in
    let right : b ≡ number (types_of decls) made.0 = ap (λ p. p.1) made.2 in
    let last : number (types_of decls) made.0 < length (types_of decls) =
    number_below (types_of decls) made.0 (filter_has (is_top subs) (types_of decls) made.0 made.1).0 in
    let ends : (0 < length (types_of decls)) × (number (types_of decls) made.0 < length (types_of decls)) = (omega arith, last) in
    rw (left, right) ends

-- a mention of one declaration
written_mentions_inside : (decls : List SigDecl) (s : SigDecl) (m : Mention) → Has decls s → Has (written_mentions (types_of decls) (features_of decls) s) m → (m.at < length (types_of decls)) × (m.feature < length (features_of decls)) × (m.restriction < length (types_of decls))
written_mentions_inside decls (Kind name subs intros) m k h =
    let made = map_has {B = Mention} (λ i. record { at = number (types_of decls) name; feature = number (features_of decls) i.0; restriction = number (types_of decls) i.1 }) intros m h in
    let i : List ℕ × List ℕ = made.0 in
    let ends : (number (types_of decls) name < length (types_of decls)) × (number (features_of decls) i.0 < length (features_of decls)) × (number (types_of decls) i.1 < length (types_of decls)) = (
      type_below decls (Kind name subs intros) name k (inl refl),
      number_below (features_of decls) i.0 (feature_there decls (Kind name subs intros) i.0 k (Has-map (λ i. i.0) intros i made.1)),
      type_below decls (Kind name subs intros) i.1 k (inr (Has-append_right subs (map (λ i. i.1) intros) i.1 (Has-map (λ i. i.1) intros i made.1))),
    ) in
    subst (λ (z : Mention). (z.at < length (types_of decls)) × (z.feature < length (features_of decls)) × (z.restriction < length (types_of decls))) (sym made.2) ends
written_mentions_inside decls (Ext names) m k h = absurd h

-- an extensional type of one declaration
written_ext_inside : (decls : List SigDecl) (s : SigDecl) (t : ℕ) → Has decls s → Has (written_ext (types_of decls) s) t → t < length (types_of decls)
written_ext_inside decls (Kind name subs intros) t k h = absurd h
written_ext_inside decls (Ext names) t k h =
    let made = map_has (number (types_of decls)) names t h in
    rw made.2 (type_below decls (Ext names) made.0 k made.1)

-- a name of a `sub` list has a type directly above it
edge_to_sub : (types : List (List ℕ)) (s : SigDecl) (x : List ℕ) → Has (sub_names s) x → (p : ℕ) × Has (written_edges types s) (p, number types x)
edge_to_sub types (Kind name subs intros) x h =
    (number types name, Has-map (λ s. (number types name, number types s)) subs x h)
edge_to_sub types (Ext names) x h = absurd h

-- a name in a feature position is mentioned
mention_of : (types features : List (List ℕ)) (s : SigDecl) (x : List ℕ) → Has (feature_names s) x → (m : Mention) × Has (written_mentions types features s) m × (m.feature ≡ number features x)
mention_of types features (Kind name subs intros) x h =
    let made = map_has (λ i. i.0) intros x h in
    let i : List ℕ × List ℕ = made.0 in (
      record { at = number types name; feature = number features i.0; restriction = number types i.1 },
      Has-map {B = Mention} (λ i. record { at = number types name; feature = number features i.0; restriction = number types i.1 }) intros i made.1,
      ap (number features) (sym made.2),
    )
mention_of types features (Ext names) x h = absurd h

-- the name of a type other than `bot` has a type directly above it
edge_to_name : (decls : List SigDecl) (x : List ℕ) → Has (types_of decls) x → number (types_of decls) x ≢ 0 → (p : ℕ) × Has (flat_map (written_edges (types_of decls)) decls ++ top_edges (types_of decls) (flat_map sub_names decls)) (p, number (types_of decls) x)
edge_to_name decls x k apart =
    elim (cases_Bool (is_named x (flat_map sub_names decls))) [
      | inl e ↦
          let at = flat_map_has sub_names decls x (is_named_has x (flat_map sub_names decls) e) in
          let up = edge_to_sub (types_of decls) at.0 x at.2 in (
            up.0,
            Has-append_left (flat_map (written_edges (types_of decls)) decls) (top_edges (types_of decls) (flat_map sub_names decls)) (up.0, number (types_of decls) x)
                (Has-flat_map (written_edges (types_of decls)) decls at.0 (up.0, number (types_of decls) x) at.1 up.1),
          )
      | inr e ↦
          let other : same_name x bot ≡ false =
          false_from_ne_true (same_name x bot) (λ h. apart (ap (number (types_of decls)) (same_name_to x bot h) ∙ number-first bot [] (flat_map type_names decls))) in
          let top : is_top (flat_map sub_names decls) x ≡ true =
          and_from (not (same_name x bot)) (not (is_named x (flat_map sub_names decls))) (not_from_false (same_name x bot) other) (not_from_false (is_named x (flat_map sub_names decls)) e) in (
            0,
            Has-append_right (flat_map (written_edges (types_of decls)) decls) (top_edges (types_of decls) (flat_map sub_names decls)) (0, number (types_of decls) x)
                (Has-map {B = ℕ × ℕ} (λ t. (0, number (types_of decls) t)) (filter (is_top (flat_map sub_names decls)) (types_of decls)) x
                (Has-filter (is_top (flat_map sub_names decls)) (types_of decls) x k top)),
          )
    ]

-- each type but `bot` has a type directly above it
parent_there : (decls : List SigDecl) (t : ℕ) → t < length (types_of decls) → t ≢ 0 → (p : ℕ) × Has (flat_map (written_edges (types_of decls)) decls ++ top_edges (types_of decls) (flat_map sub_names decls)) (p, t)
parent_there decls t below apart =
    let at = number_at (types_of decls) t (IsDistinct-numbered (bot ∷ []) (flat_map type_names decls) (λ h. h, tt)) below in
    let x : List ℕ = at.0 in
    let named : number (types_of decls) x ≡ t = at.2 in
    let up = edge_to_name decls x at.1 (λ e. apart (sym named ∙ e)) in
    (up.0, subst (λ z. Has (flat_map (written_edges (types_of decls)) decls ++ top_edges (types_of decls) (flat_map sub_names decls)) (up.0, z)) named up.1)

-- each feature is mentioned
mention_there : (decls : List SigDecl) (f : ℕ) → f < length (features_of decls) → (m : Mention) × Has (flat_map (written_mentions (types_of decls) (features_of decls)) decls) m × (m.feature ≡ f)
mention_there decls f below =
    let at = number_at (features_of decls) f (IsDistinct-numbered [] (flat_map feature_names decls) tt) below in
    let x : List ℕ = at.0 in
    let written : Has (flat_map feature_names decls) x =
    elim (numbered_has [] (flat_map feature_names decls) x at.1) [ inl z ↦ absurd z | inr h ↦ h ] in
    let from = flat_map_has feature_names decls x written in
    let made = mention_of (types_of decls) (features_of decls) from.0 x from.2 in
    (made.0, Has-flat_map (written_mentions (types_of decls) (features_of decls)) decls from.0 made.0 from.1 made.1, made.2 ∙ at.2)

-- whatever is declared is well numbered
pub IsWellNumbered-declared : (decls : List SigDecl) → IsWellNumbered (declared decls)
unfolding declared
IsWellNumbered-declared decls = record {
  edges = λ a b h.
      elim (Has-append_cases (flat_map (written_edges (types_of decls)) decls) (top_edges (types_of decls) (flat_map sub_names decls)) (a, b) h) [
        | inl k ↦
            let at = flat_map_has (written_edges (types_of decls)) decls (a, b) k in
            written_edges_inside decls at.0 a b at.1 at.2
        | inr k ↦ top_edges_inside decls (flat_map sub_names decls) a b k
      ];
  mentions = λ m h.
      let at = flat_map_has (written_mentions (types_of decls) (features_of decls)) decls m h in
      written_mentions_inside decls at.0 m at.1 at.2;
  ext = λ t h.
      let at = flat_map_has (written_ext (types_of decls)) decls t h in
      written_ext_inside decls at.0 t at.1 at.2;
  some_type =
      let less : number (types_of decls) bot < length (types_of decls) = number_below (types_of decls) bot (bot_there decls) in
      omega arith;
  has_parent = parent_there decls;
  mentioned = mention_there decls;
}

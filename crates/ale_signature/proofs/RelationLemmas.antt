-- The functions tell the relations that define them, of whatever is declared.
use Rattle.std.proofs.Common.{◌≡◌, ◌∙◌, sym, subst, ℕ, ◌<◌, Some, None, [], ◌∷◌, length}
use Rattle.std.specs.Prelude.{◌↔◌}
use Rattle.ale_relation.specs.Has.{Has}
use Rattle.ale_declared.specs.Declarations.{Declared}
use Rattle.ale_declared.specs.Numbering.{IsWellNumbered}
use Rattle.ale_declared.specs.declared.decl.Mention.{Mention}
use Rattle.ale_hierarchy.specs.Accepted.{restriction_edges}
use Rattle.ale_hierarchy.specs.Order.{IsAbove, IsJoin, Applies, IsRestriction, Introduces, join, approp, intro}
use Rattle.ale_signature.specs.Laws.{NeverLeadsBack, HasLeastCommon, RestrictionsJoin, TellsRelations}
use Rattle.ale_hierarchy.proofs.PathLemmas.{leads_through-Decides}
use Rattle.ale_hierarchy.proofs.OrderLemmas.{IsAbove_inside, is_above_to, is_above_from}
use Rattle.ale_hierarchy.proofs.JoinLemmas.{IsJoinOf-pair, join_of_none, join_to, join_from, join_none, none_from}
use Rattle.ale_hierarchy.proofs.AppropLemmas.{IsRestriction_inside, approp_to, approp_from, approp_none, approp_nowhere, intro_is}
use Rattle.ale_hierarchy.proofs.AcceptedLemmas.{restriction_edges_has, Has-restriction_edges, EndsBelow-restriction_edges}
use Rattle.ale_signature.proofs.SizeLemmas.{size-adds_up}

no_join_is : (d : Declared) (a b : ℕ) → IsWellNumbered d → a < length d.types → (join d a b ≡ None) ↔ ((j : ℕ) → IsJoin d a b j → ⊥)
no_join_is d a b w inside = (
  λ e j h. join_of_none d (a ∷ b ∷ []) j w e (IsJoinOf-pair d a b j (IsAbove_inside d a j w h.left inside) h),
  λ none. none_from (join d a b) (λ j e. none j (join_to d a b j w e).1),
)

no_common_is : (d : Declared) (a b : ℕ) → IsWellNumbered d → HasLeastCommon d → a < length d.types → (join d a b ≡ None) ↔ ((c : ℕ) → IsAbove d a c → IsAbove d b c → ⊥)
no_common_is d a b w joins inside = (
  λ e c left right. join_none d a b c w joins e (IsAbove_inside d a c w left inside) left right,
  λ none. none_from (join d a b) (λ j e. let h = (join_to d a b j w e).1 in none j h.left h.right),
)

no_restriction_is : (d : Declared) (f t : ℕ) → IsWellNumbered d → (approp d f t ≡ None) ↔ ((r : ℕ) → IsRestriction d f t r → ⊥)
no_restriction_is d f t w = (
  λ e r h. approp_none d f t r w e h,
  λ none. none_from (approp d f t) (λ r e. none r (approp_to d f t r w e)),
)

no_approp_is : (d : Declared) (f t : ℕ) → IsWellNumbered d → RestrictionsJoin d → t < length d.types → (approp d f t ≡ None) ↔ ((m : Mention) → Applies d f t m → ⊥)
no_approp_is d f t w joins inside = (
  λ e m a. approp_nowhere d f t m w joins inside e a,
  λ none. none_from (approp d f t) (λ r e. let h = approp_to d f t r w e in none h.mention h.applies),
)

edge_is : (d : Declared) (t r : ℕ) → IsWellNumbered d → NeverLeadsBack d.edges → Has (restriction_edges d) (t, r) ↔ ((f : ℕ) × IsRestriction d f t r)
edge_is d t r w free = (
  λ h. let by = restriction_edges_has d t r h in (by.0, approp_to d by.0 t r w by.3),
  λ made.
      let h : IsRestriction d made.0 t r = made.1 in
      let inside = IsRestriction_inside d made.0 t r w h in
      Has-restriction_edges d made.0 t r inside.0 inside.1 (approp_from d made.0 t r w free h),
)

intro_is_intro : (d : Declared) (f t u : ℕ) → IsWellNumbered d → NeverLeadsBack d.edges → Introduces d f u → (intro d f ≡ t) ↔ Introduces d f t
intro_is_intro d f t u w free some = (
  λ e. subst (λ z. Introduces d f z) (sym (intro_is d f u w free some) ∙ e) some,
  λ h. intro_is d f t w free h,
)

-- all of it together
pub tells_relations : (d : Declared) → IsWellNumbered d → TellsRelations d
tells_relations d w = record {
  leads = λ a b. leads_through-Decides d.edges (length d.types) a b w.edges;
  above = λ a b. (is_above_to d a b, is_above_from d a b w);
  joined = λ a b j e. (join_to d a b j w e).1;
  not_joined = λ a b inside. no_join_is d a b w inside;
  restricted = λ f t r e. approp_to d f t r w e;
  not_restricted = λ f t. no_restriction_is d f t w;
  restrictions_lead = λ a b. leads_through-Decides (restriction_edges d) (length d.types) a b (EndsBelow-restriction_edges d w);
  join_found = λ free a b j inside h. join_from d a b j w free (IsAbove_inside d a j w h.left inside) h;
  restriction_found = λ free f t r h. approp_from d f t r w free h;
  restriction_edge = λ free t r. edge_is d t r w free;
  introduced = λ free f t u some. intro_is_intro d f t u w free some;
  no_common = λ joins a b inside. no_common_is d a b w joins inside;
  not_appropriate = λ joins f t inside. no_approp_is d f t w joins inside;
  sized = λ free few t inside. size-adds_up d t w free few inside;
}

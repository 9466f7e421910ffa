-- The text of an answer fixes what is visible of it.
use Rattle.std.proofs.Common.{◌≡◌, ℕ, zero, suc, ◌<◌, ◌≤◌, ◌^◌, Bool, true, false, List, [], ◌∷◌, ◌++◌, length, length-append, map, option_map, inl, inr, refl, sym, ap, ◌∙◌, subst, arith}
use Rattle.std.specs.Prelude.{if◌then◌else◌}
use Rattle.std.proofs.lemmas.List.{length-map}
use Rattle.ale_hierarchy.specs.Hierarchy.{Hierarchy}
use Rattle.ale_hierarchy.specs.Order.{hierarchy}
use Rattle.ale_graph.specs.Structures.{Structure, count}
use Rattle.ale_morphism.specs.Visible.{is_visible, visible_below, renumbered, visible}
use Rattle.ale_morphism.proofs.ReachSteps.{total}
use Rattle.ale_morphism.proofs.VisibleLaws.{is_part}
use Rattle.ale_graph.specs.Closure.{node_of}
use Rattle.ale_logic.specs.Parts.{placed}
use Rattle.ale_logic.specs.States.{env_at}
use Rattle.ale_logic.specs.Words.{bound_in}
use Rattle.ale_logic.specs.Visits.{Answer}
use Rattle.ale_print.specs.Sameness.{IsNamed, TextsTell, VisibleTexts}
use Rattle.ale_task.specs.Tasks.{TaskData, mgsat, query, FitsTask, shown_of, root_names}
use Rattle.ale_task.specs.Laws.{ShownLaws, TextsLaws}
use Rattle.ale_task.proofs.Seen.{visible_structure}
use Rattle.ale_task.proofs.Shown.{of_answer, answer_structure}

-- there are no more visible nodes than nodes
few_below : (s : Structure) (n : ℕ) → length (visible_below s n) ≤ n
few_below s zero = omega arith
few_below s (suc n) = go (is_visible s n) (few_below s n)
  where
    go : (b : Bool) → length (visible_below s n) ≤ n → length (if b then visible_below s n ++ n ∷ [] else visible_below s n) ≤ suc n
    go true l = let e = length-append (visible_below s n) (n ∷ []) in omega arith
    go false l = omega arith

-- the visible part has the same roots, so that the same names are theirs
named_still : (names : List (List ℕ)) (s v : Structure) → v.roots ≡ map (option_map (renumbered s)) s.roots → IsNamed names s → IsNamed names v
named_still names s v roots (inl e) = inl (e ∙ sym (ap length roots ∙ length-map s.roots (option_map (renumbered s))))
named_still names s v roots (inr none) = inr none

-- each printed variable has a name, and is a root
shown_named : (t : TaskData) (h : Hierarchy) → FitsTask h t → (a : Answer) → IsNamed (root_names t) (shown_of t a)
shown_named (mgsat d slots) h fit a = inr refl
shown_named (query g slots printed) h fit a =
    inl (fit.1.named ∙ sym (length-map printed.slots (λ (v : ℕ). placed (node_of a.closed) (bound_in (env_at a.state.envs 0) v))))

pub texts_laws : ShownLaws → TextsTell → VisibleTexts → TextsLaws
texts_laws shows tell parts d program t budget lawful distinct fits fit countable x has =
    let h = hierarchy d in
    let names = root_names t in
    let s = x.structure in
    let is = answer_structure shows h program t budget lawful fits fit x has in
    let f = of_answer h program t budget x has in
    let named : IsNamed names s = subst (λ z. IsNamed names z) (sym f.2) (shown_named t h fit f.0) in
    let few = few_below s (count s) in
    let size = total s is.formed in
    let small : count (visible s) < 2 ^ 64 = (let low = countable x has in omega arith) in
    let same_text = sym (parts d names s is.formed) in
    record {
      visible_part = same_text;
      fixes = λ u is_u named_u low same.
          tell d names (visible s) u lawful distinct (visible_structure h s is) is_u (named_still names s (visible s) (is_part s is.formed).roots named) named_u small low (same_text ∙ sym same);
    }

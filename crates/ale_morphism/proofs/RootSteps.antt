-- The test whether the roots reach each node, and the test of types.
use Rattle.std.proofs.Common.{◌≡◌, ◌↔◌, ℕ, Bool, true, ◌&&◌, ltb, IsTrue, List, [], refl, sym, ◌∙◌, subst}
use Rattle.std.proofs.lemmas.Bool.{and_parts, and_from}
use Rattle.ale_declared.specs.Lists.{Has, upto, every}
use Rattle.ale_graph.specs.Structures.{Structure, count, is_node, is_root, is_formed}
use Rattle.ale_morphism.specs.Rooted.{FromRoots, IsRooted}
use Rattle.ale_morphism.specs.Visible.{Visible, some, is_bound_to, is_start, is_visible}
use Rattle.ale_morphism.specs.Reaching.{starting, flags_of}
use Rattle.ale_graph.proofs.Lists.{has_map, has_upto, below_upto, every_has, every_from}
use Rattle.ale_morphism.proofs.ReachSteps.{flags_same, or_none}
use Rattle.ale_morphism.proofs.VisibleLaws.{has_mapped, is_part, visible_reached, rooted_is}

module _ (s : Structure) (formed : IsTrue (is_formed s)) where
  -- without its differing pairs
  abbrev bare : Structure
  bare = starting s [] s.roots

  bare_formed : IsTrue (is_formed bare)
  bare_formed =
      let nodes = and_parts (every (is_node (count s)) s.nodes) (every (λ (p : ℕ × ℕ). ltb p.0 (count s) && ltb p.1 (count s)) s.differ && every (is_root (count s)) s.roots) formed in
      let rest = and_parts (every (λ (p : ℕ × ℕ). ltb p.0 (count s) && ltb p.1 (count s)) s.differ) (every (is_root (count s)) s.roots) nodes.1 in
      and_from (every (is_node (count s)) s.nodes) (every (is_root (count s)) s.roots) nodes.0 rest.1

  pub roots_start : (flags : List Bool) → flags ≡ flags_of s (λ n. some (is_bound_to n) s.roots) → flags ≡ flags_of s (is_start bare)
  roots_start flags e = e ∙ flags_same (count s) (λ n. some (is_bound_to n) s.roots) (is_start bare) (λ n lt. sym (or_none (some (is_bound_to n) s.roots)))

  to_bare : (n : ℕ) → FromRoots s n → Visible bare n
  to_bare n (FromRoots.root i _ e) = Visible.root i n e
  to_bare n (FromRoots.value m f _ from e) = Visible.value m f n (to_bare m from) e

  from_bare : (n : ℕ) → FromRoots bare n → FromRoots s n
  from_bare n (FromRoots.root i _ e) = FromRoots.root i n e
  from_bare n (FromRoots.value m f _ from e) = FromRoots.value m f n (from_bare m from) e

  pub rooted_decides : (flags : List Bool) → flags ≡ flags_of s (is_visible bare) → (b : Bool) → b ≡ every (λ b. b) flags → IsTrue b ↔ IsRooted s
  rooted_decides flags e b is = (to, back)
    where
      to : IsTrue b → IsRooted s
      to yes-all n lt =
          let flag : is_visible bare n ≡ true = every_has (λ (b : Bool). b) flags (is_visible bare n) (sym is ∙ yes-all) (subst (λ (z : List Bool). Has z (is_visible bare n)) (sym e) (has_mapped (is_visible bare) (upto (count s)) n (has_upto (count s) n lt))) in
          from_bare n (rooted_is bare refl n (((is_part bare bare_formed).tested n lt).0 flag))

      back : IsRooted s → IsTrue b
      back rooted = is ∙ every_from (λ (b : Bool). b) flags (λ x h. one x (has_map (is_visible bare) (upto (count s)) x (subst (λ (z : List Bool). Has z x) e h)))
        where
          one : (x : Bool) → (n : ℕ) × Has (upto (count s)) n × (x ≡ is_visible bare n) → x ≡ true
          one x r = r.2 ∙ (visible_reached bare bare_formed r.0 (to_bare r.0 (rooted r.0 (below_upto (count s) r.0 r.1)))).1

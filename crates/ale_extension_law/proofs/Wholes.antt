-- All of an answer is a part of it.
use Rattle.std.proofs.Common.{◌≡◌, ℕ, zero, suc, List, [], ◌∷◌, map, length, refl, sym, ap, ◌∙◌, subst, arith, Some, None}
use Rattle.std.proofs.lemmas.List.{length-map}
use Rattle.ale_declared.specs.Lists.{Has}
use Rattle.ale_hierarchy.specs.Hierarchy.{Hierarchy}
use Rattle.ale_graph.specs.Structures.{Structure, IsStructure}
use Rattle.ale_graph.specs.Morphisms.{IsMorphismAside}
use Rattle.ale_graph.specs.Extensions.{Extends}
use Rattle.ale_graph.specs.Closure.{node_of}
use Rattle.ale_graph.proofs.Lists.{has_map}
use Rattle.std.proofs.lemmas.List.{append-nil}
use Rattle.ale_logic.specs.Programs.{Element, Program, cat, cats, derived, sem_head, member, tail}
use Rattle.ale_logic.specs.Words.{Environment, bound_in}
use Rattle.ale_logic.specs.States.{env_at}
use Rattle.ale_logic.specs.Visits.{Answer}
use Rattle.ale_logic.specs.Parts.{renamed, placed, where_rest, kept_answer, whole_of}
use Rattle.ale_logic.specs.PartLaws.{IsReattached, PartLaw}

-- a variable of an environment whose nodes go elsewhere
pub placed_bound : (to : ℕ → ℕ) (env : Environment) (v n : ℕ) → bound_in (map (placed to) env) v ≡ Some n → (m : ℕ) × (bound_in env v ≡ Some m) × (to m ≡ n)
placed_bound to [] v n b = absurd cc
placed_bound to (None ∷ env) zero n b = absurd cc
placed_bound to (Some m ∷ env) zero n b = (m, refl, cc)
placed_bound to (o ∷ env) (suc v) n b = placed_bound to env v n b

pub bound_placed : (to : ℕ → ℕ) (env : Environment) (v m : ℕ) → bound_in env v ≡ Some m → bound_in (map (placed to) env) v ≡ Some (to m)
bound_placed to [] v m b = absurd cc
bound_placed to (None ∷ env) zero m b = absurd cc
bound_placed to (Some k ∷ env) zero m b = let same : k ≡ m = cc in ap (λ i. Some (to i)) same
bound_placed to (o ∷ env) (suc v) m b = bound_placed to env v m b

same_renamed : (e : Element) → renamed (λ n. n) e ≡ e
same_renamed (member n) = refl
same_renamed (tail n) = refl
same_renamed (cat d) = refl
same_renamed (cats d) = refl
same_renamed (sem_head d) = refl
same_renamed (derived g) = refl

same_elements : (es : List Element) → es ≡ map (renamed (λ n. n)) es
same_elements [] = refl
same_elements (e ∷ es) = ap (λ x. x ∷ es) (sym (same_renamed e)) ∙ ap (λ xs. renamed (λ n. n) e ∷ xs) (same_elements es)

itself : (h : Hierarchy) (s : Structure) → IsStructure h s → Extends h s s
itself h s str = record { smaller = str; larger = str; nodes = ([], sym (append-nil s.nodes)); differ = refl; roots = refl }

reattached : (h : Hierarchy) (root : ℕ) (a : Answer) (s : Structure) (to : ℕ → ℕ) → IsStructure h s → IsMorphismAside h a.closed.graph s to → IsReattached h a (whole_of root a) s to
reattached h root a s to str m = record {
  larger = s;
  extends = itself h s str;
  map = to;
  is = m;
  agrees = λ n low. refl;
  added = λ n high low. absurd (omega arith);
}

-- an environment that is kept where elements remain
kept_bound : (es : List Element) (env : Environment) (v n : ℕ) → bound_in (where_rest es env) v ≡ Some n → bound_in env v ≡ Some n
kept_bound [] env v n b = absurd cc
kept_bound (e ∷ es) env v n b = b

whole_there : (es : List Element) (to : ℕ → ℕ) (env : Environment) (e : Element) (rest : List Element) → map (renamed to) es ≡ e ∷ rest → where_rest es env ≡ env
whole_there [] to env e rest eq = absurd cc
whole_there (x ∷ es) to env e rest eq = refl

pub whole_part : (h : Hierarchy) (program : Program) → PartLaw h program whole_of
whole_part h program root a k = record {
  is = record {
    structure = k.is.structure;
    root_below = k.is.root_below;
    env_below = λ v n b. k.is.env_below v n (kept_bound a.state.rest (kept_answer a).env v n b);
    imposed_below = k.is.imposed_below;
  };
  rest_below = k.rest_below;
  onward = λ s to m. m;
  values = λ n f v low e. (v, e);
  root_is = refl;
  rest = same_elements (map (renamed (node_of a.closed)) a.state.rest);
  imposed = λ n c has. paired n c (has_map (λ (p : ℕ × ℕ). (node_of a.closed p.0, p.1)) a.state.imposed (n, c) has);
  owes = λ owes. owes;
  env = λ v n b. placed_bound (node_of a.closed) (env_at a.state.envs 0) v n (kept_bound a.state.rest (kept_answer a).env v n b);
  env_whole = λ e es eq v m b. (node_of a.closed m, ap (λ env. bound_in env v) (whole_there a.state.rest (node_of a.closed) (kept_answer a).env e es eq) ∙ bound_placed (node_of a.closed) (env_at a.state.envs 0) v m b, refl);
  env_length = λ e es eq. ap length (whole_there a.state.rest (node_of a.closed) (kept_answer a).env e es eq) ∙ length-map (env_at a.state.envs 0) (placed (node_of a.closed));
  reattached = reattached h root a;
}
  where
    paired : (n c : ℕ) → (p : ℕ × ℕ) × Has a.state.imposed p × (let q : ℕ × ℕ = (n, c) in q ≡ (node_of a.closed p.0, p.1)) → (m : ℕ) × Has a.state.imposed (m, c) × (node_of a.closed m ≡ n)
    paired n c (p, has, e) =
        let first : n ≡ node_of a.closed p.0 = ap (λ (q : ℕ × ℕ). q.0) e in
        let second : c ≡ p.1 = ap (λ (q : ℕ × ℕ). q.1) e in
        (p.0, subst (λ i. Has a.state.imposed (p.0, i)) (sym second) has, sym first)

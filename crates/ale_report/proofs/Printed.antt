-- The answers of a search can be printed.
use Rattle.std.proofs.Common.{◌≡◌, ℕ, ◌<◌, Bool, true, false, ◌&&◌, ltb, IsTrue, Some, [], ◌∷◌, refl, sym, subst}
use Rattle.std.proofs.lemmas.Bool.Decides.{Decides-ltb}
use Rattle.ale_declared.specs.Lists.{every}
use Rattle.ale_hierarchy.specs.Hierarchy.{Hierarchy}
use Rattle.ale_graph.specs.declared.closed.Closed.{Closed}
use Rattle.ale_graph.specs.Structures.{IsStructure, is_formed, is_node, is_root, count}
use Rattle.ale_graph.specs.Closure.{node_of}
use Rattle.ale_logic.specs.declared.answer.Answer.{Answer}
use Rattle.ale_logic.specs.Descriptions.{Description}
use Rattle.ale_search.specs.Solutions.{IsAnswer}
use Rattle.ale_search.specs.Views.{empty_program}
use Rattle.ale_report.specs.Parts.{rooted}
use Rattle.ale_report.specs.Printing.{IsPrinted}

last_by : (a b x y : Bool) → IsTrue (a && (b && x)) → IsTrue y → IsTrue (a && (b && y))
last_by true true x y h k = k
last_by true false x y h k = absurd cc
last_by false b x y h k = absurd cc

below : (a b : ℕ) → a < b → IsTrue (ltb a b && true)
below a b low = subst (λ t. IsTrue (t && true)) (sym ((Decides-ltb a b).1 low)) refl

rooted_is_formed : (c : Closed) → IsTrue (is_formed c.graph) → node_of c 0 < count c.graph → IsTrue (is_formed (rooted c))
rooted_is_formed c formed low =
    last_by (every (is_node (count c.graph)) c.graph.nodes)
    (every (λ p. ltb p.0 (count c.graph) && ltb p.1 (count c.graph)) c.graph.differ)
    (every (is_root (count c.graph)) c.graph.roots)
    (every (is_root (count c.graph)) (Some (node_of c 0) ∷ [])) formed (below (node_of c 0) (count c.graph) low)

-- roots are no part of what makes a structure total and extensional
pub printed : (h : Hierarchy) (d : Description) (c : Answer) → IsAnswer h empty_program d c → IsPrinted h c
printed h d c is =
    let s = is.is.model.structure in
    record {
      structure = record {
        formed = rooted_is_formed c.closed s.formed is.is.node;
        total = record { types = s.total.types; there = s.total.there; only = s.total.only };
        extensional = s.extensional;
        apart = s.apart;
      };
      root = is.is.node;
    }

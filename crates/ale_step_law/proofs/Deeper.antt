-- What is derivable at a depth is so at each greater one; numbers that stand for nodes.
use Rattle.std.proofs.Common.{◌≡◌, ℕ, zero, suc, ◌+◌, ◌≤◌, List, length, map, inl, inr, refl, ap, arith}
use Rattle.ale_hierarchy.specs.Hierarchy.{Hierarchy}
use Rattle.ale_graph.specs.Structures.{Structure}
use Rattle.ale_logic.specs.Goals.{Goal, Goals, yes, cut, each, either, equal, call, unless, if_else, once, no_goal, and_goal}
use Rattle.ale_logic.specs.Programs.{Program}
use Rattle.ale_logic.specs.Derivations.{DerivableBy, EachDerivableBy, OneDerivableBy, Calls}
use Rattle.ale_logic.specs.GoalKids.{numbers}
use Rattle.ale_logic.specs.WellFormed.{AreBelow}

module _ (h : Hierarchy) (s : Structure) (few many : ℕ → List ℕ → Type 0) (more : (p : ℕ) (ns : List ℕ) → few p ns → many p ns) (assign : ℕ → ℕ) where
  mutual
    pub derivable_more : (g : Goal) → DerivableBy h s few assign g → DerivableBy h s many assign g
    derivable_more yes p = tt
    derivable_more cut p = absurd p
    derivable_more (each gs) p = each_more gs p
    derivable_more (either gs) p = some_more gs p
    derivable_more (equal d e) p = p
    derivable_more (call q ds) p = record { nodes = p.nodes; many = p.many; hold = p.hold; called = more q p.nodes p.called }
    derivable_more (unless g) p = absurd p
    derivable_more (if_else c t e) p = absurd p
    derivable_more (once c t) p = absurd p

    pub each_more : (gs : Goals) → EachDerivableBy h s few assign gs → EachDerivableBy h s many assign gs
    each_more no_goal p = tt
    each_more (and_goal g gs) p = (derivable_more g p.0, each_more gs p.1)

    some_more : (gs : Goals) → OneDerivableBy h s few assign gs → OneDerivableBy h s many assign gs
    some_more no_goal p = absurd p
    some_more (and_goal g gs) (inl p) = inl (derivable_more g p)
    some_more (and_goal g gs) (inr p) = inr (some_more gs p)

pub calls_deeper : (h : Hierarchy) (program : Program) (s : Structure) (m n : ℕ) → n ≤ m → (p : ℕ) (ns : List ℕ) → Calls h program s n p ns → Calls h program s m p ns
calls_deeper h program s m zero le p ns k = absurd k
calls_deeper h program s zero (suc n) le p ns k = absurd (omega arith)
calls_deeper h program s (suc m) (suc n) le p ns k = record {
  clause = k.clause;
  has = k.has;
  assign = k.assign;
  nodes = k.nodes;
  args = k.args;
  body = derivable_more h s (Calls h program s n) (Calls h program s m) (calls_deeper h program s m n (omega arith)) k.assign k.clause.body k.body;
}

pub numbers_below : (n k top : ℕ) → n + k ≤ top → AreBelow top (numbers n k)
numbers_below n zero top le = tt
numbers_below n (suc k) top le = (omega arith, numbers_below (suc n) k top (omega arith))

pub length_numbers : (f : ℕ → ℕ) (n k : ℕ) → length (map f (numbers n k)) ≡ k
length_numbers f n zero = refl
length_numbers f n (suc k) = ap suc (length_numbers f (suc n) k)

-- What there is to speak of grows along a search, and what fits stays so.
use Rattle.std.proofs.Common.{◌≡◌, ℕ, ◌<◌, ◌≤◌, List, [], ◌∷◌, length, refl, sym, ◌∙◌, subst, arith, Option, Some, None}
use Rattle.ale_declared.specs.Lists.{Has}
use Rattle.ale_hierarchy.specs.Hierarchy.{Hierarchy}
use Rattle.ale_graph.specs.declared.fact.Fact.{Fact}
use Rattle.ale_graph.specs.declared.fact.Fact.TheVariants.{OfType, Value, Same, Differ}
use Rattle.ale_graph.specs.Facts.{FitsFact}
use Rattle.ale_logic.specs.Descriptions.{Description, FitsDescription}
use Rattle.ale_logic.specs.Goals.{Goal, FitsGoal}
use Rattle.ale_logic.specs.Programs.{Element, cat, cats, derived, sem_head, member, tail}
use Rattle.ale_logic.specs.States.{Demand, holds, ends_with, leads, generates, generates_all, Target, Piece, word, phrase, Item, on, take, derive, called, cuts, stop, split, pivot, connect, env_at}
use Rattle.ale_logic.specs.WellFormed.{Scope, FitsIn, FitsGoalIn, FitsEnd, FitsDemand, AreBelow, FitPieces, FitsTarget, FitsItem, FitItems, FitsRest}

-- the second has all that there is in the first
pub record Wider (c d : Scope) : Type 0 where
  pub facts : (x : Fact) → Has c.facts x → Has d.facts x
  pub next : c.next ≤ d.next
  pub envs : length c.envs ≤ length d.envs
  pub lengths : (e : ℕ) → e < length c.envs → length (env_at d.envs e) ≡ length (env_at c.envs e)
  pub phrases : c.phrases ≤ d.phrases

pub wider_self : (c : Scope) → Wider c c
wider_self c = record { facts = λ x p. p; next = omega arith; envs = omega arith; lengths = λ e low. refl; phrases = omega arith }

pub wider_on : (a b c : Scope) → Wider a b → Wider b c → Wider a c
wider_on a b c p q = record {
  facts = λ x e. q.facts x (p.facts x e);
  next = let i = p.next in let j = q.next in omega arith;
  envs = let i = p.envs in let j = q.envs in omega arith;
  lengths = λ e low. q.lengths e (let i = p.envs in omega arith) ∙ p.lengths e low;
  phrases = let i = p.phrases in let j = q.phrases in omega arith;
}

pub fact_wider : (h : Hierarchy) (a b : ℕ) → a ≤ b → (x : Fact) → FitsFact h a x → FitsFact h b x
fact_wider h a b le (OfType n t) p = let i = p.0 in (omega arith, p.1)
fact_wider h a b le (Value n f m) p = let i = p.0 in let j = p.2 in (omega arith, p.1, omega arith)
fact_wider h a b le (Same n m) p = let i = p.0 in let j = p.1 in (omega arith, omega arith)
fact_wider h a b le (Differ n m) p = let i = p.0 in let j = p.1 in (omega arith, omega arith)

module _ (h : Hierarchy) (c d : Scope) (w : Wider c d) where
  below_wider : (n : ℕ) → n < c.next → n < d.next
  below_wider n p = let i = w.next in omega arith

  phrase_wider : (g : ℕ) → g < c.phrases → g < d.phrases
  phrase_wider g p = let i = w.phrases in omega arith

  env_wider : (e : ℕ) → e < length c.envs → e < length d.envs
  env_wider e p = let i = w.envs in omega arith

  pub in_wider : (e : ℕ) (x : Description) → FitsIn h c e x → FitsIn h d e x
  in_wider e x p = (env_wider e p.0, subst (λ z. FitsDescription h z x) (sym (w.lengths e p.0)) p.1)

  pub goal_wider : (e : ℕ) (g : Goal) → FitsGoalIn h c e g → FitsGoalIn h d e g
  goal_wider e g p = (env_wider e p.0, subst (λ z. FitsGoal h z g) (sym (w.lengths e p.0)) p.1)

  end_wider : (o : Option (ℕ × Description)) → FitsEnd h c o → FitsEnd h d o
  end_wider None p = tt
  end_wider (Some end) p = (below_wider end.0 p.0, in_wider 0 end.1 p.1)

  pub demand_wider : (x : Demand) → FitsDemand h c x → FitsDemand h d x
  demand_wider (holds e x) p = in_wider e x p
  demand_wider (ends_with q b r) p = (p.0, below_wider b p.1, p.2)
  demand_wider (leads q a) p = (p.0, below_wider a p.1)
  demand_wider (generates g) p = phrase_wider g p
  demand_wider (generates_all g) p = phrase_wider g p

  nodes_wider : (ns : List ℕ) → AreBelow c.next ns → AreBelow d.next ns
  nodes_wider [] p = tt
  nodes_wider (n ∷ ns) p = (below_wider n p.0, nodes_wider ns p.1)

  pub pieces_wider : (g : ℕ) (ps : List Piece) → FitPieces c g ps → FitPieces d g ps
  pieces_wider g [] p = tt
  pieces_wider g (word u ∷ ps) p = pieces_wider g ps p
  pieces_wider g (phrase q ∷ ps) p = (p.0, phrase_wider q p.1, pieces_wider g ps p.2)

  target_wider : (t : Target) → FitsTarget c t → FitsTarget d t
  target_wider t p = (below_wider t.node p.0, phrase_wider t.phrase p.1)

  pub item_wider : (i : Item) → FitsItem h c i → FitsItem h d i
  item_wider (on n x) p = (below_wider n p.0, demand_wider x p.1)
  item_wider (take n f x) p = (below_wider n p.0, p.1, demand_wider x p.2, (p.3.0, w.facts (OfType n p.3.0) p.3.1, p.3.2))
  item_wider (derive e k g) p = goal_wider e g p
  item_wider (called q ns) p = nodes_wider ns p
  item_wider (cuts k) p = tt
  item_wider stop p = tt
  item_wider (split n o) p = (below_wider n p.0, end_wider o p.1)
  item_wider (pivot sem t) p = (below_wider sem p.0, target_wider t p.1)
  item_wider (connect q us t) p = (below_wider q p.0, target_wider t p.1, pieces_wider t.phrase us p.2)

  pub items_wider : (is : List Item) → FitItems h c is → FitItems h d is
  items_wider [] p = tt
  items_wider (i ∷ is) p = (item_wider i p.0, items_wider is p.1)

  pub rest_wider : (e : Element) → FitsRest h c e → FitsRest h d e
  rest_wider (cat x) p = in_wider 0 x p
  rest_wider (cats x) p = in_wider 0 x p
  rest_wider (sem_head x) p = in_wider 0 x p
  rest_wider (derived g) p = goal_wider 0 g p
  rest_wider (member n) p = below_wider n p
  rest_wider (tail n) p = below_wider n p

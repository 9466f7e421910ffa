-- The start of a lexical rule on an entry: it is a state, and a structure satisfies it where the entry goes, the
-- rule's input holds at the entry's root and its output at another node, and its goal is derived.
use Rattle.std.proofs.Common.{◌≡◌, ℕ, ◌+◌, ◌<◌, ◌≤◌, ltb, List, [], length, replicate, ◌⊎◌, inl, inr, refl, sym, ap, ◌∙◌, subst, arith, Option, Some, None, if◌then◌else◌}
use Rattle.std.proofs.lemmas.Bool.{lt-ltb, le-ltb}
use Rattle.std.proofs.lemmas.List.{length-replicate}
use Rattle.ale_declared.specs.Lists.{Has}
use Rattle.ale_hierarchy.specs.Hierarchy.{Hierarchy, IsLawful}
use Rattle.ale_graph.specs.Structures.{Structure, count}
use Rattle.ale_graph.specs.Facts.{Fits, Holds}
use Rattle.ale_graph.specs.Morphisms.{IsMorphismAside}
use Rattle.ale_graph.proofs.Lists.{has_map}
use Rattle.ale_logic.specs.Descriptions.{HoldsAt, IsAssignment, FitsDescription}
use Rattle.ale_logic.specs.Goals.{Goal, FitsGoal, IsPlain}
use Rattle.ale_logic.specs.Programs.{LexicalRule, Element, Program, goal_of}
use Rattle.ale_logic.specs.Fitting.{FitsLexicalRule}
use Rattle.ale_logic.specs.Derivations.{Derivable}
use Rattle.ale_logic.specs.Words.{Entry, IsEntry, Grammar}
use Rattle.ale_logic.specs.States.{holds, on, State, doing, grown}
use Rattle.ale_logic.specs.GoalKids.{doing_goal}
use Rattle.ale_logic.specs.Putting.{graph_facts, moved, putting}
use Rattle.ale_logic.specs.Starts.{nothing, start_lex}
use Rattle.ale_logic.specs.StartLaws.{IsQuietStart}
use Rattle.ale_logic.specs.WellFormed.{ArePlainItems}
use Rattle.ale_logic.specs.Satisfaction.{Sense, Satisfies}
use Rattle.ale_extension_law.proofs.Puts.{put_law}
use Rattle.ale_extension_law.proofs.Through.{along_nodes}
use Rattle.ale_step_law.proofs.PutFits.{graph_fits}
use Rattle.ale_run_law.proofs.First.{none_bound}

-- with this goal, where there is one
abbrev pub start_of : LexicalRule → Entry → Option Goal → State
start_of rule x o =
    let st : State = putting x.kept (nothing (replicate rule.slots None) []) in
    doing (on x.root (holds 0 rule.input)) (doing (on st.next (holds 0 rule.output)) (doing_goal 0 0 o (grown 1 st)))

-- the entry's nodes, and then one more
pub pick : ℕ → (ℕ → ℕ) → ℕ → ℕ → ℕ
pick size to m n = if ltb n size then to n else m

pick_old : (size : ℕ) (to : ℕ → ℕ) (m n : ℕ) → n < size → pick size to m n ≡ to n
unfolding pick
pick_old size to m n low = ap (λ b. if b then to n else m) (lt-ltb n size low)

pick_new : (size : ℕ) (to : ℕ → ℕ) (m n : ℕ) → size ≤ n → pick size to m n ≡ m
unfolding pick
pick_new size to m n high = ap (λ b. if b then to n else m) (le-ltb n size high)

abbrev unbound : Option ℕ
unbound = None

first_length : (slots : ℕ) → slots ≡ length (replicate slots unbound)
first_length slots = sym (length-replicate slots unbound)

module _ (h : Hierarchy) (rule : LexicalRule) (x : Entry) where
  -- the number of the output's node
  abbrev pub output : ℕ
  output = 0 + count x.kept.graph

  module _ (law : IsLawful h) (fit : FitsLexicalRule h rule) (is : IsEntry h x) where
    facts_fit : Fits h (graph_facts 0 x.kept.graph) (output + 1)
    facts_fit = graph_fits h law x.kept.graph is.structure 0 (output + 1) (omega arith)

    imposed_inside : (n k : ℕ) → Has (moved 0 x.kept.imposed) (n, k) → n < output + 1
    imposed_inside n k has =
        let r = has_map (λ (p : ℕ × ℕ). (0 + p.0, p.1)) x.kept.imposed (n, k) has in
        let low = is.imposed_below r.0.0 r.0.1 r.1 in
        let same : n ≡ 0 + r.0.0 = ap (λ (p : ℕ × ℕ). p.0) r.2 in
        omega (arith, low, same)

    input_fits : FitsDescription h (length (replicate rule.slots unbound)) rule.input
    input_fits = subst (λ k. FitsDescription h k rule.input) (first_length rule.slots) fit.input

    output_fits : FitsDescription h (length (replicate rule.slots unbound)) rule.output
    output_fits = subst (λ k. FitsDescription h k rule.output) (first_length rule.slots) fit.output

    root_low : x.root < output + 1
    root_low = let low = is.root_below in omega (arith, low)

    goes : (o : Option Goal) → FitsGoal h rule.slots (goal_of o) → IsQuietStart h (start_of rule x o)
    goes None goal = record {
      is = record {
        is = record {
          some_node = omega arith;
          facts = facts_fit;
          below = λ e v n b. absurd (none_bound rule.slots e v n b);
          items = ((root_low, (omega arith, input_fits)), ((omega arith, (omega arith, output_fits)), tt));
          rest = λ e k. absurd k;
          imposed = imposed_inside;
          said = λ g ps has. absurd has;
        };
        once = λ g low. absurd (omega arith);
      };
      quiet = (tt, (tt, tt));
    }
    goes (Some g) goal = record {
      is = record {
        is = record {
          some_node = omega arith;
          facts = facts_fit;
          below = λ e v n b. absurd (none_bound rule.slots e v n b);
          items = ((root_low, (omega arith, input_fits)), ((omega arith, (omega arith, output_fits)), ((omega arith, subst (λ k. FitsGoal h k g) (first_length rule.slots) goal), tt)));
          rest = λ e k. absurd k;
          imposed = imposed_inside;
          said = λ p ps has. absurd has;
        };
        once = λ p low. absurd (omega arith);
      };
      quiet = (tt, (tt, (tt, tt)));
    }

    pub rule_starts : IsQuietStart h (start_lex rule x)
    rule_starts = goes rule.goal fit.goal

  pub rule_plain : IsPlain (goal_of rule.goal) → ArePlainItems (start_lex rule x).agenda
  rule_plain plain = go rule.goal plain
    where
      go : (o : Option Goal) → IsPlain (goal_of o) → ArePlainItems (start_of rule x o).agenda
      go None plain = (tt, (tt, tt))
      go (Some g) plain = (tt, (tt, (plain, tt)))

  pub rule_imposed : (start_lex rule x).imposed ≡ moved 0 x.kept.imposed
  rule_imposed = go rule.goal
    where
      go : (o : Option Goal) → (start_of rule x o).imposed ≡ moved 0 x.kept.imposed
      go None = refl
      go (Some g) = refl

  pub rule_rest : (start_lex rule x).rest ≡ []
  rule_rest = go rule.goal
    where
      go : (o : Option Goal) → (start_of rule x o).rest ≡ []
      go None = refl
      go (Some g) = refl

  pub rule_said : (start_lex rule x).said ≡ []
  rule_said = go rule.goal
    where
      go : (o : Option Goal) → (start_of rule x o).said ≡ []
      go None = refl
      go (Some g) = refl

  pub rule_next : (start_lex rule x).next ≡ output + 1
  rule_next = go rule.goal
    where
      go : (o : Option Goal) → (start_of rule x o).next ≡ output + 1
      go None = refl
      go (Some g) = refl

-- the entry goes there, and the rule fits
pub record FitsThere (h : Hierarchy) (program : Program) (rule : LexicalRule) (x : Entry) (s : Structure) (node assign : ℕ → ℕ) : Type 0 where
  pub goes : IsMorphismAside h x.kept.graph s (λ n. node (0 + n))
  pub input : HoldsAt h s assign rule.input (node x.root)
  pub out : HoldsAt h s assign rule.output (node (0 + count x.kept.graph))
  pub derived : Derivable h program s assign (goal_of rule.goal)

module _ (gr : Grammar) (rule : LexicalRule) (x : Entry) (s : Structure) where
  graph_goes : (y : Sense) → ((n : ℕ) → n < count x.kept.graph → y.node (0 + n) < count s) → Holds gr.signature s y.node (graph_facts 0 x.kept.graph) → IsMorphismAside gr.signature x.kept.graph s (λ n. y.node (0 + n))
  graph_goes y into facts = (put_law gr.signature s y.node 0 x.kept.graph).down into facts

  abbrev FitsWith : Sense → Option Goal → Type 0
  FitsWith y o =
      IsMorphismAside gr.signature x.kept.graph s (λ n. y.node (0 + n))
      × HoldsAt gr.signature s (y.var 0) rule.input (y.node x.root)
      × HoldsAt gr.signature s (y.var 0) rule.output (y.node (0 + count x.kept.graph))
      × Derivable gr.signature gr.program s (y.var 0) (goal_of o)

  fits_with : (y : Sense) (remain : List Element) (o : Option Goal) → Satisfies gr s y (start_of rule x o) remain → FitsWith y o
  fits_with y remain None sat = (
    graph_goes y (λ n low. sat.fulfils.into (0 + n) (omega arith)) sat.fulfils.holds,
    sat.items.0,
    sat.items.1.0,
    (0, tt),
  )
  fits_with y remain (Some g) sat = (
    graph_goes y (λ n low. sat.fulfils.into (0 + n) (omega arith)) sat.fulfils.holds,
    sat.items.0,
    sat.items.1.0,
    sat.items.1.1.0,
  )

  pub rule_down : (y : Sense) (remain : List Element) → Satisfies gr s y (start_lex rule x) remain → FitsThere gr.signature gr.program rule x s y.node (y.var 0)
  rule_down y remain sat = let r = fits_with y remain rule.goal sat in record { goes = r.0; input = r.1; out = r.2; derived = r.3 }

  module _ (is : IsEntry gr.signature x) (to : ℕ → ℕ) (m : ℕ) (assign : ℕ → ℕ) (goes : IsMorphismAside gr.signature x.kept.graph s to) (low : m < count s) (nodes : IsAssignment s assign) where
    abbrev pub sense : Sense
    sense = record { node = pick (count x.kept.graph) to m; var = λ e v. assign v; words = λ g. [] }

    pub first_node : (n : ℕ) → n < count x.kept.graph → sense.node n ≡ to n
    first_node n less = pick_old (count x.kept.graph) to m n less

    pub last_node : sense.node (0 + count x.kept.graph) ≡ m
    last_node = pick_new (count x.kept.graph) to m (0 + count x.kept.graph) (omega arith)

    inside : (n : ℕ) → (n < count x.kept.graph) ⊎ (count x.kept.graph ≤ n) → sense.node n < count s
    inside n (inl less) = subst (λ z. z < count s) (sym (first_node n less)) (goes.into n less)
    inside n (inr high) = subst (λ z. z < count s) (sym (pick_new (count x.kept.graph) to m n high)) low

    facts_hold : Holds gr.signature s sense.node (graph_facts 0 x.kept.graph)
    facts_hold = (put_law gr.signature s sense.node 0 x.kept.graph).up is.structure.formed
        (along_nodes gr.signature x.kept.graph s to (λ n. sense.node (0 + n)) is.structure goes (λ n less. let same : 0 + n ≡ n = omega arith in ap sense.node same ∙ first_node n less))

    -- the state is satisfied in this sense
    pub rule_up : HoldsAt gr.signature s assign rule.input (to x.root) → HoldsAt gr.signature s assign rule.output m → Derivable gr.signature gr.program s assign (goal_of rule.goal) → Satisfies gr s sense (start_lex rule x) []
    rule_up input out derived = go rule.goal derived
      where
        input_there : HoldsAt gr.signature s assign rule.input (sense.node x.root)
        input_there = subst (HoldsAt gr.signature s assign rule.input) (sym (first_node x.root is.root_below)) input

        out_there : HoldsAt gr.signature s assign rule.output (sense.node (0 + count x.kept.graph))
        out_there = subst (HoldsAt gr.signature s assign rule.output) (sym last_node) out

        go : (o : Option Goal) → Derivable gr.signature gr.program s assign (goal_of o) → Satisfies gr s sense (start_of rule x o) []
        go None derived = record {
          fulfils = record { into = λ n less. inside n (grind arith); holds = facts_hold };
          nodes = λ e v. nodes v;
          is_bound = λ e v n b. absurd (none_bound rule.slots e v n b);
          is_said = λ g ps has. absurd has;
          items = (input_there, (out_there, refl));
        }
        go (Some g) derived = record {
          fulfils = record { into = λ n less. inside n (grind arith); holds = facts_hold };
          nodes = λ e v. nodes v;
          is_bound = λ e v n b. absurd (none_bound rule.slots e v n b);
          is_said = λ p ps has. absurd has;
          items = (input_there, (out_there, (derived, refl)));
        }

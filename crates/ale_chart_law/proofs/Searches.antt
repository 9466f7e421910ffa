-- One search from the start of an item: what always holds of its answers and of what is kept of them, where a model
-- arrives, and what a structure into which the answer's graph goes satisfies.
use Rattle.std.proofs.Common.{◌≡◌, ℕ, ◌<◌, true, List, [], ◌∷◌, map, length, ◌⊎◌, inl, inr, refl, sym, ap, ◌∙◌, subst, arith, Option, Some, None}
use Rattle.std.proofs.Math.Path.{fun_ext}
use Rattle.ale_declared.specs.Lists.{Has}
use Rattle.ale_hierarchy.specs.Hierarchy.{Hierarchy}
use Rattle.ale_graph.specs.Structures.{Structure, IsStructure}
use Rattle.ale_graph.specs.Morphisms.{IsMorphismAside}
use Rattle.ale_graph.specs.Closure.{node_of}
use Rattle.ale_logic.specs.Programs.{Element, cat, cats, derived, sem_head, member, tail, Program}
use Rattle.ale_logic.specs.Fitting.{FitsElement}
use Rattle.ale_logic.specs.Models.{MeetsAt, IsModel}
use Rattle.ale_logic.specs.Descriptions.{IsAssignment}
use Rattle.ale_logic.specs.Words.{Environment, bound_in, Grammar}
use Rattle.ale_logic.specs.States.{Piece, bound, State}
use Rattle.ale_logic.specs.Satisfaction.{Sense, Satisfies}
use Rattle.ale_logic.specs.WellFormed.{IsState, ArePlainItems}
use Rattle.ale_logic.specs.Steps.{IsGrammar, IsAccounted, IsInFragment}
use Rattle.ale_logic.specs.Runs.{FreeSense, Returns, IsAnswer, IsInto, AreInFragment, ComesFrom, IsReached, RunLaw, RunLaws}
use Rattle.ale_engine.specs.Engine.{search}
use Rattle.ale_logic.specs.Visits.{Answer, visit}
use Rattle.ale_logic.specs.Parts.{Part, Extract, renamed}
use Rattle.ale_logic.specs.PartLaws.{IsElementBelow, AreElementsBelow, IsPart, PartLaw}
use Rattle.ale_logic.specs.Lexicons.{wordless}
use Rattle.ale_logic.specs.Answers.{IsAccepted}
use Rattle.ale_logic.specs.Starts.{ChartItem}
use Rattle.ale_run_law.proofs.Kept.{keepable}
use Rattle.ale_chart_law.proofs.Items.{IsStart}

-- an element renamed twice
pub renamed_twice : (f g : ℕ → ℕ) (es : List Element) → map (renamed g) (map (renamed f) es) ≡ map (renamed (λ n. g (f n))) es
renamed_twice f g [] = refl
renamed_twice f g (cat d ∷ es) = ap (λ z. cat d ∷ z) (renamed_twice f g es)
renamed_twice f g (cats d ∷ es) = ap (λ z. cats d ∷ z) (renamed_twice f g es)
renamed_twice f g (sem_head d ∷ es) = ap (λ z. sem_head d ∷ z) (renamed_twice f g es)
renamed_twice f g (derived goal ∷ es) = ap (λ z. derived goal ∷ z) (renamed_twice f g es)
renamed_twice f g (member n ∷ es) = ap (λ z. member (g (f n)) ∷ z) (renamed_twice f g es)
renamed_twice f g (tail n ∷ es) = ap (λ z. tail (g (f n)) ∷ z) (renamed_twice f g es)

-- elements that name nodes below n, renamed by maps that agree there
pub renamed_same : (f g : ℕ → ℕ) (n : ℕ) → ((k : ℕ) → k < n → f k ≡ g k) → (es : List Element) → ((e : Element) → Has es e → IsElementBelow n e) → map (renamed f) es ≡ map (renamed g) es
renamed_same f g n same [] low = refl
renamed_same f g n same (e ∷ es) low = go e (low e (inl refl)) (renamed_same f g n same es (λ d has. low d (inr has)))
  where
    go : (d : Element) → IsElementBelow n d → map (renamed f) es ≡ map (renamed g) es → renamed f d ∷ map (renamed f) es ≡ renamed g d ∷ map (renamed g) es
    go (cat x) b ih = ap (λ z. cat x ∷ z) ih
    go (cats x) b ih = ap (λ z. cats x ∷ z) ih
    go (sem_head x) b ih = ap (λ z. sem_head x ∷ z) ih
    go (derived x) b ih = ap (λ z. derived x ∷ z) ih
    go (member k) b ih = ap (λ z. member z ∷ map (renamed f) es) (same k b) ∙ ap (λ z. member (g k) ∷ z) ih
    go (tail k) b ih = ap (λ z. tail z ∷ map (renamed f) es) (same k b) ∙ ap (λ z. tail (g k) ∷ z) ih

pub none_left : (f : ℕ → ℕ) (xs : List Element) → map (renamed f) xs ≡ [] → xs ≡ []
none_left f [] p = refl
none_left f (x ∷ xs) p = absurd cc

-- a rule's elements name no nodes
pub rule_renamed : (h : Hierarchy) (f : ℕ → ℕ) (slots : ℕ) (es : List Element) → ((e : Element) → Has es e → FitsElement h slots e) → map (renamed f) es ≡ es
rule_renamed h f slots [] fit = refl
rule_renamed h f slots (e ∷ es) fit = go e (fit e (inl refl)) (rule_renamed h f slots es (λ d has. fit d (inr has)))
  where
    go : (d : Element) → FitsElement h slots d → map (renamed f) es ≡ es → renamed f d ∷ map (renamed f) es ≡ d ∷ es
    go (cat x) b ih = ap (λ z. cat x ∷ z) ih
    go (cats x) b ih = ap (λ z. cats x ∷ z) ih
    go (sem_head x) b ih = ap (λ z. sem_head x ∷ z) ih
    go (derived x) b ih = ap (λ z. derived x ∷ z) ih
    go (member n) b ih = absurd b
    go (tail n) b ih = absurd b

module _ (h : Hierarchy) (program : Program) (ok : IsAccepted h program) (runs : RunLaws) where
  abbrev pub gr : Grammar
  gr = wordless h program

  pub is_grammar : IsGrammar gr
  is_grammar = record { lawful = ok.lawful; program = ok.fits; words = λ e has. elim has [ inl p ↦ absurd p | inr p ↦ absurd p ] }

  run : (st : State) → IsState h st → (budget : ℕ) → RunLaw gr (st ∷ []) budget
  run st is budget = runs gr (st ∷ []) budget is_grammar (λ s has. elim has [ inl p ↦ subst (IsState h) (sym p) is | inr p ↦ absurd p ])

  -- The structure into which the answer's graph goes satisfies the start, where its first variables stand for what they
  -- are assigned.
  pub record Back (st : State) (a : Answer) (s : Structure) (to assign : ℕ → ℕ) : Type 0 where
    pub sense : Sense
    pub node : sense.node ≡ (λ n. to (node_of a.closed n))
    pub var : sense.var 0 ≡ assign
    pub satisfies : Satisfies gr s sense st a.state.rest
    pub accounted : (n k : ℕ) → Has a.state.imposed (n, k) → Has st.imposed (n, k) ⊎ MeetsAt h program s k (to (node_of a.closed n))

  -- each variable that the answer has bound is assigned where its node goes
  abbrev pub IsFor : Answer → Structure → (ℕ → ℕ) → (ℕ → ℕ) → Type 0
  IsFor a s to assign = (v n : ℕ) → bound a.state.envs 0 v ≡ Some n → assign v ≡ to (node_of a.closed n)

  pub record Came (st : State) (a : Answer) : Type 0 where
    pub is : IsAnswer gr st a
    pub back : (s : Structure) (to : ℕ → ℕ) → IsStructure h s → IsMorphismAside h a.closed.graph s to → (assign : ℕ → ℕ) → IsAssignment s assign → IsFor a s to assign → Back st a s to assign

  came_at : (x : ChartItem) (st : State) → IsStart h x st → (a : Answer) → IsAnswer gr st a → ((s : Structure) (to : ℕ → ℕ) → IsInto gr a s to → (free : FreeSense s a) → Returns gr s st a to free) → Came st a
  came_at x st start a is back = record { is = is; back = λ s to str mor assign inside agrees. at s to str mor assign inside agrees }
    where
      free : (s : Structure) (assign : ℕ → ℕ) → IsAssignment s assign → FreeSense s a
      free s assign inside = record {
        node = λ e v. assign v;
        inside = λ e v. inside v;
        words = λ g. [];
        is_said = λ g ps has. absurd (subst (λ (z : List (ℕ × List Piece)). Has z (g, ps)) (is.said start.quiet ∙ start.said) has);
      }

      at : (s : Structure) (to : ℕ → ℕ) → IsStructure h s → IsMorphismAside h a.closed.graph s to → (assign : ℕ → ℕ) → IsAssignment s assign → IsFor a s to assign → Back st a s to assign
      at s to str mor assign inside agrees =
          let r = back s to (record { structure = str; is = mor }) (free s assign inside) in
          record {
            sense = r.sense;
            node = fun_ext r.node;
            var = fun_ext (λ v. var v r (bound a.state.envs 0 v) refl);
            satisfies = r.satisfies;
            accounted = λ n k has. account n k r (r.accounted (n, k) has);
          }
        where
          var : (v : ℕ) (r : Returns gr s st a to (free s assign inside)) (o : Option ℕ) → bound a.state.envs 0 v ≡ o → r.sense.var 0 v ≡ assign v
          var v r None e = r.unbound 0 v e
          var v r (Some n) e = r.bound_to 0 v n e ∙ sym (agrees v n e)

          account : (n k : ℕ) (r : Returns gr s st a to (free s assign inside)) → IsAccounted gr s r.sense st.imposed (n, k) → Has st.imposed (n, k) ⊎ MeetsAt h program s k (to (node_of a.closed n))
          account n k r (inl p) = inl p
          account n k r (inr (inl p)) = inr (subst (λ z. MeetsAt h program s k z) (r.node n) p)
          account n k r (inr (inr b)) = elim b.has [ inl p ↦ absurd p | inr p ↦ absurd p ]

  pub came : (x : ChartItem) (st : State) → IsStart h x st → (budget : ℕ) (a : Answer) → Has (search (visit gr) budget (st ∷ [])).answers a → Came st a
  came x st start budget a has = go ((run st start.is budget).comes a has)
    where
      fragment : (z : State) → z ≡ st → IsInFragment gr z
      fragment z e = record { program = ok.plain; items = subst (λ (y : State). ArePlainItems y.agenda) (sym e) start.plain }

      go : ComesFrom gr (st ∷ []) a → Came st a
      go r = at r.state r.has r.is r.back
        where
          at : (z : State) → Has (st ∷ []) z → IsAnswer gr z a → (IsInFragment gr z → (s : Structure) (to : ℕ → ℕ) → IsInto gr a s to → (free : FreeSense s a) → Returns gr s z a to free) → Came st a
          at z (inl e) is back =
              came_at x st start a (subst (λ (y : State). IsAnswer gr y a) e is)
              (subst (λ (y : State). (s : Structure) (to : ℕ → ℕ) → IsInto gr a s to → (free : FreeSense s a) → Returns gr s y a to free) e (back (fragment z e)))
          at z (inr e) is back = absurd e

  module _ (extract : Extract) (part : PartLaw h program extract) where
    -- all of an answer can be kept, so what is kept of it is a part
    pub part_of : (st : State) (a : Answer) → IsAnswer gr st a → (root : ℕ) → root < st.next → IsPart h program root a (extract root a)
    part_of st a is root low =
        let next = is.next in
        part root a (keepable gr st a is root (omega arith))

    -- what is kept of an answer goes into the model, as the sense says of the start
    pub record Arrives (s : Structure) (x : ChartItem) (p : Part) (z : Sense) (remain : List Element) : Type 0 where
      pub to : ℕ → ℕ
      pub is : IsMorphismAside h p.kept.graph s to
      pub root_to : to p.root ≡ z.node x.root
      pub rest : map (renamed to) p.rest ≡ map (renamed z.node) remain
      pub env : (v n : ℕ) → bound_in p.kept.env v ≡ Some n → z.var 0 v ≡ to n

    pub record Arrival (s : Structure) (x : ChartItem) (found : List Answer) (z : Sense) (remain : List Element) : Type 0 where
      pub answer : Answer
      pub has : Has found answer
      pub arrives : Arrives s x (extract x.root answer) z remain

    pub arrival : (x : ChartItem) (st : State) → IsStart h x st → x.root < st.next → (budget : ℕ) → (search (visit gr) budget (st ∷ [])).finished ≡ true → (s : Structure) → IsModel h program s →
        (z : Sense) (remain : List Element) → Satisfies gr s z st remain → AreElementsBelow st.next remain → Arrival s x (search (visit gr) budget (st ∷ [])).answers z remain
    arrival x st start low budget fin s model z remain sat named =
        go ((run st start.is budget).reached fragment fin s st z remain (record { has = inl refl; is = record { model = model; satisfies = sat } }))
      where
        fragment : AreInFragment gr (st ∷ [])
        fragment y p = elim p [ inl e ↦ record { program = ok.plain; items = subst (λ (w : State). ArePlainItems w.agenda) (sym e) start.plain } | inr e ↦ absurd e ]

        go : IsReached gr s st z remain (search (visit gr) budget (st ∷ [])).answers → Arrival s x (search (visit gr) budget (st ∷ [])).answers z remain
        go r =
            let a : Answer = r.answer in
            let is : IsAnswer gr st a = (came x st start budget a r.has).is in
            let p : IsPart h program x.root a (extract x.root a) = part_of st a is x.root low in
            let next = is.next in
            let lands : (n : ℕ) → n < st.next → r.map (node_of a.closed n) ≡ z.node n = (λ n below. let far : n < a.state.next = omega arith in r.lands n far ∙ r.agrees.node n below) in
            let some : 0 < length st.envs = subst (λ (w : List Environment). 0 < length w) (sym start.envs) (omega arith) in
            record {
              answer = a;
              has = r.has;
              arrives = record {
                to = λ n. r.map ((extract x.root a).whole n);
                is = p.onward s r.map r.is;
                root_to = ap r.map p.root_is ∙ lands x.root low;
                rest =
                    sym (renamed_twice (extract x.root a).whole r.map (extract x.root a).rest)
                    ∙ ap (λ es. map (renamed r.map) es) (sym p.rest)
                    ∙ ap (λ es. map (renamed r.map) (map (renamed (node_of a.closed)) es)) r.rest
                    ∙ renamed_twice (node_of a.closed) r.map remain
                    ∙ renamed_same (λ n. r.map (node_of a.closed n)) z.node st.next lands remain named;
                env = λ v n e.
                    let b = p.env v n e in
                    sym (ap (λ f. f v) (r.agrees.var 0 some)) ∙ r.is_bound 0 v b.0 b.1 ∙ ap r.map b.2;
              };
            }

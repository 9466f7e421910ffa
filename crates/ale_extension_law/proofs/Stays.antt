-- What holds at the nodes of a structure holds there in each extension of it.
use Rattle.std.proofs.Common.{◌≡◌, ℕ, zero, suc, ◌<◌, ◌≤◌, List, [], ◌∷◌, ◌++◌, length, length-append, get_or, inl, inr, sym, ap, ◌∙◌, subst, arith, Option, Some, None}
use Rattle.std.proofs.Math.ListN.{get_or-append}
use Rattle.ale_hierarchy.specs.Hierarchy.{Hierarchy, Above}
use Rattle.ale_graph.specs.declared.node.Node.{Node}
use Rattle.ale_graph.specs.Structures.{Structure, count, node_at, type_of, value_in, value_of}
use Rattle.ale_graph.specs.Extensions.{Extends}
use Rattle.ale_graph.proofs.Structures.{value_from, value_inside}
use Rattle.ale_logic.specs.Descriptions.{Description, Descriptions, of_type, slot, at, all, any, differs, path_equation, none, more, LeadsTo, HoldsAt, AllHoldAt, SomeHoldsAt, IsAssignment, Describes}
use Rattle.ale_logic.specs.Goals.{Goal, Goals, yes, cut, each, either, equal, call, unless, if_else, once, no_goal, and_goal}
use Rattle.ale_logic.specs.Programs.{Word, Constraint, Element, EmptyDeclaration, ListTypes, Program}
use Rattle.ale_logic.specs.Derivations.{HoldEach, DerivableBy, EachDerivableBy, OneDerivableBy, Calls, Derivable}
use Rattle.ale_logic.specs.Models.{MeetsConstraint}
use Rattle.ale_logic.specs.ListNodes.{hd_of, tl_of, IsEmptyListOf, IsNonEmptyListOf, IsCell}
use Rattle.ale_logic.specs.Lexical.{LexicalAt, IsEmptyBy, IsEmptyCategory}
use Rattle.ale_logic.specs.Spans.{Spans, by_word, by_empty, by_rule, Covers, no_more, by_cat, by_head, by_cats, by_goal, by_member, by_tail, ListSpans, ends, goes_on}
use Rattle.ale_logic.specs.Staying.{StaysLaws}

module _ (h : Hierarchy) (s t : Structure) (ext : Extends h s t) where
  pub larger : count s ≤ count t
  larger =
      let e : count t ≡ length (s.nodes ++ ext.nodes.0) = ap length ext.nodes.1 in
      let l = length-append s.nodes ext.nodes.0 in
      omega arith

  pub within : (n : ℕ) → n < count s → n < count t
  within n low = let l = larger in omega arith

  pub node_stays : (n : ℕ) → n < count s → node_at t n ≡ node_at s n
  node_stays n low =
      ap (λ xs. get_or xs n (record { of = 0; values = [] })) ext.nodes.1
      ∙ get_or-append s.nodes ext.nodes.0 (record { of = 0; values = [] }) n low

  pub type_stays : (n : ℕ) → n < count s → type_of t n ≡ type_of s n
  type_stays n low = ap (λ (x : Node). x.of) (node_stays n low)

  pub value_stays : (n f m : ℕ) → value_of s n f ≡ Some m → value_of t n f ≡ Some m
  value_stays n f m e = ap (λ (x : Node). value_in x.values f) (node_stays n (value_from s n f m e)) ∙ e

  pub inside : (n f m : ℕ) → value_of s n f ≡ Some m → m < count s
  inside n f m e = value_inside s ext.smaller.formed n f m e

  above_stays : (u n : ℕ) → n < count s → Above h u (type_of s n) → Above h u (type_of t n)
  above_stays u n low = subst (Above h u) (sym (type_stays n low))

  leads : (p : List ℕ) (n m : ℕ) → LeadsTo s n p m → LeadsTo t n p m
  leads [] n m e = e
  leads (f ∷ p) n m (k, v, to) = (k, value_stays n f k v, leads p k m to)

  mutual
    holds : (assign : ℕ → ℕ) (d : Description) (n : ℕ) → n < count s → HoldsAt h s assign d n → HoldsAt h t assign d n
    holds assign (of_type u) n low k = above_stays u n low k
    holds assign (slot v) n low k = k
    holds assign (at f d) n low (m, v, k) = (m, value_stays n f m v, holds assign d m (inside n f m v) k)
    holds assign (all ds) n low k = all_hold assign ds n low k
    holds assign (any ds) n low k = some_holds assign ds n low k
    holds assign (differs d) n low (m, there, two, k) = (m, within m there, two, holds assign d m there k)
    holds assign (path_equation p q) n low (m, a, b) = (m, leads p n m a, leads q n m b)

    all_hold : (assign : ℕ → ℕ) (ds : Descriptions) (n : ℕ) → n < count s → AllHoldAt h s assign ds n → AllHoldAt h t assign ds n
    all_hold assign none n low k = tt
    all_hold assign (more d ds) n low k = (holds assign d n low k.0, all_hold assign ds n low k.1)

    some_holds : (assign : ℕ → ℕ) (ds : Descriptions) (n : ℕ) → n < count s → SomeHoldsAt h s assign ds n → SomeHoldsAt h t assign ds n
    some_holds assign none n low k = absurd k
    some_holds assign (more d ds) n low (inl k) = inl (holds assign d n low k)
    some_holds assign (more d ds) n low (inr k) = inr (some_holds assign ds n low k)

  assigns : (assign : ℕ → ℕ) → IsAssignment s assign → IsAssignment t assign
  assigns assign k v = within (assign v) (k v)

  each_holds : (assign : ℕ → ℕ) (ds : Descriptions) (ns : List ℕ) → HoldEach h s assign ds ns → HoldEach h t assign ds ns
  each_holds assign none ns k = tt
  each_holds assign (more d ds) [] k = tt
  each_holds assign (more d ds) (n ∷ ns) (low, k, rest) = (within n low, holds assign d n low k, each_holds assign ds ns rest)

  mutual
    derived : (before now : ℕ → List ℕ → Type 0) → ((p : ℕ) (ns : List ℕ) → before p ns → now p ns) → (assign : ℕ → ℕ) (g : Goal) → DerivableBy h s before assign g → DerivableBy h t now assign g
    derived before now on assign yes k = tt
    derived before now on assign cut k = absurd k
    derived before now on assign (each gs) k = each_derived before now on assign gs k
    derived before now on assign (either gs) k = one_derived before now on assign gs k
    derived before now on assign (equal d e) (n, low, a, b) = (n, within n low, holds assign d n low a, holds assign e n low b)
    derived before now on assign (call p ds) k = record {
      nodes = k.nodes;
      many = k.many;
      hold = each_holds assign ds k.nodes k.hold;
      called = on p k.nodes k.called;
    }
    derived before now on assign (unless g) k = absurd k
    derived before now on assign (if_else c u v) k = absurd k
    derived before now on assign (once c u) k = absurd k

    each_derived : (before now : ℕ → List ℕ → Type 0) → ((p : ℕ) (ns : List ℕ) → before p ns → now p ns) → (assign : ℕ → ℕ) (gs : Goals) → EachDerivableBy h s before assign gs → EachDerivableBy h t now assign gs
    each_derived before now on assign no_goal k = tt
    each_derived before now on assign (and_goal g gs) k = (derived before now on assign g k.0, each_derived before now on assign gs k.1)

    one_derived : (before now : ℕ → List ℕ → Type 0) → ((p : ℕ) (ns : List ℕ) → before p ns → now p ns) → (assign : ℕ → ℕ) (gs : Goals) → OneDerivableBy h s before assign gs → OneDerivableBy h t now assign gs
    one_derived before now on assign no_goal k = absurd k
    one_derived before now on assign (and_goal g gs) (inl k) = inl (derived before now on assign g k)
    one_derived before now on assign (and_goal g gs) (inr k) = inr (one_derived before now on assign gs k)

  module _ (program : Program) where
    calls : (depth p : ℕ) (ns : List ℕ) → Calls h program s depth p ns → Calls h program t depth p ns
    calls zero p ns k = absurd k
    calls (suc depth) p ns k = record {
      clause = k.clause;
      has = k.has;
      assign = k.assign;
      nodes = assigns k.assign k.nodes;
      args = each_holds k.assign k.clause.args ns k.args;
      body = derived (Calls h program s depth) (Calls h program t depth) (calls depth) k.assign k.clause.body k.body;
    }

    derivable : (assign : ℕ → ℕ) (g : Goal) → Derivable h program s assign g → Derivable h program t assign g
    derivable assign g (depth, k) = (depth, derived (Calls h program s depth) (Calls h program t depth) (calls depth) assign g k)

    meets : (c : Constraint) (n : ℕ) → n < count s → MeetsConstraint h program s c n → MeetsConstraint h program t c n
    meets c n low k = record {
      assign = k.assign;
      nodes = assigns k.assign k.nodes;
      holds = holds k.assign c.desc n low k.holds;
      derived = derivable k.assign _ k.derived;
    }

    empty_list_of : (o : Option ListTypes) (n : ℕ) → n < count s → IsEmptyListOf h o s n → IsEmptyListOf h o t n
    empty_list_of None n low k = absurd k
    empty_list_of (Some l) n low k = above_stays l.e_list n low k

    list_of : (o : Option ListTypes) (n : ℕ) → n < count s → IsNonEmptyListOf h o s n → IsNonEmptyListOf h o t n
    list_of None n low k = absurd k
    list_of (Some l) n low k = above_stays l.ne_list n low k

    hd_stays : (o : Option ListTypes) (n m : ℕ) → hd_of o s n ≡ Some m → hd_of o t n ≡ Some m
    hd_stays None n m e = e
    hd_stays (Some l) n m e = value_stays n l.hd m e

    tl_stays : (o : Option ListTypes) (n m : ℕ) → tl_of o s n ≡ Some m → tl_of o t n ≡ Some m
    tl_stays None n m e = e
    tl_stays (Some l) n m e = value_stays n l.tl m e

    cell : (n hd tl : ℕ) → n < count s → IsCell h program s n hd tl → IsCell h program t n hd tl
    cell n hd tl low k = record {
      is_list = list_of program.lists n low k.is_list;
      hd_is = hd_stays program.lists n hd k.hd_is;
      tl_is = tl_stays program.lists n tl k.tl_is;
    }

    describes : (d : Description) (n : ℕ) → n < count s → Describes h s d n → Describes h t d n
    describes d n low k = record { assign = k.assign; nodes = assigns k.assign k.nodes; holds = holds k.assign d n low k.holds }

    lexical_inside : (depth : ℕ) (w : Word) (n : ℕ) → LexicalAt h program s depth w n → n < count s
    lexical_inside zero w n k = k.inside
    lexical_inside (suc depth) w n k = k.inside

    lexical : (depth : ℕ) (w : Word) (n : ℕ) → LexicalAt h program s depth w n → LexicalAt h program t depth w n
    lexical zero w n k = record {
      declaration = k.declaration;
      has = k.has;
      word = k.word;
      inside = within n k.inside;
      describes = describes k.declaration.desc n k.inside k.describes;
    }
    lexical (suc depth) w n k = record {
      rule = k.rule;
      has = k.has;
      word = k.word;
      becomes = k.becomes;
      inside = within n k.inside;
      node = k.node;
      lexical = lexical depth k.word k.node k.lexical;
      assign = k.assign;
      nodes = assigns k.assign k.nodes;
      input = holds k.assign k.rule.input k.node (lexical_inside depth k.word k.node k.lexical) k.input;
      output = holds k.assign k.rule.output n k.inside k.output;
      derived = derivable k.assign _ k.derived;
    }

    empty : (e : EmptyDeclaration) (n : ℕ) → IsEmptyBy h e s n → IsEmptyBy h e t n
    empty e n k = (within n k.0, describes e.desc n k.0 k.1)

    empty_category : (n : ℕ) → IsEmptyCategory h program s n → IsEmptyCategory h program t n
    empty_category n (e, has, k) = (e, has, empty e n k)

    spans_inside : (words : List Word) (n i k : ℕ) → Spans h program s words n i k → n < count s
    spans_inside words n i k (by_word _ _ w e (depth, few, l)) = lexical_inside depth w n l
    spans_inside words n i k (by_empty _ _ (e, has, l)) = l.0
    spans_inside words n i k (by_rule _ _ _ r assign has nodes low mother covers) = low

    list_inside : (words : List Word) (n i k : ℕ) → ListSpans h program s words n i k → n < count s
    list_inside words n i k (ends _ _ low e) = low
    list_inside words n i k (goes_on _ hd tl _ j _ low c a b) = low

    mutual
      spans : (words : List Word) (n i k : ℕ) → Spans h program s words n i k → Spans h program t words n i k
      spans words n i k (by_word _ _ w e (depth, few, l)) = by_word n i w e (depth, few, lexical depth w n l)
      spans words n i k (by_empty _ _ (e, has, l)) = by_empty n i (e, has, empty e n l)
      spans words n i k (by_rule _ _ _ r assign has nodes low mother c) = by_rule n i k r assign has (assigns assign nodes) (within n low) (holds assign r.mother n low mother) (covers words assign r.elements i k c)

      covers : (words : List Word) (assign : ℕ → ℕ) (es : List Element) (i k : ℕ) → Covers h program s words assign es i k → Covers h program t words assign es i k
      covers words assign es i k (no_more _ _) = no_more assign i
      covers words assign _ i k (by_cat _ d es m _ j _ here c rest) = by_cat assign d es m i j k (holds assign d m (spans_inside words m i j c) here) (spans words m i j c) (covers words assign es j k rest)
      covers words assign _ i k (by_head _ d es m _ j _ here c rest) = by_head assign d es m i j k (holds assign d m (spans_inside words m i j c) here) (spans words m i j c) (covers words assign es j k rest)
      covers words assign _ i k (by_cats _ d es m _ j _ here c rest) = by_cats assign d es m i j k (holds assign d m (list_inside words m i j c) here) (list_spans words m i j c) (covers words assign es j k rest)
      covers words assign _ i k (by_goal _ g es _ _ d rest) = by_goal assign g es i k (derivable assign g d) (covers words assign es i k rest)
      covers words assign _ i k (by_member _ es m hd _ j _ e c rest) = by_member assign es m hd i j k (hd_stays program.lists m hd e) (spans words hd i j c) (covers words assign es j k rest)
      covers words assign _ i k (by_tail _ es m tl _ j _ e c rest) = by_tail assign es m tl i j k (tl_stays program.lists m tl e) (list_spans words tl i j c) (covers words assign es j k rest)

      list_spans : (words : List Word) (n i k : ℕ) → ListSpans h program s words n i k → ListSpans h program t words n i k
      list_spans words n i k (ends _ _ low e) = ends n i (within n low) (empty_list_of program.lists n low e)
      list_spans words n i k (goes_on _ hd tl _ j _ low c a b) = goes_on n hd tl i j k (within n low) (cell n hd tl low c) (spans words hd i j a) (list_spans words tl j k b)

pub stays_law : StaysLaws
stays_law h program s t ext = record {
  larger = larger h s t ext;
  types = type_stays h s t ext;
  values = value_stays h s t ext;
  assigns = assigns h s t ext;
  holds = holds h s t ext;
  calls = calls h s t ext program;
  derivable = derivable h s t ext program;
  meets = meets h s t ext program;
  empty_list = empty_list_of h s t ext program program.lists;
  non_empty_list = list_of h s t ext program program.lists;
  hds = hd_stays h s t ext program program.lists;
  tls = tl_stays h s t ext program program.lists;
  lexical = lexical h s t ext program;
  empty = empty_category h s t ext program;
  spans = spans h s t ext program;
}

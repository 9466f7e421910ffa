-- The defined output: the relation and the function say the same, and which status stands for which cause.
use Rattle.std.proofs.Common.{◌≡◌, ◌↔◌, ℕ, Bool, true, false, ◌&&◌, List, [], ◌∷◌, inl, inr, Result, Ok, Err, refl, sym, ap, ◌∙◌, subst}
use Rattle.ale_relation.specs.Has.{Has}
use Rattle.ale_declared.specs.Declarations.{Declared}
use Rattle.ale_load.specs.declared.grammar_error.GrammarError.{GrammarError}
use Rattle.ale_load.specs.declared.command_error.CommandError.{CommandError}
use Rattle.ale_load.specs.Grammars.{LoadedData, IsLoaded, load_of}
use Rattle.ale_load.specs.Commands.{QueryData, AreCommands, commands_of}
use Rattle.ale_load.specs.Laws.{LoadLaw, CommandsLaw}
use Rattle.ale_top.specs.declared.status.Status.{Status}
use Rattle.ale_top.specs.declared.status.Status.TheVariants.{Done, Unfinished, Grammar, Commands}
use Rattle.ale_top.specs.Lines.{grammar_line, command_line}
use Rattle.ale_top.specs.Output.{search_for, all_finished, answers_text, Output, grammar_refused, commands_refused, answered, Ending, ending, after_commands, after_grammar, outcome}
use Rattle.ale_top.specs.Runs.{IsAcceptedGrammar, Asks, AreAccepted, Finishes, Unfinishes}

-- some status and text are defined for all texts
pub record HasOutput (g c : List ℕ) (budget : ℕ) : Type 0 where
  pub status : Status
  pub text : List ℕ
  pub output : Output g c budget status text

-- the status that is owed is the one of its cause
pub record Causes (g c : List ℕ) (budget : ℕ) (s : Status) : Type 0 where
  pub grammar : (s ≡ Grammar) ↔ (IsAcceptedGrammar g → ⊥)
  pub commands : (s ≡ Commands) ↔ (IsAcceptedGrammar g × (AreAccepted g c → ⊥))
  pub done : (s ≡ Done) ↔ Finishes g c budget
  pub unfinished : (s ≡ Unfinished) ↔ Unfinishes g c budget

-- a grammar with its commands: which of the four endings it has
pub data Ends (g c : List ℕ) (budget : ℕ) : Status → Type 0 where
  by_grammar : (IsAcceptedGrammar g → ⊥) → Ends g c budget Grammar
  by_commands : IsAcceptedGrammar g → (AreAccepted g c → ⊥) → Ends g c budget Commands
  by_finishing : IsAcceptedGrammar g → AreAccepted g c → Finishes g c budget → (Unfinishes g c budget → ⊥) → Ends g c budget Done
  by_budget : IsAcceptedGrammar g → AreAccepted g c → Unfinishes g c budget → (Finishes g c budget → ⊥) → Ends g c budget Unfinished

-- every search ended, or one did not
all_ended : (d : Declared) (budget : ℕ) (qs : List QueryData) → all_finished d budget qs ≡ true → (q : QueryData) → Has qs q → (search_for d budget q).finished ≡ true
all_ended d budget [] e q has = absurd has
all_ended d budget (p ∷ ps) e q (inl same) = subst (λ z. (search_for d budget z).finished ≡ true) (sym same) (first (search_for d budget p).finished (all_finished d budget ps) e)
  where
    first : (a b : Bool) → (a && b) ≡ true → a ≡ true
    first true b e = refl
    first false b e = absurd cc
all_ended d budget (p ∷ ps) e q (inr has) = all_ended d budget ps (rest (search_for d budget p).finished (all_finished d budget ps) e) q has
  where
    rest : (a b : Bool) → (a && b) ≡ true → b ≡ true
    rest true b e = e
    rest false b e = absurd cc

abbrev SomeUnfinished : Declared → ℕ → List QueryData → Type 0
SomeUnfinished d budget qs = (q : QueryData) × Has qs q × ((search_for d budget q).finished ≡ false)

one_not_ended : (d : Declared) (budget : ℕ) (qs : List QueryData) → all_finished d budget qs ≡ false → SomeUnfinished d budget qs
one_not_ended d budget [] e = absurd cc
one_not_ended d budget (p ∷ ps) e =
    go (search_for d budget p).finished refl (λ f. one_not_ended d budget ps (later (search_for d budget p).finished (all_finished d budget ps) e f))
  where
    later : (a b : Bool) → (a && b) ≡ false → a ≡ true → b ≡ false
    later true b e f = e
    later false b e f = absurd cc

    go : (a : Bool) → (search_for d budget p).finished ≡ a → ((search_for d budget p).finished ≡ true → SomeUnfinished d budget ps) → SomeUnfinished d budget (p ∷ ps)
    go false f rest = (p, inl refl, f)
    go true f rest = let r = rest f in (r.0, inr r.1, r.2)

differ : (b : Bool) → b ≡ true → b ≡ false → ⊥
differ b p q = absurd cc

module _ (loads : LoadLaw) (reads : CommandsLaw) where
  -- what the relation says is what the function gives
  pub given : (g c : List ℕ) (budget : ℕ) (s : Status) (text : List ℕ) → Output g c budget s text → ◌≡◌ {A = Ending} (outcome g c budget) (s, text)
  given g c budget s text (grammar_refused e is) = ap (after_grammar c budget) ((loads g (Err e)).0 is)
  given g c budget s text (commands_refused l e is are) =
      ap (after_grammar c budget) ((loads g (Ok l)).0 is) ∙ ap (after_commands l budget) ((reads l c (Err e)).0 are)
  given g c budget s text (answered l qs is are) =
      ap (after_grammar c budget) ((loads g (Ok l)).0 is) ∙ ap (after_commands l budget) ((reads l c (Ok qs)).0 are)

  -- and so no two outputs are defined
  pub one : (g c : List ℕ) (budget : ℕ) (s t : Status) (x y : List ℕ) → Output g c budget s x → Output g c budget t y → (s ≡ t) × (x ≡ y)
  one g c budget s t x y p q =
      let e : ◌≡◌ {A = Ending} (s, x) (t, y) = sym (given g c budget s x p) ∙ given g c budget t y q in
      (ap (λ (z : Ending). z.0) e, ap (λ (z : Ending). z.1) e)

  made_commands : (g c : List ℕ) (budget : ℕ) (l : LoadedData) → IsLoaded g (Ok l) → (r : Result (List QueryData) CommandError) → AreCommands l c r → HasOutput g c budget
  made_commands g c budget l is (Ok qs) are =
      record { status = ending (all_finished l.signature_of budget qs); text = answers_text l budget qs; output = answered l qs is are }
  made_commands g c budget l is (Err e) are = record { status = Commands; text = command_line e; output = commands_refused l e is are }

  made_grammar : (g c : List ℕ) (budget : ℕ) (r : Result LoadedData GrammarError) → IsLoaded g r → HasOutput g c budget
  made_grammar g c budget (Ok l) is =
      made_commands g c budget l is (commands_of l c) ((reads l c (commands_of l c)).1 refl)
  made_grammar g c budget (Err e) is = record { status = Grammar; text = grammar_line e; output = grammar_refused e is }

  pub made : (g c : List ℕ) (budget : ℕ) → HasOutput g c budget
  made g c budget = made_grammar g c budget (load_of g) ((loads g (load_of g)).1 refl)

  one_grammar : (g : List ℕ) (q r : Result LoadedData GrammarError) → IsLoaded g q → IsLoaded g r → q ≡ r
  one_grammar g q r x y = sym ((loads g q).0 x) ∙ (loads g r).0 y

  refused_only : (g : List ℕ) (e : GrammarError) → IsLoaded g (Err e) → IsAcceptedGrammar g → ⊥
  refused_only g e is a = let same : Err e ≡ Ok (a.0) = one_grammar g (Err e) (Ok (a.0)) is (a.1) in absurd cc

  same_grammar : (g : List ℕ) (l m : LoadedData) → IsLoaded g (Ok l) → IsLoaded g (Ok m) → l ≡ m
  same_grammar g l m x y = let same : Ok l ≡ Ok m = one_grammar g (Ok l) (Ok m) x y in cc

  one_reading : (l : LoadedData) (c : List ℕ) (q r : Result (List QueryData) CommandError) → AreCommands l c q → AreCommands l c r → q ≡ r
  one_reading l c q r x y = sym ((reads l c q).0 x) ∙ (reads l c r).0 y

  commands_only : (g c : List ℕ) (l : LoadedData) (e : CommandError) → IsLoaded g (Ok l) → AreCommands l c (Err e) → AreAccepted g c → ⊥
  commands_only g c l e is are a =
      let same = same_grammar g (a.0) l (a.2.grammar) is in
      let theirs = subst (λ (z : LoadedData). AreCommands z c (Ok (a.1))) same (a.2.commands) in
      let f : Err e ≡ Ok (a.1) = one_reading l c (Err e) (Ok (a.1)) are theirs in
      absurd cc

  -- whatever is asked for elsewhere is asked for here
  asked_here : (g c : List ℕ) (l : LoadedData) (qs : List QueryData) → Asks g c l qs → (m : LoadedData) (rs : List QueryData) → Asks g c m rs → (l ≡ m) × (qs ≡ rs)
  asked_here g c l qs x m rs y =
      let same = same_grammar g l m x.grammar y.grammar in
      let theirs = subst (λ (z : LoadedData). AreCommands z c (Ok qs)) same x.commands in
      let f : Ok qs ≡ Ok rs = one_reading m c (Ok qs) (Ok rs) theirs y.commands in
      (same, cc)

  ends_searched : (g c : List ℕ) (budget : ℕ) (l : LoadedData) (qs : List QueryData) → Asks g c l qs → (b : Bool) → all_finished l.signature_of budget qs ≡ b → Ends g c budget (ending b)
  ends_searched g c budget l qs asks true e =
      let all = all_ended l.signature_of budget qs e in
      by_finishing (l, asks.grammar) (l, qs, asks) (l, qs, asks, all) (λ u.
      let h = asked_here g c (u.0) (u.1) (u.2) l qs asks in
      let has = subst (λ z. Has z (u.3.0)) (h.1) (u.3.1) in
      let left = subst (λ (z : LoadedData). (search_for z.signature_of budget (u.3.0)).finished ≡ false) (h.0) (u.3.2) in
      differ (search_for l.signature_of budget (u.3.0)).finished (all (u.3.0) has) left)
  ends_searched g c budget l qs asks false e =
      let some = one_not_ended l.signature_of budget qs e in
      by_budget (l, asks.grammar) (l, qs, asks) (l, qs, asks, some) (λ f.
      let h = asked_here g c l qs asks (f.0) (f.1) (f.2) in
      let has = subst (λ z. Has z (some.0)) (h.1) (some.1) in
      let left = subst (λ (z : LoadedData). (search_for z.signature_of budget (some.0)).finished ≡ false) (h.0) (some.2) in
      differ (search_for (f.0).signature_of budget (some.0)).finished (f.3 (some.0) has) left)

  -- the cause of each status that is defined
  pub ends : (g c : List ℕ) (budget : ℕ) (s : Status) (text : List ℕ) → Output g c budget s text → Ends g c budget s
  ends g c budget s text (grammar_refused e is) = by_grammar (refused_only g e is)
  ends g c budget s text (commands_refused l e is are) = by_commands (l, is) (commands_only g c l e is are)
  ends g c budget s text (answered l qs is are) =
      ends_searched g c budget l qs (record { grammar = is; commands = are }) (all_finished l.signature_of budget qs) refl

finishes_accepted : (g c : List ℕ) (budget : ℕ) → Finishes g c budget → IsAcceptedGrammar g × AreAccepted g c
finishes_accepted g c budget f = ((f.0, f.2.grammar), (f.0, f.1, f.2))

unfinishes_accepted : (g c : List ℕ) (budget : ℕ) → Unfinishes g c budget → IsAcceptedGrammar g × AreAccepted g c
unfinishes_accepted g c budget u = ((u.0, u.2.grammar), (u.0, u.1, u.2))

pub causes : (g c : List ℕ) (budget : ℕ) (s : Status) → Ends g c budget s → Causes g c budget s
causes g c budget s (by_grammar never) = record {
  grammar = (λ e. never, λ n. refl);
  commands = (λ e. absurd cc, λ n. absurd (never n.0));
  done = (λ e. absurd cc, λ f. absurd (never (finishes_accepted g c budget f).0));
  unfinished = (λ e. absurd cc, λ f. absurd (never (unfinishes_accepted g c budget f).0));
}
causes g c budget s (by_commands yes_it never) = record {
  grammar = (λ e. absurd cc, λ n. absurd (n yes_it));
  commands = (λ e. (yes_it, never), λ n. refl);
  done = (λ e. absurd cc, λ f. absurd (never (finishes_accepted g c budget f).1));
  unfinished = (λ e. absurd cc, λ f. absurd (never (unfinishes_accepted g c budget f).1));
}
causes g c budget s (by_finishing yes_it are f u) = record {
  grammar = (λ e. absurd cc, λ n. absurd (n yes_it));
  commands = (λ e. absurd cc, λ n. absurd (n.1 are));
  done = (λ e. f, λ _. refl);
  unfinished = (λ e. absurd cc, λ v. absurd (u v));
}
causes g c budget s (by_budget yes_it are u f) = record {
  grammar = (λ e. absurd cc, λ n. absurd (n yes_it));
  commands = (λ e. absurd cc, λ n. absurd (n.1 are));
  done = (λ e. absurd cc, λ v. absurd (f v));
  unfinished = (λ e. u, λ _. refl);
}

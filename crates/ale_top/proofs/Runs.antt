-- What a run of a job gives, from the defined output and the laws of the layers below.
use Rattle.std.proofs.Common.{◌≡◌, ◌↔◌, ◌⊎◌, ℕ, List, [], ◌∷◌, length, Option, None, Some, Ok, inl, inr, refl, sym, ◌∙◌, subst, append-nil}
use Rattle.std.specs.Io.KnownBytes.{Appends}
use Rattle.ale_relation.specs.Has.{Has}
use Rattle.ale_hierarchy.specs.Hierarchy.{Hierarchy}
use Rattle.ale_hierarchy.specs.Order.{hierarchy}
use Rattle.ale_search.specs.Solutions.{SearchLaw, SearchLaws}
use Rattle.ale_report.specs.Written.{WrittenLaw, WrittenLaws, TextsLaw}
use Rattle.ale_load.specs.Grammars.{LoadedData}
use Rattle.ale_load.specs.Commands.{QueryData, FitsQuery, AllFit}
use Rattle.ale_load.specs.Laws.{LoadLaw, LawfulLaw, DistinctLaw, LoadedLaw, CommandsLaw, FitLaw}
use Rattle.ale_top.specs.declared.status.Status.{Status}
use Rattle.ale_top.specs.declared.status.Status.TheVariants.{Done, Unfinished, Words, Grammar, Commands, ReadFault, WriteFault, NoMemory}
use Rattle.ale_top.specs.Jobs.{Job}
use Rattle.ale_top.specs.Meanings.{Sound, Complete, Subsumed, Enough, Budgeted}
use Rattle.ale_top.specs.Output.{Ending, search_for, outcome}
use Rattle.ale_top.specs.Reports.{AreCountedIn, Reached}
use Rattle.ale_top.specs.Runs.{Wrote, IsEarly, IsOwed, IsAnswered, IsExactly, IsAcceptedGrammar, AreAccepted, Asks, Finishes, Unfinishes, OfEachCommand, AsStated, Ran, RanOnSome}
use Rattle.ale_top.proofs.Endings.{HasOutput, given, made, ends, Causes, causes}

-- the run ended as it is owed, or something came between
owes : (o : Ending) (r : Status) (old new : Option (List ℕ)) → Wrote o r old new → (o.0 ≡ r) ⊎ ((r ≡ ReadFault) ⊎ ((r ≡ WriteFault) ⊎ (r ≡ NoMemory)))
owes o Done old new w = inl w.0
owes o Unfinished old new w = inl w.0
owes o Words old new w = inl w.0
owes o Grammar old new w = inl w.0
owes o Commands old new w = inl w.0
owes o ReadFault old new w = inr (inl refl)
owes o WriteFault old new w = inr (inr (inl refl))
owes o NoMemory old new w = inr (inr (inr refl))

not_owed : (r s : Status) → IsOwed s → (r ≡ ReadFault) ⊎ ((r ≡ WriteFault) ⊎ (r ≡ NoMemory)) → r ≡ s → ⊥
not_owed r s owed (inl f) e = subst IsOwed (sym e ∙ f) owed
not_owed r s owed (inr (inl f)) e = subst IsOwed (sym e ∙ f) owed
not_owed r s owed (inr (inr f)) e = subst IsOwed (sym e ∙ f) owed

pub exactly : (o : Ending) (r s : Status) (old new : Option (List ℕ)) (P : Type 0) → IsOwed s → Wrote o r old new → (o.0 ≡ s) ↔ P → IsExactly r s P
exactly o r s old new P owed w means = record {
  only = λ e. elim (owes o r old new w) [
    | inl p ↦ means.0 (p ∙ e)
    | inr f ↦ absurd (not_owed r s owed f e)
  ];
  where_it_holds = λ p. elim (owes o r old new w) [
    | inl q ↦ inl (sym q ∙ means.1 p)
    | inr f ↦ inr f
  ];
}

-- the defined output of two texts, with the cause of its status
pub record Defined (g c : List ℕ) (budget : ℕ) (r : Status) (old new : Option (List ℕ)) : Type 0 where
  pub made : HasOutput g c budget
  pub wrote : Wrote (made.status, made.text) r old new
  pub causes : Causes g c budget made.status

pub defined : LoadLaw → CommandsLaw → (g c : List ℕ) (budget : ℕ) (r : Status) (old new : Option (List ℕ)) → Wrote (outcome g c budget) r old new → Defined g c budget r old new
defined loads reads g c budget r old new w =
    let m = made loads reads g c budget in
    record {
      made = m;
      wrote = subst (λ z. Wrote z r old new) (given loads reads g c budget m.status m.text m.output) w;
      causes = causes g c budget m.status (ends loads reads g c budget m.status m.text m.output);
    }

one_fits : (h : Hierarchy) (qs : List QueryData) → AllFit h qs → (q : QueryData) → Has qs q → FitsQuery h q
one_fits h [] fit q has = absurd has
one_fits h (p ∷ ps) fit q (inl same) = subst (λ (z : QueryData). FitsQuery h z) (sym same) (fit.0)
one_fits h (p ∷ ps) fit q (inr has) = one_fits h ps (fit.1) q has

-- what is read of a file that tells nothing

abbrev bytes_or_none : Option (List ℕ) → List ℕ
bytes_or_none None = []
bytes_or_none (Some b) = b

as_stated : (o : Option (List ℕ)) → AsStated o (bytes_or_none o)
as_stated None = tt
as_stated (Some b) = refl

stated_is : (o : Option (List ℕ)) (x b : List ℕ) → AsStated o x → o ≡ Some b → b ≡ x
stated_is o x b stated e = subst (λ z. AsStated z x) e stated

appends_nothing : (old : Option (List ℕ)) → Appends old old []
appends_nothing None = tt
appends_nothing (Some b) = sym (append-nil b)

wrote_early : (o : Ending) (r : Status) (old : Option (List ℕ)) → IsEarly r → Wrote o r old old
wrote_early o r old (inl e) = subst (λ z. Wrote o z old old) (sym e) (appends_nothing old)
wrote_early o r old (inr e) = subst (λ z. Wrote o z old old) (sym e) (0, appends_nothing old)

not_answered : (r : Status) → IsEarly r → IsAnswered r → ⊥
not_answered r (inl e) (inl f) = let g : ReadFault ≡ Done = sym e ∙ f in absurd cc
not_answered r (inl e) (inr f) = let g : ReadFault ≡ Unfinished = sym e ∙ f in absurd cc
not_answered r (inr e) (inl f) = let g : NoMemory ≡ Done = sym e ∙ f in absurd cc
not_answered r (inr e) (inr f) = let g : NoMemory ≡ Unfinished = sym e ∙ f in absurd cc

-- a run that ends before anything is written
pub reached_early : (content : List ℕ → Option (List ℕ)) (job : Job) (budget : ℕ) (r : Status) (old : Option (List ℕ)) → IsEarly r → Reached content job budget r old old
reached_early content job budget r old early = record {
  grammar = bytes_or_none (content job.grammar);
  commands = bytes_or_none (content job.commands);
  grammar_stated = as_stated (content job.grammar);
  commands_stated = as_stated (content job.commands);
  wrote = wrote_early (outcome (bytes_or_none (content job.grammar)) (bytes_or_none (content job.commands)) budget) r old early;
  counted = λ answered. absurd (not_answered r early answered);
}

-- the laws of the layers below
pub record Laws : Type 0 where
  pub loads : LoadLaw
  pub lawful : LawfulLaw
  pub distinct : DistinctLaw
  pub fits : LoadedLaw
  pub reads : CommandsLaw
  pub fit : FitLaw
  pub searches : SearchLaws
  pub written : WrittenLaws
  pub texts : TextsLaw

module _ (laws : Laws) where
  fits_asked : (g c : List ℕ) (l : LoadedData) (qs : List QueryData) → Asks g c l qs → (q : QueryData) → Has qs q → FitsQuery (hierarchy l.signature_of) q
  fits_asked g c l qs asks q has = one_fits (hierarchy l.signature_of) qs (laws.fit l c qs (laws.fits g l asks.grammar) asks.commands) q has

  -- what is asked for speaks of a lawful signature
  asked_law : (g c : List ℕ) (budget : ℕ) (l : LoadedData) (qs : List QueryData) → Asks g c l qs → (q : QueryData) → Has qs q → SearchLaw (hierarchy l.signature_of) (length q.1) q.0 budget
  asked_law g c budget l qs asks q has =
      laws.searches (hierarchy l.signature_of) (length q.1) q.0 budget (laws.lawful g l asks.grammar) (fits_asked g c l qs asks q has).fits

  written_law : (g c : List ℕ) (budget : ℕ) (l : LoadedData) (qs : List QueryData) → Asks g c l qs → (q : QueryData) → Has qs q → WrittenLaw (hierarchy l.signature_of) q.0 (search_for l.signature_of budget q)
  written_law g c budget l qs asks q has =
      laws.written (hierarchy l.signature_of) (length q.1) q.0 budget (laws.lawful g l asks.grammar) (fits_asked g c l qs asks q has).fits (fits_asked g c l qs asks q has).plain

  pub sound : (budget : ℕ) → OfEachCommand budget Sound
  sound budget g c l qs asks q has = record { answers = (asked_law g c budget l qs asks q has).sound; written = (written_law g c budget l qs asks q has).sound }

  pub complete : (budget : ℕ) → OfEachCommand budget Complete
  complete budget g c l qs asks q has = record { answers = (asked_law g c budget l qs asks q has).complete; written = (written_law g c budget l qs asks q has).complete }

  pub subsumed : (budget : ℕ) → OfEachCommand budget Subsumed
  subsumed budget g c l qs asks q has = record { answers = (asked_law g c budget l qs asks q has).subsumed; written = (written_law g c budget l qs asks q has).subsumed }

  pub enough : (budget : ℕ) → OfEachCommand budget (Enough budget)
  enough budget g c l qs asks q has = (asked_law g c budget l qs asks q has).enough

  pub budgeted : (budget : ℕ) → OfEachCommand budget (Budgeted budget)
  budgeted budget g c l qs asks q has = (asked_law g c budget l qs asks q has).budgeted

  -- what a run of texts leaves
  ran : (g c : List ℕ) (budget : ℕ) (r : Status) (old new : Option (List ℕ)) → Wrote (outcome g c budget) r old new → (IsAnswered r → AreCountedIn g c budget) → Ran g c budget r old new
  ran g c budget r old new w counted =
      let d = defined laws.loads laws.reads g c budget r old new w in
      record {
        output = λ s text o. subst (λ z. Wrote z r old new) (given laws.loads laws.reads g c budget s text o) w;
        grammar = exactly (d.made.status, d.made.text) r Grammar old new (IsAcceptedGrammar g → ⊥) tt d.wrote d.causes.grammar;
        commands = exactly (d.made.status, d.made.text) r Commands old new (IsAcceptedGrammar g × (AreAccepted g c → ⊥)) tt d.wrote d.causes.commands;
        done = exactly (d.made.status, d.made.text) r Done old new (Finishes g c budget) tt d.wrote d.causes.done;
        unfinished = exactly (d.made.status, d.made.text) r Unfinished old new (Unfinishes g c budget) tt d.wrote d.causes.unfinished;
        visible = λ answered l qs asks q has.
            laws.texts l.signature_of q.0 (search_for l.signature_of budget q).answers (laws.lawful g l asks.grammar) (laws.distinct g l asks.grammar)
            (asked_law g c budget l qs asks q has).sound
            (counted answered l ((laws.loads g (Ok l)).0 asks.grammar) qs ((laws.reads l c (Ok qs)).0 asks.commands) q has);
      }

  pub ran_on_some : (content : List ℕ → Option (List ℕ)) (job : Job) (budget : ℕ) (r : Status) (old new : Option (List ℕ)) → Reached content job budget r old new → RanOnSome content job budget r old new
  ran_on_some content job budget r old new x = record {
    grammar = x.grammar;
    commands = x.commands;
    grammar_stated = x.grammar_stated;
    commands_stated = x.commands_stated;
    ran = ran x.grammar x.commands budget r old new x.wrote x.counted;
  }

-- of texts that are stated
pub ran_stated : (content : List ℕ → Option (List ℕ)) (job : Job) (budget : ℕ) (r : Status) (old new : Option (List ℕ)) → RanOnSome content job budget r old new
    → (g c : List ℕ) → content job.grammar ≡ Some g → content job.commands ≡ Some c → Ran g c budget r old new
ran_stated content job budget r old new x g c e f =
    subst (λ z. Ran z c budget r old new) (sym (stated_is (content job.grammar) x.grammar g x.grammar_stated e))
    (subst (λ z. Ran x.grammar z budget r old new) (sym (stated_is (content job.commands) x.commands c x.commands_stated f)) x.ran)

-- of a grammar that is stated
pub grammar_stated : (content : List ℕ → Option (List ℕ)) (job : Job) (budget : ℕ) (r : Status) (old new : Option (List ℕ)) → RanOnSome content job budget r old new
    → (g : List ℕ) → content job.grammar ≡ Some g → IsExactly r Grammar (IsAcceptedGrammar g → ⊥)
grammar_stated content job budget r old new x g e =
    subst (λ z. IsExactly r Grammar (IsAcceptedGrammar z → ⊥)) (sym (stated_is (content job.grammar) x.grammar g x.grammar_stated e)) x.ran.grammar

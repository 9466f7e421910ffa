-- What a walk through a template comes to, by what it has still to do. Source: this project's own; a list of what is still to
-- be done in place of recursion is known as defunctionalized continuations (Reynolds 1972).
use Rattle.std.specs.Prelude.{◌≡◌, ◌⊎◌, ℕ, suc, ◌<◌, List, [], ◌∷◌, ◌++◌, map, get_or, length}
use Rattle.ale_logic.specs.Programs.{ListTypes}
use Rattle.ale_logic.specs.Descriptions.{Description, Descriptions, of_type, at, all, any, differs, none, more, description}
use Rattle.ale_macro.specs.declared.template.Template.{Template}
use Rattle.ale_macro.specs.Templates.{TemplateData, TemplatesData, MacroData, templates_of, template_data}
use Rattle.ale_macro.specs.Expansions.{Origin, Expansion, expansions_of}
use Rattle.ale_macro.specs.Expanding.{LibraryData, list_of, expanded, all_expanded, meaning}
use Rattle.ale_macro.specs.Slots.{numbered, all_numbered}
use Rattle.ale_macro.specs.Calls.{CallsKnown, AllCallsKnown}
use Rattle.ale_expansion.specs.declared.frame.Frame.{Frame}
use Rattle.ale_expansion.specs.declared.rest.Rest.{Rest}
use Rattle.ale_expansion.specs.declared.rest.Rest.TheVariants as rest
use Rattle.ale_expansion.specs.declared.rest.Now.{Now}
use Rattle.ale_expansion.specs.declared.rest.Now.TheVariants as now
use Rattle.ale_expansion.specs.declared.walk.Walk.{Walk}
use Rattle.ale_expansion.specs.Marks.{path_at}

abbrev pub templates : List Template → TemplatesData
templates ts = templates_of (map template_data ts)

-- the calls that lead to a scope, and what its first variables stand for
pub record Scope : Type 0 where
  pub path : List ℕ
  pub args : List Expansion

abbrev pub scope_at : List Scope → ℕ → Scope
scope_at ss i = get_or ss i (record { path = []; args = [] })

abbrev pub standing : LibraryData → Scope → TemplateData → Expansion
standing l s t = expanded l.lists (meaning l.lists l.macros) s.path s.args t

abbrev pub all_standing : LibraryData → Scope → TemplatesData → List Expansion
all_standing l s ts = all_expanded l.lists (meaning l.lists l.macros) s.path s.args ts

-- the scope of a frame among these paths, whose arguments stand in one of these scopes
abbrev pub scope_of : LibraryData → List (List ℕ) → List Scope → Frame → Scope
scope_of l paths ss f = record { path = path_at paths f.path; args = all_standing l (scope_at ss f.outer) (templates f.args.now) }

-- those of frames, each of which is written in one before it
abbrev pub scopes_from : LibraryData → List (List ℕ) → List Scope → List Frame → List Scope
scopes_from l paths known [] = known
scopes_from l paths known (f ∷ fs) = scopes_from l paths (known ++ scope_of l paths known f ∷ []) fs

-- what a walk stands on
pub record Base : Type 0 where
  pub library : LibraryData
  pub scopes : List Scope

abbrev pub stands : Base → ℕ → TemplateData → Expansion
stands g i t = standing g.library (scope_at g.scopes i) t

abbrev pub all_stand : Base → ℕ → List Template → List Expansion
all_stand g i ts = all_standing g.library (scope_at g.scopes i) (templates ts)

-- a description with the variables that were met up to its end
abbrev pub Found : Type 0
Found = Description × List Origin

-- these before those
abbrev pub before : List Description → Descriptions → Descriptions
before [] ds = ds
before (d ∷ ds) es = more d (before ds es)

abbrev pub conjunction_of : List Description → Descriptions × List Origin → Found
conjunction_of ds r = (all (before ds r.0), r.1)

abbrev pub disjunction_of : List Description → Descriptions × List Origin → Found
disjunction_of ds r = (any (before ds r.0), r.1)

-- one cell of a list
abbrev pub cell : ListTypes → Description → Description → Description
cell l member others = all (more (of_type l.ne_list) (more (at l.hd member) (more (at l.tl others) none)))

-- the cell of a member, and then the other members
abbrev pub list_after : ListTypes → Found → Expansion → Found
list_after l r others = (cell l r.0 (numbered r.1 others).0, (numbered r.1 others).1)

-- one more before the others
abbrev pub and_then : Found → Descriptions × List Origin → Descriptions × List Origin
and_then r rest = (more r.0 rest.0, rest.1)

-- what is still to be done is done with what was found
abbrev pub result_with : Base → Rest → Found → Found
result_with g (rest.At f) r = (at f.now r.0, r.1)
result_with g rest.Differs r = (differs r.0, r.1)
result_with g (rest.All done after i) r = conjunction_of (map description done.items) (and_then r (all_numbered r.1 (expansions_of (all_stand g i after.now))))
result_with g (rest.Any done after i) r = disjunction_of (map description done.items) (and_then r (all_numbered r.1 (expansions_of (all_stand g i after.now))))
result_with g (rest.Head after end i) r = list_after g.library.lists r (list_of g.library.lists (all_stand g i after.now) (stands g i (template_data end.now)))
result_with g (rest.Tail member) r = (cell g.library.lists (description member) r.0, r.1)

-- the last is done first
abbrev pub plug : Base → List Rest → Found → Found
plug g [] r = r
plug g (k ∷ ks) r = result_with g k (plug g ks r)

abbrev pub base : Walk → Base
base w = record { library = w.library.now; scopes = scopes_from w.library.now w.met.paths [] w.frames.items }

abbrev pub come_to : Base → List Origin → Now → Found
come_to g vs (now.Look t i) = numbered vs (stands g i (template_data t.now))
come_to g vs (now.Have d) = (description d, vs)

-- what the whole walk comes to where it goes on with this
abbrev pub goes_on : Walk → Found → Found
goes_on w r = plug (base w) w.rests.items r

abbrev pub whole : Walk → Now → Found
whole w n = goes_on w (come_to (base w) w.met.variables n)

-- its path is there, it is written in one before it or has no arguments, and the calls in these can be replaced
abbrev pub IsFrame : List MacroData → ℕ → ℕ → Frame → Type 0
IsFrame ms paths i f = (f.path < paths) × ((f.outer < i) ⊎ (f.args.now ≡ [])) × AllCallsKnown ms (templates f.args.now)

abbrev pub AreFrames : List MacroData → ℕ → ℕ → List Frame → Type 0
AreFrames ms paths i [] = Unit {0}
AreFrames ms paths i (f ∷ fs) = IsFrame ms paths i f × AreFrames ms paths (suc i) fs

-- its frame is there, and the calls in its templates can be replaced
abbrev pub IsRest : List MacroData → ℕ → Rest → Type 0
IsRest ms n (rest.At f) = Unit {0}
IsRest ms n rest.Differs = Unit {0}
IsRest ms n (rest.All done after i) = (i < n) × AllCallsKnown ms (templates after.now)
IsRest ms n (rest.Any done after i) = (i < n) × AllCallsKnown ms (templates after.now)
IsRest ms n (rest.Head after end i) = (i < n) × AllCallsKnown ms (templates after.now) × CallsKnown ms (template_data end.now)
IsRest ms n (rest.Tail member) = Unit {0}

abbrev pub AreRests : List MacroData → ℕ → List Rest → Type 0
AreRests ms n [] = Unit {0}
AreRests ms n (k ∷ ks) = IsRest ms n k × AreRests ms n ks

-- what a walk keeps
pub record IsGrounded (w : Walk) : Type 0 where
  pub frames : AreFrames w.library.now.macros (length w.met.paths) 0 w.frames.items
  pub rests : AreRests w.library.now.macros (length w.frames.items) w.rests.items

-- the template stands in a frame that is there, and its calls can be replaced
abbrev pub Looks : List MacroData → ℕ → Now → Type 0
Looks ms n (now.Look t i) = (i < n) × CallsKnown ms (template_data t.now)
Looks ms n (now.Have d) = Unit {0}

pub record IsKept (w : Walk) (n : Now) : Type 0 where
  pub grounded : IsGrounded w
  pub looks : Looks w.library.now.macros (length w.frames.items) n

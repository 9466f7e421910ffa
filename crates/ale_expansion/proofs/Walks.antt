-- What each step of a walk comes to.
use Rattle.std.proofs.Common.{◌≡◌, refl, sym, ap, ◌∙◌, subst, ℕ, zero, suc, ◌+◌, ◌<◌, ◌≤◌, List, [], ◌∷◌, ◌++◌, length, length-append, get_or, inl, inr, arith}
use Rattle.std.proofs.lemmas.List.{get_or_append_left}
use Rattle.std.proofs.Math.Seq.{get_or-append_seam}
use Rattle.ale_logic.specs.Descriptions as description
use Rattle.ale_logic.specs.Descriptions.{Description}
use Rattle.ale_macro.specs.declared.template.Template.{Template}
use Rattle.ale_macro.specs.Templates.{TemplateData, MacroData, variable, call, macro_at, template_data, how_many}
use Rattle.ale_macro.specs.Expansions as expansion
use Rattle.ale_macro.specs.Expansions.{Origin, Expansion}
use Rattle.ale_macro.specs.Expanding.{LibraryData, meaning, IsProjection, expansion as expansion_of}
use Rattle.ale_macro.specs.Slots.{numbered, slot_of, with_variable}
use Rattle.ale_macro.specs.Calls.{CallsKnown, AllCallsKnown, BodiesKnown, IsLibrary}
use Rattle.ale_macro.proofs.Unfolding.{unfolds}
use Rattle.ale_expansion.specs.declared.frame.Frame.{Frame}
use Rattle.ale_expansion.specs.declared.walk.Walk.{Walk}
use Rattle.ale_expansion.specs.Marks.{path_at}
use Rattle.ale_expansion.specs.Walking.{Scope, scope_at, standing, all_standing, scope_of, scopes_from, templates, stands, base, goes_on, plug, IsFrame, AreFrames, AreRests, IsGrounded}
use Rattle.ale_expansion.proofs.Steps.{frame_at, frames_more, frames_wider, rests_wider}
use Rattle.ale_expansion.proofs.Scoping.{on, frame_scope, scopes_more, scopes_wider, how_many_scopes, plug_same}

-- of arguments
pub all_get : (l : LibraryData) (s : Scope) (ts : List Template) (k : ℕ) (t : Template) (other : Expansion) → k < length ts → t ≡ get_or ts k t → get_or (all_standing l s (templates ts)) k other ≡ standing l s (template_data t)
all_get l s [] k t other h e = absurd (omega (arith, h))
all_get l s (u ∷ ts) zero t other h e = ap (λ x. standing l s (template_data x)) (sym e)
all_get l s (u ∷ ts) (suc k) t other h e = all_get l s ts k t other (omega (arith, h)) e

pub all_past : (l : LibraryData) (s : Scope) (ts : List Template) (k : ℕ) (other : Expansion) → length ts ≤ k → get_or (all_standing l s (templates ts)) k other ≡ other
all_past l s [] k other h = refl
all_past l s (u ∷ ts) zero other h = absurd (omega (arith, h))
all_past l s (u ∷ ts) (suc k) other h = all_past l s ts k other (omega (arith, h))

pub all_length : (l : LibraryData) (s : Scope) (ts : List Template) → length (all_standing l s (templates ts)) ≡ length ts
all_length l s [] = refl
all_length l s (t ∷ ts) = ap suc (all_length l s ts)

pub many_is : (ts : List Template) → how_many (templates ts) ≡ length ts
many_is [] = refl
many_is (t ∷ ts) = ap suc (many_is ts)

pub all_known : (ms : List MacroData) (ts : List Template) (k : ℕ) (t : Template) → AllCallsKnown ms (templates ts) → k < length ts → t ≡ get_or ts k t → CallsKnown ms (template_data t)
all_known ms [] k t known h e = absurd (omega (arith, h))
all_known ms (u ∷ ts) zero t known h e = subst (λ x. CallsKnown ms (template_data x)) (sym e) known.0
all_known ms (u ∷ ts) (suc k) t known h e = all_known ms ts k t known.1 (omega (arith, h)) e

body_known : (ms xs : List MacroData) (k : ℕ) → BodiesKnown ms xs → k < length xs → CallsKnown ms (macro_at xs k).body
body_known ms [] k known h = absurd (omega (arith, h))
body_known ms (x ∷ xs) zero known h = known.0
body_known ms (x ∷ xs) (suc k) known h = body_known ms xs k known.1 (omega (arith, h))

-- the frame's scope, and what holds of the frame
frame_of : (w : Walk) (i : ℕ) (f : Frame) → IsGrounded w → i < length w.frames.items → f ≡ get_or w.frames.items i f → scope_at (base w).scopes i ≡ scope_of w.library.now w.met.paths (base w).scopes f
frame_of w i f grounded h e =
    let same : i ≡ 0 + i = omega arith in
    ap (scope_at (base w).scopes) same
    ∙ (frame_scope w.library.now w.met.paths (length w.met.paths) [] w.frames.items i f grounded.frames h
    ∙ ap (scope_of w.library.now w.met.paths (base w).scopes) (sym e))

pub is_frame : (w : Walk) (i : ℕ) (f : Frame) → IsGrounded w → i < length w.frames.items → f ≡ get_or w.frames.items i f → IsFrame w.library.now.macros (length w.met.paths) i f
is_frame w i f grounded h e =
    let same : 0 + i ≡ i = omega arith in
    subst (λ n. IsFrame w.library.now.macros (length w.met.paths) n f) same
    (subst (IsFrame w.library.now.macros (length w.met.paths) (0 + i)) (sym e) (frame_at w.library.now.macros (length w.met.paths) 0 w.frames.items i f grounded.frames h))

-- a parameter's argument
pub argument_kept : (w : Walk) (number i : ℕ) (f : Frame) (arg : Template) → IsGrounded w → i < length w.frames.items → f ≡ get_or w.frames.items i f → number < length f.args.now → arg ≡ get_or f.args.now number arg → (f.outer < length w.frames.items) × CallsKnown w.library.now.macros (template_data arg)
argument_kept w number i f arg grounded h e less a =
    let is = is_frame w i f grounded h e in
    (elim is.1 [ inl o ↦ omega (arith, h, o) | inr n ↦ absurd (nothing (subst (λ (ts : List Template). number < length ts) n less)) ], all_known w.library.now.macros f.args.now number arg is.2 less a)
  where
    nothing : number < 0 → ⊥
    nothing h = absurd (omega (arith, h))

pub argument_is : (w : Walk) (number i : ℕ) (f : Frame) (arg : Template) → IsGrounded w → i < length w.frames.items → f ≡ get_or w.frames.items i f → number < length f.args.now → arg ≡ get_or f.args.now number arg → stands (base w) f.outer (template_data arg) ≡ stands (base w) i (variable number)
argument_is w number i f arg grounded h e less a =
    let s = scope_of w.library.now w.met.paths (base w).scopes f in
    sym (ap (λ (a : Scope). get_or a.args number (expansion.variable (a.path, number))) (frame_of w i f grounded h e)
    ∙ all_get w.library.now (scope_at (base w).scopes f.outer) f.args.now number arg (expansion.variable (s.path, number)) less a)

-- a variable of its own
pub own_is : (w : Walk) (paths : List (List ℕ)) (vs : List Origin) (number i s : ℕ) (d : Description) (f : Frame) → IsGrounded w → i < length w.frames.items → f ≡ get_or w.frames.items i f → length f.args.now ≤ number →
    paths ≡ w.met.paths → d ≡ description.slot s → s ≡ slot_of w.met.variables (path_at w.met.paths f.path, number) → vs ≡ with_variable w.met.variables (path_at w.met.paths f.path, number) →
    plug (on w.library.now (scopes_from w.library.now paths [] w.frames.items)) w.rests.items (d, vs) ≡ goes_on w (numbered w.met.variables (stands (base w) i (variable number)))
own_is w paths vs number i s d f grounded h e past p is place added =
    let z = scope_of w.library.now w.met.paths (base w).scopes f in
    let itself : stands (base w) i (variable number) ≡ expansion.variable (path_at w.met.paths f.path, number) =
    ap (λ (a : Scope). get_or a.args number (expansion.variable (a.path, number))) (frame_of w i f grounded h e)
    ∙ all_past w.library.now (scope_at (base w).scopes f.outer) f.args.now number (expansion.variable (z.path, number)) past in
    rw (p, is, place, added) (ap (λ x. goes_on w (numbered w.met.variables x)) (sym itself))

-- a call that stands for one of its arguments
pub projection_inside : (l : LibraryData) (number callee j : ℕ) (args : List Template) → IsProjection l callee j → CallsKnown l.macros (call number callee (templates args)) → j < length args
projection_inside l number callee j args projects known = omega (arith, projects.within, known.1, many_is args)

pub projection_is : (l : LibraryData) (s : Scope) (number callee j : ℕ) (args : List Template) (arg : Template) → IsProjection l callee j → CallsKnown l.macros (call number callee (templates args)) → arg ≡ get_or args j arg → standing l s (template_data arg) ≡ standing l s (call number callee (templates args))
projection_is l s number callee j args arg projects known e =
    sym (projects.same (number ∷ s.path) (all_standing l s (templates args)) (expansion.of_type 0) (all_length l s args ∙ (sym (many_is args) ∙ known.1))
    ∙ all_get l s args j arg (expansion.of_type 0) (projection_inside l number callee j args projects known) e)

-- a call in a frame of its own
pub record EntryLaw (w : Walk) (paths : List (List ℕ)) (number callee : ℕ) (g : Frame) (body : TemplateData) : Type 0 where
  pub frames : AreFrames w.library.now.macros (length paths) 0 (w.frames.items ++ g ∷ [])
  pub rests : AreRests w.library.now.macros (length (w.frames.items ++ g ∷ [])) w.rests.items
  pub inside : length w.frames.items < length (w.frames.items ++ g ∷ [])
  pub known : CallsKnown w.library.now.macros body
  pub value : (vs : List Origin) →
      plug (on w.library.now (scopes_from w.library.now paths [] (w.frames.items ++ g ∷ []))) w.rests.items (numbered vs (standing w.library.now (scope_at (scopes_from w.library.now paths [] (w.frames.items ++ g ∷ [])) (length w.frames.items)) body))
      ≡ goes_on w (numbered vs (stands (base w) g.outer (call number callee (templates g.args.now))))

pub entry_law : (w : Walk) (paths : List (List ℕ)) (number callee : ℕ) (f g : Frame) (body : TemplateData) → IsLibrary w.library.now → IsGrounded w → g.outer < length w.frames.items → f ≡ get_or w.frames.items g.outer f →
    CallsKnown w.library.now.macros (call number callee (templates g.args.now)) → g.path < length paths → path_at paths g.path ≡ number ∷ path_at w.met.paths f.path → (more : List (List ℕ)) × (paths ≡ w.met.paths ++ more) →
    body ≡ (macro_at w.library.now.macros callee).body → EntryLaw w paths number callee g body
entry_law w paths number callee f g body library grounded h e known within path more is =
    record {
      frames = frames_more w.library.now.macros (length paths) 0 w.frames.items g (frames_wider w.library.now.macros (length w.met.paths) (length paths) 0 w.frames.items least grounded.frames) (within, inl last, known.2);
      rests = rests_wider w.library.now.macros (length w.frames.items) (length (w.frames.items ++ g ∷ [])) w.rests.items (omega (arith, wider)) grounded.rests;
      inside = omega (arith, wider);
      known = subst (CallsKnown w.library.now.macros) (sym is) (body_known w.library.now.macros w.library.now.macros callee library.known known.0);
      value = value;
    }
  where
    wider : length (w.frames.items ++ g ∷ []) ≡ length w.frames.items + 1
    wider = length-append w.frames.items (g ∷ [])

    last : g.outer < 0 + length w.frames.items
    last = omega (arith, h)

    least : length w.met.paths ≤ length paths
    least = let longer : length (w.met.paths ++ more.0) ≡ length w.met.paths + length more.0 = length-append w.met.paths more.0 in
        subst (λ ps. length w.met.paths ≤ length ps) (sym more.1) (omega (arith, longer))

    stay : scopes_from w.library.now paths [] w.frames.items ≡ (base w).scopes
    stay = ap (λ ps. scopes_from w.library.now ps [] w.frames.items) more.1 ∙ scopes_wider w.library.now w.met.paths more.0 0 [] w.frames.items grounded.frames

    grown : scopes_from w.library.now paths [] (w.frames.items ++ g ∷ []) ≡ (base w).scopes ++ (scope_of w.library.now paths (base w).scopes g) ∷ []
    grown = scopes_more w.library.now paths [] w.frames.items g ∙ ap (λ ts. ts ++ scope_of w.library.now paths ts g ∷ []) stay

    many : length (base w).scopes ≡ length w.frames.items
    many = how_many_scopes w.library.now w.met.paths [] w.frames.items ∙ omega arith

    here : scope_at ((base w).scopes ++ (scope_of w.library.now paths (base w).scopes g) ∷ []) (length w.frames.items) ≡ (scope_of w.library.now paths (base w).scopes g)
    here = ap (scope_at ((base w).scopes ++ (scope_of w.library.now paths (base w).scopes g) ∷ [])) (sym many) ∙ get_or-append_seam (base w).scopes (scope_of w.library.now paths (base w).scopes g) [] (record { path = []; args = [] })

    among : (i : ℕ) → i < length w.frames.items → scope_at ((base w).scopes ++ (scope_of w.library.now paths (base w).scopes g) ∷ []) i ≡ scope_at (base w).scopes i
    among i k = get_or_append_left (base w).scopes ((scope_of w.library.now paths (base w).scopes g) ∷ []) (record { path = []; args = [] }) i (omega (arith, k, many))

    route : (scope_of w.library.now paths (base w).scopes g).path ≡ number ∷ (scope_at (base w).scopes g.outer).path
    route = path ∙ ap (λ (a : Scope). number ∷ a.path) (sym (frame_of w g.outer f grounded h e))

    means : standing w.library.now (scope_of w.library.now paths (base w).scopes g) body ≡ stands (base w) g.outer (call number callee (templates g.args.now))
    means = ap (standing w.library.now (scope_of w.library.now paths (base w).scopes g)) is ∙ (sym (unfolds w.library.now library callee known.0 (scope_of w.library.now paths (base w).scopes g).path (scope_of w.library.now paths (base w).scopes g).args) ∙ ap (λ p. meaning w.library.now.lists w.library.now.macros callee p (scope_of w.library.now paths (base w).scopes g).args) route)

    value : (vs : List Origin) →
        plug (on w.library.now (scopes_from w.library.now paths [] (w.frames.items ++ g ∷ []))) w.rests.items (numbered vs (standing w.library.now (scope_at (scopes_from w.library.now paths [] (w.frames.items ++ g ∷ [])) (length w.frames.items)) body))
        ≡ goes_on w (numbered vs (stands (base w) g.outer (call number callee (templates g.args.now))))
    value vs =
        subst (λ ts. plug (on w.library.now ts) w.rests.items (numbered vs (standing w.library.now (scope_at ts (length w.frames.items)) body)) ≡ goes_on w (numbered vs (stands (base w) g.outer (call number callee (templates g.args.now))))) (sym grown)
        (ap (λ a. plug (on w.library.now ((base w).scopes ++ (scope_of w.library.now paths (base w).scopes g) ∷ [])) w.rests.items (numbered vs (standing w.library.now a body))) here
        ∙ (ap (λ x. plug (on w.library.now ((base w).scopes ++ (scope_of w.library.now paths (base w).scopes g) ∷ [])) w.rests.items (numbered vs x)) means
        ∙ plug_same w.library.now (base w).scopes ((base w).scopes ++ (scope_of w.library.now paths (base w).scopes g) ∷ []) (length w.frames.items) w.rests.items (numbered vs (stands (base w) g.outer (call number callee (templates g.args.now)))) among grounded.rests))

-- what a walk keeps in the new frame, and what it comes to there
pub entry_kept : (w : Walk) (paths : List (List ℕ)) (number callee inner : ℕ) (g : Frame) (body : TemplateData) (fs : List Frame) → EntryLaw w paths number callee g body → fs ≡ w.frames.items ++ g ∷ [] → inner ≡ length w.frames.items →
    AreFrames w.library.now.macros (length paths) 0 fs × AreRests w.library.now.macros (length fs) w.rests.items × (inner < length fs)
entry_kept w paths number callee inner g body fs law e i = rw (e, i) (law.frames, law.rests, law.inside)

pub entry_is : (w : Walk) (paths : List (List ℕ)) (vs : List Origin) (number callee inner : ℕ) (g : Frame) (body : TemplateData) (fs : List Frame) → EntryLaw w paths number callee g body → fs ≡ w.frames.items ++ g ∷ [] → inner ≡ length w.frames.items → vs ≡ w.met.variables →
    plug (on w.library.now (scopes_from w.library.now paths [] fs)) w.rests.items (numbered vs (standing w.library.now (scope_at (scopes_from w.library.now paths [] fs) inner) body))
    ≡ goes_on w (numbered w.met.variables (stands (base w) g.outer (call number callee (templates g.args.now))))
entry_is w paths vs number callee inner g body fs law e i v = rw (e, i, v) (law.value w.met.variables)

-- a walk that begins stands for what the template stands for
pub begins : (w : Walk) (l : LibraryData) (vs : List Origin) (t : TemplateData) → w.library.now ≡ l → w.met.variables ≡ vs → scope_at (base w).scopes 0 ≡ record { path = []; args = [] } → numbered w.met.variables (stands (base w) 0 t) ≡ numbered vs (expansion_of l t)
begins w l vs t e m r =
    ap (λ s. numbered w.met.variables (standing w.library.now s t)) r
    ∙ (ap (λ k. numbered w.met.variables (expansion_of k t)) e
    ∙ ap (λ us. numbered us (expansion_of l t)) m)

-- What is still to be done, and what a walk keeps.
use Rattle.std.proofs.Common.{◌≡◌, refl, ap, ◌∙◌, subst, ℕ, zero, suc, ◌+◌, ◌<◌, ◌≤◌, List, [], ◌∷◌, ◌++◌, length, get_or, map, arith}
use Rattle.std.proofs.lemmas.List.{map-append}
use Rattle.ale_logic.specs.Descriptions.{Description, Descriptions, none, more, descriptions_of, description}
use Rattle.ale_logic.specs.declared.desc.Desc.{Desc}
use Rattle.ale_macro.specs.Templates.{MacroData}
use Rattle.ale_expansion.specs.declared.frame.Frame.{Frame}
use Rattle.ale_expansion.specs.declared.rest.Rest.{Rest}
use Rattle.ale_expansion.specs.declared.walk.Walk.{Walk}
use Rattle.ale_expansion.specs.declared.rest.Rest.TheVariants as rest
use Rattle.ale_expansion.specs.Walking.{Base, Found, before, result_with, plug, IsFrame, AreFrames, IsRest, AreRests, IsGrounded}

-- what was put last is done first
pub plug_push : (g : Base) (ks : List Rest) (k : Rest) (r : Found) → plug g (ks ++ k ∷ []) r ≡ plug g ks (result_with g k r)
plug_push g [] k r = refl
plug_push g (j ∷ ks) k r = ap (result_with g j) (plug_push g ks k r)

pub before_none : (ds : List Description) → before ds none ≡ descriptions_of ds
before_none [] = refl
before_none (d ∷ ds) = ap (more d) (before_none ds)

pub before_more : (ds : List Description) (e : Description) (es : Descriptions) → before (ds ++ e ∷ []) es ≡ before ds (more e es)
before_more [] e es = refl
before_more (d ∷ ds) e es = ap (more d) (before_more ds e es)

-- one more that is finished stands before the others
pub done_more : (done new : List Desc) (have : Desc) (es : Descriptions) → new ≡ done ++ have ∷ [] → before (map description new) es ≡ before (map description done) (more (description have) es)
done_more done new have es e =
    ap (λ ds. before (map description ds) es) e
    ∙ (ap (λ ds. before ds es) (map-append description done (have ∷ []))
    ∙ before_more (map description done) (description have) es)

pub rests_more : (ms : List MacroData) (n : ℕ) (ks : List Rest) (k : Rest) → AreRests ms n ks → IsRest ms n k → AreRests ms n (ks ++ k ∷ [])
rests_more ms n [] k are is = (is, tt)
rests_more ms n (j ∷ ks) k are is = (are.0, rests_more ms n ks k are.1 is)

pub rests_last : (ms : List MacroData) (n : ℕ) (ks : List Rest) (k : Rest) → AreRests ms n (ks ++ k ∷ []) → AreRests ms n ks × IsRest ms n k
rests_last ms n [] k are = (tt, are.0)
rests_last ms n (j ∷ ks) k are = let rest = rests_last ms n ks k are.1 in ((are.0, rest.0), rest.1)

rest_wider : (ms : List MacroData) (n m : ℕ) (k : Rest) → n ≤ m → IsRest ms n k → IsRest ms m k
rest_wider ms n m (rest.At f) h is = tt
rest_wider ms n m rest.Differs h is = tt
rest_wider ms n m (rest.All done after i) h is = (omega (arith, h, is.0), is.1)
rest_wider ms n m (rest.Any done after i) h is = (omega (arith, h, is.0), is.1)
rest_wider ms n m (rest.Head after end i) h is = (omega (arith, h, is.0), is.1, is.2)
rest_wider ms n m (rest.Tail member) h is = tt

pub rests_wider : (ms : List MacroData) (n m : ℕ) (ks : List Rest) → n ≤ m → AreRests ms n ks → AreRests ms m ks
rests_wider ms n m [] h are = tt
rests_wider ms n m (k ∷ ks) h are = (rest_wider ms n m k h are.0, rests_wider ms n m ks h are.1)

pub frames_more : (ms : List MacroData) (p i : ℕ) (fs : List Frame) (f : Frame) → AreFrames ms p i fs → IsFrame ms p (i + length fs) f → AreFrames ms p i (fs ++ f ∷ [])
frames_more ms p i [] f are is = let same : i + 0 ≡ i = omega arith in (subst (λ n. IsFrame ms p n f) same is, tt)
frames_more ms p i (g ∷ fs) f are is =
    let same : i + suc (length fs) ≡ suc i + length fs = omega arith in
    (are.0, frames_more ms p (suc i) fs f are.1 (subst (λ n. IsFrame ms p n f) same is))

pub frames_wider : (ms : List MacroData) (p q i : ℕ) (fs : List Frame) → p ≤ q → AreFrames ms p i fs → AreFrames ms q i fs
frames_wider ms p q i [] h are = tt
frames_wider ms p q i (f ∷ fs) h are = ((omega (arith, h, are.0.0), are.0.1, are.0.2), frames_wider ms p q (suc i) fs h are.1)

pub frame_at : (ms : List MacroData) (p i : ℕ) (fs : List Frame) (k : ℕ) (d : Frame) → AreFrames ms p i fs → k < length fs → IsFrame ms p (i + k) (get_or fs k d)
frame_at ms p i [] k d are h = absurd (omega (arith, h))
frame_at ms p i (f ∷ fs) zero d are h = let same : i ≡ i + 0 = omega arith in subst (λ n. IsFrame ms p n f) same are.0
frame_at ms p i (f ∷ fs) (suc k) d are h =
    let same : suc i + k ≡ i + suc k = omega arith in
    subst (λ n. IsFrame ms p n (get_or fs k d)) same (frame_at ms p (suc i) fs k d are.1 (omega (arith, h)))

-- what is done next, and what is left then
pub last_rest : (w : Walk) (ks : List Rest) (k : Rest) → IsGrounded w → w.rests.items ≡ ks ++ k ∷ [] → AreRests w.library.now.macros (length w.frames.items) ks × IsRest w.library.now.macros (length w.frames.items) k
last_rest w ks k grounded e = rests_last w.library.now.macros (length w.frames.items) ks k (subst (AreRests w.library.now.macros (length w.frames.items)) e grounded.rests)

-- Members of conjunctions and disjunctions, one after another.
use Rattle.std.proofs.Common.{◌≡◌, sym, ap, ◌∙◌, ℕ, ◌<◌, ◌≤◌, List, [], ◌∷◌, ◌++◌, length, get_or, map, drop, take, ◌-◌, arith}
use Rattle.std.proofs.lemmas.List.{take_rest}
use Rattle.ale_logic.specs.Descriptions.{Descriptions, all, any, descriptions_of, description}
use Rattle.ale_logic.specs.declared.desc.Desc.{Desc}
use Rattle.ale_logic.specs.declared.desc.Desc.TheVariants as des
use Rattle.ale_logic.proofs.Terms.{description_all, description_any}
use Rattle.ale_macro.specs.declared.template.Template.{Template}
use Rattle.ale_macro.specs.Templates.{template_data}
use Rattle.ale_macro.specs.Expansions.{Origin, expansions_of}
use Rattle.ale_macro.specs.Slots.{numbered, all_numbered}
use Rattle.ale_expansion.specs.Walking.{Base, Found, stands, all_stand, conjunction_of, disjunction_of, and_then}
use Rattle.ale_expansion.proofs.Steps.{before_none, done_more}

pub conjuncts_end : (g : Base) (vs : List Origin) (i : ℕ) (done made : List Desc) (ts : List Template) → length ts < 1 → made ≡ done → ◌≡◌ {A = Found} (description (des.All made), vs) (conjunction_of (map description done) (all_numbered vs (expansions_of (all_stand g i ts))))
conjuncts_end g vs i done made [] h e =
    ap {B = Found} (λ d. (d, vs)) (description_all made ∙ (ap (λ ds. all (descriptions_of (map description ds))) e ∙ ap all (sym (before_none (map description done)))))
conjuncts_end g vs i done made (t ∷ ts) h e = absurd (omega (arith, h))

pub disjuncts_end : (g : Base) (vs : List Origin) (i : ℕ) (done made : List Desc) (ts : List Template) → length ts < 1 → made ≡ done → ◌≡◌ {A = Found} (description (des.Any made), vs) (disjunction_of (map description done) (all_numbered vs (expansions_of (all_stand g i ts))))
disjuncts_end g vs i done made [] h e =
    ap {B = Found} (λ d. (d, vs)) (description_any made ∙ (ap (λ ds. any (descriptions_of (map description ds))) e ∙ ap any (sym (before_none (map description done)))))
disjuncts_end g vs i done made (t ∷ ts) h e = absurd (omega (arith, h))

pub conjuncts_more : (g : Base) (vs : List Origin) (i : ℕ) (done : List Desc) (t : Template) (items rest : List Template) → items ≡ t ∷ rest → conjunction_of (map description done) (and_then (numbered vs (stands g i (template_data t))) (all_numbered (numbered vs (stands g i (template_data t))).1 (expansions_of (all_stand g i rest)))) ≡ conjunction_of (map description done) (all_numbered vs (expansions_of (all_stand g i items)))
conjuncts_more g vs i done t items rest e = ap (λ ts. conjunction_of (map description done) (all_numbered vs (expansions_of (all_stand g i ts)))) (sym e)

pub disjuncts_more : (g : Base) (vs : List Origin) (i : ℕ) (done : List Desc) (t : Template) (items rest : List Template) → items ≡ t ∷ rest → disjunction_of (map description done) (and_then (numbered vs (stands g i (template_data t))) (all_numbered (numbered vs (stands g i (template_data t))).1 (expansions_of (all_stand g i rest)))) ≡ disjunction_of (map description done) (all_numbered vs (expansions_of (all_stand g i items)))
disjuncts_more g vs i done t items rest e = ap (λ ts. disjunction_of (map description done) (all_numbered vs (expansions_of (all_stand g i ts)))) (sym e)

-- a list that is not empty
pub cons_is : (xs : List Template) (x : Template) → 1 ≤ length xs → x ≡ get_or xs 0 x → xs ≡ x ∷ take (length xs - 1) (drop 1 xs)
cons_is [] x h e = absurd (omega (arith, h))
cons_is (y ∷ ys) x h e = ap (λ z. z ∷ ys) (sym e) ∙ ap (λ zs. x ∷ zs) (sym (take_rest (y ∷ ys) 1))

pub conjunct_done : (done new : List Desc) (have : Desc) (rest : Descriptions × List Origin) (vs : List Origin) → new ≡ done ++ have ∷ [] → conjunction_of (map description new) rest ≡ conjunction_of (map description done) (and_then (description have, vs) rest)
conjunct_done done new have rest vs e = ap {B = Found} (λ ds. (all ds, rest.1)) (done_more done new have rest.0 e)

pub disjunct_done : (done new : List Desc) (have : Desc) (rest : Descriptions × List Origin) (vs : List Origin) → new ≡ done ++ have ∷ [] → disjunction_of (map description new) rest ≡ disjunction_of (map description done) (and_then (description have, vs) rest)
disjunct_done done new have rest vs e = ap {B = Found} (λ ds. (any ds, rest.1)) (done_more done new have rest.0 e)

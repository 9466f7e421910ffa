-- The plain data of each kind of description, for a program that takes descriptions apart.
use Rattle.std.proofs.Common.{◌≡◌, sym, ap, ◌∙◌, List}
use Rattle.ale_logic.specs.declared.desc.Desc.{Desc, fold-roll-Desc}
use Rattle.ale_logic.specs.declared.desc.Desc.TheOpen.{Desc-F}
use Rattle.ale_logic.specs.declared.desc.Desc.TheVariants.{OfType, Slot, At, All, Any, Differs, Meet, rolls-OfType, rolls-Slot, rolls-At, rolls-All, rolls-Any, rolls-Differs, rolls-Meet}
use Rattle.std.specs.Prelude.{ℕ, map}
use Rattle.ale_logic.specs.Descriptions.{Description, of_type, slot, at, all, any, differs, path_equation, descriptions_of, description_step, description}

pub description_type : (t : ℕ) → description (OfType t) ≡ of_type t
description_type t = ap description (sym (rolls-OfType t)) ∙ fold-roll-Desc Description description_step (Desc-F.OfType t)

pub description_slot : (v : ℕ) → description (Slot v) ≡ slot v
description_slot v = ap description (sym (rolls-Slot v)) ∙ fold-roll-Desc Description description_step (Desc-F.Slot v)

pub description_at : (f : ℕ) (d : Desc) → description (At f d) ≡ at f (description d)
description_at f d = ap description (sym (rolls-At f d)) ∙ fold-roll-Desc Description description_step (Desc-F.At f d)

pub description_all : (ds : List Desc) → description (All ds) ≡ all (descriptions_of (map description ds))
description_all ds = ap description (sym (rolls-All ds)) ∙ fold-roll-Desc Description description_step (Desc-F.All ds)

pub description_any : (ds : List Desc) → description (Any ds) ≡ any (descriptions_of (map description ds))
description_any ds = ap description (sym (rolls-Any ds)) ∙ fold-roll-Desc Description description_step (Desc-F.Any ds)

pub description_differs : (d : Desc) → description (Differs d) ≡ differs (description d)
description_differs d = ap description (sym (rolls-Differs d)) ∙ fold-roll-Desc Description description_step (Desc-F.Differs d)

pub description_meet : (p q : List ℕ) → description (Meet p q) ≡ path_equation p q
description_meet p q = ap description (sym (rolls-Meet p q)) ∙ fold-roll-Desc Description description_step (Desc-F.Meet p q)

pub ruleset description_rules = (description_type, description_slot, description_at, description_all, description_any, description_differs, description_meet)

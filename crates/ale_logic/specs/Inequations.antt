-- Descriptions without inequations: they hold at a node by what is reached from it alone. This project's own condition.
use Rattle.ale_logic.specs.Descriptions.{Description, Descriptions, of_type, slot, at, all, any, differs, path_equation, none, more}

-- no inequation stands in it
abbrev mutual
  pub HasNoInequation : Description → Type 0
  HasNoInequation (of_type t) = Unit {0}
  HasNoInequation (slot v) = Unit {0}
  HasNoInequation (at f d) = HasNoInequation d
  HasNoInequation (all ds) = HaveNoInequation ds
  HasNoInequation (any ds) = HaveNoInequation ds
  HasNoInequation (differs d) = ⊥
  HasNoInequation (path_equation p q) = Unit {0}

  pub HaveNoInequation : Descriptions → Type 0
  HaveNoInequation none = Unit {0}
  HaveNoInequation (more d ds) = HasNoInequation d × HaveNoInequation ds

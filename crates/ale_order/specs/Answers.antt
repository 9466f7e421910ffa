-- What the order of dependence is found to be. Source: this project's own.
use Rattle.std.specs.Prelude.{ℕ, List}
use Rattle.ale_order.specs.declared.order.Dependence.{Dependence}
use Rattle.ale_order.specs.declared.order.Dependence.TheVariants.{InOrder, Cyclic}
use Rattle.ale_order.specs.Orders.{IsCyclic, IsFirstCyclic, IsOrder}

-- the answer has an order, where none leads back to itself, or the first that does
abbrev pub Answers : List (ℕ × ℕ) → ℕ → Dependence → Type 0
Answers calls size (InOrder order) =
    IsOrder calls size order.items × ((m : ℕ) → IsCyclic calls m → ⊥)
Answers calls size (Cyclic m) = IsFirstCyclic calls m

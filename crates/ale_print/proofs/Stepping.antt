-- One element of a list after another.
use Rattle.std.proofs.Common.{◌≡◌, ℕ, suc, ◌+◌, ◌<◌, List, [], ◌∷◌, drop, get_or, length, sym, ap, ◌∙◌, add-one, drop-cons}
use Rattle.std.proofs.lemmas.List.{get_or_default}
use Rattle.ale_graph.specs.declared.node.Node.{Node}
use Rattle.ale_graph.specs.Structures.{Structure, node_at}

-- what is left begins with the element at the place
pub left_from : {A : Type 0} (xs : List A) (i : ℕ) (x : A) → i < length xs → x ≡ get_or xs i x → drop i xs ≡ x ∷ drop (i + 1) xs
left_from xs i x low at =
    drop-cons xs i x low ∙ ap (λ z. z ∷ drop (suc i) xs) (sym at) ∙ ap (λ k. x ∷ drop k xs) (sym (add-one i))

-- a node that was read is the structure's
pub node_here : (s : Structure) (nodes : List Node) (n : ℕ) (x : Node) → nodes ≡ s.nodes → n < length nodes → x ≡ get_or nodes n x → node_at s n ≡ x
node_here s nodes n x e low at =
    ap (λ (z : List Node). get_or z n (record { of = 0; values = [] })) (sym e)
    ∙ get_or_default nodes n (record { of = 0; values = [] }) x low ∙ sym at

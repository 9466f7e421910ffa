-- A text to which pieces are appended one after the other has them all after what it was.
use Rattle.std.proofs.Common.{◌≡◌, ◌∙◌, ℕ, ◌++◌, List, Result, Ok, Err, OnOk, ap, append_assoc}

three_appended : (old a b c o1 o2 new : List ℕ) → o1 ≡ old ++ a → o2 ≡ o1 ++ b → new ≡ o2 ++ c → new ≡ old ++ (a ++ b ++ c)
three_appended old a b c o1 o2 new first second third =
    third ∙ ap (λ z. z ++ c) (second ∙ ap (λ z. z ++ b) first ∙ append_assoc old a b) ∙ append_assoc old (a ++ b) c

pub three_pieces : {A E : Type 0} (r : Result A E) (old a b c o1 o2 new : List ℕ) → o1 ≡ old ++ a → o2 ≡ o1 ++ b → OnOk r (new ≡ o2 ++ c) →
    OnOk r (new ≡ old ++ (a ++ b ++ c))
three_pieces (Ok x) old a b c o1 o2 new first second third = three_appended old a b c o1 o2 new first second third
three_pieces (Err x) old a b c o1 o2 new first second third = tt

pub four_pieces : {A E : Type 0} (r : Result A E) (old a b c d o1 o2 o3 new : List ℕ) → o1 ≡ old ++ a → o2 ≡ o1 ++ b → o3 ≡ o2 ++ c → OnOk r (new ≡ o3 ++ d) →
    OnOk r (new ≡ old ++ (a ++ b ++ c ++ d))
four_pieces (Ok x) old a b c d o1 o2 o3 new first second third fourth =
    fourth ∙ ap (λ z. z ++ d) (three_appended old a b c o1 o2 o3 first second third) ∙ append_assoc old (a ++ b ++ c) d
four_pieces (Err x) old a b c d o1 o2 o3 new first second third fourth = tt

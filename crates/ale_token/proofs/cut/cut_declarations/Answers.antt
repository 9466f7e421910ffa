-- What follows from what `cut` gives.
use Rattle.std.proofs.Common.{ℕ, List, subst, Vec, Global}
use Rattle.ale_token.specs.Answers.{Gives}
use Rattle.ale_token.proofs.Cutting.{Cuts-cut_on, Unended-cut_on}
use Rattle.ale_token.proofs.Ranges.{Gives-cut, Gives-each, Gives-joined, Gives-unended}
use Rattle.ale_token.proofs.cut.cut_declarations.Goals as goal

pub returns : goal.returns
returns c =
    let view : Vec (ℕ × ℕ) Global → List (ℕ × ℕ) = λ v. v.items in
    record {
      exact = c.cut.ensures;
      found = Gives-cut view c.cut.result c.args.list.now c.cut.ensures;
      only = λ ranges r. subst (Gives {A = ℕ × ℕ} view c.cut.result) (Cuts-cut_on r) c.cut.ensures;
      cause = Gives-unended view c.cut.result c.args.list.now c.cut.ensures;
      refused = λ p u. subst (Gives {A = ℕ × ℕ} view c.cut.result) (Unended-cut_on u 0) c.cut.ensures;
      each = Gives-each view c.cut.result c.args.list.now c.cut.ensures;
      joined = Gives-joined view c.cut.result c.args.list.now c.cut.ensures;
    }

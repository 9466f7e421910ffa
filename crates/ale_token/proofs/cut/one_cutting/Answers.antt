use Rattle.std.proofs.Common.{◌≡◌, subst}
use Rattle.ale_token.specs.Declarations.{Unended}
use Rattle.ale_token.specs.declared.token.TokenError.TheVariants.{NoEnd}
use Rattle.ale_token.proofs.Cutting.{cut_or_unended, Cuts-cut_on, Unended-cut_on, declarations_of-Cuts, declarations_of-Unended}
use Rattle.ale_token.proofs.cut.one_cutting.Goals as goal

pub returns-clause-either : goal.returns-clause-either
returns-clause-either c = cut_or_unended 0

pub returns-clause-cuts : goal.returns-clause-cuts
returns-clause-cuts c = λ ts ranges. (λ r. Cuts-cut_on r, λ e. declarations_of-Cuts ts ranges e)

pub returns-clause-unended : goal.returns-clause-unended
returns-clause-unended c = λ ts p. (
  λ u. Unended-cut_on u 0,
  λ e. let u = declarations_of-Unended ts (NoEnd p) e in let same : u.0 ≡ p = cc in subst (Unended ts) same u.2,
)

use Rattle.ale_declared.specs.Declarations.{declared}
use Rattle.ale_declared.proofs.DeclaredLemmas.{IsWellNumbered-declared}
use Rattle.ale_hierarchy.specs.declared.error.SigError.TheVariants.{TooManyTypes, TooManyFeatures, SubCycle, NoJoin, TwoIntros, ValueClash, Loop, ExtNotMaximal, FillTooLarge}
use Rattle.ale_signature.proofs.BuildLemmas.{accepted_result, accepts_result, lawful_result, refuses_result}
use Rattle.ale_signature.proofs.RefusalLemmas.{exactly}
use Rattle.ale_signature.proofs.signature.Signature.build.Goals as goal

pub returns-clause-accepts : goal.returns-clause-accepts
returns-clause-accepts c = accepts_result (declared c.args.decls.now) c.of_decls.result (IsWellNumbered-declared c.args.decls.now) c.of_decls.ensures.no_fault

pub returns-clause-accepted : goal.returns-clause-accepted
returns-clause-accepted c = accepted_result (declared c.args.decls.now) c.of_decls.result (IsWellNumbered-declared c.args.decls.now) c.of_decls.ensures.no_fault

pub returns-clause-lawful : goal.returns-clause-lawful
returns-clause-lawful c = lawful_result (declared c.args.decls.now) c.of_decls.result (IsWellNumbered-declared c.args.decls.now) c.of_decls.ensures.ok c.of_decls.ensures.no_fault

pub returns-clause-refuses : goal.returns-clause-refuses
returns-clause-refuses c = refuses_result (declared c.args.decls.now) c.of_decls.result (IsWellNumbered-declared c.args.decls.now) c.of_decls.ensures.exact

pub returns-clause-too_many_types : goal.returns-clause-too_many_types
returns-clause-too_many_types c =
    exactly (declared c.args.decls.now) c.of_decls.result TooManyTypes (IsWellNumbered-declared c.args.decls.now) c.of_decls.ensures.no_fault c.of_decls.ensures.exact

pub returns-clause-too_many_features : goal.returns-clause-too_many_features
returns-clause-too_many_features c =
    exactly (declared c.args.decls.now) c.of_decls.result TooManyFeatures (IsWellNumbered-declared c.args.decls.now) c.of_decls.ensures.no_fault c.of_decls.ensures.exact

pub returns-clause-sub_cycle : goal.returns-clause-sub_cycle
returns-clause-sub_cycle c =
    λ x. exactly (declared c.args.decls.now) c.of_decls.result (SubCycle x) (IsWellNumbered-declared c.args.decls.now) c.of_decls.ensures.no_fault c.of_decls.ensures.exact

pub returns-clause-no_join : goal.returns-clause-no_join
returns-clause-no_join c =
    λ x y z w. exactly (declared c.args.decls.now) c.of_decls.result (NoJoin x y z w) (IsWellNumbered-declared c.args.decls.now) c.of_decls.ensures.no_fault c.of_decls.ensures.exact

pub returns-clause-two_intros : goal.returns-clause-two_intros
returns-clause-two_intros c =
    λ x y z. exactly (declared c.args.decls.now) c.of_decls.result (TwoIntros x y z) (IsWellNumbered-declared c.args.decls.now) c.of_decls.ensures.no_fault c.of_decls.ensures.exact

pub returns-clause-value_clash : goal.returns-clause-value_clash
returns-clause-value_clash c =
    λ x y. exactly (declared c.args.decls.now) c.of_decls.result (ValueClash x y) (IsWellNumbered-declared c.args.decls.now) c.of_decls.ensures.no_fault c.of_decls.ensures.exact

pub returns-clause-loop_back : goal.returns-clause-loop_back
returns-clause-loop_back c =
    λ x. exactly (declared c.args.decls.now) c.of_decls.result (Loop x) (IsWellNumbered-declared c.args.decls.now) c.of_decls.ensures.no_fault c.of_decls.ensures.exact

pub returns-clause-ext_not_maximal : goal.returns-clause-ext_not_maximal
returns-clause-ext_not_maximal c =
    λ x. exactly (declared c.args.decls.now) c.of_decls.result (ExtNotMaximal x) (IsWellNumbered-declared c.args.decls.now) c.of_decls.ensures.no_fault c.of_decls.ensures.exact

pub returns-clause-fill_too_large : goal.returns-clause-fill_too_large
returns-clause-fill_too_large c =
    λ x. exactly (declared c.args.decls.now) c.of_decls.result (FillTooLarge x) (IsWellNumbered-declared c.args.decls.now) c.of_decls.ensures.no_fault c.of_decls.ensures.exact

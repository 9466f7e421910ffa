use Rattle.std.proofs.Common.{map}
use Rattle.ale_declaration.specs.Declarations.{declaration_data}
use Rattle.ale_naming.specs.Rounds.{round_three}
use Rattle.ale_naming.proofs.Adding.{declarations_known, declarations_go}
use Rattle.ale_naming.proofs.round_three.round_three.Goals as goal

pub loop-index-preserved : goal.loop-index-preserved
loop-index-preserved c = record {
  known = (declarations_known c.args.sig.now c.args.names.now.vocabulary c.args.decls.now c.loop-index.index c.index-decls-index.result c.loop-index-test.true c.index-decls-index.is c.loop-index.invariant.known).1;
  so_far = declarations_go c.args.sig.now c.args.names.now c.loop-index.so_far c.in-Some.after c.args.decls.now c.loop-index.index c.index-decls-index.result c.in_ok-after.field-0
      (round_three c.args.sig.now c.args.names.now 1 0 (map declaration_data c.args.decls.now)) c.loop-index-test.true c.index-decls-index.is c.loop-index.invariant.so_far c.in_ok-after.ensures c.in-Some.is;
}

use Rattle.ale_describe.proofs.Declaring.{macros_begin}
use Rattle.ale_describe.proofs.grammar.macros.Goals as goal

pub loop-decl-init : goal.loop-decl-init
loop-decl-init c = record {
  so_far = macros_begin c.args.sig.now c.args.vocabulary.now c.args.decls.now c.new-made.result.items c.new-made.ensures.items c.requires.vocabulary;
  known = c.requires.known;
}

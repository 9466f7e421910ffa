use Rattle.ale_term.specs.Terms.{term_data}
use Rattle.ale_macro.specs.Templates.{template_data}
use Rattle.ale_describe.proofs.Adding.{measurable, one_sum}
use Rattle.ale_describe.proofs.sums.term_parts.Goals as goal

pub measured-requires : goal.measured-requires
measured-requires c = record {
  known = measurable c.args.sig.now c.args.names.now (term_data c.args.term.now) c.vocabulary.result.now c.library.result.now c.new-slots.result c.templated.new.slots
      (template_data c.in_ok-template.template) c.vocabulary.ensures c.library.ensures.library c.library.ensures.keys c.requires.known c.in_ok-template.ensures;
}

pub returns : goal.returns
returns c =
    one_sum c.args.sig.now c.args.names.now c.args.so_far (term_data c.args.term.now) c.vocabulary.result.now c.library.result.now c.new-slots.result c.templated.new.slots
    (template_data c.in_ok-template.template) c.in_ok-parts.parts c.sum_with.result c.vocabulary.ensures c.library.ensures.library c.new-slots.ensures c.in_ok-template.ensures
    c.in_ok-parts.ensures c.sum_with.ensures

use Rattle.std.proofs.Common.{ap, ◌∙◌, map}
use Rattle.ale_term.specs.Terms.{term_data, terms_of}
use Rattle.ale_macro.specs.Templates.{template_data, templates_of}
use Rattle.ale_describe.specs.Templating.{all_templated}
use Rattle.ale_describe.proofs.Loops.{one_more, all_done, known_here}
use Rattle.ale_describe.proofs.templates.+templating.Goals as goal

pub all_templated-loop-term-preserved : goal.all_templated-loop-term-preserved
all_templated-loop-term-preserved t c =
    let d = c.args.sig.now in
    let v = c.args.vocabulary.now in
    record {
      so_far = one_more d v c.loop-term.slots c.templated.new.slots c.args.terms.now c.loop-term.term-index c.term-item.result c.loop-term.made.items c.push.new.self.items c.in_ok-template.template
          (all_templated d v c.args.slots.now (terms_of (map term_data c.args.terms.now))) c.loop-term-test.true c.term-item.is c.loop-term.invariant.so_far c.in_ok-template.ensures c.in_ok-push.ensures.items;
      known = (known_here d v c.args.terms.now c.loop-term.term-index c.term-item.result c.loop-term-test.true c.term-item.is c.loop-term.invariant.known).1;
    }

pub all_templated-returns : goal.all_templated-returns
all_templated-returns t c =
    ap (λ z. (templates_of (map template_data z), c.loop-term.slots)) c.from_vec.ensures
    ∙ all_done c.args.sig.now c.args.vocabulary.now c.loop-term.slots c.args.terms.now c.loop-term.term-index c.loop-term.made.items
    (all_templated c.args.sig.now c.args.vocabulary.now c.args.slots.now (terms_of (map term_data c.args.terms.now))) c.loop-term-test.false c.loop-term.invariant.so_far

use Rattle.std.proofs.Common.{◌≡◌, map, drop}
use Rattle.ale_term.specs.Terms.{term_data, terms_of}
use Rattle.ale_macro.specs.Templates.{template_data}
use Rattle.ale_describe.specs.Known.{AreKnownTerms}
use Rattle.ale_describe.specs.Templating.{all_templated}
use Rattle.ale_describe.proofs.Loops.{behind, left}
use Rattle.ale_describe.proofs.templates.+templating.Given as goal

abbrev pub invariant-all_templated-loop-term : goal.invariant-all_templated-loop-term
invariant-all_templated-loop-term l = record {
  so_far : behind (map template_data l.made.items) (left l.sig l.vocabulary l.slots l.terms l.term-index) ≡ all_templated l.sig l.vocabulary l.fn.slots (terms_of (map term_data l.terms));
  known : AreKnownTerms l.sig l.vocabulary (terms_of (map term_data (drop l.term-index l.terms)));
}

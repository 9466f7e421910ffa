-- No inequation stands in a description where none is written, and none in a macro's body.
use Rattle.std.proofs.Common.{ℕ, List, [], ◌∷◌, ◌++◌}
use Rattle.ale_declared.specs.Declarations.{Declared}
use Rattle.ale_term.specs.Terms as term
use Rattle.ale_term.specs.Terms.{TermData, TermsData}
use Rattle.ale_vocabulary.specs.Vocabularies.{VocabularyData}
use Rattle.ale_macro.specs.Calls.{IsPlainTemplate, ArePlainTemplates}
use Rattle.ale_macro.proofs.LawsHold.{library_law}
use Rattle.ale_describe.specs.Variables.{anonymous}
use Rattle.ale_describe.specs.Plain.{IsPlainTerm, ArePlainTerms}
use Rattle.ale_describe.specs.PlainLaws.{DescriptionsArePlain, EachDescriptionIsPlain, PlainLaw}
use Rattle.ale_describe.specs.Templating.{templated, all_templated}
use Rattle.ale_describe.specs.Describing.{described}
use Rattle.ale_describe.proofs.Knowing.{calls_known}

mutual
  pub plain_template : (d : Declared) (v : VocabularyData) (vs : List (List ℕ)) (t : TermData) → IsPlainTerm t → IsPlainTemplate (templated d v vs t).0
  plain_template d v vs (term.name n) p = tt
  plain_template d v vs (term.slot x) p = tt
  plain_template d v vs (term.at f t) p = plain_template d v vs t p
  plain_template d v vs (term.all ts) p = plain_templates d v vs ts p
  plain_template d v vs (term.any ts) p = plain_templates d v vs ts p
  plain_template d v vs (term.differs t) p = absurd p
  plain_template d v vs (term.meet p q) r = tt
  plain_template d v vs (term.macro m ts) p = let us : List (List ℕ) = vs ++ anonymous ∷ [] in plain_templates d v us ts p
  plain_template d v vs (term.list ts) p = (plain_templates d v vs ts p, tt)
  plain_template d v vs (term.list_with ts t) p = (plain_templates d v vs ts p.0, plain_template d v (all_templated d v vs ts).1 t p.1)

  plain_templates : (d : Declared) (v : VocabularyData) (vs : List (List ℕ)) (ts : TermsData) → ArePlainTerms ts → ArePlainTemplates (all_templated d v vs ts).0
  plain_templates d v vs term.none p = tt
  plain_templates d v vs (term.more t ts) p = (plain_template d v vs t p.0, plain_templates d v (templated d v vs t).1 ts p.1)

plain_description : DescriptionsArePlain
plain_description d names scope t are k p =
    let v : VocabularyData = names.vocabulary in
    let known = calls_known d v names.library.macros scope.written t are.keys k in
    library_law.plain names.library scope.slots (templated d v scope.written t).0 are.library known are.bodies (plain_template d v scope.written t p)

each_plain : EachDescriptionIsPlain
each_plain d names scope [] are k p = tt
each_plain d names scope (t ∷ ts) are k p = (plain_description d names scope t are k.0 p.0, each_plain d names (described d names scope t).1 ts are k.1 p.1)

pub plain_law : PlainLaw
plain_law = record { descriptions = plain_description; each = each_plain }

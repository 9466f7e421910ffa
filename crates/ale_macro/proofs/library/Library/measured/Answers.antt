use Rattle.std.proofs.Common.{◌≡◌, min, [], map, ap, ◌∙◌}
use Rattle.ale_macro.specs.Templates.{template_data, macro_data}
use Rattle.ale_macro.specs.Expanding.{expansion}
use Rattle.ale_macro.specs.Sizes.{parts_by, tallied_by, nesting_by, reached_by}
use Rattle.ale_macro.specs.Tables.{IsMeasured}
use Rattle.ale_macro.proofs.Measured.{limits_same, measured_at, own_parts, own_nesting}
use Rattle.ale_macro.proofs.library.Library.measured.Goals as goal

pub returns : goal.returns
returns c =
    let m : IsMeasured c.self.inside.tallies.items c.self.inside.depths.items c.args.self.now (template_data c.args.template.now) =
    measured_at c.self.inside.tallies.items c.self.inside.depths.items
    (record { lists = c.self.inside.lists; macros = map macro_data c.self.inside.macros.items }) c.args.self.now c.self.view_is
    c.self.invariant.measure (template_data c.args.template.now) c.requires.known in
    c.limited.ensures
    ∙ limits_same (expansion c.args.self.now (template_data c.args.template.now)) c.count.new.tally.own c.reach.new.depth.own
    (own_parts c.as_slice.result.now (template_data c.args.template.now) c.in_ok-tally.tally c.count.new.tally c.in_ok-tally.ensures.uses c.in_ok-tally.ensures.parts c.count.ensures.parts
    ∙ (ap (λ table. min (parts_by (tallied_by table) [] (template_data c.args.template.now)) 100001) c.as_slice.ensures.value ∙ m.counts))
    (own_nesting c.as_slice-2.result.now (template_data c.args.template.now) c.in_ok-depth.depth c.reach.new.depth c.in_ok-depth.ensures.places c.in_ok-depth.ensures.nesting c.reach.ensures.nesting
    ∙ (ap (λ table. min (nesting_by (reached_by table) [] (template_data c.args.template.now)) 4001) c.as_slice-2.ensures.value ∙ m.reaches))

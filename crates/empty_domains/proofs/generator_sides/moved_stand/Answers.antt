use Rattle.std.proofs.Common.{◌≡◌, ◌∙◌, ap, arith, sym}
use Rattle.page_surface.specs.Polygon.{arc}
use Rattle.empty_domains.specs.Strip.{Step}
use Rattle.empty_domains.proofs.generator_sides.moved_stand.Goals as goal

pub arc-arc-requires : goal.arc-arc-requires
arc-arc-requires c = omega (arith, c.requires.side, c.requires.tables.ends_size)

pub bounds-from-side : goal.bounds-from-side
bounds-from-side c = omega (arith, c.requires.side, c.requires.from.size)

pub returns : goal.returns
returns c =
    let a : c.arc-arc.result ≡ arc c.args.diagram.now.polygon c.args.side = c.arc-arc.ensures ∙ c.requires.tables.arcs_are c.args.side c.requires.side in
    c.requires.from.each c.args.side c.requires.side
    (λ e. c.if-arc-step.false (a ∙ (e ∙ sym (ap (λ (s : Step). s.by.first) c.step.view_is))))
    (λ e. c.if-arc-step-2.false (a ∙ (e ∙ sym (ap (λ (s : Step). s.by.second) c.step.view_is))))

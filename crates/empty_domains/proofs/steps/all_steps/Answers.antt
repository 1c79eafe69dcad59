use Rattle.std.proofs.Common.{◌≡◌, ◌∙◌, ◌+◌, ◌/◌, ap, ap₂, arith, length}
use Rattle.std.specs.List.{flat_map}
use Rattle.empty_domains.proofs.StepsMade.{arcs_grown}
use Rattle.empty_domains.specs.Ground.{arc_strips_by}
use Rattle.obd_base.specs.Lists.{below}
use Rattle.page_surface.specs.Polygon.{arc_count, sides}
use Rattle.empty_domains.proofs.steps.all_steps.Goals as goal

pub loop-arc-preserved : goal.loop-arc-preserved
loop-arc-preserved c = record {
  size = c.arc_steps.ensures.size ∙ c.loop-arc.invariant.size;
  steps = arcs_grown (arc_strips_by c.args.tables.now c.args.standing.now c.args.diagram.now (length c.args.tables.now.other)) c.loop-arc.arc (c.loop-arc.arc + 1) _ _ (omega arith)
      c.loop-arc.invariant.steps c.in_ok-arc_steps.ensures.steps;
}

pub returns : goal.returns
returns c =
    let half : c.sides-arc-end.result / 2 ≡ arc_count c.args.diagram.now.polygon = ap (λ n. n / 2) (c.sides-arc-end.ensures.value ∙ ap sides c.requires.polygon) in
    let all : c.loop-arc.arc ≡ arc_count c.args.diagram.now.polygon = omega (arith, half, c.loop-arc-test.false, c.loop-arc.auto) in
    c.loop-arc.invariant.steps ∙ ap₂ (λ r n. flat_map (arc_strips_by c.args.tables.now c.args.standing.now c.args.diagram.now r) (below n)) c.requires.tables.other_size all

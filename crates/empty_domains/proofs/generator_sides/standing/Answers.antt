use Rattle.std.proofs.Common.{◌≡◌, ◌∙◌, ap, arith}
use Rattle.empty_domains.proofs.StandMade.{standing_made}
use Rattle.empty_domains.specs.Strip.{stand}
use Rattle.page_surface.specs.Polygon.{sides}
use Rattle.region_table.proofs.ChordTables.{told_more}
use Rattle.empty_domains.proofs.generator_sides.standing.Goals as goal

pub loop-side-preserved : goal.loop-side-preserved
loop-side-preserved c = told_more (stand c.args.diagram.now c.args.points.now) c.loop-side.side _ _ _ c.loop-side.invariant c.stand.ensures c.in_ok-push.ensures.ok

pub returns : goal.returns
returns c =
    let n : c.sides-side-end.result ≡ sides c.args.diagram.now.polygon = c.sides-side-end.ensures.value ∙ ap sides c.requires.polygon in
    standing_made c.args.diagram.now c.requires.valid c.args.points.now c.requires.points c.loop-side.standing.items c.loop-side.side (omega (arith, n, c.loop-side-test.false, c.loop-side.auto)) c.loop-side.invariant

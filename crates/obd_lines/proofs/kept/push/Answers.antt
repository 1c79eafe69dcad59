use Rattle.std.proofs.Common.{◌∙◌, ap, subst, sym}
use Rattle.page_surface.specs.Drawing.{Drawing}
use Rattle.drawing.specs.Fingers.{IsLegal, pushed}
use Rattle.region_table.proofs.KeptLaws.{roomier}
use Rattle.obd_lines.proofs.kept.push.Goals as goal

pub apply-requires-clause-legal : goal.apply-requires-clause-legal
apply-requires-clause-legal c = subst (λ (d : Drawing). IsLegal d c.args.finger.now) (sym c.in_ok-reserve.ensures.drawing) c.requires.legal

pub after_finger-count-requires-clause-before : goal.after_finger-count-requires-clause-before
after_finger-count-requires-clause-before c =
    let d = c.args.drawing.now.drawing in (
      d,
      c.points.ensures.valid,
      c.requires.legal,
      roomier d c.args.regions.now c.reserve-2.new.self c.in_ok-reserve-2.ensures.kept c.requires.table,
      c.apply.ensures.value ∙ ap (λ (e : Drawing). pushed e c.args.finger.now) c.in_ok-reserve.ensures.drawing,
    )

use Rattle.std.proofs.Common.{◌∙◌, ap, arith, subst, sym}
use Rattle.std.proofs.lemmas.List.{take_all}
use Rattle.page_surface.specs.Drawing.{Drawing}
use Rattle.drawing.specs.Fingers.{IsLegal, pushed, replayed}
use Rattle.drawing.proofs.fingers.Replayed.{replayed_more}
use Rattle.region_table.specs.Changed.{KeepsAllNames, KeepsNames}
use Rattle.region_table.specs.Table.{IsTableOf, Table, name_at}
use Rattle.region_table.proofs.KeptLaws.{roomier}
use Rattle.nice_plan.proofs.Applied.{each_legal}
use Rattle.nice_plan.proofs.KeptNames.{names_at_first, names_more}
use Rattle.nice_plan.proofs.bursts.push_all.Goals as goal

pub loop-finger-init : goal.loop-finger-init
loop-finger-init c =
    let old = c.args.regions.now in
    record {
      here = c.in_ok-reserve.ensures.drawing;
      table = roomier c.reserve.new.self.drawing old c.reserve-2.new.self c.in_ok-reserve-2.ensures.kept
          (subst (λ (d : Drawing). IsTableOf d old) (sym c.in_ok-reserve.ensures.drawing) c.requires.table);
      names = names_at_first c.args.drawing.now.drawing old c.reserve-2.new.self (λ s. ap (λ (t : Table). name_at t s) c.in_ok-reserve-2.ensures.kept);
      room = grind (arith, c.in_ok-reserve.ensures.room);
      table_room = grind (arith, c.in_ok-reserve-2.ensures.ok);
    }

pub push-requires-clause-legal : goal.push-requires-clause-legal
push-requires-clause-legal c =
    subst (λ (d : Drawing). IsLegal d c.finger-item.result) (sym c.loop-finger.invariant.here)
    (each_legal c.args.drawing.now.drawing c.args.fingers.now c.loop-finger.finger-index c.finger-item.result c.requires.legal c.loop-finger-test.true c.finger-item.is)

pub loop-finger-preserved : goal.loop-finger-preserved
loop-finger-preserved c =
    let f = c.finger-item.result in
    let inv = c.loop-finger.invariant in
    let first = c.args.drawing.now.drawing in
    let at = c.loop-finger.finger-index in
    record {
      here = c.push.ensures.pushed ∙ (ap (λ x. pushed x f) inv.here ∙ sym (replayed_more first c.args.fingers.now at f c.loop-finger-test.true c.finger-item.is));
      table = c.push.ensures.table;
      names = names_more first c.args.fingers.now at f c.args.regions.now c.loop-finger.regions c.push.new.regions c.loop-finger-test.true c.finger-item.is inv.names
          (subst (λ (d : Drawing). KeepsNames d f c.loop-finger.regions c.push.new.regions) inv.here c.push.ensures.names);
      room = omega (arith, c.push.ensures.room, inv.room);
      table_room = omega (arith, c.push.ensures.table_room, inv.table_room);
    }

pub returns-clause-pushed : goal.returns-clause-pushed
returns-clause-pushed c = c.loop-finger.invariant.here ∙ ap (replayed c.args.drawing.now.drawing) (take_all c.loop-finger.finger-index c.args.fingers.now c.loop-finger-test.false)

pub returns-clause-table : goal.returns-clause-table
returns-clause-table c = c.measure.ensures.table c.loop-finger.drawing.drawing c.loop-finger.invariant.table

pub returns-clause-distances : goal.returns-clause-distances
returns-clause-distances c = c.measure.ensures.distances c.loop-finger.drawing.drawing c.points.ensures.valid c.loop-finger.invariant.table

pub returns-clause-names : goal.returns-clause-names
returns-clause-names c = λ old new there inside kept.
    let first = c.args.drawing.now.drawing in
    let all = take_all c.loop-finger.finger-index c.args.fingers.now c.loop-finger-test.false in
    let so : KeepsAllNames first c.args.fingers.now c.args.regions.now c.loop-finger.regions =
    subst (λ fs. KeepsAllNames first fs c.args.regions.now c.loop-finger.regions) all c.loop-finger.invariant.names in
    ap (λ (t : Table). name_at t new) c.measure.ensures.kept ∙ so old new there inside kept

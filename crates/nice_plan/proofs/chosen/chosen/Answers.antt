use Rattle.std.proofs.Common.{◌∙◌, ap, subst}
use Rattle.obd_base.specs.Lists.{Mem}
use Rattle.drawing.proofs.Lists.{mem_at}
use Rattle.nice_plan.specs.Measured.{IsMeasured, Measured}
use Rattle.nice_plan.proofs.ChosenSteps.{best_all, best_step, chosen_bad, chosen_home, chosen_inner, chosen_nice, part_inner}
use Rattle.nice_plan.proofs.chosen.chosen.Goals as goal

pub better-chosen-requires-clause-piece : goal.better-chosen-requires-clause-piece
better-chosen-requires-clause-piece c =
    let m = c.args.measured.now in
    let k = subst (λ (w : Measured). IsMeasured w.drawing w.table) c.measured.view_is c.measured.invariant in
    let same = c.inner-inner.ensures ∙ ap (λ (w : Measured). w.table.inner) c.measured.view_is in
    let l = k.table.listed_inner c.piece-item.result (subst (λ ps. Mem c.piece-item.result ps) same (mem_at c.inner-inner.result.now _ _ c.loop-piece-test.true c.piece-item.is)) in
    record { listed = l.0; inner = l.1 }

pub better-chosen-requires-clause-chosen : goal.better-chosen-requires-clause-chosen
better-chosen-requires-clause-chosen c =
    let m = c.args.measured.now in
    let k = subst (λ (w : Measured). IsMeasured w.drawing w.table) c.measured.view_is c.measured.invariant in
    let same = c.inner-inner.ensures ∙ ap (λ (w : Measured). w.table.inner) c.measured.view_is in
    chosen_inner m k _ c.loop-piece.chosen (part_inner m k c.inner-inner.result.now c.loop-piece.piece-index same) c.loop-piece.invariant

pub loop-piece-preserved : goal.loop-piece-preserved
loop-piece-preserved c =
    best_step c.args.measured.now c.inner-inner.result.now c.loop-piece.piece-index c.piece-item.result c.loop-piece.chosen c.better-chosen.result
    c.loop-piece-test.true c.piece-item.is c.better-chosen.ensures c.loop-piece.invariant

pub returns-clause-nice : goal.returns-clause-nice
returns-clause-nice c =
    let m = c.args.measured.now in
    let k = subst (λ (w : Measured). IsMeasured w.drawing w.table) c.measured.view_is c.measured.invariant in
    let same = c.inner-inner.ensures ∙ ap (λ (w : Measured). w.table.inner) c.measured.view_is in
    chosen_nice m k c.loop-piece.chosen (best_all m k c.inner-inner.result.now c.loop-piece.piece-index c.loop-piece.chosen same c.loop-piece-test.false c.loop-piece.invariant)

pub returns-clause-bad : goal.returns-clause-bad
returns-clause-bad c =
    let m = c.args.measured.now in
    let k = subst (λ (w : Measured). IsMeasured w.drawing w.table) c.measured.view_is c.measured.invariant in
    let same = c.inner-inner.ensures ∙ ap (λ (w : Measured). w.table.inner) c.measured.view_is in
    chosen_bad m k c.loop-piece.chosen (best_all m k c.inner-inner.result.now c.loop-piece.piece-index c.loop-piece.chosen same c.loop-piece-test.false c.loop-piece.invariant)

pub returns-clause-inner : goal.returns-clause-inner
returns-clause-inner c =
    let m = c.args.measured.now in
    let k = subst (λ (w : Measured). IsMeasured w.drawing w.table) c.measured.view_is c.measured.invariant in
    let same = c.inner-inner.ensures ∙ ap (λ (w : Measured). w.table.inner) c.measured.view_is in
    chosen_inner m k _ c.loop-piece.chosen (part_inner m k c.inner-inner.result.now c.loop-piece.piece-index same) c.loop-piece.invariant

pub returns-clause-chosen : goal.returns-clause-chosen
returns-clause-chosen c =
    let m = c.args.measured.now in
    let k = subst (λ (w : Measured). IsMeasured w.drawing w.table) c.measured.view_is c.measured.invariant in
    let same = c.inner-inner.ensures ∙ ap (λ (w : Measured). w.table.inner) c.measured.view_is in
    chosen_home m k c.loop-piece.chosen (best_all m k c.inner-inner.result.now c.loop-piece.piece-index c.loop-piece.chosen same c.loop-piece-test.false c.loop-piece.invariant)

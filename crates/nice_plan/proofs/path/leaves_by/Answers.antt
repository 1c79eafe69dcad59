use Rattle.std.proofs.Common.{◌∙◌, sym}
use Rattle.page_surface.specs.Drawing.{spot}
use Rattle.nice_plan.proofs.MeasuredReads.{base_at, on_span}
use Rattle.nice_plan.proofs.PathSteps.{leaves_backward, leaves_onward}
use Rattle.nice_plan.proofs.path.leaves_by.Goals as goal

pub returns-then-goes_on-clause-value : goal.returns-then-goes_on-clause-value
returns-then-goes_on-clause-value c =
    let m = c.args.measured.now in
    let k = c.index_of-index.ensures.known in
    let s = spot m.drawing c.args.entered.now in
    let l = on_span m.drawing c.args.entered.now c.requires.there in
    let inner = sym (base_at m k s l c.args.piece c.requires.inside) ∙ c.requires.piece.inner in
    c.segment.ensures.number ∙ (c.next-next.ensures.value
    ∙ sym (leaves_onward m k s l inner c.args.piece c.requires.inside c.requires.piece c.index_of-index.result c.index_of-index.ensures.inside c.index_of-index.ensures.value c.goes_on.result (sym c.goes_on.ensures) c.if-goes_on.true))

pub returns-else-goes_on-clause-value : goal.returns-else-goes_on-clause-value
returns-else-goes_on-clause-value c =
    let m = c.args.measured.now in
    let k = c.index_of-index.ensures.known in
    let s = spot m.drawing c.args.entered.now in
    let l = on_span m.drawing c.args.entered.now c.requires.there in
    let inner = sym (base_at m k s l c.args.piece c.requires.inside) ∙ c.requires.piece.inner in
    c.segment-else-goes_on.ensures.number ∙ (c.previous-previous.ensures.value
    ∙ sym (leaves_backward m k s l inner c.args.piece c.requires.inside c.requires.piece c.index_of-index.result c.index_of-index.ensures.inside c.index_of-index.ensures.value c.goes_on.result (sym c.goes_on.ensures) c.if-goes_on.false))

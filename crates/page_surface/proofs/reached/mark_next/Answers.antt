use Rattle.std.proofs.Common.{◌∙◌, ap, false, get_or}
use Rattle.page_surface.proofs.SideTables.{marks_agree}
use Rattle.page_surface.proofs.reached.mark_next.Goals as goal

pub returns : goal.returns
returns c =
    rw (← marks_agree c.args.polygons.now c.args.marked.now c.deref.result.now c.args.label_count
    (λ label l. ap (λ ms. get_or ms label false) c.deref.ensures.value ∙ c.in_ok-labels.ensures.marks label l)
    c.args.polygons.now c.requires.in_range)
    c.polygons_with_mark.ensures

use Rattle.std.proofs.Common.{◌∙◌, ap}
use Rattle.arc_basis.proofs.Laws.{seams_named}
use Rattle.obd_cli.proofs.surface.Surface.seam_names.Goals as goal

pub label_names-requires : goal.label_names-requires
label_names-requires c = seams_named c.args.page.now c.label_count.ensures.valid _ (c.seams.ensures.value ∙ ap (λ j. j.seams) c.requires)

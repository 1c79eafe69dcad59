use Rattle.std.proofs.Common.{ap, arith, length, string_bytes}
use Rattle.std.proofs.lemmas.List.{length-map}
use Rattle.page_surface.proofs.LabelNumbers.{few_labels}
use Rattle.page_surface.proofs.labelled.Labelled.label_count.Goals as goal

pub overflow_cast-result : goal.overflow_cast-result
overflow_cast-result c =
    omega (arith, c.len.ensures.len, length-map c.self.inside.labels.keys string_bytes, ap length c.self.invariant.labels_are, few_labels c.self.inside.polygons, c.self.invariant.few)

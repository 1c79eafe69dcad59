use Rattle.std.proofs.Common.{ap, arith, length, string_bytes, ◌∙◌}
use Rattle.std.proofs.lemmas.List.{length-map}
use Rattle.page_surface.specs.Labels.{labels_of}
use Rattle.page_surface.proofs.LabelNumbers.{few_labels}
use Rattle.page_surface.proofs.Keys.{position-of_text}
use Rattle.page_surface.proofs.labelled.Labelled.label.Goals as goal

pub returns-in_err-number : goal.returns-in_err-number
returns-in_err-number c = c.from_residual.ensures ∙ (c.in_err-number.ensures.index ∙ position-of_text _ _ _ (c.self.invariant.labels_are ∙ ap labels_of c.self.view_is))

pub returns : goal.returns
returns c = rw c.new.ensures (c.in_ok-number.ensures.index ∙ position-of_text _ _ _ (c.self.invariant.labels_are ∙ ap labels_of c.self.view_is))

pub overflow_cast-number : goal.overflow_cast-number
overflow_cast-number c =
    omega (
      arith,
      c.in_ok-number.ensures.within,
      length-map c.self.inside.labels.keys string_bytes,
      ap length c.self.invariant.labels_are,
      few_labels c.self.inside.polygons,
      c.self.invariant.few,
    )

use Rattle.page_surface.proofs.SideNumbers.{counts_of_labels}
use Rattle.page_surface.proofs.labelled.Labelled.label_counts.Goals as goal

pub returns : goal.returns
returns c = rw (← counts_of_labels c.args.self.now, ← c.sides.ensures.value, ← c.label_count.ensures) c.label_counts.ensures

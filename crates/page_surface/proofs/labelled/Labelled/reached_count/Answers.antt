use Rattle.std.proofs.Common.{[], ap, arith, length}
use Rattle.page_surface.proofs.ReachedMarks.{reached_marks}
use Rattle.page_surface.proofs.Sides.{length-side_labels_of}
use Rattle.page_surface.proofs.labelled.Labelled.reached_count.Goals as goal

pub count_reached-requires-clause-some : goal.count_reached-requires-clause-some
count_reached-requires-clause-some c = omega (arith, ap length c.sides.ensures.value, length-side_labels_of [] c.args.self.now, c.requires.some)

pub returns : goal.returns
returns c = rw (← reached_marks c.args.self.now c.requires.some c.requires.full, ← c.sides.ensures.value) c.count_reached.ensures

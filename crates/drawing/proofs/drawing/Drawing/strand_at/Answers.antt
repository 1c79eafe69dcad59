use Rattle.std.proofs.Common.{ap}
use Rattle.drawing.specs.Room.{Roomy}
use Rattle.drawing.proofs.KeptTables.{strand_read}
use Rattle.drawing.proofs.drawing.Drawing.strand_at.Goals as goal

pub returns : goal.returns
returns c =
    let r = rw c.as_slice.ensures.value at c.index-as_slice-spot.is in
    strand_read _ _ (ap (λ (r : Roomy). r.drawing) c.self.view_is) _ _ _ _ _ _ c.self.invariant _ _ _ _ c.requires.side c.requires.place c.spot.ensures.value c.spot.ensures.inside r

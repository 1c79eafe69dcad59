use Rattle.std.proofs.Common.{◌∙◌, ap}
use Rattle.drawing.specs.Layout.{drawn}
use Rattle.drawing.specs.Room.{rows}
use Rattle.witness_check.proofs.StrandLines.{kept_drawing, kept_embedded, kept_refused}
use Rattle.witness_check.proofs.strand_lines.read.Goals as goal

pub returns : goal.returns
returns c =
    let same = ap (drawn c.args.polygon.now) (ap rows c.deref.ensures.value ∙ c.in_ok-strands.ensures) in
    record {
      drawing = kept_drawing _ _ same c.read.result c.unless_memory.result c.unless_memory.ensures.some c.read.ensures.drawing;
      embedded = kept_embedded _ _ same c.read.result c.unless_memory.result c.unless_memory.ensures.some c.read.ensures.accepted;
      refused = kept_refused _ _ same c.read.result c.unless_memory.result c.unless_memory.ensures.none c.read.ensures.refused;
    }

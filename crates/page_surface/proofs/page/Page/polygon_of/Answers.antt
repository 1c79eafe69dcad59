use Rattle.std.proofs.Common.{◌≡◌, [], ap, arith, length}
use Rattle.page_surface.specs.Labels.{labels_of, side_labels_of}
use Rattle.page_surface.proofs.SideTables.{length-lies_on, lies_on_read}
use Rattle.page_surface.proofs.page.Page.polygon_of.Goals as goal

pub index-requires : goal.index-requires
index-requires c =
    omega (
      arith,
      c.number.ensures.value,
      c.requires.label,
      ap (λ ps. length (labels_of ps)) c.self.view_is,
      length-lies_on (side_labels_of [] c.self.inside.labelled) 0 _ _ c.self.invariant.first_are,
      c.self.inside.first_polygons.ok.0,
    )

pub index-requires-else-occurrence-eq0 : goal.index-requires-else-occurrence-eq0
index-requires-else-occurrence-eq0 c =
    omega (
      arith,
      c.number-else-occurrence-eq0.ensures.value,
      c.requires.label,
      ap (λ ps. length (labels_of ps)) c.self.view_is,
      length-lies_on (side_labels_of [] c.self.inside.labelled) 1 _ _ c.self.invariant.second_are,
      c.self.inside.second_polygons.ok.0,
    )

pub returns-then-occurrence-eq0 : goal.returns-then-occurrence-eq0
returns-then-occurrence-eq0 c =
    rw (c.if-occurrence-eq0.true, ← c.self.view_is)
    (lies_on_read (side_labels_of [] c.self.inside.labelled) 0 c.self.inside.first_polygons.items (length (labels_of c.self.inside.labelled)) c.args.label c.number.result c.index.result.now
    c.self.invariant.first_are (omega (arith, c.requires.label, ap (λ ps. length (labels_of ps)) c.self.view_is)) c.number.ensures.value c.index.ensures)

pub returns-else-occurrence-eq0 : goal.returns-else-occurrence-eq0
returns-else-occurrence-eq0 c =
    let other : c.args.occurrence ≡ 1 = omega (arith, c.requires.occurrence) in
    rw (other, ← c.self.view_is)
    (lies_on_read (side_labels_of [] c.self.inside.labelled) 1 c.self.inside.second_polygons.items (length (labels_of c.self.inside.labelled)) c.args.label c.number-else-occurrence-eq0.result
    c.index-else-occurrence-eq0.result.now c.self.invariant.second_are (omega (arith, c.requires.label, ap (λ ps. length (labels_of ps)) c.self.view_is)) c.number-else-occurrence-eq0.ensures.value
    c.index-else-occurrence-eq0.ensures)

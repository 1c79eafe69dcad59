use Rattle.std.proofs.Common.{◌≡◌, ◌-◌, ◌<◌, ◌%◌, length, sym, ap, subst, arith, ◌∙◌}
use Rattle.std.proofs.lemmas.List.{get_or_default}
use Rattle.drawing.specs.Pieces.{corners}
use Rattle.region_table.specs.Edges.{IsSegmentEdge}
use Rattle.region_table.specs.Ends.{ChordNo, IsKept}
use Rattle.region_table.specs.Table.{Table}
use Rattle.region_table.proofs.EdgeReads.{chord_edge_read, segment_read}
use Rattle.region_table.proofs.KeptReads.{start_seen}
use Rattle.region_table.proofs.SegmentReads.{inner_there, numbers_kept, size_there}
use Rattle.region_table.proofs.regions.Regions.edge.Goals as goal

pub index-end-requires : goal.index-end-requires
index-end-requires c =
    let t = c.args.self.now in
    let kept = subst (λ u. IsKept u c.self.inside.frame.ends.items) c.self.view_is c.self.invariant.0.kept in
    omega (arith, c.segment_in-segment.ensures.inside, numbers_kept t c.self.inside.frame.ends.items kept, kept.as_many, c.self.inside.frame.ends.ok)

pub returns-then-at-eq0 : goal.returns-then-at-eq0
returns-then-at-eq0 c = λ d s ok told l e.
    let t = c.args.self.now in
    let kept = subst (λ u. IsKept u c.self.inside.frame.ends.items) c.self.view_is c.self.invariant.0.kept in
    let la : c.args.at < corners d s = omega (arith, c.requires.at, size_there t c.args.piece c.requires.inner d s told l e) in
    let is = c.segment_in-segment.ensures.value d s ok told l e in
    let start = start_seen t c.self.inside.frame.ends.items kept c.self.inside.frame.starts.items (ap (λ (u : Table). u.starts) c.self.view_is) c.side_at-side.result c.number.result c.index.result.now
    c.number.ensures.value (omega (arith, c.side_at-side.ensures.side)) c.index.ensures in
    subst (λ n. IsSegmentEdge d s c.args.at c.side_at-side.result (c.segment_in-segment.result - n)) (sym start)
    (segment_read d ok t told s l (inner_there t c.args.piece c.requires.inner d s told l e) c.args.at la c.segment_in-segment.result is c.if-at-eq0.true
    c.side_at-side.result c.side_at-side.ensures.side c.side_at-side.ensures.from c.side_at-side.ensures.to)

pub returns-else-at-eq0 : goal.returns-else-at-eq0
returns-else-at-eq0 c = λ d s ok told l e.
    let t = c.args.self.now in
    let ends = c.self.inside.frame.ends.items in
    let kept = subst (λ u. IsKept u ends) c.self.view_is c.self.invariant.0.kept in
    let la : c.args.at < corners d s = omega (arith, c.requires.at, size_there t c.args.piece c.requires.inner d s told l e) in
    let is = c.segment_in-segment.ensures.value d s ok told l e in
    let odd : c.args.at % 2 ≡ 1 = omega (arith, c.if-at-eq0.false) in
    let inside : c.segment_in-segment.result < length ends = omega (arith, c.segment_in-segment.ensures.inside, numbers_kept t ends kept, kept.as_many) in
    let seen : ChordNo = record { strand = c.end.inside.strand; chord = c.end.inside.chord } in
    let read = c.end.view_is ∙ (c.index-end.ensures ∙ get_or_default ends c.segment_in-segment.result _ (record { strand = 0; chord = 0 }) inside) in
    chord_edge_read d ok t told s l (inner_there t c.args.piece c.requires.inner d s told l e) c.args.at la c.segment_in-segment.result is odd ends kept.known seen read

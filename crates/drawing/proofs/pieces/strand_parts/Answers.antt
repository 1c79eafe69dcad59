use Rattle.std.proofs.Common.{◌≡◌, ◌<◌, ◌≤◌, ◌∙◌, ap, arith, length, refl}
use Rattle.page_surface.specs.Drawing.{strand_exits}
use Rattle.page_surface.specs.Polygon.{first_side, second_side}
use Rattle.drawing.specs.Pieces.{between}
use Rattle.drawing.proofs.KeptTables.{row_within}
use Rattle.drawing.proofs.SpanTests.{begins_first, begins_next, ends_exit, ends_strand, found_here, found_none, found_own, last_here, last_none}
use Rattle.drawing.proofs.StrandTables.{exit_there}
use Rattle.drawing.proofs.pieces.strand_parts.Goals as goal
use Rattle.drawing.proofs.pieces.strand_parts.Goals.{else-inside-leaves-via-then-inside-leaves+else-begins_elsewhere, else-inside-leaves-via-else-inside-leaves}

pub loop-chord-init : goal.loop-chord-init
loop-chord-init c =
    let f : c.first_side-first_side.result ≡ first_side c.args.layout.now.drawing.polygon c.args.strand = cc in
    let s : c.pair-second_side.result ≡ second_side c.args.layout.now.drawing.polygon c.args.strand = cc in
    record {
      begins = c.holds-inside.ensures ∙ ap (between c.args.window.now.start c.args.window.now.segment) (c.spot.ensures.value ∙ begins_first c.args.layout.now.drawing c.args.strand 0 _ _ refl s c.end_of.ensures);
      none = refl;
    }

pub leaves-requires : goal.leaves-requires
leaves-requires c =
    let k = exit_there c.args.layout.now.drawing c.requires.placed c.args.strand _ _ _ c.exits-exits.ensures c.loop-chord-test.true c.index-exits-chord.is in
    omega (arith, k, c.polygon.ensures.written.few_sides)

pub enters-inside-requires : goal.enters-inside-requires
enters-inside-requires c =
    let k = exit_there c.args.layout.now.drawing c.requires.placed c.args.strand _ _ _ c.exits-exits.ensures c.loop-chord-test.true c.index-exits-chord.is in
    omega (arith, k, c.polygon.ensures.written.few_sides)

pub overflow_cast-chord : goal.overflow_cast-chord
overflow_cast-chord c =
    omega (arith, c.loop-chord-test.true, ap length c.exits-exits.ensures, row_within c.args.layout.now.drawing.strands c.args.strand, c.polygon.ensures.written.few)

pub overflow_cast-exits : goal.overflow_cast-exits
overflow_cast-exits c =
    omega (arith, ap length c.exits-exits.ensures, row_within c.args.layout.now.drawing.strands c.args.strand, c.polygon.ensures.written.few)

pub returns-then-begins_elsewhere : goal.returns-then-begins_elsewhere
returns-then-begins_elsewhere c =
    let d = c.args.layout.now.drawing in
    let w = c.args.window.now in
    let h = c.loop-chord.invariant in
    let l : c.loop-chord.chord ≤ length (strand_exits d c.args.strand) = omega (arith, c.loop-chord-test.true, ap length c.exits-exits.ensures) in
    let k = exit_there d c.requires.placed c.args.strand _ _ _ c.exits-exits.ensures c.loop-chord-test.true c.index-exits-chord.is in
    let to = c.leaves.ensures ∙ (c.requires.window.leaves _ _ k.0 k.1 ∙ ap (between w.start w.segment) (ends_exit d c.args.strand c.loop-chord.chord _ _ c.loop-chord-test.true c.exits-exits.ensures c.index-exits-chord.is)) in
    found_here d c.args.strand c.loop-chord.chord w.start w.segment l _ _ h.begins to h.none _ c.if-inside-leaves.true (rw c.start.ensures at c.begins_elsewhere.ensures) c.if-begins_elsewhere.true

pub loop-chord-preserved : goal.loop-chord-preserved
loop-chord-preserved c =
    let d = c.args.layout.now.drawing in
    let w = c.args.window.now in
    let h = c.loop-chord.invariant in
    let l : c.loop-chord.chord < length (strand_exits d c.args.strand) = omega (arith, c.loop-chord-test.true, ap length c.exits-exits.ensures) in
    let k = exit_there d c.requires.placed c.args.strand _ _ _ c.exits-exits.ensures c.loop-chord-test.true c.index-exits-chord.is in
    let to = c.leaves.ensures ∙ (c.requires.window.leaves _ _ k.0 k.1 ∙ ap (between w.start w.segment) (ends_exit d c.args.strand c.loop-chord.chord _ _ c.loop-chord-test.true c.exits-exits.ensures c.index-exits-chord.is)) in
    record {
      begins = c.enters-inside.ensures ∙ (c.requires.window.enters _ _ k.0 k.1 ∙ ap (between w.start w.segment) (begins_next d c.args.strand c.loop-chord.chord _ _ c.loop-chord-test.true c.exits-exits.ensures c.index-exits-chord.is));
      none = elim c.else-inside-leaves.branch [
        | else-inside-leaves-via-then-inside-leaves+else-begins_elsewhere v ↦
            found_own d c.args.strand c.loop-chord.chord w.start w.segment (omega (arith, l)) _ _ h.begins to h.none _ v.if-inside-leaves.true (rw v.start.ensures at v.begins_elsewhere.ensures) v.if-begins_elsewhere.false
        | else-inside-leaves-via-else-inside-leaves v ↦ found_none d c.args.strand c.loop-chord.chord w.start w.segment (omega (arith, l)) _ _ h.begins to h.none v.if-inside-leaves.false
      ];
    }

pub returns-then-inside-holds : goal.returns-then-inside-holds
returns-then-inside-holds c =
    let d = c.args.layout.now.drawing in
    let w = c.args.window.now in
    let h = c.loop-chord.invariant in
    let f : c.first_side-first_side.result ≡ first_side d.polygon c.args.strand = cc in
    let n : c.loop-chord.chord ≡ length c.exits-exits.result.now = omega (arith, c.loop-chord-test.false, c.loop-chord.auto.chord-end) in
    let last : c.loop-chord.chord ≡ length (strand_exits d c.args.strand) = n ∙ ap length c.exits-exits.ensures in
    let to = c.holds.ensures ∙ ap (between w.start w.segment) (c.spot-2.ensures.value ∙ ends_strand d c.args.strand c.loop-chord.chord _ _ _ n c.exits-exits.ensures f c.end_of-2.ensures) in
    let test = rw (c.start-then-inside-holds.ensures, ← n) at c.begins_elsewhere-then-inside-holds.ensures in
    last_here d c.args.strand c.loop-chord.chord w.start w.segment (omega (arith, last)) _ _ h.begins to h.none last _ c.if-inside-holds.true test

pub returns-else-inside-holds : goal.returns-else-inside-holds
returns-else-inside-holds c =
    let d = c.args.layout.now.drawing in
    let w = c.args.window.now in
    let h = c.loop-chord.invariant in
    let f : c.first_side-first_side.result ≡ first_side d.polygon c.args.strand = cc in
    let n : c.loop-chord.chord ≡ length c.exits-exits.result.now = omega (arith, c.loop-chord-test.false, c.loop-chord.auto.chord-end) in
    let last : c.loop-chord.chord ≡ length (strand_exits d c.args.strand) = n ∙ ap length c.exits-exits.ensures in
    let to = c.holds.ensures ∙ ap (between w.start w.segment) (c.spot-2.ensures.value ∙ ends_strand d c.args.strand c.loop-chord.chord _ _ _ n c.exits-exits.ensures f c.end_of-2.ensures) in
    last_none d c.args.strand c.loop-chord.chord w.start w.segment (omega (arith, last)) _ _ h.begins to h.none last c.if-inside-holds.false

use Rattle.std.proofs.Common.{◌+◌, ◌*◌, ◌<◌, ◌∙◌, ap, subst, sym, arith}
use Rattle.std.proofs.lemmas.Bool.{eq-eqb, eqb-true, false≢true}
use Rattle.page_surface.specs.Polygon.{arc_count}
use Rattle.region_table.specs.Reads.{told_chords}
use Rattle.nice_plan.specs.Measured.{IsMeasured, Measured, home}
use Rattle.nice_plan.proofs.DoorSteps.{behind_here, way_named}
use Rattle.nice_plan.proofs.EdgeSteps.{chord_edge, chord_told, edge_told_here, no_segment_edge, strand_told}
use Rattle.nice_plan.proofs.MeasuredReads.{few_segments}
use Rattle.nice_plan.proofs.doors.way_out.Goals as goal
use Rattle.nice_plan.proofs.doors.way_out.Goals.{then-eq, else-eq}

pub overflow_mul-index : goal.overflow_mul-index
overflow_mul-index c =
    let m = c.args.measured.now in
    let k = subst (λ (w : Measured). IsMeasured w.drawing w.table) c.measured.view_is c.measured.invariant in
    omega (arith, c.requires.index, few_segments m k c.args.piece c.requires.piece)

pub overflow_add-index : goal.overflow_add-index
overflow_add-index c =
    let m = c.args.measured.now in
    let k = subst (λ (w : Measured). IsMeasured w.drawing w.table) c.measured.view_is c.measured.invariant in
    omega (arith, c.requires.index, few_segments m k c.args.piece c.requires.piece)

pub beside-requires-clause-strand : goal.beside-requires-clause-strand
beside-requires-clause-strand c =
    let m = c.args.measured.now in
    let t = ap (λ (w : Measured). w.table) c.measured.view_is in
    let k = subst (λ (w : Measured). IsMeasured w.drawing w.table) c.measured.view_is c.measured.invariant in
    let told = edge_told_here m k c.args.piece c.requires.piece (2 * c.args.index + 1) c.measured.inside.regions.now t c.edge.result c.edge.ensures in
    let edge = chord_edge m k c.args.piece c.args.index c.edge.result told c.in-Chord.strand c.in-Chord.chord c.in-Chord.is in
    subst (λ w. c.in-Chord.strand < arc_count w.polygon) (sym t) (strand_told m k (home m c.args.piece) (2 * c.args.index + 1) c.in-Chord.strand c.in-Chord.chord edge)

pub beside-requires-clause-chord : goal.beside-requires-clause-chord
beside-requires-clause-chord c =
    let m = c.args.measured.now in
    let t = ap (λ (w : Measured). w.table) c.measured.view_is in
    let k = subst (λ (w : Measured). IsMeasured w.drawing w.table) c.measured.view_is c.measured.invariant in
    let told = edge_told_here m k c.args.piece c.requires.piece (2 * c.args.index + 1) c.measured.inside.regions.now t c.edge.result c.edge.ensures in
    let edge = chord_edge m k c.args.piece c.args.index c.edge.result told c.in-Chord.strand c.in-Chord.chord c.in-Chord.is in
    subst (λ w. c.in-Chord.chord < told_chords w c.in-Chord.strand) (sym t) (chord_told m k (home m c.args.piece) (2 * c.args.index + 1) c.in-Chord.strand c.in-Chord.chord edge)

pub unreachable-requires : goal.unreachable-requires
unreachable-requires c =
    let m = c.args.measured.now in
    let t = ap (λ (w : Measured). w.table) c.measured.view_is in
    let k = subst (λ (w : Measured). IsMeasured w.drawing w.table) c.measured.view_is c.measured.invariant in
    let told = edge_told_here m k c.args.piece c.requires.piece (2 * c.args.index + 1) c.measured.inside.regions.now t c.edge.result c.edge.ensures in
    no_segment_edge m k c.args.piece c.args.index c.edge.result told c.in-Segment.side c.in-Segment.segment c.in-Segment.is

pub returns-clause-chord : goal.returns-clause-chord
returns-clause-chord c =
    let m = c.args.measured.now in
    let t = ap (λ (w : Measured). w.table) c.measured.view_is in
    let k = subst (λ (w : Measured). IsMeasured w.drawing w.table) c.measured.view_is c.measured.invariant in
    let told = edge_told_here m k c.args.piece c.requires.piece (2 * c.args.index + 1) c.measured.inside.regions.now t c.edge.result c.edge.ensures in
    let edge = chord_edge m k c.args.piece c.args.index c.edge.result told c.in-Chord.strand c.in-Chord.chord c.in-Chord.is in
    sym (way_named m k c.args.piece c.requires.piece c.args.index c.requires.index c.in-Chord.strand c.in-Chord.chord edge)

pub returns-clause-behind : goal.returns-clause-behind
returns-clause-behind c =
    let m = c.args.measured.now in
    let t = ap (λ (w : Measured). w.table) c.measured.view_is in
    let k = subst (λ (w : Measured). IsMeasured w.drawing w.table) c.measured.view_is c.measured.invariant in
    let told = edge_told_here m k c.args.piece c.requires.piece (2 * c.args.index + 1) c.measured.inside.regions.now t c.edge.result c.edge.ensures in
    let edge = chord_edge m k c.args.piece c.args.index c.edge.result told c.in-Chord.strand c.in-Chord.chord c.in-Chord.is in
    let beside = behind_here m k c.args.piece c.requires.piece c.args.index c.requires.index c.in-Chord.strand c.in-Chord.chord edge c.measured.inside.regions.now t c.beside.result c.beside.ensures c.index-beside-0.result c.index-beside-1.result in
    elim c.if-eq.branch [
      | then-eq w ↦ w.behind-is ∙ beside.0 (eqb-true _ _ (sym c.eq.ensures ∙ w.if-eq.true))
      | else-eq w ↦ w.behind-is ∙ beside.1 (λ e. false≢true (sym w.if-eq.false ∙ (c.eq.ensures ∙ eq-eqb _ _ e)))
    ]

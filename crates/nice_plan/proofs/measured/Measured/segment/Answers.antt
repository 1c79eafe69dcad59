use Rattle.std.proofs.Common.{◌*◌, ap, subst, arith}
use Rattle.nice_plan.specs.Measured.{IsMeasured, Measured}
use Rattle.nice_plan.proofs.EdgeSteps.{edge_number, edge_on, edge_told_here, edge_value, no_chord_edge}
use Rattle.nice_plan.proofs.MeasuredReads.{few_segments}
use Rattle.nice_plan.proofs.measured.Measured.segment.Goals as goal

pub overflow_mul-index : goal.overflow_mul-index
overflow_mul-index c =
    let m = c.args.self.now in
    let k = subst (λ (w : Measured). IsMeasured w.drawing w.table) c.self.view_is c.self.invariant in
    omega (arith, c.requires.index, few_segments m k c.args.piece c.requires.piece)

pub unreachable-requires : goal.unreachable-requires
unreachable-requires c =
    let m = c.args.self.now in
    let k = subst (λ (w : Measured). IsMeasured w.drawing w.table) c.self.view_is c.self.invariant in
    let told = edge_told_here m k c.args.piece c.requires.piece (2 * c.args.index) c.self.inside.regions.now (ap (λ (w : Measured). w.table) c.self.view_is) c.edge.result c.edge.ensures in
    no_chord_edge m k c.args.piece c.args.index c.edge.result told c.in-Chord.strand c.in-Chord.chord c.in-Chord.is

pub returns-clause-value : goal.returns-clause-value
returns-clause-value c =
    let m = c.args.self.now in
    let k = subst (λ (w : Measured). IsMeasured w.drawing w.table) c.self.view_is c.self.invariant in
    let told = edge_told_here m k c.args.piece c.requires.piece (2 * c.args.index) c.self.inside.regions.now (ap (λ (w : Measured). w.table) c.self.view_is) c.edge.result c.edge.ensures in
    edge_value m k c.args.piece c.args.index c.edge.result told c.in-Segment.side c.in-Segment.segment c.in-Segment.is

pub returns-clause-number : goal.returns-clause-number
returns-clause-number c =
    let m = c.args.self.now in
    let k = subst (λ (w : Measured). IsMeasured w.drawing w.table) c.self.view_is c.self.invariant in
    let told = edge_told_here m k c.args.piece c.requires.piece (2 * c.args.index) c.self.inside.regions.now (ap (λ (w : Measured). w.table) c.self.view_is) c.edge.result c.edge.ensures in
    edge_number m k c.args.piece c.args.index c.edge.result told c.in-Segment.side c.in-Segment.segment c.in-Segment.is

pub returns-clause-there : goal.returns-clause-there
returns-clause-there c =
    let m = c.args.self.now in
    let k = subst (λ (w : Measured). IsMeasured w.drawing w.table) c.self.view_is c.self.invariant in
    let told = edge_told_here m k c.args.piece c.requires.piece (2 * c.args.index) c.self.inside.regions.now (ap (λ (w : Measured). w.table) c.self.view_is) c.edge.result c.edge.ensures in
    edge_on m k c.args.piece c.args.index c.edge.result told c.in-Segment.side c.in-Segment.segment c.in-Segment.is

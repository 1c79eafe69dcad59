use Rattle.std.proofs.Common.{◌≡◌, suc, ◌+◌, ◌∙◌, ap, arith, get_or, refl, sym}
use Rattle.drawing.specs.Pieces.{span_count}
use Rattle.drawing.specs.Round.{side_of}
use Rattle.empty_domains.proofs.Made.{cross_under, end_read, entries, run_off, run_on, runs_not}
use Rattle.empty_domains.proofs.drawing_tables.run_at.Goals as goal

pub bounds-side-at : goal.bounds-side-at
bounds-side-at c = omega (arith, entries (side_of c.args.diagram.now) (span_count c.args.diagram.now) c.args.side.now c.requires.side, c.requires.at)

pub bounds-ends-side : goal.bounds-ends-side
bounds-ends-side c = (end_read c.args.diagram.now c.requires.valid c.args.side.now c.args.ends.now c.requires.side c.requires.ends c.args.at c.requires.at).0

pub returns-then-at-end-clause-value : goal.returns-then-at-end-clause-value
returns-then-at-end-clause-value c =
    let e = (end_read c.args.diagram.now c.requires.valid c.args.side.now c.args.ends.now c.requires.side c.requires.ends c.args.at c.requires.at).1 in
    sym (runs_not c.args.diagram.now c.requires.valid c.args.at (omega (arith, e, c.if-at-end.true)))

pub runs_on-requires-clause-at : goal.runs_on-requires-clause-at
runs_on-requires-clause-at c =
    let e = (end_read c.args.diagram.now c.requires.valid c.args.side.now c.args.ends.now c.requires.side c.requires.ends c.args.at c.requires.at).1 in
    cross_under c.args.diagram.now c.requires.valid c.args.at c.requires.at (omega (arith, e, c.if-at-end.false))

pub returns-then-not-runs_on-clause-value : goal.returns-then-not-runs_on-clause-value
returns-then-not-runs_on-clause-value c =
    let e = (end_read c.args.diagram.now c.requires.valid c.args.side.now c.args.ends.now c.requires.side c.requires.ends c.args.at c.requires.at).1 in
    sym (run_off c.args.diagram.now c.requires.valid c.args.at c.requires.at (omega (arith, e, c.if-at-end.false)) (sym c.runs_on.ensures ∙ c.if-not-runs_on.true))

pub bounds-run-at : goal.bounds-run-at
bounds-run-at c =
    let e = (end_read c.args.diagram.now c.requires.valid c.args.side.now c.args.ends.now c.requires.side c.requires.ends c.args.at c.requires.at).1 in
    omega (arith, cross_under c.args.diagram.now c.requires.valid c.args.at c.requires.at (omega (arith, e, c.if-at-end.false)), c.requires.later.size)

pub returns-clause-value : goal.returns-clause-value
returns-clause-value c =
    let e = (end_read c.args.diagram.now c.requires.valid c.args.side.now c.args.ends.now c.requires.side c.requires.ends c.args.at c.requires.at).1 in
    let q = (run_on c.args.diagram.now c.requires.valid c.args.at (suc c.args.at) c.args.run.now refl c.requires.at (omega (arith, e, c.if-at-end.false)) c.requires.later (sym c.runs_on.ensures ∙ c.if-not-runs_on.false)).1 in
    let n : suc c.args.at ≡ c.args.at + 1 = omega arith in
    omega (arith, q, ap (λ m. get_or c.args.run.now m 0) n)

pub returns-clause-most : goal.returns-clause-most
returns-clause-most c =
    let e = (end_read c.args.diagram.now c.requires.valid c.args.side.now c.args.ends.now c.requires.side c.requires.ends c.args.at c.requires.at).1 in
    let u = cross_under c.args.diagram.now c.requires.valid c.args.at c.requires.at (omega (arith, e, c.if-at-end.false)) in
    omega (arith, c.requires.later.within (c.args.at + 1) (omega arith) (omega (arith, u)))

pub overflow_add-result : goal.overflow_add-result
overflow_add-result c =
    let e = (end_read c.args.diagram.now c.requires.valid c.args.side.now c.args.ends.now c.requires.side c.requires.ends c.args.at c.requires.at).1 in
    let u = cross_under c.args.diagram.now c.requires.valid c.args.at c.requires.at (omega (arith, e, c.if-at-end.false)) in
    omega (arith, c.requires.later.within (c.args.at + 1) (omega arith) (omega (arith, u)), c.requires.few)

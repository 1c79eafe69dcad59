use Rattle.std.proofs.Common.{◌≡◌, ℕ, Bool, suc, ◌∙◌, ◌+◌, ap, sym, arith, refl}
use Rattle.std.specs.List.{list_all}
use Rattle.boundary_map.proofs.Loops.{all_not, all_push}
use Rattle.boundary_map.proofs.QuadrantsMet.{crossings_told}
use Rattle.boundary_map.specs.Sets.{firsts, point_keeps}
use Rattle.drawing.specs.Pieces.{piece_table}
use Rattle.drawing.specs.Points.{crossings_of}
use Rattle.obd_base.specs.Lists.{below}
use Rattle.boundary_map.proofs.rules.arc_keeps.Goals as goal

pub point_keeps-requires-clause-number : goal.point_keeps-requires-clause-number
point_keeps-requires-clause-number c =
    omega (arith, c.loop-number-test.true, c.points_of-number-end.ensures, crossings_told c.args.diagram.now c.args.regions.now c.requires.valid c.requires.table c.args.arc c.requires.arc)

pub returns-then-not-point_keeps : goal.returns-then-not-point_keeps
returns-then-not-point_keeps c =
    let d = c.args.diagram.now in
    let p : ℕ → Bool = point_keeps d (piece_table d) (firsts c.args.regions.now c.args.set.now) c.args.from c.args.to c.args.arc in
    sym (all_not p (suc (crossings_of d c.args.arc)) c.loop-number.number (omega (arith, c.loop-number-test.true, c.points_of-number-end.ensures))
    (sym (c.point_keeps.ensures d c.requires.valid c.requires.table) ∙ c.if-not-point_keeps.true))

pub loop-number-preserved : goal.loop-number-preserved
loop-number-preserved c =
    let d = c.args.diagram.now in
    let p : ℕ → Bool = point_keeps d (piece_table d) (firsts c.args.regions.now c.args.set.now) c.args.from c.args.to c.args.arc in
    all_push p c.loop-number.number (c.loop-number.number + 1) refl c.loop-number.invariant
    (sym (c.point_keeps.ensures d c.requires.valid c.requires.table) ∙ c.if-not-point_keeps.false)

pub returns : goal.returns
returns c =
    let d = c.args.diagram.now in
    let p : ℕ → Bool = point_keeps d (piece_table d) (firsts c.args.regions.now c.args.set.now) c.args.from c.args.to c.args.arc in
    let all : suc (crossings_of d c.args.arc) ≡ c.loop-number.number = omega (arith, c.loop-number-test.false, c.loop-number.auto, c.points_of-number-end.ensures) in
    sym (ap (λ n. list_all p (below n)) all ∙ c.loop-number.invariant)

use Rattle.std.proofs.Common.{ℕ, Bool, suc, ◌∙◌, ◌+◌, sym, arith, refl}
use Rattle.boundary_map.proofs.Loops.{first_found, none_found, none_push}
use Rattle.boundary_map.proofs.QuadrantsMet.{crossings_told}
use Rattle.boundary_map.specs.Sets.{firsts, leads_into}
use Rattle.drawing.specs.Pieces.{piece_table}
use Rattle.drawing.specs.Points.{crossings_of}
use Rattle.boundary_map.proofs.led.led_point.Goals as goal

pub leads_into-requires-clause-number : goal.leads_into-requires-clause-number
leads_into-requires-clause-number c =
    omega (arith, c.loop-number-test.true, c.points_of-number-end.ensures, crossings_told c.args.diagram.now c.args.regions.now c.requires.valid c.requires.table c.args.arc c.requires.arc)

pub returns-then-leads_into : goal.returns-then-leads_into
returns-then-leads_into c =
    let d = c.args.diagram.now in
    let p : ℕ → Bool = leads_into d (piece_table d) (firsts c.args.regions.now c.args.set.now) c.args.arc in
    first_found p (suc (crossings_of d c.args.arc)) c.loop-number.number c.args.own (omega (arith, c.loop-number-test.true, c.points_of-number-end.ensures)) c.loop-number.invariant
    (sym (c.leads_into.ensures d c.requires.valid c.requires.table) ∙ c.if-leads_into.true)

pub loop-number-preserved : goal.loop-number-preserved
loop-number-preserved c =
    let d = c.args.diagram.now in
    let p : ℕ → Bool = leads_into d (piece_table d) (firsts c.args.regions.now c.args.set.now) c.args.arc in
    none_push p c.loop-number.number (c.loop-number.number + 1) refl c.loop-number.invariant (sym (c.leads_into.ensures d c.requires.valid c.requires.table) ∙ c.if-leads_into.false)

pub returns : goal.returns
returns c =
    let d = c.args.diagram.now in
    let p : ℕ → Bool = leads_into d (piece_table d) (firsts c.args.regions.now c.args.set.now) c.args.arc in
    none_found p (suc (crossings_of d c.args.arc)) c.args.own (λ j l. c.loop-number.invariant j (omega (arith, l, c.loop-number-test.false, c.points_of-number-end.ensures)))

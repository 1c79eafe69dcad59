use Rattle.std.proofs.Common.{ℕ, ◌+◌, suc, length, sym, ◌∙◌, ap, subst, arith}
use Rattle.page_surface.specs.Drawing.{strand_exits}
use Rattle.nice_plan.specs.Counted.{IsEmpty}
use Rattle.nice_plan.proofs.Counting.{row_put}
use Rattle.nice_plan.proofs.PlanSteps.{strand_few}
use Rattle.nice_plan.proofs.numbers.chord_rows.Goals as goal

pub of-requires : goal.of-requires
of-requires c =
    let d = c.args.drawing.now.drawing in
    omega (arith, c.chords-chords.ensures, strand_few d.strands c.new.result, c.points.ensures.value, c.points.ensures.few)

pub loop-strand-preserved : goal.loop-strand-preserved
loop-strand-preserved c =
    let d = c.args.drawing.now.drawing in
    let places : ℕ → ℕ = λ i. length (strand_exits d i) in
    let here = c.chords-chords.ensures ∙ ap (λ i. suc (places i)) c.new.ensures in
    subst (IsEmpty (c.loop-strand.strand + 1) places) (sym c.in_ok-push.ensures.items)
    (row_put c.loop-strand.strand places c.loop-strand.rows.items _ c.loop-strand.invariant (omega (arith, here, c.in_ok-of.ensures.room)) c.in_ok-of.ensures.none)

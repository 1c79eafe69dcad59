use Rattle.std.proofs.Common.{◌∙◌, below_more, sym}
use Rattle.std.proofs.lemmas.Bool.{and_from, eq-eqb, ne_eqb}
use Rattle.page_surface.specs.Drawing.{is_at}
use Rattle.path_words.proofs.Readings.{first_at, first_none, not_both, test_read}
use Rattle.dehn_twist.proofs.ring.leaving.Goals as goal
use Rattle.dehn_twist.proofs.ring.leaving.Goals.{else-eq-via-then-eq+else-exit-place, else-eq-via-else-eq}

pub loop-number-preserved : goal.loop-number-preserved
loop-number-preserved c =
    below_more _ _ c.loop-number.invariant
    (test_read (λ e. is_at e c.args.side c.args.place) c.args.exits.now c.loop-number.number c.index-exits-number.result _ c.loop-number-test.true c.index-exits-number.is
    (elim c.else-eq.branch [
      | else-eq-via-then-eq+else-exit-place w ↦ not_both _ _ (ne_eqb _ _ w.if-exit-place.false)
      | else-eq-via-else-eq w ↦ rw (← c.eq.ensures, w.if-eq.false)
    ]))

pub returns-then-exit-place : goal.returns-then-exit-place
returns-then-exit-place c =
    first_at (λ e. is_at e c.args.side c.args.place) c.args.exits.now c.loop-number.number c.index-exits-number.result c.loop-number-test.true c.index-exits-number.is
    c.loop-number.invariant (and_from _ _ (sym c.eq.ensures ∙ c.if-eq.true) (eq-eqb _ _ c.if-exit-place.true))

pub returns : goal.returns
returns c = first_none (λ e. is_at e c.args.side c.args.place) c.args.exits.now c.loop-number.number c.loop-number-test.false c.loop-number.invariant

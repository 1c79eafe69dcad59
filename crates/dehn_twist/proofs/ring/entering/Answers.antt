use Rattle.std.proofs.Common.{◌≡◌, ◌∙◌, ◌<◌, ◌≤◌, ap, arith, below_more, false, get_or, length, sym}
use Rattle.std.proofs.lemmas.Bool.{and_from, eq-eqb, ne_eqb}
use Rattle.obd_base.specs.declared.points.Exit.{Exit}
use Rattle.page_surface.specs.Drawing.{is_at}
use Rattle.curve_paths.specs.Curves.{curve_entry}
use Rattle.path_words.proofs.Readings.{first_at, first_none, not_both, test_read}
use Rattle.dehn_twist.proofs.RingTables.{exit_read}
use Rattle.dehn_twist.proofs.ring.entering.Goals as goal
use Rattle.dehn_twist.proofs.ring.entering.Goals.{else-eq-via-then-eq+else-entry-place, else-eq-via-else-eq}

pub curve_entry-entry-requires-clause-side : goal.curve_entry-entry-requires-clause-side
curve_entry-entry-requires-clause-side c = (exit_read _ _ c.curve-exits.ensures.taken _ c.loop-number.number _ c.curve-exits.ensures.value c.loop-number-test.true c.index-exits-number.is).0

pub curve_entry-entry-requires-clause-place : goal.curve_entry-entry-requires-clause-place
curve_entry-entry-requires-clause-place c = (exit_read _ _ c.curve-exits.ensures.taken _ c.loop-number.number _ c.curve-exits.ensures.value c.loop-number-test.true c.index-exits-number.is).1

pub loop-number-preserved : goal.loop-number-preserved
loop-number-preserved c =
    let test = λ (e : Exit). is_at (curve_entry c.args.merged.now.drawing.polygon c.args.merged.now.curve e) c.args.side c.args.place in
    let l : c.loop-number.number < length c.args.merged.now.curve = omega (arith, c.loop-number-test.true, ap length c.curve-exits.ensures.value) in
    let is = c.index-exits-number.is ∙ ap (λ xs. get_or xs c.loop-number.number c.index-exits-number.result) c.curve-exits.ensures.value in
    let none : is_at c.curve_entry-entry.result c.args.side c.args.place ≡ false = elim c.else-eq.branch [
      | else-eq-via-then-eq+else-entry-place w ↦ not_both _ _ (ne_eqb _ _ w.if-entry-place.false)
      | else-eq-via-else-eq w ↦ rw (← c.eq.ensures, w.if-eq.false)
    ] in
    below_more _ _ c.loop-number.invariant
    (test_read test c.args.merged.now.curve c.loop-number.number c.index-exits-number.result false l is (ap (λ x. is_at x c.args.side c.args.place) (sym c.curve_entry-entry.ensures) ∙ none))

pub returns-then-entry-place-clause-value : goal.returns-then-entry-place-clause-value
returns-then-entry-place-clause-value c =
    let test = λ (e : Exit). is_at (curve_entry c.args.merged.now.drawing.polygon c.args.merged.now.curve e) c.args.side c.args.place in
    let l : c.loop-number.number < length c.args.merged.now.curve = omega (arith, c.loop-number-test.true, ap length c.curve-exits.ensures.value) in
    let is = c.index-exits-number.is ∙ ap (λ xs. get_or xs c.loop-number.number c.index-exits-number.result) c.curve-exits.ensures.value in
    first_at test c.args.merged.now.curve c.loop-number.number c.index-exits-number.result l is c.loop-number.invariant
    (ap (λ x. is_at x c.args.side c.args.place) (sym c.curve_entry-entry.ensures) ∙ and_from _ _ (sym c.eq.ensures ∙ c.if-eq.true) (eq-eqb _ _ c.if-entry-place.true))

pub returns-clause-value : goal.returns-clause-value
returns-clause-value c =
    let test = λ (e : Exit). is_at (curve_entry c.args.merged.now.drawing.polygon c.args.merged.now.curve e) c.args.side c.args.place in
    let l : length c.args.merged.now.curve ≤ c.loop-number.number = omega (arith, c.loop-number-test.false, ap length c.curve-exits.ensures.value) in
    ap length c.curve-exits.ensures.value ∙ first_none test c.args.merged.now.curve c.loop-number.number l c.loop-number.invariant

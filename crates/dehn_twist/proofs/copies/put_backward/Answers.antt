use Rattle.std.proofs.Common.{◌+◌, ◌-◌, ◌≤◌, suc, ap, arith, length, refl}
use Rattle.curve_paths.specs.Curves.{curve_entry, exit_at}
use Rattle.dehn_twist.specs.Surgery.{copy_of, line_index, meeting_count, meetings_upto}
use Rattle.dehn_twist.specs.Tables.{round}
use Rattle.dehn_twist.proofs.CopyTables.{after_push, back_made, copy_back, lines_few, upto_read, upto_within, uptos_size}
use Rattle.dehn_twist.proofs.RingTables.{entry_read, exit_read}
use Rattle.dehn_twist.proofs.copies.put_backward.Goals as goal

pub bounds-uptos-exits : goal.bounds-uptos-exits
bounds-uptos-exits c = omega (arith, uptos_size c.args.merged.now.drawing c.args.merged.now.curve c.curve-exits.ensures.taken c.args.uptos.now c.requires.uptos, ap length c.curve-exits.ensures.value)

pub overflow_sub-index : goal.overflow_sub-index
overflow_sub-index c =
    let size = ap length c.curve-exits.ensures.value in
    let total = upto_read c.args.merged.now.drawing c.args.merged.now.curve c.curve-exits.ensures.taken c.args.uptos.now c.requires.uptos (length c.curve-exits.result.now) (length c.args.merged.now.curve) size (let z : length c.args.merged.now.curve ≤ length c.args.merged.now.curve = omega arith in z) in
    omega (arith, total, c.requires.line)

pub bounds-uptos-at : goal.bounds-uptos-at
bounds-uptos-at c = omega (arith, uptos_size c.args.merged.now.drawing c.args.merged.now.curve c.curve-exits.ensures.taken c.args.uptos.now c.requires.uptos, ap length c.curve-exits.ensures.value, c.round-at.ensures.inside)

pub line_index-requires-clause-lines : goal.line_index-requires-clause-lines
line_index-requires-clause-lines c =
    let size = ap length c.curve-exits.ensures.value in
    let total = upto_read c.args.merged.now.drawing c.args.merged.now.curve c.curve-exits.ensures.taken c.args.uptos.now c.requires.uptos (length c.curve-exits.result.now) (length c.args.merged.now.curve) size (let z : length c.args.merged.now.curve ≤ length c.args.merged.now.curve = omega arith in z) in
    omega (arith, total, lines_few c.args.merged.now.drawing c.args.merged.now.curve c.curve-exits.ensures.taken)

pub line_index-requires-clause-upto : goal.line_index-requires-clause-upto
line_index-requires-clause-upto c =
    let size = ap length c.curve-exits.ensures.value in
    let total = upto_read c.args.merged.now.drawing c.args.merged.now.curve c.curve-exits.ensures.taken c.args.uptos.now c.requires.uptos (length c.curve-exits.result.now) (length c.args.merged.now.curve) size (let z : length c.args.merged.now.curve ≤ length c.args.merged.now.curve = omega arith in z) in
    let l : c.round-at.result + 1 ≤ length c.args.merged.now.curve = omega (arith, size, c.round-at.ensures.inside) in
    let here = upto_read c.args.merged.now.drawing c.args.merged.now.curve c.curve-exits.ensures.taken c.args.uptos.now c.requires.uptos (c.round-at.result + 1) (c.round-at.result + 1) refl l in
    omega (arith, total, here, upto_within c.args.merged.now.drawing c.args.merged.now.curve c.curve-exits.ensures.taken (c.round-at.result + 1) l)

pub line_index-requires-clause-line : goal.line_index-requires-clause-line
line_index-requires-clause-line c =
    let size = ap length c.curve-exits.ensures.value in
    let total = upto_read c.args.merged.now.drawing c.args.merged.now.curve c.curve-exits.ensures.taken c.args.uptos.now c.requires.uptos (length c.curve-exits.result.now) (length c.args.merged.now.curve) size (let z : length c.args.merged.now.curve ≤ length c.args.merged.now.curve = omega arith in z) in
    omega (arith, total, c.requires.line)

pub curve_entry-requires-clause-side : goal.curve_entry-requires-clause-side
curve_entry-requires-clause-side c = (exit_read c.args.merged.now.drawing c.args.merged.now.curve c.curve-exits.ensures.taken c.curve-exits.result.now c.round-at.result _ c.curve-exits.ensures.value c.round-at.ensures.inside c.index-exits-at.is).0

pub curve_entry-requires-clause-place : goal.curve_entry-requires-clause-place
curve_entry-requires-clause-place c = (exit_read c.args.merged.now.drawing c.args.merged.now.curve c.curve-exits.ensures.taken c.curve-exits.result.now c.round-at.result _ c.curve-exits.ensures.value c.round-at.ensures.inside c.index-exits-at.is).1

pub copy_of-requires-clause-lines : goal.copy_of-requires-clause-lines
copy_of-requires-clause-lines c =
    let size = ap length c.curve-exits.ensures.value in
    let total = upto_read c.args.merged.now.drawing c.args.merged.now.curve c.curve-exits.ensures.taken c.args.uptos.now c.requires.uptos (length c.curve-exits.result.now) (length c.args.merged.now.curve) size (let z : length c.args.merged.now.curve ≤ length c.args.merged.now.curve = omega arith in z) in
    omega (arith, total, lines_few c.args.merged.now.drawing c.args.merged.now.curve c.curve-exits.ensures.taken)

pub copy_of-requires-clause-side : goal.copy_of-requires-clause-side
copy_of-requires-clause-side c = (entry_read c.args.merged.now.drawing c.args.merged.now.curve c.curve-exits.ensures.taken _ _ (exit_read c.args.merged.now.drawing c.args.merged.now.curve c.curve-exits.ensures.taken c.curve-exits.result.now c.round-at.result _ c.curve-exits.ensures.value c.round-at.ensures.inside c.index-exits-at.is) c.curve_entry.ensures).0

pub copy_of-requires-clause-place : goal.copy_of-requires-clause-place
copy_of-requires-clause-place c = (entry_read c.args.merged.now.drawing c.args.merged.now.curve c.curve-exits.ensures.taken _ _ (exit_read c.args.merged.now.drawing c.args.merged.now.curve c.curve-exits.ensures.taken c.curve-exits.result.now c.round-at.result _ c.curve-exits.ensures.value c.round-at.ensures.inside c.index-exits-at.is) c.curve_entry.ensures).1

pub loop-step-preserved : goal.loop-step-preserved
loop-step-preserved c =
    after_push (λ i. copy_of c.args.merged.now.drawing c.args.merged.now.curve (meeting_count c.args.merged.now.drawing c.args.merged.now.curve) (curve_entry c.args.merged.now.drawing.polygon c.args.merged.now.curve (exit_at c.args.merged.now.curve (round (length c.args.merged.now.curve) c.args.from (length c.args.merged.now.curve - 1 - i)))) (meeting_count c.args.merged.now.drawing c.args.merged.now.curve - 1 - line_index c.args.sign (meeting_count c.args.merged.now.drawing c.args.merged.now.curve) (meetings_upto c.args.merged.now.drawing c.args.merged.now.curve (suc (round (length c.args.merged.now.curve) c.args.from (length c.args.merged.now.curve - 1 - i)))) c.args.line)) c.loop-step.step c.args.row.now.items _ _ _ c.loop-step.invariant
    (copy_back c.args.merged.now.drawing c.args.merged.now.curve c.curve-exits.ensures.taken c.args.uptos.now c.requires.uptos c.args.sign c.args.from c.loop-step.step c.args.line _ _ _ _ c.curve-exits.result.now _ _ _ c.curve-exits.ensures.value refl c.round-at.ensures.value c.round-at.ensures.inside refl c.index-exits-at.is
    c.line_index.ensures.value c.curve_entry.ensures c.copy_of.ensures) c.in_ok-push.ensures.items

pub returns : goal.returns
returns c =
    back_made c.args.merged.now.drawing c.args.merged.now.curve c.args.sign c.args.from c.args.line c.loop-step.step c.args.row.now.items _ (omega (arith, c.requires.from))
    (omega (arith, c.loop-step-test.false, c.loop-step.auto, ap length c.curve-exits.ensures.value)) c.loop-step.invariant

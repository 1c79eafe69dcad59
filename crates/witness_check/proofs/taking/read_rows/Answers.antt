use Rattle.std.proofs.Common.{◌+◌, ◌-◌, length, arith, length-append, ap, subst, ◌∷◌, []}
use Rattle.witness_check.specs.Passing.{LineRead}
use Rattle.witness_check.proofs.Loops.{rows_more}
use Rattle.witness_check.proofs.taking.read_rows.Goals as goal

pub loop-number-preserved : goal.loop-number-preserved
loop-number-preserved g c =
    let (h, size, at) = c.loop-number.invariant in
    let read = subst (LineRead (g.T.Row.form c.args.kind.now c.loop-number.number) c.loop-number.lines c.next_row.new.lines) c.in-Some.is c.in_ok-item.ensures.read in
    let now = length-append c.loop-number.items (c.in-Some.item ∷ []) in
    let longer = ap length c.in_ok-push-in-Some.ensures.ok in (
      rows_more (g.T.Row.form c.args.kind.now) c.args.count c.loop-number.number (c.loop-number.number + 1) (c.args.count - c.loop-number.number) (c.args.count - (c.loop-number.number + 1))
          c.loop-number.items c.push.new.self c.args.lines.now.left c.loop-number.lines.left c.next_row.new.lines.left c.in-Some.item h (omega arith) (omega (arith, c.loop-number-test.true))
          read.0 c.in_ok-push-in-Some.ensures.ok,
      omega (arith, size, now, longer),
      (let next = read.1 in omega (arith, at, next)),
    )

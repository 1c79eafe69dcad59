use Rattle.std.proofs.Common.{◌∙◌, ap, length, arith}
use Rattle.drawing.proofs.SweepTables.{ends_inside, sweep_says, table_fits}
use Rattle.drawing.proofs.chords.is_uncrossed.Goals as goal

pub mates-requires-clause-from : goal.mates-requires-clause-from
mates-requires-clause-from c = λ chord m. rw c.span_count.ensures.value (ends_inside c.args.layout.now.drawing c.requires _ (c.deref.ensures.value ∙ c.in_ok-chords.ensures) chord m).0

pub mates-requires-clause-to : goal.mates-requires-clause-to
mates-requires-clause-to c = λ chord m. rw c.span_count.ensures.value (ends_inside c.args.layout.now.drawing c.requires _ (c.deref.ensures.value ∙ c.in_ok-chords.ensures) chord m).1

pub is_swept-requires : goal.is_swept-requires
is_swept-requires c = let s = table_fits _ _ _ c.in_ok-mates.ensures in let e = ap length c.deref-2.ensures.value in omega (arith, s, e, c.span_count.ensures.few)

pub returns : goal.returns
returns c =
    let table = c.deref-2.ensures.value ∙ c.in_ok-mates.ensures in
    let says = sweep_says c.args.layout.now.drawing c.requires _ _ _ (c.deref.ensures.value ∙ c.in_ok-chords.ensures) c.span_count.ensures.value table in
    rw (← says) c.is_swept.ensures

use Rattle.std.proofs.Common.{◌∙◌, ℕ, List, ap, arith, length, map, subst, sym}
use Rattle.dehn_twist.specs.Tables.{AreMeetings, crossed_of}
use Rattle.dehn_twist.proofs.MeetingTables.{mates_few, meetings_made, row_long, row_small, rows_few}
use Rattle.dehn_twist.proofs.meetings.Tables.of.Goals as goal

pub all_crossed-requires : goal.all_crossed-requires
all_crossed-requires c =
    let few = mates_few c.args.merged.now.drawing c.args.merged.now.curve c.polygon.ensures.taken in
    omega (arith, few, ap length (c.deref.ensures.value ∙ c.in_ok-mates.ensures))

pub uptos-requires-clause-few : goal.uptos-requires-clause-few
uptos-requires-clause-few c =
    rows_few c.args.merged.now.drawing c.args.merged.now.curve c.polygon.ensures.taken c.in_ok-chords.chords.items c.deref-3.result.now c.deref.result.now (length c.as_slice.result.now)
    (c.deref.ensures.value ∙ c.in_ok-mates.ensures) (ap length (c.as_slice.ensures.value ∙ sym c.deref.ensures.value)) c.in_ok-chords.ensures
    (c.deref-3.ensures.value ∙ (c.in_ok-crossed.ensures ∙ ap (map (crossed_of c.deref.result.now)) c.deref-2.ensures.value))

pub uptos-requires-clause-sizes : goal.uptos-requires-clause-sizes
uptos-requires-clause-sizes c =
    row_long c.args.merged.now.drawing c.args.merged.now.curve c.polygon.ensures.taken c.in_ok-chords.chords.items c.deref-3.result.now c.deref.result.now (length c.as_slice.result.now)
    (c.deref.ensures.value ∙ c.in_ok-mates.ensures) (ap length (c.as_slice.ensures.value ∙ sym c.deref.ensures.value)) c.in_ok-chords.ensures
    (c.deref-3.ensures.value ∙ (c.in_ok-crossed.ensures ∙ ap (map (crossed_of c.deref.result.now)) c.deref-2.ensures.value))

pub uptos-requires-clause-small : goal.uptos-requires-clause-small
uptos-requires-clause-small c =
    row_small c.args.merged.now.drawing c.args.merged.now.curve c.polygon.ensures.taken c.in_ok-chords.chords.items c.deref-3.result.now c.deref.result.now (length c.as_slice.result.now)
    (c.deref.ensures.value ∙ c.in_ok-mates.ensures) (ap length (c.as_slice.ensures.value ∙ sym c.deref.ensures.value)) c.in_ok-chords.ensures
    (c.deref-3.ensures.value ∙ (c.in_ok-crossed.ensures ∙ ap (map (crossed_of c.deref.result.now)) c.deref-2.ensures.value))

pub returns : goal.returns
returns c =
    let made = meetings_made c.args.merged.now.drawing c.args.merged.now.curve c.polygon.ensures.taken c.in_ok-chords.chords.items c.deref-3.result.now c.deref.result.now (length c.as_slice.result.now)
    (c.deref.ensures.value ∙ c.in_ok-mates.ensures) (ap length (c.as_slice.ensures.value ∙ sym c.deref.ensures.value)) c.in_ok-chords.ensures
    (c.deref-3.ensures.value ∙ (c.in_ok-crossed.ensures ∙ ap (map (crossed_of c.deref.result.now)) c.deref-2.ensures.value))
    _ _ c.in_ok-uptos.ensures c.in_ok-ring.ensures in
    subst (λ (rows : List (List ℕ)). AreMeetings c.args.merged.now.drawing c.args.merged.now.curve c.in_ok-chords.chords.items rows c.in_ok-uptos.uptos.items c.in_ok-ring.ring.items) c.deref-3.ensures.value made

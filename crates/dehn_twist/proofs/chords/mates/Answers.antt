use Rattle.std.proofs.Common.{◌∙◌}
use Rattle.dehn_twist.proofs.ChordTables.{merged_inside}
use Rattle.dehn_twist.proofs.chords.mates.Goals as goal

pub other_ends-requires-clause-from : goal.other_ends-requires-clause-from
other_ends-requires-clause-from c = λ chord m. (merged_inside _ _ c.polygon.ensures.taken _ _ (c.deref.ensures.value ∙ c.in_ok-chords.ensures) c.size.ensures.value chord m).0

pub other_ends-requires-clause-to : goal.other_ends-requires-clause-to
other_ends-requires-clause-to c = λ chord m. (merged_inside _ _ c.polygon.ensures.taken _ _ (c.deref.ensures.value ∙ c.in_ok-chords.ensures) c.size.ensures.value chord m).1

use Rattle.dehn_twist.proofs.RingTables.{entry_read, exit_read}
use Rattle.dehn_twist.proofs.ring.chord_start.Goals as goal

pub curve_entry-requires-clause-side : goal.curve_entry-requires-clause-side
curve_entry-requires-clause-side c = (exit_read _ _ c.curve-exits.ensures.taken _ c.previous.result _ c.curve-exits.ensures.value c.previous.ensures.inside c.index-exits-previous.is).0

pub curve_entry-requires-clause-place : goal.curve_entry-requires-clause-place
curve_entry-requires-clause-place c = (exit_read _ _ c.curve-exits.ensures.taken _ c.previous.result _ c.curve-exits.ensures.value c.previous.ensures.inside c.index-exits-previous.is).1

pub returns-clause-side : goal.returns-clause-side
returns-clause-side c = (entry_read _ _ c.curve-exits.ensures.taken _ _ (exit_read _ _ c.curve-exits.ensures.taken _ c.previous.result _ c.curve-exits.ensures.value c.previous.ensures.inside c.index-exits-previous.is) c.curve_entry.ensures).0

pub returns-clause-place : goal.returns-clause-place
returns-clause-place c = (entry_read _ _ c.curve-exits.ensures.taken _ _ (exit_read _ _ c.curve-exits.ensures.taken _ c.previous.result _ c.curve-exits.ensures.value c.previous.ensures.inside c.index-exits-previous.is) c.curve_entry.ensures).1

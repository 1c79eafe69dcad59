use Rattle.std.proofs.Common.{◌≡◌, ◌++◌, suc, length, map}
use Rattle.obd_base.specs.Lists.{below}
use Rattle.curve_paths.specs.Curves.{exit_at}
use Rattle.dehn_twist.specs.Surgery.{copy_of, line_index, meeting_count, meetings_upto}
use Rattle.dehn_twist.specs.Tables.{round}
use Rattle.dehn_twist.proofs.copies.put_forward.Given as goal

-- the exits of the loop so far
abbrev pub invariant-loop-step : goal.invariant-loop-step
invariant-loop-step l = l.row.items ≡ l.fn.row.items ++ map (λ i. copy_of l.merged.drawing l.merged.curve (meeting_count l.merged.drawing l.merged.curve) (exit_at l.merged.curve (round (length l.merged.curve) l.fn.from i)) (line_index l.sign (meeting_count l.merged.drawing l.merged.curve) (meetings_upto l.merged.drawing l.merged.curve (suc (round (length l.merged.curve) l.fn.from i))) l.fn.line)) (below l.step)

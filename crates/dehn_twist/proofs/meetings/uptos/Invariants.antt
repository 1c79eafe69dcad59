use Rattle.std.proofs.Common.{◌≡◌, ◌≤◌, ◌*◌, ◌^◌, suc, [], map, get_or}
use Rattle.std.specs.List.{sum_by}
use Rattle.obd_base.specs.Lists.{below}
use Rattle.dehn_twist.proofs.meetings.uptos.Given as goal

-- the meetings on the chords so far
abbrev pub invariant-loop-chord : goal.invariant-loop-chord
invariant-loop-chord l = record {
  here : l.upto ≡ sum_by (λ b. get_or (get_or l.crossed b []) l.size 0) (below l.chord);
  within : l.upto ≤ 2 ^ 18 * l.chord;
  so_far : l.uptos.items ≡ map (λ a. sum_by (λ b. get_or (get_or l.crossed b []) l.size 0) (below a)) (below (suc l.chord));
}

use Rattle.std.proofs.Common.{◌≡◌, false, take}
use Rattle.std.specs.List.{list_any}
use Rattle.tight_curves.specs.Turns.{leaves_between}
use Rattle.tight_curves.proofs.turns.has_between.Given as goal

-- no exit so far leaves between the places
abbrev pub invariant-loop-exit : goal.invariant-loop-exit
invariant-loop-exit l = list_any (leaves_between l.side l.from l.to) (take l.exit-index l.part) ≡ false

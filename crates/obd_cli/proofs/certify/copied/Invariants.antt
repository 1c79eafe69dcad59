use Rattle.std.proofs.Common.{◌≡◌, take}
use Rattle.obd_cli.proofs.certify.copied.Given as goal

-- the sides so far
abbrev pub invariant-loop-side : goal.invariant-loop-side
invariant-loop-side l = l.copy ≡ take l.side-index l.sides

use Rattle.std.proofs.Common.{◌≡◌, take}
use Rattle.obd_cli.specs.Opened.{paths_of}
use Rattle.obd_cli.proofs.certify.named_paths.Given as goal

-- the curves so far
abbrev pub invariant-loop-curve : goal.invariant-loop-curve
invariant-loop-curve l = l.paths ≡ paths_of (take l.curve-index l.curves)

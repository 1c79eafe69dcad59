use Rattle.std.proofs.Common.{◌≡◌, take}
use Rattle.obd_cli.specs.Opened.{names_of}
use Rattle.obd_cli.proofs.surface.label_names.Given as goal

-- the names of the labels so far
abbrev pub invariant-loop-label : goal.invariant-loop-label
invariant-loop-label l = l.names ≡ names_of l.page (take l.label-index l.labels)

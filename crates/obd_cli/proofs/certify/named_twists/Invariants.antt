use Rattle.std.proofs.Common.{◌≡◌, map, take}
use Rattle.obd_doc.specs.Document.{by_name, curve_names}
use Rattle.obd_cli.proofs.certify.named_twists.Given as goal

-- the twists so far
abbrev pub invariant-loop-twist : goal.invariant-loop-twist
invariant-loop-twist l = l.twists ≡ map (by_name (curve_names l.book)) (take l.twist-index l.book.twists)

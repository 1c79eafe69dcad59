use Rattle.std.proofs.Common.{◌≡◌, take}
use Rattle.witness_check.specs.BookRules.{on_page}
use Rattle.witness_check.proofs.CurveLines.{AreNew}
use Rattle.witness_check.proofs.curve_lines.curves_of.Given as goal

-- the curves before this one are new and on the page, and found
abbrev pub invariant-loop-number : goal.invariant-loop-number
invariant-loop-number l = (l.found ≡ on_page l.page (take l.number l.curves)) × AreNew l.page l.curves l.number

use Rattle.std.proofs.Common.{◌≡◌, ◌+◌, get_or, not, true}
use Rattle.std.specs.List.{list_all}
use Rattle.empty_domains.specs.Walk.{is_last}
use Rattle.obd_base.specs.Lists.{below}
use Rattle.empty_domains.proofs.starts.is_fresh.Given as goal

-- none of the rows so far is the last
abbrev pub invariant-loop-row : goal.invariant-loop-row
invariant-loop-row l = list_all (λ m. not (is_last l.fn.step.by (get_or l.rows m 0) (get_or l.tables.other (get_or l.rows m 0 + l.fn.step.by.width) 0))) (below l.row) ≡ true

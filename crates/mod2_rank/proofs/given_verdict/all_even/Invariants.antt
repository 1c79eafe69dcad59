use Rattle.std.proofs.Common.{◌≡◌, true, take}
use Rattle.std.specs.List.{list_all}
use Rattle.mod2_rank.specs.Linear.{meets_evenly}
use Rattle.mod2_rank.proofs.GivenVerdict.{rows_of}
use Rattle.mod2_rank.proofs.given_verdict.all_even.Given as goal

-- the columns so far have an even number of rows in the set
abbrev pub invariant-loop-column : goal.invariant-loop-column
invariant-loop-column l = list_all (meets_evenly l.functional) (take l.column-index (rows_of l.columns)) ≡ true

use Rattle.std.proofs.Common.{◌≡◌, ◌<◌, ◌≤◌, ◌-◌, ◌++◌, length}
use Rattle.empty_domains.specs.Ground.{room_by, strip_by}
use Rattle.empty_domains.proofs.strip.strip.Given as goal

-- what was read off so far and what is to come are all that is read off
abbrev pub invariant-loop-row : goal.invariant-loop-row
invariant-loop-row l = record {
  inside : l.row.at < length l.tables.other;
  number : l.row.number ≤ length l.tables.other;
  size : length l.lasts ≡ length l.tables.ends;
  steps : l.steps.items ++ strip_by l.tables l.standing l.fn.corner.arc l.fn.corner.start (length l.tables.other - l.row.number) l.row.at l.row.most l.row.number l.lasts
      ≡ l.initial.steps.items ++ strip_by l.tables l.standing l.fn.corner.arc l.fn.corner.start (length l.tables.other) l.fn.corner.start (room_by l.tables l.fn.corner.start) 0 l.initial.lasts;
}

-- the rows that are left
abbrev pub decreases-loop-row : goal.decreases-loop-row
decreases-loop-row l = length l.tables.other - l.row.number

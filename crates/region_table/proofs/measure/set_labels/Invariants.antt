use Rattle.std.proofs.Common.{◌≡◌, ℕ, ◌<◌, false, length, get_or}
use Rattle.region_table.specs.Counted.{first_label}
use Rattle.region_table.proofs.measure.set_labels.Given as goal

-- the labels so far
abbrev pub invariant-loop-name : goal.invariant-loop-name
invariant-loop-name l = record {
  size : length l.labels ≡ length l.fn.labels;
  so_far : (p : ℕ) → p < l.name → get_or l.labels p 0 ≡ first_label l.bound (get_or l.bases p false);
}

use Rattle.std.proofs.Common.{◌≡◌, take}
use Rattle.curve_paths.proofs.copies.copied_path.Given as goal

-- the crossings so far
abbrev pub invariant-loop-cross : goal.invariant-loop-cross
invariant-loop-cross l = l.copied ≡ take l.cross-index l.path

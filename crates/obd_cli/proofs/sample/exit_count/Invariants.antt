use Rattle.std.proofs.Common.{◌≡◌, length, take}
use Rattle.std.specs.List.{flat_map}
use Rattle.obd_cli.proofs.sample.exit_count.Given as goal

-- the exits of the strands so far
abbrev pub invariant-loop-strand : goal.invariant-loop-strand
invariant-loop-strand l = l.count ≡ length (flat_map (λ strand. strand) (take l.strand-index l.strands))

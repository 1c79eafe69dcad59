use Rattle.std.proofs.Common.{◌≡◌, ◌<◌, ℕ, length}
use Rattle.page_surface.specs.Drawing.{strand_exits}
use Rattle.drawing.specs.ThinTables.{is_gone}
use Rattle.drawing.specs.Thinned.{TurnsGone}
use Rattle.drawing.specs.Turns.{NoTurnBefore}
use Rattle.drawing.proofs.turns.take_turns.Given as goal

-- the turns so far are gone, and where there is none the strands so far have none
abbrev pub invariant-loop-strand : goal.invariant-loop-strand
invariant-loop-strand l = record {
  taken : TurnsGone l.layout.drawing (is_gone l.gone) l.turns;
  none : l.turns ≡ 0 → (i : ℕ) → i < l.strand → NoTurnBefore l.layout.drawing (strand_exits l.layout.drawing i) (length (strand_exits l.layout.drawing i));
}

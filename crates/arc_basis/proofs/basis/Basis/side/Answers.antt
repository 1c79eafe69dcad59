use Rattle.std.proofs.Common.{arith}
use Rattle.arc_basis.proofs.Laws.{firsts_long, seconds_long, read_is, none_is_seam}
use Rattle.arc_basis.proofs.basis.Basis.side.Goals as goal

pub side_in-requires-clause-first : goal.side_in-requires-clause-first
side_in-requires-clause-first c = omega (arith, firsts_long _ _ _ _ _ c.self.invariant _ c.self.view_is _ c.as_slice.ensures)

pub side_in-requires-clause-second : goal.side_in-requires-clause-second
side_in-requires-clause-second c = omega (arith, seconds_long _ _ _ _ _ c.self.invariant _ c.self.view_is _ c.as_slice-2.ensures)

pub returns-clause-value : goal.returns-clause-value
returns-clause-value c =
    read_is _ _ _ _ _ c.self.invariant _ c.self.view_is _ _ c.requires.label c.requires.occurrence _ _ c.as_slice.ensures c.as_slice-2.ensures _ c.side_in.ensures

pub returns-clause-seam : goal.returns-clause-seam
returns-clause-seam c =
    none_is_seam _ _ _ _ _ c.self.invariant _ c.self.view_is _ _ c.requires.label c.requires.occurrence _ _ c.as_slice.ensures c.as_slice-2.ensures _ c.side_in.ensures

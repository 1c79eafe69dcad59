-- The sums in the numbers of a burst's fingers that don't depend on the chord.
use Rattle.std.specs.Prelude.{ℕ, ◌+◌, ◌*◌, List, [], ◌∷◌, ◌++◌}
use Rattle.std.specs.List.{sum_by}
use Rattle.obd_base.specs.declared.points.Exit.{Exit}
use Rattle.page_surface.specs.Drawing.{Drawing}
use Rattle.drawing.specs.declared.finger.Finger.{Finger}
use Rattle.drawing.specs.Fingers.{finger}
use Rattle.nice_plan.specs.Numbers.{lift}
use Rattle.nice_plan.specs.declared.raised.Raised.{Raised}

-- a segment of a path, by how much all segments of the path raise it, and by how much those before it
abbrev pub raised : Drawing → List Exit → List Exit → Exit → Raised
raised d all before s = record { segment = s; all = sum_by (λ e. lift d e s) all; before = sum_by (λ e. lift d e s) before }

-- the segments that are still to come after `before`
abbrev pub raised_from : Drawing → List Exit → List Exit → List Exit → List Raised
raised_from d all before [] = []
raised_from d all before (s ∷ ss) = raised d all before s ∷ raised_from d all (before ++ (s ∷ [])) ss

-- the number of a raised segment in row q
abbrev pub row_place : ℕ → Raised → ℕ
row_place q r = r.segment.place + (q + (q * r.all + r.before))

-- the fingers of row q
abbrev pub raised_row : ℕ → ℕ → ℕ → List Raised → List Finger
raised_row q i c [] = []
raised_row q i c (r ∷ rs) = finger i c r.segment.side (row_place q r) ∷ raised_row q i (c + 1) rs

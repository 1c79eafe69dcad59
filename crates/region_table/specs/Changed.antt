-- What a finger does to the names of pieces.
use Rattle.std.specs.Prelude.{◌≡◌, ℕ, ◌<◌, List, [], ◌∷◌, length}
use Rattle.obd_base.specs.Lists.{Mem, Once}
use Rattle.page_surface.specs.Drawing.{Drawing}
use Rattle.drawing.specs.declared.finger.Finger.{Finger}
use Rattle.drawing.specs.Fingers.{IsKeptPiece, pushed, replayed}
use Rattle.drawing.specs.Pieces.{span_count}
use Rattle.region_table.specs.Table.{Table, name_at}

-- each piece that a finger keeps has the name that it had
abbrev pub KeepsNames : Drawing → Finger → Table → Table → Type 0
KeepsNames d f t u = (old new : ℕ) → old < span_count d → new < span_count (pushed d f) → IsKeptPiece d f old new → name_at u new ≡ name_at t old

-- a piece that each of some fingers keeps, one after another, by one of its spans before them and one after
abbrev pub AllKeep : Drawing → List Finger → ℕ → ℕ → Type 0
AllKeep d [] old new = new ≡ old
AllKeep d (f ∷ fs) old new = (next : ℕ) × (next < span_count (pushed d f)) × IsKeptPiece d f old next × AllKeep (pushed d f) fs next new

-- each piece that all of some fingers keep has the name that it had
abbrev pub KeepsAllNames : Drawing → List Finger → Table → Table → Type 0
KeepsAllNames d fs t u = (old new : ℕ) → old < span_count d → new < span_count (replayed d fs) → AllKeep d fs old new → name_at u new ≡ name_at t old

-- a piece of the drawing after a finger, by one of its spans, is changed or new where it is no old one
abbrev pub IsChanged : Drawing → Finger → ℕ → Type 0
IsChanged d f new = (old : ℕ) → old < span_count d → IsKeptPiece d f old new → ⊥

-- the names of the pieces that are changed or new, each once
pub record AreChanged (d : Drawing) (f : Finger) (u : Table) (ps : List ℕ) : Type 0 where
  pub once : Once ps
  pub named : (p : ℕ) → Mem p ps → p < length u.regions
  pub listed : (s : ℕ) → s < span_count (pushed d f) → IsChanged d f s → Mem (name_at u s) ps
  pub changed : (s : ℕ) → s < span_count (pushed d f) → Mem (name_at u s) ps → IsChanged d f s

-- The table kept through some fingers is the one made from scratch, up to names; taking room for them changes no table.
use Rattle.std.proofs.Common.{◌≡◌, ℕ, List, [], ◌∷◌, sym, subst}
use Rattle.page_surface.specs.Drawing.{Drawing}
use Rattle.drawing.specs.declared.finger.Finger.{Finger}
use Rattle.drawing.specs.Fingers.{pushed, replayed}
use Rattle.region_table.specs.Table.{IsRenamed, IsTableOf, Table}
use Rattle.region_table.proofs.TableNames.{one_table_up_to_names, renamed}

-- a table is kept through some fingers, one after another: of each the table of the drawing before becomes that of the drawing after
abbrev pub IsKeptThrough : Drawing → List Finger → Table → Table → Type 0
IsKeptThrough d [] t u = u ≡ t
IsKeptThrough d (f ∷ fs) t u = (v : Table) × (IsTableOf d t → IsTableOf (pushed d f) v) × IsKeptThrough (pushed d f) fs v u

-- then it is that of the drawing after all fingers,
pub kept_through : (d : Drawing) (fs : List Finger) (t u : Table) → IsTableOf d t → IsKeptThrough d fs t u → IsTableOf (replayed d fs) u
kept_through d [] t u told same = subst (λ v. IsTableOf d v) (sym same) told
kept_through d (f ∷ fs) t u told kept = kept_through (pushed d f) fs kept.0 u (kept.1 told) kept.2

-- and so the one made from scratch, but for names
pub one_table_through : (d : Drawing) (fs : List Finger) (t u v : Table) → IsTableOf d t → IsKeptThrough d fs t u → IsTableOf (replayed d fs) v → (to : ℕ → ℕ) × IsRenamed u v to
one_table_through d fs t u v told kept made =
    let there = kept_through d fs t u told kept in
    (renamed (replayed d fs) u v there made, one_table_up_to_names (replayed d fs) u v there made)

-- a table with room for more fingers is the table of the same drawing
pub roomier : (d : Drawing) (t u : Table) → u ≡ record t { room = u.room } → IsTableOf d t → IsTableOf d u
roomier d t u is told = subst (IsTableOf d) (sym is) (room_aside d t u.room told)
  where
    room_aside : (d : Drawing) (t : Table) (n : ℕ) → IsTableOf d t → IsTableOf d (record t { room = n })
    room_aside d t n told = record {
      polygon = told.polygon;
      starts = told.starts;
      mates = told.mates;
      begins = told.begins;
      every_span = told.every_span;
      naming = told.naming;
      told = told.told;
      used = told.used;
      base = told.base;
      first = told.first;
      size = told.size;
      inner_once = told.inner_once;
      inner_listed = told.inner_listed;
      listed_inner = told.listed_inner;
    }

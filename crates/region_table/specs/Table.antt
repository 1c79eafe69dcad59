-- The table of a drawing's regions: names of its pieces, and what is told of each.
use Rattle.std.specs.Prelude.{◌≡◌, ℕ, ◌+◌, ◌-◌, ◌*◌, ◌<◌, Bool, false, cond, nat_eq, ◌||◌, List, length, map, slice_index, slice_index_or}
use Rattle.std.specs.List.{list_all, sum_by}
use Rattle.obd_base.specs.Lists.{Mem, Once, below}
use Rattle.page_surface.specs.Polygon.{Polygon, arc_count}
use Rattle.page_surface.specs.Drawing.{Drawing, IsEmbedded, chords, strand_chords}
use Rattle.drawing.specs.Layout.{offsets_of}
use Rattle.drawing.specs.Pieces.{distance, is_base, piece_of, segments_in, span_count, spans}
use Rattle.drawing.specs.Round.{other_end}
use Rattle.region_table.specs.Naming.{IsNaming}

-- what is told of a piece: whether it is base, its first segment, how many segments it has, and its distance. The two
-- numbers of segments mean nothing for a base piece
pub record Region : Type 0 where
  pub base : Bool
  pub first : ℕ
  pub size : ℕ
  pub distance : ℕ

-- a table: the polygon, where its sides begin in the place order, the name of the piece of each span, the other end of
-- the chord at each number, where the chords of each strand begin, the pieces by their names, the names of those that
-- aren't base, and for how many fingers there is room
pub record Table : Type 0 where
  pub polygon : Polygon
  pub starts : List ℕ
  pub names : List ℕ
  pub mates : List ℕ
  pub begins : List (List ℕ)
  pub regions : List Region
  pub inner : List ℕ
  pub room : ℕ

-- where the chords of each strand begin
abbrev pub begins_of : Drawing → List (List ℕ)
begins_of d = map (λ i. map (λ c. c.from) (strand_chords d i)) (below (arc_count d.polygon))

-- the name of the piece of a span
abbrev pub name_at : Table → ℕ → ℕ
name_at t s = slice_index t.names s

-- one of some pieces
abbrev pub region_in : List Region → ℕ → Region
region_in regions p = slice_index_or regions p (record { base = false; first = 0; size = 0; distance = 0 })

-- what is told of a piece by its name
abbrev pub region : Table → ℕ → Region
region t p = region_in t.regions p

-- and by one of its spans
abbrev pub region_at : Table → ℕ → Region
region_at t s = region t (name_at t s)

-- pieces that differ in their distances alone
pub record DifferInDistance (before after : List Region) : Type 0 where
  pub count : length after ≡ length before
  pub base : (p : ℕ) → (region_in after p).base ≡ (region_in before p).base
  pub first : (p : ℕ) → (region_in after p).first ≡ (region_in before p).first
  pub size : (p : ℕ) → (region_in after p).size ≡ (region_in before p).size

-- the table of a drawing, its distances and its room left aside
pub record IsTableOf (d : Drawing) (t : Table) : Type 0 where
  pub polygon : t.polygon ≡ d.polygon
  pub starts : t.starts ≡ offsets_of d
  pub mates : t.mates ≡ map (other_end (chords d)) (spans d)
  pub begins : t.begins ≡ begins_of d
  pub every_span : length t.names ≡ span_count d
  pub naming : IsNaming d (name_at t)
  pub told : (s : ℕ) → s < span_count d → name_at t s < length t.regions
  pub used : (p : ℕ) → p < length t.regions → (s : ℕ) × (s < span_count d) × (name_at t s ≡ p)
  pub base : (s : ℕ) → s < span_count d → (region_at t s).base ≡ is_base d s
  pub first : (s : ℕ) → s < span_count d → is_base d s ≡ false → (region_at t s).first ≡ piece_of d s
  pub size : (s : ℕ) → s < span_count d → is_base d s ≡ false → (region_at t s).size ≡ length (segments_in d s)
  pub inner_once : Once t.inner
  pub inner_listed : (p : ℕ) → p < length t.regions → (region t p).base ≡ false → Mem p t.inner
  pub listed_inner : (p : ℕ) → Mem p t.inner → (p < length t.regions) × ((region t p).base ≡ false)

-- its distances are those of the drawing
abbrev pub HasDistances : Drawing → Table → Type 0
HasDistances d t = (s : ℕ) → s < span_count d → (region_at t s).distance ≡ distance d s

-- a table is fresh where it has the distances of a drawing whose table it is
pub record IsFresh (t : Table) : Type 0 where
  pub drawing : Drawing
  pub embedded : IsEmbedded drawing
  pub table : IsTableOf drawing t
  pub distances : HasDistances drawing t

-- a piece that isn't base has two corners for each of its segments
abbrev pub corners_of : Region → ℕ
corners_of r = r.size + r.size

-- how many segments it has above two
abbrev pub badness_of : Region → ℕ
badness_of r = r.size - 2

-- a base piece, or one that has badness 0
abbrev pub is_good : Region → Bool
is_good r = r.base || nat_eq (badness_of r) 0

-- the table of a nice drawing
abbrev pub tells_nice : Table → Bool
tells_nice t = list_all is_good t.regions

-- what a piece adds to the weight
abbrev pub share : Region → ℕ
share r = cond r.base 0 (badness_of r * r.distance)

-- the weight by a table
abbrev pub told_weight : Table → ℕ
told_weight t = sum_by share t.regions

-- two tables that differ by the names of pieces alone
pub record IsRenamed (t u : Table) (to : ℕ → ℕ) : Type 0 where
  pub names : u.names ≡ map to t.names
  pub one_to_one : (p q : ℕ) → p < length t.regions → q < length t.regions → to p ≡ to q → p ≡ q
  pub count : length u.regions ≡ length t.regions
  pub base : (p : ℕ) → p < length t.regions → (region u (to p)).base ≡ (region t p).base
  pub first : (p : ℕ) → p < length t.regions → (region t p).base ≡ false → (region u (to p)).first ≡ (region t p).first
  pub size : (p : ℕ) → p < length t.regions → (region t p).base ≡ false → (region u (to p)).size ≡ (region t p).size

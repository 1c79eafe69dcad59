-- Trees, and the two on the pieces of a drawing: pieces linked across its chords, and pieces linked through its glued segments.
use Rattle.std.specs.Prelude.{◌≡◌, ℕ, suc, ◌-◌, List, map, length}
use Rattle.std.specs.List.{flat_map}
use Rattle.obd_base.specs.Lists.{Mem, Once, below}
use Rattle.page_surface.specs.Drawing.{Chord, Drawing, chords, exit, spot}
use Rattle.page_surface.specs.Polygon.{arc_count, first_side, second_side}
use Rattle.drawing.specs.Pieces.{piece_of}
use Rattle.drawing.specs.Points.{crossings_of}

-- a link joins two vertices
pub record Link : Type 0 where
  pub one : ℕ
  pub other : ℕ

-- reached from a vertex over links, each gone either way
pub data Linked (links : List Link) (from : ℕ) : ℕ → Type 0 where
  here : Linked links from from
  along : {link : Link} → Mem link links → Linked links from link.one → Linked links from link.other
  back : {link : Link} → Mem link links → Linked links from link.other → Linked links from link.one

-- different vertices, links between them, each vertex reached from each, and one vertex more than links
pub record IsTree (vertices : List ℕ) (links : List Link) : Type 0 where
  pub different : Once vertices
  pub between : (link : Link) → Mem link links → Mem link.one vertices × Mem link.other vertices
  pub joined : (v w : ℕ) → Mem v vertices → Mem w vertices → Linked links v w
  pub one_more : length vertices ≡ suc (length links)

-- a chord links the pieces on its two sides: those of the spans just before and just after its first end
abbrev pub chord_link : Drawing → Chord → Link
chord_link d c = record { one = piece_of d c.from; other = piece_of d (suc c.from) }

-- one link for each chord
abbrev pub chord_links : Drawing → List Link
chord_links d = map (chord_link d) (chords d)

-- a segment of an arc's first side links its piece to that of the segment of the second side that it is glued to
abbrev pub glued_link : Drawing → ℕ → ℕ → Link
glued_link d a j = record {
  one = piece_of d (spot d (exit (first_side d.polygon a) j));
  other = piece_of d (spot d (exit (second_side d.polygon a) (crossings_of d a - j)));
}

-- one link for each pair of glued segments: an arc with m crossing points has m + 1 of them
abbrev pub glued_links : Drawing → List Link
glued_links d = flat_map (λ a. map (glued_link d a) (below (suc (crossings_of d a)))) (below (arc_count d.polygon))

-- What code makes anew is the table of the drawing.
use Rattle.std.proofs.Common.{◌≡◌, ℕ, ◌+◌, ◌<◌, ◌≤◌, ◌^◌, List, filter, not, length, get_or, refl, ◌∙◌, ap, sym, arith}
use Rattle.obd_base.specs.Lists.{below}
use Rattle.page_surface.specs.Drawing.{Drawing, IsEmbedded, all_exits}
use Rattle.page_surface.specs.Polygon.{Polygon, arc_count, sides}
use Rattle.drawing.specs.Pieces.{span_count}
use Rattle.region_table.specs.Counted.{AreTold, size_so_far}
use Rattle.region_table.specs.Ends.{ChordNo, IsFrameOf, IsKept, shown}
use Rattle.region_table.specs.Naming.{fresh_names}
use Rattle.region_table.specs.Table.{IsTableOf, Region, region_in}
use Rattle.std.proofs.lemmas.List.FromFn.{length-range_with_len}
use Rattle.region_table.proofs.CountedTable.{fresh_is_table}
use Rattle.region_table.proofs.KeptReads.{filter_short}
use Rattle.region_table.proofs.ToldTables.{named, told_below}
use Rattle.drawing.proofs.PieceCount.{piece_count}

module _ (d : Drawing) (ok : IsEmbedded d) (polygon : Polygon) (starts names mates : List ℕ) (begins : List (List ℕ)) (regions : List Region) (inner : List ℕ) (room : ℕ) (ends : List ChordNo)
    (same : polygon ≡ d.polygon) (frame : IsFrameOf d starts mates begins ends) (are : names ≡ fresh_names d) (told : AreTold d names regions)
    (left : inner ≡ filter (λ p. not (region_in regions p).base) (below (length regions))) where
  -- it is
  pub made_is_table : IsTableOf d (shown polygon starts names mates begins regions inner room)
  made_is_table = fresh_is_table d ok (shown polygon starts names mates begins regions inner room) (record {
    polygon = same;
    starts = frame.starts_are;
    mates = frame.mates_are;
    begins = frame.begins_are;
    every_span = named d ok names are;
    bases = told.base;
    firsts = told.first;
    sizes = told.size;
    inner = left;
  }) are told.count

  -- and can be kept
  pub made_is_kept : sides d.polygon ≤ 16 → length (all_exits d) < 2 ^ 28 → IsKept (shown polygon starts names mates begins regions inner room) ends
  made_is_kept few_sides few = record { drawing = d; embedded = ok; few_sides = few_sides; few = few; table = made_is_table; as_many = frame.as_many; known = frame.known }

-- no more names are left than there were
pub inner_short : (inner : List ℕ) (regions : List Region) (n : ℕ) → inner ≡ filter (λ p. not (region_in regions p).base) (below n) → length inner ≤ n
inner_short inner regions n is = omega (arith, ap length is, filter_short (λ p. not (region_in regions p).base) (below n), length-range_with_len 0 n)

-- there are few pieces
pub few_told : (d : Drawing) → IsEmbedded d → (names : List ℕ) (regions : List Region) → AreTold d names regions → sides d.polygon ≤ 16 → length (all_exits d) < 2 ^ 28 → length regions < 2 ^ 32
few_told d ok names regions told few_sides few = omega (arith, told.count, piece_count d ok, few_sides, few)

-- the sizes told are those of the names, as they are seen
pub sizes_seen : (d : Drawing) → IsEmbedded d → (names seen : List ℕ) (regions told : List Region) → names ≡ fresh_names d → AreTold d names regions → seen ≡ names → told ≡ regions
    → (p : ℕ) → p < length told → (region_in told p).size ≡ size_so_far (λ s. get_or seen s 0) (length seen) p
sizes_seen d ok names seen regions told are h e f p l =
    ap (λ rs. (region_in rs p).size) f
    ∙ (h.size p (omega (arith, l, ap length f))
    ∙ (ap (λ n. size_so_far (λ s. get_or names s 0) n p) (sym (named d ok names are)) ∙ ap (λ ns. size_so_far (λ s. get_or ns s 0) (length ns) p) (sym e)))

-- and the names are below the number of pieces
pub names_seen : (d : Drawing) → IsEmbedded d → (names seen : List ℕ) (regions told : List Region) → names ≡ fresh_names d → AreTold d names regions → seen ≡ names → told ≡ regions
    → (s : ℕ) → s < length seen → get_or seen s 0 < length told
names_seen d ok names seen regions told are h e f s l =
    let below_all = told_below d ok names are (length (all_exits d) + arc_count d.polygon + 1) (length (all_exits d)) (arc_count d.polygon) refl refl refl s (omega (arith, l, ap length e, named d ok names are)) in
    omega (arith, below_all, ap (λ ns. get_or ns s 0) e, ap length f, h.count, piece_count d ok)

pub names_few : (d : Drawing) → IsEmbedded d → (names seen : List ℕ) → names ≡ fresh_names d → seen ≡ names → span_count d < 2 ^ 30 → length seen < 2 ^ 30
names_few d ok names seen are e few = omega (arith, ap length e, named d ok names are, few)

-- A finger's numbers can be read in a table of the drawing.
use Rattle.std.proofs.Common.{◌≡◌, ℕ, ◌-◌, ◌<◌, ◌≤◌, List, [], length, get_or, ◌∙◌, ap, arith}
use Rattle.std.proofs.lemmas.List.{get_or_default}
use Rattle.page_surface.specs.Drawing.{Drawing, IsEmbedded}
use Rattle.page_surface.specs.Polygon.{Polygon, partner, sides}
use Rattle.drawing.specs.declared.finger.Finger.{Finger}
use Rattle.drawing.specs.Fingers.{IsLegal}
use Rattle.drawing.specs.Pieces.{span_count}
use Rattle.region_table.specs.Ends.{begin_in}
use Rattle.region_table.specs.Reads.{told_points}
use Rattle.region_table.specs.Table.{IsTableOf, Table}
use Rattle.region_table.proofs.FrameTables.{as_many_mates, as_many_rows}
use Rattle.region_table.proofs.TablePlaces.{begin_told, beside_in, chords_told}
use Rattle.region_table.proofs.TableReads.{points_are, sides_are}
use Rattle.drawing.proofs.Ends.{same_count}

-- an entry of a list that is another one's
pub entry_seen : (items xs : List ℕ) (n x : ℕ) → items ≡ xs → n < length items → x ≡ get_or items n x → x ≡ get_or xs n 0
entry_seen items xs n x same l is = is ∙ (get_or_default items n x 0 l ∙ ap (λ ys. get_or ys n 0) same)

module _ (d : Drawing) (ok : IsEmbedded d) (f : Finger) (l : IsLegal d f) (t : Table) (told : IsTableOf d t) where
  -- its side is one of the table's,
  pub side_there : f.side < sides t.polygon
  side_there = omega (arith, l.side, sides_are d t told)

  -- and its segment one of the side's
  pub segment_there : f.segment ≤ told_points t f.side
  segment_there = omega (arith, l.segment, points_are d t told f.side side_there)

  -- the glued segment is there,
  pub past_there : (q : Polygon) (k n : ℕ) → q ≡ t.polygon → k ≡ partner q f.side → n ≡ told_points t f.side → n - f.segment ≤ told_points t k
  past_there q k n same is many =
      let e : k ≡ partner d.polygon f.side = is ∙ ap (λ (p : Polygon). partner p f.side) (same ∙ told.polygon) in
      omega (
        arith,
        ap (told_points t) e,
        points_are d t told (partner d.polygon f.side) (omega (arith, ok.polygon.pairs.in_range f.side l.side, sides_are d t told)),
        same_count d ok f.side,
        points_are d t told f.side side_there,
        many,
      )

  -- and so are its strand,
  pub strand_there : f.strand < length t.begins
  strand_there = omega (arith, l.strand, as_many_rows d t.begins told.begins)

  -- its chord,
  pub chord_there : f.chord < length (get_or t.begins f.strand [])
  chord_there = omega (arith, l.chord, chords_told d t told f.strand l.strand)

  begin_there : begin_in t.begins f.strand f.chord < span_count d
  begin_there = omega (arith, begin_told d t told f.strand f.chord l.strand l.chord, (beside_in d ok f.strand f.chord l.strand l.chord).0)

  -- the chord's other end, and its name
  pub mate_there : begin_in t.begins f.strand f.chord < length t.mates
  mate_there = omega (arith, begin_there, as_many_mates d ok t.mates told.mates)

  pub name_there : begin_in t.begins f.strand f.chord < length t.names
  name_there = omega (arith, begin_there, told.every_span)

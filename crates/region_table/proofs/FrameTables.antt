-- What code reads off the chords of a drawing, and how far it reaches.
use Rattle.std.proofs.Common.{◌≡◌, ℕ, zero, suc, ◌<◌, ◌≤◌, ◌^◌, List, [], ◌∷◌, map, length, get_or, refl, ◌∙◌, ap, subst, arith, zero-add}
use Rattle.std.specs.List.{flat_map}
use Rattle.std.proofs.lemmas.List.{get_or-map, get_or_default, length-append, length-map}
use Rattle.std.proofs.lemmas.List.FromFn.{get_or-map-range_with_len, length-map-range_with_len}
use Rattle.obd_base.specs.Lists.{Mem, below}
use Rattle.page_surface.specs.Drawing.{Chord, Drawing, IsEmbedded, all_exits, chords, end_of, strand_chords, strand_exits}
use Rattle.page_surface.specs.Polygon.{arc_count, first_side, second_side, sides}
use Rattle.drawing.specs.Fingers.{chord_at}
use Rattle.drawing.specs.Layout.{offsets_of}
use Rattle.drawing.specs.Pieces.{span_count, spans}
use Rattle.drawing.specs.Round.{other_end}
use Rattle.drawing.proofs.SweepTables.{ends_inside}
use Rattle.region_table.specs.Ends.{ChordNo, IsInside, KnowsEnds}
use Rattle.region_table.specs.Table.{begins_of}
use Rattle.region_table.proofs.ChordTables.{start_read}
use Rattle.region_table.proofs.EdgeWalk.{cut_length}
use Rattle.region_table.proofs.TablePlaces.{chord_listed, far_end_told}
use Rattle.drawing.proofs.Ends.{placed}

-- a row is no longer than all rows
row_short : {X : Type 0} (rows : List (List X)) (i : ℕ) → length (get_or rows i []) ≤ length (flat_map (λ row. row) rows)
row_short [] i = omega arith
row_short (row ∷ rows) zero = omega (arith, length-append row (flat_map (λ row. row) rows))
row_short (row ∷ rows) (suc i) = omega (arith, length-append row (flat_map (λ row. row) rows), row_short rows i)

module _ (d : Drawing) (begins : List (List ℕ)) (are : begins ≡ begins_of d) where
  -- a row for each strand
  pub as_many_rows : length begins ≡ arc_count d.polygon
  as_many_rows = ap length are ∙ length-map-range_with_len (λ i. map (λ c. c.from) (strand_chords d i)) 0 (arc_count d.polygon)

  module _ (i : ℕ) (li : i < arc_count d.polygon) where
    -- where its chords begin
    pub row_is : get_or begins i [] ≡ map (λ c. c.from) (strand_chords d i)
    row_is = ap (λ xs. get_or xs i []) are ∙ get_or-map-range_with_len (λ i. map (λ c. c.from) (strand_chords d i)) 0 (arc_count d.polygon) i i [] li (zero-add i)

    strand_long : length (strand_chords d i) ≡ suc (length (strand_exits d i))
    strand_long = cut_length d (end_of d (second_side d.polygon i)) (end_of d (first_side d.polygon i)) (strand_exits d i)

    pub row_long : length (get_or begins i []) ≡ suc (length (strand_exits d i))
    row_long = ap length row_is ∙ (length-map (strand_chords d i) (λ c. c.from) ∙ strand_long)

    pub begin_is : (c : ℕ) → c ≤ length (strand_exits d i) → get_or (get_or begins i []) c 0 ≡ (chord_at d i c).from
    begin_is c lc = ap (λ xs. get_or xs c 0) row_is ∙ get_or-map (λ c. c.from) (strand_chords d i) c (record { from = 0; to = 0 }) 0 (omega (arith, lc, strand_long))

    -- a row is short in a small drawing
    pub row_small : length (all_exits d) < 2 ^ 28 → length (get_or begins i []) < 2 ^ 32
    row_small few = omega (arith, row_long, row_short d.strands i, few)

module _ (d : Drawing) (ok : IsEmbedded d) (mates : List ℕ) (is : mates ≡ map (other_end (chords d)) (spans d)) where
  -- as many numbers as spans
  pub as_many_mates : length mates ≡ span_count d
  as_many_mates = ap length is ∙ length-map-range_with_len (other_end (chords d)) 0 (span_count d)

  pub mate_is : (x : ℕ) → x < span_count d → get_or mates x 0 ≡ other_end (chords d) x
  mate_is x l = ap (λ xs. get_or xs x 0) is ∙ get_or-map-range_with_len (other_end (chords d)) 0 (span_count d) x x 0 l (zero-add x)

  -- both ends of a chord are among them
  pub chord_inside : (begins : List (List ℕ)) → begins ≡ begins_of d → (i c : ℕ) → i < arc_count d.polygon → c ≤ length (strand_exits d i) → IsInside begins mates i c
  chord_inside begins are i c li lc =
      let from = begin_is d begins are i li c lc in
      let e = ends_inside d (placed d ok) (chords d) refl (chord_at d i c) (chord_listed d ok i c li lc) in
      let to = ap (λ x. get_or mates x 0) from ∙ (mate_is (chord_at d i c).from e.0 ∙ far_end_told d ok i c li lc) in
      (omega (arith, from, e.0, as_many_mates), omega (arith, to, e.1, as_many_mates))

-- the last of the numbers where sides begin
pub spans_read : (d : Drawing) (starts : List ℕ) (n count : ℕ) → starts ≡ offsets_of d → n ≡ sides d.polygon → n < length starts → count ≡ get_or starts n count → count ≡ span_count d
spans_read d starts n count is e l read =
    read ∙ (get_or_default starts n count 0 l ∙ (ap (λ k. get_or starts k 0) e ∙ start_read d starts is (sides d.polygon) (omega arith)))

-- the chords read end below that number,
pub read_inside : (d : Drawing) → IsEmbedded d → (all : List Chord) (count : ℕ) → all ≡ chords d → count ≡ span_count d → (c : Chord) → Mem c all → (c.from < count) × (c.to < count)
read_inside d ok all count are n c m = let e = ends_inside d (placed d ok) all are c m in (omega (arith, n, e.0), omega (arith, n, e.1))

-- and their other ends are those of the drawing
pub mates_read : (d : Drawing) (all : List Chord) (count : ℕ) (mates : List ℕ) → all ≡ chords d → count ≡ span_count d → mates ≡ map (other_end all) (below count) → mates ≡ map (other_end (chords d)) (spans d)
mates_read d all count mates are n is = is ∙ rw (are, n) refl

-- what is known of the tables is known of equal ones
pub known_same : (bs rows : List (List ℕ)) (ms mates : List ℕ) (ends : List ChordNo) → bs ≡ rows → ms ≡ mates → KnowsEnds bs ms ends → KnowsEnds rows mates ends
known_same bs rows ms mates ends b m known = subst (λ xs. KnowsEnds rows xs ends) m (subst (λ xs. KnowsEnds xs ms ends) b known)

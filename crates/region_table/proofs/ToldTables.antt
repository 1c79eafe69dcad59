-- What the sweeps write is what is told of the pieces of a drawing.
use Rattle.std.proofs.Common.{◌≡◌, ℕ, ◌+◌, ◌<◌, ◌≤◌, ◌^◌, Bool, true, false, eqb, List, ◌++◌, map, take, length, get_or, ◌∙◌, ap, arith, zero-add, inl, inr}
use Rattle.std.proofs.lemmas.Bool.{cases_lt, eq-eqb}
use Rattle.std.proofs.lemmas.List.{get_or_past}
use Rattle.std.proofs.Math.Seq.{take-append_seam}
use Rattle.std.proofs.lemmas.List.FromFn.{get_or-map-range_with_len, length-map-range_with_len}
use Rattle.obd_base.proofs.lists.Below.{count_less}
use Rattle.page_surface.specs.Polygon.{arc_count}
use Rattle.page_surface.specs.Drawing.{Drawing, IsEmbedded, all_exits, chords}
use Rattle.drawing.specs.Pieces.{distance, is_base, pieces, span_count, spans}
use Rattle.drawing.specs.Round.{other_end}
use Rattle.region_table.specs.Counted.{AreTold, first_label, size_so_far}
use Rattle.region_table.specs.Naming.{IsNaming, fresh_names, number_of}
use Rattle.region_table.specs.Table.{DifferInDistance, Region, region_in}
use Rattle.region_table.specs.Told.{AreSeen, HasNames}
use Rattle.region_table.proofs.NamingLaws.{base_by_name, naming_as}
use Rattle.region_table.proofs.NumberSweep.{number_below, number_naming, number_used}
use Rattle.drawing.proofs.Diagram.{chord_count}
use Rattle.drawing.proofs.PieceCount.{piece_count}

-- what was written to a whole table is the table
pub written : {X : Type 0} (xs zs seen : List X) (n : ℕ) → n ≡ length xs → seen ≡ take n (xs ++ zs) → seen ≡ xs
written xs zs seen n e is = is ∙ (ap (λ k. take k (xs ++ zs)) e ∙ take-append_seam xs zs)

-- the first labels are within their bound
pub labels_within : (bound : ℕ) (bases : List Bool) (labels : List ℕ) → length labels ≡ length bases
    → ((p : ℕ) → p < length bases → get_or labels p 0 ≡ first_label bound (get_or bases p false)) → (p : ℕ) → get_or labels p 0 ≤ bound
labels_within bound bases labels size is p = elim (cases_lt p (length bases)) [
  | inl l ↦ within (get_or bases p false) (is p l)
  | inr h ↦ omega (arith, get_or_past labels p 0 (omega (arith, h, size)))
]
  where
    within : (b : Bool) → get_or labels p 0 ≡ first_label bound b → get_or labels p 0 ≤ bound
    within true e = omega (arith, e)
    within false e = omega (arith, e)

module _ (d : Drawing) (ok : IsEmbedded d) (names : List ℕ) (are : names ≡ fresh_names d) where
  -- the name of a span
  name_is : (s : ℕ) → s < span_count d → get_or names s 0 ≡ number_of d s
  name_is s l = ap (λ ns. get_or ns s 0) are ∙ get_or-map-range_with_len (number_of d) 0 (span_count d) s s 0 l (zero-add s)

  -- each span has one
  pub named : length names ≡ span_count d
  named = ap length are ∙ length-map-range_with_len (number_of d) 0 (span_count d)

  pub naming : IsNaming d (λ s. get_or names s 0)
  naming = naming_as d (number_of d) (λ s. get_or names s 0) name_is (number_naming d)

  module _ (n points arcs : ℕ) (counted : n ≡ points + arcs + 1) (points_are : points ≡ length (all_exits d)) (arcs_are : arcs ≡ arc_count d.polygon) where
    -- they are the numbers below the number of pieces
    pub pieces_are : n ≡ length (pieces d)
    pieces_are = omega (arith, counted, points_are, arcs_are, piece_count d ok)

    pub told_below : (s : ℕ) → s < span_count d → get_or names s 0 < n
    told_below s l = omega (arith, pieces_are, name_is s l, number_below d s l)

    -- which is above the number of chords
    pub bound_high : length (chords d) < n
    bound_high = omega (arith, counted, points_are, arcs_are, chord_count d ok.strand_count)

    -- which pieces are base is seen
    seen_base : (regions : List Region) → length regions ≡ n → AreSeen d (λ s. get_or names s 0) regions
        → (s : ℕ) → s < span_count d → (region_in regions (get_or names s 0)).base ≡ is_base d s
    seen_base regions size seen s l = seen.base (get_or names s 0) (omega (arith, told_below s l, size)) ∙ base_by_name d ok (λ s. get_or names s 0) naming s l

    -- so they can be measured
    pub seen_names : (mates : List ℕ) (regions : List Region) → mates ≡ map (other_end (chords d)) (spans d) → span_count d < 2 ^ 30 → length regions ≡ n → AreSeen d (λ s. get_or names s 0) regions
        → HasNames d names mates regions
    seen_names mates regions is few size seen = record {
      embedded = ok;
      mates_are = is;
      few = few;
      named = named;
      naming = naming;
      told = λ s l. omega (arith, told_below s l, size);
      high = omega (arith, bound_high, size);
      base = seen_base regions size seen;
    }

    -- each name below it has a span
    pub met : (p : ℕ) → p < n → 0 < size_so_far (λ s. get_or names s 0) (span_count d) p
    met p l =
        let (s, ls, e) = number_used d p (omega (arith, l, pieces_are)) in
        omega (arith, count_less (λ s. eqb (get_or names s 0) p) s (span_count d) (eq-eqb (get_or names s 0) p (name_is s ls ∙ e)) ls)

    -- what is seen and measured is told
    pub seen_told : (regions told : List Region) → length regions ≡ n → AreSeen d (λ s. get_or names s 0) regions → DifferInDistance regions told
        → ((s : ℕ) → s < span_count d → (region_in told (get_or names s 0)).distance ≡ distance d s) → AreTold d names told
    seen_told regions told size seen differ measured = record {
      count = omega (arith, differ.count, size, pieces_are);
      base = λ p l. differ.base p ∙ seen.base p (omega (arith, l, differ.count));
      first = λ p l. differ.first p ∙ seen.first p (omega (arith, l, differ.count)) (met p (omega (arith, l, differ.count, size)));
      size = λ p l. differ.size p ∙ seen.size p (omega (arith, l, differ.count));
      distance = measured;
    }

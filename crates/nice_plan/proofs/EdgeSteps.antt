-- What a table's answers are in a drawing with its table: sides, segments and chords of pieces.
use Rattle.std.proofs.Common.{◌≡◌, ℕ, ◌+◌, ◌*◌, ◌<◌, ◌≤◌, sym, ◌∙◌, ◌⊎◌, inl, inr, ap, subst, arith}
use Rattle.std.proofs.lemmas.Bool.{cases_order}
use Rattle.obd_base.specs.declared.points.Exit.{Exit}
use Rattle.page_surface.specs.Drawing.{Drawing, IsEmbedded, exit, offset, spot}
use Rattle.page_surface.specs.Polygon.{arc_count, sides}
use Rattle.drawing.specs.Pieces.{span_count}
use Rattle.drawing.proofs.Spots.{offset_rises}
use Rattle.finger_move.specs.Glued.{segment_of}
use Rattle.region_table.specs.Edges.{IsChordEdge, IsSegmentEdge}
use Rattle.region_table.specs.EdgeKinds.{IsEdge}
use Rattle.region_table.specs.Reads.{told_chords, told_points}
use Rattle.region_table.specs.Table.{IsFresh, IsTableOf, Table, name_at}
use Rattle.region_table.specs.declared.edge.Edge.{Edge}
use Rattle.region_table.specs.declared.edge.Edge.TheVariants.{Chord, Segment}
use Rattle.region_table.proofs.TableReads.{arcs_are, chords_are, points_are, sides_are}
use Rattle.nice_plan.specs.Measured.{IsInner, IsMeasured, IsOn, Measured, home, segment_at}
use Rattle.nice_plan.proofs.MeasuredReads.{home_is, spot_again}

-- segments come in the place order by their sides, and on a side by their numbers
pub spot_order : (d : Drawing) (e f : Exit) → IsOn d e → IsOn d f → spot d e < spot d f → (e.side < f.side) ⊎ ((e.side ≡ f.side) × (e.place < f.place))
spot_order d e f on_e on_f l = elim (cases_order e.side f.side) [
  | inl q ↦ inr (q, omega (arith, l, ap (offset d) q))
  | inr w ↦ elim w [ inl a ↦ inl a | inr a ↦ absurd (omega (arith, l, offset_rises d f.side e.side a, on_f.place)) ]
]

pub order_spot : (d : Drawing) (e f : Exit) → IsOn d e → IsOn d f → (e.side < f.side) ⊎ ((e.side ≡ f.side) × (e.place < f.place)) → spot d e < spot d f
order_spot d e f on_e on_f (inl a) = omega (arith, offset_rises d e.side f.side a, on_e.place)
order_spot d e f on_e on_f (inr (q, l)) = omega (arith, l, ap (offset d) q)

module _ (m : Measured) (k : IsMeasured m.drawing m.table) where
  -- the table is fresh
  pub fresh : IsFresh m.table
  fresh = record { drawing = m.drawing; embedded = k.embedded; table = k.table; distances = k.distances }

  -- a segment's side and number are the table's too
  pub side_told : (e : Exit) → IsOn m.drawing e → e.side < sides m.table.polygon
  side_told e on = omega (arith, on.side, sides_are m.drawing m.table k.table)

  pub place_told : (e : Exit) → IsOn m.drawing e → e.place ≤ told_points m.table e.side
  place_told e on = omega (arith, on.place, points_are m.drawing m.table k.table e.side (side_told e on))

  module _ (p index : ℕ) (edge : Edge) (is : IsEdge m.drawing (home m p) (2 * index) edge) where
    -- an even edge is no chord
    pub no_chord_edge : (strand chord : ℕ) → edge ≡ Chord strand chord → ⊥
    no_chord_edge strand chord e = let h : IsChordEdge m.drawing (home m p) (2 * index) strand chord = subst (IsEdge m.drawing (home m p) (2 * index)) e is in omega (arith, h.odd)

    module _ (side segment : ℕ) (e : edge ≡ Segment side segment) where
      seen : IsSegmentEdge m.drawing (home m p) (2 * index) side segment
      seen = subst (IsEdge m.drawing (home m p) (2 * index)) e is

      -- but this segment
      pub edge_number : spot m.drawing (exit side segment) ≡ segment_at m p index
      edge_number = let same : seen.index ≡ index = omega (arith, seen.even) in sym seen.is_it ∙ ap (segment_at m p) same

      pub edge_on : IsOn m.drawing (exit side segment)
      edge_on = record { side = seen.side_in; place = seen.segment_in }

      pub edge_value : exit side segment ≡ segment_of m.drawing (segment_at m p index)
      edge_value = sym (spot_again m.drawing (exit side segment) edge_on) ∙ ap (segment_of m.drawing) edge_number

  module _ (p index : ℕ) (edge : Edge) (is : IsEdge m.drawing (home m p) (2 * index + 1) edge) where
    -- an odd edge is no segment
    pub no_segment_edge : (side segment : ℕ) → edge ≡ Segment side segment → ⊥
    no_segment_edge side segment e = let h : IsSegmentEdge m.drawing (home m p) (2 * index + 1) side segment = subst (IsEdge m.drawing (home m p) (2 * index + 1)) e is in omega (arith, h.even)

    -- but a chord
    pub chord_edge : (strand chord : ℕ) → edge ≡ Chord strand chord → IsChordEdge m.drawing (home m p) (2 * index + 1) strand chord
    chord_edge strand chord e = subst (IsEdge m.drawing (home m p) (2 * index + 1)) e is

  -- whose numbers are the table's too
  pub strand_told : (s at strand chord : ℕ) → IsChordEdge m.drawing s at strand chord → strand < arc_count m.table.polygon
  strand_told s at strand chord h = omega (arith, h.strand_in, arcs_are m.drawing m.table k.table)

  pub chord_told : (s at strand chord : ℕ) → IsChordEdge m.drawing s at strand chord → chord < told_chords m.table strand
  chord_told s at strand chord h = omega (arith, h.chord_in, chords_are m.drawing m.table k.table strand (strand_told s at strand chord h))

  -- what a table tells of an edge of a piece that isn't base
  pub edge_told_here : (p : ℕ) → IsInner m p → (at : ℕ) (t : Table) → t ≡ m.table → (edge : Edge)
      → ((d : Drawing) (s : ℕ) → IsEmbedded d → IsTableOf d t → s < span_count d → name_at t s ≡ p → IsEdge d s at edge) → IsEdge m.drawing (home m p) at edge
  edge_told_here p i at t same edge told =
      let h = home_is m k p i in
      told m.drawing (home m p) k.embedded (subst (IsTableOf m.drawing) (sym same) k.table) h.inside (ap (λ w. name_at w (home m p)) same ∙ h.named)

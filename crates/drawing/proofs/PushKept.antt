-- What is kept of a drawing into which a finger is pushed.
use Rattle.std.proofs.Common.{◌≡◌, ℕ, suc, ◌+◌, ◌≤◌, cond, Bool, List, length, sym, ◌∙◌, ap, subst, arith}
use Rattle.obd_base.proofs.lists.Sums.{bit-le}
use Rattle.obd_base.specs.declared.points.Exit.{Exit}
use Rattle.page_surface.specs.Drawing.{IsEmbedded, all_exits, chords, points_on}
use Rattle.drawing.specs.declared.finger.Finger.{Finger}
use Rattle.drawing.specs.Fingers.{InRange, IsLegal, chord_at, entered, entered_beyond, glued_to, pushed, with_letters}
use Rattle.drawing.specs.Kept.{IsKept}
use Rattle.drawing.specs.Pieces.{same_piece, span_count}
use Rattle.drawing.specs.Room.{Roomy}
use Rattle.drawing.specs.Strands.{IsStrandTable}
use Rattle.drawing.specs.PushTables.{IsPutIn}
use Rattle.drawing.proofs.PushStrands.{strands_pushed}
use Rattle.drawing.proofs.PushTables.{exits_pushed, spans_pushed}
use Rattle.drawing.proofs.fingers.NewPlaces.{far_in}
use Rattle.drawing.proofs.fingers.Effects.{later_first, pushed_embedded, pushed_is, range_of}

module _ (l d : Roomy) (same : l ≡ d) (f : Finger) (legal : IsLegal d.drawing f) where
  -- the finger is legal in the drawing that is kept
  pub legal_here : IsLegal l.drawing f
  legal_here = subst (λ (r : Roomy). IsLegal r.drawing f) (sym same) legal

  -- the finger's numbers are in range
  pub in_range : InRange l.drawing f
  in_range = range_of l.drawing f legal_here

  -- the segment glued to the finger's is there
  pub far_within : IsEmbedded l.drawing → (e : Exit) → e ≡ glued_to l.drawing f → e.place ≤ points_on l.drawing e.side
  far_within ok e is = rw is (far_in l.drawing ok f 0 (omega arith) in_range)

  module _ (ok : IsEmbedded l.drawing) (out : ℕ) (is_out : out ≡ cond (same_piece (chords l.drawing) (chord_at l.drawing f.strand f.chord).from (entered l.drawing f)) 1 0) where
    pub out_small : out ≤ 1
    out_small = omega (arith, is_out, bit-le (later_first l.drawing f))

    -- the drawing with the two letters is the finger's effect
    is_effect : with_letters l.drawing f out ≡ pushed l.drawing f
    is_effect = ap (with_letters l.drawing f) is_out ∙ sym (pushed_is l.drawing ok f legal_here)

    -- it is embedded
    pub after : IsEmbedded (with_letters l.drawing f out)
    after = subst IsEmbedded (sym is_effect) (pushed_embedded l.drawing ok f legal_here)

    module _ (n : Roomy) (made : n.drawing ≡ with_letters l.drawing f out) where
      pub is_pushed : n.drawing ≡ pushed d.drawing f
      is_pushed = made ∙ (is_effect ∙ ap (λ (r : Roomy). pushed r.drawing f) same)

      spans_after : span_count n.drawing ≡ span_count l.drawing + 4
      spans_after = ap span_count made ∙ spans_pushed l.drawing ok f out out_small in_range

      exits_after : length (all_exits n.drawing) ≡ length (all_exits l.drawing) + 2
      exits_after = ap (λ x. length (all_exits x)) made ∙ exits_pushed l.drawing ok f out out_small in_range

      -- all is kept, with a room one lower
      pub kept_after : (points : ℕ) (table : List ℕ) (spare : ℕ) (gone : List Bool) (places : List ℕ) → IsKept l.drawing l.room points table spare gone places
          → suc n.room ≡ l.room → (strands : List ℕ) (left : ℕ) → IsStrandTable n.drawing strands → spare ≤ left + 4 → IsKept n.drawing n.room (points + 2) strands left gone places
      kept_after points table spare gone places kept room strands left are most = record {
        embedded = subst IsEmbedded (sym made) after;
        few = omega (arith, kept.few, room, exits_after);
        points_are = omega (arith, kept.points_are, exits_after);
        strands_are = are;
        strands_room = omega (arith, kept.strands_room, room, most);
        gone_room = omega (arith, kept.gone_room, room, spans_after);
        places_room = omega (arith, kept.places_room, room, spans_after);
      }

      -- and the table of strands is that of the drawing then
      pub strands_after : (table strands : List ℕ) (near far : ℕ) → IsStrandTable l.drawing table → near ≡ entered l.drawing f → far ≡ entered_beyond l.drawing f
          → IsPutIn f.strand near far table strands → IsStrandTable n.drawing strands
      strands_after table strands near far told one other put =
          let there = subst (λ x. IsPutIn f.strand x (entered_beyond l.drawing f) table strands) one (subst (λ x. IsPutIn f.strand near x table strands) other put) in
          subst (λ x. IsStrandTable x strands) (sym made) (strands_pushed l.drawing ok f out out_small in_range table strands told there after)

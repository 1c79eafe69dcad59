-- A finger's numbers by a table are those of a drawing that has the table.
use Rattle.std.proofs.Common.{◌≡◌, ◌≢◌, ℕ, ◌-◌, ◌<◌, true, false, eqb, get_or, refl, sym, ◌∙◌, ap, ap₂, arith}
use Rattle.std.proofs.lemmas.Bool.{eq-eqb, ne_eqb}
use Rattle.page_surface.specs.Drawing.{Drawing, IsEmbedded, points_on}
use Rattle.page_surface.specs.Polygon.{Polygon, partner, sides}
use Rattle.drawing.specs.declared.finger.Finger.{Finger}
use Rattle.drawing.specs.Fingers.{IsLegal, chord_at, entered, entered_beyond}
use Rattle.region_table.specs.Ends.{begin_in}
use Rattle.region_table.specs.FingerLists.{IsPush, passes_later}
use Rattle.region_table.specs.Reads.{told_points, told_spot}
use Rattle.region_table.specs.Table.{IsTableOf, Table, name_at}
use Rattle.region_table.proofs.TablePlaces.{begin_told, beside_in, far_end_told, mate_told}
use Rattle.region_table.proofs.TableReads.{points_are, sides_are, spot_told}
use Rattle.region_table.proofs.fingers.AfterFinger.{later_told}

module _ (d : Drawing) (ok : IsEmbedded d) (f : Finger) (l : IsLegal d f) (t : Table) (told : IsTableOf d t) (from to one other : ℕ)
    (begins : from ≡ begin_in t.begins f.strand f.chord) (ends : to ≡ get_or t.mates from 0) (enters : one ≡ told_spot t f.side f.segment)
    (glued : other ≡ told_spot t (partner t.polygon f.side) (told_points t f.side - f.segment)) where
  side_in : f.side < sides t.polygon
  side_in = omega (arith, l.side, sides_are d t told)

  -- the chord begins there,
  from_is : from ≡ (chord_at d f.strand f.chord).from
  from_is = begins ∙ begin_told d t told f.strand f.chord l.strand l.chord

  -- and ends there
  to_is : to ≡ (chord_at d f.strand f.chord).to
  to_is =
      ends ∙ (ap (λ x. get_or t.mates x 0) from_is
      ∙ (mate_told d t told (chord_at d f.strand f.chord).from (beside_in d ok f.strand f.chord l.strand l.chord).0 ∙ far_end_told d ok f.strand f.chord l.strand l.chord))

  -- the finger enters this span,
  entered_is : one ≡ entered d f
  entered_is = enters ∙ spot_told d t told f.side f.segment side_in

  -- and this one is glued to it
  beyond_is : other ≡ entered_beyond d f
  beyond_is =
      glued
      ∙ (ap (λ (q : Polygon). told_spot t (partner q f.side) (told_points t f.side - f.segment)) told.polygon
      ∙ (ap (λ n. told_spot t (partner d.polygon f.side) (n - f.segment)) (points_are d t told f.side side_in)
      ∙ spot_told d t told (partner d.polygon f.side) (points_on d f.side - f.segment) (omega (arith, ok.polygon.pairs.in_range f.side l.side, sides_are d t told))))

  -- the table tells whether the segment lies in the piece just before the chord's first end
  side_told : eqb (name_at t one) (name_at t from) ≡ passes_later d f
  side_told = ap₂ (λ a b. eqb (name_at t a) (name_at t b)) entered_is from_is ∙ later_told d ok f l t told

  -- if so,
  pub push_later : name_at t one ≡ name_at t from → IsPush d f from to from one other 1
  push_later same =
      let later : passes_later d f ≡ true = sym side_told ∙ eq-eqb (name_at t one) (name_at t from) same in
      record {
        from_is = from_is;
        near_is = rw (later) to_is;
        far_is = rw (later) from_is;
        entered_is = entered_is;
        beyond_is = beyond_is;
        out_is = rw (later) refl;
      }

  -- and if not
  pub push_sooner : name_at t one ≢ name_at t from → IsPush d f from from to one other 0
  push_sooner other_piece =
      let sooner : passes_later d f ≡ false = sym side_told ∙ ne_eqb (name_at t one) (name_at t from) other_piece in
      record {
        from_is = from_is;
        near_is = rw (sooner) from_is;
        far_is = rw (sooner) to_is;
        entered_is = entered_is;
        beyond_is = beyond_is;
        out_is = rw (sooner) refl;
      }

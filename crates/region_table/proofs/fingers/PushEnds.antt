-- The numbers of a finger are spans of the drawing.
use Rattle.std.proofs.Common.{◌≡◌, ◌≢◌, ℕ, suc, ◌+◌, ◌-◌, ◌<◌, ◌≤◌, Bool, true, false, cond, ◌∷◌, refl, sym, ◌∙◌, ap₂, arith, inl}
use Rattle.page_surface.specs.Drawing.{Chord, Drawing, IsEmbedded}
use Rattle.drawing.specs.declared.finger.Finger.{Finger}
use Rattle.drawing.specs.Fingers.{IsLegal, chord_at, entered, entered_beyond}
use Rattle.drawing.specs.Pieces.{span_count}
use Rattle.drawing.proofs.fingers.Arranged.{arranged_proper}
use Rattle.drawing.proofs.fingers.Finger.{back, turn}
use Rattle.drawing.proofs.fingers.Shift.{early}
use Rattle.drawing.proofs.fingers.Effects.{later_first}
use Rattle.region_table.specs.FingerLists.{IsPush, passes_later}
use Rattle.region_table.proofs.TablePlaces.{chord_listed}
use Rattle.region_table.proofs.fingers.AfterFinger.{es, push}
use Rattle.drawing.proofs.CutAlways.{chord_spans}

module _ (d : Drawing) (ok : IsEmbedded d) (f : Finger) (l : IsLegal d f) (from near far one other out : ℕ) (given : IsPush d f from near far one other out) where
  abbrev c : Chord
  c = chord_at d f.strand f.chord

  both : (c.from < span_count d) × (suc c.from < span_count d) × (c.to < span_count d) × (suc c.to < span_count d)
  both = chord_spans d ok c (chord_listed d ok f.strand f.chord l.strand l.chord)

  -- its two ends are spans,
  pub ends_in : (near < span_count d) × (far < span_count d)
  ends_in = go (passes_later d f) given.near_is given.far_is
    where
      go : (b : Bool) → near ≡ cond b c.to c.from → far ≡ cond b c.from c.to → (near < span_count d) × (far < span_count d)
      go true e g = (omega (arith, e, both.2), omega (arith, g, both.0))
      go false e g = (omega (arith, e, both.0), omega (arith, g, both.2))

  -- and two
  pub ends_apart : near ≢ far
  ends_apart = go (passes_later d f) given.near_is given.far_is
    where
      proper : c.from ≢ c.to
      proper = arranged_proper (c ∷ es d ok f l) (push d ok f l).arranged c (inl refl)

      go : (b : Bool) → near ≡ cond b c.to c.from → far ≡ cond b c.from c.to → near ≢ far
      go true e g q = proper (sym (sym e ∙ (q ∙ g)))
      go false e g q = proper (sym e ∙ (q ∙ g))

  -- the span entered and the span beyond are spans,
  pub entered_inside : one < span_count d
  entered_inside = omega (arith, given.entered_is, (push d ok f l).entered_in)

  pub beyond_inside : other < span_count d
  beyond_inside = omega (arith, given.beyond_is, (push d ok f l).beyond_in)

  -- and two
  pub spans_apart : one ≢ other
  spans_apart q = (push d ok f l).apart (sym given.entered_is ∙ (q ∙ given.beyond_is))

  -- the order is 0 or 1,
  pub out_small : out ≤ 1
  out_small = go (passes_later d f) given.out_is
    where
      go : (b : Bool) → out ≡ cond b 1 0 → out ≤ 1
      go true e = omega (arith, e)
      go false e = omega (arith, e)

  -- and tells where the part beyond the side begins,
  pub turn_begins : (x : ℕ) → x ≡ early other one + 1 - out → x ≡ (turn (entered d f) (entered_beyond d f) (later_first d f)).from
  turn_begins x e = go (passes_later d f) given.out_is (ap₂ early given.beyond_is given.entered_is)
    where
      go : (b : Bool) → out ≡ cond b 1 0 → early other one ≡ early (entered_beyond d f) (entered d f) → x ≡ cond b (early (entered_beyond d f) (entered d f)) (suc (early (entered_beyond d f) (entered d f)))
      go true o q = omega (arith, e, o, q)
      go false o q = omega (arith, e, o, q)

  -- and the part back to the old end
  pub back_begins : (x : ℕ) → x ≡ early one other + 1 - out → x ≡ (back (entered d f) (entered_beyond d f) (later_first d f) c).from
  back_begins x e = go (passes_later d f) given.out_is (ap₂ early given.entered_is given.beyond_is)
    where
      go : (b : Bool) → out ≡ cond b 1 0 → early one other ≡ early (entered d f) (entered_beyond d f) → x ≡ cond b (early (entered d f) (entered_beyond d f)) (suc (early (entered d f) (entered_beyond d f)))
      go true o q = omega (arith, e, o, q)
      go false o q = omega (arith, e, o, q)

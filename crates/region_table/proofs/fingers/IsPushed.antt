-- A legal finger on an embedded drawing, as the table of regions sees it.
use Rattle.std.proofs.Common.{◌≡◌, ℕ, suc, ◌+◌, ◌-◌, ◌<◌, Bool, true, false, ltb, ◌||◌, List, ◌∷◌, ◌++◌, map, refl, sym, ◌∙◌, ap, subst, arith, inl, inr}
use Rattle.std.proofs.lemmas.Bool.{lt-ltb}
use Rattle.std.proofs.lemmas.List.{map-append}
use Rattle.obd_base.specs.Lists.{Mem}
use Rattle.obd_base.proofs.lists.Below.{bit}
use Rattle.obd_base.proofs.lists.Members.{mem_append, mem_left, mem_right}
use Rattle.obd_base.proofs.lists.Sums.{bit-le}
use Rattle.page_surface.specs.Polygon.{partner, sides}
use Rattle.page_surface.specs.Drawing.{Chord, Drawing, IsEmbedded, chords, points_on}
use Rattle.drawing.specs.declared.finger.Finger.{Finger}
use Rattle.drawing.specs.Fingers.{InRange, IsLegal, chord_at, entered, entered_beyond, pushed}
use Rattle.drawing.specs.Pieces.{same_piece, span_count}
use Rattle.drawing.proofs.fingers.Effects.{effect, first_pieces, later_first, order_is, parts_arranged, pushed_is, range_of}
use Rattle.drawing.proofs.fingers.InPlace.{in_first, in_place, put_first}
use Rattle.drawing.proofs.fingers.NewChords.{listed}
use Rattle.drawing.proofs.fingers.NewPlaces.{far_in, far_segment, far_side, points_new}
use Rattle.drawing.proofs.fingers.NewSpots.{entered_apart, gap_kept}
use Rattle.drawing.proofs.tight.TwoMore.{offset_old}
use Rattle.drawing.proofs.fingers.Finger.{back, carry, onto, turn}
use Rattle.region_table.proofs.fingers.Pushed.{IsPushed}
use Rattle.drawing.proofs.fingers.OneEffect.{Borders, IsOpen, order_open}
use Rattle.region_table.proofs.fingers.Loop.{segments_apart}
use Rattle.region_table.proofs.fingers.Next.{near}
use Rattle.region_table.proofs.TablePlaces.{chord_listed}
use Rattle.drawing.proofs.CutAlways.{chord_spans}
use Rattle.drawing.proofs.Diagram.{spot_in}

-- three members put first or between
module _ (o t r : Chord) (g : Chord → Chord) (a b : List Chord) where
  three_first : (x : Chord) → Mem x (map g a ++ (o ∷ t ∷ r ∷ map g b)) → Mem x (o ∷ t ∷ r ∷ map g (a ++ b))
  three_first x m = subst (λ w. Mem x (o ∷ t ∷ r ∷ w)) (sym (map-append g a b)) (elim (mem_append x (map g a) (o ∷ t ∷ r ∷ map g b) m) [
    | inl i ↦ inr (inr (inr (mem_left x (map g a) (map g b) i)))
    | inr i ↦ go i
  ])
    where
      go : Mem x (o ∷ t ∷ r ∷ map g b) → Mem x (o ∷ t ∷ r ∷ (map g a ++ map g b))
      go (inl e) = inl e
      go (inr (inl e)) = inr (inl e)
      go (inr (inr (inl e))) = inr (inr (inl e))
      go (inr (inr (inr i))) = inr (inr (inr (mem_right x (map g a) (map g b) i)))

  three_between : (x : Chord) → Mem x (o ∷ t ∷ r ∷ map g (a ++ b)) → Mem x (map g a ++ (o ∷ t ∷ r ∷ map g b))
  three_between x m = go (subst (λ w. Mem x (o ∷ t ∷ r ∷ w)) (map-append g a b) m)
    where
      put : Mem x (o ∷ t ∷ r ∷ map g b) → Mem x (map g a ++ (o ∷ t ∷ r ∷ map g b))
      put i = mem_right x (map g a) (o ∷ t ∷ r ∷ map g b) i

      go : Mem x (o ∷ t ∷ r ∷ (map g a ++ map g b)) → Mem x (map g a ++ (o ∷ t ∷ r ∷ map g b))
      go (inl e) = put (inl e)
      go (inr (inl e)) = put (inr (inl e))
      go (inr (inr (inl e))) = put (inr (inr (inl e)))
      go (inr (inr (inr i))) = elim (mem_append x (map g a) (map g b) i) [
        | inl j ↦ mem_left x (map g a) (o ∷ t ∷ r ∷ map g b) j
        | inr j ↦ put (inr (inr (inr j)))
      ]

module _ (d : Drawing) (ok : IsEmbedded d) (f : Finger) (l : IsLegal d f) where
  abbrev out : Bool
  out = later_first d f

  abbrev r : InRange d f
  r = range_of d f l

  abbrev c : Chord
  c = chord_at d f.strand f.chord

  abbrev t : ℕ
  t = entered d f

  abbrev u : ℕ
  u = entered_beyond d f

  abbrev es : List Chord
  es = (listed d ok f r).before ++ (listed d ok f r).behind

  -- four spans more
  spans_grown : span_count (effect d f) ≡ span_count d + 4
  spans_grown =
      let s = far_side d ok f (bit out) (bit-le out) r in
      let a = offset_old (effect d f) d f.side s f.segment (far_segment d ok f (bit out) (bit-le out) r) (points_new d ok f (bit out) (bit-le out) r) r.segment (far_in d ok f (bit out) (bit-le out) r) (sides d.polygon) in
      let x : bit (ltb f.side (sides d.polygon)) ≡ 1 = ap bit (lt-ltb f.side (sides d.polygon) r.side) in
      let y : bit (ltb s (sides d.polygon)) ≡ 1 = ap bit (lt-ltb s (sides d.polygon) (ok.polygon.pairs.in_range f.side r.side)) in
      omega (arith, a, x, y)

  -- the chord borders the segment's piece
  borders_list : Borders t c es
  borders_list = subst (λ b. (b || same_piece (c ∷ es) (suc c.from) t) ≡ true) (first_pieces d ok f r c.from t)
      (subst (λ b. (same_piece (chords d) c.from t || b) ≡ true) (first_pieces d ok f r (suc c.from) t) l.borders_it)

  is_open : IsOpen t out c es
  is_open = subst (λ b. IsOpen t b c es) (order_is d ok f r) (order_open t c es borders_list)

  -- the finger as it is pushed
  effect_is_pushed : IsPushed d (effect d f) t u out c es
  effect_is_pushed =
      let w = listed d ok f r in
      let sides_in = ok.polygon.pairs.in_range f.side r.side in
      record {
        polygon = refl;
        spans = spans_grown;
        gaps = λ k lk. gap_kept d ok f (bit out) (bit-le out) r k;
        old_to = λ x m. in_first x c w.before w.behind (subst (λ cs. Mem x cs) w.old m);
        old_from = λ x m. subst (λ cs. Mem x cs) (sym w.old) (in_place x c w.before w.behind m);
        new_to = λ x m. three_first (onto t u out c) (turn t u out) (back t u out c) (carry t u) w.before w.behind x (subst (λ cs. Mem x cs) (w.new out) m);
        new_from = λ x m. subst (λ cs. Mem x cs) (sym (w.new out)) (three_between (onto t u out c) (turn t u out) (back t u out c) (carry t u) w.before w.behind x m);
        arranged = put_first c w.before w.behind (parts_arranged d ok f r);
        legal = is_open;
        entered_in = spot_in d ok f.side f.segment r.side (omega (arith, r.segment));
        beyond_in = spot_in d ok (partner d.polygon f.side) (points_on d f.side - f.segment) sides_in (omega (arith, far_in d ok f (bit out) (bit-le out) r));
        behind_in = near_in out (chord_spans d ok c (chord_listed d ok f.strand f.chord r.strand r.chord));
        apart = entered_apart d ok f 0 (omega arith) r;
        no_loop = sym (first_pieces d ok f r t u) ∙ segments_apart d ok f.side f.segment r.side r.segment;
      }
    where
      near_in : (b : Bool) → (c.from < span_count d) × (suc c.from < span_count d) × (c.to < span_count d) × (suc c.to < span_count d) → near b c < span_count d
      near_in true s = s.2
      near_in false s = s.0

  -- so it is of the drawing that comes of it
  pub finger_is_pushed : IsPushed d (pushed d f) (entered d f) (entered_beyond d f) (later_first d f) (chord_at d f.strand f.chord) ((listed d ok f (range_of d f l)).before ++ (listed d ok f (range_of d f l)).behind)
  finger_is_pushed = subst (λ e. IsPushed d e t u out c es) (sym (pushed_is d ok f l)) effect_is_pushed

-- What a table is after a finger on its drawing, in the words of a contract.
use Rattle.std.proofs.Common.{◌≡◌, ℕ, suc, ◌+◌, ◌*◌, ◌<◌, cond, eqb, ltb, List, ◌∷◌, ◌++◌, drop, length, map, take, sym, ◌∙◌, ap, ◌≢◌}
use Rattle.std.proofs.lemmas.List.{map-append}
use Rattle.obd_base.proofs.lists.Below.{bit}
use Rattle.obd_base.proofs.lists.Sums.{bit-le}
use Rattle.page_surface.specs.Polygon.{arc_count, partner}
use Rattle.page_surface.specs.Drawing.{Chord, Drawing, IsEmbedded, offset, strand_chords}
use Rattle.drawing.specs.declared.finger.Finger.{Finger}
use Rattle.drawing.specs.Fingers.{IsLegal, chord_at, entered, entered_beyond, pushed}
use Rattle.drawing.specs.Pieces.{span_count}
use Rattle.drawing.proofs.fingers.Effects.{effect, later_first, pushed_embedded, pushed_is, range_of}
use Rattle.drawing.proofs.fingers.NewChords.{chords_other, chords_own, listed}
use Rattle.drawing.proofs.fingers.NewPlaces.{far_in, far_segment, far_side, points_new}
use Rattle.drawing.proofs.tight.TwoMore.{offset_old}
use Rattle.region_table.specs.Changed.{AreChanged, KeepsNames}
use Rattle.region_table.specs.Table.{IsTableOf, Table, name_at}
use Rattle.region_table.proofs.CountedTable.{IsCounted}
use Rattle.drawing.proofs.fingers.Finger.{back, carry, turn}
use Rattle.region_table.proofs.fingers.Pushed.{IsPushed}
use Rattle.region_table.proofs.fingers.Next.{far, near}
use Rattle.drawing.proofs.fingers.Shift.{shift}
use Rattle.region_table.specs.FingerLists.{IsNamedByFinger, comes_in_front}
use Rattle.region_table.proofs.fingers.TableAfter.{changed_are, four_or_five_changed, names_changed, names_kept, table_after}
use Rattle.region_table.proofs.NamingLaws.{test_of_names}
use Rattle.region_table.proofs.SameMembers.{map_twice}
use Rattle.region_table.proofs.TablePlaces.{beside_in}
use Rattle.region_table.proofs.fingers.IsPushed.{finger_is_pushed}

-- the near end of the pushed chord: the span before it lies behind the chord as seen from the finger's segment
abbrev pub near_end : Drawing → Finger → ℕ
near_end d f = near (later_first d f) (chord_at d f.strand f.chord)

-- and its other end
abbrev pub far_end : Drawing → Finger → ℕ
far_end d f = far (later_first d f) (chord_at d f.strand f.chord)

-- what the finger writes into the table of names
abbrev pub WritesNames : Drawing → Finger → Table → Table → Type 0
WritesNames d f t u = IsNamedByFinger (span_count d) (entered d f) (entered_beyond d f) (near_end d f) (length t.regions)
    (comes_in_front (chord_at d f.strand f.chord).from (entered d f)) (name_at t) (name_at u)

module _ (d : Drawing) (ok : IsEmbedded d) (f : Finger) (l : IsLegal d f) where
  -- the finger as the names of pieces see it
  abbrev pub push : IsPushed d (pushed d f) (entered d f) (entered_beyond d f) (later_first d f) (chord_at d f.strand f.chord) ((listed d ok f (range_of d f l)).before ++ (listed d ok f (range_of d f l)).behind)
  push = finger_is_pushed d ok f l

  -- the other chords
  abbrev pub es : List Chord
  es = (listed d ok f (range_of d f l)).before ++ (listed d ok f (range_of d f l)).behind

  -- where a side begins afterwards
  pub starts_after : (k : ℕ) → offset (pushed d f) k ≡ offset d k + (2 * bit (ltb f.side k) + 2 * bit (ltb (partner d.polygon f.side) k))
  starts_after k =
      let r = range_of d f l in
      let o = bit (later_first d f) in
      let small = bit-le (later_first d f) in
      ap (λ e. offset e k) (pushed_is d ok f l)
      ∙ offset_old (effect d f) d f.side (far_side d ok f o small r) f.segment (far_segment d ok f o small r) (points_new d ok f o small r) r.segment (far_in d ok f o small r) k

  -- where the chords of a strand begin
  abbrev pub begins : Drawing → ℕ → List ℕ
  begins e i = map (λ c. c.from) (strand_chords e i)

  -- where the chords of another strand begin afterwards
  pub begins_other : (i : ℕ) → i < arc_count d.polygon → i ≢ f.strand → begins (pushed d f) i ≡ map (shift (entered d f) (entered_beyond d f)) (begins d i)
  begins_other i li ne =
      ap (λ e. begins e i) (pushed_is d ok f l)
      ∙ (ap (map (λ c. c.from)) (chords_other d ok f (later_first d f) (range_of d f l) i li ne)
      ∙ (map_twice (λ c. c.from) (carry (entered d f) (entered_beyond d f)) (strand_chords d i)
      ∙ sym (map_twice (shift (entered d f) (entered_beyond d f)) (λ c. c.from) (strand_chords d i))))

  -- the finger's strand has two chords more
  pub begins_own : begins (pushed d f) f.strand
      ≡ (let cs = strand_chords d f.strand in let move = carry (entered d f) (entered_beyond d f) in let c = chord_at d f.strand f.chord in
      map (λ c. c.from) (map move (take f.chord cs))
      ++ (shift (entered d f) (entered_beyond d f) c.from
      ∷ (turn (entered d f) (entered_beyond d f) (later_first d f)).from
      ∷ (back (entered d f) (entered_beyond d f) (later_first d f) c).from
      ∷ map (λ c. c.from) (map move (drop (suc f.chord) cs))))
  begins_own =
      ap (λ e. begins e f.strand) (pushed_is d ok f l)
      ∙ (ap (map (λ c. c.from)) (chords_own d ok f (later_first d f) (range_of d f l))
      ∙ map-append (λ (c : Chord). c.from) (map (carry (entered d f) (entered_beyond d f)) (take f.chord (strand_chords d f.strand))) _)

  module _ (t : Table) (told : IsTableOf d t) where
    -- the table tells which of the new points the strand passes first
    pub later_told : eqb (name_at t (entered d f)) (name_at t (chord_at d f.strand f.chord).from) ≡ later_first d f
    later_told = test_of_names d (name_at t) told.naming (chord_at d f.strand f.chord).from (entered d f) (beside_in d ok f.strand f.chord l.strand l.chord).0 push.entered_in

    module _ (u : Table) (grown : length u.regions ≡ length t.regions + 2) (names : WritesNames d f t u) where
      -- with its names written and all else counted anew it is the table of the new drawing
      pub after_finger : IsCounted (pushed d f) u → IsTableOf (pushed d f) u
      after_finger counted = table_after d f t u (later_first d f) (chord_at d f.strand f.chord) es push told grown names (pushed_embedded d ok f l) counted

      -- kept pieces keep their names
      pub keeps_names : KeepsNames d f t u
      keeps_names = names_kept d f t u (later_first d f) (chord_at d f.strand f.chord) es push told grown names

      -- and four or five pieces are changed or new
      pub changed : (ps : List ℕ) × AreChanged d f u ps × (length ps ≡ cond (eqb (name_at t (entered_beyond d f)) (name_at t (near_end d f))) 4 5)
      changed = (
        names_changed d f t u (later_first d f) (chord_at d f.strand f.chord) es push told grown names,
        changed_are d f t u (later_first d f) (chord_at d f.strand f.chord) es push told grown names,
        four_or_five_changed d f t u (later_first d f) (chord_at d f.strand f.chord) es push told grown names,
      )

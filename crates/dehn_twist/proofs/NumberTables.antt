-- The number of a meeting from the tables.
use Rattle.std.proofs.Common.{◌≡◌, ℕ, suc, ◌+◌, ◌-◌, ◌<◌, ◌≤◌, ◌^◌, Bool, true, false, cond, List, [], map, length, get_or, refl, sym, ◌∙◌, ap, subst, arith, zero-add}
use Rattle.std.specs.List.{count_by}
use Rattle.std.proofs.lemmas.List.{get_or_read, length-map}
use Rattle.std.proofs.lemmas.List.FromFn.{get_or-map-range_with_len, length-map-range_with_len}
use Rattle.obd_base.specs.Lists.{Mem, below}
use Rattle.obd_base.specs.declared.points.Exit.{Exit}
use Rattle.obd_base.proofs.lists.Below.{bit, count_more, count_suc}
use Rattle.page_surface.specs.Drawing.{Chord, Drawing, crosses}
use Rattle.page_surface.specs.Polygon.{sides}
use Rattle.dehn_twist.specs.Surgery.{goes_up, inner_end, meeting_count, meeting_number, meetings_upto, merged_chords, merged_curve, merged_start}
use Rattle.dehn_twist.specs.Tables.{AreMeetings, AreTaken, Pair, crossed_of, merged_mates, parts}
use Rattle.dehn_twist.specs.declared.ring.CurvePoint.{CurvePoint}
use Rattle.dehn_twist.proofs.BuildLaws.{swept_number}
use Rattle.dehn_twist.proofs.CopyTables.{lines_few, upto_read, upto_within, uptos_size}
use Rattle.dehn_twist.proofs.MeetingSums.{crossings, crossings_are, parted, strands_mates, strands_once, strands_within, upto_suc}
use Rattle.dehn_twist.proofs.MeetingTables.{counts_are, mates_size, row_is}
use Rattle.dehn_twist.proofs.Merged.{size}
use Rattle.dehn_twist.proofs.MergedCircle.{mate}
use Rattle.dehn_twist.proofs.Opens.{inner_open}

-- the tables at a chord of the curve and a strand's chord that cross: how many of the curve's chord's meetings come before
-- this one, upwards
pub record IsRead (d : Drawing) (c : List Exit) (ok : AreTaken d c) (a : ℕ) (t own : Chord) (cells : List ℕ) (x : ℕ) : Type 0 where
  pub there : x < length cells
  pub own_is : own ≡ merged_curve d c a
  pub before : get_or cells x 0 ≡ count_by (parted d ok.embedded c ok.curve a) (below (inner_end (merged_curve d c a) t))
  pub less : get_or cells x 0 < crossings d ok.embedded c ok.curve a

module _ (d : Drawing) (c : List Exit) (ok : AreTaken d c) (a : ℕ) (l : a < length c) (t : Chord) (m : Mem t (merged_chords d c)) (h : crosses (merged_curve d c a) t ≡ true) where
  -- the inner end is a strand's point that the curve's chord parts from its mate
  inner : (parted d ok.embedded c ok.curve a (inner_end (merged_curve d c a) t) ≡ true) × (inner_end (merged_curve d c a) t < merged_start d c (sides d.polygon))
  inner =
      inner_open (size d ok.embedded c ok.curve) (merged_chords d c) (mate d ok.embedded c ok.curve) (strands_once d ok.embedded c ok.curve) (strands_within d ok.embedded c ok.curve)
      (strands_mates d ok.embedded c ok.curve) (merged_curve d c a) t m h

  -- what is read
  pub is_read : (chords cs : List Chord) (crossed rs : List (List ℕ)) (uptos : List ℕ) (ring : List CurvePoint) → AreMeetings d c chords crossed uptos ring → (own : Chord) (row cells : List ℕ) (x : ℕ)
      → cs ≡ chords → rs ≡ crossed → own ≡ get_or cs a own → row ≡ get_or rs a row → cells ≡ row → x ≡ inner_end own t → IsRead d c ok a t own cells x
  is_read chords cs crossed rs uptos ring kept own row cells x chords_same rows_same own_read row_read same is =
      let count : length chords ≡ length c = ap length kept.chords_are ∙ length-map-range_with_len (merged_curve d c) 0 (length c) in
      let rows : length crossed ≡ length chords = ap length kept.crossed_are ∙ length-map chords (crossed_of (merged_mates d c)) in
      let none : Chord = record { from = 0; to = 0 } in
      let o : own ≡ merged_curve d c a
      = get_or_read cs a own (omega (arith, l, count, ap length chords_same)) own_read none
      ∙ (ap (λ xs. get_or xs a none) (chords_same ∙ kept.chords_are) ∙ get_or-map-range_with_len (merged_curve d c) 0 (length c) a a none l (zero-add a)) in
      let r : cells ≡ crossed_of (merged_mates d c) (merged_curve d c a)
      = same ∙ (get_or_read rs a row (omega (arith, l, count, rows, ap length rows_same)) row_read []
      ∙ (ap (λ xs. get_or xs a []) rows_same ∙ row_is d c ok chords crossed (merged_mates d c) (length (merged_mates d c)) refl refl kept.chords_are kept.crossed_are a l)) in
      let f = λ (z : ℕ). count_by (parts (merged_mates d c) (merged_curve d c a)) (below z) in
      let long : length cells ≡ suc (length (merged_mates d c)) = ap length r ∙ length-map-range_with_len f 0 (suc (length (merged_mates d c))) in
      let e : x ≡ inner_end (merged_curve d c a) t = is ∙ ap (λ k. inner_end k t) o in
      let within = inner.1 in
      let counted : get_or cells x 0 ≡ count_by (parted d ok.embedded c ok.curve a) (below (inner_end (merged_curve d c a) t))
      = ap (λ xs. get_or xs x 0) r
      ∙ (get_or-map-range_with_len f 0 (suc (length (merged_mates d c))) x (inner_end (merged_curve d c a) t) 0 (omega (arith, e, within, mates_size d c ok)) (zero-add x ∙ e)
      ∙ counts_are d c ok a (inner_end (merged_curve d c a) t) (omega (arith, within))) in
      record {
        there = omega (arith, e, within, mates_size d c ok, long);
        own_is = o;
        before = counted;
        less = omega (arith, counted, before_less);
      }
    where
      p : ℕ → Bool
      p = parted d ok.embedded c ok.curve a

      before_less : count_by p (below (inner_end (merged_curve d c a) t)) < crossings d ok.embedded c ok.curve a
      before_less =
          let w : bit (p (inner_end (merged_curve d c a) t)) ≡ 1 = ap bit inner.0 in
          let k = inner.1 in
          omega (arith, count_suc p (inner_end (merged_curve d c a) t), w, count_more p (suc (inner_end (merged_curve d c a) t)) (merged_start d c (sides d.polygon)) k, crossings_are d ok.embedded c ok.curve a)

  module _ (own : Chord) (cells : List ℕ) (x : ℕ) (read : IsRead d c ok a t own cells x) (us : List ℕ) (us_are : us ≡ map (meetings_upto d c) (below (suc (length c)))) where
    -- the meetings before a chord, and before the next one
    pub two_uptos : (a < length us) × (a + 1 < length us) × (get_or us a 0 ≡ meetings_upto d c a) × (get_or us (a + 1) 0 ≡ meetings_upto d c a + crossings d ok.embedded c ok.curve a)
        × (get_or us (a + 1) 0 ≤ meeting_count d c) × (meeting_count d c ≤ 2 ^ 20)
    two_uptos =
        let long = uptos_size d c ok us us_are in
        let one = upto_read d c ok us us_are a a refl (omega (arith, l)) in
        let two = upto_read d c ok us us_are (a + 1) (suc a) (omega arith) (omega (arith, l)) in
        (omega (arith, long, l), omega (arith, long, l), one, omega (arith, two, upto_suc d ok.embedded c ok.curve a), omega (arith, two, upto_within d c ok (suc a) (omega (arith, l))), lines_few d c ok)

    -- the meetings of the chord before this one, upwards
    abbrev passed : ℕ
    passed = count_by (parted d ok.embedded c ok.curve a) (below (inner_end (merged_curve d c a) t))

    -- the number, by which way the chord goes
    numbered : (b : Bool) → goes_up own ≡ b → meeting_number d c a t ≡ meetings_upto d c a + cond b passed (crossings d ok.embedded c ok.curve a - 1 - passed)
    numbered b e =
        swept_number d ok.embedded c ok.curve a t m h
        ∙ ap (λ (v : Bool). meetings_upto d c a + cond v passed (crossings d ok.embedded c ok.curve a - 1 - passed)) (ap goes_up (sym read.own_is) ∙ e)

    -- the number where the chord goes up
    pub number_up : goes_up own ≡ true → (get_or us a 0 + get_or cells x 0 ≡ meeting_number d c a t) × (get_or us a 0 + get_or cells x 0 < meeting_count d c) × (get_or us a 0 + get_or cells x 0 < 2 ^ 32)
    number_up up =
        let n : meeting_number d c a t ≡ meetings_upto d c a + passed = numbered true up in
        let u = two_uptos in
        (omega (arith, n, u.2, read.before), omega (arith, u.2, u.3, u.4, read.less), omega (arith, u.2, u.3, u.4, u.5, read.less))

    -- and where it goes down
    pub number_down : goes_up own ≡ false → (get_or us (a + 1) 0 - 1 - get_or cells x 0 ≡ meeting_number d c a t) × (get_or us (a + 1) 0 - 1 - get_or cells x 0 < meeting_count d c)
        × (1 ≤ get_or us (a + 1) 0) × (get_or cells x 0 ≤ get_or us (a + 1) 0 - 1)
    number_down down =
        let n : meeting_number d c a t ≡ meetings_upto d c a + (crossings d ok.embedded c ok.curve a - 1 - passed) = numbered false down in
        let u = two_uptos in
        (omega (arith, n, u.3, read.before, read.less), omega (arith, u.3, u.4, read.less), omega (arith, u.3, read.less), omega (arith, u.3, read.less))

-- the tables are those of the drawing and the curve that contracts see
pub seen_meetings : (made seen : Pair) → made ≡ seen → (chords : List Chord) (crossed : List (List ℕ)) (uptos : List ℕ) (ring : List CurvePoint)
    → AreMeetings made.drawing made.curve chords crossed uptos ring → AreMeetings seen.drawing seen.curve chords crossed uptos ring
seen_meetings made seen same chords crossed uptos ring kept = subst (λ (p : Pair). AreMeetings p.drawing p.curve chords crossed uptos ring) same kept

-- so are the limits
pub seen_taken : (made seen : Pair) → made ≡ seen → AreTaken made.drawing made.curve → AreTaken seen.drawing seen.curve
seen_taken made seen same taken = subst (λ (p : Pair). AreTaken p.drawing p.curve) same taken

module _ (d : Drawing) (c : List Exit) (chords : List Chord) (crossed : List (List ℕ)) (uptos : List ℕ) (ring : List CurvePoint) (kept : AreMeetings d c chords crossed uptos ring) where
  -- a chord of the curve each
  chord_count : length chords ≡ length c
  chord_count = ap length kept.chords_are ∙ length-map-range_with_len (merged_curve d c) 0 (length c)

  -- is listed
  pub chords_there : (cs : List Chord) → cs ≡ chords → (a : ℕ) → a < length c → a < length cs
  chords_there cs is a l = omega (arith, l, chord_count, ap length is)

  -- with a row of counts
  pub rows_there : (rs : List (List ℕ)) → rs ≡ crossed → (a : ℕ) → a < length c → a < length rs
  rows_there rs is a l = omega (arith, l, chord_count, ap length is, ap length kept.crossed_are ∙ length-map chords (crossed_of (merged_mates d c)))

-- so are the exits of the curve
pub seen_curve : (made seen : Pair) → made ≡ seen → (exits : List Exit) → exits ≡ made.curve → exits ≡ seen.curve
seen_curve made seen same exits is = is ∙ ap (λ (p : Pair). p.curve) same

-- how many meetings there are, as it is read
pub all_lines : (d : Drawing) (c : List Exit) → AreTaken d c → (us : List ℕ) → us ≡ map (meetings_upto d c) (below (suc (length c))) → (exits : List Exit) → exits ≡ c
    → (length exits < length us) × (get_or us (length exits) 0 ≡ meeting_count d c) × (get_or us (length exits) 0 ≤ 2 ^ 20)
all_lines d c ok us us_are exits are =
    let e = ap length are in
    let read = upto_read d c ok us us_are (length exits) (length c) e (let z : length c ≤ length c = omega arith in z) in
    (omega (arith, e, uptos_size d c ok us us_are), read, omega (arith, read, lines_few d c ok))

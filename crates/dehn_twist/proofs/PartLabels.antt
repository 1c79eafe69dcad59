-- The label at each line at a point of the curve: a part of the strand's chord that the line's meeting has there, or the line.
use Rattle.std.proofs.Common.{◌≡◌, ◌≢◌, ℕ, suc, ◌-◌, ◌<◌, Bool, true, false, not, ◌&&◌, List, length, refl, sym, ◌∙◌, ap, ◌⊎◌, inl, inr, arith}
use Rattle.std.specs.List.{filter, range_with_len}
use Rattle.std.proofs.lemmas.Bool.{and_parts, cases_lt, lt-ltb, ltb-true, not-true, true≢false}
use Rattle.std.proofs.lemmas.List.Sums.{length-filter}
use Rattle.obd_base.specs.Lists.{Mem, below}
use Rattle.obd_base.specs.declared.points.Exit.{Exit}
use Rattle.obd_base.proofs.lists.Below.{below_mem, mem_below, mem_range, range_mem}
use Rattle.obd_base.proofs.lists.Members.{filter_mem, mem_filter}
use Rattle.page_surface.specs.Drawing.{Chord, Drawing, IsEmbedded, beyond}
use Rattle.page_surface.specs.Polygon.{Pairs}
use Rattle.curve_paths.specs.Curves.{IsCurve}
use Rattle.dehn_twist.specs.Surgery.{chord_end, chord_start, goes_up, meeting_count, meetings_upto, merged_chords, merged_curve}
use Rattle.dehn_twist.proofs.Blocks.{filter_rises, outside_above, outside_below, outside_parts, range_rises}
use Rattle.dehn_twist.proofs.Circle.{Part, open_points, outside, part_name}
use Rattle.dehn_twist.proofs.CurveRing.{end_in, start_in}
use Rattle.dehn_twist.proofs.LineOrder.{rises_same}
use Rattle.dehn_twist.proofs.MeetingSums.{crossings, crossings_are, parted}
use Rattle.dehn_twist.proofs.Merged.{curve_within, size}
use Rattle.dehn_twist.proofs.MergedCircle.{at_curve, beads, is_curve, kind_strand, mate, mate_chord_end, mate_chord_start, strand_kind, two}
use Rattle.dehn_twist.proofs.PartNames.{part_letters}
use Rattle.dehn_twist.proofs.TwoLists.{is_end}
use Rattle.curve_paths.proofs.CurvePoints.{In}
use Rattle.curve_paths.proofs.Members.{Rises}
use Rattle.dehn_twist.proofs.BetweenEnds.{least, most, beyond_in, beyond_out, beyond_true, beyond_false}

module _ (d : Drawing) (dok : IsEmbedded d) (c : List Exit) (curve : IsCurve d.polygon c) where
  abbrev A : ℕ → Chord
  A a = merged_curve d c a

  abbrev mate' : ℕ → ℕ
  mate' = mate d dok c curve

  abbrev beads' : List ℕ
  beads' = beads d dok c curve

  abbrev is_curve' : ℕ → Bool
  is_curve' = is_curve d dok c curve

  abbrev size' : ℕ
  size' = size d dok c curve

  abbrev r : ℕ → ℕ
  r a = crossings d dok c curve a

  abbrev upto : ℕ → ℕ
  upto a = meetings_upto d c a

  abbrev total : ℕ
  total = meeting_count d c

  -- the lesser end of a chord of the curve
  abbrev pub lo : ℕ → ℕ
  lo a = least (merged_curve d c a)

  -- and the greater one
  abbrev pub hi : ℕ → ℕ
  hi a = most (merged_curve d c a)

  -- the two ends of a chord of the curve
  pub record Ends (a : ℕ) : Type 0 where
    pub order : lo a < hi a
    pub low_curve : is_curve d dok c curve (lo a) ≡ true
    pub high_curve : is_curve d dok c curve (hi a) ≡ true
    pub low_mate : mate d dok c curve (lo a) ≡ hi a
    pub high_mate : mate d dok c curve (hi a) ≡ lo a
    pub within : hi a < size d dok c curve

  -- each chord has two ends
  pub ends : (a : ℕ) → a < length c → Ends a
  ends a l = go (goes_up (A a)) refl
    where
      ok : Pairs d.polygon
      ok = dok.polygon.pairs

      i : In d.polygon ok c curve (chord_start d.polygon c a)
      i = start_in d.polygon ok c curve a l

      j : In d.polygon ok c curve (chord_end c a)
      j = end_in d.polygon ok c curve a l

      apart : (A a).from ≢ (A a).to
      apart e = (two d dok c curve).moves (A a).from (curve_within d dok c curve (chord_start d.polygon c a) i) (at_curve d dok c curve (chord_start d.polygon c a) i) (mate_chord_start d dok c curve a l ∙ sym e)

      go : (b : Bool) → goes_up (A a) ≡ b → Ends a
      go true e = record {
        order = rw e (ltb-true (A a).from (A a).to e);
        low_curve = rw e (at_curve d dok c curve (chord_start d.polygon c a) i);
        high_curve = rw e (at_curve d dok c curve (chord_end c a) j);
        low_mate = rw e (mate_chord_start d dok c curve a l);
        high_mate = rw e (mate_chord_end d dok c curve a l);
        within = rw e (curve_within d dok c curve (chord_end c a) j);
      }
      go false e = record {
        order = rw e (elim (cases_lt (A a).from (A a).to) [ inl h ↦ absurd (true≢false (sym (lt-ltb (A a).from (A a).to h) ∙ e)) | inr h ↦ (let n = apart in omega (arith, h, λ (q : (A a).to ≡ (A a).from). n (sym q))) ]);
        low_curve = rw e (at_curve d dok c curve (chord_end c a) j);
        high_curve = rw e (at_curve d dok c curve (chord_start d.polygon c a) i);
        low_mate = rw e (mate_chord_end d dok c curve a l);
        high_mate = rw e (mate_chord_start d dok c curve a l);
        within = rw e (curve_within d dok c curve (chord_start d.polygon c a) i);
      }

  -- the strands' points between them whose mates aren't
  abbrev pub opened : ℕ → List ℕ
  opened a = filter (parted d dok c curve a) (below (size d dok c curve))

  -- there are as many as chords that cross
  pub opened_length : (a : ℕ) → length (opened a) ≡ crossings d dok c curve a
  opened_length a = length-filter (parted d dok c curve a) (below size') ∙ sym (crossings_are d dok c curve a)

  opened_rises : (a : ℕ) → Rises (λ z. z) (opened a)
  opened_rises a = filter_rises (parted d dok c curve a) (below size') (range_rises 0 size')

  -- a point that a chord parts from its mate
  pub record Parts (a z : ℕ) : Type 0 where
    pub after : lo a < z
    pub before : z < hi a
    pub no_curve : is_curve d dok c curve z ≡ false
    pub away : (mate d dok c curve z < lo a) ⊎ (hi a < mate d dok c curve z)

  not_at_end : (a : ℕ) → a < length c → (z : ℕ) → is_curve' z ≡ false → (z ≢ lo a) × (z ≢ hi a)
  not_at_end a l z e = (
    λ q. true≢false (sym (ends a l).low_curve ∙ (ap is_curve' (sym q) ∙ e)),
    λ q. true≢false (sym (ends a l).high_curve ∙ (ap is_curve' (sym q) ∙ e)),
  )

  -- each of them is one
  pub from_opened : (a : ℕ) → a < length c → (z : ℕ) → Mem z (opened a) → Parts a z
  from_opened a l z m =
      let k = mem_filter (parted d dok c curve a) z (below size') m in
      let s = and_parts (is_end (merged_chords d c) z) (beyond (A a) z && not (beyond (A a) (mate' z))) k.1 in
      let t = and_parts (beyond (A a) z) (not (beyond (A a) (mate' z))) s.1 in
      let f = kind_strand d dok c curve z s.0 in
      let o = (ends a l).order in
      let zs = mem_below size' z k.0 in
      let g = (two d dok c curve).kind z zs ∙ f in
      let n = not_at_end a l z f in
      let n' = not_at_end a l (mate' z) g in
      let b = beyond_true (A a) z (omega (arith, o)) t.0 in
      record {
        after = b.0;
        before = omega (arith, b.1, n.1);
        no_curve = f;
        away = elim (beyond_false (A a) (mate' z) (not-true _ t.1)) [ inl h ↦ inl (omega (arith, h, n'.0)) | inr h ↦ inr h ];
      }

  -- and each such point is there
  pub to_opened : (a : ℕ) → a < length c → (z : ℕ) → Parts a z → Mem z (opened a)
  to_opened a l z h =
      let o = (ends a l).order in
      let w = (ends a l).within in
      let n : mate' z ≢ z = λ q. elim h.away [ inl k ↦ (let x = h.after in omega (arith, q, k, x)) | inr k ↦ (let x = h.before in omega (arith, q, k, x)) ] in
      let b = h.before in
      let f = h.after in
      let s = strand_kind d dok c curve z h.no_curve n in
      let t = beyond_in (A a) z f (omega (arith, b)) in
      let u : beyond (A a) (mate' z) ≡ false = beyond_out (A a) (mate' z) (omega (arith, o)) (elim h.away [ inl k ↦ inl (omega (arith, k)) | inr k ↦ inr k ]) in
      filter_mem (parted d dok c curve a) z (below size') (below_mem size' z (omega (arith, b, w))) (rw (s, t, u) refl)

  module _ (lines : ℕ → List Part) where
    abbrev open' : ℕ → ℕ → List ℕ
    open' = open_points part_letters (is_curve d dok c curve) (mate d dok c curve) (part_name (mate d dok c curve) (beads d dok c curve)) lines

    open_rises : (l h : ℕ) → Rises (λ z. z) (open' l h)
    open_rises l h = filter_rises (λ x. not (is_curve' x) && outside l h (mate' x)) (range_with_len l (h - l)) (range_rises l (h - l))

    open_test : (z l h : ℕ) → is_curve' z ≡ false → outside l h (mate' z) ≡ true → (not (is_curve' z) && outside l h (mate' z)) ≡ true
    open_test z l h e f = rw (e, f) refl

    -- seen from inside the chord
    pub opened_inner : (a : ℕ) → a < length c → open' (suc (lo a)) (hi a) ≡ opened a
    opened_inner a l = rises_same (open' (suc (lo a)) (hi a)) (opened a) (open_rises (suc (lo a)) (hi a)) (opened_rises a)
        (λ z m.
        let k = mem_filter (λ x. not (is_curve' x) && outside (suc (lo a)) (hi a) (mate' x)) z (range_with_len (suc (lo a)) (hi a - suc (lo a))) m in
        let b = mem_range (suc (lo a)) (hi a - suc (lo a)) z k.0 in
        let t = and_parts (not (is_curve' z)) (outside (suc (lo a)) (hi a) (mate' z)) k.1 in
        let f = not-true _ t.0 in
        let w = (ends a l).within in
        let g = (two d dok c curve).kind z (omega (arith, b, w)) ∙ f in
        let n = not_at_end a l (mate' z) g in
        to_opened a l z (record {
          after = omega (arith, b);
          before = omega (arith, b);
          no_curve = f;
          away = elim (outside_parts (suc (lo a)) (hi a) (mate' z) t.1) [ inl h ↦ inl (omega (arith, h, n.0)) | inr h ↦ inr (omega (arith, h, n.1)) ];
        }))
        (λ z m.
        let h = from_opened a l z m in
        let x = h.after in
        let y = h.before in
        filter_mem (λ x. not (is_curve' x) && outside (suc (lo a)) (hi a) (mate' x)) z (range_with_len (suc (lo a)) (hi a - suc (lo a))) (range_mem (suc (lo a)) (hi a - suc (lo a)) z x (omega (arith, x, y)))
        (open_test z (suc (lo a)) (hi a) h.no_curve
        (elim h.away [ inl k ↦ outside_below (suc (lo a)) (hi a) (mate' z) (omega (arith, k)) | inr k ↦ outside_above (suc (lo a)) (hi a) (mate' z) (omega (arith, k)) ])))

    -- and from outside
    pub opened_outer : (a : ℕ) → a < length c → open' (lo a) (suc (hi a)) ≡ opened a
    opened_outer a l = rises_same (open' (lo a) (suc (hi a))) (opened a) (open_rises (lo a) (suc (hi a))) (opened_rises a)
        (λ z m.
        let k = mem_filter (λ x. not (is_curve' x) && outside (lo a) (suc (hi a)) (mate' x)) z (range_with_len (lo a) (suc (hi a) - lo a)) m in
        let b = mem_range (lo a) (suc (hi a) - lo a) z k.0 in
        let t = and_parts (not (is_curve' z)) (outside (lo a) (suc (hi a)) (mate' z)) k.1 in
        let f = not-true _ t.0 in
        let n = not_at_end a l z f in
        let o = (ends a l).order in
        to_opened a l z (record {
          after = omega (arith, b, n.0);
          before = omega (arith, b, n.1, o);
          no_curve = f;
          away = elim (outside_parts (lo a) (suc (hi a)) (mate' z) t.1) [ inl h ↦ inl h | inr h ↦ inr h ];
        }))
        (λ z m.
        let h = from_opened a l z m in
        let x = h.after in
        let y = h.before in
        filter_mem (λ x. not (is_curve' x) && outside (lo a) (suc (hi a)) (mate' x)) z (range_with_len (lo a) (suc (hi a) - lo a)) (range_mem (lo a) (suc (hi a) - lo a) z (omega (arith, x)) (omega (arith, x, y)))
        (open_test z (lo a) (suc (hi a)) h.no_curve
        (elim h.away [ inl k ↦ outside_below (lo a) (suc (hi a)) (mate' z) k | inr k ↦ outside_above (lo a) (suc (hi a)) (mate' z) k ])))

-- The parts of a strand's chord, and which of them the line of a meeting has at an end of the curve's chord.
use Rattle.std.proofs.Common.{◌≡◌, ◌≢◌, ℕ, suc, ◌-◌, ◌<◌, ◌≤◌, Bool, true, false, cond, List, length, get_or, refl, sym, ◌∙◌, ap, ap₂, ◌⊎◌, inl, inr, arith}
use Rattle.std.specs.List.{count_by}
use Rattle.std.proofs.lemmas.Bool.{cases_lt, le-ltb, lt-ltb, ltb-true, true≢false}
use Rattle.obd_base.specs.Lists.{Mem, below}
use Rattle.obd_base.specs.declared.points.Exit.{Exit}
use Rattle.obd_base.proofs.lists.Below.{below_mem, count_less, passing_at}
use Rattle.obd_base.proofs.lists.Members.{filter_mem}
use Rattle.page_surface.specs.Drawing.{Chord, Drawing, IsEmbedded, beyond, crosses, differ}
use Rattle.page_surface.specs.Polygon.{Pairs}
use Rattle.curve_paths.specs.Curves.{IsCurve}
use Rattle.dehn_twist.specs.Surgery.{goes_up, inner_end, merged_chords, merged_curve}
use Rattle.dehn_twist.proofs.Circle.{Part, met_between}
use Rattle.dehn_twist.proofs.MeetingSums.{crossings, crossings_are, parted, place_met, place_met_is, strands_mates, strands_once, strands_within}
use Rattle.dehn_twist.proofs.Merged.{size}
use Rattle.dehn_twist.proofs.MergedCircle.{beads, beads_curve, is_curve, mate, mate_from, mate_to, two}
use Rattle.dehn_twist.proofs.Opens.{inner_open}
use Rattle.dehn_twist.proofs.PartLabels.{Parts, ends, from_opened, hi, lo, opened}
use Rattle.dehn_twist.proofs.BetweenEnds.{least, most}
use Rattle.dehn_twist.proofs.PartNames.{greater_down, greater_up, lesser_down, lesser_up}
use Rattle.dehn_twist.proofs.TwoLists.{ends_twice}
use Rattle.drawing.proofs.Placed.{ends_of}
use Rattle.dehn_twist.proofs.LineLabels.{crossing, part, place_at}
use Rattle.obd_base.proofs.lists.Sums.{member_adds}

module _ (d : Drawing) (dok : IsEmbedded d) (c : List Exit) (curve : IsCurve d.polygon c) where
  abbrev ok : Pairs d.polygon
  ok = dok.polygon.pairs

  abbrev A : ℕ → Chord
  A a = merged_curve d c a

  abbrev mate' : ℕ → ℕ
  mate' = mate d dok c curve

  abbrev beads' : List ℕ
  beads' = beads d dok c curve

  abbrev size' : ℕ
  size' = size d dok c curve

  -- the part of a strand's chord at a place
  abbrev pub part_of : Chord → ℕ → Part
  part_of t y = record { line = 0; chord = least t; number = met_between (mate d dok c curve) (beads d dok c curve) (least t) (most t) y }

  module _ (t : Chord) (m : Mem t (merged_chords d c)) where
    -- its lesser end is below its greater one
    pub ends_order : least t < most t
    ends_order = go (goes_up t) refl
      where
        apart : t.from ≢ t.to
        apart e =
            let o = strands_once d dok c curve t.from in
            let l = member_adds (λ k. ends_of k t.from) t (merged_chords d c) m in
            let b = ends_twice t t.from (inl (refl, sym e)) in
            omega (arith, o, l, b)

        go : (b : Bool) → goes_up t ≡ b → cond b t.from t.to < cond b t.to t.from
        go true e = ltb-true t.from t.to e
        go false e = elim (cases_lt t.from t.to) [ inl h ↦ absurd (true≢false (sym (lt-ltb t.from t.to h) ∙ e)) | inr h ↦ omega (arith, h, apart) ]

    least_mate : mate' (least t) ≡ most t
    least_mate = go (goes_up t)
      where
        go : (b : Bool) → mate' (cond b t.from t.to) ≡ cond b t.to t.from
        go true = mate_from d dok c curve t m
        go false = mate_to d dok c curve t m

    most_mate : mate' (most t) ≡ least t
    most_mate = go (goes_up t)
      where
        go : (b : Bool) → mate' (cond b t.to t.from) ≡ cond b t.from t.to
        go true = mate_to d dok c curve t m
        go false = mate_from d dok c curve t m

    -- its parts are named the same from both ends
    pub part_least : (y : ℕ) → part d dok c curve (least t) y ≡ part_of t y
    part_least y =
        let o = ends_order in
        let l : least t < mate' (least t) = omega (arith, o, least_mate) in
        let e = lesser_up size' (is_curve d dok c curve) mate' (two d dok c curve) beads' (beads_curve d dok c curve) (least t) l in
        let f = greater_up size' (is_curve d dok c curve) mate' (two d dok c curve) beads' (beads_curve d dok c curve) (least t) l ∙ least_mate in
        ap₂ (λ u v. named u u v) e f
      where
        named : ℕ → ℕ → ℕ → Part
        named w u v = record { line = 0; chord = w; number = met_between mate' beads' u v y }

    -- from the greater end too
    pub part_most : (y : ℕ) → part d dok c curve (most t) y ≡ part_of t y
    part_most y =
        let o = ends_order in
        let l : mate' (most t) < most t = omega (arith, o, most_mate) in
        let e = lesser_down size' (is_curve d dok c curve) mate' (two d dok c curve) beads' (beads_curve d dok c curve) (most t) l ∙ most_mate in
        let f = greater_down size' (is_curve d dok c curve) mate' (two d dok c curve) beads' (beads_curve d dok c curve) (most t) l in
        ap₂ (λ u v. named u u v) e f
      where
        named : ℕ → ℕ → ℕ → Part
        named w u v = record { line = 0; chord = w; number = met_between mate' beads' u v y }

    module _ (a : ℕ) (l : a < length c) (h : crosses (merged_curve d c a) t ≡ true) where
      abbrev x : ℕ
      x = inner_end (merged_curve d c a) t

      inner : (parted d dok c curve a x ≡ true) × (x < size')
      inner = inner_open size' (merged_chords d c) mate' (strands_once d dok c curve) (strands_within d dok c curve) (strands_mates d dok c curve) (merged_curve d c a) t m h

      -- the strand's point that the meeting's line has at chord a is the inner end
      pub crossing_is : crossing d dok c curve a (place_met d dok c curve a t) ≡ inner_end (merged_curve d c a) t
      crossing_is =
          let k = inner in
          let f = count_less (parted d dok c curve a) x size' k.0 k.1 in
          let n = crossings_are d dok c curve a in
          let at = passing_at (parted d dok c curve a) size' x 0 k.1 k.0 in
          ap (λ i. crossing d dok c curve a i) (place_met_is d dok c curve a t m h)
          ∙ (ap (λ i. get_or (opened d dok c curve a) i 0) (index (goes_up (A a)) (omega (arith, n, f))) ∙ at)
        where
          index : (b : Bool) → count_by (parted d dok c curve a) (below x) < crossings d dok c curve a
              → cond b (cond b (count_by (parted d dok c curve a) (below x)) (crossings d dok c curve a - 1 - count_by (parted d dok c curve a) (below x)))
              (crossings d dok c curve a - 1 - cond b (count_by (parted d dok c curve a) (below x)) (crossings d dok c curve a - 1 - count_by (parted d dok c curve a) (below x)))
              ≡ count_by (parted d dok c curve a) (below x)
          index true w = refl
          index false w = omega (arith, w)

      is_parted : Parts d dok c curve a x
      is_parted = let k = inner in from_opened d dok c curve a l x (filter_mem (parted d dok c curve a) x (below size') (below_mem size' x k.1) k.0)

      which_inner : (x ≡ least t) ⊎ (x ≡ most t)
      which_inner = go (goes_up t) (beyond (A a) t.from)
        where
          go : (b e : Bool) → (cond e t.from t.to ≡ cond b t.from t.to) ⊎ (cond e t.from t.to ≡ cond b t.to t.from)
          go true true = inl refl
          go true false = inr refl
          go false true = inr refl
          go false false = inl refl

      -- the part at the chord's end that lies between the ends of the strand's chord
      pub part_here : (up b : Bool) → least t < cond up (hi d dok c curve a) (lo d dok c curve a) → cond up (hi d dok c curve a) (lo d dok c curve a) < most t
          → beyond t (cond up (lo d dok c curve a) (hi d dok c curve a)) ≡ false
          → part d dok c curve (inner_end (merged_curve d c a) t) (place_at d dok c curve a b (inner_end (merged_curve d c a) t))
          ≡ part_of t (cond (differ b up) (suc (cond up (hi d dok c curve a) (lo d dok c curve a))) (cond up (hi d dok c curve a) (lo d dok c curve a)))
      part_here false b u v w =
          let p = is_parted in
          let p1 = p.after in
          let o = (ends d dok c curve a l).order in
          let e : x ≡ most t = elim which_inner [ inl q ↦ absurd (omega (arith, q, p1, u)) | inr q ↦ q ] in
          ap (λ z. part d dok c curve z (place_at d dok c curve a b z)) e
          ∙ (ap (part d dok c curve (most t)) (place b (ap mate' refl ∙ most_mate)) ∙ part_most (cond (differ b false) (suc (lo d dok c curve a)) (lo d dok c curve a)))
        where
          place : (b : Bool) → mate' (most t) ≡ least t → place_at d dok c curve a b (most t) ≡ cond (differ b false) (suc (lo d dok c curve a)) (lo d dok c curve a)
          place true q = let g : mate' (most t) < suc (lo d dok c curve a) = omega (arith, q, u) in rw (lt-ltb (mate' (most t)) (suc (lo d dok c curve a)) g) refl
          place false q = let g : mate' (most t) < lo d dok c curve a = omega (arith, q, u) in rw (lt-ltb (mate' (most t)) (lo d dok c curve a) g) refl
      part_here true b u v w =
          let p = is_parted in
          let p2 = p.before in
          let o = (ends d dok c curve a l).order in
          let e : x ≡ least t = elim which_inner [ inl q ↦ q | inr q ↦ absurd (omega (arith, q, p2, v)) ] in
          ap (λ z. part d dok c curve z (place_at d dok c curve a b z)) e
          ∙ (ap (part d dok c curve (least t)) (place b least_mate o) ∙ part_least (cond (differ b true) (suc (hi d dok c curve a)) (hi d dok c curve a)))
        where
          place : (b : Bool) → mate' (least t) ≡ most t → lo d dok c curve a < hi d dok c curve a → place_at d dok c curve a b (least t) ≡ cond (differ b true) (suc (hi d dok c curve a)) (hi d dok c curve a)
          place true q o = let g : suc (lo d dok c curve a) ≤ mate' (least t) = omega (arith, q, v, o) in rw (le-ltb (mate' (least t)) (suc (lo d dok c curve a)) g) refl
          place false q o = let g : lo d dok c curve a ≤ mate' (least t) = omega (arith, q, v, o) in rw (le-ltb (mate' (least t)) (lo d dok c curve a) g) refl

-- The merged circle of a drawing and a curve has points of two kinds; the mates of its points.
use Rattle.std.proofs.Common.{◌≡◌, ◌≢◌, ℕ, ◌+◌, ◌<◌, ◌≤◌, Bool, true, false, not, ◌&&◌, List, ◌++◌, map, length, sym, ◌∙◌, ap, subst, inl, inr, arith}
use Rattle.std.proofs.lemmas.Bool.{cases_eq, ltb-true, true≢false}
use Rattle.std.proofs.lemmas.List.Sums.{sum_by-append}
use Rattle.obd_base.specs.Lists.{Mem, below}
use Rattle.obd_base.specs.declared.points.Exit.{Exit}
use Rattle.obd_base.proofs.lists.Below.{below_mem}
use Rattle.obd_base.proofs.lists.Members.{mem_left, mem_map, mem_right}
use Rattle.page_surface.specs.Drawing.{Chord, Drawing, IsEmbedded, beyond}
use Rattle.curve_paths.specs.Curves.{IsCurve}
use Rattle.drawing.specs.Round.{other_end}
use Rattle.dehn_twist.specs.Surgery.{chord_end, chord_start, curve_mate, curve_number, curve_ring, meets_at, merged_chords, merged_curve, strand_number}
use Rattle.dehn_twist.proofs.Circle.{TwoKinds, meets}
use Rattle.dehn_twist.proofs.CurveRing.{EndOf, is_first, is_last, mate_end, mate_start, ring_in, which_end}
use Rattle.dehn_twist.proofs.Merged.{Stands, curve_end_of, curve_uncrossed, ends_within, kinds_apart, one_end_each, size, strand_end_of, strands_uncrossed}
use Rattle.dehn_twist.proofs.TwoLists.{end_is, from_counts, is_end, no_end_is, to_counts, two_kinds}
use Rattle.curve_paths.proofs.CurvePoints.{In}
use Rattle.drawing.proofs.Mates.{other_from, other_stays, other_to}
use Rattle.curve_paths.proofs.Members.{mem_to_map}
use Rattle.drawing.proofs.Placed.{ends_at, ends_of}

module _ (d : Drawing) (dok : IsEmbedded d) (c : List Exit) (curve : IsCurve d.polygon c) where
  abbrev ks : List Chord
  ks = map (merged_curve d c) (below (length c))

  abbrev ss : List Chord
  ss = merged_chords d c

  -- a number is that of a curve's point
  abbrev pub is_curve : ℕ → Bool
  is_curve x = is_end (map (merged_curve d c) (below (length c))) x

  -- the other end of the chord at a number
  abbrev pub mate : ℕ → ℕ
  mate x = other_end (map (merged_curve d c) (below (length c)) ++ merged_chords d c) x

  once : (x : ℕ) → ends_at (ks ++ ss) x ≤ 1
  once x = one_end_each d dok c curve x

  -- points of two kinds
  pub two : TwoKinds (size d dok c curve) is_curve mate
  two = two_kinds (size d dok c curve) ks ss once (ends_within d dok c curve) (curve_uncrossed d dok c curve) (strands_uncrossed d dok c curve)

  -- the numbers of the curve's points
  abbrev pub beads : List ℕ
  beads = map (curve_number d c) (curve_ring d.polygon c)

  -- a chord of the curve
  pub chord_in : (a : ℕ) → a < length c → Mem (merged_curve d c a) (map (merged_curve d c) (below (length c)))
  chord_in a l = mem_to_map (merged_curve d c) a (below (length c)) (below_mem (length c) a l)

  -- the mate of the end of a chord of the curve
  pub mate_chord_end : (a : ℕ) → a < length c → mate (curve_number d c (chord_end c a)) ≡ curve_number d c (chord_start d.polygon c a)
  mate_chord_end a l = other_to (ks ++ ss) (merged_curve d c a) once (mem_left (merged_curve d c a) ks ss (chord_in a l))

  -- and of its start
  pub mate_chord_start : (a : ℕ) → a < length c → mate (curve_number d c (chord_start d.polygon c a)) ≡ curve_number d c (chord_end c a)
  mate_chord_start a l = other_from (ks ++ ss) (merged_curve d c a) once (mem_left (merged_curve d c a) ks ss (chord_in a l))

  -- a curve's point is one
  pub at_curve : (q : Exit) → In d.polygon dok.polygon.pairs c curve q → is_curve (curve_number d c q) ≡ true
  at_curve q h = go (which_end d.polygon dok.polygon.pairs c curve q h)
    where
      go : EndOf d.polygon dok.polygon.pairs c curve q → is_curve (curve_number d c q) ≡ true
      go (is_last a l e) = end_is ks (curve_number d c q) (subst (λ z. ends_at ks (curve_number d c z) ≢ 0) (sym e) (to_counts (merged_curve d c a) ks (chord_in a l)))
      go (is_first a l e) = end_is ks (curve_number d c q) (subst (λ z. ends_at ks (curve_number d c z) ≢ 0) (sym e) (from_counts (merged_curve d c a) ks (chord_in a l)))

  -- and so are all of them
  pub beads_curve : (z : ℕ) → Mem z beads → is_curve z ≡ true
  beads_curve z m = let r = mem_map (curve_number d c) z (curve_ring d.polygon c) m in ap is_curve r.2 ∙ at_curve r.0 (ring_in d.polygon dok.polygon.pairs c curve r.0 r.1)

  -- a strand's point is none
  pub at_strand : (e : Exit) → Stands d dok c curve e → is_curve (strand_number d c e) ≡ false
  at_strand e h = elim (cases_eq (ends_at ks (strand_number d c e)) 0) [
    | inl z ↦ no_end_is ks (strand_number d c e) z
    | inr n ↦ (let (q, i, s) = curve_end_of d dok c curve (strand_number d c e) n in absurd (kinds_apart d dok c curve q e i h (sym s)))
  ]

  -- the mate of a curve's point
  pub mate_curve : (q : Exit) → In d.polygon dok.polygon.pairs c curve q → mate (curve_number d c q) ≡ curve_number d c (curve_mate d.polygon c q)
  mate_curve q h = go (which_end d.polygon dok.polygon.pairs c curve q h)
    where
      go : EndOf d.polygon dok.polygon.pairs c curve q → mate (curve_number d c q) ≡ curve_number d c (curve_mate d.polygon c q)
      go (is_last a l e) =
          ap (λ z. mate (curve_number d c z)) e ∙ (mate_chord_end a l
          ∙ sym (ap (λ z. curve_number d c (curve_mate d.polygon c z)) e ∙ ap (curve_number d c) (mate_end d.polygon dok.polygon.pairs c curve a l)))
      go (is_first a l e) =
          ap (λ z. mate (curve_number d c z)) e ∙ (mate_chord_start a l
          ∙ sym (ap (λ z. curve_number d c (curve_mate d.polygon c z)) e ∙ ap (curve_number d c) (mate_start d.polygon dok.polygon.pairs c curve a l)))

  -- a strand's chord meets the curve at a point where it meets its number
  pub meets_is : (t : Chord) (q : Exit) → In d.polygon dok.polygon.pairs c curve q → meets_at d c t q ≡ meets mate t.from t.to (curve_number d c q)
  meets_is t q h = ap (λ z. beyond t (curve_number d c q) && not (beyond t z)) (sym (mate_curve q h))

  module _ (t : Chord) (m : Mem t (merged_chords d c)) where
    -- the mate of the start of a strand's chord
    pub mate_from : mate t.from ≡ t.to
    mate_from = other_from (ks ++ ss) t once (mem_right t ks ss m)

    -- and of its end
    pub mate_to : mate t.to ≡ t.from
    mate_to = other_to (ks ++ ss) t once (mem_right t ks ss m)

    -- they are none of the curve
    pub from_strand : is_curve t.from ≡ false
    from_strand = let (e, h, s) = strand_end_of d dok c curve t.from (from_counts t ss m) in ap is_curve s ∙ at_strand e h

    -- both of them
    pub to_strand : is_curve t.to ≡ false
    to_strand = let (e, h, s) = strand_end_of d dok c curve t.to (to_counts t ss m) in ap is_curve s ∙ at_strand e h

  -- a point that is none of the curve and has a mate is an end of a strand's chord
  pub strand_kind : (z : ℕ) → is_curve z ≡ false → mate z ≢ z → is_end (merged_chords d c) z ≡ true
  strand_kind z e n = elim (cases_eq (ends_at ss z) 0) [
    | inr k ↦ end_is ss z k
    | inl k ↦ elim (cases_eq (ends_at ks z) 0) [
      | inl j ↦ absurd (n (other_stays (ks ++ ss) z (let b : ends_at (ks ++ ss) z ≡ ends_at ks z + ends_at ss z = sum_by-append (λ c. ends_of c z) ks ss in omega (arith, b, j, k))))
      | inr j ↦ absurd (true≢false (sym (end_is ks z j) ∙ e))
    ]
  ]

  -- and the other way
  pub kind_strand : (z : ℕ) → is_end (merged_chords d c) z ≡ true → is_curve z ≡ false
  kind_strand z e =
      let l = ltb-true 0 (ends_at ss z) e in
      no_end_is ks z (let b : ends_at (ks ++ ss) z ≡ ends_at ks z + ends_at ss z = sum_by-append (λ c. ends_of c z) ks ss in omega (arith, b, l, once z))

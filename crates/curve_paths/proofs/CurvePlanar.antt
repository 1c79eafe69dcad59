-- The points of a curve are paired off by its chords without crossing.
use Rattle.std.proofs.Common.{◌≡◌, ℕ, ◌<◌, List, length, sym, ◌∙◌, ap, subst, inl, inr, ◌≢◌, arith}
use Rattle.std.proofs.lemmas.Bool.{cases_order}
use Rattle.curve_paths.specs.Curves.{curve_points, curve_entry, curve_spot, exit_at, previous, curve_chord, IsCurve}
use Rattle.obd_base.specs.declared.points.Exit.{Exit}
use Rattle.page_surface.specs.Drawing.{Chord}
use Rattle.page_surface.specs.Polygon.{Polygon, sides, Pairs}
use Rattle.curve_paths.proofs.PointPlaces.{number_same, points_of, points_rise, mem_points, from_points}
use Rattle.curve_paths.proofs.Planar.{Planar, Interval}
use Rattle.curve_paths.proofs.ChordEnds.{HasEnds, apart, apart_other}
use Rattle.curve_paths.proofs.CurvePoints.{In, exit_in, entry_in, Made, leaving, entering, made, mate, mate_exit, mate_entry, following, following-less, previous-less, previous-following, following-previous, exit_no_entry}

module _ (p : Polygon) (ok : Pairs p) (c : List Exit) (curve : IsCurve p c) where
  abbrev In' : Exit → Type 0
  In' = In p ok c curve

  abbrev mate' : Exit → Exit
  mate' = mate p ok c curve

  -- the other end of a chord is a point of the curve
  pub mate_in : (e : Exit) → In p ok c curve e → In p ok c curve (mate p ok c curve e)
  mate_in e h = go (made p ok c curve e h)
    where
      go : Made p ok c curve e → In p ok c curve (mate p ok c curve e)
      go (leaving i l q) = subst In' (sym (ap mate' q ∙ mate_exit p ok c curve i l))
          (entry_in p ok c curve (exit_at c (previous (length c) i)) (exit_in p ok c curve (previous (length c) i) (previous-less (length c) i l)))
      go (entering i l q) = subst In' (sym (ap mate' q ∙ mate_entry p ok c curve i l)) (exit_in p ok c curve (following (length c) i) (following-less (length c) i l))

  -- and its other end is the point
  pub mate-mate : (e : Exit) → In p ok c curve e → mate p ok c curve (mate p ok c curve e) ≡ e
  mate-mate e h = go (made p ok c curve e h)
    where
      go : Made p ok c curve e → mate' (mate' e) ≡ e
      go (leaving i l q) = ap (λ z. mate' (mate' z)) q ∙ (ap mate' (mate_exit p ok c curve i l)
          ∙ (mate_entry p ok c curve (previous (length c) i) (previous-less (length c) i l) ∙ (ap (exit_at c) (following-previous (length c) i l) ∙ sym q)))
      go (entering i l q) = ap (λ z. mate' (mate' z)) q ∙ (ap mate' (mate_entry p ok c curve i l)
          ∙ (mate_exit p ok c curve (following (length c) i) (following-less (length c) i l)
          ∙ (ap (λ t. curve_entry p c (exit_at c t)) (previous-following (length c) i l) ∙ sym q)))

  -- which is another
  pub mate_moves : (e : Exit) → In p ok c curve e → mate p ok c curve e ≢ e
  mate_moves e h = go (made p ok c curve e h)
    where
      go : Made p ok c curve e → mate' e ≢ e
      go (leaving i l q) t = exit_no_entry p ok c curve i (previous (length c) i) l (previous-less (length c) i l) (sym q ∙ (sym t ∙ (ap mate' q ∙ mate_exit p ok c curve i l)))
      go (entering i l q) t = exit_no_entry p ok c curve (following (length c) i) i (following-less (length c) i l) l (sym (mate_entry p ok c curve i l) ∙ (ap mate' (sym q) ∙ (t ∙ q)))

  -- the chord at a point
  pub on_chord : (e : Exit) → In p ok c curve e → (a : ℕ) × (a < length c) × HasEnds (curve_chord p c a) (curve_spot p c e) (curve_spot p c (mate p ok c curve e))
  on_chord e h = go (made p ok c curve e h)
    where
      go : Made p ok c curve e → (a : ℕ) × (a < length c) × HasEnds (curve_chord p c a) (curve_spot p c e) (curve_spot p c (mate' e))
      go (leaving i l q) = (i, l, inr (ap (curve_spot p c) q, ap (curve_spot p c) (ap mate' q ∙ mate_exit p ok c curve i l)))
      go (entering i l q) = (
        following (length c) i,
        following-less (length c) i l,
        inl (
          ap (curve_spot p c) (q ∙ ap (λ t. curve_entry p c (exit_at c t)) (sym (previous-following (length c) i l))),
          ap (curve_spot p c) (ap mate' q ∙ mate_entry p ok c curve i l),
        ),
      )

  spot_same : (x y : Exit) → In' x → In' y → curve_spot p c x ≡ curve_spot p c y → x ≡ y
  spot_same x y g h e = number_same (curve_points p c) x y (omega (arith, g.1)) (omega (arith, h.1)) e

  mate_uncrossed : (x y : Exit) → In' x → In' y → curve_spot p c x < curve_spot p c y → curve_spot p c y < curve_spot p c (mate' x)
      → (curve_spot p c x < curve_spot p c (mate' y)) × (curve_spot p c (mate' y) < curve_spot p c (mate' x))
  mate_uncrossed x y g h l r = go (on_chord x g) (on_chord y h)
    where
      n : curve_spot p c (mate' y) ≢ curve_spot p c x
      n e =
          let q : mate' y ≡ x = spot_same (mate' y) x (mate_in y h) g e in
          let s : curve_spot p c y ≡ curve_spot p c (mate' x) = ap (curve_spot p c) (sym (mate-mate y h) ∙ ap mate' q) in
          omega (arith, s, r)

      n' : curve_spot p c (mate' y) ≢ curve_spot p c (mate' x)
      n' e =
          let q : mate' y ≡ mate' x = spot_same (mate' y) (mate' x) (mate_in y h) (mate_in x g) e in
          let s : curve_spot p c y ≡ curve_spot p c x = ap (curve_spot p c) (sym (mate-mate y h) ∙ (ap mate' q ∙ mate-mate x g)) in
          omega (arith, s, l)

      same : (d : Chord) (x x' y y' : ℕ) → HasEnds d x x' → HasEnds d y y' → x < y → y < x' → ⊥
      same d x x' y y' (inl a) (inl b) l r = omega (arith, a.0, b.0, l)
      same d x x' y y' (inl a) (inr b) l r = omega (arith, a.1, b.0, r)
      same d x x' y y' (inr a) (inl b) l r = omega (arith, a.1, b.0, r)
      same d x x' y y' (inr a) (inr b) l r = omega (arith, a.0, b.0, l)

      go : ((a : ℕ) × (a < length c) × HasEnds (curve_chord p c a) (curve_spot p c x) (curve_spot p c (mate' x)))
          → ((b : ℕ) × (b < length c) × HasEnds (curve_chord p c b) (curve_spot p c y) (curve_spot p c (mate' y)))
          → (curve_spot p c x < curve_spot p c (mate' y)) × (curve_spot p c (mate' y) < curve_spot p c (mate' x))
      go (a, la, ea) (b, lb, eb) = elim (cases_order a b) [
        | inl q ↦ absurd (same (curve_chord p c b) (curve_spot p c x) (curve_spot p c (mate' x)) (curve_spot p c y) (curve_spot p c (mate' y))
            (subst (λ t. HasEnds (curve_chord p c t) (curve_spot p c x) (curve_spot p c (mate' x))) q ea) eb l r)
        | inr s ↦ elim s [
          | inl u ↦ apart (curve_chord p c a) (curve_chord p c b) (curve_spot p c x) (curve_spot p c (mate' x)) (curve_spot p c y) (curve_spot p c (mate' y)) ea eb
              (curve.uncrossed a b u lb) l r n'
          | inr u ↦ apart_other (curve_chord p c a) (curve_chord p c b) (curve_spot p c x) (curve_spot p c (mate' x)) (curve_spot p c y) (curve_spot p c (mate' y)) ea eb
              (curve.uncrossed b a u la) l r n n'
        ]
      ]

  -- so the points are paired off without crossing
  pub curve_planar : Planar (In p ok c curve) (curve_spot p c) (mate p ok c curve)
  curve_planar = record { stays = mate_in; twice = mate-mate; moves = mate_moves; uncrossed = mate_uncrossed }

  -- all points of the curve, in order
  pub all_points : Interval (In p ok c curve) (curve_spot p c) (mate p ok c curve) curve_planar (points_of (curve_points p c) 0 (sides p))
  all_points = record {
    inside = λ e m. let r = from_points (curve_points p c) 0 (sides p) e m in (omega (arith, r.1), r.2);
    rises = points_rise (curve_points p c) 0 (sides p);
    between = λ x y z mx mz iy l r. mem_points (curve_points p c) 0 (sides p) y (omega arith) (omega (arith, iy.0)) iy.1;
  }

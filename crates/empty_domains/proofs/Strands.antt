-- The chords of a strand: their ends are points, each is the other's end, and embedded drawings give circles.
use Rattle.std.proofs.Common.{◌≡◌, ℕ, ◌+◌, ◌-◌, ◌<◌, ◌⊎◌, inl, inr, ◌≢◌, List, [], ◌∷◌, refl, sym, ap, subst, arith, ◌∙◌}
use Rattle.drawing.specs.Round.{opposite}
use Rattle.empty_domains.proofs.Circle.{IsCircle}
use Rattle.empty_domains.proofs.Diagram.{InRange, exits_in, ended_by, other_from, other_to, IsCross, IsEnd, IsPoint, other_of, of_point, partner_on, partner_points, cross_next, end_apart, opp_cross, opp_end, opp_twice, opp_moves, opp_next, opp_side}
use Rattle.drawing.proofs.Lists.{flat_mem, mem_flat}
use Rattle.drawing.proofs.Diagram.{is_diagram}
use Rattle.obd_base.proofs.lists.Below.{mem_below, below_mem}
use Rattle.obd_base.specs.Lists.{below, Mem}
use Rattle.obd_base.specs.declared.points.Exit.{Exit}
use Rattle.page_surface.specs.Drawing.{Drawing, entry, end_of, spot, offset, points_on, Chord, chords, cut_strand, strand_chords, strand_exits, IsEmbedded}
use Rattle.page_surface.specs.Polygon.{partner, sides, arc_count, first_side, second_side}

-- a chord of a drawing is one of some strand
pub of_strand : (d : Drawing) (c : Chord) → Mem c (chords d) → (i : ℕ) × (i < arc_count d.polygon) × Mem c (strand_chords d i)
of_strand d c m =
    let (i, n, k) = flat_mem (strand_chords d) (below (arc_count d.polygon)) c m in
    (i, mem_below (arc_count d.polygon) i n, k)

-- and each chord of a strand is one of the drawing

pub strand_in : (d : Drawing) (i : ℕ) (c : Chord) → i < arc_count d.polygon → Mem c (strand_chords d i) → Mem c (chords d)
strand_in d i c l m = mem_flat (strand_chords d) (below (arc_count d.polygon)) i c (below_mem (arc_count d.polygon) i l) m

module _ (d : Drawing) (ok : IsEmbedded d) where
  -- an exit is a crossing point
  pub exit_cross : (e : Exit) → InRange d e → IsCross d (spot d e)
  exit_cross e r = record { side = e.side; place = e.place; on = r.side; under = r.place; number = refl }

  -- so is its entry
  pub entry_cross : (e : Exit) → InRange d e → IsCross d (spot d (entry d e))
  entry_cross e r = record {
    side = partner d.polygon e.side;
    place = points_on d e.side - 1 - e.place;
    on = partner_on d ok e.side r.side;
    under = (let l = r.place in let p = partner_points d ok e.side in omega (arith, l, p));
    number = refl;
  }

  -- the end of a side
  pub end_point : (k : ℕ) → k < sides d.polygon → IsEnd d (spot d (end_of d k))
  end_point k l = record { side = k; on = l; number = refl }

  -- the first side of an arc is a side
  pub first_on : (i : ℕ) → i < arc_count d.polygon → first_side d.polygon i < sides d.polygon
  first_on = ok.polygon.first_in_range

  -- so is the second
  pub second_on : (i : ℕ) → i < arc_count d.polygon → second_side d.polygon i < sides d.polygon
  second_on i l = partner_on d ok (first_side d.polygon i) (first_on i l)

  cut_points : (a : Exit) (es : List Exit) (z : Exit) → ((e : Exit) → Mem e es → InRange d e) → IsPoint d (spot d a) → IsPoint d (spot d z)
      → (c : Chord) → Mem c (cut_strand d a es z) → IsPoint d c.from × IsPoint d c.to
  cut_points a [] z r p q c (inl u) = subst (λ k. IsPoint d k.from × IsPoint d k.to) (sym u) (p, q)
  cut_points a [] z r p q c (inr i) = absurd i
  cut_points a (e ∷ es) z r p q c (inl u) = subst (λ k. IsPoint d k.from × IsPoint d k.to) (sym u) (p, inl (exit_cross e (r e (inl refl))))
  cut_points a (e ∷ es) z r p q c (inr i) = cut_points (entry d e) es z (λ e m. r e (inr m)) (inl (entry_cross e (r e (inl refl)))) q c i

  -- the ends of chords are points
  pub chord_points : (c : Chord) → Mem c (chords d) → IsPoint d c.from × IsPoint d c.to
  chord_points c m =
      let (i, l, k) = of_strand d c m in
      cut_points (end_of d (second_side d.polygon i)) (strand_exits d i) (end_of d (first_side d.polygon i)) (exits_in d ok i l)
      (inr (end_point (second_side d.polygon i) (second_on i l))) (inr (end_point (first_side d.polygon i) (first_on i l))) c k

  -- a point is one end of a chord
  pub ended_at : (x : ℕ) → IsPoint d x → (c : Chord) × Mem c (chords d) × ((c.from ≡ x) ⊎ (c.to ≡ x))
  ended_at x p =
      let (k, j, lk, lj, e) = of_point d x p in
      named (offset d k + j) (ended_by d ok k j lk lj) (sym e)
    where
      named : (y : ℕ) → (c : Chord) × Mem c (chords d) × ((c.from ≡ y) ⊎ (c.to ≡ y)) → y ≡ x → (c : Chord) × Mem c (chords d) × ((c.from ≡ x) ⊎ (c.to ≡ x))
      named y (c, m, h) q = (c, m, elim h [ inl u ↦ inl (u ∙ q) | inr u ↦ inr (u ∙ q) ])

  -- so is the other end of the chord at a point
  pub other_point : (x : ℕ) → IsPoint d x → IsPoint d (other_of d x)
  other_point x p =
      let (c, m, h) = ended_at x p in
      let q = chord_points c m in
      elim h [
        | inl e ↦ (let f = other_from d ok c m in rw (← e, f) q.1)
        | inr e ↦ (let f = other_to d ok c m in rw (← e, f) q.0)
      ]

  -- the other end of the other end is the end
  pub other_twice : (x : ℕ) → IsPoint d x → other_of d (other_of d x) ≡ x
  other_twice x p =
      let (c, m, h) = ended_at x p in
      elim h [
        | inl e ↦ (let f = other_from d ok c m in let g = other_to d ok c m in rw (← e, f) g)
        | inr e ↦ (let f = other_from d ok c m in let g = other_to d ok c m in rw (← e, g) f)
      ]

  other_moves : (x : ℕ) → IsPoint d x → other_of d x ≢ x
  other_moves x p q =
      let (c, m, h) = ended_at x p in
      elim h [
        | inl e ↦ (is_diagram d ok).proper c m (e ∙ (sym q ∙ (ap (other_of d) (sym e) ∙ other_from d ok c m)))
        | inr e ↦ (is_diagram d ok).proper c m (sym (other_to d ok c m) ∙ (ap (other_of d) e ∙ (q ∙ sym e)))
      ]

  -- an embedded drawing gives a circle
  pub drawing_circle : IsCircle (other_of d) (opposite d) (IsCross d) (IsEnd d)
  drawing_circle = record {
    cross_next = cross_next d ok;
    end_apart = end_apart d ok;
    opp_cross = opp_cross d ok;
    opp_end = opp_end d ok;
    opp_twice = opp_twice d ok;
    opp_moves = opp_moves d ok;
    opp_next = opp_next d ok;
    opp_side = opp_side d ok;
    other_point = other_point;
    other_twice = other_twice;
    other_moves = other_moves;
  }

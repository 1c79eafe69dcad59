-- Embedded drawings give circles: what the walks take of a drawing, and the points, names and chords by numbers.
use Rattle.std.proofs.Common.{◌≡◌, ℕ, zero, suc, ◌+◌, ◌-◌, ◌≤◌, ◌<◌, ◌⊎◌, inl, inr, ◌≢◌, List, [], ◌∷◌, get_or, refl, sym, ap, arith, ◌∙◌}
use Rattle.std.specs.List.{flat_map}
use Rattle.std.proofs.lemmas.Bool.{cases_eq}
use Rattle.drawing.specs.Round.{opposite, other_end}
use Rattle.empty_domains.proofs.Places.{place_unique, opposite_is, opposite_end}
use Rattle.drawing.proofs.Diagram.{at_most_one_end, chord_at_spot}
use Rattle.drawing.proofs.Ends.{side_in, place_in}
use Rattle.drawing.proofs.Mates
use Rattle.obd_base.proofs.lists.Members.{mem_left, mem_right}
use Rattle.obd_base.specs.Lists.{Mem}
use Rattle.obd_base.specs.declared.points.Exit.{Exit}
use Rattle.page_surface.proofs.Partners.{points_partner}
use Rattle.page_surface.specs.Drawing.{Drawing, exit, spot, offset, points_on, Chord, chords, strand_exits, all_exits, IsEmbedded}
use Rattle.page_surface.specs.Polygon.{partner, sides, arc_count}

-- the exit stands on a side of the polygon, among the points of the side
pub record InRange (d : Drawing) (e : Exit) : Type 0 where
  pub side : e.side < sides d.polygon
  pub place : e.place < points_on d e.side

-- a crossing point, by its number
pub record IsCross (d : Drawing) (x : ℕ) : Type 0 where
  pub side : ℕ
  pub place : ℕ
  pub on : side < sides d.polygon
  pub under : place < points_on d side
  pub number : x ≡ offset d side + place

-- the end of a side, by its number
pub record IsEnd (d : Drawing) (x : ℕ) : Type 0 where
  pub side : ℕ
  pub on : side < sides d.polygon
  pub number : x ≡ offset d side + points_on d side

-- a point of a side, or the end of one
abbrev pub IsPoint : Drawing → ℕ → Type 0
IsPoint d x = IsCross d x ⊎ IsEnd d x

-- the other end of the chord at a number
abbrev pub other_of : Drawing → ℕ → ℕ
other_of d = other_end (chords d)

-- a number up to the end of a side is a point
pub point_at : (d : Drawing) (k j : ℕ) → k < sides d.polygon → j ≤ points_on d k → IsPoint d (offset d k + j)
point_at d k j lk lj = elim (cases_eq j (points_on d k)) [
  | inl e ↦ inr (record { side = k; on = lk; number = rw e refl })
  | inr n ↦ inl (record { side = k; place = j; on = lk; under = omega arith; number = refl })
]

-- a point's side and place, the end of a side included
pub of_point : (d : Drawing) (x : ℕ) → IsPoint d x → (k : ℕ) × (j : ℕ) × (k < sides d.polygon) × (j ≤ points_on d k) × (x ≡ offset d k + j)
of_point d x (inl c) = (c.side, c.place, c.on, (let l = c.under in omega arith), c.number)
of_point d x (inr c) = (c.side, points_on d c.side, c.on, omega arith, c.number)

module _ (d : Drawing) (ok : IsEmbedded d) where
  -- the partner of a side is a side
  pub partner_on : (k : ℕ) → k < sides d.polygon → partner d.polygon k < sides d.polygon
  partner_on = ok.polygon.pairs.in_range

  -- with as many points
  pub partner_points : (k : ℕ) → points_on d (partner d.polygon k) ≡ points_on d k
  partner_points = points_partner d ok.polygon

  -- and the side for its partner
  pub partner_twice : (k : ℕ) → partner d.polygon (partner d.polygon k) ≡ k
  partner_twice = ok.polygon.pairs.twice

  -- the other name of a crossing point
  pub opp_place : (x : ℕ) (c : IsCross d x) → opposite d x ≡ offset d (partner d.polygon c.side) + (points_on d c.side - 1 - c.place)
  opp_place x c = ap (opposite d) c.number ∙ opposite_is d c.side c.place c.on c.under

  opp_place_end : (x : ℕ) (c : IsEnd d x) → opposite d x ≡ offset d (partner d.polygon c.side) + points_on d c.side
  opp_place_end x c = ap (opposite d) c.number ∙ opposite_end d c.side c.on

  -- after a crossing point comes a point
  pub cross_next : (x : ℕ) → IsCross d x → IsPoint d (suc x)
  cross_next x c =
      let e : suc x ≡ offset d c.side + suc c.place = omega (arith, c.number) in
      rw e (point_at d c.side (suc c.place) c.on (let l = c.under in omega arith))

  -- no crossing point is the end of a side
  pub end_apart : (x : ℕ) → IsCross d x → IsEnd d x → ⊥
  end_apart x c l =
      let u = place_unique d c.side l.side c.place (points_on d l.side) (let h = c.under in omega arith) (omega arith) (sym c.number ∙ l.number) in
      let h = c.under in
      let q : points_on d c.side ≡ points_on d l.side = ap (points_on d) u.0 in
      omega (arith, u.1, q, h)

  -- the other name of a crossing point is one
  pub opp_cross : (x : ℕ) → IsCross d x → IsCross d (opposite d x)
  opp_cross x c = record {
    side = partner d.polygon c.side;
    place = points_on d c.side - 1 - c.place;
    on = partner_on c.side c.on;
    under = (let l = c.under in let e = partner_points c.side in omega (arith, l, e));
    number = opp_place x c;
  }

  -- the other name of the end of a side is one
  pub opp_end : (x : ℕ) → IsEnd d x → IsEnd d (opposite d x)
  opp_end x c = record { side = partner d.polygon c.side; on = partner_on c.side c.on; number = rw (partner_points c.side) (opp_place_end x c) }

  -- the other name of the other name is the name
  pub opp_twice : (x : ℕ) → IsPoint d x → opposite d (opposite d x) ≡ x
  opp_twice x (inl c) =
      let p = partner_points c.side in
      let l = c.under in
      let e = ap (opposite d) (opp_place x c)
      ∙ opposite_is d (partner d.polygon c.side) (points_on d c.side - 1 - c.place) (partner_on c.side c.on) (omega (arith, p, l)) in
      let back : points_on d (partner d.polygon c.side) - 1 - (points_on d c.side - 1 - c.place) ≡ c.place = omega (arith, p, l) in
      let t : offset d (partner d.polygon (partner d.polygon c.side)) ≡ offset d c.side = ap (offset d) (partner_twice c.side) in
      omega (arith, e, back, t, c.number)
  opp_twice x (inr c) =
      let e = ap (opposite d) (opp_place_end x c ∙ ap (λ m. offset d (partner d.polygon c.side) + m) (sym (partner_points c.side))) ∙ opposite_end d (partner d.polygon c.side) (partner_on c.side c.on) in
      let p = partner_points c.side in
      let t : offset d (partner d.polygon (partner d.polygon c.side)) ≡ offset d c.side = ap (offset d) (partner_twice c.side) in
      omega (arith, e, p, t, c.number)

  -- the two names are different
  pub opp_moves : (x : ℕ) → IsPoint d x → opposite d x ≢ x
  opp_moves x (inl c) e =
      let u = place_unique d (partner d.polygon c.side) c.side (points_on d c.side - 1 - c.place) c.place
      (let p = partner_points c.side in omega (arith, p)) (let l = c.under in omega arith) (sym (opp_place x c) ∙ (e ∙ c.number)) in
      absurd (ok.polygon.pairs.moves c.side c.on u.0)
  opp_moves x (inr c) e =
      let u = place_unique d (partner d.polygon c.side) c.side (points_on d c.side) (points_on d c.side)
      (let p = partner_points c.side in omega (arith, p)) (omega arith) (sym (opp_place_end x c) ∙ (e ∙ c.number)) in
      absurd (ok.polygon.pairs.moves c.side c.on u.0)

  -- the other names of neighbours are neighbours, in the other order
  pub opp_next : (x : ℕ) → IsCross d x → IsCross d (suc x) → suc (opposite d (suc x)) ≡ opposite d x
  opp_next x c n =
      let u = place_unique d n.side c.side n.place (suc c.place) (let l = n.under in omega arith) (let l = c.under in omega arith)
      (sym n.number ∙ omega (arith, c.number)) in
      let e = opp_place x c in
      let q = opp_place (suc x) n in
      let s : offset d (partner d.polygon n.side) ≡ offset d (partner d.polygon c.side) = ap (λ k. offset d (partner d.polygon k)) u.0 in
      let m : points_on d n.side ≡ points_on d c.side = ap (points_on d) u.0 in
      let l = n.under in
      omega (arith, e, q, s, m, l, u.1)

  -- the other name of a point isn't its neighbour
  pub opp_side : (x : ℕ) → IsCross d x → opposite d x ≢ suc x
  opp_side x c e =
      let u = place_unique d (partner d.polygon c.side) c.side (points_on d c.side - 1 - c.place) (suc c.place)
      (let p = partner_points c.side in omega (arith, p)) (let l = c.under in omega arith) (sym (opp_place x c) ∙ (e ∙ omega (arith, c.number))) in
      absurd (ok.polygon.pairs.moves c.side c.on u.0)

module _ (d : Drawing) (ok : IsEmbedded d) where
  -- the exits of a strand stand among the points of the sides
  pub exits_in : (i : ℕ) → i < arc_count d.polygon → (e : Exit) → Mem e (strand_exits d i) → InRange d e
  exits_in i l e m = record { side = side_in d ok e (strand_exit i e m); place = place_in d ok e (strand_exit i e m) }
    where
      strand_exit : (i : ℕ) (e : Exit) → Mem e (strand_exits d i) → Mem e (all_exits d)
      strand_exit i e m = in_rows d.strands i e m
        where
          in_rows : (rows : List (List Exit)) (i : ℕ) (e : Exit) → Mem e (get_or rows i []) → Mem e (flat_map (λ strand. strand) rows)
          in_rows [] i e m = absurd m
          in_rows (row ∷ rows) zero e m = mem_left e row (flat_map (λ strand. strand) rows) m
          in_rows (row ∷ rows) (suc i) e m = mem_right e row (flat_map (λ strand. strand) rows) (in_rows rows i e m)

  -- a chord leads from its one end to the other
  pub other_from : (c : Chord) → Mem c (chords d) → other_of d c.from ≡ c.to
  other_from c m = Mates.other_from (chords d) c (at_most_one_end d ok) m

  -- and back
  pub other_to : (c : Chord) → Mem c (chords d) → other_of d c.to ≡ c.from
  other_to c m = Mates.other_to (chords d) c (at_most_one_end d ok) m

  -- each point, and each end of a side, is the end of a chord
  pub ended_by : (k j : ℕ) → k < sides d.polygon → j ≤ points_on d k
      → (c : Chord) × Mem c (chords d) × ((c.from ≡ spot d (exit k j)) ⊎ (c.to ≡ spot d (exit k j)))
  ended_by k j lk lj =
      let (c, m, h) = chord_at_spot d ok k j lk lj in
      (c, m, elim h [ inl e ↦ inl e.0 | inr e ↦ inr e.0 ])

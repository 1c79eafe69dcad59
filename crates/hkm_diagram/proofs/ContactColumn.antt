-- Where a set of pieces has no corner, it is the same on both sides of each arc, and so at all spans that are reached.
use Rattle.std.proofs.Common.{◌≡◌, ℕ, zero, suc, ◌+◌, ◌-◌, ◌<◌, ◌≤◌, Bool, true, false, cond, eqb, List, get_or, refl, sym, ◌∙◌, arith, zero-add, le_refl, ◌⊎◌, inl, inr}
use Rattle.std.proofs.lemmas.Bool.{eqb-true, and_parts, lt-ltb, le-ltb}
use Rattle.page_surface.specs.Polygon.{partner, sides, arc, arc_count, first_side, second_side, IsPolygon}
use Rattle.obd_base.specs.Lists.{has}
use Rattle.page_surface.specs.Drawing.{Drawing, exit, spot, points_on, chords}
use Rattle.drawing.specs.Pieces.{piece_table, same_piece, span_count}
use Rattle.drawing.specs.Points.{to_spans, from_spans, crossings_of}
use Rattle.hkm_diagram.specs.Domains.{keeps_rule, rule_at, met, stands_in}
use Rattle.drawing.specs.Cut.{Reached, start, within, across}
use Rattle.page_surface.proofs.Partners.{points_partner}
use Rattle.drawing.proofs.SamePiece.{table_same}

-- two counts along an edge that agree at its end in this way agree everywhere
balanced : (u v : ℕ → ℕ) (m : ℕ) → ((j : ℕ) → j < m → u (suc j) + v j ≡ u j + v (suc j)) → u m + v 0 ≡ 0 → (j : ℕ) → j ≤ m → u j ≡ v j
balanced u v m step end j l =
    let last : u m + v 0 ≡ u 0 + v m = sums m (omega arith) in
    let here : u j + v 0 ≡ u 0 + v j = sums j l in
    omega arith
  where
    sums : (j : ℕ) → j ≤ m → u j + v 0 ≡ u 0 + v j
    sums zero l = refl
    sums (suc j) l =
        let before : u j + v 0 ≡ u 0 + v j = sums j (omega arith) in
        let s : u (suc j) + v j ≡ u j + v (suc j) = step j l in
        omega arith

-- where a point stands in both generators or in neither, as many quadrants lead out as in
rule_same : (b : Bool) (out into : ℕ) → rule_at b b out into ≡ true → out ≡ into
rule_same true out into h = let e = and_parts (eqb out 0) (eqb into 0) h in eqb-true _ _ e.0 ∙ sym (eqb-true _ _ e.1)
rule_same false out into h = eqb-true _ _ h

module _ (d : Drawing) (set : List ℕ) where
  -- whether the piece of a span is in the set, as a number
  abbrev pub mark : ℕ → ℕ
  mark q = cond (has set (get_or (piece_table d) q 0)) 1 0

  -- the set on the two sides of an edge of an arc
  abbrev pub on_first : ℕ → ℕ → ℕ
  on_first a j = mark (spot d (exit (first_side d.polygon a) j))

  abbrev pub on_second : ℕ → ℕ → ℕ
  on_second a j = mark (spot d (exit (second_side d.polygon a) (crossings_of d a - j)))

  -- the rule at each point
  abbrev pub KeepsRule : List ℕ → List ℕ → Type 0
  KeepsRule y x = (a : ℕ) → a < arc_count d.polygon → (j : ℕ) → j ≤ crossings_of d a → keeps_rule d (piece_table d) y x set a j ≡ true

  -- the rule at a crossing point and at the contact point, by these marks
  pub out_is : (a j : ℕ) → j < crossings_of d a → met (piece_table d) set (from_spans d a j) ≡ on_first a (suc j) + on_second a j
  out_is a j l = rw (lt-ltb j (crossings_of d a) l, zero-add)

  pub in_is : (a j : ℕ) → j < crossings_of d a → met (piece_table d) set (to_spans d a j) ≡ on_first a j + on_second a (suc j)
  in_is a j l =
      let e : crossings_of d a - 1 - j ≡ crossings_of d a - suc j = omega arith in
      rw (lt-ltb j (crossings_of d a) l, zero-add, e)

  pub out_is_last : (a : ℕ) → met (piece_table d) set (from_spans d a (crossings_of d a)) ≡ 0
  out_is_last a = rw (le-ltb (crossings_of d a) (crossings_of d a) (le_refl _))

  pub in_is_last : (a : ℕ) → met (piece_table d) set (to_spans d a (crossings_of d a)) ≡ on_first a (crossings_of d a) + on_second a 0
  in_is_last a =
      let e : crossings_of d a - 0 ≡ crossings_of d a = omega arith in
      rw (le-ltb (crossings_of d a) (crossings_of d a) (le_refl _), zero-add, e)

  -- with no corner at a point, as many quadrants lead out as in
  no_corner : (y x : List ℕ) → KeepsRule y x → (a : ℕ) → a < arc_count d.polygon → get_or y a 0 ≡ get_or x a 0
      → (j : ℕ) → j < crossings_of d a → on_first a (suc j) + on_second a j ≡ on_first a j + on_second a (suc j)
  no_corner y x h a la e j l =
      let k : rule_at (stands_in y a j) (stands_in y a j) (met (piece_table d) set (from_spans d a j)) (met (piece_table d) set (to_spans d a j)) ≡ true
      = rw (← e) at (h a la j (omega arith)) in
      let r = rule_same (stands_in y a j) _ _ k in
      rw (out_is a j l, in_is a j l) at r

  -- with no corner the set is the same on both sides of each edge
  same_on_edges : (y x : List ℕ) → KeepsRule y x → (a : ℕ) → a < arc_count d.polygon → get_or y a 0 ≡ get_or x a 0
      → (j : ℕ) → j ≤ crossings_of d a → on_first a j ≡ on_second a j
  same_on_edges y x h a la e =
      balanced (on_first a) (on_second a) (crossings_of d a) (no_corner y x h a la e) (sym last)
    where
      last : 0 ≡ on_first a (crossings_of d a) + on_second a 0
      last =
          let m = crossings_of d a in
          let k : rule_at (stands_in y a m) (stands_in y a m) (met (piece_table d) set (from_spans d a m)) (met (piece_table d) set (to_spans d a m)) ≡ true
          = rw (← e) at (h a la m (le_refl _)) in
          let r = rule_same (stands_in y a m) _ _ k in
          rw (out_is_last a, in_is_last a) at r

  -- glued segments
  same_across : IsPolygon d.polygon → (y x : List ℕ) → KeepsRule y x → ((a : ℕ) → a < arc_count d.polygon → get_or y a 0 ≡ get_or x a 0)
      → (k j : ℕ) → k < sides d.polygon → j ≤ points_on d k
      → mark (spot d (exit k j)) ≡ mark (spot d (exit (partner d.polygon k) (points_on d k - j)))
  same_across ok y x h e k j lk lj = go (ok.ends k lk).is_end
    where
      a : ℕ
      a = arc d.polygon k

      f : ℕ
      f = first_side d.polygon a

      la : a < arc_count d.polygon
      la = (ok.ends k lk).arc_in_range

      go : (k ≡ f) ⊎ (k ≡ partner d.polygon f) → mark (spot d (exit k j)) ≡ mark (spot d (exit (partner d.polygon k) (points_on d k - j)))
      go (inl i) = let l : j ≤ crossings_of d a = rw i at lj in rw i (same_on_edges y x h a la (e a la) j l)
      go (inr i) =
          let m = crossings_of d a in
          let same = points_partner d ok f in
          let l : j ≤ crossings_of d a = rw same at (rw i at lj) in
          let back : m - (m - j) ≡ j = omega arith in
          let l' : m - j ≤ m = omega arith in
          let r = same_on_edges y x h a la (e a la) (m - j) l' in
          rw (i, ok.pairs.twice f, same) (sym (rw back at r))

  -- one piece
  same_within : (s t : ℕ) → s < span_count d → t < span_count d → same_piece (chords d) s t ≡ true → mark s ≡ mark t
  same_within s t ls lt h = rw (table_same d s t ls lt h)

  -- with no corner the set is the same at all spans that are reached
  pub same_at_reached : IsPolygon d.polygon → (y x : List ℕ) → KeepsRule y x → ((a : ℕ) → a < arc_count d.polygon → get_or y a 0 ≡ get_or x a 0)
      → (from to : ℕ) → Reached d from to → mark to ≡ mark from
  same_at_reached ok y x h e from to start = refl
  same_at_reached ok y x h e from to (within {s = s} ls lt p r) = sym (same_within s to ls lt p) ∙ same_at_reached ok y x h e from s r
  same_at_reached ok y x h e from to (across {k = k} {j = j} lk lj r) = sym (same_across ok y x h e k j lk lj) ∙ same_at_reached ok y x h e from _ r

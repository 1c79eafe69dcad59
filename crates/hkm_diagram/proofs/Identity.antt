-- The identity drawing of a polygon: each side has one point, and strand i crosses arc i alone.
use Rattle.std.proofs.Common.{◌≡◌, ℕ, zero, suc, ◌<◌, ◌≤◌, true, false, nat_eq, ◌&&◌, ◌||◌, ◌⊎◌, [], ◌∷◌, map, count_by, refl, sym, ◌∙◌, ap, arith, zero-add, inl, inr}
use Rattle.std.proofs.lemmas.Bool.{cases_eq, eqb-true, eq-eqb, ne_eqb}
use Rattle.std.proofs.lemmas.List.FromFn.{get_or-map-range_with_len}
use Rattle.obd_base.specs.declared.points.Exit.{Exit}
use Rattle.page_surface.specs.Polygon.{Polygon, IsPolygon, arc, arc_count, first_side, partner, second_side}
use Rattle.obd_base.specs.Lists.{below}
use Rattle.page_surface.specs.Drawing.{all_exits, exit, identity, points_on, strand_exits}
use Rattle.drawing.specs.Points.{crossings_of, is_on, strand_of}
use Rattle.hkm_diagram.proofs.Below.{none_passes, one_passes, position_below, singles_joined}

module _ (p : Polygon) (ok : IsPolygon p) where
  -- the one exit of a strand
  abbrev single : ℕ → Exit
  single i = exit (second_side p i) 0

  -- the second side of an arc is one of its sides
  pub second_named : (a : ℕ) → a < arc_count p → arc p (second_side p a) ≡ a
  second_named a l = ok.shared _ (ok.first_in_range a l) ∙ ok.first_named a l

  -- no side is both a second side and a first side
  pub sides_apart : (i a : ℕ) → i < arc_count p → a < arc_count p → second_side p i ≡ first_side p a → ⊥
  sides_apart i a li la e =
      let q : i ≡ a = sym (second_named i li) ∙ (ap (arc p) e ∙ ok.first_named a la) in
      ok.pairs.moves _ (ok.first_in_range i li) (e ∙ ap (first_side p) (sym q))

  -- arcs with one first side are one
  pub same_from_first : (i a : ℕ) → i < arc_count p → a < arc_count p → first_side p i ≡ first_side p a → i ≡ a
  same_from_first i a li la e = sym (ok.first_named i li) ∙ (ap (arc p) e ∙ ok.first_named a la)

  -- arcs with one second side are one
  pub same_from_second : (i a : ℕ) → i < arc_count p → a < arc_count p → second_side p i ≡ second_side p a → i ≡ a
  same_from_second i a li la e = sym (second_named i li) ∙ (ap (arc p) e ∙ second_named a la)

  -- the partner of a second side is the first side
  pub back : (i : ℕ) → partner p (second_side p i) ≡ first_side p i
  back i = ok.pairs.twice (first_side p i)

  -- the exits of all strands are on the second sides
  exits_are : all_exits (identity p) ≡ map single (below (arc_count p))
  exits_are = singles_joined single (below (arc_count p))

  -- how many strands leave by a side
  abbrev leaves : ℕ → ℕ
  leaves k = count_by (λ e. nat_eq e.side k) (all_exits (identity p))

  -- how many strands enter by a side
  abbrev enters : ℕ → ℕ
  enters k = count_by (λ e. nat_eq (partner p e.side) k) (all_exits (identity p))

  -- a first side has one point, so each arc has one crossing point
  pub one_crossing : (a : ℕ) → a < arc_count p → crossings_of (identity p) a ≡ 1
  one_crossing a l =
      let out : leaves (first_side p a) ≡ 0 = rw exits_are
      (none_passes single (λ e. nat_eq e.side (first_side p a)) (arc_count p) (λ i h. ne_eqb _ _ (sides_apart i a h l))) in
      let into : enters (first_side p a) ≡ 1 = rw exits_are
      (one_passes single (λ e. nat_eq (partner p e.side) (first_side p a)) (arc_count p) a l (eq-eqb _ _ (back a))
      (λ i h t. same_from_first i a h l (sym (back i) ∙ eqb-true _ _ t))) in
      omega (arith, out, into)

  -- a second side has one point
  pub second_point : (a : ℕ) → a < arc_count p → points_on (identity p) (second_side p a) ≡ 1
  second_point a l =
      let out : leaves (second_side p a) ≡ 1 = rw exits_are
      (one_passes single (λ e. nat_eq e.side (second_side p a)) (arc_count p) a l (eq-eqb _ _ refl)
      (λ i h t. same_from_second i a h l (eqb-true _ _ t))) in
      let into : enters (second_side p a) ≡ 0 = rw exits_are
      (none_passes single (λ e. nat_eq (partner p e.side) (second_side p a)) (arc_count p)
      (λ i h. ne_eqb _ _ (λ e. sides_apart a i l h (sym e ∙ back i)))) in
      omega (arith, out, into)

  -- the exits of a strand are its one exit
  pub strand_is : (i : ℕ) → i < arc_count p → strand_exits (identity p) i ≡ single i ∷ []
  strand_is i l = get_or-map-range_with_len (λ i. single i ∷ []) 0 (arc_count p) i i [] l (zero-add i)

  -- a strand is on the points of its own arc, and on no other points
  on_own : (i a j : ℕ) → i < arc_count p → a < arc_count p → j ≤ 1 → is_on (identity p) i a j ≡ nat_eq i a
  on_own i a zero li la lj = rw (one_crossing a la, strand_is i li, ne_eqb _ _ (sides_apart i a li la), back i, second_point i li) (own (cases_eq i a))
    where
      own : (i ≡ a) ⊎ (i ≡ a → ⊥) → ((nat_eq (first_side p i) (first_side p a) && true) || false) ≡ nat_eq i a
      own (inl e) = rw (eq-eqb i a e, eq-eqb _ _ (ap (first_side p) e)) refl
      own (inr ne) = rw (ne_eqb i a ne, ne_eqb _ _ (λ e. ne (same_from_first i a li la e))) refl
  on_own i a (suc zero) li la lj = rw (one_crossing a la) refl
  on_own i a (suc (suc j)) li la lj = absurd (omega arith)

  -- the points of an arc are on the arc's own strand
  pub strand_at : (a j : ℕ) → a < arc_count p → j ≤ crossings_of (identity p) a → strand_of (identity p) a j ≡ a
  strand_at a j l h =
      let k : j ≤ 1 = omega (arith, h, one_crossing a l) in
      position_below (λ i. is_on (identity p) i a j) (arc_count p) a l
      (λ i m. on_own i a j (omega arith) l k ∙ ne_eqb i a (λ e. omega arith)) (on_own a a j l l k ∙ eq-eqb a a refl)

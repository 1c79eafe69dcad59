-- Quadrants and the pieces beside a chord, as code reads them in a table.
use Rattle.std.proofs.Common.{◌≡◌, ℕ, suc, ◌+◌, ◌-◌, ◌<◌, ◌≤◌, Some, None, [], ◌∷◌, map, get_or, refl, ◌∙◌, ◌⊎◌, ap, ap₂, arith, inl, inr}
use Rattle.std.proofs.lemmas.Bool.{le-ltb, lt-ltb}
use Rattle.page_surface.specs.Drawing.{Drawing, exit, points_on, spot}
use Rattle.page_surface.specs.Polygon.{arc_count, first_side, second_side, sides}
use Rattle.drawing.specs.Fingers.{chord_at}
use Rattle.drawing.specs.Points.{crossings_of}
use Rattle.region_table.specs.Edges.{names_beside, to_names}
use Rattle.region_table.specs.Reads.{from_options, told_chords, told_crossings, told_spot}
use Rattle.region_table.specs.Table.{IsTableOf, Table, name_at}
use Rattle.region_table.proofs.TableReads.{arcs_are, points_are, spot_told}
use Rattle.region_table.proofs.TablePlaces.{begin_told, chords_told}

-- two names, one of them read at each of two spans
two_names : (t : Table) (p q x y r s : ℕ) → p ≡ name_at t x → q ≡ name_at t y → x ≡ r → y ≡ s → p ∷ q ∷ [] ≡ name_at t r ∷ name_at t s ∷ []
two_names t p q x y r s a b e f = ap₂ (λ u v. u ∷ v ∷ []) (a ∙ ap (name_at t) e) (b ∙ ap (name_at t) f)

module _ (d : Drawing) (t : Table) (told : IsTableOf d t) where
  -- the pieces beside a chord
  pub beside_read : (strand chord p q from : ℕ) → strand < arc_count t.polygon → chord < told_chords t strand → from ≡ get_or (get_or t.begins strand []) chord 0
      → p ≡ name_at t from → q ≡ name_at t (from + 1) → p ∷ q ∷ [] ≡ names_beside d t strand chord
  beside_read strand chord p q from ls lc is a b =
      let ld : strand < arc_count d.polygon = omega (arith, ls, arcs_are d t told) in
      let e = is ∙ begin_told d t told strand chord ld (omega (arith, lc, chords_told d t told strand ld)) in
      two_names t p q from (from + 1) (chord_at d strand chord).from (suc (chord_at d strand chord).from) a b e (omega (arith, e))

  module _ (a j : ℕ) (lf : first_side t.polygon a < sides t.polygon) (lg : second_side t.polygon a < sides t.polygon) where
    -- the sides of the arc
    first_is : first_side t.polygon a ≡ first_side d.polygon a
    first_is = ap (λ r. first_side r a) told.polygon

    second_is : second_side t.polygon a ≡ second_side d.polygon a
    second_is = ap (λ r. second_side r a) told.polygon

    -- its crossing points
    crossings_are : told_crossings t a ≡ crossings_of d a
    crossings_are = points_are d t told (first_side t.polygon a) lf ∙ ap (points_on d) first_is

    -- a place of its first side, and one of its second side
    on_first : (x : ℕ) → told_spot t (first_side t.polygon a) x ≡ spot d (exit (first_side d.polygon a) x)
    on_first x = spot_told d t told (first_side t.polygon a) x lf ∙ ap (λ k. spot d (exit k x)) first_is

    on_second : (x y : ℕ) → x ≡ y → told_spot t (second_side t.polygon a) x ≡ spot d (exit (second_side d.polygon a) y)
    on_second x y e = spot_told d t told (second_side t.polygon a) x lg ∙ (ap (λ k. spot d (exit k x)) second_is ∙ ap (λ z. spot d (exit (second_side d.polygon a) z)) e)

    -- the 'to' quadrants
    pub to_read : (p q beyond : ℕ) → j ≤ told_crossings t a
        → ((j < told_crossings t a) × (beyond ≡ told_crossings t a - 1 - j)) ⊎ ((told_crossings t a ≤ j) × (beyond ≡ told_crossings t a))
        → p ≡ name_at t (told_spot t (first_side t.polygon a) j) → q ≡ name_at t (told_spot t (second_side t.polygon a) beyond) → p ∷ q ∷ [] ≡ to_names d t a j
    to_read p q beyond lj (inl (l, e)) is_p is_q =
        let less : j < crossings_of d a = omega (arith, l, crossings_are) in
        rw (lt-ltb j (crossings_of d a) less)
        (two_names t p q _ _ _ _ is_p is_q (on_first j) (on_second beyond (crossings_of d a - 1 - j) (omega (arith, e, crossings_are))))
    to_read p q beyond lj (inr (l, e)) is_p is_q =
        let more : crossings_of d a ≤ j = omega (arith, l, crossings_are) in
        let last : j ≡ crossings_of d a = omega (arith, l, lj, crossings_are) in
        rw (le-ltb j (crossings_of d a) more)
        (two_names t p q _ _ _ _ is_p is_q (on_first j ∙ ap (λ z. spot d (exit (first_side d.polygon a) z)) last) (on_second beyond (crossings_of d a) (omega (arith, e, crossings_are))))

    -- the 'from' quadrants
    pub from_read : (p q beyond : ℕ) → j < told_crossings t a → beyond ≡ told_crossings t a - j
        → p ≡ name_at t (told_spot t (first_side t.polygon a) (j + 1)) → q ≡ name_at t (told_spot t (second_side t.polygon a) beyond) → Some p ∷ Some q ∷ [] ≡ from_options d t a j
    from_read p q beyond l e is_p is_q =
        let less : j < crossings_of d a = omega (arith, l, crossings_are) in
        let next : j + 1 ≡ suc j = omega arith in
        rw (lt-ltb j (crossings_of d a) less)
        (ap (map Some)
        (two_names t p q _ _ _ _ is_p is_q (on_first (j + 1) ∙ ap (λ z. spot d (exit (first_side d.polygon a) z)) next) (on_second beyond (crossings_of d a - j) (omega (arith, e, crossings_are)))))

    pub none_read : told_crossings t a ≤ j → None ∷ None ∷ [] ≡ from_options d t a j
    none_read l =
        let more : crossings_of d a ≤ j = omega (arith, l, crossings_are) in
        rw (le-ltb j (crossings_of d a) more) refl

-- Quadrants in a set, as code counts them by names.
use Rattle.std.proofs.Common.{◌≡◌, ℕ, suc, ◌+◌, ◌-◌, ◌<◌, Option, Some, ltb, List, [], ◌∷◌, map, get_or, length, refl, ◌∙◌, ap, arith, inl, inr}
use Rattle.std.specs.List.{count_by, sum_by}
use Rattle.std.proofs.lemmas.Bool.{cases_Bool}
use Rattle.std.proofs.lemmas.List.Sums.{sum_by-cons}
use Rattle.boundary_map.proofs.Firsts.{met_by_names}
use Rattle.boundary_map.specs.Sets.{AreInner, firsts, met_option}
use Rattle.drawing.specs.Pieces.{piece_table}
use Rattle.drawing.specs.Points.{crossings_of, from_spans, to_spans}
use Rattle.hkm_diagram.specs.Domains.{met}
use Rattle.obd_base.proofs.lists.Sums.{sum_map}
use Rattle.obd_base.specs.Lists.{has}
use Rattle.page_surface.specs.Drawing.{Drawing, IsEmbedded}
use Rattle.page_surface.specs.Polygon.{arc_count, first_side, sides}
use Rattle.region_table.proofs.TablePlaces.{from_spans_in, points_told, to_spans_in}
use Rattle.region_table.specs.Edges.{from_names, to_names}
use Rattle.region_table.specs.Reads.{from_options, quadrants_of, told_crossings}
use Rattle.region_table.specs.Table.{IsTableOf, Table}

-- two quadrants
two_met : (set : List ℕ) (p q : Option ℕ) → met_option set p + met_option set q ≡ sum_by (met_option set) (p ∷ q ∷ [])
two_met set p q = omega (arith, sum_by-cons (met_option set) p (q ∷ []), sum_by-cons (met_option set) q [])

-- names, each of them there
names_met : (set ps : List ℕ) → sum_by (met_option set) (map Some ps) ≡ count_by (has set) ps
names_met set ps = sum_map (met_option set) Some ps

-- and two that aren't for none
options_met : (set ps : List ℕ) → sum_by (met_option set) (quadrants_of ps) ≡ count_by (has set) ps
options_met set [] = refl
options_met set (p ∷ ps) = names_met set (p ∷ ps)

module _ (d : Drawing) (t : Table) (ok : IsEmbedded d) (told : IsTableOf d t) where
  -- a table has the drawing's arcs
  pub arcs_told : arc_count t.polygon ≡ arc_count d.polygon
  arcs_told = ap arc_count told.polygon

  -- and its crossing points
  pub crossings_told : (a : ℕ) → a < arc_count d.polygon → told_crossings t a ≡ crossings_of d a
  crossings_told a la =
      let f : first_side d.polygon a < sides d.polygon = ok.polygon.first_in_range a la in
      let p = points_told d t told (first_side d.polygon a) f in
      let at : told_crossings t a ≡ get_or t.starts (suc (first_side d.polygon a)) 0 - (get_or t.starts (first_side d.polygon a) 0 + 2)
      = ap (λ q. get_or t.starts (suc (first_side q a)) 0 - (get_or t.starts (first_side q a) 0 + 2)) told.polygon in
      at ∙ omega (arith, p)

  module _ (set : List ℕ) (inner : AreInner t set) (a j : ℕ) (la : a < arc_count t.polygon) where
    arc_in : a < arc_count d.polygon
    arc_in = omega (arith, la, arcs_told)

    -- the 'to' quadrants in a set, by two names that were read
    pub to_met : (p q n : ℕ) → p ∷ q ∷ [] ≡ to_names d t a j → n ≡ met_option set (Some p) + met_option set (Some q) → n ≡ met (piece_table d) (firsts t set) (to_spans d a j)
    to_met p q n e is =
        is ∙ (two_met set (Some p) (Some q) ∙ (names_met set (p ∷ q ∷ []) ∙ (ap (count_by (has set)) e
        ∙ met_by_names d t told set inner (to_spans d a j) (to_spans_in d ok a j arc_in))))

    -- the 'from' quadrants in a set, by two names that were read, where they are there
    pub from_met : (p q : Option ℕ) (n : ℕ) → p ∷ q ∷ [] ≡ from_options d t a j → n ≡ met_option set p + met_option set q → n ≡ met (piece_table d) (firsts t set) (from_spans d a j)
    from_met p q n e is =
        is ∙ (two_met set p q ∙ (ap (sum_by (met_option set)) e ∙ (options_met set (from_names d t a j)
        ∙ met_by_names d t told set inner (from_spans d a j) (from_spans_in d ok a j arc_in))))

-- two items that are read off a list of two
pub pair_read : {A : Type 0} (xs : List A) (p q : A) → length xs ≡ 2 → get_or xs 0 p ∷ get_or xs 1 q ∷ [] ≡ xs
pair_read [] p q e = absurd (omega (arith, e))
pair_read (x ∷ []) p q e = absurd (omega (arith, e))
pair_read (x ∷ y ∷ []) p q e = refl
pair_read (x ∷ y ∷ z ∷ xs) p q e = absurd (omega (arith, e))

-- every point has two 'to' quadrants, and two 'from' quadrants that may be there
pub two_to : (d : Drawing) (t : Table) (a j : ℕ) → length (to_names d t a j) ≡ 2
two_to d t a j = elim (cases_Bool (ltb j (crossings_of d a))) [ inl q ↦ rw q refl | inr q ↦ rw q refl ]

-- the two 'from' quadrants
pub two_from : (d : Drawing) (t : Table) (a j : ℕ) → length (from_options d t a j) ≡ 2
two_from d t a j = elim (cases_Bool (ltb j (crossings_of d a))) [ inl q ↦ rw q refl | inr q ↦ rw q refl ]

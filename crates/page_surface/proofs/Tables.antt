-- What the tables of a polygon hold, as they are read.
use Rattle.std.proofs.Common.{◌≡◌, ℕ, ◌/◌, ◌<◌, List, length, get_or, sym, ◌∙◌, ap, arith}
use Rattle.std.proofs.lemmas.List.{get_or_read}
use Rattle.std.proofs.lemmas.List.Sums.{length-filter}
use Rattle.std.proofs.lemmas.List.FromFn.{length-map-range_with_len}
use Rattle.page_surface.specs.Polygon.{Polygon, arc, arc_among, arc_count, first_side, is_first, paired, sides}
use Rattle.obd_base.specs.Lists.{below}
use Rattle.page_surface.specs.Tables.{IsTableOf}
use Rattle.obd_base.proofs.lists.Below.{passing_at}
use Rattle.page_surface.proofs.Firsts.{first_of_arc, first_side_of, twice_firsts}

module _ (partners arcs first_sides : List ℕ) (table : IsTableOf partners arcs first_sides) where
  -- one arc a side
  pub arcs_as_long : length arcs ≡ length partners
  arcs_as_long = ap length table.arcs_of ∙ length-map-range_with_len (arc_among partners) 0 (length partners)

  -- one first side an arc
  pub first_sides_as_long : length first_sides ≡ length partners / 2
  first_sides_as_long =
      omega (arith, ap length table.first_sides_of, length-filter (is_first partners) (below (length partners)), twice_firsts partners table.pairs)

  -- the table holds the first side of each arc
  first_side_at : (a d : ℕ) → a < length partners / 2 → get_or first_sides a d ≡ first_side (paired partners) a
  first_side_at a d l =
      let (f, h, t, e) = first_of_arc partners a (omega (arith, twice_firsts partners table.pairs)) in
      let at = passing_at (is_first partners) (length partners) f d h t in
      let is = first_side_of partners table.pairs f h t in
      ap (λ xs. get_or xs a d) table.first_sides_of ∙ (rw e at (at ∙ sym is))

  module _ (p : Polygon) (seen : record { partners = partners; arcs = arcs } ≡ p) where
    -- the polygon that is seen is that of the partners
    pub seen_is_paired : p ≡ paired partners
    seen_is_paired = sym seen ∙ ap (λ (xs : List ℕ). record { partners = partners; arcs = xs }) table.arcs_of

    -- what is read of the arcs is the arc of a side
    pub arc_read : (n k x : ℕ) → n ≡ k → k < sides p → x ≡ get_or arcs n x → x ≡ arc p k
    arc_read n k x e l r =
        let s : sides p ≡ length partners = ap sides (sym seen) in
        get_or_read arcs n x (omega (arith, arcs_as_long)) r 0 ∙ (ap (λ (i : ℕ). get_or arcs i 0) e ∙ ap (λ (q : Polygon). arc q k) seen)

    -- what is read of the first sides is the first side of an arc
    pub first_side_read : (n a x : ℕ) → n ≡ a → a < arc_count p → x ≡ get_or first_sides n x → x ≡ first_side p a
    first_side_read n a x e l r =
        let s : sides p ≡ length partners = ap sides (sym seen) in
        r ∙ (ap (λ (i : ℕ). get_or first_sides i x) e ∙ (first_side_at a x (omega arith) ∙ ap (λ (q : Polygon). first_side q a) (sym seen_is_paired)))

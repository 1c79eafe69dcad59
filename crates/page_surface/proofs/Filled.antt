-- What the loop keeps that fills the tables of a polygon side by side.
use Rattle.std.proofs.Common.{◌≡◌, ℕ, ◌+◌, ◌<◌, ◌≤◌, Bool, true, false, cond, List, [], ◌∷◌, ◌++◌, length, map, filter, get_or, refl, sym, ◌∙◌, ap, arith, add-one, append-nil, le-ltb}
use Rattle.std.proofs.lemmas.List.{get_or_read}
use Rattle.std.proofs.lemmas.List.Sums.{length-filter, count_by-le-length}
use Rattle.std.proofs.lemmas.List.FromFn.{length-range_with_len, length-map-range_with_len, map-range_with_len_more, get_or-map-range_with_len}
use Rattle.page_surface.specs.Polygon.{Pairs, arc_among, is_first, paired}
use Rattle.obd_base.specs.Lists.{below}
use Rattle.obd_base.proofs.lists.Below.{filter_suc}
use Rattle.page_surface.proofs.Firsts.{first_count, first_from_less, low_of_first, low_shared}

-- the tables of the sides below a side
pub record Filled (partners arcs first_sides : List ℕ) (side : ℕ) : Type 0 where
  pub arcs_of : arcs ≡ map (arc_among partners) (below side)
  pub first_sides_of : first_sides ≡ filter (is_first partners) (below side)

module _ (partners arcs first_sides : List ℕ) (side : ℕ) (filled : Filled partners arcs first_sides side) where
  -- one arc a side so far
  pub arcs_so_far : length arcs ≡ side
  arcs_so_far = ap length filled.arcs_of ∙ length-map-range_with_len (arc_among partners) 0 side

  -- as many first sides as are read first so far
  pub first_sides_so_far : length first_sides ≡ first_count partners side
  first_sides_so_far = ap length filled.first_sides_of ∙ length-filter (is_first partners) (below side)

  -- no more first sides than sides so far
  pub first_sides_within : length first_sides ≤ side
  first_sides_within = omega (arith, first_sides_so_far, count_by-le-length (is_first partners) (below side), length-range_with_len 0 side)

  -- one more arc
  arcs_more : (x : ℕ) → x ≡ arc_among partners side → arcs ++ (x ∷ []) ≡ map (arc_among partners) (below (side + 1))
  arcs_more x e = rw (e, filled.arcs_of) (sym (map-range_with_len_more (arc_among partners) 0 side side (omega arith)))

  -- what is kept of the first sides, with one side more
  firsts_more : (b : Bool) → is_first partners side ≡ b → first_sides ++ cond b (side ∷ []) [] ≡ filter (is_first partners) (below (side + 1))
  firsts_more b e = rw (add-one, filter_suc, e, ← filled.first_sides_of) refl

  -- a side that is read before its partner opens an arc
  pub opens : (x a s : ℕ) → side < length partners → x ≡ get_or partners side x → side < x → a ≡ length first_sides → s ≡ side
      → Filled partners (arcs ++ (a ∷ [])) (first_sides ++ (s ∷ [])) (side + 1)
  opens x a s l e h ea es =
      let p : x ≡ get_or partners side side = get_or_read partners side x l e side in
      let t = first_from_less partners side (omega arith) in
      record {
        arcs_of = arcs_more a (ea ∙ (first_sides_so_far ∙ ap (first_count partners) (sym (low_of_first partners side t))));
        first_sides_of = rw es (firsts_more true t);
      }

  -- the partner of a side that does not open an arc is a side so far
  pub partner_so_far : (x : ℕ) → Pairs (paired partners) → side < length partners → x ≡ get_or partners side x → x ≤ side → x < length arcs
  partner_so_far x ok l e h =
      let p : x ≡ get_or partners side side = get_or_read partners side x l e side in
      let ne : get_or partners side side ≡ side → ⊥ = ok.moves side l in
      omega (arith, arcs_so_far)

  -- a side that is read after its partner has its partner's arc
  pub closes : (x y : ℕ) → Pairs (paired partners) → side < length partners → x ≡ get_or partners side x → x ≤ side → y ≡ get_or arcs x y
      → Filled partners (arcs ++ (y ∷ [])) first_sides (side + 1)
  closes x y ok l e h r =
      let p : x ≡ get_or partners side side = get_or_read partners side x l e side in
      let lx = partner_so_far x ok l e h in
      let ly : x < side = omega (arith, arcs_so_far) in
      let a : y ≡ get_or arcs x 0 = get_or_read arcs x y lx r 0 in
      let b : get_or arcs x 0 ≡ arc_among partners x = ap (λ (xs : List ℕ). get_or xs x 0) filled.arcs_of ∙ get_or-map-range_with_len (arc_among partners) 0 side x x 0 ly (omega arith) in
      let s : arc_among partners x ≡ arc_among partners side = ap (arc_among partners) p ∙ ap (first_count partners) (low_shared partners ok side) in
      record {
        arcs_of = arcs_more y (a ∙ (b ∙ s));
        first_sides_of = sym (append-nil first_sides) ∙ firsts_more false (le-ltb side (get_or partners side side) (omega arith));
      }

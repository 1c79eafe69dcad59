-- A polygon whose sides are glued in pairs: the partner of each side, and the arc of each side.
use Rattle.std.specs.Prelude.{◌≡◌, ℕ, ◌*◌, ◌/◌, ◌<◌, min, Bool, nat_eq, nat_lt, ◌&&◌, not, List, map, length, slice_index_or, count_by, ◌⊎◌}
use Rattle.std.specs.List.{list_all, position_or_len}
use Rattle.obd_base.specs.Lists.{below}

pub record Polygon : Type 0 where
  pub partners : List ℕ
  pub arcs : List ℕ

-- how many sides there are
abbrev pub sides : Polygon → ℕ
sides p = length p.partners

-- the partner of a side; a number that is no side is its own partner
abbrev pub partner : Polygon → ℕ → ℕ
partner p k = slice_index_or p.partners k k

-- the arc of a side
abbrev pub arc : Polygon → ℕ → ℕ
arc p k = slice_index_or p.arcs k 0

-- half as many arcs as sides
abbrev pub arc_count : Polygon → ℕ
arc_count p = sides p / 2

-- the side of an arc that is read first
abbrev pub first_side : Polygon → ℕ → ℕ
first_side p a = position_or_len (λ b. nat_eq b a) p.arcs

-- and its partner
abbrev pub second_side : Polygon → ℕ → ℕ
second_side p a = partner p (first_side p a)

-- partners pair the sides off: their own inverse, without a fixed side
pub record Pairs (p : Polygon) : Type 0 where
  pub in_range : (k : ℕ) → k < sides p → partner p k < sides p
  pub twice : (k : ℕ) → partner p (partner p k) ≡ k
  pub moves : (k : ℕ) → k < sides p → partner p k ≡ k → ⊥

-- the same as a test of the partners
abbrev pub is_paired : List ℕ → Bool
is_paired partners =
    list_all (λ k. let j = slice_index_or partners k k in
    nat_lt j (length partners) && (nat_eq (slice_index_or partners j j) k && not (nat_eq j k))) (below (length partners))

-- a side is one of the two sides of its arc
pub record IsSideOf (p : Polygon) (k a : ℕ) : Type 0 where
  pub arc_in_range : a < arc_count p
  pub is_end : (k ≡ first_side p a) ⊎ (k ≡ second_side p a)

-- there is a side, partners pair the sides off, each side is one of the two sides of its arc, and arcs are numbered by first appearance
pub record IsPolygon (p : Polygon) : Type 0 where
  pub not_empty : 0 < sides p
  pub pairs : Pairs p
  pub even : sides p ≡ 2 * arc_count p
  pub ends : (k : ℕ) → k < sides p → IsSideOf p k (arc p k)
  pub shared : (k : ℕ) → k < sides p → arc p (partner p k) ≡ arc p k
  pub first_in_range : (a : ℕ) → a < arc_count p → first_side p a < sides p
  pub first_named : (a : ℕ) → a < arc_count p → arc p (first_side p a) ≡ a
  pub in_order : (a b : ℕ) → a < b → b < arc_count p → first_side p a < first_side p b

-- a side that is read before its partner
abbrev pub is_first : List ℕ → ℕ → Bool
is_first partners k = nat_lt k (slice_index_or partners k k)

-- the arc of a side: as many arcs are read before either side of it
abbrev pub arc_among : List ℕ → ℕ → ℕ
arc_among partners k = count_by (is_first partners) (below (min k (slice_index_or partners k k)))

-- the polygon of some partners, its arcs numbered by first appearance
abbrev pub paired : List ℕ → Polygon
paired partners = record { partners = partners; arcs = map (arc_among partners) (below (length partners)) }

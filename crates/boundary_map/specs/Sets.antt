-- Sets of inner pieces by numbers, and the points to which a set leads.
use Rattle.std.specs.Prelude.{◌≡◌, ℕ, zero, suc, ◌+◌, ◌-◌, ◌<◌, Bool, false, cond, nat_eq, nat_lt, ◌&&◌, Option, List, [], ◌∷◌, length, map, slice_index}
use Rattle.std.specs.List.{list_all, position_or_len}
use Rattle.std.specs.Option.{option_map_or}
use Rattle.obd_base.specs.Lists.{Mem, below, has}
use Rattle.page_surface.specs.Drawing.{Drawing}
use Rattle.page_surface.specs.Polygon.{arc_count}
use Rattle.drawing.specs.Points.{crossings_of, from_spans, to_spans}
use Rattle.hkm_diagram.specs.Domains.{met, rule_at}
use Rattle.region_table.specs.Table.{Table, region}

-- 2 to the n
abbrev pub doubled : ℕ → ℕ
doubled zero = 1
doubled (suc n) = doubled n + doubled n

-- part number t of a list: the first member is in it where t is in the upper half of the numbers
abbrev pub chosen : List ℕ → ℕ → List ℕ
chosen [] t = []
chosen (x ∷ xs) t = let half = doubled (length xs) in cond (nat_lt t half) (chosen xs t) (x ∷ chosen xs (t - half))

-- the first spans of pieces that are given by their names
abbrev pub firsts : Table → List ℕ → List ℕ
firsts t set = map (λ p. (region t p).first) set

-- all of them are inner pieces
abbrev pub AreInner : Table → List ℕ → Type 0
AreInner t set = (p : ℕ) → Mem p set → Mem p t.inner

-- and are told as such
abbrev pub AreTold : Table → List ℕ → Type 0
AreTold t set = (p : ℕ) → Mem p set → (p < length t.regions) × ((region t p).base ≡ false)

-- whether a quadrant is there and in the set, as a number
abbrev pub met_option : List ℕ → Option ℕ → ℕ
met_option set quadrant = cond (option_map_or (has set) quadrant false) 1 0

-- one 'to' quadrant of the point is in the set, and no 'from' quadrant
abbrev pub leads_into : Drawing → List ℕ → List ℕ → ℕ → ℕ → Bool
leads_into d table set a j = nat_eq (met table set (from_spans d a j)) 0 && nat_eq (met table set (to_spans d a j)) 1

-- the point of an arc to which the set leads: the first into which it leads, and the generator's own where there is none
abbrev pub led_point : Drawing → List ℕ → List ℕ → ℕ → ℕ → ℕ
led_point d table set own a =
    let points = below (suc (crossings_of d a)) in
    let j = position_or_len (leads_into d table set a) points in
    cond (nat_lt j (length points)) j own

-- the points to which the set leads
abbrev pub led_to : Drawing → List ℕ → List ℕ → List ℕ → List ℕ
led_to d table y set = map (λ a. led_point d table set (slice_index y a) a) (below (arc_count d.polygon))

-- the rule at a point where y and x have some points on its arc
abbrev pub point_keeps : Drawing → List ℕ → List ℕ → ℕ → ℕ → ℕ → ℕ → Bool
point_keeps d table set from to a j = rule_at (nat_eq from j) (nat_eq to j) (met table set (from_spans d a j)) (met table set (to_spans d a j))

-- all points of an arc keep it
abbrev pub arc_keeps : Drawing → List ℕ → List ℕ → ℕ → ℕ → ℕ → Bool
arc_keeps d table set from to a = list_all (point_keeps d table set from to a) (below (suc (crossings_of d a)))

-- and those of all arcs
abbrev pub all_keep : Drawing → List ℕ → List ℕ → List ℕ → List ℕ → Bool
all_keep d table set y x = list_all (λ a. arc_keeps d table set (slice_index y a) (slice_index x a) a) (below (arc_count d.polygon))

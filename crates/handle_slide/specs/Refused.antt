-- When a slide is refused, and what one that isn't makes of a polygon and curves on it.
use Rattle.std.specs.Prelude.{◌≡◌, ℕ, ◌<◌, nat_eq, nat_le, nat_lt, List, [], ◌∷◌, map, length, position, slice_index_or, Option, None, option_map}
use Rattle.std.specs.Option.{option_map_or}
use Rattle.obd_base.specs.Options.{first_of, when}
use Rattle.obd_base.specs.declared.points.Exit.{Exit}
use Rattle.page_surface.specs.Polygon.{Polygon, partner, sides}
use Rattle.handle_slide.specs.Slide.{side_after, slid_curve, slid_exits, slid_polygon}
use Rattle.handle_slide.specs.declared.refusal.SlideRefusal.{SlideRefusal}
use Rattle.handle_slide.specs.declared.refusal.SlideRefusal.TheVariants.{NoSuchSide, SelfSlide, SlideCrossings}
use Rattle.handle_slide.specs.declared.slid.Slid.{Slid}

-- the next side is the partner of the side
abbrev pub IsSelfSlide : Polygon → ℕ → Type 0
IsSelfSlide p k = side_after p k ≡ partner p k

-- how many crossings a curve has after a slide; a dropped one has none
abbrev pub crossings_after : Polygon → ℕ → Option (List Exit) → ℕ
crossings_after p k curve = option_map_or (λ c. length (slid_exits p k c)) curve 0

-- the first curve with more than 32 crossings after a slide
abbrev pub first_long : Polygon → ℕ → List (Option (List Exit)) → Option ℕ
first_long p k curves = position (λ curve. nat_lt 32 (crossings_after p k curve)) curves

-- its number, and how many it has
abbrev pub crossings_of : Polygon → ℕ → List (Option (List Exit)) → ℕ → SlideRefusal
crossings_of p k curves i = SlideCrossings i (crossings_after p k (slice_index_or curves i None))

-- a curve has more than 32 crossings after a slide, which is refused by the curve's number and these
pub record IsLong (p : Polygon) (k number : ℕ) (curve : Option (List Exit)) (refusal : SlideRefusal) : Type 0 where
  pub long : 32 < crossings_after p k curve
  pub told : refusal ≡ SlideCrossings number (crossings_after p k curve)

-- why a slide is refused: the first rule that it breaks
abbrev pub refusal_of : Polygon → List (Option (List Exit)) → ℕ → Option SlideRefusal
refusal_of p curves k =
    first_of (when (nat_le (sides p) k) NoSuchSide
    ∷ when (nat_eq (side_after p k) (partner p k)) SelfSlide
    ∷ option_map (crossings_of p k curves) (first_long p k curves)
    ∷ [])

-- what a slide makes of a polygon and curves on it
abbrev pub after_slide : Slid → ℕ → Slid
after_slide s k = record { polygon = slid_polygon s.polygon k; curves = map (slid_curve s.polygon k) s.curves }

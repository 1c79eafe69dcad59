-- Slides one after another.
use Rattle.std.specs.Prelude.{ℕ, suc, List, [], ◌∷◌, Result, Ok, Err}
use Rattle.std.specs.Option.{option_map_or}
use Rattle.handle_slide.specs.Refused.{after_slide, refusal_of}
use Rattle.handle_slide.specs.declared.refusal.RefusedSlide.{RefusedSlide}
use Rattle.handle_slide.specs.declared.slid.Slid.{Slid}

-- what slides leave, one after another, each with the number of the one before and one; or the first that is refused
abbrev pub slid : ℕ → Slid → List ℕ → Result Slid RefusedSlide
slid number s [] = Ok s
slid number s (side ∷ slides) =
    option_map_or (λ reason. Err (record { slide = number; side = side; reason = reason })) (refusal_of s.polygon s.curves side) (slid (suc number) (after_slide s side) slides)

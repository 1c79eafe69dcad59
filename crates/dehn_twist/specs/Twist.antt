-- The drawing after a single Dehn twist, and after a power of one.
use Rattle.std.specs.Prelude.{ℕ, zero, suc, List, [], ◌∷◌, ℤ, pos, negsuc}
use Rattle.obd_base.specs.declared.points.Sign.TheVariants.{Minus, Plus}
use Rattle.obd_base.specs.declared.points.Exit.{Exit}
use Rattle.obd_base.specs.declared.points.Sign.{Sign}
use Rattle.page_surface.specs.Drawing.{Drawing, IsEmbedded, words}
use Rattle.page_surface.specs.Polygon.{Polygon}
use Rattle.curve_paths.specs.Curves.{twisted}
use Rattle.curve_paths.specs.Twists.{sign_of, turns_of}
use Rattle.drawing.specs.Tight.{IsTight, tight_drawing}

-- the tight drawing whose words are the reduced images of the words before
abbrev pub twisted_drawing : Drawing → List Exit → Sign → Drawing
twisted_drawing d c sign = tight_drawing d.polygon (twisted d.polygon c sign (words d))

-- a single twist as a power
abbrev pub unit_power : Sign → ℤ
unit_power Plus = pos 1
unit_power Minus = negsuc 0

-- a curve that crosses no side changes nothing
abbrev pub turned_drawing : Drawing → List Exit → Sign → Drawing
turned_drawing d [] sign = d
turned_drawing d (e ∷ c) sign = twisted_drawing d (e ∷ c) sign

-- so many twists one after another
abbrev pub drawing_times : List Exit → Sign → ℕ → Drawing → Drawing
drawing_times c sign zero d = d
drawing_times c sign (suc n) d = drawing_times c sign n (turned_drawing d c sign)

-- a power of the twist along a curve
abbrev pub drawing_by_power : List Exit → ℤ → Drawing → Drawing
drawing_by_power c power d = drawing_times c (sign_of power) (turns_of power) d

-- words that are those of an embedded tight drawing
pub record AreDrawn (p : Polygon) (ws : List (List ℕ)) : Type 0 where
  pub embedded : IsEmbedded (tight_drawing p ws)
  pub tight : IsTight (tight_drawing p ws)

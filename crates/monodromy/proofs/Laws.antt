-- The laws of the drawing of a twist word.
use Rattle.std.proofs.Common.{◌≡◌, ℕ, List, [], sym, ◌∙◌, ap}
use Rattle.std.specs.Prelude.{Result, Ok}
use Rattle.obd_base.specs.declared.points.Exit.{Exit}
use Rattle.page_surface.specs.Drawing.{Drawing, identity, words}
use Rattle.page_surface.specs.Polygon.{IsPolygon, Polygon}
use Rattle.curve_paths.specs.Twists.{by_entries, words_after}
use Rattle.curve_paths.specs.declared.twist.TooLong.{TooLong}
use Rattle.curve_paths.specs.declared.twist.Twist.{Twist}
use Rattle.drawing.specs.Tight.{tight_drawing}
use Rattle.dehn_twist.proofs.Laws.{identity_is_tight, words_of_identity}

-- a twist word carried out on the words of the identity drawing
pub word_from_identity : (p : Polygon) (cs : List (List Exit)) (twists : List Twist) (d : Drawing) → d ≡ identity p → by_entries d.polygon cs 0 twists (words d) ≡ words_after p cs twists
word_from_identity p cs twists d is =
    ap (λ (e : Drawing). by_entries e.polygon cs 0 twists (words e)) is ∙ ap (by_entries p cs 0 twists) (words_of_identity p)

-- without a twist it is the identity drawing
pub no_twists : (p : Polygon) → IsPolygon p → (cs : List (List Exit)) (d : Drawing) → words_after p cs [] ≡ Ok (words d) → d ≡ tight_drawing p (words d) → d ≡ identity p
no_twists p ok cs d after drawn = drawn ∙ (ap (tight_drawing p) (sym (same after)) ∙ sym (identity_is_tight p ok))
  where
    same : {x y : List (List ℕ)} → ◌≡◌ {A = Result (List (List ℕ)) TooLong} (Ok x) (Ok y) → x ≡ y
    same e = cc

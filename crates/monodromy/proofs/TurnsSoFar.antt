-- Single twists of a drawing, one after another.
use Rattle.std.proofs.Common.{◌≡◌, ℕ, ◌+◌, ◌-◌, ◌<◌, ◌≤◌, List, [], length, sym, ◌∙◌, ap, arith}
use Rattle.std.specs.Prelude.{Ok, Err, ℤ}
use Rattle.obd_base.specs.declared.points.Exit.{Exit}
use Rattle.obd_base.specs.declared.points.Sign.{Sign}
use Rattle.page_surface.specs.Drawing.{Drawing, all_exits, words}
use Rattle.page_surface.specs.Polygon.{Polygon}
use Rattle.curve_paths.specs.Curves.{twisted}
use Rattle.curve_paths.specs.Twists.{by_power, limited, sign_of, times, turned_by, turns_of}
use Rattle.path_words.proofs.Turns.{times_long, times_more, times_none, turned_by_some}
use Rattle.dehn_twist.proofs.DrawnWords.{letters_of}

module _ (p q : Polygon) (c : List Exit) (sign : Sign) (turns turn : ℕ) (first ws : List (List ℕ)) (same : q ≡ p) (some : 1 ≤ length c) (left : turn < turns)
    (before : times p c sign turns first ≡ times p c sign (turns - turn) ws) where
  -- what a single twist makes of the words
  turned_is : limited (turned_by p c sign ws) ≡ limited (twisted q c sign ws)
  turned_is = ap limited (turned_by_some p c sign ws some ∙ ap (λ (r : Polygon). twisted r c sign ws) (sym same))

  -- one twist more
  pub turn_more : (now : List (List ℕ)) → limited (twisted q c sign ws) ≡ Ok now → times p c sign turns first ≡ times p c sign (turns - (turn + 1)) now
  turn_more now turned = times_more p c sign turns turn first ws now left before (turned_is ∙ turned)

  -- one that is too long
  pub turn_long : (count : ℕ) → limited (twisted q c sign ws) ≡ Err count → times p c sign turns first ≡ Err count
  turn_long count long = times_long p c sign turns turn count first ws left before (turned_is ∙ long)

-- a curve that crosses no side changes no drawing with few points
pub none_changes : (d : Drawing) (power : ℤ) → length (all_exits d) ≤ 4000 → by_power d.polygon [] power (words d) ≡ Ok (words d)
none_changes d power few = times_none d.polygon (sign_of power) (turns_of power) (words d) (omega (arith, letters_of d, few))

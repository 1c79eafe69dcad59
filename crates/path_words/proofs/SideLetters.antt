-- Words of sides are words over letters with inverses.
use Rattle.std.proofs.Common.{◌<◌, ◌≡◌, ℕ, eqb, List, [], ◌∷◌, refl, ◌∙◌, ap}
use Rattle.std.proofs.lemmas.Bool.{eqb-true, eq-eqb}
use Rattle.obd_base.specs.Lists.{Mem}
use Rattle.page_surface.specs.Polygon.{sides, Polygon, partner, Pairs}
use Rattle.page_surface.specs.Words.{push_letter, reduced}
use Rattle.curve_paths.specs.Alphabet.{Alphabet, push, cancelled}

-- the letters of the word are sides
abbrev pub AreSides : Polygon → List ℕ → Type 0
AreSides p w = (s : ℕ) → Mem s w → s < sides p

-- the sides of a polygon, each with its partner as inverse
abbrev pub side_letters : (p : Polygon) → Pairs p → Alphabet ℕ
side_letters p ok = record {
  same = eqb;
  inv = partner p;
  same_true = λ x y e. eqb-true x y e;
  same_self = λ x. eq-eqb x x refl;
  twice = ok.twice;
}

push_is : (p : Polygon) (ok : Pairs p) (s : ℕ) (w : List ℕ) → push_letter p s w ≡ push (side_letters p ok) s w
push_is p ok s [] = refl
push_is p ok s (t ∷ w) = refl

-- the reduced form of a word of sides is that of its letters
pub reduced_is : (p : Polygon) (ok : Pairs p) (w : List ℕ) → reduced p w ≡ cancelled (side_letters p ok) w
reduced_is p ok [] = refl
reduced_is p ok (s ∷ w) = ap (push_letter p s) (reduced_is p ok w) ∙ push_is p ok s (cancelled (side_letters p ok) w)

-- The number of a point on its arc, as it is read from tables.
use Rattle.std.proofs.Common.{◌≡◌, ◌≢◌, ℕ, ◌+◌, ◌-◌, ◌<◌, ◌≤◌, Bool, true, false, cond, ltb, eqb, not, ◌||◌, List, get_or, refl, set, sym, ap, subst, arith, ◌∙◌}
use Rattle.std.proofs.lemmas.Bool.{eq-eqb, le-ltb, lt-ltb, ne_eqb}
use Rattle.drawing.specs.Layout.{offsets_of}
use Rattle.drawing.specs.Round.{point_of, side_of}
use Rattle.empty_domains.proofs.Looks.{look_side, side_spot}
use Rattle.empty_domains.proofs.Places.{side_is}
use Rattle.empty_domains.specs.Ground.{Ground, IsGround, IsSpot}
use Rattle.empty_domains.specs.Strip.{Step}
use Rattle.empty_domains.specs.Walk.{target}
use Rattle.page_surface.specs.Drawing.{Drawing, IsEmbedded, offset, points_on}
use Rattle.page_surface.specs.Polygon.{arc, first_side, sides}
use Rattle.region_table.proofs.ChordTables.{start_read}

-- by its side and place
point_told : (d : Drawing) (at side place points number : ℕ) → side ≡ side_of d at → place ≡ at - offset d side → points ≡ points_on d side → number ≡ first_side d.polygon (arc d.polygon side)
    → point_of d at ≡ cond (eqb side number || not (ltb place points)) place (points - 1 - place)
point_told d at side place points number e p q n = rw (n, p, q, e) refl

chosen : (b : Bool) (n m : ℕ) → b ≡ true → cond b n m ≡ n
chosen b n m h = rw h refl

other_chosen : (b : Bool) (n m : ℕ) → b ≡ false → cond b n m ≡ m
other_chosen b n m h = rw h refl

or_left : (a b : Bool) → a ≡ true → (a || b) ≡ true
or_left a b h = rw h refl

or_right : (a b : Bool) → b ≡ false → (a || not b) ≡ true
or_right true b h = refl
or_right false b h = rw h refl

or_none : (a b : Bool) → a ≡ false → b ≡ true → (a || not b) ≡ false
or_none a b h k = rw (h, k) refl

module _ (d : Drawing) (ok : IsEmbedded d) (g : Ground) (is : IsGround d g) (starts : List ℕ) (starts_are : starts ≡ offsets_of d) (at : ℕ) (spot : IsSpot d at) (side : ℕ) (here : side ≡ get_or g.side at 0) where
  -- the table has the point's side
  pub point_side : side ≡ side_of d at
  point_side = here ∙ (look_side d ok g is at spot).1

  -- which is a side
  pub point_side_under : side < sides d.polygon
  point_side_under = subst (λ k. k < sides d.polygon) (sym point_side) (side_spot d ok at spot)

  start_known : get_or starts side 0 ≡ offset d side
  start_known = start_read d starts starts_are side (omega (arith, point_side_under))

  -- that begins at most at the point
  pub point_start : get_or starts side 0 ≤ at
  point_start =
      let e : side ≡ spot.side = point_side ∙ (ap (side_of d) spot.number ∙ side_is d spot.side spot.place spot.on (omega (arith, spot.under))) in
      omega (arith, start_known, ap (offset d) e, spot.number)

  module _ (points number : ℕ) (counted : points ≡ points_on d side) (first : number ≡ first_side d.polygon (arc d.polygon side)) where
    abbrev place : ℕ
    place = at - get_or starts side 0

    told : point_of d at ≡ cond (eqb side number || not (ltb place points)) place (points - 1 - place)
    told = point_told d at side place points number point_side (ap (λ z. at - z) start_known) counted first

    -- on an arc's first side it is the place
    pub point_first : number ≡ side → at - get_or starts side 0 ≡ point_of d at
    point_first e = sym (told ∙ chosen (eqb side number || not (ltb place points)) place (points - 1 - place) (or_left (eqb side number) (not (ltb place points)) (eq-eqb side number (sym e))))

    -- so it is for the end of a side
    pub point_last : points ≤ at - get_or starts side 0 → at - get_or starts side 0 ≡ point_of d at
    point_last l = sym (told ∙ chosen (eqb side number || not (ltb place points)) place (points - 1 - place) (or_right (eqb side number) (ltb place points) (le-ltb place points l)))

    -- on the other side places count down
    pub point_less : number ≢ side → at - get_or starts side 0 < points → points - 1 - (at - get_or starts side 0) ≡ point_of d at
    point_less n l = sym (told ∙ other_chosen (eqb side number || not (ltb place points)) place (points - 1 - place) (or_none (eqb side number) (ltb place points) (ne_eqb side number (λ e. n (sym e))) (lt-ltb place points l)))

-- the points to which a step leads, by its parts
pub step_led : (d : Drawing) (y x : List ℕ) (s : Step) (first second start stop p q : ℕ) → x ≡ y → first ≡ s.by.first → second ≡ s.by.second → start ≡ s.by.start + s.by.width → stop ≡ s.by.stop + s.by.width
    → p ≡ point_of d start → q ≡ point_of d stop → set (set x first p) second q ≡ target d y s.by
step_led d y x s first second start stop p q e f g h k u v = rw (u, v, h, k, f, g, e) refl

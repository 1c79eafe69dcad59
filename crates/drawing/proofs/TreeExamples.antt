-- Worked trees of pieces, and the boundary of a hexagon.
use Rattle.std.proofs.Common.{◌≡◌, ℕ, List, [], ◌∷◌, refl, sym, ap, subst, arith, inl, inr}
use Rattle.obd_base.specs.Lists.{Mem}
use Rattle.page_surface.specs.Drawing.{Chord, chords}
use Rattle.page_surface.proofs.Examples.{torus_two_hexagons, torus_without_twist}
use Rattle.drawing.specs.Boundary.{IsBoundary, IsFromPoint, Stretch}
use Rattle.drawing.specs.Pieces.{pieces}
use Rattle.drawing.specs.Trees.{Link, chord_links, glued_links}

-- a link by its two vertices
abbrev link : ℕ → ℕ → Link
link one other = record { one = one; other = other }

-- without a twist: the base piece 0, and a bigon at the end of each side
torus_without_twist_names : pieces torus_without_twist ≡ 0 ∷ 1 ∷ 4 ∷ 7 ∷ 10 ∷ []
torus_without_twist_names = refl

-- each chord cuts a bigon off the base piece
torus_without_twist_chords : chord_links torus_without_twist ≡ link 7 0 ∷ link 0 1 ∷ link 10 0 ∷ link 0 4 ∷ []
torus_without_twist_chords = refl

-- and glued segments lead from each bigon to the base piece
torus_without_twist_glued : glued_links torus_without_twist ≡ link 0 7 ∷ link 1 0 ∷ link 0 10 ∷ link 4 0 ∷ []
torus_without_twist_glued = refl

-- two hexagons, 1 and 5, and four base pieces
torus_two_hexagons_names : pieces torus_two_hexagons ≡ 0 ∷ 1 ∷ 2 ∷ 5 ∷ 6 ∷ 9 ∷ []
torus_two_hexagons_names = refl

-- a chord lies between the hexagons, and behind the other two chords of each are two base pieces
torus_two_hexagons_chords : chord_links torus_two_hexagons ≡ link 5 9 ∷ link 1 5 ∷ link 2 1 ∷ link 1 0 ∷ link 6 5 ∷ []
torus_two_hexagons_chords = refl

-- the hexagons are glued to one another as well, and each to two base pieces
torus_two_hexagons_glued : glued_links torus_two_hexagons ≡ link 0 5 ∷ link 1 6 ∷ link 2 1 ∷ link 1 5 ∷ link 5 9 ∷ []
torus_two_hexagons_glued = refl

-- a segment and the chord behind it
abbrev stretch : ℕ → ℕ → ℕ → Stretch
stretch segment from to = record { segment = segment; chord = record { from = from; to = to } }

-- round the first hexagon; the chord behind segment 1 is run against its direction
abbrev first_hexagon : List Stretch
first_hexagon = stretch 1 3 1 ∷ stretch 4 4 11 ∷ stretch 12 12 0 ∷ []

-- what holds of three things holds of each of them
of_three : {X : Type 0} (P : X → Type 0) (a b c : X) → P a → P b → P c → (x : X) → Mem x (a ∷ b ∷ c ∷ []) → P x
of_three P a b c p q r x (inl e) = subst P (sym e) p
of_three P a b c p q r x (inr (inl e)) = subst P (sym e) q
of_three P a b c p q r x (inr (inr (inl e))) = subst P (sym e) r
of_three P a b c p q r x (inr (inr (inr m))) = absurd m

-- one chord has one start
starts : {c e : Chord} → c ≡ e → c.from ≡ e.from
starts e = ap (λ (c : Chord). c.from) e

-- it is bounded by three segments and three chords
first_hexagon_boundary : IsBoundary torus_two_hexagons 1 first_hexagon
first_hexagon_boundary = record {
  segments = refl;
  from_points = of_three (λ (p : Stretch). IsFromPoint torus_two_hexagons p.segment) (stretch 1 3 1) (stretch 4 4 11) (stretch 12 12 0)
      (record { side = 0; place = 0; side_in_range = omega arith; place_in_range = omega arith; ends_at = refl })
      (record { side = 1; place = 0; side_in_range = omega arith; place_in_range = omega arith; ends_at = refl })
      (record { side = 3; place = 1; side_in_range = omega arith; place_in_range = omega arith; ends_at = refl });
  of_drawing = of_three (λ (p : Stretch). Mem p.chord (chords torus_two_hexagons)) (stretch 1 3 1) (stretch 4 4 11) (stretch 12 12 0)
      (inr (inr (inl refl))) (inr (inl refl)) (inr (inr (inr (inl refl))));
  each_once = (
    (λ m. elim m [ inl e ↦ absurd (let q = starts e in omega (arith, q)) | inr n ↦ elim n [ inl e ↦ absurd (let q = starts e in omega (arith, q)) | inr k ↦ k ] ]),
    ((λ m. elim m [ inl e ↦ absurd (let q = starts e in omega (arith, q)) | inr k ↦ k ]), ((λ k. k), tt)),
  );
  in_turn = (inr (refl, refl), (inl (refl, refl), (inl (refl, refl), tt)));
}

-- Without a turn a drawing is embedded, one word has taken a step, and there are two exits fewer on the two sides of the turn.
use Rattle.std.proofs.Common.{◌≡◌, ℕ, suc, ◌+◌, ◌-◌, ◌*◌, ◌<◌, ◌≤◌, Bool, true, false, eqb, ltb, leb, not, ◌&&◌, List, [], ◌∷◌, ◌++◌, map, length, refl, sym, ◌∙◌, ap, arith, ◌⊎◌, inl, inr, ◌≢◌}
use Rattle.std.specs.List.{sum_by, list_all}
use Rattle.std.proofs.lemmas.Bool.{cases_lt, cases_eq, eq-eqb, ne_eqb, le-leb, lt-leb, and_from, not_from_true}
use Rattle.std.proofs.lemmas.List.{map-append}
use Rattle.std.proofs.lemmas.List.Sums.{sum_by-cons}
use Rattle.obd_base.proofs.lists.Below.{bit}
use Rattle.obd_base.proofs.lists.Sums.{bit-le, sum_same, sum_none}
use Rattle.obd_base.specs.declared.points.Exit.{Exit}
use Rattle.page_surface.proofs.EmbeddedTest.{all_in}
use Rattle.page_surface.specs.Drawing.{Drawing, entry, spot, points_on, offset, all_exits, strand_exits, stands_at, HasRightPlaces, IsEmbedded}
use Rattle.page_surface.specs.Polygon.{partner, sides, arc_count}
use Rattle.page_surface.specs.Words.{Step}
use Rattle.drawing.specs.Turns.{IsTurn, lowered, without_turn, turn_place, far_place}
use Rattle.drawing.proofs.Ends.{place_in}
use Rattle.drawing.proofs.Lists.{length_sum}
use Rattle.drawing.proofs.Placed.{exit_at, exit_stands}
use Rattle.drawing.proofs.Spots.{spot_apart}
use Rattle.drawing.proofs.tight.StrandWays.{letters}
use Rattle.drawing.proofs.tight.TightPlaces.{letters_split}
use Rattle.drawing.proofs.tight.TurnChords.{still_uncrossed}
use Rattle.drawing.proofs.tight.TurnCounts.{row, row_there, strand_new, count_new, sum_both, u_place, v_place, places, places_meet, far_count}
use Rattle.drawing.proofs.tight.TurnMap.{thin, up, up_rises, up_spot, up_place, up_near, up_far, points, kept}

-- a list of which nothing fails
pub all_pass : {X : Type 0} (p : X → Bool) (xs : List X) → sum_by (λ x. bit (not (p x))) xs ≡ 0 → list_all p xs ≡ true
all_pass p [] h = refl
all_pass p (x ∷ xs) h =
    let s = sum_by-cons (λ x. bit (not (p x))) x xs in
    and_from (p x) (list_all p xs) (passes (p x) (omega (arith, s, h))) (all_pass p xs (omega (arith, s, h)))
  where
    passes : (b : Bool) → bit (not b) ≡ 0 → b ≡ true
    passes true e = refl
    passes false e = absurd (omega arith)

-- two tests together pass no more often than the first
bit_part : (a b : Bool) → bit (a && b) ≤ bit a
bit_part true b = bit-le b
bit_part false b = omega arith

module _ (d : Drawing) (ok : IsEmbedded d) (i : ℕ) (us : List Exit) (u v : Exit) (vs : List Exit) (turn : IsTurn d i us u v vs) where
  -- the drawing without the turn
  abbrev thinner : Drawing
  thinner = thin d ok i us u v vs turn

  -- the number in the drawing with the turn of a number in the one without
  abbrev lift : ℕ → ℕ
  lift = up d ok i us u v vs turn

  -- and the place of a place
  abbrev lift_place : ℕ → ℕ → ℕ
  lift_place = up_place d ok i us u v vs turn

  -- the lesser place of the turn on the side
  abbrev s : ℕ
  s = turn_place d u v

  -- and on the partner
  abbrev t : ℕ
  t = far_place d u v

  -- a place on a side goes to a place on it
  lift_place_in : (l j : ℕ) → j < points_on thinner l → lift_place l j < points_on d l
  lift_place_in l j h = omega (arith, points d ok i us u v vs turn l, bit_part (eqb u.side l) (leb s j), bit_part (eqb (partner d.polygon u.side) l) (leb t j))

  -- places are moved past the two of the turn
  jumps : (r j : ℕ) → (j + 2 * bit (leb r j) ≢ r) × (j + 2 * bit (leb r j) ≢ suc r)
  jumps r j = elim (cases_lt j r) [
    | inl l ↦ (let z : bit (leb r j) ≡ 0 = rw (lt-leb r j l) refl in ((λ q. omega (arith, z)), (λ q. omega (arith, z))))
    | inr l ↦ (let z : bit (leb r j) ≡ 1 = rw (le-leb r j l) refl in ((λ q. omega (arith, z)), (λ q. omega (arith, z))))
  ]

  -- no number of the new drawing is carried to a point of the turn
  misses_near : (l j a : ℕ) → j < points_on thinner l → (a ≡ s) ⊎ (a ≡ suc s) → a ≤ points_on d u.side → offset d u.side + a ≢ lift (offset thinner l + j)
  misses_near l j a h w la q =
      let e : offset d u.side + a ≡ offset d l + lift_place l j = q ∙ up_spot d ok i us u v vs turn l j (omega arith) in
      let r = spot_apart d u.side a l (lift_place l j) (omega arith) (omega (arith, lift_place_in l j h)) e in
      let z : a ≡ j + 2 * bit (leb s j) = r.1 ∙ (ap (λ x. lift_place x j) (sym r.0) ∙ up_near d ok i us u v vs turn j) in
      elim w [ inl y ↦ (jumps s j).0 (sym z ∙ y) | inr y ↦ (jumps s j).1 (sym z ∙ y) ]

  -- nor to one on the partner
  misses_far : (l j a : ℕ) → j < points_on thinner l → (a ≡ t) ⊎ (a ≡ suc t) → a ≤ points_on d (partner d.polygon u.side) → offset d (partner d.polygon u.side) + a ≢ lift (offset thinner l + j)
  misses_far l j a h w la q =
      let e : offset d (partner d.polygon u.side) + a ≡ offset d l + lift_place l j = q ∙ up_spot d ok i us u v vs turn l j (omega arith) in
      let r = spot_apart d (partner d.polygon u.side) a l (lift_place l j) (omega arith) (omega (arith, lift_place_in l j h)) e in
      let z : a ≡ j + 2 * bit (leb t j) = r.1 ∙ (ap (λ x. lift_place x j) (sym r.0) ∙ up_far d ok i us u v vs turn j) in
      elim w [ inl y ↦ (jumps t j).0 (sym z ∙ y) | inr y ↦ (jumps t j).1 (sym z ∙ y) ]

  -- the way out of the turn stands at no point of the new drawing
  out_not_here : (l j : ℕ) → j < points_on thinner l → exit_at d (lift (offset thinner l + j)) u ≡ 0
  out_not_here l j h =
      let y = lift (offset thinner l + j) in
      let up = u_place d ok i us u v vs turn in
      let g = places_meet d ok i us u v vs turn in
      let w = places d ok i us u v vs turn in
      let far = far_count d ok i us u v vs turn in
      let a : bit (eqb (spot d u) y) ≡ 0 = rw (ne_eqb (spot d u) y (misses_near l j u.place h (elim w [ inl x ↦ inr x.0 | inr x ↦ inl x.0 ]) (omega arith))) refl in
      let b : bit (eqb (spot d (entry d u)) y) ≡ 0
      = rw (ne_eqb (spot d (entry d u)) y (misses_far l j (points_on d u.side - 1 - u.place) h
      (elim w [ inl x ↦ inl (omega (arith, x, g)) | inr x ↦ inr (omega (arith, x, g)) ]) (omega (arith, up, far)))) refl in
      omega (arith, a, b)

  -- and neither does the way back
  back_not_here : (l j : ℕ) → j < points_on thinner l → exit_at d (lift (offset thinner l + j)) v ≡ 0
  back_not_here l j h =
      let y = lift (offset thinner l + j) in
      let vp = v_place d ok i us u v vs turn in
      let g = places_meet d ok i us u v vs turn in
      let w = places d ok i us u v vs turn in
      let far = far_count d ok i us u v vs turn in
      let m : points_on d v.side ≡ points_on d u.side = ap (points_on d) turn.turns.returns ∙ far in
      let o : offset d v.side ≡ offset d (partner d.polygon u.side) = ap (offset d) turn.turns.returns in
      let b : offset d (partner d.polygon v.side) ≡ offset d u.side = ap (λ x. offset d (partner d.polygon x)) turn.turns.returns ∙ ap (offset d) (ok.polygon.pairs.twice u.side) in
      let at : offset d v.side + v.place ≢ y = λ q. misses_far l j v.place h (elim w [ inl x ↦ inr x.1 | inr x ↦ inl x.1 ]) (omega (arith, vp, far)) (sym (ap (λ z. z + v.place) o) ∙ q) in
      let entered : offset d (partner d.polygon v.side) + (points_on d v.side - 1 - v.place) ≢ y = λ q.
      misses_near l j (points_on d v.side - 1 - v.place) h (elim w [ inl x ↦ inl (omega (arith, x, g, m)) | inr x ↦ inr (omega (arith, x, g, m)) ]) (omega (arith, vp, m))
      (sym (ap (λ z. z + (points_on d v.side - 1 - v.place)) b) ∙ q) in
      let p : bit (eqb (spot d v) y) ≡ 0 = rw (ne_eqb (spot d v) y at) refl in
      let r : bit (eqb (spot d (entry d v)) y) ≡ 0 = rw (ne_eqb (spot d (entry d v)) y entered) refl in
      omega (arith, p, r)

  -- numbers stay apart
  lift_eqb : (x y : ℕ) → eqb (lift x) (lift y) ≡ eqb x y
  lift_eqb x y = elim (cases_eq x y) [
    | inl q ↦ (let z : lift x ≡ lift y = ap lift q in rw (eq-eqb x y q, eq-eqb (lift x) (lift y) z) refl)
    | inr n ↦ rw (
      ne_eqb x y n,
      ne_eqb (lift x) (lift y) (λ q. elim (cases_lt x y) [
        | inl l ↦ omega (arith, up_rises d ok i us u v vs turn x y l, q)
        | inr l ↦ omega (arith, up_rises d ok i us u v vs turn y x (omega arith), q)
      ]),
    ) refl
  ]

  -- places are right without the turn
  still_right : HasRightPlaces thinner
  still_right l ll j lj =
      let y = offset thinner l + j in
      let q = lift_place l j in
      let lq = lift_place_in l j lj in
      let both = sum_both d ok i us u v vs turn (exit_at d (lift y)) (λ x. stands_at thinner x l j) (λ r x lr m.
      let g = kept d ok i us u v vs turn r x lr m in
      let a : bit (eqb (spot thinner (lowered d u v x)) y) ≡ bit (eqb (spot d x) (lift y)) = ap bit (sym (lift_eqb (spot thinner (lowered d u v x)) y)) ∙ ap (λ z. bit (eqb z (lift y))) g.here in
      let b : bit (eqb (spot thinner (entry thinner (lowered d u v x))) y) ≡ bit (eqb (spot d (entry d x)) (lift y)) = ap bit (sym (lift_eqb (spot thinner (entry thinner (lowered d u v x))) y)) ∙ ap (λ z. bit (eqb z (lift y))) g.there in
      sym (exit_stands thinner ok.polygon l j lj (lowered d u v x) g.inside) ∙ omega (arith, a, b)) in
      let number : lift y ≡ offset d l + q = up_spot d ok i us u v vs turn l j (omega arith) in
      let old : sum_by (exit_at d (lift y)) (all_exits d) ≡ 1
      = ap (λ z. sum_by (exit_at d z) (all_exits d)) number
      ∙ (sum_same (exit_at d (offset d l + q)) (λ x. stands_at d x l q) (all_exits d) (λ x m. exit_stands d ok.polygon l q lq x (place_in d ok x m)) ∙ ok.places l ll q lq) in
      omega (arith, both, old, out_not_here l j lj, back_not_here l j lj)

  -- the exits stand on sides
  still_on_sides : list_all (λ e. ltb e.side (sides d.polygon)) (all_exits thinner) ≡ true
  still_on_sides =
      let f : Exit → ℕ = λ x. bit (not (ltb x.side (sides d.polygon))) in
      let old = sum_none f (all_exits d) (λ x m. ap bit (not_from_true _ (all_in (λ e. ltb e.side (sides d.polygon)) x (all_exits d) ok.on_sides m))) in
      all_pass (λ e. ltb e.side (sides d.polygon)) (all_exits thinner) (omega (arith, sum_both d ok i us u v vs turn f f (λ j x l m. refl), old))

  -- without the turn the drawing is embedded
  pub turn_removed : IsEmbedded (without_turn d i us u v vs)
  turn_removed = record {
    polygon = ok.polygon;
    strand_count = count_new d ok i us u v vs turn;
    on_sides = still_on_sides;
    places = still_right;
    uncrossed = still_uncrossed d ok i us u v vs turn;
  }

  -- exits keep their sides
  letters_lowered : (es : List Exit) → letters (map (lowered d u v) es) ≡ letters es
  letters_lowered [] = refl
  letters_lowered (x ∷ es) = ap (λ w. x.side ∷ w) (letters_lowered es)

  -- one step in the strand's word
  pub word_steps : Step d.polygon (letters (strand_exits d i)) (letters (strand_exits (without_turn d i us u v vs) i))
  word_steps = (
    letters us,
    letters vs,
    u.side,
    ap letters turn.splits ∙ (letters_split us u (v ∷ vs) ∙ ap (λ x. letters us ++ (u.side ∷ x ∷ letters vs)) turn.turns.returns),
    ap letters (strand_new d ok i us u v vs turn i turn.arc) ∙ (letters_lowered (row d ok i us u v vs turn i) ∙ (ap letters (row_there d ok i us u v vs turn) ∙ map-append (λ (e : Exit). e.side) us vs)),
  )

  -- all other words are kept
  pub other_words : (j : ℕ) → j < arc_count d.polygon → j ≢ i → letters (strand_exits (without_turn d i us u v vs) j) ≡ letters (strand_exits d j)
  other_words j l ne =
      let same : row d ok i us u v vs turn j ≡ strand_exits d j = rw (ne_eqb j i ne) refl in
      ap letters (strand_new d ok i us u v vs turn j l) ∙ (letters_lowered (row d ok i us u v vs turn j) ∙ ap letters same)

  -- two exits fewer
  pub exits_fewer : length (all_exits (without_turn d i us u v vs)) + 2 ≡ length (all_exits d)
  exits_fewer = omega (arith, length_sum (all_exits d), length_sum (all_exits thinner), sum_both d ok i us u v vs turn (λ x. 1) (λ x. 1) (λ j x l m. refl))

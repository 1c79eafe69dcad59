-- The place of an exit in a part, told by the part's exits.
use Rattle.std.proofs.Common.{◌≡◌, ℕ, suc, ◌+◌, ◌-◌, ◌<◌, Bool, true, false, eqb, ltb, ◌&&◌, ◌||◌, List, [], ◌∷◌, ◌++◌, map, length, get_or, take, refl, sym, ◌∙◌, ap, ap₂, inl, inr, arith}
use Rattle.std.specs.List.{sum_by}
use Rattle.std.proofs.lemmas.Bool.{cases_eq, cases_lt, eq-eqb, ne_eqb, lt-ltb, le-ltb}
use Rattle.std.proofs.lemmas.List.{map_more}
use Rattle.obd_base.specs.Lists.{below}
use Rattle.obd_base.specs.declared.points.Exit.{Exit}
use Rattle.obd_base.proofs.lists.Below.{bit, mem_below}
use Rattle.obd_base.proofs.lists.Sums.{count_below, sum_add, sum_none, sum_same, sum_swap}
use Rattle.page_surface.specs.Drawing.{exit, is_at}
use Rattle.page_surface.specs.Polygon.{Pairs, Polygon, partner}
use Rattle.curve_paths.specs.Curves.{IsCurve, curve_points, curve_stands}
use Rattle.curve_paths.proofs.CurvePoints.{points_partner}
use Rattle.tight_curves.specs.Parts.{IsPart, has_point, place_among}
use Rattle.tight_curves.specs.Turns.{makes_before, place_by_exits}
use Rattle.tight_curves.proofs.PartPlaces.{met, same_test}
use Rattle.tight_curves.proofs.PartPoints.{In}

-- numbers that lie so are told alike
same_less : (a b x y : ℕ) → (a < b → x < y) → (x < y → a < b) → ltb a b ≡ ltb x y
same_less a b x y f g = elim (cases_lt a b) [
  | inl l ↦ lt-ltb a b l ∙ sym (lt-ltb x y (f l))
  | inr l ↦ elim (cases_lt x y) [
    | inl m ↦ absurd (omega (arith, l, g m))
    | inr m ↦ le-ltb a b l ∙ sym (le-ltb x y m)
  ]
]

module _ (p : Polygon) (ok : Pairs p) (c : List Exit) (curve : IsCurve p c) (s : List Exit) (part : IsPart p c s) (at : Exit) (inside : In p ok c curve at) where
  -- how often an exit leaves before the place
  leaves_before : (x : Exit) → sum_by (λ i. bit (is_at x at.side i)) (below at.place) ≡ bit (eqb x.side at.side && ltb x.place at.place)
  leaves_before x = elim (cases_eq x.side at.side) [
    | inl q ↦ (let t = eq-eqb x.side at.side q in
        sum_same (λ i. bit (is_at x at.side i)) (λ i. bit (eqb x.place i)) (below at.place) (λ i l. rw t refl) ∙ (count_below x.place at.place ∙ rw t refl))
    | inr n ↦ (let t = ne_eqb x.side at.side n in sum_none (λ i. bit (is_at x at.side i)) (below at.place) (λ i l. rw t refl) ∙ rw t refl)
  ]

  -- and how often it enters before it
  enters_before : (x : Exit) → In p ok c curve x
      → sum_by (λ i. bit (eqb (partner p x.side) at.side && eqb (suc (x.place + i)) (curve_points p c at.side))) (below at.place)
      ≡ bit (eqb x.side (partner p at.side) && ltb (curve_points p c at.side - 1 - at.place) x.place)
  enters_before x h = elim (cases_eq (partner p x.side) at.side) [
    | inl q ↦ (let t = eq-eqb (partner p x.side) at.side q in
        let u : x.side ≡ partner p at.side = sym (ok.twice x.side) ∙ ap (partner p) q in
        let w = eq-eqb x.side (partner p at.side) u in
        let n : curve_points p c at.side ≡ curve_points p c x.side = ap (curve_points p c) (sym q) ∙ points_partner p ok c curve x.side in
        let y : ℕ = curve_points p c at.side - 1 - x.place in
        rw w (sum_same (λ i. bit (eqb (partner p x.side) at.side && eqb (suc (x.place + i)) (curve_points p c at.side))) (λ i. bit (eqb y i)) (below at.place)
        (λ i l. rw t (ap bit (same_test (suc (x.place + i)) (curve_points p c at.side) y i (λ r. omega (arith, r)) (λ r. omega (arith, r, n, h.1)))))
        ∙ (count_below y at.place ∙ ap bit (same_less y at.place (curve_points p c at.side - 1 - at.place) x.place (λ r. omega (arith, r, n, h.1, inside.1)) (λ r. omega (arith, r, n, h.1, inside.1))))))
    | inr ne ↦ (let t = ne_eqb (partner p x.side) at.side ne in
        let w = ne_eqb x.side (partner p at.side) (λ e. ne (ap (partner p) e ∙ ok.twice at.side)) in
        rw w (sum_none (λ i. bit (eqb (partner p x.side) at.side && eqb (suc (x.place + i)) (curve_points p c at.side))) (below at.place) (λ i l. rw t refl)))
  ]

  -- never both, since a side isn't its own partner
  one_of_both : (x : Exit) → bit (eqb x.side at.side && ltb x.place at.place) + bit (eqb x.side (partner p at.side) && ltb (curve_points p c at.side - 1 - at.place) x.place) ≡ bit (makes_before p c at x)
  one_of_both x = elim (cases_eq x.side at.side) [
    | inl q ↦ (let w = ne_eqb x.side (partner p at.side) (λ e. ok.moves at.side inside.0 (sym e ∙ q)) in rw w (neither (eqb x.side at.side && ltb x.place at.place)))
    | inr n ↦ (let t = ne_eqb x.side at.side n in rw t (omega arith))
  ]
    where
      neither : (b : Bool) → bit b + 0 ≡ bit (b || false)
      neither true = refl
      neither false = refl

  -- so the place is the number of exits that make a point before
  pub place_is : place_by_exits p c s at ≡ place_among p c s at.side at.place
  place_is =
      sym (sum_same (λ i. bit (has_point p c s at.side i)) (λ i. sum_by (λ x. curve_stands p c x at.side i) s) (below at.place)
      (λ i l. sym (met p ok c curve s part at.side i inside.0 (omega (arith, mem_below at.place i l, inside.1))))
      ∙ (sym (sum_swap (λ x i. curve_stands p c x at.side i) s (below at.place))
      ∙ sum_same (λ x. sum_by (λ i. curve_stands p c x at.side i) (below at.place)) (λ x. bit (makes_before p c at x)) s (λ x l.
      sum_add (λ i. bit (is_at x at.side i)) (λ i. bit (eqb (partner p x.side) at.side && eqb (suc (x.place + i)) (curve_points p c at.side))) (below at.place)
      ∙ (ap₂ (λ a b. a + b) (leaves_before x) (enters_before x (part.inside x l)) ∙ one_of_both x))))

-- one more exit with its place, put after others
pub placed_more : (p : Polygon) (c s : List Exit) (i : ℕ) (x : Exit) (place : ℕ) (old new : List Exit) → i < length s → x ≡ get_or s i x
    → old ≡ map (λ e. exit e.side (place_among p c s e.side e.place)) (take i s) → place ≡ place_among p c s x.side x.place → new ≡ old ++ exit x.side place ∷ []
    → new ≡ map (λ e. exit e.side (place_among p c s e.side e.place)) (take (i + 1) s)
placed_more p c s i x place old new l e so_far is more =
    let f : Exit → Exit = λ y. exit y.side (place_among p c s y.side y.place) in
    more ∙ (ap₂ (λ a b. a ++ b ∷ []) so_far (ap (exit x.side) is ∙ ap f e) ∙ sym (map_more f s i x l))

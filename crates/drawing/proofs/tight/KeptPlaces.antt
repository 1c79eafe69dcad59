-- How many places of a side stay when points are taken out.
use Rattle.std.proofs.Common.{◌≡◌, ℕ, zero, suc, ◌+◌, ◌-◌, ◌<◌, ◌≤◌, Bool, true, false, cond, eqb, not, ◌&&◌, List, [], ◌∷◌, map, refl, sym, ◌∙◌, ap, subst, arith, inl, inr, ◌≢◌}
use Rattle.std.specs.List.{count_by, sum_by}
use Rattle.std.proofs.lemmas.Bool.{cases_Bool, cases_lt, cases_eq, eq-eqb, ne_eqb, lt-ltb, le-ltb}
use Rattle.std.proofs.lemmas.List.Sums.{sum_by-cons}
use Rattle.obd_base.specs.Lists.{below, Mem}
use Rattle.obd_base.specs.declared.points.Exit.{Exit}
use Rattle.obd_base.proofs.lists.Below.{bit, count_suc, count_more, count_less, mem_below}
use Rattle.obd_base.proofs.lists.Sums.{sum_same, sum_add, sum_none, sum_map, sum_flat, sum_swap}
use Rattle.page_surface.specs.Drawing.{Drawing, IsEmbedded, all_exits, offset, points_on, spot, stands_at}
use Rattle.page_surface.specs.Polygon.{partner, sides}
use Rattle.drawing.specs.Thinned.{IsAlike, places_kept, thinned, thinned_exit, thinned_exits}
use Rattle.drawing.specs.Turns.{lowered_place}
use Rattle.obd_base.proofs.lists.Maps.{sum_one}
use Rattle.drawing.proofs.Ends.{place_in, side_in, same_count}

module _ (p q : ℕ → Bool) (s m : ℕ) (first : p s ≡ true) (second : p (suc s) ≡ true) (no_first : q s ≡ false) (no_second : q (suc s) ≡ false)
    (same : (j : ℕ) → j < m → j ≢ s → j ≢ suc s → q j ≡ p j) where
  -- where of the numbers that pass p two neighbours fail q, as many pass before them,
  before_two : (j : ℕ) → j ≤ m → j ≤ s → count_by q (below j) ≡ count_by p (below j)
  before_two zero l h = refl
  before_two (suc j) l h =
      let e : bit (q j) ≡ bit (p j) = ap bit (same j (omega arith) (λ z. omega arith) (λ z. omega arith)) in
      omega (arith, count_suc q j, count_suc p j, e, before_two j (omega arith) (omega arith))

  -- and two fewer after them
  after_two : (j : ℕ) → j ≤ m → suc s < j → count_by q (below j) + 2 ≡ count_by p (below j)
  after_two zero l h = absurd (omega arith)
  after_two (suc j) l h = elim (cases_eq j (suc s)) [
    | inl e ↦
        (let a : bit (p s) ≡ 1 = ap bit first in
        let b : bit (p (suc s)) ≡ 1 = ap bit second in
        let f : bit (q s) ≡ 0 = ap bit no_first in
        let g : bit (q (suc s)) ≡ 0 = ap bit no_second in
        subst (λ j. count_by q (below (suc j)) + 2 ≡ count_by p (below (suc j))) (sym e)
        (omega (arith, count_suc q (suc s), count_suc q s, count_suc p (suc s), count_suc p s, a, b, f, g, before_two s (omega arith) (omega arith))))
    | inr ne ↦
        (let e : bit (q j) ≡ bit (p j) = ap bit (same j (omega arith) (λ z. omega arith) ne) in
        omega (arith, count_suc q j, count_suc p j, e, after_two j (omega arith) (omega arith)))
  ]

  -- so each other number is lowered past the two
  pub lowered_count : (j : ℕ) → j < m → j ≢ s → j ≢ suc s → p j ≡ true → lowered_place (count_by p (below s)) (count_by p (below j)) ≡ count_by q (below j)
  lowered_count j l a b t = elim (cases_lt j s) [
    | inl h ↦ rw (lt-ltb (count_by p (below j)) (count_by p (below s)) (count_less p j s t h)) (omega (arith, before_two j (omega arith) (omega arith)))
    | inr h ↦ rw (le-ltb (count_by p (below j)) (count_by p (below s)) (count_more p s j h)) (omega (arith, after_two j (omega arith) (omega arith)))
  ]

-- a sum of two, unless a test says no
unless_add : (b : Bool) (x y : ℕ) → cond b 0 (x + y) ≡ cond b 0 x + cond b 0 y
unless_add true x y = refl
unless_add false x y = refl

-- nothing, unless a test says no
unless_none : (b : Bool) → cond {A = ℕ} b 0 0 ≡ 0
unless_none true = refl
unless_none false = refl

module _ (d : Drawing) (gone : ℕ → Bool) where
  -- a sum over the exits of a list that stay
  sum_kept : (f : Exit → ℕ) (es : List Exit) → sum_by f (thinned_exits d gone es) ≡ sum_by (λ e. cond (gone (spot d e)) 0 (f (thinned_exit d gone e))) es
  sum_kept f [] = refl
  sum_kept f (e ∷ es) =
      let r = sum_kept f es in
      let c = sum_by-cons (λ e. cond (gone (spot d e)) 0 (f (thinned_exit d gone e))) e es in
      elim (cases_Bool (gone (spot d e))) [
        | inl q ↦
            (let a : sum_by f (thinned_exits d gone (e ∷ es)) ≡ sum_by f (thinned_exits d gone es) = rw q refl in
            let b : cond (gone (spot d e)) 0 (f (thinned_exit d gone e)) ≡ 0 = rw q refl in
            omega (arith, a, b, c, r))
        | inr q ↦
            (let a : sum_by f (thinned_exits d gone (e ∷ es)) ≡ sum_by f (thinned_exit d gone e ∷ thinned_exits d gone es) = rw q refl in
            let b : cond (gone (spot d e)) 0 (f (thinned_exit d gone e)) ≡ f (thinned_exit d gone e) = rw q refl in
            omega (arith, a, b, c, r, sum_by-cons f (thinned_exit d gone e) (thinned_exits d gone es)))
      ]

  -- a sum over all exits of the thinned drawing
  pub sum_thinned : (f : Exit → ℕ) → sum_by f (all_exits (thinned d gone)) ≡ sum_by (λ e. cond (gone (spot d e)) 0 (f (thinned_exit d gone e))) (all_exits d)
  sum_thinned f =
      let g : Exit → ℕ = λ e. cond (gone (spot d e)) 0 (f (thinned_exit d gone e)) in
      sum_flat f (λ s. s) (map (thinned_exits d gone) d.strands)
      ∙ (sum_map (λ s. sum_by f s) (thinned_exits d gone) d.strands
      ∙ (sum_same (λ s. sum_by f (thinned_exits d gone s)) (λ s. sum_by g s) d.strands (λ s m. sum_kept f s)
      ∙ sym (sum_flat g (λ s. s) d.strands)))

module _ (d : Drawing) (ok : IsEmbedded d) (gone : ℕ → Bool) (alike : IsAlike d gone) where
  -- the first places of the partner that stay are the last ones of the side
  pub kept_mirror : (k j : ℕ) → k < sides d.polygon → j ≤ points_on d k
      → places_kept d gone (partner d.polygon k) j + places_kept d gone k (points_on d k - j) ≡ places_kept d gone k (points_on d k)
  kept_mirror k zero lk l =
      let whole : places_kept d gone k (points_on d k - 0) ≡ places_kept d gone k (points_on d k) = let z : points_on d k - 0 ≡ points_on d k = omega arith in ap (places_kept d gone k) z in
      let none : places_kept d gone (partner d.polygon k) 0 ≡ 0 = refl in
      omega (arith, whole, none)
  kept_mirror k (suc j) lk l =
      let r = points_on d k - suc j in
      let up : points_on d k - j ≡ suc r = omega arith in
      let at : points_on d k - 1 - r ≡ j = omega arith in
      let same : bit (not (gone (offset d k + r))) ≡ bit (not (gone (offset d (partner d.polygon k) + j)))
      = ap (λ b. bit (not b)) (alike k r lk (omega arith) ∙ ap (λ i. gone (offset d (partner d.polygon k) + i)) at) in
      let rest : places_kept d gone (partner d.polygon k) j + places_kept d gone k (suc r) ≡ places_kept d gone k (points_on d k)
      = subst (λ i. places_kept d gone (partner d.polygon k) j + places_kept d gone k i ≡ places_kept d gone k (points_on d k)) up (kept_mirror k j lk (omega arith)) in
      omega (arith, rest, same, count_suc (λ i. not (gone (offset d (partner d.polygon k) + i))) j, count_suc (λ i. not (gone (offset d k + i))) r)

  -- what an exit adds at the places of a side that stay
  exit_adds : (k : ℕ) (e : Exit) → Mem e (all_exits d)
      → sum_by (λ j. cond (gone (offset d k + j)) 0 (stands_at d e k j)) (below (points_on d k)) ≡ cond (gone (spot d e)) 0 (bit (eqb e.side k) + bit (eqb (partner d.polygon e.side) k))
  exit_adds k e i =
      let m = points_on d k in
      let out : ℕ → ℕ = λ j. cond {A = ℕ} (gone (offset d k + j)) 0 (bit (eqb e.side k && eqb e.place j)) in
      let back : ℕ → ℕ = λ j. cond {A = ℕ} (gone (offset d k + j)) 0 (bit (eqb (partner d.polygon e.side) k && eqb (suc (e.place + j)) m)) in
      let split = sum_same (λ j. cond (gone (offset d k + j)) 0 (stands_at d e k j)) (λ j. out j + back j) (below m)
      (λ j n. unless_add (gone (offset d k + j)) (bit (eqb e.side k && eqb e.place j)) (bit (eqb (partner d.polygon e.side) k && eqb (suc (e.place + j)) m))) in
      omega (arith, split, sum_add out back (below m), outs, backs, unless_add (gone (spot d e)) (bit (eqb e.side k)) (bit (eqb (partner d.polygon e.side) k)))
    where
      outs : sum_by (λ j. cond {A = ℕ} (gone (offset d k + j)) 0 (bit (eqb e.side k && eqb e.place j))) (below (points_on d k)) ≡ cond (gone (spot d e)) 0 (bit (eqb e.side k))
      outs = elim (cases_eq e.side k) [
        | inl q ↦
            (let here : e.place < points_on d k = subst (λ s. e.place < points_on d s) q (place_in d ok e i) in
            let at : bit (eqb e.side k) ≡ 1 = rw (eq-eqb e.side k q) refl in
            sum_one _ e.place (points_on d k) here (λ j l n. rw (eq-eqb e.side k q, ne_eqb e.place j (λ z. n (sym z))) (unless_none (gone (offset d k + j))))
            ∙ (rw (eq-eqb e.side k q, eq-eqb e.place e.place refl) (ap (λ s. cond (gone (offset d s + e.place)) 0 1) (sym q))))
        | inr n ↦
            (let none = sum_none (λ j. cond {A = ℕ} (gone (offset d k + j)) 0 (bit (eqb e.side k && eqb e.place j))) (below (points_on d k))
            (λ j l. rw (ne_eqb e.side k n) (unless_none (gone (offset d k + j)))) in
            none ∙ sym (rw (ne_eqb e.side k n) (unless_none (gone (spot d e)))))
      ]

      backs : sum_by (λ j. cond {A = ℕ} (gone (offset d k + j)) 0 (bit (eqb (partner d.polygon e.side) k && eqb (suc (e.place + j)) (points_on d k)))) (below (points_on d k))
          ≡ cond (gone (spot d e)) 0 (bit (eqb (partner d.polygon e.side) k))
      backs = elim (cases_eq (partner d.polygon e.side) k) [
        | inl q ↦
            (let here = place_in d ok e i in
            let same : points_on d k ≡ points_on d e.side = ap (points_on d) (sym q) ∙ same_count d ok e.side in
            let c = points_on d k - 1 - e.place in
            let other : gone (offset d k + c) ≡ gone (spot d e)
            = ap (λ m. gone (offset d k + (m - 1 - e.place))) same ∙ (ap (λ s. gone (offset d s + (points_on d e.side - 1 - e.place))) (sym q) ∙ sym (alike e.side e.place (side_in d ok e i) here)) in
            sum_one _ c (points_on d k) (omega (arith, here, same))
            (λ j l n. rw (eq-eqb (partner d.polygon e.side) k q, ne_eqb (suc (e.place + j)) (points_on d k) (λ z. n (omega (arith, z)))) (unless_none (gone (offset d k + j))))
            ∙ (rw (eq-eqb (partner d.polygon e.side) k q, eq-eqb (suc (e.place + c)) (points_on d k) (omega (arith, here, same))) (ap (λ b. cond b 0 1) other)))
        | inr n ↦
            (let none = sum_none (λ j. cond {A = ℕ} (gone (offset d k + j)) 0 (bit (eqb (partner d.polygon e.side) k && eqb (suc (e.place + j)) (points_on d k)))) (below (points_on d k))
            (λ j l. rw (ne_eqb (partner d.polygon e.side) k n) (unless_none (gone (offset d k + j)))) in
            none ∙ sym (rw (ne_eqb (partner d.polygon e.side) k n) (unless_none (gone (spot d e)))))
      ]

  -- a side of the thinned drawing has the points that stay
  pub points_thinned : (k : ℕ) → k < sides d.polygon → points_on (thinned d gone) k ≡ places_kept d gone k (points_on d k)
  points_thinned k lk =
      let m = points_on d k in
      let far : Exit → ℕ = λ e. bit (eqb (partner d.polygon e.side) k) in
      let near : Exit → ℕ = λ e. bit (eqb e.side k) in
      let kept : (Exit → ℕ) → Exit → ℕ = λ f e. cond (gone (spot d e)) 0 (f e) in
      let one : points_on (thinned d gone) k ≡ sum_by (kept near) (all_exits d) + sum_by (kept far) (all_exits d) = omega (arith, sum_thinned d gone near, sum_thinned d gone far) in
      let two = sum_add (kept near) (kept far) (all_exits d) in
      let three = sum_same (λ e. kept near e + kept far e) (λ e. sum_by (λ j. cond (gone (offset d k + j)) 0 (stands_at d e k j)) (below m)) (all_exits d)
      (λ e i. sym (exit_adds k e i ∙ unless_add (gone (spot d e)) (near e) (far e))) in
      let four = sum_swap (λ e j. cond (gone (offset d k + j)) 0 (stands_at d e k j)) (all_exits d) (below m) in
      let five = sum_same (λ j. sum_by (λ e. cond (gone (offset d k + j)) 0 (stands_at d e k j)) (all_exits d)) (λ j. bit (not (gone (offset d k + j)))) (below m)
      (λ j n. once j (mem_below m j n)) in
      omega (arith, one, two, three, four, five)
    where
      once : (j : ℕ) → j < points_on d k → sum_by (λ e. cond (gone (offset d k + j)) 0 (stands_at d e k j)) (all_exits d) ≡ bit (not (gone (offset d k + j)))
      once j l = elim (cases_Bool (gone (offset d k + j))) [
        | inl q ↦ rw q (sum_none (λ e. 0) (all_exits d) (λ e m. refl))
        | inr q ↦ rw q (ok.places k lk j l)
      ]

-- What is left of a thinned drawing when it is thinned again: the drawing, thinned once.
use Rattle.std.proofs.Common.{◌≡◌, ℕ, zero, suc, ◌+◌, ◌-◌, ◌<◌, ◌≤◌, Bool, true, false, eqb, ◌||◌, not, List, [], ◌∷◌, length, refl, sym, ◌∙◌, ap, ap₂, subst, arith, inl, inr}
use Rattle.std.proofs.lemmas.Bool.{cases_Bool, cases_eq, eq-eqb, ne_eqb}
use Rattle.std.proofs.lemmas.Simd.{map-map}
use Rattle.obd_base.specs.Lists.{Mem}
use Rattle.obd_base.specs.declared.points.Exit.{Exit}
use Rattle.obd_base.proofs.lists.Below.{bit, count_less, count_suc, same_of_count}
use Rattle.obd_base.proofs.lists.Maps.{map_same}
use Rattle.page_surface.specs.Drawing.{Drawing, IsEmbedded, all_exits, exit, offset, points_on, spot}
use Rattle.page_surface.specs.Polygon.{partner, sides}
use Rattle.drawing.specs.Thinned.{IsAlike, TurnsGone, places_kept, thinned, thinned_exit, thinned_exits}
use Rattle.drawing.specs.Turns.{Loosened}
use Rattle.drawing.proofs.Ends.{place_in, same_count, side_in}
use Rattle.drawing.proofs.Lists.{mem_flat}
use Rattle.drawing.proofs.Spots.{spot_apart}
use Rattle.drawing.proofs.Thinned.{points_thinned, thinned_gone, thinned_kept}
use Rattle.drawing.proofs.tight.KeptPlaces.{kept_mirror}
use Rattle.drawing.proofs.tight.Tightened.{loosened_then}

module _ (d : Drawing) (ok : IsEmbedded d) (gone : ℕ → Bool) (alike : IsAlike d gone) where
  -- the drawing without what is gone
  abbrev now : Drawing
  now = thinned d gone

  -- a place that stays counts
  stays_counts : (k j : ℕ) → gone (offset d k + j) ≡ false → places_kept d gone k (suc j) ≡ suc (places_kept d gone k j)
  stays_counts k j h = let a : bit (not (gone (offset d k + j))) ≡ 1 = ap (λ b. bit (not b)) h in omega (arith, a, count_suc (λ i. not (gone (offset d k + i))) j)

  -- one that is gone doesn't
  gone_counts : (k j : ℕ) → gone (offset d k + j) ≡ true → places_kept d gone k (suc j) ≡ places_kept d gone k j
  gone_counts k j h = let a : bit (not (gone (offset d k + j))) ≡ 0 = ap (λ b. bit (not b)) h in omega (arith, a, count_suc (λ i. not (gone (offset d k + i))) j)

  -- a point that stays has a place on its side
  pub kept_in : (k j : ℕ) → k < sides d.polygon → j < points_on d k → gone (offset d k + j) ≡ false → places_kept d gone k j < points_on (thinned d gone) k
  kept_in k j lk lj h = omega (arith, points_thinned d ok gone alike k lk, count_less (λ i. not (gone (offset d k + i))) j (points_on d k) (ap not h) lj)

  -- the other name of a point that stays
  pub mirror_thinned : (k j : ℕ) → k < sides d.polygon → j < points_on d k → gone (offset d k + j) ≡ false
      → points_on (thinned d gone) k - 1 - places_kept d gone k j ≡ places_kept d gone (partner d.polygon k) (points_on d k - 1 - j)
  mirror_thinned k j lk lj h =
      let mirror = kept_mirror d ok gone alike k (points_on d k - 1 - j) lk (omega arith) in
      let up : places_kept d gone k (points_on d k - (points_on d k - 1 - j)) ≡ places_kept d gone k (suc j)
      = let z : points_on d k - (points_on d k - 1 - j) ≡ suc j = omega (arith, lj) in ap (places_kept d gone k) z in
      omega (arith, mirror, up, stays_counts k j h, points_thinned d ok gone alike k lk)

  -- two points that stay have one number where they had one
  pub same_spot : (k j l i : ℕ) → k < sides d.polygon → j < points_on d k → l < sides d.polygon → i < points_on d l → gone (offset d k + j) ≡ false → gone (offset d l + i) ≡ false
      → eqb (offset d k + j) (offset d l + i) ≡ eqb (offset (thinned d gone) k + places_kept d gone k j) (offset (thinned d gone) l + places_kept d gone l i)
  same_spot k j l i lk lj ll li here there = elim (cases_eq (offset d k + j) (offset d l + i)) [
    | inl q ↦
        let r = spot_apart d k j l i (omega (arith, lj)) (omega (arith, li)) q in
        eq-eqb (offset d k + j) (offset d l + i) q ∙ sym (eq-eqb _ _ (ap₂ (λ (x y : ℕ). offset now x + places_kept d gone x y) r.0 r.1))
    | inr n ↦ ne_eqb (offset d k + j) (offset d l + i) n
        ∙ sym (ne_eqb _ _ (λ q. n (back (spot_apart now k (places_kept d gone k j) l (places_kept d gone l i)
        (omega (arith, kept_in k j lk lj here)) (omega (arith, kept_in l i ll li there)) q))))
  ]
    where
      back : (k ≡ l) × (places_kept d gone k j ≡ places_kept d gone l i) → offset d k + j ≡ offset d l + i
      back r =
          let e : places_kept d gone k j ≡ places_kept d gone k i = r.1 ∙ ap (λ (x : ℕ). places_kept d gone x i) (sym r.0) in
          let t : gone (offset d k + i) ≡ false = ap (λ (x : ℕ). gone (offset d x + i)) r.0 ∙ there in
          ap₂ (λ (x y : ℕ). offset d x + y) r.0 (same_of_count (λ x. not (gone (offset d k + x))) j i (ap not here) (ap not t) e)

  module _ (more both : ℕ → Bool)
      (is : (k j : ℕ) → k < sides d.polygon → j < points_on d k → both (offset d k + j) ≡ (gone (offset d k + j) || more (offset (thinned d gone) k + places_kept d gone k j))) where
    -- what is gone at first is gone of both
    both_gone : (k j : ℕ) → k < sides d.polygon → j < points_on d k → gone (offset d k + j) ≡ true → both (offset d k + j) ≡ true
    both_gone k j lk lj q = is k j lk lj ∙ ap (λ (g : Bool). g || more (offset now k + places_kept d gone k j)) q

    -- what stays at first is gone of both where it is gone then
    both_then : (k j : ℕ) → k < sides d.polygon → j < points_on d k → gone (offset d k + j) ≡ false → both (offset d k + j) ≡ more (offset now k + places_kept d gone k j)
    both_then k j lk lj q = is k j lk lj ∙ ap (λ (g : Bool). g || more (offset now k + places_kept d gone k j)) q

    -- as many places stay
    places_twice : (k j : ℕ) → k < sides d.polygon → j ≤ points_on d k → places_kept now more k (places_kept d gone k j) ≡ places_kept d both k j
    places_twice k zero lk l = refl
    places_twice k (suc j) lk l =
        let rest = places_twice k j lk (omega arith) in
        elim (cases_Bool (gone (offset d k + j))) [
          | inl q ↦
              let b : bit (not (both (offset d k + j))) ≡ 0 = ap (λ (x : Bool). bit (not x)) (both_gone k j lk l q) in
              ap (places_kept now more k) (gone_counts k j q) ∙ (let z : places_kept now more k (places_kept d gone k j) ≡ places_kept d both k (suc j) = omega (arith, rest, b, count_suc (λ i. not (both (offset d k + i))) j) in z)
          | inr q ↦
              let n = places_kept d gone k j in
              let b : bit (not (both (offset d k + j))) ≡ bit (not (more (offset now k + n))) = ap (λ (x : Bool). bit (not x)) (both_then k j lk l q) in
              ap (places_kept now more k) (stays_counts k j q)
              ∙ (let z : places_kept now more k (suc n) ≡ places_kept d both k (suc j)
              = omega (arith, rest, b, count_suc (λ i. not (both (offset d k + i))) j, count_suc (λ i. not (more (offset now k + i))) n) in z)
        ]

    -- the same exits stay
    exits_twice : (es : List Exit) → ((x : Exit) → Mem x es → Mem x (all_exits d)) → thinned_exits now more (thinned_exits d gone es) ≡ thinned_exits d both es
    exits_twice [] h = refl
    exits_twice (x ∷ es) h =
        let inside = h x (inl refl) in
        let lk = side_in d ok x inside in
        let lj = place_in d ok x inside in
        let rest = exits_twice es (λ y m. h y (inr m)) in
        let y = thinned_exit d gone x in
        elim (cases_Bool (gone (spot d x))) [
          | inl q ↦ ap (thinned_exits now more) (thinned_gone d gone x es q) ∙ (rest ∙ sym (thinned_gone d both x es (both_gone x.side x.place lk lj q)))
          | inr q ↦
              ap (thinned_exits now more) (thinned_kept d gone x es q)
              ∙ elim (cases_Bool (more (spot now y))) [
                | inl p ↦ thinned_gone now more y (thinned_exits d gone es) p ∙ (rest ∙ sym (thinned_gone d both x es (both_then x.side x.place lk lj q ∙ p)))
                | inr p ↦ thinned_kept now more y (thinned_exits d gone es) p
                    ∙ (ap₂ (λ (n : ℕ) (ys : List Exit). exit x.side n ∷ ys) (places_twice x.side x.place lk (omega (arith, lj))) rest
                    ∙ sym (thinned_kept d both x es (both_then x.side x.place lk lj q ∙ p)))
              ]
        ]

    -- thinned twice is thinned once
    pub thinned_twice : thinned (thinned d gone) more ≡ thinned d both
    thinned_twice = ap (λ ss. record { polygon = d.polygon; strands = ss })
        (map-map (thinned_exits now more) (thinned_exits d gone) d.strands
        ∙ map_same (λ es. thinned_exits now more (thinned_exits d gone es)) (thinned_exits d both) d.strands (λ es m. exits_twice es (λ x n. mem_flat (λ s. s) d.strands es x m n)))

    -- each point is gone of both under both its names or under neither
    pub alike_twice : IsAlike (thinned d gone) more → IsAlike d both
    alike_twice then k j lk lj =
        let e = partner d.polygon k in
        let i = points_on d k - 1 - j in
        let le = ok.polygon.pairs.in_range k lk in
        let li : i < points_on d e = omega (arith, lj, same_count d ok k) in
        let same = alike k j lk lj in
        elim (cases_Bool (gone (offset d k + j))) [
          | inl q ↦ both_gone k j lk lj q ∙ sym (both_gone e i le li (sym same ∙ q))
          | inr q ↦ both_then k j lk lj q
              ∙ (then k (places_kept d gone k j) lk (kept_in k j lk lj q)
              ∙ (ap (λ (n : ℕ). more (offset now e + n)) (mirror_thinned k j lk lj q) ∙ sym (both_then e i le li (sym same ∙ q))))
        ]

    -- turns of what is left when others are gone
    pub turns_gone_then : (n m : ℕ) → TurnsGone d gone n → TurnsGone (thinned d gone) more (suc m) → TurnsGone d both (n + suc m)
    turns_gone_then n m first second = record {
      alike = alike_twice second.alike;
      loosened = loosened_then d now (thinned d both) first.loosened (subst (λ e. Loosened now e) thinned_twice second.loosened);
      fewer = omega (arith, first.fewer, second.fewer, ap (λ e. length (all_exits e)) thinned_twice);
      none = λ z. absurd (omega (arith, z));
    }

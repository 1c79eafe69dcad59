-- New places of the points that stay, as the tables tell them.
use Rattle.std.proofs.Common.{◌≡◌, ℕ, suc, ◌+◌, ◌<◌, ◌≤◌, Bool, true, false, not, List, get_or, length, set, sym, ◌∙◌, ap, subst, arith, inl, inr}
use Rattle.std.proofs.lemmas.Bool.{cases_eq}
use Rattle.std.proofs.lemmas.List.{get_or-set_other, get_or-set_same}
use Rattle.obd_base.proofs.lists.Below.{bit, count_suc}
use Rattle.page_surface.specs.Drawing.{Drawing, exit, offset, points_on, spot}
use Rattle.drawing.specs.ThinTables.{AreNumbered, is_gone}
use Rattle.drawing.specs.Thinned.{places_kept}
use Rattle.drawing.proofs.Spots.{offset_rises}

-- what is set on a side leaves the numbers of the sides before it
before_stays : (d : Drawing) (gone : ℕ → Bool) (n x y : ℕ) (places : List ℕ) → offset d n ≤ x → AreNumbered d gone n places → AreNumbered d gone n (set places x y)
before_stays d gone n x y places l h = record {
  each = λ k j lk lj. get_or-set_other places x (offset d k + j) y 0 (λ e. absurd (omega (arith, e, offset_rises d k n lk, l, lj))) ∙ h.each k j lk lj;
}

-- one point more of a side, or its end
place_set : (d : Drawing) (gone : ℕ → Bool) (side old x place : ℕ) (places : List ℕ) → x ≡ offset d side + old → x < length places → place ≡ places_kept d gone side old
    → ((j : ℕ) → j < old → get_or places (offset d side + j) 0 ≡ places_kept d gone side j)
    → (j : ℕ) → j < old + 1 → get_or (set places x place) (offset d side + j) 0 ≡ places_kept d gone side j
place_set d gone side old x place places is there counted here j l = elim (cases_eq j old) [
  | inl e ↦
      let same : x ≡ offset d side + j = omega (arith, is, e) in
      subst (λ (n : ℕ). get_or (set places x place) n 0 ≡ place) same (get_or-set_same places x place 0 there) ∙ (counted ∙ ap (places_kept d gone side) (sym e))
  | inr ne ↦ get_or-set_other places x (offset d side + j) place 0 (λ e. ne (omega (arith, e, is))) ∙ here j (omega (arith, l, ne))
]

-- the points of a side so far and one more
pub place_more : (d : Drawing) (gone : ℕ → Bool) (side old x place : ℕ) (places : List ℕ) → x ≡ offset d side + old → x < length places → place ≡ places_kept d gone side old
    → AreNumbered d gone side places → ((j : ℕ) → j < old → get_or places (offset d side + j) 0 ≡ places_kept d gone side j)
    → AreNumbered d gone side (set places x place) × ((j : ℕ) → j < old + 1 → get_or (set places x place) (offset d side + j) 0 ≡ places_kept d gone side j)
place_more d gone side old x place places is there counted before here =
    (before_stays d gone side x place places (omega (arith, is)) before, place_set d gone side old x place places is there counted here)

-- and its end: the side is numbered
pub side_numbered : (d : Drawing) (gone : ℕ → Bool) (side old x place : ℕ) (places : List ℕ) → old ≡ points_on d side → x ≡ offset d side + points_on d side → x < length places
    → place ≡ places_kept d gone side old → AreNumbered d gone side places → ((j : ℕ) → j < old → get_or places (offset d side + j) 0 ≡ places_kept d gone side j)
    → AreNumbered d gone (suc side) (set places x place)
side_numbered d gone side old x place places all is there counted before here = record {
  each = λ k j lk lj. elim (cases_eq k side) [
    | inl e ↦ subst (λ (s : ℕ). j ≤ points_on d s → get_or (set places x place) (offset d s + j) 0 ≡ places_kept d gone s j) (sym e)
        (λ lj. place_set d gone side old x place places (omega (arith, is, all)) there counted here j (omega (arith, lj, all))) lj
    | inr ne ↦ (before_stays d gone side x place places (omega (arith, is)) before).each k j (omega (arith, lk, ne)) lj
  ];
}

-- a point that stays is counted
pub stays_counted : (d : Drawing) (gone : List Bool) (side old x place : ℕ) → x ≡ offset d side + old → is_gone gone x ≡ false → place ≡ places_kept d (is_gone gone) side old
    → place + 1 ≡ places_kept d (is_gone gone) side (old + 1)
stays_counted d gone side old x place is stays counted =
    let more = count_suc (λ i. not (is_gone gone (spot d (exit side i)))) old in
    let here : bit (not (is_gone gone (spot d (exit side old)))) ≡ 1 = ap (λ b. bit (not b)) (ap (is_gone gone) (sym is) ∙ stays) in
    let next : places_kept d (is_gone gone) side (suc old) ≡ place + 1 = omega (arith, more, here, counted) in
    let e : suc old ≡ old + 1 = omega arith in
    sym next ∙ ap (places_kept d (is_gone gone) side) e

-- one that is gone isn't
pub gone_uncounted : (d : Drawing) (gone : List Bool) (side old x place : ℕ) → x ≡ offset d side + old → is_gone gone x ≡ true → place ≡ places_kept d (is_gone gone) side old
    → place ≡ places_kept d (is_gone gone) side (old + 1)
gone_uncounted d gone side old x place is out counted =
    let more = count_suc (λ i. not (is_gone gone (spot d (exit side i)))) old in
    let here : bit (not (is_gone gone (spot d (exit side old)))) ≡ 0 = ap (λ b. bit (not b)) (ap (is_gone gone) (sym is) ∙ out) in
    let next : places_kept d (is_gone gone) side (suc old) ≡ place = omega (arith, more, here, counted) in
    let e : suc old ≡ old + 1 = omega arith in
    sym next ∙ ap (places_kept d (is_gone gone) side) e

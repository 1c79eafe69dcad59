-- The first curve that is too long after a slide.
use Rattle.std.proofs.Common.{◌≡◌, ℕ, ◌<◌, ◌≤◌, Bool, true, false, ltb, List, take, length, get_or, Option, Some, None, option_map, sym, ap, ◌∙◌, inl, inr, arith}
use Rattle.std.specs.List.{position_or_len}
use Rattle.std.proofs.lemmas.Bool.{cases_Bool, lt-ltb}
use Rattle.std.proofs.lemmas.List.{get_or-take, get_or_read, length-take-le}
use Rattle.std.proofs.lemmas.List.Sums.{position_or_len_is}
use Rattle.obd_base.specs.declared.points.Exit.{Exit}
use Rattle.arc_basis.proofs.Places.{found_place}
use Rattle.page_surface.specs.Polygon.{Polygon}
use Rattle.handle_slide.specs.Refused.{IsLong, crossings_after, crossings_of, first_long}
use Rattle.handle_slide.specs.declared.refusal.SlideRefusal.{SlideRefusal}
use Rattle.handle_slide.specs.declared.refusal.SlideRefusal.TheVariants.{SlideCrossings}
use Rattle.handle_slide.proofs.NewSide.{any_true}
use Rattle.curve_paths.proofs.Members.{mem_get_or}

-- a curve that is too long, after some that aren't
pub long_here : (p : Polygon) (k : ℕ) (curves : List (Option (List Exit))) (i : ℕ) (curve : Option (List Exit)) (refusal : SlideRefusal) → i < length curves → curve ≡ get_or curves i curve
    → first_long p k (take i curves) ≡ None → IsLong p k i curve refusal → option_map (crossings_of p k curves) (first_long p k curves) ≡ Some refusal
long_here p k curves i curve refusal l is none long =
    ap (option_map (crossings_of p k curves)) (found_place too_long curves (any_true too_long (get_or curves i None) curves (mem_get_or curves i None l) here) ∙ ap Some at)
    ∙ (ap (λ c. Some (SlideCrossings i (crossings_after p k c))) (sym same) ∙ ap Some (sym long.told))
  where
    too_long : Option (List Exit) → Bool
    too_long = λ c. ltb 32 (crossings_after p k c)

    same : curve ≡ get_or curves i None
    same = get_or_read curves i curve l is None

    not_before : (j : ℕ) → j < i → ltb 32 (crossings_after p k (get_or curves j None)) ≡ false
    not_before j lj = elim (cases_Bool (ltb 32 (crossings_after p k (get_or curves j None)))) [
      | inr f ↦ f
      | inl t ↦
          let there = found_place (λ c. ltb 32 (crossings_after p k c)) (take i curves) (any_true (λ c. ltb 32 (crossings_after p k c)) (get_or (take i curves) j None) (take i curves)
          (mem_get_or (take i curves) j None (omega (arith, lj, length-take-le i curves (let z : i ≤ length curves = omega (arith, l) in z))))
          (ap (λ c. ltb 32 (crossings_after p k c)) (get_or-take i curves j None lj) ∙ t)) in
          absurd (let bad = sym there ∙ none in cc)
    ]

    here : ltb 32 (crossings_after p k (get_or curves i None)) ≡ true
    here = ap (λ c. ltb 32 (crossings_after p k c)) (sym same) ∙ lt-ltb _ _ long.long

    at : position_or_len (λ c. ltb 32 (crossings_after p k c)) curves ≡ i
    at = position_or_len_is (λ c. ltb 32 (crossings_after p k c)) curves i None (omega (arith, l)) not_before (λ h. here)

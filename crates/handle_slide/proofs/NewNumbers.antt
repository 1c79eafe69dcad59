-- Old and new numbers of the sides, and the polygon after a slide.
use Rattle.std.proofs.Common.{◌≡◌, ◌≢◌, ℕ, ◌<◌, eqb, List, [], ◌∷◌, map, length, get_or, refl, sym, ap, ◌∙◌, inl, inr, arith}
use Rattle.std.proofs.lemmas.Bool.{cases_lt, eq-eqb, eqb-true}
use Rattle.std.proofs.lemmas.List.{get_or-map, get_or_past, length-map}
use Rattle.std.proofs.lemmas.List.FromFn.{length-range_with_len}
use Rattle.obd_base.specs.Lists.{below}
use Rattle.page_surface.specs.Polygon.{IsPolygon, Pairs, Polygon, partner, sides}
use Rattle.page_surface.proofs.Laws.{paired_is_polygon}
use Rattle.handle_slide.specs.Slide.{new_number, side_after, slid_polygon, slid_sides}
use Rattle.arc_basis.proofs.OneItem.{one_there, only_one}
use Rattle.curve_paths.proofs.Members.{mem_get_or}
use Rattle.std.specs.List.{sum_by}
use Rattle.std.proofs.lemmas.List.Sums.{sum_by-cons}
use Rattle.handle_slide.proofs.Order.{slid_sum, slid_once, slid_less}

-- a sum of ones is the length
length_sum : {X : Type 0} (xs : List X) → sum_by (λ x. let n : ℕ = 1 in n) xs ≡ length xs
length_sum [] = refl
length_sum {X = X} (x ∷ xs) = let one : X → ℕ = λ y. 1 in omega (arith, sum_by-cons one x xs, length_sum xs)

module _ (p : Polygon) (is : IsPolygon p) (k : ℕ) (lk : k < sides p) (slides : side_after p k ≢ partner p k) where
  abbrev n : ℕ
  n = sides p

  pub length-slid : length (slid_sides p k) ≡ sides p
  length-slid = sym (length_sum (slid_sides p k)) ∙ (slid_sum p is k lk slides (λ s. 1) ∙ (length_sum (below n) ∙ length-range_with_len 0 n))

  -- old numbers by new, and new by old
  pub old_less : (i : ℕ) → i < sides p → get_or (slid_sides p k) i 0 < sides p
  old_less i l = slid_less p is k lk slides _ (mem_get_or (slid_sides p k) i 0 (omega (arith, l, length-slid)))

  pub new_less : (s : ℕ) → s < sides p → new_number p k s < sides p
  new_less s l = let r = one_there (eqb s) (slid_sides p k) 0 (slid_once p is k lk slides s l) in omega (arith, r.0, length-slid)

  pub old_new : (s : ℕ) → s < sides p → get_or (slid_sides p k) (new_number p k s) 0 ≡ s
  old_new s l = let r = one_there (eqb s) (slid_sides p k) 0 (slid_once p is k lk slides s l) in sym (eqb-true _ _ r.1)

  pub new_old : (i : ℕ) → i < sides p → new_number p k (get_or (slid_sides p k) i 0) ≡ i
  new_old i l =
      sym (only_one (eqb (get_or (slid_sides p k) i 0)) (slid_sides p k) 0 i (slid_once p is k lk slides _ (old_less i l)) (omega (arith, l, length-slid)) (eq-eqb _ _ refl))

  pub length-slid_polygon : sides (slid_polygon p k) ≡ sides p
  length-slid_polygon = length-map (slid_sides p k) (λ s. new_number p k (partner p s)) ∙ length-slid

  -- partners stay, by their old numbers
  pub slid_partner : (i : ℕ) → i < sides p → partner (slid_polygon p k) i ≡ new_number p k (partner p (get_or (slid_sides p k) i 0))
  slid_partner i l = get_or-map (λ s. new_number p k (partner p s)) (slid_sides p k) i 0 i (omega (arith, l, length-slid))

  pub slid_pairs : Pairs (slid_polygon p k)
  slid_pairs = record {
    in_range = λ i l.
        let h : i < n = omega (arith, l, length-slid_polygon) in
        omega (arith, slid_partner i h, new_less _ (is.pairs.in_range _ (old_less i h)), length-slid_polygon);
    twice = λ i. elim (cases_lt i n) [
      | inl h ↦
          let s = get_or (slid_sides p k) i 0 in
          let j = new_number p k (partner p s) in
          let lj = new_less _ (is.pairs.in_range s (old_less i h)) in
          ap (partner (slid_polygon p k)) (slid_partner i h)
          ∙ (slid_partner j lj ∙ (ap (λ x. new_number p k (partner p x)) (old_new (partner p s) (is.pairs.in_range s (old_less i h)))
          ∙ (ap (new_number p k) (is.pairs.twice s) ∙ new_old i h)))
      | inr h ↦
          let past = get_or_past (map (λ s. new_number p k (partner p s)) (slid_sides p k)) i i (omega (arith, h, length-slid_polygon)) in
          ap (partner (slid_polygon p k)) past ∙ past
    ];
    moves = λ i l e.
        let h : i < n = omega (arith, l, length-slid_polygon) in
        let s = get_or (slid_sides p k) i 0 in
        let q : partner p s ≡ s = sym (old_new (partner p s) (is.pairs.in_range s (old_less i h))) ∙ ap (λ x. get_or (slid_sides p k) x 0) (sym (slid_partner i h) ∙ e) in
        is.pairs.moves s (old_less i h) q;
  }

  -- so it is a polygon
  pub slid_is_polygon : IsPolygon (slid_polygon p k)
  slid_is_polygon = paired_is_polygon (map (λ s. new_number p k (partner p s)) (slid_sides p k)) (omega (arith, lk, length-slid_polygon)) slid_pairs

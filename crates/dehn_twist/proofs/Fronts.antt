-- The product over the curve's points before a place, and how a strand's letter moves it.
use Rattle.std.proofs.Common.{◌≡◌, ℕ, zero, suc, ◌+◌, ◌-◌, ◌<◌, ◌≤◌, List, [], ◌∷◌, ◌++◌, map, sym, ◌∙◌, ap, arith, append_assoc}
use Rattle.std.specs.List.{flat_map, range_with_len}
use Rattle.std.proofs.lemmas.List.{map-append}
use Rattle.std.proofs.lemmas.List.Concat.{flat_map-append}
use Rattle.curve_paths.specs.Curves.{IsCurve, curve_points, push_at, rho, signed, gap_before}
use Rattle.obd_base.specs.declared.points.Exit.{Exit}
use Rattle.obd_base.specs.declared.points.Sign.{Sign}
use Rattle.page_surface.specs.Drawing.{exit}
use Rattle.page_surface.specs.Polygon.{Pairs, Polygon, partner, sides}
use Rattle.curve_paths.proofs.CurvePoints.{points_partner}
use Rattle.path_words.proofs.CurveWords.{once_round, part_across, point_word, product_from, product_points, product_sides}
use Rattle.path_words.proofs.ImageProduct.{moved, upto, upto_side}
use Rattle.path_words.proofs.Passed.{before_suc, before_zero}
use Rattle.curve_paths.proofs.PointPlaces.{points_from, points_of, range_join}
use Rattle.curve_paths.proofs.Reduction.{alike_after, alike_back, alike_before, alike_middle, back-append, word_and_back}
use Rattle.curve_paths.proofs.Reduction.{null_first}
use Rattle.path_words.proofs.SideLetters.{side_letters}
use Rattle.curve_paths.specs.Alphabet.{Alike, Alphabet, Null, back, cancelled}

-- the points of successive sides in two parts
pub points_join : (count : ℕ → ℕ) (a r s : ℕ) → points_of count a (r + s) ≡ points_of count a r ++ points_of count (a + r) s
points_join count a r s =
    ap (flat_map (λ k. points_from count k 0 (count k))) (range_join a r s) ∙ flat_map-append (λ k. points_from count k 0 (count k)) (range_with_len a r) (range_with_len (a + r) s)

from_join : (count : ℕ → ℕ) (k r s : ℕ) → points_from count k 0 (r + s) ≡ points_from count k 0 r ++ points_from count k r s
from_join count k r s =
    let e : 0 + r ≡ r = omega arith in
    ap (map (exit k)) (range_join 0 r s ∙ ap (λ z. range_with_len 0 r ++ range_with_len z s) e) ∙ map-append (exit k) (range_with_len 0 r) (range_with_len r s)

-- the points before a place of a side
abbrev pub points_before : (ℕ → ℕ) → Exit → List Exit
points_before count e = points_of count 0 e.side ++ points_from count e.side 0 e.place

-- all points: those before a place, and the others
pub points_split : (count : ℕ → ℕ) (n : ℕ) (e : Exit) → e.side < n → e.place ≤ count e.side
    → points_of count 0 n ≡ points_before count e ++ (points_from count e.side e.place (count e.side - e.place) ++ points_of count (e.side + 1) (n - 1 - e.side))
points_split count n e l h =
    let k = e.side in
    let b = e.place in
    let x = points_of count 0 k in
    let y = points_from count k 0 b in
    let z = points_from count k b (count k - b) in
    let r = points_of count (k + 1) (n - 1 - k) in
    let one : n ≡ k + suc (n - 1 - k) = omega (arith, l) in
    let two : 0 + k ≡ k = omega arith in
    let three : count k ≡ b + (count k - b) = omega (arith, h) in
    ap (points_of count 0) one ∙ (points_join count 0 k (suc (n - 1 - k)) ∙ (ap (λ t. x ++ points_of count t (suc (n - 1 - k))) two
    ∙ (ap (λ t. x ++ (t ++ r)) (ap (points_from count k 0) three ∙ from_join count k b (count k - b)) ∙ shuffle x y z r)))
  where
    shuffle : (x y z r : List Exit) → x ++ ((y ++ z) ++ r) ≡ (x ++ y) ++ (z ++ r)
    shuffle x y z r = simp append_assoc

module _ (p : Polygon) (ok : Pairs p) (c : List Exit) (curve : IsCurve p c) (g : Sign) where
  abbrev L : Alphabet ℕ
  L = side_letters p ok

  abbrev m : ℕ → ℕ
  m k = curve_points p c k

  abbrev word : Exit → List ℕ
  word = point_word p ok c curve g

  -- the same place on the partner
  abbrev pub place_across : Exit → Exit
  place_across e = exit (partner p e.side) (curve_points p c e.side - e.place)

  -- a place among the curve's points
  abbrev pub IsPlace : Exit → Type 0
  IsPlace e = (e.side < sides p) × (e.place ≤ curve_points p c e.side)

  -- the product over the points before a place
  abbrev pub front : Exit → List ℕ
  front e = flat_map (point_word p ok c curve g) (points_before (curve_points p c) e)

  -- the product over all sides before a side
  below_side : (s : ℕ) → s < sides p → Alike L (flat_map word (points_of m 0 s)) (upto p ok c curve g (gap_before p s))
  below_side zero l =
      let e : (sides p - 1) + 1 ≡ sides p = omega (arith, l) in
      sym (ap (λ z. cancelled L (upto p ok c curve g z)) (before_zero p l) ∙ (ap (λ z. cancelled L (flat_map (push_at p c g) (range_with_len 0 z))) e ∙ once_round p ok c curve g))
  below_side (suc s) l =
      let e : suc s ≡ s + 1 = omega arith in
      ap (cancelled L) (product_sides p ok c curve g 0 (suc s) ∙ (ap (λ z. flat_map (push_at p c g) (range_with_len 0 z)) e
      ∙ ap (upto p ok c curve g) (sym (before_suc p s l))))

  front_is : (e : Exit) → e.side < sides p → Alike L (front e) (upto p ok c curve g (gap_before p e.side) ++ product_from p ok c curve g e.side 0 e.place)
  front_is e l =
      ap (cancelled L) (flat_map-append word (points_of m 0 e.side) (points_from m e.side 0 e.place)
      ∙ ap (λ z. flat_map word (points_of m 0 e.side) ++ z) (product_points p ok c curve g e.side 0 e.place))
      ∙ alike_before L (flat_map word (points_of m 0 e.side)) (upto p ok c curve g (gap_before p e.side)) (product_from p ok c curve g e.side 0 e.place) (below_side e.side l)

  -- at the end of a side
  pub front_end : (k : ℕ) → k < sides p → Alike L (front (exit k (m k))) (upto p ok c curve g k)
  front_end k l = front_is (exit k (m k)) l ∙ sym (upto_side p ok c curve g k l)

  -- a letter with what lies before its place, and what lies before the same place on the partner undone
  pub placed_letter : (e : Exit) → IsPlace e → Alike L (front e ++ (e.side ∷ back L (front (place_across e)))) (moved p ok c curve g e.side)
  placed_letter e h =
      let s = e.side in
      let q = partner p s in
      let b = e.place in
      let lq = ok.in_range s h.0 in
      let mq = points_partner p ok c curve s in
      let u = upto p ok c curve g (gap_before p s) in
      let x = product_from p ok c curve g s 0 b in
      let y' = product_from p ok c curve g q 0 (m s - b) in
      let y = product_from p ok c curve g q (m s - b) b in
      let d = front (place_across e) in
      let sum : b + (m s - b) ≡ m s = omega (arith, h.1) in
      let whole : push_at p c g q ≡ y' ++ y =
      (let t : m q ≡ (m s - b) + b = omega (arith, mq, h.1) in
      let f = λ (i : ℕ). signed p g (rho p c q i) in
      let z : 0 + (m s - b) ≡ m s - b = omega arith in
      ap (λ r. flat_map f (range_with_len 0 r)) t ∙ (ap (flat_map f) (range_join 0 (m s - b) b ∙ ap (λ r. range_with_len 0 (m s - b) ++ range_with_len r b) z)
      ∙ flat_map-append f (range_with_len 0 (m s - b)) (range_with_len (m s - b) b))) in
      let at_q : Alike L (upto p ok c curve g q) (d ++ y) =
      upto_side p ok c curve g q lq
      ∙ (ap (λ r. cancelled L (upto p ok c curve g (gap_before p q) ++ r)) whole
      ∙ (ap (cancelled L) (sym (append_assoc (upto p ok c curve g (gap_before p q)) y' y))
      ∙ sym (alike_before L d (upto p ok c curve g (gap_before p q) ++ y') y (front_is (place_across e) lq)))) in
      let pass : Alike L (s ∷ back L y) (x ++ (s ∷ [])) = passes s x y (part_across p ok c curve g s h.0 b (m s - b) sum) in
      alike_before L (front e) (u ++ x) (s ∷ back L d) (front_is e h.0)
      ∙ sym (alike_after L u (s ∷ back L (upto p ok c curve g q)) (s ∷ (back L y ++ back L d))
      (alike_after L (s ∷ []) (back L (upto p ok c curve g q)) (back L y ++ back L d) (alike_back L (upto p ok c curve g q) (d ++ y) at_q ∙ ap (cancelled L) (back-append L d y)))
      ∙ (alike_middle L u (s ∷ back L y) (x ++ (s ∷ [])) (back L d) pass
      ∙ ap (cancelled L) (shuffle u x (back L d) s)))
    where
      shuffle : (u x d : List ℕ) (s : ℕ) → u ++ ((x ++ (s ∷ [])) ++ d) ≡ (u ++ x) ++ (s ∷ d)
      shuffle u x d s = simp append_assoc

      passes : (s : ℕ) (x y : List ℕ) → Alike L (s ∷ (y ++ (partner p s ∷ []))) (back L x) → Alike L (s ∷ back L y) (x ++ (s ∷ []))
      passes s x y h =
          let e : (x ++ (s ∷ [])) ++ (y ++ (partner p s ∷ [])) ≡ x ++ (s ∷ (y ++ (partner p s ∷ []))) = append_assoc x (s ∷ []) (y ++ (partner p s ∷ [])) in
          let n : Null L ((x ++ (s ∷ [])) ++ (y ++ (partner p s ∷ []))) =
          ap (cancelled L) e ∙ (alike_after L x (s ∷ (y ++ (partner p s ∷ []))) (back L x) h ∙ word_and_back L x) in
          sym (null_first L (x ++ (s ∷ [])) (y ++ (partner p s ∷ [])) n
          ∙ ap (cancelled L) (back-append L y (partner p s ∷ []) ∙ ap (λ z. z ∷ back L y) (ok.twice s)))

-- The words of the identity are words.
use Rattle.std.proofs.Common.{◌≡◌, ℕ, ◌<◌, ◌≤◌, List, [], ◌∷◌, length, get_or, ap, sym, subst, arith, rules, All}
use Rattle.std.proofs.lemmas.List.FromFn.{get_or-map-range_with_len, length-map-range_with_len}
use Rattle.std.proofs.lemmas.List.Sums.{sum_by-le}
use Rattle.page_surface.specs.Polygon.{IsPolygon, Polygon, arc_count, first_side, second_side, sides}
use Rattle.curve_paths.specs.Curves.{identity_words}
use Rattle.curve_paths.specs.Twists.{AreWords, letters}
use Rattle.page_surface.specs.Drawing.{all_exits, identity}
use Rattle.dehn_twist.proofs.DrawnWords.{letters_of}
use Rattle.dehn_twist.proofs.Laws.{words_of_identity}

module _ (p : Polygon) where
  -- the word of one strand more
  word_at : (i : ℕ) (d : List ℕ) → i < arc_count p → get_or (identity_words p) i d ≡ second_side p i ∷ []
  word_at i d small = get_or-map-range_with_len (λ i. second_side p i ∷ []) 0 (arc_count p) i i d small (omega arith)

  pub identity_are_words : IsPolygon p → sides p ≤ 16 → AreWords p (identity_words p)
  identity_are_words valid few_sides =
      let size : length (identity_words p) ≡ arc_count p = length-map-range_with_len (λ i. second_side p i ∷ []) 0 (arc_count p) in
      let one : All (λ w. length w ≤ 1) (identity_words p) = λ i d small. subst (λ w. length w ≤ 1) (sym (word_at i d (omega (arith, size)))) (omega arith) in
      record {
        each = size;
        in_range = λ i d small.
            let within : i < arc_count p = omega (arith, size) in
            subst (All (λ s. s < sides p)) (sym (word_at i d within)) (letter i within);
        few = omega (arith, size, few_sides, sum_by-le length 1 (identity_words p) one);
      }
    where
      letter : (i : ℕ) → i < arc_count p → All (λ s. s < sides p) (second_side p i ∷ [])
      letter i within = search (rules, valid.pairs.in_range (first_side p i) (valid.first_in_range i within))

-- the identity drawing has few points
pub identity_few : (p : Polygon) → IsPolygon p → sides p ≤ 16 → length (all_exits (identity p)) ≤ 4000
identity_few p valid few_sides = omega (arith, letters_of (identity p), ap letters (words_of_identity p), (identity_are_words p valid few_sides).few)

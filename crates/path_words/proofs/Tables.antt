-- The words of a table, set along the sides that are passed: they may be reduced first, and are few letters.
use Rattle.std.proofs.Common.{◌≡◌, ℕ, zero, suc, ◌+◌, ◌-◌, ◌*◌, ◌%◌, ◌<◌, ◌≤◌, List, [], ◌∷◌, ◌++◌, map, length, get_or, refl, sym, ◌∙◌, ap, ap₂, arith, length-append}
use Rattle.std.specs.List.{All, enumerate_from, flat_map}
use mathlib.Core.Path.{fun_ext}
use Rattle.std.proofs.lemmas.List.FromFn.{length-map-range_with_len}
use Rattle.obd_base.specs.Lists.{below}
use Rattle.obd_base.specs.declared.points.Exit.{Exit}
use Rattle.obd_base.specs.declared.points.Sign.{Sign}
use Rattle.page_surface.specs.Polygon.{IsPolygon, Polygon, first_side, partner, second_side, sides}
use Rattle.page_surface.specs.Words.{reduced}
use Rattle.page_surface.proofs.WordLaws.{Free-reduced, reduced_free}
use Rattle.curve_paths.specs.Curves.{gap_before, image, passed, push_at, twisted, with_words}
use Rattle.curve_paths.specs.Alphabet.{Alike, Alphabet, cancelled}
use Rattle.path_words.specs.Pushes.{push_of, reduced_pushes, strand_with, strands_with}
use Rattle.path_words.proofs.PushWords.{length_product, passed_in_range, table_product}
use Rattle.curve_paths.proofs.Reduction.{alike_after, alike_cancelled, alike_join}
use Rattle.path_words.proofs.SideLetters.{reduced_is, side_letters}

module _ (p : Polygon) (ok : IsPolygon p) where
  abbrev L : Alphabet ℕ
  L = side_letters p ok.pairs

  -- each word of a product may be reduced
  product_reduced : (f : ℕ → List ℕ) (xs : List ℕ) → Alike L (flat_map (λ k. reduced p (f k)) xs) (flat_map f xs)
  product_reduced f [] = refl
  product_reduced f (x ∷ xs) =
      alike_join L (reduced p (f x)) (f x) (flat_map (λ k. reduced p (f k)) xs) (flat_map f xs)
      (ap (cancelled L) (reduced_is p ok.pairs (f x)) ∙ alike_cancelled L (f x)) (product_reduced f xs)

  -- so may the words that are set
  set_reduced : (f : ℕ → List ℕ) (w : List ℕ) (u v : ℕ) → Alike L (with_words p (λ k. reduced p (f k)) w u v) (with_words p f w u v)
  set_reduced f [] u v = product_reduced f (passed p u v)
  set_reduced f (s ∷ w) u v =
      alike_join L (flat_map (λ k. reduced p (f k)) (passed p u (gap_before p s))) (flat_map f (passed p u (gap_before p s)))
      (s ∷ with_words p (λ k. reduced p (f k)) w (partner p s) v) (s ∷ with_words p f w (partner p s) v)
      (product_reduced f (passed p u (gap_before p s)))
      (alike_after L (s ∷ []) (with_words p (λ k. reduced p (f k)) w (partner p s) v) (with_words p f w (partner p s) v) (set_reduced f w (partner p s) v))

  -- they are those of the table
  set_from_table : (f : ℕ → List ℕ) (w : List ℕ) (u v : ℕ) → with_words p (push_of (map f (below (sides p)))) w u v ≡ with_words p f w u v
  set_from_table f [] u v = table_product (sides p) f (passed p u v) (passed_in_range p ok.not_empty u v)
  set_from_table f (s ∷ w) u v =
      ap₂ (λ a b. a ++ (s ∷ b)) (table_product (sides p) f (passed p u (gap_before p s)) (passed_in_range p ok.not_empty u (gap_before p s)))
      (set_from_table f w (partner p s) v)

  module _ (c : List Exit) (sign : Sign) (pushes : List (List ℕ)) (are : pushes ≡ reduced_pushes p c sign) where
    -- with the reduced pushes of a twist set, a word has the reduced form of its image
    pub set_is_image : (w : List ℕ) (u v : ℕ) → reduced p (with_words p (push_of pushes) w u v) ≡ reduced p (image p c sign w u v)
    set_is_image w u v =
        ap (λ (ps : List (List ℕ)). reduced p (with_words p (push_of ps) w u v)) are
        ∙ (ap (reduced p) (set_from_table (λ k. reduced p (push_at p c sign k)) w u v)
        ∙ (reduced_is p ok.pairs (with_words p (λ k. reduced p (push_at p c sign k)) w u v)
        ∙ (set_reduced (push_at p c sign) w u v ∙ sym (reduced_is p ok.pairs (image p c sign w u v)))))

    -- and the words of all strands are twisted
    pub strands_twisted : (ws : List (List ℕ)) → strands_with p pushes ws ≡ twisted p c sign ws
    strands_twisted ws =
        ap (λ (f : ℕ × List ℕ → List ℕ). map f (enumerate_from 0 ws))
        (fun_ext (λ (e : ℕ × List ℕ). set_is_image e.1 (second_side p e.0) (first_side p e.0)))

-- each word of a table is short, and none stands past its end
short_of : (pushes : List (List ℕ)) → All (λ push. length push ≤ 2048) pushes → (k : ℕ) → length (get_or pushes k []) ≤ 2048
short_of [] h k = omega arith
short_of (push ∷ pushes) h zero = h 0 [] (omega arith)
short_of (push ∷ pushes) h (suc k) = short_of pushes (λ i d l. h (suc i) d (omega arith)) k

module _ (p : Polygon) (few_sides : sides p ≤ 16) (some : 0 < sides p) (pushes : List (List ℕ)) (short : All (λ push. length push ≤ 2048) pushes) where
  -- fewer than 16 sides are passed
  length-way : (u v : ℕ) → length (flat_map (push_of pushes) (passed p u v)) ≤ 32768
  length-way u v =
      omega (
        arith,
        length_product (push_of pushes) 2048 (passed p u v) (short_of pushes short),
        length-map-range_with_len (λ i. (u + 1 + i) % sides p) 0 ((v + sides p - u) % sides p),
      )

  -- so so many letters are set
  pub length-with_words : (w : List ℕ) (u v : ℕ) → length (with_words p (push_of pushes) w u v) ≤ (length w + 1) * 32768 + length w
  length-with_words [] u v = omega (arith, length-way u v)
  length-with_words (s ∷ w) u v =
      omega (
        arith,
        length-append (flat_map (push_of pushes) (passed p u (gap_before p s))) (s ∷ with_words p (push_of pushes) w (partner p s) v),
        length-way u (gap_before p s),
        length-with_words w (partner p s) v,
      )

-- empty words in a row
none_set : (f : ℕ → List ℕ) → ((k : ℕ) → f k ≡ []) → (xs : List ℕ) → flat_map f xs ≡ []
none_set f none [] = refl
none_set f none (x ∷ xs) = ap₂ (λ a b. a ++ b) (none x) (none_set f none xs)

module _ (p : Polygon) (pushes : List (List ℕ)) (none : (k : ℕ) → push_of pushes k ≡ []) where
  -- with nothing set a word stays
  same_word : (w : List ℕ) (u v : ℕ) → with_words p (push_of pushes) w u v ≡ w
  same_word [] u v = none_set (push_of pushes) none (passed p u v)
  same_word (s ∷ w) u v = ap₂ (λ a b. a ++ (s ∷ b)) (none_set (push_of pushes) none (passed p u (gap_before p s))) (same_word w (partner p s) v)

  -- and words are reduced
  only_reduced : (n : ℕ) (ws : List (List ℕ)) → map (λ (e : ℕ × List ℕ). strand_with p pushes e.0 e.1) (enumerate_from n ws) ≡ map (reduced p) ws
  only_reduced n [] = refl
  only_reduced n (w ∷ ws) = ap₂ (λ x xs. x ∷ xs) (ap (reduced p) (same_word w (second_side p n) (first_side p n))) (only_reduced (n + 1) ws)

  reduced_twice : (ws : List (List ℕ)) → map (reduced p) (map (reduced p) ws) ≡ map (reduced p) ws
  reduced_twice [] = refl
  reduced_twice (w ∷ ws) = ap₂ (λ x xs. x ∷ xs) (reduced_free p (reduced p w) (Free-reduced p w)) (reduced_twice ws)

  -- so a second time changes nothing
  pub twice_as_once : (ws : List (List ℕ)) → strands_with p pushes (strands_with p pushes ws) ≡ strands_with p pushes ws
  twice_as_once ws =
      only_reduced 0 (strands_with p pushes ws) ∙ (ap (map (reduced p)) (only_reduced 0 ws) ∙ (reduced_twice ws ∙ sym (only_reduced 0 ws)))

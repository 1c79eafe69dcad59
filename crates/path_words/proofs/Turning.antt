-- One single twist, strand by strand.
use Rattle.std.proofs.Common.{◌≡◌, ℕ, ◌+◌, ◌*◌, ◌^◌, ◌<◌, ◌≤◌, List, [], ◌∷◌, ◌++◌, map, length, take, get_or, refl, sym, ◌∙◌, ap, ap₂, arith, All, length-take-le, zero-add}
use Rattle.std.specs.Prelude.{Ok, Err}
use Rattle.std.specs.List.{enumerate_from}
use Rattle.std.proofs.lemmas.Bool.{lt-ltb, le-ltb}
use Rattle.std.proofs.lemmas.List.{length-map, map-append, take_more, take_all}
use Rattle.std.proofs.lemmas.List.FromFn.{length-enumerate_from}
use Rattle.std.proofs.lemmas.List.Sums.{sum_by_push}
use Rattle.page_surface.specs.Polygon.{Polygon, sides}
use Rattle.curve_paths.specs.Twists.{AreWords, letters, limited}
use Rattle.path_words.specs.Pushes.{strand_with, strands_with}
use Rattle.path_words.proofs.Numbered.{enumerated_more}

-- words within the limit
pub limited_within : (ws images : List (List ℕ)) → images ≡ ws → letters ws ≤ 4000 → limited ws ≡ Ok images
limited_within ws images is few = rw (is, le-ltb 4000 (letters ws) few) refl

-- and beyond
pub limited_long : (ws : List (List ℕ)) (count : ℕ) → count ≡ letters ws → 4000 < count → limited ws ≡ Err count
limited_long ws count is many = rw (is, lt-ltb 4000 (letters ws) (omega (arith, is, many))) refl

module _ (p : Polygon) (pushes : List (List ℕ)) where
  -- the image of one strand more
  strands_more : (ws : List (List ℕ)) (w : List ℕ) → strands_with p pushes (ws ++ w ∷ []) ≡ strands_with p pushes ws ++ strand_with p pushes (length ws) w ∷ []
  strands_more ws w =
      let f = λ (e : ℕ × List ℕ). strand_with p pushes e.0 e.1 in
      ap (map f) (enumerated_more 0 ws w)
      ∙ (map-append f (enumerate_from 0 ws) ((0 + length ws, w) ∷ []) ∙ ap (λ (n : ℕ). strands_with p pushes ws ++ strand_with p pushes n w ∷ []) (zero-add (length ws)))

  -- as many images as words
  pub length-strands_with : (ws : List (List ℕ)) → length (strands_with p pushes ws) ≡ length ws
  length-strands_with ws = length-map (enumerate_from 0 ws) (λ (e : ℕ × List ℕ). strand_with p pushes e.0 e.1) ∙ length-enumerate_from 0 ws

  -- the letters of the first images are counted, and where they are few the images are there
  pub record IsTurning (ws : List (List ℕ)) (i : ℕ) (images : List (List ℕ)) (count : ℕ) : Type 0 where
    pub total : count ≡ letters (strands_with p pushes (take i ws))
    pub images_are : count ≤ 4000 → images ≡ strands_with p pushes (take i ws)
    pub in_range : All (λ w. All (λ s. s < sides p) w) images
    pub fits : count ≤ i * 2 ^ 32

  -- one strand more
  pub turning_more : (ws : List (List ℕ)) (i : ℕ) (images now : List (List ℕ)) (count more then : ℕ) (w seen : List ℕ) (arc : ℕ) → IsTurning ws i images count
      → i < length ws → w ≡ get_or ws i w → seen ≡ w → arc ≡ i → more ≡ length (strand_with p pushes arc seen) → (more ≤ 4000 → now ≡ images ++ strand_with p pushes arc seen ∷ [])
      → All (λ w. All (λ s. s < sides p) w) now → more < 2 ^ 32 → then ≡ count + more → IsTurning ws (i + 1) now then
  turning_more ws i images now count more then w seen arc before within is same at letters_are put in_range fits sum =
      let longer : take (i + 1) ws ≡ take i ws ++ w ∷ [] = take_more ws i w within ∙ ap (λ s. take i ws ++ s ∷ []) (sym is) in
      let size : length (take i ws) ≡ i = length-take-le i ws (omega arith) in
      let word : strand_with p pushes (length (take i ws)) w ≡ strand_with p pushes arc seen = ap₂ (λ (n : ℕ) (x : List ℕ). strand_with p pushes n x) (size ∙ sym at) (sym same) in
      let turned : strands_with p pushes (take (i + 1) ws) ≡ strands_with p pushes (take i ws) ++ strand_with p pushes arc seen ∷ []
      = ap (strands_with p pushes) longer ∙ (strands_more (take i ws) w ∙ ap (λ x. strands_with p pushes (take i ws) ++ x ∷ []) word) in
      let added : letters (strands_with p pushes (take (i + 1) ws)) ≡ letters (strands_with p pushes (take i ws)) + length (strand_with p pushes arc seen)
      = ap letters turned ∙ sum_by_push length (strands_with p pushes (take i ws)) (strand_with p pushes arc seen) in
      record {
        total = omega (arith, before.total, added, letters_are, sum);
        images_are = λ few. put (omega (arith, sum, few)) ∙ (ap (λ x. x ++ strand_with p pushes arc seen ∷ []) (before.images_are (omega (arith, sum, few))) ∙ sym turned);
        in_range = in_range;
        fits = omega (arith, before.fits, fits, sum);
      }

  -- all strands
  turning_all : (ws : List (List ℕ)) (i : ℕ) (images : List (List ℕ)) (count : ℕ) → IsTurning ws i images count → i ≡ length ws → count ≡ letters (strands_with p pushes ws)
  turning_all ws i images count h end = h.total ∙ ap (λ x. letters (strands_with p pushes x)) (take_all i ws (omega (arith, end)))

  -- few letters together
  pub turned_few : (ws : List (List ℕ)) (i : ℕ) (images : List (List ℕ)) (count : ℕ) → IsTurning ws i images count → i ≡ length ws → count ≤ 4000
      → limited (strands_with p pushes ws) ≡ Ok images
  turned_few ws i images count h end few =
      let made : images ≡ strands_with p pushes ws = h.images_are few ∙ ap (strands_with p pushes) (take_all i ws (omega (arith, end))) in
      limited_within (strands_with p pushes ws) images made (omega (arith, few, turning_all ws i images count h end))

  -- are words again
  pub turned_words : (ws : List (List ℕ)) (i : ℕ) (images : List (List ℕ)) (count : ℕ) → AreWords p ws → IsTurning ws i images count → i ≡ length ws → count ≤ 4000 → AreWords p images
  turned_words ws i images count words h end few =
      let made : images ≡ strands_with p pushes ws = h.images_are few ∙ ap (strands_with p pushes) (take_all i ws (omega (arith, end))) in
      record {
        each = ap length made ∙ (length-strands_with ws ∙ words.each);
        in_range = h.in_range;
        few = omega (arith, few, turning_all ws i images count h end, ap letters made);
      }

  -- too many letters together
  pub turned_long : (ws : List (List ℕ)) (i : ℕ) (images : List (List ℕ)) (count : ℕ) → IsTurning ws i images count → i ≡ length ws → 4000 < count
      → limited (strands_with p pushes ws) ≡ Err count
  turned_long ws i images count h end many =
      limited_long (strands_with p pushes ws) count (turning_all ws i images count h end) many

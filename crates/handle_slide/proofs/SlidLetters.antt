-- The letters of the exits after a slide are those that are read off the letters before.
use Rattle.std.proofs.Common.{◌≡◌, ◌≢◌, ℕ, ◌+◌, ◌<◌, Bool, true, false, cond, eqb, ◌&&◌, ◌||◌, not, List, [], ◌∷◌, ◌++◌, map, length, refl, sym, ap, ap₂, ◌∙◌}
use Rattle.std.specs.List.{flat_map}
use Rattle.std.proofs.lemmas.Bool.{eq-eqb, ne_eqb, or_from, or_left, or_right}
use Rattle.obd_base.specs.Lists.{below}
use Rattle.obd_base.specs.declared.points.Exit.{Exit}
use Rattle.obd_base.proofs.lists.Below.{mem_below}
use Rattle.page_surface.specs.Polygon.{IsPolygon, Polygon, partner, sides}
use Rattle.curve_paths.specs.Curves.{exit_at, previous}
use Rattle.handle_slide.specs.Letters.{all_letters, letters_of, without_pairs}
use Rattle.handle_slide.specs.Slide.{is_inside, is_slid, new_number, side_after, slid_exit, slid_exits}
use Rattle.handle_slide.proofs.SlidExits.{gone, own_exit, post, post_exit, pre, pre_exit}
use Rattle.curve_paths.proofs.NameWords.{flat_same}
use Rattle.curve_paths.proofs.CurvePoints.{following, previous-following}
use Rattle.handle_slide.proofs.ByNumbers.{by_numbers, map_flat}
use Rattle.handle_slide.proofs.LetterKinds.{Kind, at_k, at_after, at_partner, at_far, other, kind, k1_k, pk_k, pk_k1, far_k, far_k1, far_pk, letters_k, letters_after, letters_partner, letters_far, letters_other, slid_no, slid_k, slid_k1}
use Rattle.handle_slide.proofs.LetterPlaces.{at, left, len, one_letter, size, two_letters}

module _ (p : Polygon) (is : IsPolygon p) (k : ℕ) (lk : k < sides p) (slides : side_after p k ≢ partner p k) (c : List Exit) where
  abbrev pk : ℕ
  pk = partner p k

  abbrev k1 : ℕ
  k1 = side_after p k

  abbrev n : ℕ
  n = length c

  abbrev letter : ℕ → ℕ
  letter i = (exit_at c i).side

  abbrev inside : ℕ → Bool
  inside i = is_inside p k c i

  abbrev num : ℕ → ℕ
  num s = new_number p k s

  -- the letters of the exits that an exit becomes
  abbrev shown : Bool → Bool → Bool → ℕ → List ℕ
  shown a b d s = cond a (num k ∷ []) [] ++ (cond b [] (num s ∷ []) ++ cond d (num pk ∷ []) [])

  sides_of_exit : (i : ℕ) → map (λ (e : Exit). e.side) (slid_exit p k c i) ≡ shown (pre p k c i) (gone p k c i) (post p k c i) (letter i)
  sides_of_exit i = go (pre_exit p k c i) (own_exit p k c i) (post_exit p k c i) (pre p k c i) (gone p k c i) (post p k c i)
    where
      go : (x y z : Exit) (a b d : Bool) → map (λ (e : Exit). e.side) (cond a (x ∷ []) [] ++ (cond b [] (y ∷ []) ++ cond d (z ∷ []) []))
          ≡ cond a (x.side ∷ []) [] ++ (cond b [] (y.side ∷ []) ++ cond d (z.side ∷ []) [])
      go x y z true true true = refl
      go x y z true true false = refl
      go x y z true false true = refl
      go x y z true false false = refl
      go x y z false true true = refl
      go x y z false true false = refl
      go x y z false false true = refl
      go x y z false false false = refl

  -- with what is known of the two sides of a letter
  shown_by : (i : ℕ) (a b g : Bool) → is_slid p k (letter i) ≡ a → is_slid p k (partner p (letter i)) ≡ b → gone p k c i ≡ g
      → map (λ (e : Exit). e.side) (slid_exit p k c i) ≡ shown (a && not (inside i)) g (b && not (inside (following n i))) (letter i)
  shown_by i a b g ea eb eg =
      sides_of_exit i
      ∙ (ap₂ (λ x y. shown (x && not (inside i)) (gone p k c i) (y && not (inside (following n i))) (letter i)) ea eb
      ∙ ap (λ x. shown (a && not (inside i)) x (b && not (inside (following n i))) (letter i)) eg)

  next_no : (i : ℕ) → i < n → is_slid p k (partner p (letter i)) ≡ false → inside (following n i) ≡ false
  next_no i l e =
      ap (λ x. is_slid p k (partner p (letter x)) && is_slid p k (letter (following n i))) (previous-following n i l) ∙ ap (λ b. b && is_slid p k (letter (following n i))) e

  this_no : (i : ℕ) → is_slid p k (letter i) ≡ false → inside i ≡ false
  this_no i e = ap (λ b. is_slid p k (partner p (letter (previous n i))) && b) e ∙ and_false (is_slid p k (partner p (letter (previous n i))))
    where
      and_false : (b : Bool) → (b && false) ≡ false
      and_false true = refl
      and_false false = refl

  gone_at : (i : ℕ) (g : Bool) (s : ℕ) → letter i ≡ s → (eqb s k || eqb s pk) ≡ g → gone p k c i ≡ g
  gone_at i g s e h = ap (λ x. eqb x k || eqb x pk) e ∙ h

  -- exit by exit
  exit_letters : (i : ℕ) → i < n → map (λ (e : Exit). e.side) (slid_exit p k c i) ≡ map (new_number p k) (flat_map (λ j. (left p is k lk slides c) (at p is k lk slides c i + j)) (below (len p is k lk slides c i)))
  exit_letters i l = go (kind p is k lk slides (letter i))
    where
      s : ℕ
      s = letter i

      go : (Kind p is k lk slides) (letter i) → map (λ (e : Exit). e.side) (slid_exit p k c i) ≡ map (new_number p k) (flat_map (λ j. (left p is k lk slides c) (at p is k lk slides c i + j)) (below (len p is k lk slides c i)))
      go (at_k e) =
          let slid = ap (is_slid p k) e ∙ slid_k p is k lk slides in
          let far = ap (λ x. is_slid p k (partner p x)) e ∙ slid_no p is k lk slides pk (pk_k p is k lk slides) (pk_k1 p is k lk slides) in
          let letters = one_letter p is k lk slides c i k l (ap (letters_of p k) e ∙ (letters_k p is k lk slides)) in
          shown_by i true false true slid far (gone_at i true k e (or_left (eqb k k) (eqb k pk) (eq-eqb k k refl)))
          ∙ (by (inside i) ∙ sym (ap (map (new_number p k)) (letters ∙ ap (λ b. cond (b || inside i) [] (k ∷ [])) (next_no i l far))))
        where
          by : (b : Bool) → shown (true && not b) true (false && not (inside (following n i))) (letter i) ≡ map (new_number p k) (cond (false || b) [] (k ∷ []))
          by true = refl
          by false = refl
      go (at_after e) =
          let slid = ap (is_slid p k) e ∙ slid_k1 p is k lk slides in
          let far = ap (λ x. is_slid p k (partner p x)) e ∙ slid_no p is k lk slides (partner p k1) (far_k p is k lk slides) (far_k1 p is k lk slides) in
          let letters = two_letters p is k lk slides c i k k1 l (ap (letters_of p k) e ∙ (letters_after p is k lk slides)) (λ q. (pk_k p is k lk slides) (sym q)) in
          shown_by i true false false slid far (gone_at i false k1 e (or_from (eqb k1 k) (eqb k1 pk) (ne_eqb k1 k (k1_k p is k lk slides)) (ne_eqb k1 pk slides)))
          ∙ (ap (λ x. shown (true && not (inside i)) false (false && not (inside (following n i))) x) e
          ∙ (by (inside i) ∙ sym (ap (map (new_number p k)) (letters ∙ ap (λ b. cond (inside i) [] (k ∷ []) ++ cond b [] (k1 ∷ [])) (next_no i l far)))))
        where
          by : (b : Bool) → shown (true && not b) false (false && not (inside (following n i))) k1 ≡ map (new_number p k) (cond b [] (k ∷ []) ++ cond false [] (k1 ∷ []))
          by true = refl
          by false = refl
      go (at_partner e) =
          let slid = ap (is_slid p k) e ∙ slid_no p is k lk slides pk (pk_k p is k lk slides) (pk_k1 p is k lk slides) in
          let far = ap (is_slid p k) (ap (partner p) e ∙ is.pairs.twice k) ∙ slid_k p is k lk slides in
          let letters = one_letter p is k lk slides c i pk l (ap (letters_of p k) e ∙ (letters_partner p is k lk slides)) in
          shown_by i false true true slid far (gone_at i true pk e (or_right (eqb pk k) (eqb pk pk) (eq-eqb pk pk refl)))
          ∙ (by (inside (following n i)) ∙ sym (ap (map (new_number p k)) (letters ∙ ap (λ b. cond (inside (following n i) || b) [] (pk ∷ [])) (this_no i slid))))
        where
          by : (b : Bool) → shown (false && not (inside i)) true (true && not b) (letter i) ≡ map (new_number p k) (cond (b || false) [] (pk ∷ []))
          by true = refl
          by false = refl
      go (at_far e) =
          let slid = ap (is_slid p k) e ∙ slid_no p is k lk slides (partner p k1) (far_k p is k lk slides) (far_k1 p is k lk slides) in
          let far = ap (is_slid p k) (ap (partner p) e ∙ is.pairs.twice k1) ∙ slid_k1 p is k lk slides in
          let letters = two_letters p is k lk slides c i (partner p k1) pk l (ap (letters_of p k) e ∙ (letters_far p is k lk slides)) (far_pk p is k lk slides) in
          shown_by i false true false slid far (gone_at i false (partner p k1) e (or_from (eqb (partner p k1) k) (eqb (partner p k1) pk) (ne_eqb (partner p k1) k (far_k p is k lk slides)) (ne_eqb (partner p k1) pk (far_pk p is k lk slides))))
          ∙ (ap (λ x. shown (false && not (inside i)) false (true && not (inside (following n i))) x) e
          ∙ (by (inside (following n i)) ∙ sym (ap (map (new_number p k)) (letters ∙ ap (λ b. cond b [] (partner p k1 ∷ []) ++ cond (inside (following n i)) [] (pk ∷ [])) (this_no i slid)))))
        where
          by : (b : Bool) → shown (false && not (inside i)) false (true && not b) (partner p k1) ≡ map (new_number p k) (cond false [] (partner p k1 ∷ []) ++ cond b [] (pk ∷ []))
          by true = refl
          by false = refl
      go (other a b d h) =
          let slid = slid_no p is k lk slides (letter i) a b in
          let far = slid_no p is k lk slides (partner p (letter i)) (λ q. d (sym (is.pairs.twice (letter i)) ∙ ap (partner p) q)) (λ q. h (sym (is.pairs.twice (letter i)) ∙ ap (partner p) q)) in
          let letters = one_letter p is k lk slides c i (letter i) l (letters_other p is k lk slides (letter i) a b d h) in
          shown_by i false false false slid far (or_from (eqb (letter i) k) (eqb (letter i) pk) (ne_eqb (letter i) k a) (ne_eqb (letter i) pk d))
          ∙ sym (ap (map (new_number p k)) (letters ∙ ap₂ (λ x y. cond (x || y) [] (letter i ∷ [])) (next_no i l far) (this_no i slid)))

  -- so the exits after the slide have the letters of the definition
  pub letters_slid : map (λ (e : Exit). e.side) (slid_exits p k c) ≡ map (new_number p k) (without_pairs p k (all_letters p k c))
  letters_slid =
      map_flat (λ (e : Exit). e.side) (slid_exit p k c) (below n)
      ∙ (flat_same _ _ (below n) (λ i m. exit_letters i (mem_below n i m))
      ∙ (sym (map_flat (new_number p k) (λ i. flat_map (λ j. (left p is k lk slides c) (at p is k lk slides c i + j)) (below (len p is k lk slides c i))) (below n))
      ∙ ap (map (new_number p k)) (sym (ap (λ m. flat_map (left p is k lk slides c) (below m)) (size p is k lk slides c) ∙ by_numbers (len p is k lk slides c) (left p is k lk slides c) n))))

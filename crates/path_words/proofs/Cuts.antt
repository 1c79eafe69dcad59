-- Two reduced words joined: what cancels is an end of the first with a start of the second.
use Rattle.std.proofs.Common.{◌≡◌, ◌≢◌, ℕ, ◌+◌, ◌-◌, ◌<◌, ◌≤◌, List, [], ◌∷◌, ◌++◌, length, take, drop, get_or, refl, sym, ◌∙◌, ap, ap₂, subst, arith, append_assoc, append-nil, ◌⊎◌, inl, inr}
use Rattle.std.proofs.lemmas.Bool.{ne_eqb}
use Rattle.std.proofs.lemmas.List.{drop_all, drop_more, same_from_push, take-append-drop, take_all, take_more}
use Rattle.page_surface.specs.Polygon.{Pairs, Polygon, partner}
use Rattle.page_surface.specs.Words.{reduced}
use Rattle.page_surface.proofs.WordLaws.{Free, reduced_free, reduced_step_at}
use Rattle.path_words.proofs.Reducing.{Free-front}
use Rattle.path_words.proofs.Stacks.{free_word}

-- the rest of a word without a pair
Free-rest : (p : Polygon) (a b : List ℕ) → Free p (a ++ b) → Free p b
Free-rest p [] b h = h
Free-rest p (s ∷ a) b h = Free-rest p a b h.1

-- two words without a pair, of which the last letter of the first isn't the partner of the first of the second
Free-join : (p : Polygon) (u v : List ℕ) → Free p u → Free p v → ((a : List ℕ) (s t : ℕ) (b : List ℕ) → u ≡ a ++ s ∷ [] → v ≡ t ∷ b → partner p s ≢ t) → Free p (u ++ v)
Free-join p [] v hu hv apart = hv
Free-join p (s ∷ []) [] hu hv apart = (tt, tt)
Free-join p (s ∷ []) (t ∷ v) hu hv apart = (ne_eqb _ _ (apart [] s t v refl refl), hv)
Free-join p (s ∷ t ∷ u) v hu hv apart = (hu.0, Free-join p (t ∷ u) v hu.1 hv (λ a x y b e f. apart (s ∷ a) x y b (ap (λ z. s ∷ z) e) f))

-- the last letters of a word cancel with as many first letters of another
pub record Cancels (p : Polygon) (word letters : List ℕ) (k : ℕ) : Type 0 where
  pub within : k ≤ length word
  pub within_letters : k ≤ length letters
  pub same : reduced p (take (length word - k) word ++ drop k letters) ≡ reduced p (word ++ letters)

module _ (p : Polygon) (ok : Pairs p) (word letters : List ℕ) where
  -- none yet
  pub cancels_none : Cancels p word letters 0
  cancels_none = record {
    within = omega arith;
    within_letters = omega arith;
    same = ap (λ w. reduced p (w ++ letters)) (take_all (length word - 0) word (omega arith));
  }

  module _ (k : ℕ) (h : Cancels p word letters k) where
    -- the next two letters
    module _ (s t : ℕ) (some : k < length word) (more : k < length letters) (last : s ≡ get_or word (length word - 1 - k) s) (first : t ≡ get_or letters k t) where
      ends : take (length word - k) word ≡ take (length word - 1 - k) word ++ s ∷ []
      ends =
          let e : length word - k ≡ (length word - 1 - k) + 1 = omega (arith, some) in
          ap (λ n. take n word) e ∙ (take_more word (length word - 1 - k) s (omega (arith, some)) ∙ ap (λ x. take (length word - 1 - k) word ++ x ∷ []) (sym last))

      starts : drop k letters ≡ t ∷ drop (k + 1) letters
      starts = drop_more letters k t more ∙ ap (λ x. x ∷ drop (k + 1) letters) (sym first)

      -- cancel
      pub cancels_more : partner p s ≡ t → Cancels p word letters (k + 1)
      cancels_more pair =
          let u : List ℕ = take (length word - 1 - k) word in
          let v : List ℕ = drop (k + 1) letters in
          let shape : take (length word - k) word ++ drop k letters ≡ u ++ (s ∷ partner p s ∷ v)
          = ap₂ (λ a b. a ++ b) ends (starts ∙ ap (λ x. x ∷ v) (sym pair)) ∙ append_assoc u (s ∷ []) (partner p s ∷ v) in
          let fewer : length word - (k + 1) ≡ length word - 1 - k = omega arith in
          record {
            within = omega (arith, some);
            within_letters = omega (arith, more);
            same = ap (λ n. reduced p (take n word ++ v)) fewer ∙ (sym (ap (reduced p) shape ∙ reduced_step_at p ok u v s) ∙ h.same);
          }

      -- or don't
      apart : partner p s ≢ t → (a : List ℕ) (x y : ℕ) (b : List ℕ) → take (length word - k) word ≡ a ++ x ∷ [] → drop k letters ≡ y ∷ b → partner p x ≢ y
      apart ne a x y b e f =
          let q : x ≡ s = (same_from_push _ _ _ _ (sym e ∙ ends)).1 in
          let r : y ≡ t = ap (λ z. get_or z 0 y) (sym f ∙ starts) in
          λ z. ne (ap (partner p) (sym q) ∙ (z ∙ r))

    module _ (word_free : reduced p word ≡ word) (letters_free : reduced p letters ≡ letters) where
      front : Free p (take (length word - k) word)
      front = Free-front p (take (length word - k) word) (drop (length word - k) word) (subst (Free p) (sym (take-append-drop (length word - k) word)) (free_word p word word_free))

      rest : Free p (drop k letters)
      rest = Free-rest p (take k letters) (drop k letters) (subst (Free p) (sym (take-append-drop k letters)) (free_word p letters letters_free))

      -- where the next two don't cancel, what is left is reduced
      pub cut_apart : (s t : ℕ) → k < length word → k < length letters → s ≡ get_or word (length word - 1 - k) s → t ≡ get_or letters k t → partner p s ≢ t
          → take (length word - k) word ++ drop k letters ≡ reduced p (word ++ letters)
      cut_apart s t some more last first ne =
          sym (reduced_free p _ (Free-join p (take (length word - k) word) (drop k letters) front rest (apart s t some more last first ne))) ∙ h.same

      -- and where one of the two words is used up
      pub cut_ended : (k ≡ length word) ⊎ (k ≡ length letters) → take (length word - k) word ++ drop k letters ≡ reduced p (word ++ letters)
      cut_ended (inl e) =
          let none : take (length word - k) word ≡ [] = (let z : length word - k ≡ 0 = omega (arith, e) in ap (λ n. take n word) z) in
          sym (reduced_free p _ (subst (λ u. Free p (u ++ drop k letters)) (sym none) rest)) ∙ h.same
      cut_ended (inr e) =
          let none : drop k letters ≡ [] = drop_all k letters (omega (arith, e)) in
          let whole : take (length word - k) word ≡ take (length word - k) word ++ drop k letters = sym (ap (λ v. take (length word - k) word ++ v) none ∙ append-nil _) in
          sym (reduced_free p _ (subst (Free p) whole front)) ∙ h.same

-- Words in which no letter stands before its inverse, read along or read round.
use Rattle.std.proofs.Common.{◌≡◌, Bool, true, false, List, [], ◌∷◌, ◌++◌, refl, sym, ◌∙◌, ap, subst, append_assoc}
use Rattle.std.proofs.lemmas.Bool.{false≢true}
use Rattle.std.proofs.lemmas.List.{same_from_push}
use Rattle.curve_paths.specs.Alphabet.{Alphabet, back}
use Rattle.tight_curves.proofs.Rotations.{not_empty_push, same_cons}
use Rattle.curve_paths.proofs.Reduction.{Clear, Free, back-cons}

module _ {A : Type 0} (L : Alphabet A) where
  -- letters that differ are told apart
  pub told_apart : (x y : A) → (x ≡ y → ⊥) → L.same x y ≡ false
  told_apart x y ne = go (L.same x y) refl
    where
      go : (b : Bool) → L.same x y ≡ b → b ≡ false
      go true e = absurd (ne (L.same_true x y e))
      go false e = refl

  -- and what is told apart differs
  pub apart : (x y : A) → L.same x y ≡ false → x ≡ y → ⊥
  apart x y f e = false≢true (sym f ∙ subst (λ z. L.same x z ≡ true) e (L.same_self x))

  -- two free words after one another
  pub free_join : (u v : List A) → Free L u → Free L v → ((t : List A) (z : A) → u ≡ t ++ (z ∷ []) → Clear L z v) → Free L (u ++ v)
  free_join [] v g h c = h
  free_join (x ∷ []) v g h c = (c [] x refl, h)
  free_join (x ∷ y ∷ u) v g h c = (g.0, free_join (y ∷ u) v g.1 h (λ t z e. c (x ∷ t) z (ap (λ w. x ∷ w) e)))

  -- the parts of a free word
  pub free_first : (u v : List A) → Free L (u ++ v) → Free L u
  free_first [] v h = tt
  free_first (x ∷ []) v h = (tt, tt)
  free_first (x ∷ y ∷ u) v h = (h.0, free_first (y ∷ u) v h.1)

  -- the second part
  pub free_second : (u v : List A) → Free L (u ++ v) → Free L v
  free_second [] v h = h
  free_second (x ∷ u) v h = free_second u v h.1

  -- a letter before a free word
  pub clear_cons : (x y : A) (v : List A) → (y ≡ L.inv x → ⊥) → Clear L x (y ∷ v)
  clear_cons x y v ne = told_apart (L.inv x) y (λ e. ne (sym e))

  -- the inverse of a free word is free
  pub free_back : (w : List A) → Free L w → Free L (back L w)
  free_back [] h = tt
  free_back (x ∷ w) h = subst (Free L) (sym (back-cons L x w)) (free_join (back L w) (L.inv x ∷ []) (free_back w h.1) (tt, tt) (at w h.0))
    where
      at : (w : List A) → Clear L x w → (t : List A) (z : A) → back L w ≡ t ++ (z ∷ []) → Clear L z (L.inv x ∷ [])
      at [] c t z e = absurd (not_empty_push t z (sym e))
      at (y ∷ w) c t z e =
          let (r, q) = same_from_push _ _ _ _ (sym (back-cons L y w) ∙ e) in
          clear_cons z (L.inv x) [] (λ s. apart (L.inv x) y c (s ∙ (ap L.inv (sym q) ∙ L.twice y)))

  -- no letter stands before its inverse, and the last one is not undone by the first
  pub record RoundFree (u : List A) : Type 0 where
    pub free : Free L u
    pub ends : (k : A) (v : List A) → u ≡ L.inv k ∷ (v ++ (k ∷ [])) → ⊥

  -- the first letter is moved to the end
  pub round_free_on : (x : A) (v : List A) → RoundFree (x ∷ v) → RoundFree (v ++ (x ∷ []))
  round_free_on x v h = record {
    free = free_join v (x ∷ []) (h.free).1 (tt, tt) (λ t z e. clear_cons z x [] (λ q. h.ends z t (ap (λ y. y ∷ v) q ∙ ap (λ y. L.inv z ∷ y) e)));
    ends = ends v h;
  }
    where
      ends : (v : List A) → RoundFree (x ∷ v) → (k : A) (t : List A) → v ++ (x ∷ []) ≡ L.inv k ∷ (t ++ (k ∷ [])) → ⊥
      ends [] h k t e = not_empty_push t k (sym (same_cons x (L.inv k) [] (t ++ (k ∷ [])) e).1)
      ends (y ∷ v) h k t e =
          let (q, r) = same_cons y (L.inv k) (v ++ (x ∷ [])) (t ++ (k ∷ [])) e in
          let (s, z) = same_from_push _ _ _ _ r in
          apart (L.inv x) y (h.free).0 (ap L.inv z ∙ sym q)

  -- the last letter is moved to the front
  pub round_free_off : (x : A) (v : List A) → RoundFree (v ++ (x ∷ [])) → RoundFree (x ∷ v)
  round_free_off x v h = record { free = (clear v h, free_first v (x ∷ []) h.free); ends = ends }
    where
      clear : (v : List A) → RoundFree (v ++ (x ∷ [])) → Clear L x v
      clear [] h = tt
      clear (y ∷ v) h = clear_cons x y v (λ q. h.ends x v (ap (λ z. z ∷ (v ++ (x ∷ []))) q))

      ends : (k : A) (t : List A) → x ∷ v ≡ L.inv k ∷ (t ++ (k ∷ [])) → ⊥
      ends k t e =
          let (q, r) = same_cons x (L.inv k) v (t ++ (k ∷ [])) e in
          let f : Free L (t ++ (k ∷ L.inv k ∷ [])) = subst (Free L) (ap (λ z. z ++ (x ∷ [])) r ∙ (append_assoc t (k ∷ []) (x ∷ []) ∙ ap (λ z. t ++ (k ∷ z ∷ [])) q)) h.free in
          apart (L.inv k) (L.inv k) (free_second t (k ∷ L.inv k ∷ []) f).0 refl

-- Words put in place of letters so that inverse letters get inverse words: the reduced form is respected.
use Rattle.std.proofs.Common.{◌≡◌, Bool, true, false, cond, List, [], ◌∷◌, ◌++◌, map, refl, sym, ◌∙◌, ap, subst, append_assoc, inl, inr}
use Rattle.std.specs.List.{flat_map}
use Rattle.std.proofs.lemmas.List.Concat.{flat_map_single}
use Rattle.curve_paths.specs.Alphabet.{Alphabet, push, cancelled, back, Alike}
use Rattle.curve_paths.proofs.Reduction.{alike_after, null_out, word_and_back}
use Rattle.obd_base.specs.Lists.{Mem}

module _ {A B : Type 0} (L : Alphabet A) (K : Alphabet B) (f : A → List B) where
  -- the inverse of x gets the inverse word, up to reduction
  abbrev pub Turns : A → Type 0
  Turns x = Alike K (f (L.inv x)) (back K (f x))

  hom_push : (x : A) (w : List A) → Turns x → Alike K (flat_map f (push L x w)) (f x ++ flat_map f w)
  hom_push x [] t = refl
  hom_push x (y ∷ w) t = go (L.same (L.inv x) y) refl
    where
      out : Alike K (f x ++ (f (L.inv x) ++ flat_map f w)) (flat_map f w)
      out = ap (cancelled K) (sym (append_assoc (f x) (f (L.inv x)) (flat_map f w)))
          ∙ null_out K [] (f x ++ f (L.inv x)) (flat_map f w) (alike_after K (f x) (f (L.inv x)) (back K (f x)) t ∙ word_and_back K (f x))

      go : (b : Bool) → L.same (L.inv x) y ≡ b → Alike K (flat_map f (cond b w (x ∷ y ∷ w))) (f x ++ (f y ++ flat_map f w))
      go true e = sym (subst (λ z. Alike K (f x ++ (f z ++ flat_map f w)) (flat_map f w)) (L.same_true _ _ e) out)
      go false e = refl

  -- a word and its reduced form get words with one reduced form
  pub hom_cancelled : (u : List A) → ((x : A) → Mem x u → Turns x) → Alike K (flat_map f (cancelled L u)) (flat_map f u)
  hom_cancelled [] t = refl
  hom_cancelled (x ∷ u) t =
      hom_push x (cancelled L u) (t x (inl refl))
      ∙ alike_after K (f x) (flat_map f (cancelled L u)) (flat_map f u) (hom_cancelled u (λ y m. t y (inr m)))

  -- words with one reduced form get words with one reduced form
  pub hom : (u v : List A) → ((x : A) → Mem x u → Turns x) → ((x : A) → Mem x v → Turns x) → Alike L u v → Alike K (flat_map f u) (flat_map f v)
  hom u v s t h = sym (hom_cancelled u s) ∙ (ap (λ z. cancelled K (flat_map f z)) h ∙ hom_cancelled v t)

module _ {A B : Type 0} (L : Alphabet A) (K : Alphabet B) (f : A → B) where
  -- a renaming that takes inverses to inverses respects the reduced form
  pub alike_renamed : ((x : A) → f (L.inv x) ≡ K.inv (f x)) → (u v : List A) → Alike L u v → Alike K (map f u) (map f v)
  alike_renamed h u v e =
      let t = λ (x : A). let q : cancelled K (f (L.inv x) ∷ []) ≡ cancelled K (K.inv (f x) ∷ []) = ap (λ z. z ∷ []) (h x) in q in
      sym (ap (cancelled K) (flat_map_single f u)) ∙ (hom L K (λ x. f x ∷ []) u v (λ x m. t x) (λ x m. t x) e ∙ ap (cancelled K) (flat_map_single f v))

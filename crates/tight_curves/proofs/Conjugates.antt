-- Words that are one another's conjugates, up to reduction; two of them that are free read round are rotations of each other.
use Rattle.std.proofs.Common.{◌≡◌, Bool, true, false, List, [], ◌∷◌, ◌++◌, refl, sym, ◌∙◌, ap, subst, append_assoc, append-nil}
use Rattle.std.proofs.lemmas.List.{same_from_push}
use Rattle.curve_paths.specs.Alphabet.{Alphabet, cancelled, back, Alike, Null}
use Rattle.tight_curves.specs.Closed.{IsRotation}
use Rattle.tight_curves.proofs.Rotations.{last_letter, rotation_refl, rotation_on, rotation_off}
use Rattle.tight_curves.proofs.FreeWords.{RoundFree, apart, clear_cons, free_join, free_back, round_free_on, round_free_off}
use Rattle.curve_paths.proofs.Reduction.{Free, Free-cancelled, cancelled_free, alike_after, alike_join, alike_middle, alike_back, alike_cancelled, null_out, pair_out, back-cons, back-append, back-back, word_and_back, back_and_word}

module _ {A : Type 0} (L : Alphabet A) where
  -- u reduces to what the inverse of h, v and h reduce to
  abbrev pub ConjugateBy : List A → List A → List A → Type 0
  ConjugateBy h u v = Alike L u (back L h ++ (v ++ h))

  -- some such word exists
  abbrev pub Conjugate : List A → List A → Type 0
  Conjugate u v = (h : List A) × ConjugateBy h u v

  -- words with one reduced form
  pub conjugate_alike : (u v : List A) → Alike L u v → Conjugate u v
  conjugate_alike u v e = ([], e ∙ ap (cancelled L) (sym (append-nil v)))

  -- the other way round
  pub conjugate_sym : (u v : List A) → Conjugate u v → Conjugate v u
  conjugate_sym u v (h, e) = (
    back L h,
    sym (ap (λ z. cancelled L (z ++ (u ++ back L h))) (back-back L h)
        ∙ (alike_middle L h u (back L h ++ (v ++ h)) (back L h) e
        ∙ (ap (cancelled L) (regroup h (back L h) v)
        ∙ (null_out L [] (h ++ back L h) (v ++ (h ++ back L h)) (word_and_back L h)
        ∙ (ap (cancelled L) (ap (λ z. v ++ z) (sym (append-nil (h ++ back L h)))) ∙ (null_out L v (h ++ back L h) [] (word_and_back L h) ∙ ap (cancelled L) (append-nil v))))))),
  )
    where
      regroup : (h b v : List A) → h ++ ((b ++ (v ++ h)) ++ b) ≡ (h ++ b) ++ (v ++ (h ++ b))
      regroup h b v = simp append_assoc refl

  -- one after another
  pub conjugate_trans : (u v w : List A) → Conjugate u v → Conjugate v w → Conjugate u w
  conjugate_trans u v w (g, d) (h, e) = (
    h ++ g,
    d ∙ (alike_middle L (back L g) v (back L h ++ (w ++ h)) g e
        ∙ ap (cancelled L) (regroup (back L g) (back L h) w h g ∙ ap (λ z. z ++ (w ++ (h ++ g))) (sym (back-append L h g)))),
  )
    where
      regroup : (a b w h g : List A) → a ++ ((b ++ (w ++ h)) ++ g) ≡ (a ++ b) ++ (w ++ (h ++ g))
      regroup a b w h g = simp append_assoc refl

  -- a rotation is a conjugate
  pub conjugate_rotation : (u v : List A) → IsRotation u v → Conjugate u v
  conjugate_rotation u v (a, b, e, f) = (
    b,
    ap (cancelled L) e ∙ sym (ap (λ z. cancelled L (back L b ++ (z ++ b))) f
        ∙ (ap (cancelled L) (regroup (back L b) b a) ∙ null_out L [] (back L b ++ b) (a ++ b) (back_and_word L b))),
  )
    where
      regroup : (c b a : List A) → c ++ ((b ++ a) ++ b) ≡ (c ++ b) ++ (a ++ b)
      regroup c b a = simp append_assoc refl

  -- a word that is a conjugate of nothing reduces to nothing
  pub conjugate_none : (h u : List A) → ConjugateBy h u [] → Null L u
  conjugate_none h u e = e ∙ back_and_word L h

  -- a letter of the conjugating word goes to the end of a word that it begins
  shift_first : (a : A) (h v : List A) → Alike L (back L (a ∷ h) ++ ((a ∷ v) ++ (a ∷ h))) (back L h ++ ((v ++ (a ∷ [])) ++ h))
  shift_first a h v =
      ap (λ z. cancelled L (z ++ ((a ∷ v) ++ (a ∷ h)))) (back-cons L a h)
      ∙ (ap (cancelled L) (append_assoc (back L h) (L.inv a ∷ []) ((a ∷ v) ++ (a ∷ h)))
      ∙ (subst (λ z. Alike L (back L h ++ (L.inv a ∷ z ∷ (v ++ (a ∷ h)))) (back L h ++ (v ++ (a ∷ h)))) (L.twice a) (pair_out L (back L h) (L.inv a) (v ++ (a ∷ h)))
      ∙ ap (λ z. cancelled L (back L h ++ z)) (sym (append_assoc v (a ∷ []) h))))

  -- or its inverse to the front of a word that the inverse ends
  shift_last : (a : A) (h t : List A) → Alike L (back L (a ∷ h) ++ ((t ++ (L.inv a ∷ [])) ++ (a ∷ h))) (back L h ++ ((L.inv a ∷ t) ++ h))
  shift_last a h t =
      ap (λ z. cancelled L (z ++ ((t ++ (L.inv a ∷ [])) ++ (a ∷ h)))) (back-cons L a h)
      ∙ (ap (cancelled L) (regroup (back L h) (L.inv a ∷ []) t a h)
      ∙ (subst (λ z. Alike L ((back L h ++ (L.inv a ∷ t)) ++ (L.inv a ∷ z ∷ h)) ((back L h ++ (L.inv a ∷ t)) ++ h)) (L.twice a) (pair_out L (back L h ++ (L.inv a ∷ t)) (L.inv a) h)
      ∙ ap (cancelled L) (append_assoc (back L h) (L.inv a ∷ t) h)))
    where
      regroup : (b i t : List A) (a : A) (h : List A) → (b ++ i) ++ ((t ++ i) ++ (a ∷ h)) ≡ (b ++ (i ++ t)) ++ (i ++ (a ∷ h))
      regroup b i t a h = simp append_assoc refl

  -- a conjugate that isn't shorter is not free read round
  stuck : (a : A) (h : List A) (y : A) (v t : List A) (z : A) (u : List A) → Free L (a ∷ h) → RoundFree L u → Free L (y ∷ v) → y ∷ v ≡ t ++ (z ∷ [])
      → (a ≡ y → ⊥) → (z ≡ L.inv a → ⊥) → ConjugateBy (a ∷ h) u (y ∷ v) → ⊥
  stuck a h y v t z u fh fu fv e first last c =
      let right : Free L ((y ∷ v) ++ (a ∷ h))
      = free_join L (y ∷ v) (a ∷ h) fv fh (λ s x q. let (r, k) = same_last s t x z (sym q ∙ e) in clear_cons L x a h (λ w. last (sym k ∙ (sym (L.twice x) ∙ ap L.inv (sym w))))) in
      let whole : Free L (back L (a ∷ h) ++ ((y ∷ v) ++ (a ∷ h)))
      = free_join L (back L (a ∷ h)) ((y ∷ v) ++ (a ∷ h)) (free_back L (a ∷ h) fh) right (λ s x q.
      let (r, k) = same_last (back L h) s (L.inv a) x (sym (back-cons L a h) ∙ q) in
      clear_cons L x y (v ++ (a ∷ h)) (λ w. first (sym (w ∙ (ap L.inv (sym k) ∙ L.twice a))))) in
      let same : u ≡ back L (a ∷ h) ++ ((y ∷ v) ++ (a ∷ h)) = sym (cancelled_free L u fu.free) ∙ (c ∙ cancelled_free L _ whole) in
      let (s, k, q) = last_letter a h in
      fu.ends k (back L s ++ ((y ∷ v) ++ s)) (same ∙ (ap (λ w. back L w ++ ((y ∷ v) ++ w)) q ∙ (ap (λ w. w ++ ((y ∷ v) ++ (s ++ (k ∷ [])))) (back-append L s (k ∷ []))
      ∙ ap (λ w. L.inv k ∷ w) (regroup (back L s) (y ∷ v) s (k ∷ [])))))
    where
      same_last : (s t : List A) (x z : A) → s ++ (x ∷ []) ≡ t ++ (z ∷ []) → (s ≡ t) × (x ≡ z)
      same_last s t x z e = same_from_push _ _ _ _ e

      regroup : (b v s k : List A) → b ++ (v ++ (s ++ k)) ≡ (b ++ (v ++ s)) ++ k
      regroup b v s k = simp append_assoc refl

  -- the word goes one letter on or back, and the conjugating word is one letter shorter
  record Shorter (h u w : List A) : Type 0 where
    by : List A
    round_free : RoundFree L by
    conjugate : ConjugateBy h u by
    rotates : IsRotation u by → IsRotation u w

  shorter : (a : A) (h u : List A) (y : A) (v : List A) → Free L (a ∷ h) → RoundFree L u → RoundFree L (y ∷ v) → ConjugateBy (a ∷ h) u (y ∷ v) → Shorter h u (y ∷ v)
  shorter a h u y v fh fu fv c = begins (L.same a y) refl
    where
      begins : (b : Bool) → L.same a y ≡ b → Shorter h u (y ∷ v)
      begins true e =
          let q : a ≡ y = L.same_true a y e in
          record {
            by = v ++ (y ∷ []);
            round_free = round_free_on L y v fv;
            conjugate = subst (λ z. ConjugateBy h u (v ++ (z ∷ []))) q (c ∙ (ap (λ z. cancelled L (back L (a ∷ h) ++ ((z ∷ v) ++ (a ∷ h)))) (sym q) ∙ shift_first a h v));
            rotates = rotation_off u y v;
          }
      begins false e = ends (last_letter y v)
        where
          ends : ((t : List A) × (z : A) × (y ∷ v ≡ t ++ (z ∷ []))) → Shorter h u (y ∷ v)
          ends (t, z, f) = go (L.same z (L.inv a)) refl
            where
              go : (b : Bool) → L.same z (L.inv a) ≡ b → Shorter h u (y ∷ v)
              go true g =
                  let shape : y ∷ v ≡ t ++ (L.inv a ∷ []) = f ∙ ap (λ x. t ++ (x ∷ [])) (L.same_true z (L.inv a) g) in
                  record {
                    by = L.inv a ∷ t;
                    round_free = round_free_off L (L.inv a) t (subst (RoundFree L) shape fv);
                    conjugate = c ∙ (ap (λ x. cancelled L (back L (a ∷ h) ++ (x ++ (a ∷ h)))) shape ∙ shift_last a h t);
                    rotates = λ r. subst (IsRotation u) (sym shape) (rotation_on u (L.inv a) t r);
                  }
              go false g = absurd (stuck a h y v t z u fh fu fv.free f (apart L a y e) (apart L z (L.inv a) g) c)

  -- conjugates by a free word
  rotation_by : (h u v : List A) → Free L h → RoundFree L u → RoundFree L v → ConjugateBy h u v → IsRotation u v
  rotation_by [] u v fh fu fv c =
      subst (λ z. IsRotation u z) (sym (cancelled_free L u fu.free) ∙ (c ∙ (ap (cancelled L) (append-nil v) ∙ cancelled_free L v fv.free))) (rotation_refl u)
  rotation_by (a ∷ h) u [] fh fu fv c =
      subst (λ z. IsRotation u z) (sym (cancelled_free L u fu.free) ∙ conjugate_none (a ∷ h) u c) (rotation_refl u)
  rotation_by (a ∷ h) u (y ∷ v) fh fu fv c = let s = shorter a h u y v fh fu fv c in s.rotates (rotation_by h u s.by fh.1 fu s.round_free s.conjugate)

  -- conjugates that are free read round are rotations of one another
  pub conjugates_rotate : (u v : List A) → RoundFree L u → RoundFree L v → Conjugate u v → IsRotation u v
  conjugates_rotate u v fu fv (h, c) =
      let g = cancelled L h in
      rotation_by g u v (Free-cancelled L h) fu fv
      (c ∙ alike_join L (back L h) (back L g) (v ++ h) (v ++ g) (alike_back L h g (sym (alike_cancelled L h))) (alike_after L v h g (sym (alike_cancelled L h))))

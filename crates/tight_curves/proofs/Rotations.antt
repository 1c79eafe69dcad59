-- Lists read round from another place on.
use Rattle.std.proofs.Common.{◌≡◌, List, [], ◌∷◌, ◌++◌, refl, sym, ◌∙◌, ap, append_assoc, append-nil}
use Rattle.std.proofs.lemmas.List.{same_from_push}
use Rattle.tight_curves.specs.Closed.{IsRotation}

-- the last letter of a list that has one
pub last_letter : {A : Type 0} (x : A) (w : List A) → (t : List A) × (z : A) × (x ∷ w ≡ t ++ (z ∷ []))
last_letter x [] = ([], x, refl)
last_letter x (y ∷ w) = let (t, z, e) = last_letter y w in (x ∷ t, z, ap (λ v. x ∷ v) e)

-- a list with a letter at its end isn't empty
pub not_empty_push : {A : Type 0} (t : List A) (z : A) → t ++ (z ∷ []) ≡ [] → ⊥
not_empty_push [] z e = cc
not_empty_push (x ∷ t) z e = cc

-- equal lists have equal first letters and equal rests
pub same_cons : {A : Type 0} (x y : A) (v w : List A) → x ∷ v ≡ y ∷ w → (x ≡ y) × (v ≡ w)
same_cons x y v w e = (cc, cc)

module _ {A : Type 0} where
  -- a list is a rotation of itself
  pub rotation_refl : (w : List A) → IsRotation w w
  rotation_refl w = ([], w, refl, sym (append-nil w))

  -- rotations go both ways
  pub rotation_sym : (w v : List A) → IsRotation w v → IsRotation v w
  rotation_sym w v (a, b, e, f) = (b, a, f, e)

  -- the first letter is moved to the end
  pub rotation_on : (u : List A) (x : A) (v : List A) → IsRotation u (x ∷ v) → IsRotation u (v ++ (x ∷ []))
  rotation_on u x v (a, [], e, f) = (x ∷ [], v, e ∙ (append-nil a ∙ sym f), refl)
  rotation_on u x v (a, y ∷ b, e, f) =
      let (q, r) = same_cons x y v (b ++ a) f in
      (a ++ (x ∷ []), b, e ∙ (ap (λ z. a ++ (z ∷ b)) (sym q) ∙ sym (append_assoc a (x ∷ []) b)), ap (λ z. z ++ (x ∷ [])) r ∙ append_assoc b a (x ∷ []))

  -- the last letter is moved to the front
  pub rotation_off : (u : List A) (x : A) (v : List A) → IsRotation u (v ++ (x ∷ [])) → IsRotation u (x ∷ v)
  rotation_off u x v ([], b, e, f) = (v, x ∷ [], e ∙ (sym (append-nil b) ∙ sym f), refl)
  rotation_off u x v (y ∷ a, b, e, f) =
      let (t, z, l) = last_letter y a in
      let g : v ++ (x ∷ []) ≡ (b ++ t) ++ (z ∷ []) = f ∙ (ap (λ s. b ++ s) l ∙ sym (append_assoc b t (z ∷ []))) in
      let (r, q) = same_from_push _ _ _ _ g in
      (t, x ∷ b, e ∙ (ap (λ s. s ++ b) l ∙ (append_assoc t (z ∷ []) b ∙ ap (λ s. t ++ (s ∷ b)) (sym q))), ap (λ s. x ∷ s) r)

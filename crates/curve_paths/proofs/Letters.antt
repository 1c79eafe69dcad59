-- The letters of reduced forms and of inverses.
use Rattle.std.proofs.Common.{◌≡◌, Bool, true, false, cond, List, [], ◌∷◌, refl, subst, inl, inr}
use Rattle.obd_base.specs.Lists.{Mem}
use Rattle.obd_base.proofs.lists.Members.{mem_append}
use Rattle.curve_paths.specs.Alphabet.{Alphabet, push, cancelled, back}
use Rattle.curve_paths.proofs.Reduction.{back-cons}

module _ {A : Type 0} (L : Alphabet A) where
  mem_push : (x z : A) (w : List A) → Mem z (push L x w) → Mem z (x ∷ w)
  mem_push x z [] m = m
  mem_push x z (y ∷ w) m = go (L.same (L.inv x) y) m
    where
      go : (b : Bool) → Mem z (cond b w (x ∷ y ∷ w)) → Mem z (x ∷ y ∷ w)
      go true m = inr (inr m)
      go false m = m

  -- the letters of a reduced form are letters of the word
  pub from_cancelled : (w : List A) (z : A) → Mem z (cancelled L w) → Mem z w
  from_cancelled [] z m = m
  from_cancelled (x ∷ w) z m = elim (mem_push x z (cancelled L w) m) [ inl e ↦ inl e | inr k ↦ inr (from_cancelled w z k) ]

  -- the letters of an inverse are the inverses of the letters
  pub from_back : (w : List A) (z : A) → Mem z (back L w) → (y : A) × Mem y w × (z ≡ L.inv y)
  from_back [] z m = absurd m
  from_back (x ∷ w) z m = elim (mem_append z (back L w) (L.inv x ∷ []) (subst (Mem z) (back-cons L x w) m)) [
    | inl k ↦ (let (y, n, e) = from_back w z k in (y, inr n, e))
    | inr k ↦ elim k [ inl e ↦ (x, inl refl, e) | inr a ↦ absurd a ]
  ]

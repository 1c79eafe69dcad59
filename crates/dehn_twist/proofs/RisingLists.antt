-- Rising lists, filtered, and joined lists turned round.
use Rattle.std.proofs.Common.{◌≡◌, ℕ, ◌<◌, Bool, true, false, cond, List, [], ◌∷◌, ◌++◌, reverse, refl, ◌∙◌, ap, inl, inr, append-nil}
use Rattle.std.specs.List.{filter, flat_map}
use Rattle.std.proofs.lemmas.List.{reverse-append}
use Rattle.std.proofs.lemmas.List.Concat.{flat_map-append}
use Rattle.obd_base.specs.Lists.{Mem}
use Rattle.obd_base.proofs.lists.Members.{mem_filter}
use Rattle.curve_paths.proofs.Members.{Rises}

-- other numbers in the same order
pub rises_change : {P : Type 0} (f g : P → ℕ) (xs : List P) → ((x y : P) → Mem x xs → Mem y xs → f x < f y → g x < g y) → Rises f xs → Rises g xs
rises_change f g [] h r = tt
rises_change f g (x ∷ xs) h r = ((λ y k. h x y (inl refl) (inr k) (r.0 y k)), rises_change f g xs (λ y z k t l. h y z (inr k) (inr t) l) r.1)

-- a part of a rising list
pub rises_filter : {P : Type 0} (f : P → ℕ) (p : P → Bool) (xs : List P) → Rises f xs → Rises f (filter p xs)
rises_filter f p [] r = tt
rises_filter f p (x ∷ xs) r = go (p x) (rises_filter f p xs r.1)
  where
    go : (b : Bool) → Rises f (filter p xs) → Rises f (cond b (x ∷ filter p xs) (filter p xs))
    go true s = ((λ y m. r.0 y (mem_filter p y xs m).0), s)
    go false s = s

-- joined lists turned round
pub flat_reverse : {X Y : Type 0} (f : X → List Y) (x : X) (xs : List X) → flat_map f (reverse (x ∷ xs)) ≡ flat_map f (reverse xs) ++ f x
flat_reverse f x xs = ap (flat_map f) (reverse-append (x ∷ []) xs) ∙ (flat_map-append f (reverse xs) (x ∷ []) ∙ ap (λ z. flat_map f (reverse xs) ++ z) (append-nil (f x)))

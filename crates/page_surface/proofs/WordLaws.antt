-- Every word has exactly one reduced form.
use Rattle.std.proofs.Common.{◌≡◌, ℕ, Bool, true, false, cond, eqb, List, [], ◌∷◌, ◌++◌, refl, sym, ◌∙◌, ap}
use Rattle.std.proofs.lemmas.Bool.{eqb-true, eq-eqb, false≢true}
use Rattle.page_surface.specs.Polygon.{Polygon, partner, Pairs}
use Rattle.page_surface.specs.Words.{Step, Steps, none, more, HasNoPair, IsReducedForm, push_letter, reduced}

-- the first letter of a word isn't the partner of s
abbrev pub Clear : Polygon → ℕ → List ℕ → Type 0
Clear p s [] = Unit {0}
Clear p s (t ∷ w) = eqb (partner p s) t ≡ false

-- no letter stands before its partner
abbrev pub Free : Polygon → List ℕ → Type 0
Free p [] = Unit {0}
Free p (s ∷ w) = Clear p s w × Free p w

pub Free-push : (p : Polygon) (s : ℕ) (w : List ℕ) → Free p w → Free p (push_letter p s w)
Free-push p s [] h = (tt, tt)
Free-push p s (t ∷ w) h = go (eqb (partner p s) t) refl
  where
    go : (b : Bool) → eqb (partner p s) t ≡ b → Free p (cond b w (s ∷ t ∷ w))
    go true e = h.1
    go false e = (e, h)

pub Free-reduced : (p : Polygon) (w : List ℕ) → Free p (reduced p w)
Free-reduced p [] = tt
Free-reduced p (s ∷ w) = Free-push p s (reduced p w) (Free-reduced p w)

-- a free word is its own reduced form
pub reduced_free : (p : Polygon) (w : List ℕ) → Free p w → reduced p w ≡ w
reduced_free p [] h = refl
reduced_free p (s ∷ w) h = rw (reduced_free p w h.1) (at w h.0)
  where
    at : (v : List ℕ) → Clear p s v → push_letter p s v ≡ s ∷ v
    at [] c = refl
    at (t ∷ v) c = rw c

-- a letter and its partner before a free word
pub push_pair : (p : Polygon) (ok : Pairs p) (k : ℕ) (w : List ℕ) → Free p w → push_letter p k (push_letter p (partner p k) w) ≡ w
push_pair p ok k [] h = rw (eq-eqb (partner p k) (partner p k) refl)
push_pair p ok k (t ∷ w) h = go (eqb (partner p (partner p k)) t) refl
  where
    back : (v : List ℕ) → Clear p t v → k ≡ t → push_letter p k v ≡ t ∷ v
    back [] c e = ap (λ x. x ∷ []) e
    back (u ∷ v) c e = let c' : eqb (partner p k) u ≡ false = rw e c in rw (c', e)

    go : (b : Bool) → eqb (partner p (partner p k)) t ≡ b → push_letter p k (cond b w (partner p k ∷ t ∷ w)) ≡ t ∷ w
    go true e = back w h.0 (sym (ok.twice k) ∙ eqb-true _ _ e)
    go false e = rw (eq-eqb (partner p k) (partner p k) refl)

-- a step leaves the reduced form
pub reduced_step_at : (p : Polygon) (ok : Pairs p) (a b : List ℕ) (k : ℕ) → reduced p (a ++ (k ∷ partner p k ∷ b)) ≡ reduced p (a ++ b)
reduced_step_at p ok [] b k = push_pair p ok k (reduced p b) (Free-reduced p b)
reduced_step_at p ok (s ∷ a) b k = ap (push_letter p s) (reduced_step_at p ok a b k)

pub reduced_step : (p : Polygon) (ok : Pairs p) (w v : List ℕ) → Step p w v → reduced p w ≡ reduced p v
reduced_step p ok w v (a, b, k, e, f) = rw (e, f) (reduced_step_at p ok a b k)

pub reduced_steps : (p : Polygon) (ok : Pairs p) {w v : List ℕ} → Steps p w v → reduced p w ≡ reduced p v
reduced_steps p ok none = refl
reduced_steps p ok (more s r) = reduced_step p ok _ _ s ∙ reduced_steps p ok r

-- no step leaves a free word
no_step : (p : Polygon) (a b : List ℕ) (k : ℕ) → Free p (a ++ (k ∷ partner p k ∷ b)) → ⊥
no_step p [] b k h = false≢true (sym h.0 ∙ eq-eqb (partner p k) (partner p k) refl)
no_step p (s ∷ a) b k h = no_step p a b k h.1

pub HasNoPair-free : (p : Polygon) (w : List ℕ) → Free p w → HasNoPair p w
HasNoPair-free p w h v (a, b, k, e, f) = no_step p a b k (rw e at h)

pub Free-from_no_pair : (p : Polygon) (w : List ℕ) → HasNoPair p w → Free p w
Free-from_no_pair p [] h = tt
Free-from_no_pair p (s ∷ w) h = (clear w h, Free-from_no_pair p w (λ v (a, b, k, e, f). h (s ∷ v) (s ∷ a, b, k, ap (λ x. s ∷ x) e, ap (λ x. s ∷ x) f)))
  where
    clear : (w : List ℕ) → HasNoPair p (s ∷ w) → Clear p s w
    clear [] h = tt
    clear (t ∷ w) h = go (eqb (partner p s) t) refl
      where
        go : (b : Bool) → eqb (partner p s) t ≡ b → b ≡ false
        go true e = absurd (h w ([], w, s, rw (eqb-true _ _ e), refl))
        go false e = refl

-- steps under a letter
Steps-cons : (p : Polygon) (s : ℕ) {w v : List ℕ} → Steps p w v → Steps p (s ∷ w) (s ∷ v)
Steps-cons p s none = none
Steps-cons p s (more (a, b, k, e, f) r) = more (s ∷ a, b, k, ap (λ x. s ∷ x) e, ap (λ x. s ∷ x) f) (Steps-cons p s r)

pub Steps-join : (p : Polygon) {u v w : List ℕ} → Steps p u v → Steps p v w → Steps p u w
Steps-join p none r = r
Steps-join p (more s q) r = more s (Steps-join p q r)

Steps-push : (p : Polygon) (s : ℕ) (w : List ℕ) → Steps p (s ∷ w) (push_letter p s w)
Steps-push p s [] = none
Steps-push p s (t ∷ w) = go (eqb (partner p s) t) refl
  where
    go : (b : Bool) → eqb (partner p s) t ≡ b → Steps p (s ∷ t ∷ w) (cond b w (s ∷ t ∷ w))
    go true e = more ([], w, s, rw (eqb-true _ _ e), refl) none
    go false e = none

pub Steps-reduced : (p : Polygon) (w : List ℕ) → Steps p w (reduced p w)
Steps-reduced p [] = none
Steps-reduced p (s ∷ w) = Steps-join p (Steps-cons p s (Steps-reduced p w)) (Steps-push p s (reduced p w))

pub has_reduced_form : (p : Polygon) (w : List ℕ) → IsReducedForm p w (reduced p w)
has_reduced_form p w = record { reached = Steps-reduced p w; free = HasNoPair-free p _ (Free-reduced p w) }

pub one_reduced_form : (p : Polygon) (ok : Pairs p) (w r : List ℕ) → IsReducedForm p w r → r ≡ reduced p w
one_reduced_form p ok w r h = sym (reduced_free p r (Free-from_no_pair p r h.free)) ∙ sym (reduced_steps p ok h.reached)

-- Fingers one after another: the first that isn't legal.
use Rattle.std.proofs.Common.{◌≡◌, ℕ, zero, suc, ◌+◌, ◌<◌, List, [], ◌∷◌, ◌++◌, get_or, length, take, refl, sym, ◌∙◌, ap, subst, arith, inl, inr}
use Rattle.std.proofs.lemmas.Bool.{cases_order}
use Rattle.std.proofs.lemmas.List.{take_all, take_more}
use Rattle.page_surface.specs.Drawing.{Drawing}
use Rattle.drawing.specs.declared.finger.Finger.{Finger}
use Rattle.drawing.specs.Fingers.{AllLegal, IsFirstIllegal, IsLegal, pushed, replayed}

-- one finger more
replayed_push : (d : Drawing) (fs : List Finger) (f : Finger) → replayed d (fs ++ f ∷ []) ≡ pushed (replayed d fs) f
replayed_push d [] f = refl
replayed_push d (g ∷ fs) f = replayed_push (pushed d g) fs f

legal_push : (d : Drawing) (fs : List Finger) (f : Finger) → AllLegal d fs → IsLegal (replayed d fs) f → AllLegal d (fs ++ f ∷ [])
legal_push d [] f l h = (h, tt)
legal_push d (g ∷ fs) f l h = (l.0, legal_push (pushed d g) fs f l.1 h)

-- one more of some fingers
pub replayed_more : (d : Drawing) (fs : List Finger) (n : ℕ) (f : Finger) → n < length fs → f ≡ get_or fs n f → replayed d (take (n + 1) fs) ≡ pushed (replayed d (take n fs)) f
replayed_more d fs n f l is = ap (replayed d) (take_more fs n f l ∙ ap (λ (x : Finger). take n fs ++ x ∷ []) (sym is)) ∙ replayed_push d (take n fs) f

pub legal_more : (d : Drawing) (fs : List Finger) (n : ℕ) (f : Finger) → n < length fs → f ≡ get_or fs n f → AllLegal d (take n fs) → IsLegal (replayed d (take n fs)) f → AllLegal d (take (n + 1) fs)
legal_more d fs n f l is a h =
    subst (AllLegal d) (sym (take_more fs n f l ∙ ap (λ (x : Finger). take n fs ++ x ∷ []) (sym is))) (legal_push d (take n fs) f a h)

-- each of some legal fingers is legal in the drawing that the ones before it leave
legal_at : (d : Drawing) (fs : List Finger) (n m : ℕ) (f : Finger) → AllLegal d (take m fs) → n < m → n < length fs → f ≡ get_or fs n f → IsLegal (replayed d (take n fs)) f
legal_at d [] n m f a l h is = absurd (omega (arith, h))
legal_at d (g ∷ fs) n zero f a l h is = absurd (omega (arith, l))
legal_at d (g ∷ fs) zero (suc m) f a l h is = subst (IsLegal d) (sym is) a.0
legal_at d (g ∷ fs) (suc n) (suc m) f a l h is = legal_at (pushed d g) fs n m f a.1 (omega (arith, l)) (omega (arith, h)) is

-- at most one finger is the first that isn't legal
pub one_first : (d : Drawing) (fs : List Finger) (n m : ℕ) → IsFirstIllegal d fs n → IsFirstIllegal d fs m → n ≡ m
one_first d fs n m a b = elim (cases_order n m) [
  | inl e ↦ e
  | inr o ↦ elim o [
    | inl l ↦ absurd (a.illegal (legal_at d fs n m a.finger b.legal_before l a.there a.stands_there))
    | inr l ↦ absurd (b.illegal (legal_at d fs m n b.finger a.legal_before l b.there b.stands_there))
  ]
]

-- and none where all are legal
pub none_first : (d : Drawing) (fs : List Finger) (n : ℕ) → AllLegal d fs → IsFirstIllegal d fs n → ⊥
none_first d fs n a b =
    b.illegal (legal_at d fs n (length fs) b.finger (subst (AllLegal d) (sym (take_all (length fs) fs (omega arith))) a) b.there b.there b.stands_there)

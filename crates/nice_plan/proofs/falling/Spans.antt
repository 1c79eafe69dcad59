-- Members of lists made of spans, as a finger makes them.
use Rattle.std.proofs.Common.{ℕ, suc, ◌+◌, ◌≤◌, Bool, true, false, cond, eqb, List, [], ◌∷◌, length, refl, sym, ◌∙◌, ap, arith, inl, inr, ◌≢◌}
use Rattle.std.proofs.lemmas.Bool.{eq-eqb}
use Rattle.obd_base.specs.Lists.{Mem}
use Rattle.obd_base.proofs.lists.Members.{mem_left, mem_right}
use Rattle.drawing.proofs.fingers.Shift.{shift, early}
use Rattle.finger_move.proofs.Spread.{spread, spread_all}
use Rattle.nice_plan.proofs.Ledger.{times}

-- a carried span, and the two new ones beside it
pub spread_has : (t u x s : ℕ) (zs : List ℕ) → Mem s zs → Mem (shift t u s) (spread_all t u x zs)
spread_has t u x s [] m = absurd m
spread_has t u x s (z ∷ zs) (inl q) = mem_left (shift t u s) (spread t u x z) (spread_all t u x zs)
    (mem_right (shift t u s) (cond (eqb z u) (early u t ∷ []) []) (shift t u z ∷ cond (eqb z x) (suc (early t u) ∷ []) []) (inl (ap (shift t u) q)))
spread_has t u x s (z ∷ zs) (inr m) = mem_right (shift t u s) (spread t u x z) (spread_all t u x zs) (spread_has t u x s zs m)

-- the first part of u
pub spread_early : (t u x : ℕ) (zs : List ℕ) → Mem u zs → Mem (early u t) (spread_all t u x zs)
spread_early t u x [] m = absurd m
spread_early t u x (z ∷ zs) (inl q) = rw (eq-eqb z u (sym q)) (inl refl)
spread_early t u x (z ∷ zs) (inr m) = mem_right (early u t) (spread t u x z) (spread_all t u x zs) (spread_early t u x zs m)

-- the middle span
pub spread_late : (t u x : ℕ) (zs : List ℕ) → Mem x zs → Mem (suc (early t u)) (spread_all t u x zs)
spread_late t u x [] m = absurd m
spread_late t u x (z ∷ zs) (inl q) = mem_left (suc (early t u)) (spread t u x z) (spread_all t u x zs)
    (mem_right (suc (early t u)) (cond (eqb z u) (early u t ∷ []) []) (shift t u z ∷ cond (eqb z x) (suc (early t u) ∷ []) []) (inr (rw (eq-eqb z x (sym q)) (inl refl))))
spread_late t u x (z ∷ zs) (inr m) = mem_right (suc (early t u)) (spread t u x z) (spread_all t u x zs) (spread_late t u x zs m)

-- a number stands no more often than a list is long
pub times_most : (s : ℕ) (zs : List ℕ) → times s zs ≤ length zs
times_most s [] = omega arith
times_most s (z ∷ zs) = go (eqb z s) (times_most s zs)
  where
    go : (b : Bool) → times s zs ≤ length zs → cond {A = ℕ} b 1 0 + times s zs ≤ suc (length zs)
    go true h = omega (arith, h)
    go false h = omega (arith, h)

-- a list with two different members is longer than one
pub two_members : (a b : ℕ) (zs : List ℕ) → Mem a zs → Mem b zs → a ≢ b → 2 ≤ length zs
two_members a b [] m n ne = absurd m
two_members a b (z ∷ []) (inl e) (inl f) ne = absurd (ne (e ∙ sym f))
two_members a b (z ∷ []) (inl e) (inr n) ne = absurd n
two_members a b (z ∷ []) (inr m) n ne = absurd m
two_members a b (z ∷ y ∷ zs) m n ne = omega arith

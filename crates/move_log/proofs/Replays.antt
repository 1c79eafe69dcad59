-- What a replay says of its fingers.
use Rattle.std.proofs.Common.{◌≡◌, ◌↔◌, ◌+◌, ℕ, List, sym, ap, subst, arith}
use Rattle.std.specs.Prelude.{Result, Ok, Err}
use Rattle.page_surface.specs.Drawing.{Drawing}
use Rattle.drawing.specs.declared.finger.Finger.{Finger}
use Rattle.drawing.specs.Fingers.{AllLegal, IsFirstIllegal}
use Rattle.drawing.proofs.fingers.Replayed.{none_first, one_first}
use Rattle.move_log.specs.Replay.{Leaves}
use Rattle.move_log.specs.declared.replay.ReplayRefusal.{ReplayRefusal}
use Rattle.move_log.specs.declared.replay.ReplayRefusal.TheVariants.{IllegalMove, NoMemory}

-- the number of the finger that is refused, and one more
refused_number : {T : Type 0} → Result T ReplayRefusal → ℕ
refused_number (Ok x) = 0
refused_number (Err NoMemory) = 0
refused_number (Err (IllegalMove n)) = n + 1

-- a replay that refuses a finger
abbrev refused : {T : Type 0} → ℕ → Result T ReplayRefusal
refused n = Err (IllegalMove n)

-- and one that doesn't
abbrev passed : {T : Type 0} → T → Result T ReplayRefusal
passed x = Ok x

module _ (d : Drawing) (fs : List Finger) where
  -- want of memory leaves the drawing
  pub left_alone : (left : Drawing) (r : ReplayRefusal) → r ≡ NoMemory → left ≡ d → Leaves d fs left r
  left_alone left r e l = subst (Leaves d fs left) (sym e) l

  -- the finger that is refused is the first that isn't legal
  pub refused_exactly : {T : Type 0} (n m : ℕ) → IsFirstIllegal d fs n → (refused {T = T} n ≡ refused {T = T} m) ↔ IsFirstIllegal d fs m
  unfolding refused_number
  refused_exactly n m first = (
    λ e. subst (IsFirstIllegal d fs) (let k : n + 1 ≡ m + 1 = ap refused_number e in omega (arith, k)) first,
    λ other. ap (λ k. Err (IllegalMove k)) (one_first d fs n m first other),
  )

  -- none is refused where all are legal
  pub none_refused : {T : Type 0} (x : T) (m : ℕ) → AllLegal d fs → (passed {T = T} x ≡ refused {T = T} m) ↔ IsFirstIllegal d fs m
  unfolding refused_number
  none_refused x m all = (
    λ e. absurd (let k : 0 ≡ m + 1 = ap refused_number e in omega (arith, k)),
    λ other. absurd (none_first d fs m all other),
  )

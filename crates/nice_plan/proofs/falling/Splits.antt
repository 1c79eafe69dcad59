-- How a finger of a row splits a piece.
use Rattle.std.proofs.Common.{◌≡◌, ℕ, suc, ◌≤◌, List, ◌∷◌, length, ◌⊎◌, ◌≢◌}
use Rattle.obd_base.specs.Lists.{Mem}
use Rattle.page_surface.specs.Drawing.{Chord}
use Rattle.drawing.specs.Round.{other_end}
use Rattle.nice_plan.proofs.Distance.{dist}
use Rattle.nice_plan.proofs.Ledger.{Piece}
use Rattle.nice_plan.proofs.falling.Tally.{Zero}

-- a piece's door, of which the chord isn't the pushed one, lies on one part, and the other part has two spans
pub record Shed (cs : List Chord) (gs : List ℕ) (t y : ℕ) (xs ys : List ℕ) : Type 0 where
  pub post : ℕ
  pub ends_here : other_end cs post ≢ post
  pub door : dist cs gs post ≡ suc (dist cs gs (suc post))
  pub other : post ≢ y
  pub place : ((length xs ≡ 1) × Mem post (t ∷ ys)) ⊎ ((length ys ≡ 1) × Mem post xs)

-- a finger pushes the door of the piece that it splits; or it splits a far piece, that isn't counted, or keeps its door on the larger part
abbrev pub Splits : ℕ → List Chord → List ℕ → List Piece → ℕ → ℕ → ℕ → List ℕ → List ℕ → Type 0
Splits D cs gs ps t x y xs ys = (dist cs gs t ≡ suc (dist cs gs x)) ⊎ ((D ≤ dist cs gs t) × (Zero ps t ⊎ Shed cs gs t y xs ys))

-- pieces that aren't counted have two spans at most, but for the one with span t
abbrev pub SmallBut : List Piece → ℕ → Type 0
SmallBut ps t = (q : Piece) → Mem q ps → q.label ≡ 0 → (length q.spans ≤ 2) ⊎ (Mem t q.spans × (length q.spans ≤ 3))

-- a piece without a label has two spans at most
abbrev pub Small : List Piece → Type 0
Small ps = (q : Piece) → Mem q ps → q.label ≡ 0 → length q.spans ≤ 2

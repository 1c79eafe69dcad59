-- Bursts of the strategy that were applied.
use Rattle.std.specs.Prelude.{◌≡◌, ℕ, ◌+◌, ◌-◌, ◌*◌, ◌<◌, ◌≤◌, false, List, ◌++◌, length}
use Rattle.page_surface.specs.Drawing.{Drawing, IsEmbedded, all_exits}
use Rattle.drawing.specs.declared.finger.Finger.{Finger}
use Rattle.drawing.specs.Fingers.{replayed}
use Rattle.region_table.specs.Changed.{KeepsAllNames}
use Rattle.region_table.specs.Nice.{is_nice, weight}
use Rattle.region_table.specs.Table.{Table}
use Rattle.nice_plan.specs.Burst.{burst}
use Rattle.nice_plan.specs.Strategy.{bursts_of, strategy, within_limit}
use Rattle.nice_plan.specs.declared.refusal.PlanRefusal.{PlanRefusal}
use Rattle.nice_plan.specs.declared.refusal.PlanRefusal.TheVariants.{MoveBudget}

-- some of the strategy's fingers were applied to a first drawing, in whole bursts
pub record IsApplied (first : Drawing) (limit : ℕ) (fingers : List Finger) (now : Drawing) : Type 0 where
  pub embedded : IsEmbedded now
  pub here : now ≡ replayed first fingers
  pub short : length fingers ≤ limit
  pub size : length (all_exits now) ≡ length (all_exits first) + 2 * length fingers
  pub planned : strategy first ≡ fingers ++ strategy now
  pub fits : within_limit limit first ≡ fingers ++ within_limit (limit - length fingers) now
  pub bursts : (n : ℕ) × (fingers ≡ bursts_of n first)

-- the next burst was applied to a drawing that isn't nice, and fits what is left of the limit
pub record IsBurstApplied (limit : ℕ) (old : Drawing) (fingers : List Finger) (new : Drawing) (more : List Finger) : Type 0 where
  pub bad : is_nice old ≡ false
  pub short : length (burst old) ≤ limit - length fingers
  pub here : new ≡ replayed old (burst old)
  pub listed : more ≡ fingers ++ burst old

-- a number of whole bursts was applied, and each piece that all their fingers kept has the name that it had
abbrev pub AreBurstsApplied : Drawing → Drawing → Table → Table → Type 0
AreBurstsApplied first now before after = (n : ℕ) × (now ≡ replayed first (bursts_of n first)) × KeepsAllNames first (bursts_of n first) before after

-- where the strategy takes more fingers than the limit, a refusal names the limit, and the weight after the bursts that fit whole,
-- which isn't 0
abbrev pub IsOverBudget : Drawing → ℕ → Drawing → PlanRefusal → Type 0
IsOverBudget first limit now refusal = (n left : ℕ) → refusal ≡ MoveBudget n left
    → (n ≡ limit) × (limit < length (strategy first)) × (now ≡ replayed first (within_limit limit first)) × (left ≡ weight now) × (1 ≤ left)

-- What a replay leaves.
use Rattle.std.specs.Prelude.{◌≡◌, List, take}
use Rattle.page_surface.specs.Drawing.{Drawing}
use Rattle.drawing.specs.declared.finger.Finger.{Finger}
use Rattle.drawing.specs.Fingers.{IsFirstIllegal, replayed}
use Rattle.move_log.specs.declared.replay.ReplayRefusal.{ReplayRefusal}
use Rattle.move_log.specs.declared.replay.ReplayRefusal.TheVariants.{IllegalMove, NoMemory}

-- what a refusal says of a drawing, some fingers, and the drawing that is left: that it is unchanged, or that a finger is
-- the first that isn't legal and those before it are carried out
abbrev pub Leaves : Drawing → List Finger → Drawing → ReplayRefusal → Type 0
Leaves d fingers left NoMemory = left ≡ d
Leaves d fingers left (IllegalMove number) = IsFirstIllegal d fingers number × (left ≡ replayed d (take number fingers))

-- The next burst by its plan.
use Rattle.std.proofs.Common.{◌≡◌, ◌<◌, true, false, List, map, sym, ◌∙◌, ap, ap₂, subst, arith}
use Rattle.std.specs.Prelude.{None, Some}
use Rattle.obd_base.specs.declared.points.Exit.{Exit}
use Rattle.page_surface.specs.Drawing.{Drawing, IsEmbedded}
use Rattle.drawing.specs.declared.finger.Finger.{Finger}
use Rattle.drawing.specs.Fingers.{replayed}
use Rattle.finger_move.specs.Glued.{segment_of}
use Rattle.drawing.specs.Fingers.{AllLegal}
use Rattle.region_table.specs.Nice.{is_nice, weight}
use Rattle.nice_plan.specs.declared.chord_name.ChordName.{ChordName}
use Rattle.nice_plan.specs.Burst.{burst, doors, path}
use Rattle.nice_plan.specs.Numbers.{burst_fingers}
use Rattle.nice_plan.specs.Strategy.{next_burst}
use Rattle.nice_plan.proofs.BurstLegal.{burst_legal}
use Rattle.nice_plan.proofs.BurstLowers.{burst_lowers}
use Rattle.nice_plan.proofs.BurstNumbers.{burst_numbers}

-- the fingers by the numbers of the drawing are those of the burst
pub burst_is : (d : Drawing) → IsEmbedded d → is_nice d ≡ false → (chords : List ChordName) (segments : List Exit) (fingers : List Finger)
    → chords ≡ doors d → segments ≡ map (segment_of d) (path d) → fingers ≡ burst_fingers d chords segments → fingers ≡ burst d
burst_is d ok bad chords segments fingers doors_are path_is numbers = numbers ∙ (ap₂ (burst_fingers d) doors_are path_is ∙ sym (burst_numbers d ok bad))

-- the burst of a drawing that isn't nice is the next one,
pub next_is : (d : Drawing) → is_nice d ≡ false → (fingers : List Finger) → fingers ≡ burst d → Some fingers ≡ next_burst d
next_is d bad fingers is = ap Some is ∙ sym (ap (λ b. elim b [ true ↦ None | false ↦ Some (burst d) ]) bad)

-- its fingers are legal one after another,
pub next_legal : (d : Drawing) → IsEmbedded d → is_nice d ≡ false → (fingers : List Finger) → fingers ≡ burst d → AllLegal d fingers
next_legal d ok bad fingers is = subst (AllLegal d) (sym is) (burst_legal d ok bad)

-- and lower the weight
pub next_lowers : (d : Drawing) → IsEmbedded d → is_nice d ≡ false → (fingers : List Finger) → fingers ≡ burst d → weight (replayed d fingers) < weight d
next_lowers d ok bad fingers is = subst (λ fs. weight (replayed d fs) < weight d) (sym is) (let w = burst_lowers d ok bad in omega (arith, w))

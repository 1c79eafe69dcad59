-- Laws of finger moves: a legal finger has exactly one effect, and what it leaves of the drawing and its words.
use Rattle.std.proofs.Common.{◌≡◌, ℕ, ◌+◌, ◌<◌, length, map}
use Rattle.page_surface.specs.Drawing.{Drawing, IsEmbedded, all_exits, strand_exits, words}
use Rattle.page_surface.specs.Polygon.{arc_count}
use Rattle.page_surface.specs.Words.{Step, reduced}
use Rattle.drawing.specs.Cut.{IsCut}
use Rattle.drawing.specs.declared.finger.Finger.{Finger}
use Rattle.drawing.specs.Fingers.{InRange, IsEffect, IsLegal, pushed}
use Rattle.drawing.proofs.CutAlways
use Rattle.drawing.proofs.fingers.Effects
use Rattle.drawing.proofs.fingers.Effects.{letters}
use Rattle.drawing.proofs.fingers.Words

-- what a legal finger computes is an effect
pub has_effect : (d : Drawing) → IsEmbedded d → (f : Finger) → IsLegal d f → IsEffect d f (pushed d f)
has_effect d ok f l = Effects.pushed_effect d ok f l

-- and the only one
pub one_effect : (d : Drawing) → IsEmbedded d → (f : Finger) → IsLegal d f → (e : Drawing) → IsEffect d f e → e ≡ pushed d f
one_effect d ok f l e h = Effects.one_effect d ok f l e h

-- a finger whose numbers are in range has an effect only where it is legal
pub effect_legal : (d : Drawing) → IsEmbedded d → (f : Finger) → InRange d f → (e : Drawing) → IsEffect d f e → IsLegal d f
effect_legal d ok f r e h = Effects.effect_legal d ok f r e h

-- it keeps embedded
pub keeps_embedded : (d : Drawing) → IsEmbedded d → (f : Finger) → IsLegal d f → IsEmbedded (pushed d f)
keeps_embedded d ok f l = Effects.pushed_embedded d ok f l

-- so it keeps cut
pub keeps_cut : (d : Drawing) → IsEmbedded d → (f : Finger) → IsLegal d f → IsCut (pushed d f)
keeps_cut d ok f l = CutAlways.always_cut (pushed d f) (Effects.pushed_embedded d ok f l)

-- and the polygon
pub keeps_polygon : (d : Drawing) → IsEmbedded d → (f : Finger) → IsLegal d f → (pushed d f).polygon ≡ d.polygon
keeps_polygon d ok f l = Effects.pushed_polygon d ok f l

-- a step takes the finger's letters out of its strand's word
pub step_back : (d : Drawing) → IsEmbedded d → (f : Finger) → IsLegal d f → Step d.polygon (letters (strand_exits (pushed d f) f.strand)) (letters (strand_exits d f.strand))
step_back d ok f l = Effects.word_steps d ok f l

-- all words keep their reduced forms
pub keeps_reduced : (d : Drawing) → IsEmbedded d → (f : Finger) → IsLegal d f → (i : ℕ) → i < arc_count d.polygon
    → reduced d.polygon (letters (strand_exits (pushed d f) i)) ≡ reduced d.polygon (letters (strand_exits d i))
keeps_reduced d ok f l i h = Effects.reduced_kept d ok f l i h

-- the words of all strands, in one equation
pub keeps_words : (d : Drawing) → IsEmbedded d → (f : Finger) → IsLegal d f → map (reduced d.polygon) (words (pushed d f)) ≡ map (reduced d.polygon) (words d)
keeps_words d ok f l = Words.words_kept d ok f l

-- two exits more
pub two_exits_more : (d : Drawing) → IsEmbedded d → (f : Finger) → IsLegal d f → length (all_exits (pushed d f)) ≡ length (all_exits d) + 2
two_exits_more d ok f l = Effects.exits_more d ok f l

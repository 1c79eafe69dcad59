-- Fingers that are legal one after another leave an embedded drawing on the same polygon, with as many points more, and words of the same reduced forms.
use Rattle.std.proofs.Common.{◌≡◌, ◌+◌, ◌*◌, List, [], ◌∷◌, ◌++◌, length, map, refl, ◌∙◌, subst, arith}
use Rattle.page_surface.specs.Drawing.{Drawing, IsEmbedded, all_exits, words}
use Rattle.page_surface.specs.Words.{reduced}
use Rattle.drawing.specs.declared.finger.Finger.{Finger}
use Rattle.drawing.specs.Fingers.{pushed, replayed}
use Rattle.drawing.proofs.FingerLaws.{keeps_embedded, keeps_polygon, keeps_words, two_exits_more}
use Rattle.drawing.specs.Fingers.{AllLegal}

-- the drawing after all of them is embedded
pub replayed_embedded : (d : Drawing) → IsEmbedded d → (fs : List Finger) → AllLegal d fs → IsEmbedded (replayed d fs)
replayed_embedded d ok [] l = ok
replayed_embedded d ok (f ∷ fs) l = replayed_embedded (pushed d f) (keeps_embedded d ok f l.0) fs l.1

-- its polygon is the same
pub replayed_polygon : (d : Drawing) → IsEmbedded d → (fs : List Finger) → AllLegal d fs → (replayed d fs).polygon ≡ d.polygon
replayed_polygon d ok [] l = refl
replayed_polygon d ok (f ∷ fs) l = replayed_polygon (pushed d f) (keeps_embedded d ok f l.0) fs l.1 ∙ keeps_polygon d ok f l.0

-- it has two exits more for each finger
pub replayed_exits : (d : Drawing) → IsEmbedded d → (fs : List Finger) → AllLegal d fs → length (all_exits (replayed d fs)) ≡ length (all_exits d) + 2 * length fs
replayed_exits d ok [] l = omega arith
replayed_exits d ok (f ∷ fs) l = omega (arith, two_exits_more d ok f l.0, replayed_exits (pushed d f) (keeps_embedded d ok f l.0) fs l.1)

-- and its words have the reduced forms that they had
pub replayed_words : (d : Drawing) → IsEmbedded d → (fs : List Finger) → AllLegal d fs → map (reduced d.polygon) (words (replayed d fs)) ≡ map (reduced d.polygon) (words d)
replayed_words d ok [] l = refl
replayed_words d ok (f ∷ fs) l =
    let ih = replayed_words (pushed d f) (keeps_embedded d ok f l.0) fs l.1 in
    subst (λ x. map (reduced x) (words (replayed d (f ∷ fs))) ≡ map (reduced x) (words (pushed d f))) (keeps_polygon d ok f l.0) ih ∙ keeps_words d ok f l.0

-- fingers one after another, in two lists
pub replayed_append : (d : Drawing) (fs gs : List Finger) → replayed d (fs ++ gs) ≡ replayed (replayed d fs) gs
replayed_append d [] gs = refl
replayed_append d (f ∷ fs) gs = replayed_append (pushed d f) fs gs

-- they are legal one after another where those of the one list are, and then those of the other
pub legal_append : (d : Drawing) (fs gs : List Finger) → AllLegal d fs → AllLegal (replayed d fs) gs → AllLegal d (fs ++ gs)
legal_append d [] gs h k = k
legal_append d (f ∷ fs) gs h k = (h.0, legal_append (pushed d f) fs gs h.1 k)

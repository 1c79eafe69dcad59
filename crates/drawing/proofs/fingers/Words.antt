-- The reduced words of all strands after a finger.
use Rattle.std.proofs.Common.{◌≡◌, ℕ, ◌<◌, List, [], get_or, length, map, sym, ◌∙◌, ap, arith}
use Rattle.std.proofs.lemmas.List.{ext_get_or, get_or-map, length-map}
use Rattle.obd_base.specs.declared.points.Exit.{Exit}
use Rattle.page_surface.specs.Drawing.{Drawing, IsEmbedded, words}
use Rattle.page_surface.specs.Polygon.{Polygon, arc_count}
use Rattle.page_surface.specs.Words.{reduced}
use Rattle.drawing.specs.declared.finger.Finger.{Finger}
use Rattle.drawing.specs.Fingers.{IsLegal, pushed}
use Rattle.drawing.proofs.fingers.Effects.{letters, pushed_embedded, pushed_polygon, reduced_kept}

-- the reduced words of some strands are as many
length_words : (p : Polygon) (xs : List (List Exit)) → length (map (reduced p) (map letters xs)) ≡ length xs
length_words p xs = length-map (map letters xs) (reduced p) ∙ length-map xs letters

-- and each is that of its strand
word_at : (p : Polygon) (xs : List (List Exit)) (i : ℕ) → i < length xs → get_or (map (reduced p) (map letters xs)) i [] ≡ reduced p (letters (get_or xs i []))
word_at p xs i h =
    get_or-map (reduced p) (map letters xs) i [] [] (omega (arith, h, length-map xs letters)) ∙ ap (reduced p) (get_or-map letters xs i [] [] h)

-- a legal finger keeps them
pub words_kept : (d : Drawing) → IsEmbedded d → (f : Finger) → IsLegal d f → map (reduced d.polygon) (words (pushed d f)) ≡ map (reduced d.polygon) (words d)
words_kept d ok f l =
    let p = d.polygon in
    let new = (pushed d f).strands in
    let n : length new ≡ arc_count p = (pushed_embedded d ok f l).strand_count ∙ ap arc_count (pushed_polygon d ok f l) in
    ext_get_or [] (map (reduced p) (words (pushed d f))) (map (reduced p) (words d)) (length_words p new ∙ (n ∙ (sym ok.strand_count ∙ sym (length_words p d.strands))))
    (λ i h.
    let here : i < length new = omega (arith, h, length_words p new) in
    let there : i < length d.strands = omega (arith, here, n, ok.strand_count) in
    word_at p new i here ∙ (reduced_kept d ok f l i (omega (arith, here, n)) ∙ sym (word_at p d.strands i there)))

-- Laws of the identity drawing: it is embedded and tight, and so the tight drawing of its words.
use Rattle.std.proofs.Common.{◌≡◌, ℕ, zero, suc, ◌≤◌, List, [], ◌∷◌, ◌++◌, map, length, get_or, ap, arith}
use Rattle.std.proofs.lemmas.List.{length-append, length-map}
use Rattle.obd_base.specs.declared.points.Exit.{Exit}
use Rattle.obd_base.specs.Lists.{below}
use Rattle.page_surface.specs.Drawing.{IsEmbedded, exit, identity, words}
use Rattle.page_surface.specs.Polygon.{IsPolygon, Polygon, arc_count, partner, second_side}
use Rattle.drawing.specs.Tight.{IsTight, tight_drawing}
use Rattle.drawing.proofs.IdentityEmbedded
use Rattle.drawing.proofs.TightLaws.{is_tight_drawing}

-- it is embedded
pub identity_embedded : (p : Polygon) → IsPolygon p → IsEmbedded (identity p)
identity_embedded p ok = IdentityEmbedded.identity_embedded p ok

-- and tight: its words have one letter
pub identity_tight : (p : Polygon) → IsTight (identity p)
identity_tight p i v step =
    let (a, b, k, e, f) = step in
    let l : length (map (λ (x : Exit). x.side) (get_or (identity p).strands i [])) ≡ length (a ++ (k ∷ partner p k ∷ b)) = ap length e in
    let s = short (below (arc_count p)) i in
    omega (arith, l, length-map (get_or (identity p).strands i []) (λ (x : Exit). x.side), s, length-append a (k ∷ partner p k ∷ b))
  where
    short : (xs : List ℕ) (i : ℕ) → length (get_or (map (λ i. exit (second_side p i) 0 ∷ []) xs) i []) ≤ 1
    short [] i = omega arith
    short (x ∷ xs) zero = omega arith
    short (x ∷ xs) (suc i) = short xs i

-- so it is the tight drawing of its words
pub identity_is_tight : (p : Polygon) → IsPolygon p → identity p ≡ tight_drawing p (words (identity p))
identity_is_tight p ok = is_tight_drawing (identity p) (identity_embedded p ok) (identity_tight p)

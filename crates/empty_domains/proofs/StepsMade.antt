-- The steps of all strips, side after side and arc after arc.
use Rattle.std.proofs.Common.{◌≡◌, ℕ, suc, List, [], ◌∷◌, ◌++◌, append_assoc, get_or, length, map, sym, ap, ap₂, ◌∙◌}
use Rattle.std.specs.List.{flat_map}
use Rattle.std.proofs.lemmas.List.{append-nil}
use Rattle.std.proofs.lemmas.List.Concat.{flat_map-append}
use Rattle.empty_domains.specs.Ground.{Ground, arc_strips_by, room_by, strip_by}
use Rattle.empty_domains.specs.Strip.{Step}
use Rattle.obd_base.proofs.lists.Below.{below_push}
use Rattle.obd_base.specs.Lists.{below}
use Rattle.page_surface.specs.Drawing.{Drawing}
use Rattle.page_surface.specs.Polygon.{first_side, second_side, sides}

-- the strip behind a generator's number on a side, with a table for so many sides
abbrev pub side_strip : Ground → List ℕ → ℕ → ℕ → ℕ → ℕ → List Step
side_strip g standing rows i count k = strip_by g standing i (get_or standing k 0) rows (get_or standing k 0) (room_by g (get_or standing k 0)) 0 (map (λ k. 0) (below count))

-- the strips on both sides of an arc
pub arc_grown : (d : Drawing) (g : Ground) (standing : List ℕ) (rows i first second : ℕ) (before mid after : List Step) → length g.ends ≡ sides d.polygon
    → first ≡ first_side d.polygon i → second ≡ second_side d.polygon i
    → mid ≡ before ++ side_strip g standing rows i (length g.ends) first → after ≡ mid ++ side_strip g standing rows i (length g.ends) second
    → after ≡ before ++ arc_strips_by g standing d rows i
arc_grown d g standing rows i first second before mid after n f s m a =
    a ∙ (ap (λ zs. zs ++ side_strip g standing rows i (length g.ends) second) m
    ∙ (append_assoc before (side_strip g standing rows i (length g.ends) first) (side_strip g standing rows i (length g.ends) second)
    ∙ ap (λ zs. before ++ zs) (ap₂ (λ us vs. us ++ vs) (is first (first_side d.polygon i) f) (is second (second_side d.polygon i) s ∙ sym (append-nil (side_strip g standing rows i (sides d.polygon) (second_side d.polygon i)))))))
  where
    is : (k l : ℕ) → k ≡ l → side_strip g standing rows i (length g.ends) k ≡ side_strip g standing rows i (sides d.polygon) l
    is k l e = ap₂ (side_strip g standing rows i) n e

-- and those of one arc more
pub arcs_grown : (f : ℕ → List Step) (k n : ℕ) (before after : List Step) → n ≡ suc k → before ≡ flat_map f (below k) → after ≡ before ++ f k → after ≡ flat_map f (below n)
arcs_grown f k n before after e b a =
    a ∙ (ap₂ (λ us vs. us ++ vs) b (sym (append-nil (f k))) ∙ sym (ap (λ m. flat_map f (below m)) e ∙ (ap (flat_map f) (below_push k) ∙ flat_map-append f (below k) (k ∷ []))))

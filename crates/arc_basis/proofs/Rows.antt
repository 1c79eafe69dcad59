-- Sides of polygons read one after another, and those of a page, each of which stands once.
use Rattle.std.proofs.Common.{◌≡◌, ℕ, ◌<◌, ◌≤◌, true, eqb, List, [], ◌∷◌, length, refl, sym, subst, ap, ap₂, ◌∙◌, inl, inr}
use Rattle.std.specs.List.{flat_map}
use Rattle.std.proofs.lemmas.Bool.{cases_Bool, eq-eqb, eqb-true, and_from, and_parts, false≢true}
use Rattle.obd_base.specs.Lists.{Mem}
use Rattle.page_surface.specs.declared.page.SideLabel.{SideLabel}
use Rattle.page_surface.specs.Joining.{side, has_side, is_side}
use Rattle.page_surface.specs.Labels.{Label, all_sides, labels_of, side_labels_of}
use Rattle.page_surface.specs.Page.{IsPage}
use Rattle.arc_basis.proofs.LabelCounts.{each_once, side_named, sides_in_row, stands}

-- all sides of some polygons, one after another
abbrev pub sides_of : List (List SideLabel) → List SideLabel
sides_of polygons = flat_map (λ polygon. polygon) polygons

-- a side is itself
pub itself : (s : SideLabel) → is_side s s ≡ true
itself s = and_from _ _ (eq-eqb s.label s.label refl) (eq-eqb s.occurrence s.occurrence refl)

-- and nothing else is
pub same_side : (s t : SideLabel) → is_side s t ≡ true → s ≡ t
same_side s t h = let r = and_parts (eqb s.label t.label) (eqb s.occurrence t.occurrence) h in ap₂ (λ a b. side a b) (eqb-true _ _ r.0) (eqb-true _ _ r.1)

-- a side that some have is a member, and a member is had
pub mem_had : (s : SideLabel) (p : List SideLabel) → has_side s p ≡ true → Mem s p
mem_had s [] h = absurd (false≢true h)
mem_had s (t ∷ p) h = elim (cases_Bool (is_side s t)) [
  | inl y ↦ inl (same_side s t y)
  | inr n ↦ inr (mem_had s p (rw n at h))
]

pub had_mem : (s : SideLabel) (p : List SideLabel) → Mem s p → has_side s p ≡ true
had_mem s [] m = absurd m
had_mem s (t ∷ p) (inl e) = rw (ap (is_side s) (sym e) ∙ itself s) refl
had_mem s (t ∷ p) (inr m) = elim (cases_Bool (is_side s t)) [ inl y ↦ rw y refl | inr n ↦ rw n (had_mem s p m) ]

module _ (page : List (List Label)) (valid : IsPage page) where
  -- each side of a page is one of the two sides of a label
  pub named_in_row : (s : SideLabel) → Mem s (sides_of (side_labels_of [] page)) → (s.label < length (labels_of page)) × (s.occurrence ≤ 1)
  named_in_row s m = side_named [] (all_sides page) s (subst (λ (xs : List SideLabel). Mem s xs) (sides_in_row [] page) m)

  -- and each of these stands once
  pub once_in_row : (label occurrence : ℕ) → label < length (labels_of page) → occurrence ≤ 1 → stands label occurrence (sides_of (side_labels_of [] page)) ≡ 1
  once_in_row label occurrence l o = ap (stands label occurrence) (sides_in_row [] page) ∙ each_once page valid label occurrence l o

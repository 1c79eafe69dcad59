-- The contact points, arc by arc, and the rule of their line.
use Rattle.std.proofs.Common.{◌≡◌, ◌<◌, ◌&&◌, ℕ, suc, Bool, List, [], ◌∷◌, length, get_or, refl, sym, ◌∙◌, ap, arith, inl, inr}
use Rattle.std.specs.Prelude.{nat_eq}
use Rattle.std.proofs.lemmas.Bool.{cases_Bool}
use Rattle.std.proofs.lemmas.List.FromFn.{get_or-map-range_with_len, length-map-range_with_len}
use Rattle.page_surface.specs.Drawing.{Drawing}
use Rattle.page_surface.specs.Polygon.{arc_count}
use Rattle.drawing.specs.Points.{contact_generator, crossings_of}
use Rattle.mod2_rank.specs.Linear.{same_list}
use Rattle.witness_check.specs.declared.checked.Reason.TheVariants.{Contact}
use Rattle.witness_check.specs.Checked.{first_fault}
use Rattle.witness_check.specs.DrawingRules.{Finds, HasContact}
use Rattle.witness_check.specs.Rules.{Rule, contact_rules, rule}
use Rattle.witness_check.proofs.FirstFaults.{alone}

module _ (d : Drawing) where
  -- one an arc
  pub points_counted : length (contact_generator d) ≡ arc_count d.polygon
  points_counted = length-map-range_with_len (crossings_of d) 0 (arc_count d.polygon)

  -- the one of an arc
  pub point_of : (a x : ℕ) → a < length (contact_generator d) → get_or (contact_generator d) a x ≡ crossings_of d a
  point_of a x within = get_or-map-range_with_len (crossings_of d) 0 (arc_count d.polygon) a a x (omega (arith, within, points_counted)) (omega arith)

-- the fault of the contact line, by whether it keeps its rule
pub contact_found : (d : Drawing) (count contact : ℕ) (points : List ℕ) (b : Bool) → b ≡ (nat_eq (suc contact) count && same_list points (contact_generator d))
    → Finds (HasContact d count contact points) (λ c. contact_rules c ∷ []) (alone 0 (rule Contact b))
contact_found d count contact points b is c has =
    (λ i. first_fault ((rule Contact (nat_eq (suc (has.contact_is i)) (has.count_is i) && same_list (has.points_are i) (contact_generator (has.last_is i))) ∷ []) ∷ []))
    ∙ (ap (λ t. first_fault ((rule Contact t ∷ []) ∷ [])) (sym is) ∙ one_line (rule Contact b))
  where
    one_line : (r : Rule) → first_fault ((r ∷ []) ∷ []) ≡ alone 0 r
    one_line r = elim (cases_Bool r.keeps) [ inl h ↦ rw h refl | inr h ↦ rw h refl ]

-- The rules of the polygon lines, of which the last alone has one.
use Rattle.std.proofs.Common.{◌≡◌, ℕ, suc, ◌+◌, ◌↔◌, Bool, true, false, cond, eqb, List, [], ◌∷◌, ◌++◌, length, length-append, Option, Some, None, refl, sym, ◌∙◌, ap, arith, inl, inr}
use Rattle.std.specs.Option.{is_none}
use Rattle.std.proofs.lemmas.Bool.{cases_Bool, eq-eqb, ne_eqb}
use Rattle.page_surface.specs.Labels.{Label}
use Rattle.page_surface.specs.Page.{refusal_of as page_refusal}
use Rattle.witness_check.specs.declared.certificate.Certificate.{Certificate}
use Rattle.witness_check.specs.declared.checked.Reason.TheVariants.{Page as page}
use Rattle.witness_check.specs.BookRules.{PolygonsCome}
use Rattle.witness_check.specs.Checked.{first_broken, first_fault}
use Rattle.witness_check.specs.Rules.{Rule, each, polygon_rules, rule}
use Rattle.witness_check.proofs.EachLine.{broken_where, fault_at, no_fault}

-- a line that isn't the last has no rule
not_last : (i n : ℕ) (r : Rule) → (suc i ≡ n → ⊥) → first_broken (cond (eqb (suc i) n) (r ∷ []) []) ≡ None
not_last i n r other = ap (λ b. first_broken (cond b (r ∷ []) [])) (ne_eqb (suc i) n other)

-- so that polygons before others break none
pub polygons_begun : (c : Certificate) (polygons more : List (List Label)) (next : List Label) → c.polygons ≡ polygons ++ next ∷ more
    → first_fault (each (polygon_rules c) polygons) ≡ None
polygons_begun c polygons more next begins =
    let size : length c.polygons ≡ length polygons + suc (length more) = ap length begins ∙ length-append polygons (next ∷ more) in
    no_fault (polygon_rules c) polygons (λ i d l. not_last i (length c.polygons) _ (λ (last : suc i ≡ length c.polygons). omega (arith, l, size, last)))

-- the polygons of a page break none
pub polygons_kept : (polygons : List (List Label)) → is_none (page_refusal polygons) ≡ true → PolygonsCome polygons None
polygons_kept polygons valid c are = no_fault (polygon_rules c) polygons (λ i d l. go (eqb (suc i) (length c.polygons)))
  where
    go : (last : Bool) → first_broken (cond last (rule page (is_none (page_refusal c.polygons)) ∷ []) []) ≡ None
    go true = broken_where page _ true (ap (λ ps. is_none (page_refusal ps)) are ∙ valid) _ refl
    go false = refl

-- and others break that of the last
pub polygons_fault : (polygons : List (List Label)) (n : ℕ) → length polygons ≡ suc n → is_none (page_refusal polygons) ≡ false
    → PolygonsCome polygons (Some (record { at = n; reason = page }))
polygons_fault polygons n size wrong c are =
    let all : length c.polygons ≡ suc n = ap length are ∙ size in
    let kept : Bool = is_none (page_refusal c.polygons) in
    fault_at (polygon_rules c) polygons n [] (rule page false) (omega (arith, size))
    (λ i e l. not_last i (length c.polygons) _ (λ (last : suc i ≡ length c.polygons). omega (arith, l, all, last)))
    (ap (λ b. first_broken (cond b (rule page kept ∷ []) [])) (eq-eqb (suc n) (length c.polygons) (sym all))
    ∙ broken_where page kept false (ap (λ ps. is_none (page_refusal ps)) are ∙ wrong) (rule page kept ∷ []) refl)

-- polygons that are found to be a page are one
pub page_found : {T : Type 0} (polygons : List (List Label)) (found : Option T) (it : T) → found ≡ Some it → ((found ≡ None) ↔ (is_none (page_refusal polygons) ≡ false)) → is_none (page_refusal polygons) ≡ true
page_found polygons found it is none = elim (cases_Bool (is_none (page_refusal polygons))) [
  | inl h ↦ h
  | inr h ↦ absurd (let gone : found ≡ None = none.1 h in cc)
]

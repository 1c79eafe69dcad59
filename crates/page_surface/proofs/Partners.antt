-- Partners among tests and points.
use Rattle.std.proofs.Common.{◌≡◌, ℕ, Bool, true, false, eqb, refl, sym, ◌∙◌, ap, arith, count_by}
use Rattle.std.proofs.lemmas.Bool.{eqb-true, eqb-false, eq-eqb, ne_eqb}
use mathlib.Core.Path.{fun_ext}
use Rattle.obd_base.specs.declared.points.Exit.{Exit}
use Rattle.page_surface.specs.Drawing.{Drawing, all_exits, points_on}
use Rattle.page_surface.specs.Polygon.{IsPolygon, Polygon, partner}

-- partners are alike in every test
pub partner-eqb : (p : Polygon) → IsPolygon p → (k l : ℕ) → eqb (partner p k) (partner p l) ≡ eqb k l
partner-eqb p ok k l = go (eqb k l) refl
  where
    go : (b : Bool) → eqb k l ≡ b → eqb (partner p k) (partner p l) ≡ b
    go true e = eq-eqb _ _ (ap (partner p) (eqb-true k l e))
    go false e = ne_eqb _ _ (λ q. eqb-false k l e (sym (ok.pairs.twice k) ∙ ap (partner p) q ∙ ok.pairs.twice l))

-- and on the right
pub partner-eqb-right : (p : Polygon) → IsPolygon p → (k l : ℕ) → eqb k (partner p l) ≡ eqb (partner p k) l
partner-eqb-right p ok k l = sym (partner-eqb p ok k (partner p l)) ∙ ap (eqb (partner p k)) (ok.pairs.twice l)

-- a side has as many points as its partner
pub points_partner : (d : Drawing) → IsPolygon d.polygon → (k : ℕ) → points_on d (partner d.polygon k) ≡ points_on d k
points_partner d ok k =
    let es = all_exits d in
    let one : count_by (λ e. eqb e.side (partner d.polygon k)) es ≡ count_by (λ e. eqb (partner d.polygon e.side) k) es
    = ap (λ (q : Exit → Bool). count_by q es) (fun_ext (λ (e : Exit). partner-eqb-right d.polygon ok e.side k)) in
    let two : count_by (λ e. eqb (partner d.polygon e.side) (partner d.polygon k)) es ≡ count_by (λ e. eqb e.side k) es
    = ap (λ (q : Exit → Bool). count_by q es) (fun_ext (λ (e : Exit). partner-eqb d.polygon ok e.side k)) in
    omega (arith, one, two)

-- What is looked up for the rule at a spot.
use Rattle.std.proofs.Common.{◌≡◌, ℕ, suc, ◌+◌, ◌≤◌, ◌<◌, zero, Bool, cond, eqb, List, get_or, length, refl, sym, ap, arith, ◌∙◌}
use Rattle.drawing.specs.Round.{opposite}
use Rattle.empty_domains.proofs.Looks.{look_opposite, opposite_spot, spot_under}
use Rattle.empty_domains.proofs.Places.{place_unique}
use Rattle.empty_domains.specs.Ground.{Ground, IsGround, IsSpot, spot_rule_by}
use Rattle.empty_domains.specs.Marks.{AreNear}
use Rattle.hkm_diagram.specs.Domains.{rule_at}
use Rattle.page_surface.specs.Drawing.{Drawing, IsEmbedded}

module _ (d : Drawing) (ok : IsEmbedded d) (g : Ground) (pieces : List ℕ) (marks : List Bool) (from to : List ℕ) (near : AreNear d g pieces marks from to) (at : ℕ) (spot : IsSpot d at) where
  -- the span behind it
  pub next_in : suc at < length g.other
  next_in = let l = spot_under d ok at spot in let n = near.tables.other_size in omega (arith, l, n)

  -- the span behind its other name
  pub name_next_in : suc (get_or g.opposite at 0) < length g.other
  name_next_in =
      let l = spot_under d ok (opposite d at) (opposite_spot d ok at spot) in
      let e = (look_opposite d ok g near.tables at spot).1 in
      let n = near.tables.other_size in
      omega (arith, l, e, n)

-- consecutive spots are on one side
pub one_side : (d : Drawing) → IsEmbedded d → (g : Ground) → IsGround d g → (start width : ℕ) → ((i : ℕ) → i ≤ width → IsSpot d (start + i)) → (i : ℕ) → i ≤ width
    → get_or g.side (start + i) 0 ≡ get_or g.side start 0
one_side d ok g is start width spots zero l = let z : start + 0 ≡ start = omega arith in rw z refl
one_side d ok g is start width spots (suc i) l =
    let s = spots i (omega arith) in
    let t = spots (suc i) l in
    let u = place_unique d t.side s.side t.place (suc s.place) (let k = t.under in omega arith) (let k = s.under in omega arith) (omega (arith, s.number, t.number)) in
    side_told t ∙ (u.0 ∙ (sym (side_told s) ∙ one_side d ok g is start width spots i (omega arith)))
  where
    side_told : {x : ℕ} → (p : IsSpot d x) → get_or g.side x 0 ≡ p.side
    side_told p = ap (λ z. get_or g.side z 0) p.number ∙ is.side_is p.side p.place p.on p.under

-- the rule at a spot, by where both generators stand on a side that is its own
pub rule_on : (g : Ground) (from to : List ℕ) (marked : ℕ → Bool) (at next side y x before after : ℕ) (r : Bool) → side ≡ get_or g.side at 0 → next ≡ suc at
    → y ≡ get_or from side 0 → x ≡ get_or to side 0 → before ≡ cond (marked at) 1 0 → after ≡ cond (marked next) 1 0
    → r ≡ rule_at (eqb y at) (eqb x at) (after + cond (marked (suc (get_or g.opposite at 0))) 1 0) (before + cond (marked (get_or g.opposite at 0)) 1 0)
    → r ≡ spot_rule_by g from to marked at
rule_on g from to marked at next side y x before after r s n hy hx hb ha is = rw (is, hb, ha, n, hy, hx, s) refl

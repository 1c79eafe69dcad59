-- The table that tells from which place on the points of each side move on.
use Rattle.std.proofs.Common.{◌≡◌, ℕ, ◌+◌, ◌<◌, ◌^◌, cond, eqb, ltb, List, get_or, set, length, refl, sym, ◌∙◌, ap, arith, inl, inr}
use Rattle.std.proofs.lemmas.Bool.{cases_eq, eq-eqb, ne_eqb, lt-ltb}
use Rattle.std.proofs.lemmas.List.{get_or-set_other, get_or-set_same, length-set}
use Rattle.obd_base.specs.declared.points.Exit.{Exit}
use Rattle.page_surface.specs.Drawing.{exit}
use Rattle.drawing.specs.PushTables.{raised, raised_by}

-- it tells where a point stands when two points are put into a segment and two into another
pub limits_told : (near far : Exit) (one other : ℕ) (start : List ℕ) → length start ≡ 16 → ((k : ℕ) → k < 16 → get_or start k 0 ≡ 2 ^ 30) → near.side < 16 → far.side < 16
    → one ≡ far.side → other ≡ near.side → (e : Exit) → e.side < 16 → e.place < 2 ^ 30 → raised_by (set (set start one far.place) other near.place) e ≡ raised near far e
limits_told near far one other start size past ln lf is_far is_near e le lp = ap (λ n. exit e.side (e.place + n)) step
  where
    step : ◌≡◌ {A = ℕ} (cond (ltb e.place (get_or (set (set start one far.place) other near.place) e.side 0)) 0 2)
        (cond (eqb e.side near.side) (cond (ltb e.place near.place) 0 2) (cond (eqb e.side far.side) (cond (ltb e.place far.place) 0 2) 0))
    step = elim (cases_eq e.side near.side) [
      | inl q ↦
          let read : get_or (set (set start one far.place) other near.place) e.side 0 ≡ near.place
          = ap (λ k. get_or (set (set start one far.place) other near.place) k 0) (q ∙ sym is_near)
          ∙ get_or-set_same (set start one far.place) other near.place 0 (omega (arith, ln, is_near, size, length-set start one far.place)) in
          rw (read, eq-eqb e.side near.side q) refl
      | inr n ↦
          let rest : get_or (set (set start one far.place) other near.place) e.side 0 ≡ get_or (set start one far.place) e.side 0
          = get_or-set_other (set start one far.place) other e.side near.place 0 (λ q. n (q ∙ is_near)) in
          elim (cases_eq e.side far.side) [
            | inl q ↦
                let read : get_or (set start one far.place) e.side 0 ≡ far.place
                = ap (λ k. get_or (set start one far.place) k 0) (q ∙ sym is_far) ∙ get_or-set_same start one far.place 0 (omega (arith, lf, is_far, size)) in
                rw (rest, read, ne_eqb e.side near.side n, eq-eqb e.side far.side q) refl
            | inr m ↦
                let read : get_or (set start one far.place) e.side 0 ≡ 2 ^ 30 = get_or-set_other start one e.side far.place 0 (λ q. m (q ∙ is_far)) ∙ past e.side le in
                rw (rest, read, ne_eqb e.side near.side n, ne_eqb e.side far.side m, lt-ltb e.place (2 ^ 30) lp) refl
          ]
    ]

-- In a cut drawing no domain goes from a generator to itself, and none starts at the contact generator.
use Rattle.std.proofs.Common.{◌≡◌, ℕ, suc, ◌+◌, ◌*◌, ◌<◌, Bool, true, false, eqb, not, List, [], ◌∷◌, length, get_or, refl, sym, ◌∙◌, ap, arith, zero-add, le_refl, ◌⊎◌, inl, inr}
use Rattle.std.specs.List.{list_all, list_any, count_by, sum_by}
use Rattle.std.proofs.lemmas.Bool.{eqb-true, eq-eqb, false≢true, and_parts, cases_Bool, not_from_true}
use Rattle.std.proofs.lemmas.List.FromFn.{get_or-map-range_with_len}
use mathlib.Core.Path.{fun_ext}
use Rattle.page_surface.specs.Polygon.{arc_count, IsPolygon}
use Rattle.obd_base.specs.Lists.{below, has}
use Rattle.page_surface.specs.Drawing.{Drawing, chords}
use Rattle.drawing.specs.Pieces.{piece_table, spans, span_count, gap, gaps, inner_pieces, pieces, is_base, corners}
use Rattle.drawing.specs.Points.{to_spans, crossings_of, contact_generator}
use Rattle.hkm_diagram.specs.Domains.{is_domain, keeps_rule, rule_at, met, stands_in, moved}
use Rattle.drawing.specs.Cut.{IsCut}
use Rattle.obd_base.proofs.lists.Below.{all_below, has_filter, has_range}
use Rattle.hkm_diagram.proofs.ContactColumn.{mark, KeepsRule, out_is_last, same_at_reached}
use Rattle.drawing.proofs.SamePiece.{same_piece_same, first_same}
use Rattle.obd_base.proofs.lists.Counts.{count_none}

-- the first span of a base piece is base
base_first : (d : Drawing) (s : ℕ) → s < span_count d → is_base d s ≡ true → is_base d (get_or (piece_table d) s 0) ≡ true
base_first d s l h =
    let t = get_or (piece_table d) s 0 in
    let e : is_base d s ≡ is_base d t = ap (λ (q : ℕ → Bool). list_any q (gaps d)) (fun_ext (λ u. same_piece_same (chords d) s t u (first_same d s l))) in
    sym e ∙ h

module _ (d : Drawing) (set : List ℕ) (inner : (s : ℕ) → has set s ≡ true → has (inner_pieces d) s ≡ true) where
  -- no base span is marked
  pub base_unmarked : (s : ℕ) → s < span_count d → is_base d s ≡ true → mark d set s ≡ 0
  base_unmarked s l h = go (cases_Bool (has set (get_or (piece_table d) s 0)))
    where
      go : (has set (get_or (piece_table d) s 0) ≡ true) ⊎ (has set (get_or (piece_table d) s 0) ≡ false) → mark d set s ≡ 0
      go (inl q) = absurd (false≢true (sym (not_from_true _ (base_first d s l h)) ∙ (has_filter (λ s. not (is_base d s)) (pieces d) _ (inner _ q)).0))
      go (inr q) = rw q

  -- a member of the set is marked
  pub member_marked : (s : ℕ) → has set s ≡ true → (s < span_count d) × (mark d set s ≡ 1)
  member_marked s h =
      let i = (has_filter (λ s. not (is_base d s)) (pieces d) s (inner s h)).1 in
      let j = has_filter (λ s. eqb (get_or (piece_table d) s 0) s) (spans d) s i in
      let l = has_range 0 (span_count d) s j.1 in
      (omega (arith, l), rw (eqb-true _ _ j.0, h))

  -- with no corner the set has no member
  no_member : IsPolygon d.polygon → IsCut d → (y x : List ℕ) → KeepsRule d set y x → ((a : ℕ) → a < arc_count d.polygon → get_or y a 0 ≡ get_or x a 0)
      → gap d 0 < span_count d → is_base d (gap d 0) ≡ true → (s : ℕ) → has set s ≡ true → ⊥
  no_member ok cut y x h e lg bg s q =
      let m = member_marked s q in
      let r = same_at_reached d set ok y x h e (gap d 0) s (cut s m.0) in
      let b = base_unmarked (gap d 0) lg bg in
      absurd (omega (arith, m.1, r, b))

-- a list in which no number stands is empty
pub nil_from_none : (xs : List ℕ) → ((s : ℕ) → has xs s ≡ true → ⊥) → xs ≡ []
nil_from_none [] h = refl
nil_from_none (x ∷ xs) h = absurd (h x (rw (eq-eqb x x refl)))

-- a domain keeps the rule at each point
pub keeps_from_domain : (d : Drawing) (y x set : List ℕ) → is_domain d (piece_table d) y x set ≡ true → KeepsRule d set y x
keeps_from_domain d y x set h a la j lj =
    let r = (and_parts (eqb (4 * length set + moved d y x) (4 + sum_by (corners d) set)) _ h).1 in
    let at = all_below (λ a. list_all (keeps_rule d (piece_table d) y x set a) (below (suc (crossings_of d a)))) (arc_count d.polygon) r a la in
    all_below (keeps_rule d (piece_table d) y x set a) (suc (crossings_of d a)) at j (omega arith)

-- no domain goes from a generator to itself
pub no_loop : (d : Drawing) → IsPolygon d.polygon → IsCut d → gap d 0 < span_count d → is_base d (gap d 0) ≡ true
    → (y x set : List ℕ) → ((a : ℕ) → a < arc_count d.polygon → get_or y a 0 ≡ get_or x a 0)
    → ((s : ℕ) → has set s ≡ true → has (inner_pieces d) s ≡ true)
    → is_domain d (piece_table d) y x set ≡ true → ⊥
no_loop d ok cut lg bg y x set e inner h =
    let keeps = keeps_from_domain d y x set h in
    let empty : set ≡ [] = nil_from_none set (no_member d set inner ok cut y x keeps e lg bg) in
    let total = eqb-true (4 * length set + moved d y x) (4 + sum_by (corners d) set) (and_parts _ _ h).0 in
    let none : count_by (λ a. not (eqb (get_or y a 0) (get_or x a 0))) (below (arc_count d.polygon)) ≡ 0
    = count_none _ 0 (arc_count d.polygon) (λ a h l q. false≢true (sym (not_from_true _ (eq-eqb _ _ (e a (omega arith)))) ∙ q)) in
    let total' : 4 * length (let z : List ℕ = [] in z) + moved d y x ≡ 4 + sum_by (corners d) [] = rw empty at total in
    omega (arith, total', none)

-- no domain starts at the contact generator
pub contact_column : (d : Drawing) → IsPolygon d.polygon → IsCut d → gap d 0 < span_count d → is_base d (gap d 0) ≡ true
    → (x set : List ℕ) → ((s : ℕ) → has set s ≡ true → has (inner_pieces d) s ≡ true)
    → is_domain d (piece_table d) (contact_generator d) x set ≡ true → ⊥
contact_column d ok cut lg bg x set inner h =
    no_loop d ok cut lg bg (contact_generator d) x set same inner h
  where
    at_contact : (a : ℕ) → a < arc_count d.polygon → get_or (contact_generator d) a 0 ≡ crossings_of d a
    at_contact a l = get_or-map-range_with_len (crossings_of d) 0 (arc_count d.polygon) a a 0 l (zero-add a)

    same : (a : ℕ) → a < arc_count d.polygon → get_or (contact_generator d) a 0 ≡ get_or x a 0
    same a l = go (cases_Bool (eqb (get_or x a 0) (crossings_of d a)))
      where
        m : ℕ
        m = crossings_of d a

        go : (eqb (get_or x a 0) m ≡ true) ⊎ (eqb (get_or x a 0) m ≡ false) → get_or (contact_generator d) a 0 ≡ get_or x a 0
        go (inl q) = at_contact a l ∙ sym (eqb-true _ _ q)
        go (inr q) =
            let k = keeps_from_domain d (contact_generator d) x set h a l m (le_refl m) in
            let one : stands_in (contact_generator d) a m ≡ true = eq-eqb _ _ (at_contact a l) in
            let k' : rule_at true false 0 (met (piece_table d) set (to_spans d a m)) ≡ true = rw (one, q, out_is_last d set a) at k in
            absurd (false≢true k')

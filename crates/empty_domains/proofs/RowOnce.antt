-- A row of squares meets no piece twice.
use Rattle.std.proofs.Common.{◌≡◌, ◌≢◌, ℕ, zero, suc, ◌+◌, ◌/◌, ◌%◌, ◌≤◌, ◌<◌, inl, inr, true, false, not, refl, subst, arith}
use Rattle.std.proofs.lemmas.Bool.{and_parts, cases_Bool, cases_eq, eqb-true, not-true}
use Rattle.drawing.proofs.Lists.{has_mem}
use Rattle.drawing.specs.Pieces.{inner_pieces, is_base, same_piece}
use Rattle.empty_domains.proofs.Diagram.{IsPoint, other_of}
use Rattle.empty_domains.proofs.PieceMark.{point_under}
use Rattle.empty_domains.proofs.Rows.{row_point_at}
use Rattle.empty_domains.proofs.RowsOn.{first_inner}
use Rattle.empty_domains.proofs.Strands.{drawing_circle}
use Rattle.empty_domains.proofs.TwoSpans.{two_spans}
use Rattle.empty_domains.specs.Strip.{runs_on}
use Rattle.hkm_diagram.proofs.ContactColumn.{mark}
use Rattle.page_surface.specs.Drawing.{Drawing, IsEmbedded, chords}
use Rattle.region_table.specs.Nice.{IsNice}

module _ (d : Drawing) (ok : IsEmbedded d) (nice : IsNice d) (c r : ℕ) (point : IsPoint d c) (runs : (i : ℕ) → i < r → runs_on d c i ≡ true)
    (squares : (i : ℕ) → i < r → suc (other_of d (suc (c + i))) ≢ suc (c + i)) where
  -- its pieces aren't base
  inner : (i : ℕ) → i < r → is_base d (suc (c + i)) ≡ false
  inner i l = not-true _ (and_parts (not (is_base d (suc (c + i)))) _ (runs i l)).0

  -- its chords run side by side
  back : (i : ℕ) → i ≤ r → other_of d (c + i) + i ≡ other_of d c
  back zero l = let z : c + 0 ≡ c = omega arith in rw z (omega arith)
  back (suc i) l = eqb-true _ _ (and_parts (not (is_base d (suc (c + i)))) _ (runs i l)).1

  -- its points are points
  at : (i : ℕ) → i ≤ r → IsPoint d (c + i)
  at i l = row_point_at d ok c r point inner i l

  -- no later span of it comes next to an earlier one: half way between them would be a chord from a point to itself, or a piece next to itself
  apart : (i j : ℕ) → i < j → j < r → other_of d (suc (c + i)) ≡ c + j → ⊥
  apart i j l lj e =
      let n = j + suc i in
      let h = n / 2 in
      let s : c + suc i ≡ suc (c + i) = omega arith in
      let far : other_of d (c + suc i) ≡ c + j = subst (λ z. other_of d z ≡ c + j) (omega arith) e in
      let ends : other_of d c ≡ c + n = omega (arith, back (suc i) (omega arith), far) in
      elim (cases_eq (n % 2) 0) [
        | inl z ↦ (drawing_circle d ok).other_moves (c + h) (at h (omega arith)) (omega (arith, back h (omega arith), ends, z))
        | inr z ↦
            let k : other_of d (c + suc h) ≡ c + h = omega (arith, back (suc h) (omega arith), ends, z) in
            let q : c + suc h ≡ suc (c + h) = omega arith in
            let k' : other_of d (suc (c + h)) ≡ c + h = rw q at k in
            squares h (omega arith) (omega (arith, k'))
      ]

  -- so no two of its spans lie in one piece
  pub meets_once : (i j : ℕ) → i < j → j < r → same_piece (chords d) (suc (c + i)) (suc (c + j)) ≡ false
  meets_once i j l lj = elim (cases_Bool (same_piece (chords d) (suc (c + i)) (suc (c + j)))) [
    | inr h ↦ h
    | inl h ↦
        let under = point_under d ok (c + i) (at i (omega arith)) in
        let has_it = has_mem (inner_pieces d) _ (first_inner d ok (suc (c + i)) under (inner i (omega arith))) in
        let on : mark d (inner_pieces d) (suc (c + i)) ≡ 1 = rw has_it refl in
        elim (two_spans d ok nice (inner_pieces d) (λ s h. h) (suc (c + i)) (suc (c + j)) on h (point_under d ok (c + j) (at j (omega arith)))) [
          | inl e ↦ absurd (omega (arith, e))
          | inr e ↦ absurd (apart i j l lj (omega (arith, e)))
        ]
  ]

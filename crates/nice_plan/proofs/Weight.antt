-- The weight is at most the sum over counted pieces, where each bad piece is counted with a label no less than its distance.
use Rattle.std.proofs.Common.{◌≡◌, ℕ, ◌+◌, ◌-◌, ◌*◌, ◌<◌, ◌≤◌, true, eqb, not, List, [], ◌∷◌, ◌++◌, length, get_or, refl, sym, ◌∙◌, ap, subst, arith, ◌⊎◌, inl, inr}
use Rattle.std.specs.List.{sum_by, position_or_len}
use Rattle.std.proofs.lemmas.Bool.{eqb-true}
use Rattle.std.proofs.lemmas.List.Sums.{sum_by-cons}
use native.Mathlib.Nat.{add-mul, mul_comm, zero-mul}
use mathlib.Core.Path.{fun_ext}
use Rattle.obd_base.specs.Lists.{Mem, Once}
use Rattle.obd_base.proofs.lists.Members.{mem_append, mem_left, mem_right, split, once_filter}
use Rattle.page_surface.specs.Drawing.{Drawing, chords}
use Rattle.drawing.specs.Pieces.{same_piece, distance, badness, inner_pieces, pieces, piece_table, is_base, spans, span_count}
use Rattle.drawing.proofs.SamePiece.{table_at, same_piece_same}
use Rattle.region_table.specs.Nice.{weight}
use Rattle.drawing.proofs.fingers.Arranged.{Arranged}
use Rattle.finger_move.proofs.PushedNext.{next}
use Rattle.obd_base.proofs.lists.Members.{mem_filter}
use Rattle.obd_base.proofs.lists.Below.{mem_range, once_range}
use Rattle.finger_move.proofs.Cycles.{IsCycle, cycle_same, cycle_size}
use Rattle.nice_plan.proofs.Ledger.{Piece, score, total}
use Rattle.finger_move.proofs.Paths.{mem_middle}

total_middle : (a : List Piece) (p : Piece) (b : List Piece) → total (a ++ (p ∷ b)) ≡ score p + total (a ++ b)
total_middle [] p b = refl
total_middle (q ∷ a) p b = omega (arith, total_middle a p b)

-- numbers with different owners sum up to no more than the owners
pub owned_sum : (f : ℕ → ℕ) (zs : List ℕ) (ps : List Piece) → Once zs
    → ((z : ℕ) → Mem z zs → (f z ≡ 0) ⊎ ((p : Piece) × Mem p ps × Mem z p.spans × (f z ≤ score p)))
    → ((z y : ℕ) (p : Piece) → Mem p ps → Mem z zs → Mem y zs → Mem z p.spans → Mem y p.spans → z ≡ y)
    → sum_by f zs ≤ total ps
owned_sum f [] ps o h one = omega arith
owned_sum f (z ∷ zs) ps o h one = elim (h z (inl refl)) [
  | inl e ↦ omega (arith, e, sum_by-cons f z zs, owned_sum f zs ps o.1 (λ y m. h y (inr m)) (λ y w p i m n. one y w p i (inr m) (inr n)))
  | inr w ↦ (let (p, i, m, l) = w in
      let (a, b, q) = split p ps i in
      let rest = owned_sum f zs (a ++ b) o.1
      (λ y k. elim (h y (inr k)) [
        | inl e ↦ inl e
        | inr v ↦ (let (r, j, n, g) = v in
            inr (
              r,
              mem_middle r p a b (subst (λ ws. Mem r ws) q j)
                  (λ e. o.0 (subst (λ t. Mem t zs) (sym (one z y p i (inl refl) (inr k) m (subst (λ (t : Piece). Mem y t.spans) e n))) k)),
              n,
              g,
            ))
      ])
      (λ y v r j k n. one y v r (subst (λ ws. Mem r ws) (sym q) (within r a p b j)) (inr k) (inr n)) in
      omega (arith, sum_by-cons f z zs, l, rest, total_middle a p b, ap total q))
]
  where
    within : (r : Piece) (a : List Piece) (p : Piece) (b : List Piece) → Mem r (a ++ b) → Mem r (a ++ (p ∷ b))
    within r a p b j = elim (mem_append r a b j) [ inl k ↦ mem_left r a (p ∷ b) k | inr k ↦ mem_right r a (p ∷ b) (inr k) ]

-- each inner piece is named once, by its first span
pub inner_once : (d : Drawing) → Once (inner_pieces d)
inner_once d = once_filter (λ s. not (is_base d s)) (pieces d) (once_filter (λ s. eqb (get_or (piece_table d) s 0) s) (spans d) (once_range 0 (span_count d)))

-- a piece is named by its first span
pub inner_first : (d : Drawing) (s : ℕ) → Mem s (inner_pieces d) → (get_or (piece_table d) s 0 ≡ s) × (s < span_count d)
inner_first d s m =
    let a = mem_filter (λ s. not (is_base d s)) s (pieces d) m in
    let b = mem_filter (λ s. eqb (get_or (piece_table d) s 0) s) s (spans d) a.0 in
    let r = mem_range 0 (span_count d) s b.0 in
    (eqb-true _ _ b.1, omega (arith, r))

-- pieces with a common span are one
pub inner_named : (d : Drawing) (s t : ℕ) → Mem s (inner_pieces d) → Mem t (inner_pieces d) → same_piece (chords d) s t ≡ true → s ≡ t
inner_named d s t m n h =
    let a = inner_first d s m in
    let b = inner_first d t n in
    sym a.0 ∙ table_at d s a.1
    ∙ ap (λ q. position_or_len q (spans d)) (fun_ext (λ u. same_piece_same (chords d) s t u h))
    ∙ sym (table_at d t b.1) ∙ b.0

times_le : (a b c : ℕ) → b ≤ c → a * b ≤ a * c
times_le a b c l =
    let w = c - b in
    let e : c ≡ b + w = omega (arith, l) in
    omega (arith, add-mul b w a, mul_comm a b, mul_comm a c, ap (λ z. z * a) e)

-- what bounds the weight of a drawing: cycles of pieces with labels, so that each bad piece is among them with a label no less than its distance
pub record Counts (d : Drawing) (ps : List Piece) : Type 0 where
  pub cycles : (p : Piece) → Mem p ps → IsCycle (next (chords d)) p.spans
  pub inside : (p : Piece) → Mem p ps → (x : ℕ) → Mem x p.spans → x < span_count d
  pub bad : (s : ℕ) → Mem s (inner_pieces d) → (badness d s ≡ 0) ⊎ ((p : Piece) × Mem p ps × Mem s p.spans × (distance d s ≤ p.label))

-- the weight is no more than the sum
pub weight_counted : (d : Drawing) → Arranged (chords d) → (ps : List Piece) → Counts d ps → weight d ≤ total ps
weight_counted d ok ps k =
    owned_sum (λ s. badness d s * distance d s) (inner_pieces d) ps (inner_once d)
    (λ s m. elim (k.bad s m) [
      | inl e ↦ inl (ap (λ z. z * distance d s) e ∙ zero-mul (distance d s))
      | inr w ↦ (let (p, i, n, l) = w in
          let size = cycle_size (chords d) ok p.spans (k.cycles p i) (span_count d) (k.inside p i) s n in
          inr (
            p,
            i,
            n,
            let e : badness d s ≡ length p.spans - 2 = ap (λ z. z - 2) size in
                subst (λ z. z * distance d s ≤ score p) (sym e) (times_le (length p.spans - 2) (distance d s) p.label l),
          ))
    ])
    (λ s t p i m n a b. inner_named d s t m n (cycle_same (chords d) ok p.spans (k.cycles p i) s t a b))

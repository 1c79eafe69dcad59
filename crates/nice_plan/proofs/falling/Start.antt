-- The list of pieces of a drawing, each with its distance where it is bad or near: its sum is the weight.
use Rattle.std.proofs.Common.{◌≡◌, ℕ, zero, suc, ◌-◌, ◌*◌, ◌<◌, ◌≤◌, Bool, true, false, cond, eqb, ltb, not, List, [], ◌∷◌, length, get_or, refl, sym, ◌∙◌, ap, subst, arith, ◌⊎◌, inl, inr}
use Rattle.std.specs.List.{sum_by, position_or_len, list_any}
use Rattle.std.proofs.lemmas.Bool.{cases_lt, cases_Bool, eqb-true, eq-eqb, lt-ltb, le-ltb, true≢false, false≢true, not-true}
use Rattle.std.proofs.lemmas.List.Sums.{sum_by-cons}
use mathlib.Core.Path.{fun_ext}
use Rattle.obd_base.specs.Lists.{Mem, Once}
use Rattle.page_surface.specs.Drawing.{Drawing, Chord, chords}
use Rattle.drawing.specs.Pieces.{same_piece, distance, badness, inner_pieces, pieces, piece_table, is_base, spans, span_count, segments_in, gaps}
use Rattle.drawing.proofs.SamePiece.{table_at, same_piece_same, same_piece_sym, first_same}
use Rattle.region_table.specs.Nice.{weight}
use Rattle.drawing.proofs.fingers.Arranged.{Arranged}
use Rattle.finger_move.proofs.PushedNext.{next}
use Rattle.obd_base.proofs.lists.Members.{mem_filter, filter_mem}
use Rattle.obd_base.proofs.lists.Below.{range_mem}
use Rattle.finger_move.proofs.Cycles.{IsCycle, cycle_same, cycle_whole, cycle_size, same_trans}
use Rattle.nice_plan.proofs.Distance.{dist, dist_same}
use Rattle.nice_plan.proofs.Nearer.{dist_base}
use Rattle.nice_plan.proofs.Weight.{inner_once, inner_named}
use Rattle.nice_plan.proofs.Ledger.{Piece, total}
use Rattle.nice_plan.proofs.falling.Tally.{Tally, AtBase, Disjoint}
use Rattle.nice_plan.proofs.falling.Orbit.{Framed, past_top, cycle_of, cycle_below}

-- what is taken of a drawing
pub record Sound (d : Drawing) : Type 0 where
  pub arranged : Arranged (chords d)
  pub framed : Framed (chords d) (gaps d) (span_count d)

any_where : (p : ℕ → Bool) (gs : List ℕ) → (list_any p gs ≡ true → (g : ℕ) × Mem g gs × (p g ≡ true)) × (((g : ℕ) → Mem g gs → p g ≡ false) → list_any p gs ≡ false)
any_where p [] = (λ h. absurd (false≢true h), λ h. refl)
any_where p (g ∷ gs) = (
  λ h. elim (cases_Bool (p g)) [
    | inl q ↦ (g, inl refl, q)
    | inr q ↦ (let (k, i, r) = (any_where p gs).0 (let e : list_any p gs ≡ true = rw q at h in e) in (k, inr i, r))
  ],
  λ h. let q = h g (inl refl) in let e = (any_where p gs).1 (λ k i. h k (inr i)) in rw (q, e) refl,
)

-- a piece is base where it has a gap
pub base_at : (d : Drawing) (z : ℕ) → is_base d z ≡ true → AtBase (chords d) (gaps d) z
base_at d z h = (any_where (same_piece (chords d) z) (gaps d)).0 h

-- and the other way
pub at_base : (d : Drawing) (z : ℕ) → AtBase (chords d) (gaps d) z → is_base d z ≡ true
at_base d z (g, i, q) = elim (cases_Bool (is_base d z)) [
  | inl k ↦ k
  | inr k ↦ absurd (false≢true (sym (go (gaps d) i k) ∙ q))
]
  where
    go : (gs : List ℕ) → Mem g gs → list_any (same_piece (chords d) z) gs ≡ false → same_piece (chords d) z g ≡ false
    go [] m h = absurd m
    go (y ∷ gs) m h = elim (cases_Bool (same_piece (chords d) z y)) [
      | inl v ↦ absurd (true≢false (let e : true ≡ false = rw v at h in e))
      | inr v ↦ elim m [ inl e ↦ subst (λ w. same_piece (chords d) z w ≡ false) (sym e) v | inr m ↦ go gs m (let e : list_any (same_piece (chords d) z) gs ≡ false = rw v at h in e) ]
    ]

-- no label for a far piece of badness 0
abbrev pub start_label : Drawing → ℕ → ℕ → ℕ
start_label d D z = cond (eqb (badness d z) 0) (cond (ltb (distance d z) D) (distance d z) 0) (distance d z)

label_cases : (d : Drawing) (D z : ℕ) → (0 < badness d z → distance d z ≤ D)
    → ((start_label d D z ≡ 0) × (badness d z ≡ 0) × (D ≤ distance d z)) ⊎ ((start_label d D z ≡ distance d z) × (distance d z ≤ D) × ((distance d z < D) ⊎ (0 < badness d z)))
label_cases d D z far = elim (cases_Bool (eqb (badness d z) 0)) [
  | inl q ↦ (let e = eqb-true (badness d z) 0 q in elim (cases_lt (distance d z) D) [
    | inl l ↦ inr (rw (q, lt-ltb (distance d z) D l) refl, omega (arith, l), inl l)
    | inr l ↦ inl (rw (q, le-ltb (distance d z) D l) refl, e, l)
  ])
  | inr q ↦ (let n : 0 < badness d z = positive (badness d z) q in inr (rw q refl, far n, inr n))
]
  where
    positive : (n : ℕ) → eqb n 0 ≡ false → 0 < n
    positive zero q = absurd (true≢false (sym (eq-eqb 0 0 refl) ∙ q))
    positive (suc n) q = omega arith

module _ (d : Drawing) (ok : Sound d) (D : ℕ) (greatest : (z : ℕ) → Mem z (inner_pieces d) → 0 < badness d z → distance d z ≤ D) where
  -- the chords
  abbrev pub cs : List Chord
  cs = chords d

  abbrev top : ℕ
  top = ok.framed.top

  inner_away : (z : ℕ) → Mem z (inner_pieces d) → AtBase cs (gaps d) z → ⊥
  inner_away z m b = false≢true (sym (not-true _ (mem_filter (λ s. not (is_base d s)) z (pieces d) m).1) ∙ at_base d z b)

  not_top : (z : ℕ) → Mem z (inner_pieces d) → same_piece cs z top ≡ false
  not_top z m = elim (cases_Bool (same_piece cs z top)) [ inl q ↦ absurd (inner_away z m (top, ok.framed.is_gap, q)) | inr q ↦ q ]

  -- pieces of some of the first spans
  record Some (zs : List ℕ) : Type 0 where
    pieces : List Piece
    from : (p : Piece) → Mem p pieces → (z : ℕ) × Mem z zs × Mem z p.spans × IsCycle (next cs) p.spans × (p.label ≡ start_label d D z)
    to : (z : ℕ) → Mem z zs → (p : Piece) × Mem p pieces × Mem z p.spans
    apart : Disjoint pieces
    sum : total pieces ≡ sum_by (λ s. badness d s * distance d s) zs

  size_is : (z : ℕ) → Mem z (inner_pieces d) → (xs : List ℕ) → IsCycle (next cs) xs → Mem z xs → length (segments_in d z) ≡ length xs
  size_is z m xs k i = cycle_size cs ok.arranged xs k (span_count d)
      (λ y j. let b = cycle_below cs ok.arranged top ok.framed.ends z (not_top z m) xs k i y j in let t = ok.framed.within in omega (arith, b, t)) z i

  score_is : (z : ℕ) → Mem z (inner_pieces d) → (xs : List ℕ) → IsCycle (next cs) xs → Mem z xs → (length xs - 2) * start_label d D z ≡ badness d z * distance d z
  score_is z m xs k i =
      let e : length xs - 2 ≡ badness d z = let s = size_is z m xs k i in omega (arith, s) in
      elim (label_cases d D z (greatest z m)) [
        | inl q ↦ (
            let a : (length xs - 2) * start_label d D z ≡ 0 * start_label d D z = ap (λ v. v * start_label d D z) (e ∙ q.1) in
            let b : badness d z * distance d z ≡ 0 * distance d z = ap (λ v. v * distance d z) q.1 in
            omega (arith, a, b))
        | inr q ↦ ap (λ v. v * start_label d D z) e ∙ ap (λ v. badness d z * v) q.0
      ]

  some_list : (zs : List ℕ) → Once zs → ((z : ℕ) → Mem z zs → Mem z (inner_pieces d)) → Some zs
  some_list [] o h = record { pieces = []; from = λ p m. absurd m; to = λ z m. absurd m; apart = tt; sum = refl }
  some_list (z ∷ zs) o h =
      let rest = some_list zs o.1 (λ y m. h y (inr m)) in
      let m = h z (inl refl) in
      let (xs, k, i) = cycle_of cs ok.arranged top ok.framed.ends z (not_top z m) in
      let p : Piece = record { spans = xs; label = start_label d D z } in
      record {
        pieces = p ∷ rest.pieces;
        from = λ q n. elim n [
          | inl e ↦ subst (λ (w : Piece). (y : ℕ) × Mem y (z ∷ zs) × Mem y w.spans × IsCycle (next cs) w.spans × (w.label ≡ start_label d D y)) (sym e) (z, inl refl, i, k, refl)
          | inr n ↦ (let (y, a, b, c, e) = rest.from q n in (y, inr a, b, c, e))
        ];
        to = λ y n. elim n [ inl e ↦ (p, inl refl, subst (λ w. Mem w xs) (sym e) i) | inr n ↦ (let (q, a, b) = rest.to y n in (q, inr a, b)) ];
        apart = (
          λ q n w a b. let (y, j, l, c, e) = rest.from q n in
              o.0 (subst (λ v. Mem v zs) (sym (inner_named d z y m (h y (inr j)) (same_trans cs z w y (cycle_same cs ok.arranged xs k z w i a) (cycle_same cs ok.arranged q.spans c w y b l)))) j),
          rest.apart,
        );
        sum = let a = score_is z m xs k i in omega (arith, a, rest.sum, sum_by-cons (λ s. badness d s * distance d s) z zs);
      }

  -- the list of pieces
  pub record Started : Type 0 where
    pub pieces : List Piece
    pub tally : Tally D cs (gaps d) pieces
    pub rule : (p : Piece) → Mem p pieces → (w : ℕ) → Mem w p.spans
        → ((p.label ≡ 0) × (length p.spans ≤ 2) × (D ≤ dist cs (gaps d) w)) ⊎ ((p.label ≡ dist cs (gaps d) w) × (dist cs (gaps d) w ≤ D) × ((dist cs (gaps d) w < D) ⊎ (2 < length p.spans)))
    pub sum : total pieces ≡ weight d

  first_inner : (z : ℕ) → z < span_count d → is_base d z ≡ false → Mem (get_or (piece_table d) z 0) (inner_pieces d)
  first_inner z l n =
      let s = get_or (piece_table d) z 0 in
      let same : same_piece cs z s ≡ true = first_same d z l in
      let alike : is_base d s ≡ is_base d z = sym (ap (λ (q : ℕ → Bool). list_any q (gaps d)) (fun_ext (λ v. same_piece_same cs z s v same))) in
      let low : s < span_count d = elim (cases_lt s top) [
        | inl k ↦ (let t = ok.framed.within in omega (arith, k, t))
        | inr k ↦ absurd (false≢true (sym n ∙ at_base d z (top, ok.framed.is_gap, same_trans cs z s top same (past_top cs ok.arranged top ok.framed.ends s k))))
      ] in
      let own : get_or (piece_table d) s 0 ≡ s = table_at d s low ∙ sym (ap (λ q. position_or_len q (spans d)) (fun_ext (λ v. same_piece_same cs z s v same))) ∙ sym (table_at d z l) in
      filter_mem (λ s. not (is_base d s)) s (pieces d)
      (filter_mem (λ s. eqb (get_or (piece_table d) s 0) s) s (spans d) (range_mem 0 (span_count d) s (omega arith) (omega (arith, low))) (eq-eqb _ _ own))
      (ap not (alike ∙ n))

  -- each drawing has one
  pub started : Started
  started =
      let all = some_list (inner_pieces d) (inner_once d) (λ z m. m) in
      record {
        pieces = all.pieces;
        tally = record {
          cycles = λ p m. let (z, a, b, c, e) = all.from p m in c;
          apart = all.apart;
          covers = λ z. elim (cases_lt z top) [
            | inr l ↦ inl (top, ok.framed.is_gap, past_top cs ok.arranged top ok.framed.ends z l)
            | inl l ↦ (let low : z < span_count d = let t = ok.framed.within in omega (arith, l, t) in elim (cases_Bool (is_base d z)) [
              | inl q ↦ inl (base_at d z q)
              | inr q ↦ (let m = first_inner z low q in let (p, a, b) = all.to (get_or (piece_table d) z 0) m in
                  let (y, aa, bb, c, e) = all.from p a in
                  inr (p, a, cycle_whole cs ok.arranged p.spans c (get_or (piece_table d) z 0) z b (same_piece_sym cs z _ (first_same d z low))))
            ])
          ];
          inner = λ p m w i. let (z, a, b, c, e) = all.from p m in away z w a (cycle_same cs ok.arranged p.spans c z w b i);
          labelled = λ p m w i. let (z, a, b, c, e) = all.from p m in
              let q = dist_same cs (gaps d) z w (cycle_same cs ok.arranged p.spans c z w b i) in
              elim (label_cases d D z (greatest z a)) [ inl k ↦ inl (e ∙ k.0) | inr k ↦ inr (e ∙ k.0 ∙ q, let f = k.1 in omega (arith, e, k.0, f)) ];
        };
        rule = λ p m w i. let (z, a, b, c, e) = all.from p m in
            let q = dist_same cs (gaps d) z w (cycle_same cs ok.arranged p.spans c z w b i) in
            let s = size_is z a p.spans c b in
            elim (label_cases d D z (greatest z a)) [
              | inl k ↦ inl (e ∙ k.0, omega (arith, s, k.1), omega (arith, q, k.2))
              | inr k ↦ inr (e ∙ k.0 ∙ q, omega (arith, q, k.1), elim k.2 [ inl l ↦ inl (omega (arith, l, q)) | inr l ↦ inr (omega (arith, l, s)) ])
            ];
        sum = all.sum;
      }
    where
      away : (z w : ℕ) → Mem z (inner_pieces d) → same_piece cs z w ≡ true → 0 < dist cs (gaps d) w
      away z w m h = go (dist cs (gaps d) w) refl
        where
          go : (n : ℕ) → dist cs (gaps d) w ≡ n → 0 < dist cs (gaps d) w
          go (suc n) e = omega (arith, e)
          go zero e = let (g, i, q) = dist_base cs ok.arranged (gaps d) top ok.framed.is_gap w e in absurd (inner_away z m (g, i, same_trans cs z w g h q))

-- The rows of a try that a strip read off, piece by piece: points, inner pieces, and the marks of the set that the try finds.
use Rattle.std.proofs.Common.{◌≡◌, ℕ, zero, suc, ◌+◌, ◌≤◌, ◌<◌, ◌⊎◌, inl, inr, true, false, not, List, get_or, map, refl, sym, ap, subst, arith, ◌∙◌}
use Rattle.std.specs.List.{list_all, list_any}
use Rattle.std.proofs.lemmas.Bool.{and_parts, cases_Bool, false≢true, not-true}
use Rattle.drawing.proofs.SamePiece.{first_same, same_piece_same, same_piece_sym, table_same}
use Rattle.drawing.specs.Pieces.{gap, inner_pieces, is_base, piece_table, same_piece, span_count}
use Rattle.drawing.specs.Round.{opposite}
use Rattle.empty_domains.proofs.ArcPoints.{opp_point}
use Rattle.empty_domains.proofs.Along.{name_is}
use Rattle.empty_domains.proofs.Begins.{IsChoice}
use Rattle.empty_domains.proofs.Diagram.{IsCross, IsPoint, cross_next, other_of}
use Rattle.empty_domains.proofs.Finish.{inner_of}
use Rattle.empty_domains.proofs.ListFacts.{any_mem, filter_part, mem_any}
use Rattle.empty_domains.proofs.NiceSets.{inner_first, marked_under}
use Rattle.empty_domains.proofs.PieceMark.{gap_base, point_under}
use Rattle.empty_domains.proofs.RowsOn.{first_inner, row_on}
use Rattle.empty_domains.proofs.StripFacts.{IsStrip, row_from, side_by_side}
use Rattle.empty_domains.proofs.Strands.{other_point}
use Rattle.empty_domains.proofs.Tries.{IsTry}
use Rattle.empty_domains.proofs.TwoSpans.{two_spans}
use Rattle.hkm_diagram.proofs.ContactColumn.{mark}
use Rattle.empty_domains.specs.NearTest.{swept, taken}
use Rattle.empty_domains.specs.Strip.{Step}
use Rattle.empty_domains.specs.Sweep.{chain, starts}
use Rattle.empty_domains.specs.Walk.{found, on_rows, rows, rows_inner}
use Rattle.obd_base.specs.Lists.{Mem, below, has, parts}
use Rattle.page_surface.specs.Drawing.{Drawing, IsEmbedded, chords}
use Rattle.region_table.specs.Nice.{IsNice}
use Rattle.obd_base.proofs.lists.Members.{filter_mem, mem_filter, mem_map}
use Rattle.drawing.proofs.Lists.{mem_has, flat_mem, mem_flat, mem_to_map}
use Rattle.page_surface.proofs.EmbeddedTest.{all_from}
use Rattle.obd_base.proofs.lists.Below.{mem_range, range_mem}

-- a row's start is one of the chain
starts_mem : (other opp : ℕ → ℕ) (n a z : ℕ) → Mem z (starts other opp a n) → (m : ℕ) × (m < n) × (z ≡ chain other opp a m)
starts_mem other opp zero a z m = absurd m
starts_mem other opp (suc n) a z (inl e) = (0, omega arith, e)
starts_mem other opp (suc n) a z (inr m) = let (k, l, e) = starts_mem other opp n (opp (other a)) z m in (suc k, omega arith, e)

module _ (d : Drawing) (ok : IsEmbedded d) where
  -- a chain of row starts stays among the points
  pub chain_point : (m c : ℕ) → IsPoint d c → IsPoint d (row_from d c m)
  chain_point zero c p = p
  chain_point (suc m) c p = chain_point m (opposite d (other_of d c)) (opp_point d ok (other_of d c) (other_point d ok c p))

  -- before a piece that isn't base comes a crossing point
  pub before_inner : (x : ℕ) → IsPoint d x → is_base d (suc x) ≡ false → IsCross d x
  before_inner x (inl c) h = c
  before_inner x (inr e) h = absurd (
      let g : suc x ≡ gap d e.side = let n = e.number in omega arith in
      false≢true (sym h ∙ subst (λ z. is_base d z ≡ true) (sym g) (gap_base d ok e.side e.on)))

  -- along a row of pieces that aren't base there are points
  pub row_point_at : (c r : ℕ) → IsPoint d c → ((i : ℕ) → i < r → is_base d (suc (c + i)) ≡ false) → (i : ℕ) → i ≤ r → IsPoint d (c + i)
  row_point_at c r p h zero l = let z : c + 0 ≡ c = omega arith in subst (λ n. IsPoint d n) (sym z) p
  row_point_at c r p h (suc i) l =
      let before = row_point_at c r p h i (omega arith) in
      let next = cross_next d ok (c + i) (before_inner (c + i) before (h i (omega arith))) in
      let e : c + suc i ≡ suc (c + i) = omega arith in
      subst (λ n. IsPoint d n) (sym e) next

module _ (d : Drawing) (ok : IsEmbedded d) (nice : IsNice d) (y : List ℕ) (choice : IsChoice d y) (s : Step) (is_try : IsTry d y s.by) (strip : IsStrip d y s) where
  -- what holds of each row
  pub record IsRowAt (a : ℕ) : Type 0 where
    pub point : (i : ℕ) → i ≤ s.by.width → IsPoint d (a + i)
    pub inner : (i : ℕ) → i < s.by.width → is_base d (suc (a + i)) ≡ false
    pub back : (i : ℕ) → i ≤ s.by.width → other_of d (a + i) + i ≡ other_of d a

  -- the try starts at a point
  pub start_point : IsPoint d s.by.start
  start_point = (name_is d ok s.by.first (get_or y s.by.first 0) s.by.start is_try.first_under (choice.under s.by.first is_try.first_under) is_try.start_names).0

  -- each row is one
  pub row_at : (a : ℕ) → Mem a (rows d s.by) → IsRowAt a
  row_at a m =
      let (k, l, e) = starts_mem (other_of d) (opposite d) (suc s.steps) s.by.start a (subst (λ zs. Mem a zs) strip.rows_are m) in
      subst IsRowAt (sym e) (of_chain k l)
    where
      of_chain : (k : ℕ) → k < suc s.steps → IsRowAt (row_from d s.by.start k)
      of_chain k l =
          let c = row_from d s.by.start k in
          let goes = strip.known.each k (omega arith) in
          let inner : (i : ℕ) → i < s.by.width → is_base d (suc (c + i)) ≡ false = λ i li. not-true _ (and_parts (not (is_base d (suc (c + i)))) _ (goes i li)).0 in
          record { point = row_point_at d ok c s.by.width (chain_point d ok k s.by.start start_point) inner; inner = inner; back = side_by_side d y c s.by.width goes }

  -- no piece of a row is base
  pub inner_rows : rows_inner d s.by ≡ true
  inner_rows = all_from (λ a. list_all (λ i. not (is_base d (suc (a + i)))) (below s.by.width)) (rows d s.by)
      (λ a m. all_from (λ i. not (is_base d (suc (a + i)))) (below s.by.width)
      (λ i n. ap not ((row_at a m).inner i (let r = mem_range 0 s.by.width i n in omega (arith, r)))))

  -- what the try finds is a part of the inner pieces
  pub found_part : Mem (found d s.by) (parts (inner_pieces d))
  found_part = filter_part (on_rows d s.by) (inner_pieces d)

  -- so its members aren't base
  pub found_inner : (z : ℕ) → has (found d s.by) z ≡ true → has (inner_pieces d) z ≡ true
  found_inner = inner_of d ok (found d s.by) found_part

  -- the place of a swept span
  pub swept_at : (q : ℕ) → Mem q (swept d s.by) → (a : ℕ) × (i : ℕ) × Mem a (rows d s.by) × (i < s.by.width) × (q ≡ suc (a + i))
  swept_at q m =
      let (a, n, k) = flat_mem (λ a. map (λ i. suc (a + i)) (below s.by.width)) (rows d s.by) q m in
      let (i, l, e) = mem_map (λ i. suc (a + i)) q (below s.by.width) k in
      (a, i, n, (let r = mem_range 0 s.by.width i l in omega (arith, r)), e)

  -- swept spans are spans of the place order
  pub swept_under : (q : ℕ) → Mem q (swept d s.by) → q < span_count d
  swept_under q m =
      let (a, i, n, l, e) = swept_at q m in
      let p = (row_at a n).point i (omega arith) in
      omega (arith, point_under d ok (a + i) p, e)

  -- a swept span is marked
  pub swept_marked : (q : ℕ) → Mem q (swept d s.by) → mark d (found d s.by) q ≡ 1
  swept_marked q m =
      let (a, i, n, l, e) = swept_at q m in
      subst (λ z. mark d (found d s.by) z ≡ 1) (sym e) (row_on d ok s.by ok.polygon.not_empty inner_rows a i n l)

  -- a marked span is swept or comes next to a swept one in its piece
  pub marked_swept : (z : ℕ) → mark d (found d s.by) z ≡ 1 → (q : ℕ) × Mem q (swept d s.by) × ((z ≡ q) ⊎ (z ≡ suc (other_of d q)))
  marked_swept z e =
      let under = marked_under d ok (found d s.by) found_inner z e in
      let t = get_or (piece_table d) z 0 in
      let h : has (found d s.by) t ≡ true = elim (cases_Bool (has (found d s.by) t)) [
        | inl k ↦ k
        | inr k ↦ absurd (let w : mark d (found d s.by) z ≡ 0 = rw k refl in omega arith)
      ] in
      let on = (mem_filter (on_rows d s.by) t (inner_pieces d) (mem_has (found d s.by) t h)).1 in
      let (a, n, k) = any_mem (λ a. list_any (λ i. same_piece (chords d) (suc (a + i)) t) (below s.by.width)) (rows d s.by) on in
      let (i, l, w) = any_mem (λ i. same_piece (chords d) (suc (a + i)) t) (below s.by.width) k in
      let q = suc (a + i) in
      let m = mem_flat (λ a. map (λ i. suc (a + i)) (below s.by.width)) (rows d s.by) a q n (mem_to_map (λ i. suc (a + i)) i (below s.by.width) l) in
      let same : same_piece (chords d) q z ≡ true
      = same_piece_sym (chords d) z q (same_piece_same (chords d) z t q (first_same d z under) ∙ same_piece_sym (chords d) q t w) in
      (q, m, two_spans d ok nice (found d s.by) found_inner q z (swept_marked q m) same under)

  -- the pieces of swept spans are those found
  pub taken_found : (p : ℕ) → Mem p (taken d s.by) → Mem p (found d s.by)
  taken_found p m =
      let (q, n, e) = mem_map (λ z. get_or (piece_table d) z 0) p (swept d s.by) m in
      let (a, i, k, l, w) = swept_at q n in
      let under = swept_under q n in
      let inner : is_base d q ≡ false = subst (λ z. is_base d z ≡ false) (sym w) ((row_at a k).inner i l) in
      let t = get_or (piece_table d) q 0 in
      let same : same_piece (chords d) (suc (a + i)) t ≡ true = subst (λ z. same_piece (chords d) z t ≡ true) w (first_same d q under) in
      let on : on_rows d s.by t ≡ true = mem_any (λ a. list_any (λ i. same_piece (chords d) (suc (a + i)) t) (below s.by.width)) a (rows d s.by) k
      (mem_any (λ i. same_piece (chords d) (suc (a + i)) t) i (below s.by.width) (range_mem 0 s.by.width i (omega arith) (omega arith)) same) in
      subst (λ z. Mem z (found d s.by)) (sym e) (filter_mem (on_rows d s.by) t (inner_pieces d) (first_inner d ok q under inner) on)

  -- and each found piece is that of a swept span
  pub found_taken : (p : ℕ) → Mem p (found d s.by) → Mem p (taken d s.by)
  found_taken p m =
      let (k, on) = mem_filter (on_rows d s.by) p (inner_pieces d) m in
      let (t, under, _) = inner_first d p k in
      let (a, n, h) = any_mem (λ a. list_any (λ i. same_piece (chords d) (suc (a + i)) p) (below s.by.width)) (rows d s.by) on in
      let (i, l, w) = any_mem (λ i. same_piece (chords d) (suc (a + i)) p) (below s.by.width) h in
      let q = suc (a + i) in
      let v = mem_flat (λ a. map (λ i. suc (a + i)) (below s.by.width)) (rows d s.by) a q n (mem_to_map (λ i. suc (a + i)) i (below s.by.width) l) in
      let e : get_or (piece_table d) q 0 ≡ p = table_same d q p (swept_under q v) under w ∙ t in
      subst (λ z. Mem z (taken d s.by)) e (mem_to_map (λ z. get_or (piece_table d) z 0) q (swept d s.by) v)

-- A try whose sweep follows a trace of a domain succeeds and finds the domain.
use Rattle.std.proofs.Common.{◌≡◌, ℕ, suc, ◌+◌, ◌≤◌, ◌<◌, inl, inr, true, not, List, get_or, refl, sym, subst, arith, ◌∙◌}
use Rattle.std.specs.List.{list_any, list_all}
use Rattle.std.proofs.lemmas.Bool.{cases_Bool, false≢true, and_from, not_from_false}
use Rattle.drawing.proofs.SamePiece.{same_piece_refl}
use Rattle.drawing.specs.Pieces.{inner_pieces, span_count, piece_table, same_piece, is_base}
use Rattle.drawing.specs.Points.{is_generator}
use Rattle.drawing.specs.Round.{opposite}
use Rattle.empty_domains.proofs.Diagram.{IsCross, IsPoint, other_of}
use Rattle.empty_domains.proofs.ListFacts.{any_mem, mem_any, part_by}
use Rattle.empty_domains.proofs.NiceSets.{once_inner, inner_first, marked_under, marked_is_point}
use Rattle.empty_domains.proofs.PieceMark.{set_mark, mark_same, next_same, point_under}
use Rattle.empty_domains.proofs.Swept.{Covers, sweep_covers, sweep_comes}
use Rattle.empty_domains.proofs.Total.{total_bits}
use Rattle.empty_domains.proofs.Trace.{Trace}
use Rattle.hkm_diagram.proofs.ContactColumn.{mark}
use Rattle.hkm_diagram.proofs.ContactLaw.{base_unmarked}
use Rattle.hkm_diagram.proofs.Laws.{domain_test}
use Rattle.empty_domains.specs.Walk.{Try, is_last, rows, comes_to_end, on_rows, rows_inner, found, target, succeeds}
use Rattle.hkm_diagram.specs.Domains.{is_domain, IsDomain}
use Rattle.obd_base.specs.Lists.{below, has, parts, Mem}
use Rattle.page_surface.specs.Drawing.{Drawing, chords, IsEmbedded}
use Rattle.drawing.proofs.Lists.{has_mem, mem_has}
use Rattle.obd_base.proofs.lists.Below.{mem_range, range_mem}
use Rattle.page_surface.proofs.EmbeddedTest.{all_from}
use Rattle.obd_base.proofs.lists.Parts.{mem_parts}

module _ (d : Drawing) (ok : IsEmbedded d) (area : List ℕ) (part : Mem area (parts (inner_pieces d))) where
  -- the members of a part of the inner pieces aren't base
  pub inner_of : (s : ℕ) → has area s ≡ true → has (inner_pieces d) s ≡ true
  inner_of s h = has_mem (inner_pieces d) s (mem_parts s area (inner_pieces d) part (mem_has area s h))

  -- the marks of the set
  abbrev f : ℕ → ℕ
  f = mark d area

  bits : (s : ℕ) → f s ≤ 1
  bits = (set_mark d ok area inner_of).bit

  under : (x : ℕ) → IsCross d x → suc x < span_count d
  under x c = point_under d ok x (inl c)

  -- the mark of an inner piece's first span
  mark_first : (s : ℕ) → Mem s (inner_pieces d) → (has area s ≡ true → f s ≡ 1) × (f s ≡ 1 → has area s ≡ true)
  mark_first s m =
      let (t, l, b) = inner_first d s m in (
        (λ h. (let h' : has area (get_or (piece_table d) s 0) ≡ true = subst (λ n. has area n ≡ true) (sym t) h in rw h' refl)),
        (λ e. elim (cases_Bool (has area (get_or (piece_table d) s 0))) [
          | inl h ↦ subst (λ n. has area n ≡ true) t h
          | inr h ↦ absurd (let z : f s ≡ 0 = rw h refl in omega arith)
        ]),
      )

  module _ (t : Try) (trace : Trace (other_of d) (opposite d) (IsCross d) (is_last t) t.width f t.start) where
    covers : Covers (other_of d) f t.width (rows d t)
    covers = sweep_covers (other_of d) (opposite d) (IsCross d) (is_last t) t.width (span_count d) under (span_count d) f t.start trace (total_bits f (span_count d) bits)

    comes : comes_to_end d t ≡ true
    comes = sweep_comes (other_of d) (opposite d) (IsCross d) (is_last t) t.width (span_count d) under (span_count d) f t.start trace (total_bits f (span_count d) bits)

    on_if : (s : ℕ) → f s ≡ 1 → on_rows d t s ≡ true
    on_if s e =
        let (a, i, m, l, w) = covers.covered s e in
        mem_any (λ a. list_any (λ i. same_piece (chords d) (suc (a + i)) s) (below t.width)) a (rows d t) m
        (mem_any (λ i. same_piece (chords d) (suc (a + i)) s) i (below t.width) (range_mem 0 t.width i (omega arith) (omega arith)) (elim w [
          | inl q ↦ subst (λ n. same_piece (chords d) n s ≡ true) q (same_piece_refl (chords d) s)
          | inr q ↦ subst (λ n. same_piece (chords d) n s ≡ true) q (next_same d ok s (at s e))
        ]))
      where
        at : (s : ℕ) → f s ≡ 1 → IsPoint d s
        at s e = marked_is_point d ok area inner_of s e

    if_on : (s : ℕ) → s < span_count d → on_rows d t s ≡ true → f s ≡ 1
    if_on s l h =
        let (a, m, k) = any_mem (λ a. list_any (λ i. same_piece (chords d) (suc (a + i)) s) (below t.width)) (rows d t) h in
        let (i, n, q) = any_mem (λ i. same_piece (chords d) (suc (a + i)) s) (below t.width) k in
        let one = covers.marked a i m (let r = mem_range 0 t.width i n in omega (arith, r)) in
        sym (mark_same d ok area inner_of (suc (a + i)) s (marked_under d ok area inner_of (suc (a + i)) one) l q) ∙ one

    agrees : (s : ℕ) → Mem s (inner_pieces d) → has area s ≡ on_rows d t s
    agrees s m =
        let (to, from) = mark_first s m in
        let l = (inner_first d s m).1 in
        elim (cases_Bool (has area s)) [
          | inl h ↦ h ∙ sym (on_if s (to h))
          | inr h ↦ elim (cases_Bool (on_rows d t s)) [
            | inl k ↦ absurd (false≢true (sym h ∙ from (if_on s l k)))
            | inr k ↦ h ∙ sym k
          ]
        ]

    pub finds : found d t ≡ area
    finds = sym (part_by (on_rows d t) area (inner_pieces d) (once_inner d) part agrees)

    no_base : rows_inner d t ≡ true
    no_base = all_from (λ a. list_all (λ i. not (is_base d (suc (a + i)))) (below t.width)) (rows d t)
        (λ a m. all_from (λ i. not (is_base d (suc (a + i)))) (below t.width) (λ i n.
        let one = covers.marked a i m (let r = mem_range 0 t.width i n in omega (arith, r)) in
        elim (cases_Bool (is_base d (suc (a + i)))) [
          | inl b ↦ absurd (let z = base_unmarked d area inner_of (suc (a + i)) (marked_under d ok area inner_of (suc (a + i)) one) b in omega arith)
          | inr b ↦ not_from_false _ b
        ]))

    pub tries_well : (y x : List ℕ) → is_generator d x ≡ true → IsDomain d y x area → target d y t ≡ x → succeeds d y t ≡ true
    tries_well y x gen dom e =
        let test : is_domain d (piece_table d) y x area ≡ true = (domain_test d y x area part).1 dom in
        let test' : is_domain d (piece_table d) y (target d y t) (found d t) ≡ true
        = subst (λ z. is_domain d (piece_table d) y z (found d t) ≡ true) (sym e) (subst (λ z. is_domain d (piece_table d) y x z ≡ true) (sym finds) test) in
        and_from (comes_to_end d t) _ comes (and_from (rows_inner d t) _ no_base (and_from (is_generator d (target d y t)) _ (subst (λ z. is_generator d z ≡ true) (sym e) gen) test'))

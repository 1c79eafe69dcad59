-- Inner pieces by their names and by their first spans.
use Rattle.std.proofs.Common.{◌≡◌, ℕ, ◌<◌, Bool, true, false, cond, not, List, map, get_or, sym, ◌∙◌, ap, subst}
use mathlib.Core.Path.{fun_ext}
use Rattle.std.specs.List.{count_by, list_any}
use Rattle.std.proofs.lemmas.Bool.{eqb-true, not-true}
use Rattle.boundary_map.proofs.SameMembers.{once_by_members, same_test}
use Rattle.boundary_map.specs.Sets.{AreInner, firsts}
use Rattle.drawing.proofs.Laws.{name_in_piece, name_listed, name_same}
use Rattle.drawing.proofs.Lists.{has_mem, mem_has}
use Rattle.drawing.proofs.SamePiece.{same_piece_same, table_at}
use Rattle.drawing.specs.Pieces.{gaps, inner_pieces, is_base, piece_of, piece_table, pieces, same_piece, span_count, spans}
use Rattle.hkm_diagram.specs.Domains.{met}
use Rattle.obd_base.proofs.lists.Below.{mem_below}
use Rattle.obd_base.proofs.lists.Counts.{count_by-map}
use Rattle.obd_base.proofs.lists.Members.{filter_mem, mem_filter, mem_map, mem_to_map}
use Rattle.obd_base.proofs.lists.Sums.{sum_same}
use Rattle.obd_base.specs.Lists.{Mem, Once, has}
use Rattle.page_surface.specs.Drawing.{Drawing, chords}
use Rattle.region_table.specs.Table.{IsTableOf, Table, name_at, region}

-- a piece's spans are base together
base_same : (d : Drawing) (s t : ℕ) → same_piece (chords d) s t ≡ true → is_base d s ≡ is_base d t
base_same d s t h = ap (λ (p : ℕ → Bool). list_any p (gaps d)) (fun_ext (λ u. same_piece_same (chords d) s t u h))

-- a piece's first span is a span
first_in : (d : Drawing) (s : ℕ) → s < span_count d → piece_of d s < span_count d
first_in d s l = mem_below (span_count d) (piece_of d s) (mem_filter _ (piece_of d s) (spans d) (name_listed d s l)).0

module _ (d : Drawing) (t : Table) (told : IsTableOf d t) where
  -- a name of an inner piece is that of a span that isn't base, and its first span is told
  record IsInner (p : ℕ) : Type 0 where
    span : ℕ
    inside : span < span_count d
    named : name_at t span ≡ p
    not_base : is_base d span ≡ false
    first : (region t p).first ≡ piece_of d span

  -- every inner name is that of such a span
  inner_span : (p : ℕ) → Mem p t.inner → IsInner p
  inner_span p m =
      let (l, inner) = told.listed_inner p m in
      let (s, ls, e) = told.used p l in
      let here : (region t (name_at t s)).base ≡ false = ap (λ q. (region t q).base) e ∙ inner in
      let base : is_base d s ≡ false = sym (told.base s ls) ∙ here in
      record { span = s; inside = ls; named = e; not_base = base; first = ap (λ q. (region t q).first) (sym e) ∙ told.first s ls base }

  -- the first span of a span with an inner name
  first_told : (q : ℕ) → q < span_count d → Mem (name_at t q) t.inner → (region t (name_at t q)).first ≡ piece_of d q
  first_told q l m = told.first q l (sym (told.base q l) ∙ (told.listed_inner (name_at t q) m).1)

  -- it is a span of the piece
  pub first_named : (p : ℕ) → Mem p t.inner → ((region t p).first < span_count d) × (name_at t (region t p).first ≡ p)
  first_named p m =
      let i = inner_span p m in
      let l : piece_of d i.span < span_count d = first_in d i.span i.inside in
      let n : name_at t i.span ≡ name_at t (piece_of d i.span) = told.naming.together i.span (piece_of d i.span) i.inside l (name_in_piece d i.span i.inside) in
      (subst (λ k. k < span_count d) (sym i.first) l, ap (name_at t) i.first ∙ (sym n ∙ i.named))

  -- which isn't base
  pub first_not_base : (p : ℕ) → Mem p t.inner → is_base d (region t p).first ≡ false
  first_not_base p m =
      let (l, e) = first_named p m in
      sym (told.base (region t p).first l) ∙ (ap (λ q. (region t q).base) e ∙ (told.listed_inner p m).1)

  -- so different inner pieces have different first spans
  pub first_tells : (p q : ℕ) → Mem p t.inner → Mem q t.inner → (region t p).first ≡ (region t q).first → p ≡ q
  first_tells p q m n e = sym (first_named p m).1 ∙ (ap (name_at t) e ∙ (first_named q n).1)

  -- no first span stands twice
  pub firsts_once : Once (firsts t t.inner)
  firsts_once = once_by_members (λ p. (region t p).first) t.inner first_tells told.inner_once

  -- the first spans of inner pieces are the inner pieces,
  pub first_is_inner : (z : ℕ) → Mem z (firsts t t.inner) → Mem z (inner_pieces d)
  first_is_inner z m =
      let (p, k, e) = mem_map (λ p. (region t p).first) z t.inner m in
      let i = inner_span p k in
      let base : is_base d (piece_of d i.span) ≡ false = sym (base_same d i.span (piece_of d i.span) (name_in_piece d i.span i.inside)) ∙ i.not_base in
      subst (λ w. Mem w (inner_pieces d)) (sym (e ∙ i.first)) (filter_mem (λ s. not (is_base d s)) (piece_of d i.span) (pieces d) (name_listed d i.span i.inside) (ap not base))

  -- and all of them
  pub inner_is_first : (z : ℕ) → Mem z (inner_pieces d) → Mem z (firsts t t.inner)
  inner_is_first z m =
      let (k, n) = mem_filter (λ s. not (is_base d s)) z (pieces d) m in
      let (j, e) = mem_filter _ z (spans d) k in
      let l : z < span_count d = mem_below (span_count d) z j in
      let base : is_base d z ≡ false = not-true _ n in
      let inner : Mem (name_at t z) t.inner = told.inner_listed (name_at t z) (told.told z l) (told.base z l ∙ base) in
      let first : (region t (name_at t z)).first ≡ z = told.first z l base ∙ (sym (table_at d z l) ∙ eqb-true _ _ e) in
      subst (λ w. Mem w (firsts t t.inner)) first (mem_to_map (λ p. (region t p).first) (name_at t z) t.inner inner)

  module _ (set : List ℕ) (inner : AreInner t set) where
    -- a span's piece is in the set by its name where it is by its first span
    pub has_first : (q : ℕ) → q < span_count d → has set (name_at t q) ≡ has (firsts t set) (get_or (piece_table d) q 0)
    has_first q l = same_test _ _ there back
      where
        there : has set (name_at t q) ≡ true → has (firsts t set) (get_or (piece_table d) q 0) ≡ true
        there h =
            let m : Mem (name_at t q) set = mem_has set (name_at t q) h in
            has_mem (firsts t set) (get_or (piece_table d) q 0)
            (subst (λ w. Mem w (firsts t set)) (first_told q l (inner (name_at t q) m) ∙ sym (table_at d q l)) (mem_to_map (λ p. (region t p).first) (name_at t q) set m))

        back : has (firsts t set) (get_or (piece_table d) q 0) ≡ true → has set (name_at t q) ≡ true
        back h =
            let (p, k, e) = mem_map (λ p. (region t p).first) (get_or (piece_table d) q 0) set (mem_has (firsts t set) (get_or (piece_table d) q 0) h) in
            let i = inner_span p (inner p k) in
            let same : piece_of d q ≡ piece_of d i.span = sym (table_at d q l) ∙ (e ∙ i.first) in
            let n : name_at t q ≡ name_at t i.span = told.naming.together q i.span l i.inside (name_same d q i.span l i.inside same) in
            has_mem set (name_at t q) (subst (λ w. Mem w set) (sym (n ∙ i.named)) k)

    -- so spans are met by their names
    pub met_by_names : (qs : List ℕ) → ((q : ℕ) → Mem q qs → q < span_count d) → count_by (has set) (map (name_at t) qs) ≡ met (piece_table d) (firsts t set) qs
    met_by_names qs h =
        count_by-map (has set) (name_at t) qs
        ∙ sum_same (λ q. cond {A = ℕ} (has set (name_at t q)) 1 0) (λ q. cond {A = ℕ} (has (firsts t set) (get_or (piece_table d) q 0)) 1 0) qs
        (λ q m. ap (λ b. cond {A = ℕ} b 1 0) (has_first q (h q m)))

-- The segments of a piece, as code reads them in a table.
use Rattle.std.proofs.Common.{◌≡◌, ℕ, suc, ◌+◌, ◌<◌, false, eqb, List, filter, length, get_or, sym, ◌∙◌, ap, arith}
use Rattle.std.proofs.lemmas.List.{get_or_default}
use Rattle.obd_base.specs.Lists.{below}
use Rattle.obd_base.proofs.lists.Below.{mem_below}
use Rattle.obd_base.proofs.lists.Members.{mem_filter}
use Rattle.page_surface.specs.Drawing.{Drawing, chords}
use Rattle.drawing.specs.Pieces.{is_base, same_piece, segments_in, span_count, spans}
use Rattle.region_table.specs.Counted.{size_so_far}
use Rattle.region_table.specs.Ends.{ChordNo, IsKept}
use Rattle.region_table.specs.Listed.{IsListed}
use Rattle.region_table.specs.Table.{IsTableOf, Table, name_at, region}
use Rattle.region_table.proofs.EdgeWalk.{mem_of_place}
use Rattle.region_table.proofs.FrameTables.{as_many_mates}
use Rattle.region_table.proofs.ListedSteps.{before_next, before_small, filter_alike, listed_read}
use Rattle.region_table.proofs.NamingLaws.{counted_by_name, test_of_names}

-- the segments of a piece are spans
pub segment_inside : (d : Drawing) (s i : ℕ) → i < length (segments_in d s) → get_or (segments_in d s) i 0 < span_count d
segment_inside d s i l = mem_below (span_count d) _ (mem_filter (same_piece (chords d) s) _ (spans d) (mem_of_place (segments_in d s) i 0 l)).0

module _ (t : Table) (p : ℕ) (inner : (region t p).base ≡ false) where
  -- the piece isn't base in a drawing that has the table
  pub inner_there : (d : Drawing) (s : ℕ) → IsTableOf d t → s < span_count d → name_at t s ≡ p → is_base d s ≡ false
  inner_there d s told l e = sym (told.base s l) ∙ (ap (λ q. (region t q).base) e ∙ inner)

  -- and has so many segments
  pub size_there : (d : Drawing) (s : ℕ) → IsTableOf d t → s < span_count d → name_at t s ≡ p → (region t p).size ≡ length (segments_in d s)
  size_there d s told l e = ap (λ q. (region t q).size) (sym e) ∙ told.size s l (inner_there d s told l e)

-- the segments of a piece by the names of spans
module _ (t : Table) (ends : List ChordNo) (kept : IsKept t ends) (p : ℕ) (lp : p < length t.regions) (inner : (region t p).base ≡ false) where
  -- so many spans have its name
  pub size_counted : (region t p).size ≡ size_so_far (name_at t) (length t.names) p
  size_counted =
      let d = kept.drawing in
      let told = kept.table in
      let (s, l, e) = told.used p lp in
      size_there t p inner d s told l e
      ∙ (sym (counted_by_name d (name_at t) told.naming s l)
      ∙ (ap (λ q. size_so_far (name_at t) (span_count d) q) e ∙ ap (λ n. size_so_far (name_at t) n p) (sym told.every_span)))

  -- those with its name are its segments
  pub segment_named : (i : ℕ) (d : Drawing) (s : ℕ) → IsTableOf d t → s < span_count d → name_at t s ≡ p
      → get_or (filter (λ r. eqb (name_at t r) p) (below (length t.names))) i 0 ≡ get_or (segments_in d s) i 0
  segment_named i d s told l e =
      ap (λ n. get_or (filter (λ r. eqb (name_at t r) p) (below n)) i 0) told.every_span
      ∙ ap (λ xs. get_or xs i 0)
      (filter_alike (λ r. eqb (name_at t r) p) (same_piece (chords d) s) (spans d) (λ r m.
      ap (eqb (name_at t r)) (sym e) ∙ test_of_names d (name_at t) told.naming s r l (mem_below (span_count d) r m)))

  -- which are spans
  pub named_inside : (i : ℕ) → i < (region t p).size → get_or (filter (λ r. eqb (name_at t r) p) (below (length t.names))) i 0 < length t.names
  named_inside i li =
      let d = kept.drawing in
      let told = kept.table in
      let (s, l, e) = told.used p lp in
      omega (arith, segment_named i d s told l e, segment_inside d s i (omega (arith, li, size_there t p inner d s told l e)), told.every_span)

  -- where the list of spans has a segment of the piece
  module _ (starts listed : List ℕ) (as_many : length starts ≡ length t.regions) (in_order : IsListed (name_at t) (length t.names) starts listed) where
    pub start_listed : p < length starts
    start_listed = omega (arith, lp, as_many)

    module _ (i : ℕ) (li : i < (region t p).size) where
      -- its place is one of the list
      pub place_listed : get_or starts p 0 + i < length t.names
      place_listed = omega (
        arith,
        in_order.starts_are p start_listed,
        size_counted,
        li,
        before_next (name_at t) (length t.names) p,
        before_small (name_at t) (length t.names) (suc p),
      )

      -- and what stands there is the segment
      pub listed_named : get_or listed (get_or starts p 0 + i) 0 ≡ get_or (filter (λ r. eqb (name_at t r) p) (below (length t.names))) i 0
      listed_named = listed_read (name_at t) (length t.names) starts listed in_order p i start_listed (omega (arith, li, size_counted))

-- a number of a table, as it is read
pub number_seen : (xs ys : List ℕ) (i x : ℕ) → xs ≡ ys → i < length ys → x ≡ get_or xs i x → x ≡ get_or ys i 0
number_seen xs ys i x same l is = is ∙ (ap (λ zs. get_or zs i x) same ∙ get_or_default ys i x 0 l)

-- as many numbers have other ends as have names
pub numbers_kept : (t : Table) (ends : List ChordNo) → IsKept t ends → length t.mates ≡ length t.names
numbers_kept t ends kept = omega (arith, as_many_mates kept.drawing kept.embedded t.mates kept.table.mates, kept.table.every_span)

-- What is kept of a drawing from which turns are taken out.
use Rattle.std.proofs.Common.{◌≡◌, ℕ, zero, suc, ◌≤◌, Bool, not, List, ◌++◌, drop, length, take, sym, ◌∙◌, ap, subst, arith}
use Rattle.std.proofs.lemmas.List.{length-take-le}
use Rattle.std.proofs.lemmas.List.FromFn.{length-range_with_len}
use Rattle.std.proofs.lemmas.List.Sums.{count_by-le-length}
use Rattle.obd_base.specs.Lists.{below}
use Rattle.page_surface.specs.Drawing.{Drawing, IsEmbedded, IsPlaced, exit, offset, points_on, spot}
use Rattle.page_surface.specs.Polygon.{sides}
use Rattle.drawing.specs.Pieces.{span_count}
use Rattle.drawing.specs.Strands.{IsStrandTable}
use Rattle.drawing.specs.ThinTables.{is_gone}
use Rattle.drawing.specs.Thinned.{TurnsGone, places_kept, thinned}
use Rattle.drawing.proofs.Ends.{placed}
use Rattle.drawing.proofs.Lists.{written_back}
use Rattle.drawing.proofs.Spots.{offset_suc}
use Rattle.drawing.proofs.Thinned.{points_thinned}

-- no more places are kept than there are
kept_within : (d : Drawing) (gone : ℕ → Bool) (k j : ℕ) → places_kept d gone k j ≤ j
kept_within d gone k j = omega (arith, count_by-le-length (λ i. not (gone (spot d (exit k i)))) (below j), length-range_with_len 0 j)

module _ (d : Drawing) (ok : IsEmbedded d) (gone : ℕ → Bool) (turns : ℕ) (taken : TurnsGone d gone turns) where
  -- a side begins no later than it did
  offset_within_old : (k : ℕ) → k ≤ sides d.polygon → offset (thinned d gone) k ≤ offset d k
  offset_within_old zero l = omega arith
  offset_within_old (suc k) l =
      omega (arith, offset_suc d k, offset_suc (thinned d gone) k, offset_within_old k (omega (arith, l)), points_thinned d ok gone taken.alike k l, kept_within d gone k (points_on d k))

  -- the place order is no longer than it was
  pub fewer_spans : (e : Drawing) → e ≡ thinned d gone → span_count e ≤ span_count d
  fewer_spans e is = omega (arith, ap span_count is, offset_within_old (sides d.polygon) (omega arith))

  -- the places are right
  pub left_placed : (e : Drawing) → e ≡ thinned d gone → IsPlaced e
  left_placed e is = subst IsPlaced (sym is) (placed (thinned d gone) taken.loosened.embedded)

  -- the table of strands has room
  pub cut_off : (e : Drawing) → e ≡ thinned d gone → (table shown : List ℕ) (n : ℕ) → IsStrandTable d table → n ≡ span_count e → shown ≡ take n table → length shown ≡ span_count e
  cut_off e is table shown n strands count cut =
      ap length cut ∙ (length-take-le n table (omega (arith, fewer_spans e is, count, strands.size)) ∙ count)

-- what is gone by the table that was written back
pub thin_is : (d e : Drawing) (shown new old seen : List Bool) (n : ℕ) → e ≡ thinned d (is_gone shown) → shown ≡ take n (new ++ drop (length new) old) → seen ≡ old → length seen ≡ n
    → length new ≡ length seen → e ≡ thinned d (is_gone new)
thin_is d e shown new old seen n is back was a b = is ∙ ap (λ (table : List Bool). thinned d (is_gone table)) (back ∙ written_back n old new (omega (arith, a, b)) (omega (arith, ap length was, a)))

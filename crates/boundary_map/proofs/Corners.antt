-- Corners of inner pieces, added by their names.
use Rattle.std.proofs.Common.{◌≡◌, ℕ, ◌+◌, ◌*◌, ◌≤◌, List, length, take, sym, ◌∙◌, ap}
use Rattle.std.specs.List.{sum_by}
use Rattle.boundary_map.proofs.Firsts.{first_named, first_not_base}
use Rattle.boundary_map.specs.Sets.{AreInner, firsts}
use Rattle.drawing.specs.Pieces.{corners, segments_in}
use Rattle.obd_base.proofs.lists.Sums.{sum_map, sum_same}
use Rattle.obd_base.specs.Lists.{Mem}
use Rattle.page_surface.specs.Drawing.{Drawing}
use Rattle.region_table.specs.Table.{IsTableOf, Table, corners_of, region}

-- what an inner piece adds
abbrev pub corners_told : Table → ℕ → ℕ
corners_told t p = corners_of (region t p)

-- the corners of the first pieces, so many of them
pub record AreAdded (t : Table) (set : List ℕ) (i sum : ℕ) : Type 0 where
  pub value : sum ≡ sum_by (corners_told t) (take i set)
  pub most : sum ≤ i * 4294967296

module _ (d : Drawing) (t : Table) (told : IsTableOf d t) (set : List ℕ) (inner : AreInner t set) where
  -- by names and by first spans
  corners_same : (p : ℕ) → Mem p set → corners_told t p ≡ corners d (region t p).first
  corners_same p m =
      let (l, e) = first_named d t told p (inner p m) in
      let s = told.size (region t p).first l (first_not_base d t told p (inner p m)) in
      let size : (region t p).size ≡ length (segments_in d (region t p).first) = ap (λ q. (region t q).size) (sym e) ∙ s in
      ap (λ k. k + k) size

  -- so all corners are added
  pub all_added : sum_by (corners_told t) set ≡ sum_by (corners d) (firsts t set)
  all_added = sum_same (corners_told t) (λ p. corners d (region t p).first) set corners_same ∙ sym (sum_map (corners d) (λ p. (region t p).first) set)

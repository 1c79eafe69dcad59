-- The numbers in a frame are small.
use Rattle.std.proofs.Common.{◌≡◌, ℕ, suc, ◌<◌, ◌^◌, List, [], map, length, get_or, refl, ap, arith, inl, inr}
use Rattle.std.proofs.lemmas.Bool.{cases_eq, cases_lt, ne_eqb}
use Rattle.std.proofs.lemmas.List.{get_or_past}
use Rattle.page_surface.specs.Drawing.{Drawing, IsEmbedded, chords, strand_exits}
use Rattle.page_surface.specs.Polygon.{arc_count, sides}
use Rattle.drawing.specs.Layout.{offsets_of}
use Rattle.drawing.specs.Pieces.{span_count, spans}
use Rattle.drawing.specs.Round.{next_span, other_end}
use Rattle.drawing.proofs.Spots.{offset_rises}
use Rattle.region_table.specs.Table.{begins_of}
use Rattle.region_table.proofs.ChordTables.{start_read, starts_size}
use Rattle.region_table.proofs.FrameTables.{as_many_mates, as_many_rows, begin_is, mate_is, row_long}
use Rattle.region_table.proofs.TablePlaces.{beside_in}
use Rattle.drawing.proofs.Orbits.{next_in}

module _ (d : Drawing) (ok : IsEmbedded d) (few : span_count d < 2 ^ 30) where
  -- the other end of a chord is a span
  pub mate_inside : (s : ℕ) → s < span_count d → other_end (chords d) s < span_count d
  mate_inside s l = elim (cases_eq (suc (other_end (chords d) s)) (span_count d)) [
    | inl e ↦ omega (arith, e)
    | inr ne ↦ (let n : next_span d s ≡ suc (other_end (chords d) s) = rw (ne_eqb (suc (other_end (chords d) s)) (span_count d) ne) refl in omega (arith, next_in d ok s l, n))
  ]

  -- sides begin at small numbers,
  pub starts_small : (starts : List ℕ) → starts ≡ offsets_of d → (k : ℕ) → get_or starts k 0 < 2 ^ 30
  starts_small starts is k = elim (cases_lt k (sides d.polygon)) [
    | inl l ↦ omega (arith, start_read d starts is k (omega (arith, l)), offset_rises d k (sides d.polygon) l, few)
    | inr h ↦ elim (cases_eq k (sides d.polygon)) [
      | inl e ↦ (let s = start_read d starts is (sides d.polygon) (omega arith) in omega (arith, ap (λ n. get_or starts n 0) e, s, few))
      | inr ne ↦ (let z = get_or_past starts k 0 (omega (arith, starts_size d starts is, h, ne)) in omega (arith, z))
    ]
  ]

  -- the other ends are small,
  pub mates_small : (mates : List ℕ) → mates ≡ map (other_end (chords d)) (spans d) → (p : ℕ) → get_or mates p 0 < 2 ^ 30
  mates_small mates is p = elim (cases_lt p (span_count d)) [
    | inl l ↦ omega (arith, mate_is d ok mates is p l, mate_inside p l, few)
    | inr h ↦ (let z = get_or_past mates p 0 (omega (arith, as_many_mates d ok mates is, h)) in omega (arith, z))
  ]

  -- and so is where chords begin
  pub begins_small : (begins : List (List ℕ)) → begins ≡ begins_of d → (i p : ℕ) → get_or (get_or begins i []) p 0 < 2 ^ 30
  begins_small begins is i p = elim (cases_lt i (arc_count d.polygon)) [
    | inl li ↦ elim (cases_lt (length (strand_exits d i)) p) [
      | inr h ↦ omega (arith, begin_is d begins is i li p h, (beside_in d ok i p li h).0, few)
      | inl h ↦ (let z = get_or_past (get_or begins i []) p 0 (omega (arith, row_long d begins is i li, h)) in omega (arith, z))
    ]
    | inr h ↦ (let z : get_or begins i [] ≡ [] = get_or_past begins i [] (omega (arith, as_many_rows d begins is, h)) in omega (arith, ap (λ xs. get_or xs p 0) z))
  ]

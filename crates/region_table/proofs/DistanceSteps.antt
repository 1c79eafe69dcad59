-- What one step of the sweeps of distances writes, and the door that a search round a piece finds.
use Rattle.std.proofs.Common.{◌≡◌, ℕ, suc, ◌+◌, ◌<◌, ◌≤◌, true, List, min, get_or, set, length, refl, ◌∙◌, ap, subst, sym, arith, inl, inr}
use Rattle.std.proofs.lemmas.Bool.{cases_eq}
use Rattle.std.proofs.lemmas.List.{get_or-set_other, get_or-set_same}
use Rattle.obd_base.specs.Lists.{Mem}
use Rattle.obd_base.proofs.lists.Below.{below_mem}
use Rattle.obd_base.proofs.lists.Members.{filter_mem}
use Rattle.page_surface.specs.Drawing.{Drawing, IsEmbedded, chords}
use Rattle.drawing.specs.Pieces.{distance, same_piece, segments_in, span_count, spans}
use Rattle.region_table.proofs.DistanceFall.{IsLowered}
use Rattle.region_table.proofs.Doors.{door}
use Rattle.region_table.proofs.EdgeWalk.{place_of_mem}
use Rattle.region_table.proofs.Labels.{spans_at}

-- an entry written over, whose label is the least of its own and one more than that of another entry
pub lowered_by_set : {X : Type 0} (label : X → ℕ) (xs : List X) (z : X) (p q : ℕ) (y : X) → p < length xs → label y ≡ min (label (get_or xs p z)) (suc (label (get_or xs q z)))
    → IsLowered (λ r. label (get_or xs r z)) (λ r. label (get_or (set xs p y) r z)) p q
lowered_by_set label xs z p q y l e = record {
  here = ap label (get_or-set_same xs p y z l) ∙ e;
  others = λ r n. ap label (get_or-set_other xs p r y z n);
}

-- the same of a list of labels, as code reads and writes it
pub lowered_entry : (xs : List ℕ) (p q v : ℕ) → p < length xs → v ≡ get_or xs q 0 + 1 → v < get_or xs p 0 → IsLowered (λ r. get_or xs r 0) (λ r. get_or (set xs p v) r 0) p q
lowered_entry xs p q v l e less = lowered_by_set (λ n. n) xs 0 p q v l (omega arith)

-- where it would not be lowered nothing is written
pub not_lowered : (label : ℕ → ℕ) (p q : ℕ) → label p ≤ label q + 1 → IsLowered label label p q
not_lowered label p q l = record { here = omega arith; others = λ r n. refl }

-- labels within a bound stay within it
pub still_small : (old new : ℕ → ℕ) (at by n : ℕ) → IsLowered old new at by → ((p : ℕ) → old p ≤ n) → (p : ℕ) → new p ≤ n
still_small old new at by n w small p = elim (cases_eq p at) [
  | inl e ↦ (let h : new p ≡ min (old p) (suc (old by)) = subst (λ q. new q ≡ min (old q) (suc (old by))) (sym e) w.here in omega (arith, h, small p))
  | inr ne ↦ omega (arith, w.others p ne, small p)
]

-- a span is among those of its piece
pub segment_mem : (d : Drawing) (s r : ℕ) → r < span_count d → same_piece (chords d) s r ≡ true → Mem r (segments_in d s)
segment_mem d s r l h = filter_mem (same_piece (chords d) s) r (spans d) (below_mem (span_count d) r l) h

-- among the segments of a piece at a distance above 0 there is one at whose end a chord has a piece one nearer behind it
pub door_in_list : (d : Drawing) → IsEmbedded d → (s e : ℕ) → s < span_count d → distance d s ≡ suc e
    → (i : ℕ) × (i < length (segments_in d s)) × (distance d (suc (get_or (segments_in d s) i 0)) ≡ e)
door_in_list d ok s e l q =
    let way = door d ok ok.polygon.not_empty s e l q in
    let inside = (spans_at d ok way.chord way.span way.far_end way.chord_of way.ends).0 in
    let (i, li, at) = place_of_mem way.span (segments_in d s) 0 (segment_mem d s way.span inside way.same) in
    (i, li, ap (λ x. distance d (suc x)) at ∙ way.nearer)

-- The table of strands of a drawing into which a finger is pushed: each old point's strand moves on with it, and the finger's strand stands at its four points.
use Rattle.std.proofs.Common.{◌≡◌, ℕ, ◌+◌, ◌-◌, ◌<◌, ◌≤◌, Bool, true, false, eqb, ◌||◌, List, ◌∷◌, ◌++◌, map, get_or, take, drop, refl, sym, ◌∙◌, ap, subst, arith, inl, inr}
use Rattle.std.proofs.lemmas.Bool.{cases_eq, eq-eqb, eqb-true, or_cases}
use Rattle.std.proofs.lemmas.List.{take-append-drop}
use Rattle.obd_base.specs.Lists.{Mem}
use Rattle.obd_base.specs.declared.points.Exit.{Exit}
use Rattle.obd_base.proofs.lists.Members.{mem_append, mem_left, mem_map, mem_right}
use Rattle.page_surface.specs.Drawing.{Drawing, IsEmbedded, entry, offset, points_on, spot, strand_exits}
use Rattle.page_surface.specs.Polygon.{arc_count, partner, sides}
use Rattle.drawing.specs.declared.finger.Finger.{Finger}
use Rattle.drawing.specs.Fingers.{InRange, carried, entered, entered_beyond, with_letters}
use Rattle.drawing.specs.PushTables.{IsPutIn, moved_on}
use Rattle.drawing.specs.Strands.{IsStrandTable, meets}
use Rattle.drawing.proofs.Ends.{placed}
use Rattle.drawing.proofs.Placed.{inside, place_in-placed, same_count-placed, side_in-placed}
use Rattle.drawing.proofs.PushTables.{spans_pushed}
use Rattle.drawing.proofs.StrandTables.{any_found, any_of, of_strand, some_strand, strand_there}
use Rattle.drawing.proofs.fingers.NewPlaces.{strand_other, strand_own, way_back, way_out}
use Rattle.drawing.proofs.fingers.NewSpots.{back_entry, back_spot, entry_kept, out_entry, out_spot, spot_kept}

-- a test passes at one or the other
either_left : (a b : Bool) → a ≡ true → (a || b) ≡ true
either_left a b h = rw h refl

either_right : (a b : Bool) → b ≡ true → (a || b) ≡ true
either_right true b h = refl
either_right false b h = h

module _ (d : Drawing) (ok : IsEmbedded d) (f : Finger) (o : ℕ) (small : o ≤ 1) (r : InRange d f) (table now : List ℕ) (told : IsStrandTable d table)
    (put : IsPutIn f.strand (entered d f) (entered_beyond d f) table now) where
  -- the table is right at an exit and at its entry
  abbrev IsRight : ℕ → Exit → Type 0
  IsRight i e = (get_or now (spot (with_letters d f o) e) 0 ≡ i) × (get_or now (spot (with_letters d f o) (entry (with_letters d f o) e)) 0 ≡ i)

  -- at an old point's new number stands its strand
  moved_right : (i k j : ℕ) → i < arc_count d.polygon → k < sides d.polygon → j < points_on d k → meets d (strand_exits d i) (offset d k + j) ≡ true
      → get_or now (moved_on (entered d f) (entered_beyond d f) (offset d k + j)) 0 ≡ i
  moved_right i k j li lk lj h =
      put.kept (offset d k + j) (omega (arith, told.size, inside d (placed d ok) k j lk (omega (arith, lj))))
      ∙ (told.each k j lk lj ∙ strand_there d (placed d ok) i k j li lk lj h)

  -- so the table is right at an old exit,
  old_right : (i : ℕ) → i < arc_count d.polygon → (e : Exit) → Mem e (strand_exits d i) → IsRight i (carried d f e)
  old_right i li e m =
      let p = placed d ok in
      let all = of_strand d p i e m in
      let lk = side_in-placed d p e all in
      let lj = place_in-placed d p e all in
      let same = same_count-placed d p e.side in
      let here = any_of (λ x. eqb (spot d x) (spot d e) || eqb (spot d (entry d x)) (spot d e)) e (strand_exits d i) m (either_left _ _ (eq-eqb (spot d e) (spot d e) refl)) in
      let back = any_of (λ x. eqb (spot d x) (spot d (entry d e)) || eqb (spot d (entry d x)) (spot d (entry d e))) e (strand_exits d i) m
      (either_right _ _ (eq-eqb (spot d (entry d e)) (spot d (entry d e)) refl)) in (
        ap (λ x. get_or now x 0) (spot_kept d ok f o small r e lj) ∙ moved_right i e.side e.place li lk lj here,
        ap (λ x. get_or now x 0) (entry_kept d ok f o small r e lj)
            ∙ moved_right i (partner d.polygon e.side) (points_on d e.side - 1 - e.place) li (ok.polygon.pairs.in_range e.side lk) (omega (arith, lj, same)) back,
      )

  -- at the way out and at the way back
  out_right : IsRight f.strand (way_out d ok f o small r)
  out_right = (
    ap (λ x. get_or now x 0) (out_spot d ok f o small r) ∙ put.one o small,
    ap (λ x. get_or now x 0) (out_entry d ok f o small r) ∙ put.other (1 - o) (omega arith),
  )

  back_right : IsRight f.strand (way_back d ok f o small r)
  back_right = (
    ap (λ x. get_or now x 0) (back_spot d ok f o small r) ∙ put.other o small,
    ap (λ x. get_or now x 0) (back_entry d ok f o small r) ∙ put.one (1 - o) (omega arith),
  )

  -- at each carried exit,
  carried_right : (i : ℕ) → i < arc_count d.polygon → (e : Exit) → Mem e (map (carried d f) (strand_exits d i)) → IsRight i e
  carried_right i li e m =
      let (x, k, q) = mem_map (carried d f) e (strand_exits d i) m in
      subst (IsRight i) (sym q) (old_right i li x k)

  -- and so at each exit of each strand
  exit_right : (i : ℕ) → i < arc_count d.polygon → (e : Exit) → Mem e (strand_exits (with_letters d f o) i) → IsRight i e
  exit_right i li e m = elim (cases_eq i f.strand) [
    | inr ne ↦ carried_right i li e (subst (Mem e) (strand_other d ok f o small r i li ne) m)
    | inl q ↦
        let xs = map (carried d f) (strand_exits d f.strand) in
        let here : Mem e (strand_exits (with_letters d f o) f.strand) = subst (λ j. Mem e (strand_exits (with_letters d f o) j)) q m in
        let parts : Mem e (take f.chord xs ++ (way_out d ok f o small r ∷ way_back d ok f o small r ∷ drop f.chord xs)) = subst (Mem e) (strand_own d ok f o small r) here in
        let old : Mem e xs → IsRight f.strand e = carried_right f.strand r.strand e in
        subst (λ j. IsRight j e) (sym q) (elim (mem_append e (take f.chord xs) (way_out d ok f o small r ∷ way_back d ok f o small r ∷ drop f.chord xs) parts) [
          | inl k ↦ old (subst (Mem e) (take-append-drop f.chord xs) (mem_left e (take f.chord xs) (drop f.chord xs) k))
          | inr k ↦ elim k [
            | inl z ↦ subst (IsRight f.strand) (sym z) out_right
            | inr k ↦ elim k [
              | inl z ↦ subst (IsRight f.strand) (sym z) back_right
              | inr k ↦ old (subst (Mem e) (take-append-drop f.chord xs) (mem_right e (take f.chord xs) (drop f.chord xs) k))
            ]
          ]
        ])
  ]

  -- the table is that of the drawing with the two letters
  pub strands_pushed : IsEmbedded (with_letters d f o) → IsStrandTable (with_letters d f o) now
  strands_pushed after = record {
    size = put.size ∙ (ap (λ n. n + 4) told.size ∙ sym (spans_pushed d ok f o small r));
    each = λ k j lk lj.
        let n = with_letters d f o in
        let x = offset n k + j in
        let (i, li, h) = some_strand n (placed n after) k j lk lj in
        let (e, m, t) = any_found (λ e. eqb (spot n e) x || eqb (spot n (entry n e)) x) (strand_exits n i) h in
        let right = exit_right i li e m in
        let here : get_or now x 0 ≡ i = elim (or_cases (eqb (spot n e) x) (eqb (spot n (entry n e)) x) t) [
          | inl q ↦ subst (λ y. get_or now y 0 ≡ i) (eqb-true (spot n e) x q) right.0
          | inr q ↦ subst (λ y. get_or now y 0 ≡ i) (eqb-true (spot n (entry n e)) x q) right.1
        ] in
        here ∙ sym (strand_there n (placed n after) i k j li lk lj h);
  }

-- A drawing without the points that are gone, as it is laid out from the tables.
use Rattle.std.proofs.Common.{◌≡◌, ℕ, suc, ◌+◌, ◌-◌, ◌<◌, ◌≤◌, ◌^◌, Bool, true, false, List, [], ◌∷◌, ◌++◌, drop, get_or, length, map, take, refl, sym, ◌∙◌, ap, ap₂, subst, arith, le_refl, inl, inr}
use Rattle.std.specs.Prelude.{Vec}
use Rattle.std.proofs.lemmas.Bool.{cases_Bool}
use Rattle.obd_base.specs.Lists.{Mem, below}
use Rattle.obd_base.specs.declared.points.Exit.{Exit}
use Rattle.obd_base.proofs.lists.Below.{mem_below}
use Rattle.obd_base.proofs.lists.Sums.{sum_same}
use Rattle.page_surface.specs.Drawing.{Drawing, IsEmbedded, all_exits, exit, offset, points_on, spot}
use Rattle.page_surface.specs.Polygon.{Polygon, sides}
use Rattle.drawing.specs.Layout.{IsLaidOut, IsWritten, drawn, offsets_of}
use Rattle.drawing.specs.Pieces.{span_count}
use Rattle.drawing.specs.Room.{rows}
use Rattle.drawing.specs.ThinTables.{AreNumbered, IsKnown, is_gone, moved_offsets, number_of, points_left, thinned_by}
use Rattle.drawing.specs.Thinned.{IsAlike, places_kept, thinned, thinned_exits}
use Rattle.drawing.proofs.Ends.{place_in, side_in}
use Rattle.drawing.proofs.LayoutTables.{offset_count, offset_read, offset_within, seen_laid}
use Rattle.drawing.proofs.Lists.{mem_flat, written_back}
use Rattle.drawing.proofs.Spots.{offset_rises, offset_suc}
use Rattle.drawing.proofs.ThinTables.{begins}
use Rattle.drawing.proofs.Thinned.{points_thinned}
use Rattle.obd_base.proofs.lists.Maps.{map_same}

module _ (p : Polygon) (strands : List (List Exit)) (d : Drawing) (seen : drawn p strands ≡ d) (offsets : List ℕ) (laid : IsLaidOut (drawn p strands) offsets) (ok : IsEmbedded d)
    (gone : List Bool) (places : List ℕ) (room : span_count d ≤ length gone) (places_room : span_count d ≤ length places) (numbered : AreNumbered d (is_gone gone) (sides d.polygon) places) where
  -- an exit has its number
  number_is : (e : Exit) → Mem e (all_exits d) → number_of offsets e ≡ spot d e
  number_is e m = ap (λ x. x + e.place) (offset_read (drawn p strands) d seen offsets laid e.side (omega (arith, side_in d ok e m)))

  -- the number of an exit is one of the place order
  number_in : (e : Exit) → Mem e (all_exits d) → number_of offsets e < span_count d
  number_in e m = omega (arith, number_is e m, place_in d ok e m, offset_rises d e.side (sides d.polygon) (side_in d ok e m))

  -- an exit of a strand is one of all
  of_row : (strand : List Exit) → Mem strand strands → (e : Exit) → Mem e strand → Mem e (all_exits d)
  of_row strand ms e me = mem_flat (λ s. s) d.strands strand e (subst (λ (x : Drawing). Mem strand x.strands) seen ms) me

  -- the tables know all exits
  pub rows_known : (shown : List (List Exit)) (starts : List ℕ) → shown ≡ strands → starts ≡ offsets → (strand : List Exit) → Mem strand shown → (e : Exit) → Mem e strand → IsKnown starts gone places e
  rows_known shown starts rows table strand ms e me =
      let m = of_row strand (subst (λ (xs : List (List Exit)). Mem strand xs) rows ms) e me in
      subst (λ (xs : List ℕ). IsKnown xs gone places e) (sym table) (record {
        side = omega (arith, offset_count (drawn p strands) d seen offsets laid, side_in d ok e m);
        gone_there = omega (arith, number_in e m, room);
        place_there = omega (arith, number_in e m, places_room);
      })

  -- the exits of a strand that stay are put where they are to be
  thinned_same : (es : List Exit) → ((e : Exit) → Mem e es → Mem e (all_exits d)) → thinned_by offsets gone places es ≡ thinned_exits d (is_gone gone) es
  thinned_same [] h = refl
  thinned_same (e ∷ es) h =
      let m = h e (inl refl) in
      let is = number_is e m in
      let place : get_or places (number_of offsets e) 0 ≡ places_kept d (is_gone gone) e.side e.place
      = ap (λ x. get_or places x 0) is ∙ numbered.each e.side e.place (side_in d ok e m) (omega (arith, place_in d ok e m)) in
      let rest = thinned_same es (λ x k. h x (inr k)) in
      elim (cases_Bool (is_gone gone (spot d e))) [
        | inl out ↦
            let out_here : is_gone gone (number_of offsets e) ≡ true = ap (is_gone gone) is ∙ out in
            let here : thinned_by offsets gone places (e ∷ es) ≡ thinned_by offsets gone places es = rw out_here refl in
            let there : thinned_exits d (is_gone gone) (e ∷ es) ≡ thinned_exits d (is_gone gone) es = rw out refl in
            here ∙ (rest ∙ sym there)
        | inr stay ↦
            let stay_here : is_gone gone (number_of offsets e) ≡ false = ap (is_gone gone) is ∙ stay in
            let here : thinned_by offsets gone places (e ∷ es) ≡ exit e.side (get_or places (number_of offsets e) 0) ∷ thinned_by offsets gone places es = rw stay_here refl in
            let there : thinned_exits d (is_gone gone) (e ∷ es) ≡ exit e.side (places_kept d (is_gone gone) e.side e.place) ∷ thinned_exits d (is_gone gone) es = rw stay refl in
            here ∙ (ap₂ (λ (j : ℕ) (xs : List Exit). exit e.side j ∷ xs) place rest ∙ sym there)
      ]

  -- so are those of all strands
  strands_thinned : map (thinned_by offsets gone places) strands ≡ map (thinned_exits d (is_gone gone)) d.strands
  strands_thinned =
      map_same (thinned_by offsets gone places) (thinned_exits d (is_gone gone)) strands (λ strand m. thinned_same strand (of_row strand m))
      ∙ ap (λ (x : Drawing). map (thinned_exits d (is_gone gone)) x.strands) seen

  -- a side ends before its gap
  side_ends : (k : ℕ) → k < sides d.polygon → get_or offsets (suc k) 0 ≡ offset d k + points_on d k + 2
  side_ends k l = omega (arith, offset_read (drawn p strands) d seen offsets laid (suc k) l, offset_suc d k)

  -- a table where sides begin has them
  begun : (starts : List ℕ) → starts ≡ offsets → (k : ℕ) → suc k < length starts → (k < sides d.polygon) × (get_or starts (suc k) 0 ≡ offset d k + points_on d k + 2)
  begun starts table k l =
      let size = ap length table in
      let lk : k < sides d.polygon = omega (arith, l, size, offset_count (drawn p strands) d seen offsets laid) in
      (lk, ap (λ (xs : List ℕ). get_or xs (suc k) 0) table ∙ side_ends k lk)

  -- each but the first side begins behind two numbers
  pub two_before : (starts : List ℕ) → starts ≡ offsets → (k : ℕ) → suc k < length starts → 2 ≤ get_or starts (suc k) 0
  two_before starts table k l = omega (arith, (begun starts table k l).1)

  -- the end of the side before is in the table of places
  pub end_there : (starts : List ℕ) → starts ≡ offsets → (k : ℕ) → suc k < length starts → get_or starts (suc k) 0 - 2 < length places
  end_there starts table k l =
      let b = begun starts table k l in
      omega (arith, b.1, offset_rises d k (sides d.polygon) b.0, places_room)

  module _ (alike : IsAlike d (is_gone gone)) where
    -- the table has the points of each side that stay
    left_is : (k : ℕ) → k < sides d.polygon → points_left places offsets k ≡ points_on (thinned d (is_gone gone)) k
    left_is k l =
        let e : get_or offsets (suc k) 0 - 2 ≡ offset d k + points_on d k = omega (arith, side_ends k l) in
        ap (λ x. get_or places x 0) e ∙ (numbered.each k (points_on d k) l (le_refl _) ∙ sym (points_thinned d ok (is_gone gone) alike k l))

    -- so a side begins where it is to begin
    begins_is : (k : ℕ) → k ≤ sides d.polygon → begins places offsets k ≡ offset (thinned d (is_gone gone)) k
    begins_is k l =
        sum_same (λ i. points_left places offsets i + 2) (λ i. points_on (thinned d (is_gone gone)) i + 2) (below k)
        (λ i m. ap (λ n. n + 2) (left_is i (omega (arith, mem_below k i m, l))))

    -- and all sides do
    offsets_thinned : moved_offsets places offsets ≡ offsets_of (thinned d (is_gone gone))
    offsets_thinned =
        ap (λ n. map (begins places offsets) (below n)) (offset_count (drawn p strands) d seen offsets laid)
        ∙ map_same (begins places offsets) (offset (thinned d (is_gone gone))) (below (suc (sides d.polygon)))
        (λ k m. begins_is k (let l = mem_below (suc (sides d.polygon)) k m in omega (arith, l)))

    module _ (left : IsEmbedded (thinned d (is_gone gone))) (few : length (all_exits (thinned d (is_gone gone))) < 2 ^ 28) where
      -- what is left is written
      left_written : IsWritten (thinned d (is_gone gone))
      left_written = record {
        polygon = left.polygon;
        few_sides = (seen_laid (drawn p strands) d seen offsets laid).written.few_sides;
        strand_count = left.strand_count;
        on_sides = left.on_sides;
        few = few;
      }

      -- where sides begin fits
      pub begins_fit : (starts : List ℕ) → starts ≡ offsets → (k : ℕ) → suc k < length starts → begins places starts (suc k) < 2 ^ 30
      begins_fit starts table k l =
          let lk = (begun starts table k l).0 in
          let e = ap (λ (xs : List ℕ). begins places xs (suc k)) table in
          omega (arith, e, begins_is (suc k) lk, offset_within (thinned d (is_gone gone)) (suc k) left_written lk)

      -- the strands that are written are those of the drawing that is left
      pub written_thinned : (new shown : List (List Exit)) (starts : List ℕ) → shown ≡ strands → starts ≡ offsets → new ≡ map (thinned_by starts gone places) shown
          → drawn p new ≡ thinned d (is_gone gone)
      written_thinned new shown starts rows table made =
          ap₂ drawn (ap (λ (x : Drawing). x.polygon) seen)
          (made ∙ (ap₂ (λ (xs : List ℕ) (ss : List (List Exit)). map (thinned_by xs gone places) ss) table rows ∙ strands_thinned))

      -- with the table of where its sides begin
      pub laid_thinned : (new shown : List (List Exit)) (starts then now : List ℕ) → shown ≡ strands → starts ≡ offsets → new ≡ map (thinned_by starts gone places) shown
          → now ≡ moved_offsets places then → then ≡ offsets → IsLaidOut (drawn p new) now
      laid_thinned new shown starts then now rows table made moved behind =
          subst (λ (x : Drawing). IsLaidOut x now) (sym (written_thinned new shown starts rows table made)) (record {
            written = left_written;
            offsets_are = moved ∙ (ap (moved_offsets places) behind ∙ offsets_thinned);
          })

      module _ {A : Type 0} (kept new shown : List (Vec Exit A)) (are : rows kept ≡ strands) (starts : List ℕ) (rows_size : ℕ) (same : shown ≡ kept) (table : starts ≡ offsets)
          (made : rows new ≡ map (thinned_by starts gone places) (rows shown)) (a : length shown ≡ rows_size) (b : length new ≡ length shown) where
        back : take rows_size (new ++ drop (length new) kept) ≡ new
        back = written_back rows_size kept new (omega (arith, a, b)) (omega (arith, a, ap length same))

        -- the same of what the code writes back
        pub laid_written : (then now : List ℕ) (starts_size : ℕ) → now ≡ moved_offsets places then → then ≡ offsets → length then ≡ starts_size → length now ≡ length then
            → IsLaidOut (drawn p (rows (take rows_size (new ++ drop (length new) kept)))) (take starts_size (now ++ drop (length now) offsets))
        laid_written then now starts_size moved behind e f =
            let starts_back = written_back starts_size offsets now (omega (arith, e, f)) (omega (arith, e, ap length behind)) in
            rw (back, starts_back) (laid_thinned (rows new) (rows shown) starts then now (ap rows same ∙ are) table made moved behind)

        -- and of what contracts see of it
        pub view_written : drawn p (rows (take rows_size (new ++ drop (length new) kept))) ≡ thinned d (is_gone gone)
        view_written = rw back (written_thinned (rows new) (rows shown) starts (ap rows same ∙ are) table made)

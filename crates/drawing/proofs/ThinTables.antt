-- The exits that stay, moved to the front of a strand, and where the sides begin then.
use Rattle.std.proofs.Common.{◌≡◌, ℕ, suc, ◌+◌, ◌-◌, ◌<◌, ◌≤◌, ◌^◌, Bool, true, false, not, List, [], ◌∷◌, ◌++◌, drop, filter, get_or, length, map, set, take, refl, sym, ◌∙◌, ap, subst, append_assoc, arith, inl, inr}
use Rattle.std.proofs.lemmas.Bool.{cases_eq}
use Rattle.std.proofs.lemmas.List.{append-nil, drop-set-lt, drop_more, get_or-drop, get_or-set_other, get_or-set_same, get_or_at, length-drop, length-map, length-take-le, map-append, set_at, take_more, take_more_set}
use Rattle.std.proofs.lemmas.List.Elements.{filter-append}
use Rattle.std.proofs.lemmas.Grind.{drop_more_same}
use Rattle.std.specs.List.{sum_by}
use Rattle.obd_base.specs.Lists.{Mem, below}
use Rattle.obd_base.proofs.lists.Below.{mem_below}
use Rattle.obd_base.proofs.lists.Sums.{by_entries, sum_below_push}
use Rattle.obd_base.specs.declared.points.Exit.{Exit}
use Rattle.page_surface.specs.Drawing.{exit}
use Rattle.drawing.specs.ThinTables.{IsKnown, is_gone, moved_offsets, number_of, points_left, thinned_by}
use Rattle.drawing.proofs.Lists.{mem_at}
use Rattle.obd_base.proofs.lists.Maps.{map_same}

-- an item that isn't moved yet is there,
pub still_there : (start now : List Exit) (at : ℕ) → drop at now ≡ drop at start → at < length start → at < length now
still_there start now at left l =
    let sizes : length now - at ≡ length start - at = sym (length-drop at now) ∙ (ap length left ∙ length-drop at start) in
    omega (arith, sizes, l)

-- and the one that was
pub item_before : (start now : List Exit) (at : ℕ) (e : Exit) → drop at now ≡ drop at start → at < length start → e ≡ get_or now at e → e ≡ get_or start at e
item_before start now at e left l is =
    let z : at + 0 ≡ at = omega arith in
    let same : get_or now at e ≡ get_or start at e
    = ap (λ n. get_or now n e) (sym z) ∙ (sym (get_or-drop at now 0 e) ∙ (ap (λ xs. get_or xs 0 e) left ∙ (get_or-drop at start 0 e ∙ ap (λ n. get_or start n e) z))) in
    is ∙ same

-- the tables know it
pub item_known : (offsets : List ℕ) (gone : List Bool) (places : List ℕ) (start : List Exit) (at : ℕ) (e : Exit) → ((x : Exit) → Mem x start → IsKnown offsets gone places x)
    → at < length start → e ≡ get_or start at e → IsKnown offsets gone places e
item_known offsets gone places start at e known l is = known e (mem_at start at e l is)

module _ (offsets : List ℕ) (gone : List Bool) (places : List ℕ) where
  -- where an exit is put
  abbrev moved : Exit → Exit
  moved e = exit e.side (get_or places (number_of offsets e) 0)

  -- whether it stays
  abbrev stays : Exit → Bool
  stays e = not (is_gone gone (number_of offsets e))

  -- one exit more of those that are read
  thinned_more : (start : List Exit) (at : ℕ) (e : Exit) → at < length start → e ≡ get_or start at e
      → thinned_by offsets gone places (take (at + 1) start) ≡ thinned_by offsets gone places (take at start) ++ map moved (filter stays (e ∷ []))
  thinned_more start at e l is =
      ap (thinned_by offsets gone places) (take_more start at e l ∙ ap (λ (x : Exit). take at start ++ x ∷ []) (sym is))
      ∙ (ap (map moved) (filter-append stays (take at start) (e ∷ [])) ∙ map-append moved (filter stays (take at start)) (filter stays (e ∷ [])))

  -- an exit that stays is put behind those that stay
  pub thinned_kept : (start now : List Exit) (kept at : ℕ) (e : Exit) → kept ≤ at → at < length start → e ≡ get_or now at e
      → take kept now ≡ thinned_by offsets gone places (take at start) → drop at now ≡ drop at start → is_gone gone (number_of offsets e) ≡ false
      → (take (kept + 1) (set now kept (moved e)) ≡ thinned_by offsets gone places (take (at + 1) start)) × (drop (at + 1) (set now kept (moved e)) ≡ drop (at + 1) start)
  thinned_kept start now kept at e within l is so_far left stay =
      let before = item_before start now at e left l is in
      let one : map moved (filter stays (e ∷ [])) ≡ moved e ∷ [] = rw stay refl in (
        take_more_set now kept (moved e) (omega (arith, within, still_there start now at left l))
            ∙ (ap (λ xs. xs ++ moved e ∷ []) so_far ∙ (ap (λ xs. thinned_by offsets gone places (take at start) ++ xs) (sym one) ∙ sym (thinned_more start at e l before))),
        drop-set-lt (at + 1) now kept (moved e) (omega (arith, within)) ∙ drop_more_same now start at left,
      )

  -- one that is gone is passed
  pub thinned_passed : (start now : List Exit) (kept at : ℕ) (e : Exit) → at < length start → e ≡ get_or now at e
      → take kept now ≡ thinned_by offsets gone places (take at start) → drop at now ≡ drop at start → is_gone gone (number_of offsets e) ≡ true
      → (take kept now ≡ thinned_by offsets gone places (take (at + 1) start)) × (drop (at + 1) now ≡ drop (at + 1) start)
  thinned_passed start now kept at e l is so_far left out =
      let before = item_before start now at e left l is in
      let one : map moved (filter stays (e ∷ [])) ≡ [] = rw out refl in (
        so_far ∙ (sym (append-nil (thinned_by offsets gone places (take at start)))
            ∙ (ap (λ xs. thinned_by offsets gone places (take at start) ++ xs) (sym one) ∙ sym (thinned_more start at e l before))),
        drop_more_same now start at left,
      )

-- a row that isn't read yet is the one that was
pub row_unread : {X : Type 0} (f : X → X) (start now : List X) (at : ℕ) (x : X) → now ≡ map f (take at start) ++ drop at start → at < length start → get_or now at x ≡ get_or start at x
row_unread f start now at x so_far l =
    let size : length (map f (take at start)) ≡ at = length-map (take at start) f ∙ length-take-le at start (omega arith) in
    ap (λ rows. get_or rows at x) (so_far ∙ ap (λ rows. map f (take at start) ++ rows) (drop_more start at x l))
    ∙ get_or_at (map f (take at start)) (get_or start at x) (drop (at + 1) start) x at size

-- and is written back
pub row_written : {X : Type 0} (f : X → X) (start now : List X) (at : ℕ) (x y : X) → now ≡ map f (take at start) ++ drop at start → at < length start → y ≡ f (get_or now at x)
    → set now at y ≡ map f (take (at + 1) start) ++ drop (at + 1) start
row_written f start now at x y so_far l is =
    let size : length (map f (take at start)) ≡ at = length-map (take at start) f ∙ length-take-le at start (omega arith) in
    let read = row_unread f start now at x so_far l in
    let z = get_or start at x in
    let front : map f (take (at + 1) start) ≡ map f (take at start) ++ f z ∷ [] = ap (map f) (take_more start at x l) ∙ map-append f (take at start) (z ∷ []) in
    ap (λ rows. set rows at y) (so_far ∙ ap (λ rows. map f (take at start) ++ rows) (drop_more start at x l))
    ∙ (set_at (map f (take at start)) z (drop (at + 1) start) y at size
    ∙ (ap (λ w. map f (take at start) ++ w ∷ drop (at + 1) start) (is ∙ ap f read)
    ∙ (sym (append_assoc (map f (take at start)) (f z ∷ []) (drop (at + 1) start)) ∙ ap (λ rows. rows ++ drop (at + 1) start) (sym front))))

-- a row of a list, by its number
pub row_mem : {X : Type 0} (start now : List X) (at : ℕ) (x : X) → at < length start → get_or now at x ≡ get_or start at x → x ≡ get_or now at x → Mem x start
row_mem start now at x l same is = mem_at start at x l (is ∙ same)

module _ (places old : List ℕ) where
  -- where a side begins then
  abbrev pub begins : ℕ → ℕ
  begins k = sum_by (λ i. points_left places old i + 2) (below k)

  -- the next side begins behind the points of the one before that stay, its end and its gap
  pub side_moved : (now : List ℕ) (side : ℕ) → 1 ≤ side → ((k : ℕ) → k < side → get_or now k 0 ≡ begins k) → ((k : ℕ) → side ≤ k → get_or now k 0 ≡ get_or old k 0)
      → get_or now (side - 1) 0 + get_or places (get_or now side 0 - 2) 0 + 2 ≡ begins side
  side_moved now side one so_far left =
      let s : suc (side - 1) ≡ side = omega (arith, one) in
      let before = so_far (side - 1) (omega (arith, one)) in
      let here : get_or places (get_or now side 0 - 2) 0 ≡ points_left places old (side - 1) = ap (λ x. get_or places (x - 2) 0) (left side (omega arith) ∙ ap (λ k. get_or old k 0) (sym s)) in
      let push = sum_below_push (λ i. points_left places old i + 2) (side - 1) in
      let all : begins side ≡ begins (side - 1) + (points_left places old (side - 1) + 2) = ap begins (sym s) ∙ push in
      omega (arith, before, here, all)

  -- it is written
  pub side_written : (now : List ℕ) (side x : ℕ) → side < length now → x ≡ begins side → ((k : ℕ) → k < side → get_or now k 0 ≡ begins k)
      → (k : ℕ) → k < side + 1 → get_or (set now side x) k 0 ≡ begins k
  side_written now side x there is so_far k l = elim (cases_eq k side) [
    | inl e ↦ subst (λ n. get_or (set now side x) n 0 ≡ begins n) (sym e) (get_or-set_same now side x 0 there ∙ is)
    | inr ne ↦ get_or-set_other now side k x 0 ne ∙ so_far k (omega (arith, l, ne))
  ]

  -- and the sides behind it begin where they did
  pub sides_left : (now : List ℕ) (side x : ℕ) → ((k : ℕ) → side ≤ k → get_or now k 0 ≡ get_or old k 0) → (k : ℕ) → side + 1 ≤ k → get_or (set now side x) k 0 ≡ get_or old k 0
  sides_left now side x left k l = get_or-set_other now side k x 0 (λ e. absurd (omega (arith, l, e))) ∙ left k (omega (arith, l))

  -- all sides
  pub sides_moved : (now : List ℕ) (side : ℕ) → length now ≡ length old → length old ≤ side → ((k : ℕ) → k < side → get_or now k 0 ≡ begins k) → now ≡ moved_offsets places old
  sides_moved now side size all so_far =
      by_entries 0 now (length old) size ∙ map_same (λ k. get_or now k 0) begins (below (length old)) (λ k m. so_far k (omega (arith, mem_below (length old) k m, all)))

  -- it fits where all do
  pub side_fits : (now : List ℕ) (side : ℕ) → 1 ≤ side → side < length old → ((k : ℕ) → k < side → get_or now k 0 ≡ begins k) → ((k : ℕ) → side ≤ k → get_or now k 0 ≡ get_or old k 0)
      → ((k : ℕ) → suc k < length old → begins (suc k) < 2 ^ 30) → get_or now (side - 1) 0 + get_or places (get_or now side 0 - 2) 0 + 2 < 2 ^ 30
  side_fits now side one l so_far left few =
      let s : suc (side - 1) ≡ side = omega (arith, one) in
      omega (arith, side_moved now side one so_far left, ap begins s, few (side - 1) (omega (arith, l, s)))

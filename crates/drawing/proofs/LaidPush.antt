-- A drawing with a finger, as it is laid out in place.
use Rattle.std.proofs.Common.{◌≡◌, ℕ, ◌+◌, ◌<◌, ◌≤◌, ◌^◌, List, [], ◌++◌, drop, get_or, length, take, sym, ◌∙◌, ap, ap₂, refl, subst, arith}
use Rattle.std.specs.Prelude.{Vec, vec_items}
use Rattle.std.proofs.lemmas.List.{length-map}
use Rattle.obd_base.specs.Lists.{Mem}
use Rattle.obd_base.specs.declared.points.Exit.{Exit}
use Rattle.page_surface.specs.Drawing.{Drawing, IsEmbedded, all_exits, exit}
use Rattle.page_surface.specs.Polygon.{Polygon, partner}
use Rattle.drawing.specs.declared.finger.Finger.{Finger}
use Rattle.drawing.specs.Fingers.{InRange, glued_to, with_letters}
use Rattle.drawing.specs.Layout.{IsLaidOut, drawn}
use Rattle.drawing.specs.PushTables.{pushed_rows, raised_side}
use Rattle.drawing.specs.Room.{HaveRoom, rows}
use Rattle.drawing.proofs.Lists.{written_back}
use Rattle.drawing.proofs.PushTables.{far_small, laid_pushed, near_small, place_small, rows_pushed, side_small, start_small}

module _ {A : Type 0} (p : Polygon) (vs : List (Vec Exit A)) (d : Drawing) (seen : drawn p (rows vs) ≡ d) (offsets : List ℕ) (laid : IsLaidOut (drawn p (rows vs)) offsets) (ok : IsEmbedded d)
    (f : Finger) (r : InRange d f) (o : ℕ) (small : o ≤ 1) where
  -- what is written
  abbrev here : Drawing
  here = drawn p (rows vs)

  ok_here : IsEmbedded here
  ok_here = subst IsEmbedded (sym seen) ok

  range_here : InRange here f
  range_here = subst (λ x. InRange x f) (sym seen) r

  -- the finger's strand is there
  pub strand_there : (shown : List (Vec Exit A)) → shown ≡ vs → f.strand < length shown
  strand_there shown same = omega (arith, range_here.strand, ok_here.strand_count, length-map vs vec_items, ap length same)

  -- with its chord
  pub chord_there : (shown : List (Vec Exit A)) → shown ≡ vs → f.chord ≤ length (get_or (rows shown) f.strand [])
  chord_there shown same = let e = ap (λ ws. length (get_or (rows ws) f.strand [])) same in omega (arith, range_here.chord, e)

  -- all places can be told in 30 bits
  pub places_there : (shown : List (Vec Exit A)) → shown ≡ vs → (strand : List Exit) → Mem strand (rows shown) → (e : Exit) → Mem e strand → e.place < 2 ^ 30
  places_there shown same strand ms = place_small here ok_here f o small range_here offsets laid strand (subst (λ ws. Mem strand (rows ws)) same ms)

  -- and all sides in 4
  pub sides_there : (shown : List (Vec Exit A)) → shown ≡ vs → (strand : List Exit) → Mem strand (rows shown) → (e : Exit) → Mem e strand → e.side < 16
  sides_there shown same strand ms = side_small here ok_here f o small range_here offsets laid strand (subst (λ ws. Mem strand (rows ws)) same ms)

  pub near_there : (near : Exit) → near ≡ exit f.side f.segment → near.place < 2 ^ 30
  near_there near is = omega (arith, near_small here ok_here f o small range_here offsets laid, ap (λ e. e.place) is)

  pub far_there : (far : Exit) → far ≡ glued_to d f → far.place < 2 ^ 30
  far_there far is =
      let e = ap (λ (x : Drawing). (glued_to x f).place) seen in
      omega (arith, far_small here ok_here f o small range_here offsets laid, ap (λ (x : Exit). x.place) is, e)

  -- so can the starts of sides
  pub starts_there : (starts : List ℕ) → starts ≡ offsets → (k : ℕ) → k < length starts → get_or starts k 0 < 2 ^ 30
  starts_there starts same = subst (λ (xs : List ℕ). (k : ℕ) → k < length xs → get_or xs k 0 < 2 ^ 30) (sym same) (start_small here ok_here f o small range_here offsets laid)

  module _ (new shown : List (Vec Exit A)) (rows_size : ℕ) (near far : Exit) (is_near : near ≡ exit f.side f.segment) (is_far : far ≡ glued_to d f) (same : shown ≡ vs)
      (made : rows new ≡ pushed_rows near far f o (rows shown)) (a : length shown ≡ rows_size) (b : length new ≡ length shown) where
    far_here : far ≡ glued_to here f
    far_here = is_far ∙ ap (λ (x : Drawing). glued_to x f) (sym seen)

    back : take rows_size (new ++ drop (length new) vs) ≡ new
    back = written_back rows_size vs new (omega (arith, a, b)) (omega (arith, a, ap length same))

    -- the strands that are written are those with the two letters
    rows_here : drawn p (rows new) ≡ with_letters here f o
    rows_here = ap (drawn p) (made ∙ (rw (is_near, far_here, same) refl ∙ rows_pushed here ok_here f o small range_here))

    -- so contracts see the drawing with them
    pub view_pushed : drawn p (rows (take rows_size (new ++ drop (length new) vs))) ≡ with_letters d f o
    view_pushed = rw back (rows_here ∙ ap (λ (x : Drawing). with_letters x f o) seen)

    -- and there is as much room as in what was written
    pub room_back : (n : ℕ) → HaveRoom n new → HaveRoom n (take rows_size (new ++ drop (length new) vs))
    room_back n h = subst (HaveRoom n) (sym back) h

    -- it is laid out
    pub laid_back : (after : IsEmbedded (with_letters d f o)) (few : length (all_exits d) + 2 < 2 ^ 28) (then now : List ℕ) (starts_size : ℕ) → then ≡ offsets → length then ≡ starts_size → length now ≡ length then
        → ((k : ℕ) → k < length then → get_or now k 0 ≡ raised_side near.side far.side k (get_or then k 0))
        → IsLaidOut (drawn p (rows (take rows_size (new ++ drop (length new) vs)))) (take starts_size (now ++ drop (length now) offsets))
    laid_back after few then now starts_size behind e g moves =
        let starts_back = written_back starts_size offsets now (omega (arith, e, g)) (omega (arith, e, ap length behind)) in
        let after_here = subst (λ (x : Drawing). IsEmbedded (with_letters x f o)) (sym seen) after in
        let few_here = subst (λ (x : Drawing). length (all_exits x) + 2 < 2 ^ 28) (sym seen) few in
        let moves_here : (k : ℕ) → k < length offsets → get_or now k 0 ≡ raised_side f.side (partner p f.side) k (get_or offsets k 0) = λ k l.
        moves k (omega (arith, l, ap length behind))
        ∙ (ap₂ (λ (x y : Exit). raised_side x.side y.side k (get_or then k 0)) is_near far_here ∙ ap (λ (xs : List ℕ). raised_side f.side (partner p f.side) k (get_or xs k 0)) behind) in
        rw (back, starts_back) (subst (λ (x : Drawing). IsLaidOut x now) (sym rows_here)
        (laid_pushed here ok_here f o small range_here offsets laid after_here few_here now (g ∙ ap length behind) moves_here))

module _ {A : Type 0} (p : Polygon) (vs new shown : List (Vec Exit A)) (n : ℕ) (same : shown ≡ vs) (stay : rows new ≡ rows shown) (a : length shown ≡ n) (b : length new ≡ length shown) where
  whole : take n (new ++ drop (length new) vs) ≡ new
  whole = written_back n vs new (omega (arith, a, b)) (omega (arith, a, ap length same))

  -- where the lists stay, contracts see the same drawing
  view_same : drawn p (rows (take n (new ++ drop (length new) vs))) ≡ drawn p (rows vs)
  view_same = rw whole (ap (drawn p) (stay ∙ ap rows same))

  -- laid out as it was
  pub laid_same : (offsets : List ℕ) → IsLaidOut (drawn p (rows vs)) offsets → IsLaidOut (drawn p (rows (take n (new ++ drop (length new) vs)))) offsets
  laid_same offsets laid = subst (λ (x : Drawing). IsLaidOut x offsets) (sym view_same) laid

  -- with the room of what was written
  pub room_same : (m : ℕ) → HaveRoom m new → HaveRoom m (take n (new ++ drop (length new) vs))
  room_same m h = subst (HaveRoom m) (sym whole) h

-- What is asked of the pieces of a path, so that the sum falls: far pieces that aren't counted, or keep their door on the larger part; and the last one.
use Rattle.std.proofs.Common.{◌≡◌, ℕ, suc, ◌+◌, ◌<◌, ◌≤◌, Bool, true, false, List, [], ◌∷◌, ◌++◌, map, length, refl, sym, ◌∙◌, ap, subst, arith, ◌⊎◌, inl, inr, ◌≢◌}
use Rattle.std.proofs.lemmas.Bool.{cases_eq, eq-eqb, ne_eqb}
use Rattle.std.proofs.lemmas.List.{length-append, length-map}
use Rattle.obd_base.specs.Lists.{Mem}
use Rattle.obd_base.proofs.lists.Members.{mem_left, mem_right, mem_to_map}
use Rattle.page_surface.specs.Drawing.{Chord}
use Rattle.drawing.specs.Pieces.{same_piece}
use Rattle.drawing.specs.Round.{other_end}
use Rattle.drawing.proofs.SamePiece.{same_piece_sym}
use Rattle.drawing.proofs.fingers.Shift.{shift, early, shift_new, shift_swap}
use Rattle.drawing.proofs.fingers.Finger.{turn, pushed, shift_apart}
use Rattle.finger_move.proofs.PushedNext.{next, near, far, entered, Table, table, other_kept, after_carried}
use Rattle.finger_move.proofs.PushedCycles.{entered_plain, entered_split}
use Rattle.finger_move.proofs.Cycles.{IsCycle, cycle_same, cycle_whole}
use Rattle.finger_move.proofs.Kept.{middle_behind, third_beyond}
use Rattle.finger_move.proofs.Touched.{not_same}
use Rattle.nice_plan.proofs.Pushing.{Push, others, arranged_after, turned_arranged, swap_same, same_other}
use Rattle.nice_plan.proofs.RowLegal.{Stop, carry_stop, spans_from, Way, Misses}
use Rattle.nice_plan.proofs.Distance.{dist, dist_same}
use Rattle.nice_plan.proofs.Farther.{front_no_farther}
use Rattle.nice_plan.proofs.NoNearer.{same_distance, door_distance}
use Rattle.nice_plan.proofs.Ledger.{Piece, times, times_none, length_spread_all}
use Rattle.nice_plan.proofs.falling.Reordered.{dist_order}
use Rattle.nice_plan.proofs.falling.Tally.{Tally, Rest, Holds, Zero, mem_dec}
use Rattle.nice_plan.proofs.falling.Spans.{two_members}
use Rattle.nice_plan.proofs.falling.Finger.{listed, ne, opens, loop, lower, r}
use Rattle.nice_plan.proofs.falling.FingerFalls.{Parts, keep, zero_after, rest_after}
use Rattle.nice_plan.proofs.falling.Splits.{Splits}
use Rattle.nice_plan.proofs.falling.Sizes.{NearFits}

-- a piece of the path at distance D keeps its door, which isn't the chord between the two segments of entry and exit
pub record DoorStop (D : ℕ) (cs : List Chord) (gs : List ℕ) (u : ℕ) (s : Stop) : Type 0 where
  pub post : ℕ
  pub ends_here : other_end cs post ≢ post
  pub level : dist cs gs post ≡ D
  pub behind : suc (dist cs gs (suc post)) ≡ D
  pub place : ((length s.before ≡ 0) × Mem post (s.seg ∷ s.after)) ⊎ ((length s.after ≡ 0) × Mem post (u ∷ s.before))

-- the last piece has a label of b at most; if it isn't counted, it has one span
abbrev pub Ends : ℕ → List Piece → ℕ → Type 0
Ends b ps u = Holds ps u (λ q. (q.label ≤ b) × (q.label ≡ 0 → length q.spans ≤ 1))

-- the path from entry u on
abbrev pub Fits : ℕ → ℕ → List Chord → List ℕ → List Piece → ℕ → List Stop → Type 0
Fits D b cs gs ps u [] = Ends b ps u
Fits D b cs gs ps u (s ∷ ss) = (D ≤ dist cs gs u) × (Zero ps u ⊎ DoorStop D cs gs u s) × Fits D b cs gs ps s.beyond ss

-- the last entry
abbrev pub last_of : ℕ → List Stop → ℕ
last_of u [] = u
last_of u (s ∷ ss) = last_of s.beyond ss

-- after a finger
pub last_carried : (t u e : ℕ) (ss : List Stop) → last_of (shift t u e) (map (carry_stop t u) ss) ≡ shift t u (last_of e ss)
last_carried t u e [] = refl
last_carried t u e (s ∷ ss) = last_carried t u s.beyond ss

-- what is asked of the last piece
pub fits_end : (D b : ℕ) (cs : List Chord) (gs : List ℕ) (ps : List Piece) (u : ℕ) (ss : List Stop) → Fits D b cs gs ps u ss → Ends b ps (last_of u ss)
fits_end D b cs gs ps u [] f = f
fits_end D b cs gs ps u (s ∷ ss) f = fits_end D b cs gs ps s.beyond ss f.2

module _ (D t u : ℕ) (out : Bool) (c : Chord) (es : List Chord) (xs ys : List ℕ) (push : Push t u out c es xs ys)
    (gs : List ℕ) (h : ℕ) (some : Mem h gs) (ps : List Piece) (tally : Tally D (c ∷ es) gs ps) (p : Piece) (pin : Mem p ps) (tin : Mem t p.spans)
    (w : Parts D t u out c es xs ys push gs h some ps tally p pin tin) (how : Splits D (c ∷ es) gs ps t (near out c) (far out c) xs ys) where
  abbrev old : List Chord
  old = c ∷ es

  abbrev new : List Chord
  new = pushed t u out c es

  abbrev turned : List Chord
  turned = turn t u out ∷ others t u out c es

  abbrev x : ℕ
  x = near out c

  abbrev others_of : Rest ps p
  others_of = r D t u out c es xs ys push gs h some ps tally p pin tin

  abbrev list : List Piece
  list = listed t u x xs ys w.l w.m others_of.rest

  abbrev before : ℕ → ℕ
  before s = dist old gs s

  abbrev after : ℕ → ℕ
  after s = dist turned (map (shift t u) gs) s

  -- distances with the turn put first
  pub swapped : (z : ℕ) → dist new (map (shift t u) gs) z ≡ after z
  swapped z = dist_order new turned (arranged_after t u out c es xs ys push) (turned_arranged t u out c es xs ys push) (swap_same _ _ _) (map (shift t u) gs) z

  -- and other ends
  pub ends_swapped : (z : ℕ) → other_end new z ≡ other_end turned z
  ends_swapped z = same_other new turned (arranged_after t u out c es xs ys push) (turned_arranged t u out c es xs ys push) (swap_same _ _ _) z

  -- no span comes nearer
  pub deeper : (z : ℕ) → before z ≤ after (shift t u z)
  deeper z = let a = lower D t u out c es xs ys push gs h some ps tally p pin tin (shift t u z) z (inl refl) in omega (arith, a, swapped (shift t u z))

  -- near pieces keep their distance
  pub near_kept : (z : ℕ) → before z < D → after (shift t u z) ≡ before z
  near_kept z l = sym (swapped (shift t u z)) ∙ elim how [
    | inl d ↦ door_distance t u out c es (ne D t u out c es xs ys push gs h some ps tally p pin tin) push.arranged (opens D t u out c es xs ys push gs h some ps tally p pin tin) (loop D t u out c es xs ys push gs h some ps tally p pin tin) gs h some d z
    | inr k ↦ same_distance t u out c es (ne D t u out c es xs ys push gs h some ps tally p pin tin) push.arranged (opens D t u out c es xs ys push gs h some ps tally p pin tin) (loop D t u out c es xs ys push gs h some ps tally p pin tin) gs h some z (omega (arith, l, k.0))
        (not_same old z t (λ q. let e = dist_same old gs z t q in absurd {A = ⊥} (omega (arith, e, l, k.0))))
  ]

  -- distances away from the split piece stay
  pub away_kept : (z : ℕ) → before z ≤ D → same_piece old z t ≡ false → after (shift t u z) ≡ before z
  away_kept z l n = sym (swapped (shift t u z)) ∙ keep D t u out c es xs ys push gs h some ps tally p pin tin how z l n

  -- the middle span is as far as the piece behind
  pub middle_level : after (suc (early t u)) ≡ after (shift t u x)
  middle_level = sym (swapped (suc (early t u))) ∙ sym (dist_same new (map (shift t u) gs) _ _ (middle_behind t u out c es (ne D t u out c es xs ys push gs h some ps tally p pin tin) push.arranged (opens D t u out c es xs ys push gs h some ps tally p pin tin) (loop D t u out c es xs ys push gs h some ps tally p pin tin))) ∙ swapped (shift t u x)

  -- just behind a carried end
  entered_level : (z : ℕ) → before z < D → after (entered t u z) ≡ before z
  entered_level z l = elim (cases_eq z t) [
    | inl q ↦ elim how [
      | inl d ↦ (
          let f = front_no_farther t u out c es (ne D t u out c es xs ys push gs h some ps tally p pin tin) push.arranged (opens D t u out c es xs ys push gs h some ps tally p pin tin) (loop D t u out c es xs ys push gs h some ps tally p pin tin) gs h some d in
          let g = lower D t u out c es xs ys push gs h some ps tally p pin tin (early t u) t (inr (inl (refl, refl))) in
          let v : entered t u z ≡ early t u = ap (entered t u) q ∙ entered_split t u in
          ap after v ∙ omega (arith, f, g, swapped (early t u), ap before q))
      | inr k ↦ absurd (let v : ⊥ = omega (arith, k.0, ap before q, l) in v)
    ]
    | inr n ↦ elim (cases_eq z u) [
      | inl q ↦ (
          let v : entered t u z ≡ early u t = rw (ne_eqb z t n, eq-eqb z u q) refl in
          ap after v ∙ sym (swapped (early u t)) ∙ dist_same new (map (shift t u) gs) _ _ (third_beyond t u out c es (ne D t u out c es xs ys push gs h some ps tally p pin tin) push.arranged (opens D t u out c es xs ys push gs h some ps tally p pin tin) (loop D t u out c es xs ys push gs h some ps tally p pin tin))
          ∙ swapped (shift t u u) ∙ ap (λ y. after (shift t u y)) (sym q) ∙ near_kept z l)
      | inr m ↦ ap after (entered_plain t u z n m) ∙ near_kept z l
    ]
  ]

  still_ends : (z : ℕ) → other_end old z ≢ z → other_end turned (shift t u z) ≢ shift t u z
  still_ends z n q = go out refl
    where
      tab : Table t u out c es
      tab = table t u out c es (arranged_after t u out c es xs ys push)

      e : other_end new (shift t u z) ≡ shift t u z
      e = ends_swapped (shift t u z) ∙ q

      at_x : z ≡ near out c → ⊥
      at_x k = (shift_new t u z).0 (sym e ∙ ap (λ y. other_end new (shift t u y)) k ∙ tab.at_near)

      at_y : z ≡ far out c → ⊥
      at_y k = (shift_new t u z).1 (sym e ∙ ap (λ y. other_end new (shift t u y)) k ∙ tab.at_far)

      plain : c.from ≢ z → c.to ≢ z → ⊥
      plain a b = shift_apart t u _ _ n (sym (other_kept t u out c es z a b) ∙ e)

      go : (o : Bool) → out ≡ o → ⊥
      go true k = plain (λ a. at_y (sym a ∙ sym (ap (λ y. far y c) k))) (λ a. at_x (sym a ∙ sym (ap (λ y. near y c) k)))
      go false k = plain (λ a. at_x (sym a ∙ sym (ap (λ y. near y c) k))) (λ a. at_y (sym a ∙ sym (ap (λ y. far y c) k)))

  -- a door stop before and after
  pub door_level : (e : ℕ) (s : Stop) → (k : DoorStop D old gs e s) → same_piece old k.post t ≡ false → after (shift t u k.post) ≡ D
  door_level e s k n = away_kept k.post (omega (arith, k.level)) n ∙ k.level

  -- behind it
  pub door_behind : (e : ℕ) (s : Stop) → (k : DoorStop D old gs e s) → suc (after (suc (shift t u k.post))) ≡ D
  door_behind e s k = let b = k.behind in ap (λ y. suc (after y)) (after_carried t u k.post (ne D t u out c es xs ys push gs h some ps tally p pin tin)) ∙ ap suc (entered_level (suc k.post) (omega (arith, b))) ∙ b

  -- it is still the end of a chord
  pub door_ends : (e : ℕ) (s : Stop) → (k : DoorStop D old gs e s) → other_end turned (shift t u k.post) ≢ shift t u k.post
  door_ends e s k = still_ends k.post k.ends_here

  post_in : (e : ℕ) (s : Stop) → (k : DoorStop D old gs e s) → Mem k.post (spans_from e s)
  post_in e s k = elim k.place [
    | inl q ↦ mem_right k.post (e ∷ s.before) (s.seg ∷ s.after) q.1
    | inr q ↦ mem_left k.post (e ∷ s.before) (s.seg ∷ s.after) q.1
  ]

  -- the door of a piece of the path is not in the split piece
  pub post_apart : (e : ℕ) (s : Stop) → (k : DoorStop D old gs e s) → IsCycle (next old) (spans_from e s) → (Mem t (spans_from e s) → ⊥) → same_piece old k.post t ≡ false
  post_apart e s k cyc n = not_same old k.post t (λ q. n (cycle_whole old push.arranged (spans_from e s) cyc k.post t (post_in e s k) q))

  door_carried : (e : ℕ) (s : Stop) → DoorStop D old gs e s → IsCycle (next old) (spans_from e s) → (Mem t (spans_from e s) → ⊥)
      → DoorStop D turned (map (shift t u) gs) (shift t u e) (carry_stop t u s)
  door_carried e s k cyc n = record {
    post = shift t u k.post;
    ends_here = door_ends e s k;
    level = door_level e s k (post_apart e s k cyc n);
    behind = door_behind e s k;
    place = elim k.place [
      | inl q ↦ inl (length-map s.before (shift t u) ∙ q.0, mem_to_map (shift t u) k.post (s.seg ∷ s.after) q.1)
      | inr q ↦ inr (length-map s.after (shift t u) ∙ q.0, mem_to_map (shift t u) k.post (e ∷ s.before) q.1)
    ];
  }

  -- the path goes on fitting; its last piece isn't split, and neither the entered piece nor the one behind is the last, if that isn't counted
  pub fits_carried : (b e : ℕ) (ss : List Stop) → (Mem (last_of e ss) p.spans → ⊥) → NearFits ps x (last_of e ss)
      → ((q : Piece) → Mem q ps → Mem u q.spans → q.label ≡ 0 → 2 ≤ length q.spans)
      → Way (next old) e ss → Misses t e ss → Fits D b old gs ps e ss → Fits D b turned (map (shift t u) gs) list (shift t u e) (map (carry_stop t u) ss)
  fits_carried b e [] apart nf two way miss f = λ q i n.
      let (o, j, m, k) = rest_after D t u out c es xs ys push gs h some ps tally p pin tin w e apart q i n in
      let v = f o (others_of.into o j) m in (
        subst (λ (y : Piece). y.label ≤ b) (sym k) v.0,
        λ z. let y : o.label ≡ 0 = sym (ap (λ (y : Piece). y.label) k) ∙ z in
            let one = v.1 y in
            let size : length q.spans ≡ length o.spans + (times u o.spans + times x o.spans) = ap (λ (y : Piece). length y.spans) k ∙ length_spread_all t u x o.spans in
            elim (mem_dec u o.spans) [
              | inl a ↦ absurd (let g = two o (others_of.into o j) a y in let v : ⊥ = omega (arith, g, one) in v)
              | inr a ↦ elim (mem_dec x o.spans) [
                | inl b ↦ absurd (let g = nf o (others_of.into o j) b y in let v : ⊥ = omega (arith, two_members x e o.spans b m g.1, one) in v)
                | inr b ↦ omega (arith, size, one, times_none u o.spans a, times_none x o.spans b)
              ]
            ],
      )
  fits_carried b e (s ∷ ss) apart nf two way miss f = (
    let a = deeper e in let d = f.0 in omega (arith, a, d),
    elim f.1 [ inl z ↦ inl (zero_after D t u out c es xs ys push gs h some ps tally p pin tin w e z) | inr k ↦ inr (door_carried e s k way.0 miss.0) ],
    fits_carried b s.beyond ss apart nf two way.2 miss.1 f.2,
  )

  -- the next finger, across a stop
  pub splits_next : (s : Stop) → IsCycle (next old) (spans_from u s) → (Mem t (spans_from u s) → ⊥) → D ≤ before u → (Zero ps u ⊎ DoorStop D old gs u s)
      → Splits D turned (map (shift t u) gs) list (shift t u s.seg) (near out (turn t u out)) (far out (turn t u out)) (shift t u u ∷ map (shift t u) s.before) (map (shift t u) s.after ++ (early u t ∷ []))
  splits_next s cyc n d f =
      let seg : Mem s.seg (spans_from u s) = mem_right s.seg (u ∷ s.before) (s.seg ∷ s.after) (inl refl) in
      let same = cycle_same old push.arranged (spans_from u s) cyc u s.seg (inl refl) seg in
      inr (
        let a = deeper s.seg in let e = dist_same old gs u s.seg same in omega (arith, a, e, d),
        elim f [
          | inl z ↦ inl (zero_after D t u out c es xs ys push gs h some ps tally p pin tin w s.seg (λ q i m. z q i (cycle_whole old push.arranged q.spans (tally.cycles q i) s.seg u m (same_piece_sym old u s.seg same))))
          | inr k ↦ inr (record {
            post = shift t u k.post;
            ends_here = door_ends u s k;
            door = door_level u s k (post_apart u s k cyc n) ∙ sym (door_behind u s k);
            other = λ q. (shift_new u t k.post).0 (sym (shift_swap t u k.post) ∙ q ∙ far_turn out);
            place = elim k.place [
              | inl q ↦ inl (ap suc (length-map s.before (shift t u) ∙ q.0), mem_left (shift t u k.post) (map (shift t u) (s.seg ∷ s.after)) (early u t ∷ []) (mem_to_map (shift t u) k.post (s.seg ∷ s.after) q.1))
              | inr q ↦ inr (length-append (map (shift t u) s.after) (early u t ∷ []) ∙ ap (λ y. y + 1) (length-map s.after (shift t u) ∙ q.0), mem_to_map (shift t u) k.post (u ∷ s.before) q.1)
            ];
          })
        ],
      )
    where
      far_turn : (o : Bool) → far o (turn t u o) ≡ early u t
      far_turn true = refl
      far_turn false = refl

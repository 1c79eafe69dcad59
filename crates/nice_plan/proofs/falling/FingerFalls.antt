-- One finger: the labels of the two parts, how the sum falls, and which pieces stay small.
use Rattle.std.proofs.Common.{◌≡◌, ℕ, zero, suc, ◌+◌, ◌-◌, ◌*◌, ◌≤◌, Bool, false, List, [], ◌∷◌, ◌++◌, map, length, refl, sym, ◌∙◌, ap, subst, arith, ◌⊎◌, inl, inr}
use Rattle.std.proofs.lemmas.Bool.{cases_eq}
use Rattle.std.proofs.lemmas.List.{length-append, length-map}
use native.Mathlib.Nat.{add-mul, mul_comm, zero-mul}
use Rattle.obd_base.specs.Lists.{Mem}
use Rattle.obd_base.proofs.lists.Members.{mem_append, mem_left, mem_map, mem_right, mem_to_map}
use Rattle.page_surface.specs.Drawing.{Chord}
use Rattle.drawing.specs.Pieces.{same_piece}
use Rattle.drawing.proofs.SamePiece.{same_piece_sym}
use Rattle.drawing.proofs.fingers.Shift.{shift, early, shift_new, shift_swap}
use Rattle.drawing.proofs.fingers.Finger.{shift_apart}
use Rattle.finger_move.proofs.PushedNext.{near, far}
use Rattle.finger_move.proofs.Cycles.{cycle_same, cycle_whole, cycle_length}
use Rattle.finger_move.proofs.Spread.{spread_all, spread_all_home}
use Rattle.finger_move.proofs.Homes.{old_same}
use Rattle.nice_plan.proofs.Pushing.{Push}
use Rattle.nice_plan.proofs.Distance.{dist, dist_same}
use Rattle.nice_plan.proofs.Farther.{front_no_farther, back_no_farther, door_part}
use Rattle.nice_plan.proofs.NoNearer.{same_distance, door_distance}
use Rattle.nice_plan.proofs.Ledger.{Piece, total, score, label_at, spread_piece, total_spread}
use Rattle.nice_plan.proofs.falling.Tally.{Tally, Rest, Zero, Sure}
use Rattle.nice_plan.proofs.falling.Finger.{front_of, back_of, piece, listed, ne, opens, loop, in_piece, lower, not_tips, front_same, back_same, rest_same, rest_from, r}
use Rattle.nice_plan.proofs.falling.Splits.{Splits}

mul_none : (k : ℕ) → k * 0 ≡ 0
mul_none k = mul_comm k 0 ∙ zero-mul k

two_parts : (n i j l : ℕ) → 2 ≤ i → 2 ≤ j → i + j ≡ suc n → (i - 2) * l + (j - 2) * l + l ≡ (n - 2) * l
two_parts n i j l a b h =
    let e : (i - 2 + (j - 2)) + 1 ≡ n - 2 = omega (arith, a, b, h) in
    omega (arith, add-mul (i - 2) (j - 2) l, add-mul (i - 2 + (j - 2)) 1 l, ap (λ z. z * l) e)

-- the first part has a span more
pub front_length : (t u : ℕ) (xs : List ℕ) → length (front_of t u xs) ≡ suc (length xs)
front_length t u xs = omega (arith, length-append (map (shift t u) xs) (early t u ∷ []), length-map xs (shift t u))

-- and the second
pub back_length : (t u : ℕ) (ys : List ℕ) → length (back_of t u ys) ≡ suc (length ys)
back_length t u ys = omega (arith, length-map ys (shift t u))

module _ (D t u : ℕ) (out : Bool) (c : Chord) (es : List Chord) (xs ys : List ℕ) (push : Push t u out c es xs ys)
    (gs : List ℕ) (h : ℕ) (some : Mem h gs) (ps : List Piece) (tally : Tally D (c ∷ es) gs ps) (p : Piece) (pin : Mem p ps) (tin : Mem t p.spans) where
  abbrev old : List Chord
  old = c ∷ es

  abbrev new : List Chord
  new = Rattle.drawing.proofs.fingers.Finger.pushed t u out c es

  abbrev x : ℕ
  x = near out c

  abbrev before : ℕ → ℕ
  before s = dist old gs s

  abbrev after : ℕ → ℕ
  after s = dist new (map (shift t u) gs) s

  abbrev whole : List ℕ
  whole = xs ++ (t ∷ ys)

  abbrev others_of : Rest ps p
  others_of = r D t u out c es xs ys push gs h some ps tally p pin tin

  -- distances of pieces that are not split stay
  pub keep : Splits D old gs ps t x (far out c) xs ys → (z : ℕ) → before z ≤ D → same_piece old z t ≡ false → after (shift t u z) ≡ before z
  keep (inl d) z l n = door_distance t u out c es (ne D t u out c es xs ys push gs h some ps tally p pin tin) push.arranged
      (opens D t u out c es xs ys push gs h some ps tally p pin tin) (loop D t u out c es xs ys push gs h some ps tally p pin tin) gs h some d z
  keep (inr k) z l n = same_distance t u out c es (ne D t u out c es xs ys push gs h some ps tally p pin tin) push.arranged
      (opens D t u out c es xs ys push gs h some ps tally p pin tin) (loop D t u out c es xs ys push gs h some ps tally p pin tin) gs h some z (omega (arith, l, k.0)) n

  -- labels for the two parts
  pub record Parts : Type 0 where
    pub l : ℕ
    pub m : ℕ
    pub front_label : (l ≡ 0) ⊎ ((l ≡ after (early t u)) × (l ≤ D))
    pub back_label : (m ≡ 0) ⊎ ((m ≡ after (shift t u t)) × (m ≤ D))
    pub loses : score (piece (front_of t u xs) l) + score (piece (back_of t u ys) m) + p.label ≡ score p
    pub zeros : p.label ≡ 0 → (l ≡ 0) × (m ≡ 0)
    pub small : (p.label ≡ 0 → length p.spans ≤ 3) → (l ≡ 0 → length (front_of t u xs) ≤ 2) × (m ≡ 0 → length (back_of t u ys) ≤ 2)

  piece_length : length p.spans ≡ length xs + suc (length ys)
  piece_length = cycle_length old push.arranged p.spans whole (tally.cycles p pin) push.cycle t tin (mem_right t xs (t ∷ ys) (inl refl)) ∙ length-append xs (t ∷ ys)

  -- the labels of the two parts
  pub parts : 1 ≤ length xs → 1 ≤ length ys → Splits D old gs ps t x (far out c) xs ys → Parts
  parts a b s = go p.label refl s
    where
      fl : length (front_of t u xs) ≡ suc (length xs)
      fl = front_length t u xs

      bl : length (back_of t u ys) ≡ suc (length ys)
      bl = back_length t u ys

      none : p.label ≡ 0 → Parts
      none e = record {
        l = 0;
        m = 0;
        front_label = inl refl;
        back_label = inl refl;
        loses = let k : score p ≡ (length p.spans - 2) * 0 = ap (λ w. (length p.spans - 2) * w) e in
            omega (arith, k, e, mul_none (length p.spans - 2), mul_none (length (front_of t u xs) - 2), mul_none (length (back_of t u ys) - 2));
        zeros = λ q. (refl, refl);
        small = λ q. let w = q e in (λ k. omega (arith, w, piece_length, fl, a, b), λ k. omega (arith, w, piece_length, bl, a, b));
      }

      go : (n : ℕ) → p.label ≡ n → Splits D old gs ps t x (far out c) xs ys → Parts
      go zero e s = none e
      go (suc n) e (inr (d, inl z)) = none (z p pin tin)
      go (suc n) e (inl d) =
          let w : (p.label ≡ before t) × (p.label ≤ D) = elim (tally.labelled p pin t tin) [ inl q ↦ absurd (let z : ⊥ = omega (arith, q, e) in z) | inr q ↦ q ] in
          let nz = ne D t u out c es xs ys push gs h some ps tally p pin tin in
          let op = opens D t u out c es xs ys push gs h some ps tally p pin tin in
          let lo = loop D t u out c es xs ys push gs h some ps tally p pin tin in
          let f = front_no_farther t u out c es nz push.arranged op lo gs h some d in
          let g = back_no_farther t u out c es nz push.arranged op lo gs h some d in
          let f' = lower D t u out c es xs ys push gs h some ps tally p pin tin (early t u) t (inr (inl (refl, refl))) in
          let g' = lower D t u out c es xs ys push gs h some ps tally p pin tin (shift t u t) t (inl refl) in
          record {
            l = p.label;
            m = p.label;
            front_label = inr (omega (arith, w, f, f'), w.1);
            back_label = inr (omega (arith, w, g, g'), w.1);
            loses = two_parts (length p.spans) (length (front_of t u xs)) (length (back_of t u ys)) p.label (omega (arith, fl, a)) (omega (arith, bl, b)) (omega (arith, fl, bl, piece_length));
            zeros = λ q. absurd (let z : ⊥ = omega (arith, q, e) in z);
            small = λ q. (λ k. absurd (let z : ⊥ = omega (arith, k, e) in z), λ k. absurd (let z : ⊥ = omega (arith, k, e) in z));
          }
      go (suc n) e (inr (d, inr k)) =
          let w : (p.label ≡ before t) × (p.label ≤ D) = elim (tally.labelled p pin t tin) [ inl q ↦ absurd (let z : ⊥ = omega (arith, q, e) in z) | inr q ↦ q ] in
          let nz = ne D t u out c es xs ys push gs h some ps tally p pin tin in
          let op = opens D t u out c es xs ys push gs h some ps tally p pin tin in
          let lo = loop D t u out c es xs ys push gs h some ps tally p pin tin in
          let inside : Mem k.post whole = elim k.place [ inl q ↦ mem_right k.post xs (t ∷ ys) q.1 | inr q ↦ mem_left k.post xs (t ∷ ys) q.1 ] in
          let same = cycle_same old push.arranged whole push.cycle k.post t inside (mem_right t xs (t ∷ ys) (inl refl)) in
          let close = door_part t u out c es nz push.arranged op lo gs h some k.post same k.other k.ends_here (sym (dist_same old gs k.post t same) ∙ k.door) in
          let deep = lower D t u out c es xs ys push gs h some ps tally p pin tin (shift t u k.post) k.post (inl refl) in
          let level = dist_same old gs k.post t same in
          elim k.place [
            | inl q ↦ (
                let g = dist_same new (map (shift t u) gs) _ _ (back_same D t u out c es xs ys push gs h some ps tally p pin tin (shift t u k.post) (mem_to_map (shift t u) k.post (t ∷ ys) q.1)) in
                record {
                  l = 0;
                  m = p.label;
                  front_label = inl refl;
                  back_label = inr (omega (arith, w, g, close, deep, level), w.1);
                  loses = let v = two_parts (length p.spans) (length (front_of t u xs)) (length (back_of t u ys)) p.label (omega (arith, fl, a)) (omega (arith, bl, b)) (omega (arith, fl, bl, piece_length)) in
                      let i : (length (front_of t u xs) - 2) * p.label ≡ 0 * p.label = ap (λ z. z * p.label) (let i : length (front_of t u xs) - 2 ≡ 0 = omega (arith, fl, q.0) in i) in
                      omega (arith, v, i, mul_none (length (front_of t u xs) - 2));
                  zeros = λ q. absurd (let z : ⊥ = omega (arith, q, e) in z);
                  small = λ z. (λ k. omega (arith, fl, q.0), λ k. absurd (let z : ⊥ = omega (arith, k, e) in z));
                })
            | inr q ↦ (
                let g = dist_same new (map (shift t u) gs) _ _ (front_same D t u out c es xs ys push gs h some ps tally p pin tin (shift t u k.post)
                (mem_left (shift t u k.post) (map (shift t u) xs) (early t u ∷ []) (mem_to_map (shift t u) k.post xs q.1))) in
                record {
                  l = p.label;
                  m = 0;
                  front_label = inr (omega (arith, w, g, close, deep, level), w.1);
                  back_label = inl refl;
                  loses = let v = two_parts (length p.spans) (length (front_of t u xs)) (length (back_of t u ys)) p.label (omega (arith, fl, a)) (omega (arith, bl, b)) (omega (arith, fl, bl, piece_length)) in
                      let i : (length (back_of t u ys) - 2) * p.label ≡ 0 * p.label = ap (λ z. z * p.label) (let i : length (back_of t u ys) - 2 ≡ 0 = omega (arith, bl, q.0) in i) in
                      omega (arith, v, i, mul_none (length (back_of t u ys) - 2));
                  zeros = λ q. absurd (let z : ⊥ = omega (arith, q, e) in z);
                  small = λ z. (λ k. absurd (let z : ⊥ = omega (arith, k, e) in z), λ k. omega (arith, bl, q.0));
                })
          ]

  module _ (w : Parts) where
    abbrev list : List Piece
    list = listed t u x xs ys w.l w.m others_of.rest

    -- how the sum changes
    pub sum_after : total list + p.label ≤ total ps + (label_at others_of.rest u + label_at others_of.rest x)
    sum_after = omega (arith, w.loses, others_of.sum, total_spread t u x others_of.rest)

    -- the listed piece that has a carried span
    pub carried_in : (q : Piece) → Mem q list → (z : ℕ) → Mem (shift t u z) q.spans
        → (Mem z p.spans × ((q.label ≡ w.l) ⊎ (q.label ≡ w.m))) ⊎ ((o : Piece) × Mem o others_of.rest × Mem z o.spans × (q ≡ spread_piece t u x o))
    carried_in q (inl e) z i = inl (
      elim (mem_append (shift t u z) (map (shift t u) xs) (early t u ∷ []) (subst (λ (v : Piece). Mem (shift t u z) v.spans) e i)) [
        | inl j ↦ (let (s, k, f) = mem_map (shift t u) (shift t u z) xs j in back_to z s f (mem_left s xs (t ∷ ys) k))
        | inr j ↦ elim j [ inl f ↦ absurd ((shift_new t u z).0 f) | inr j ↦ absurd j ]
      ],
      inl (ap (λ (v : Piece). v.label) e),
    )
      where
        back_to : (z s : ℕ) → shift t u z ≡ shift t u s → Mem s whole → Mem z p.spans
        back_to z s f m = in_piece D t u out c es xs ys push gs h some ps tally p pin tin z
            (elim (cases_eq z s) [ inl k ↦ subst (λ v. Mem v whole) (sym k) m | inr k ↦ absurd (shift_apart t u z s k f) ])
    carried_in q (inr (inl e)) z i = inl (
      (let (s, k, f) = mem_map (shift t u) (shift t u z) (t ∷ ys) (subst (λ (v : Piece). Mem (shift t u z) v.spans) e i) in back_to z s f (mem_right s xs (t ∷ ys) k)),
      inr (ap (λ (v : Piece). v.label) e),
    )
      where
        back_to : (z s : ℕ) → shift t u z ≡ shift t u s → Mem s whole → Mem z p.spans
        back_to z s f m = in_piece D t u out c es xs ys push gs h some ps tally p pin tin z
            (elim (cases_eq z s) [ inl k ↦ subst (λ v. Mem v whole) (sym k) m | inr k ↦ absurd (shift_apart t u z s k f) ])
    carried_in q (inr (inr (inl e))) z i = absurd (elim (let j : Mem (shift t u z) (suc (early u t) ∷ []) = subst (λ (v : Piece). Mem (shift t u z) v.spans) e i in j) [
      | inl f ↦ (shift_new u t z).1 (sym (shift_swap t u z) ∙ f)
      | inr j ↦ j
    ])
    carried_in q (inr (inr (inr i))) z n =
        let (o, j, e) = rest_from D t u out c es xs ys push gs h some ps tally p pin tin q i in
        let n' : Mem (shift t u z) (spread_all t u x o.spans) = subst (λ (v : Piece). Mem (shift t u z) v.spans) e n in
        let (s, sm, sh) = spread_all_home t u x (shift t u z) o.spans n' in
        let k = old_same t u out c es s z (same_piece_sym new _ _ (rest_same D t u out c es xs ys push gs h some ps tally p pin tin o j (shift t u z) s n' sm)) in
        inr (o, j, cycle_whole old push.arranged o.spans (tally.cycles o (others_of.into o j)) s z sm k, e)

    -- what was not counted is not
    pub zero_after : (z : ℕ) → Zero ps z → Zero list (shift t u z)
    zero_after z k q i n = elim (carried_in q i z n) [
      | inl v ↦ (let e = w.zeros (k p pin v.0) in elim v.1 [ inl f ↦ f ∙ e.0 | inr f ↦ f ∙ e.1 ])
      | inr v ↦ (let (o, j, m, e) = v in ap (λ (v : Piece). v.label) e ∙ k o (others_of.into o j) m)
    ]

    -- of a piece that isn't split
    pub rest_after : (z : ℕ) → (Mem z p.spans → ⊥) → (q : Piece) → Mem q list → Mem (shift t u z) q.spans → (o : Piece) × Mem o others_of.rest × Mem z o.spans × (q ≡ spread_piece t u x o)
    rest_after z k q i n = elim (carried_in q i z n) [ inl v ↦ absurd (k v.0) | inr v ↦ v ]

    -- what was counted is
    pub sure_after : (z : ℕ) → (Mem z p.spans → ⊥) → Sure ps z → Sure list (shift t u z)
    sure_after z a k q i n = let (o, j, m, e) = rest_after z a q i n in
        let v = k o (others_of.into o j) m in let f = ap (λ (v : Piece). v.label) e in omega (arith, v, f)

    -- the tip's own piece
    pub tip_after_list : (q : Piece) → Mem q list → Mem (suc (early u t)) q.spans → q ≡ piece (suc (early u t) ∷ []) 0
    tip_after_list q (inl e) i = absurd (elim (mem_append (suc (early u t)) (map (shift t u) xs) (early t u ∷ []) (subst (λ (v : Piece). Mem (suc (early u t)) v.spans) e i)) [
      | inl j ↦ (let (s, k, f) = mem_map (shift t u) (suc (early u t)) xs j in (shift_new u t s).1 (sym (shift_swap t u s) ∙ sym f))
      | inr j ↦ elim j [ inl f ↦ (Rattle.drawing.proofs.fingers.Finger.new_apart t u (ne D t u out c es xs ys push gs h some ps tally p pin tin)).1 (sym f) | inr j ↦ j ]
    ])
    tip_after_list q (inr (inl e)) i = absurd (let (s, k, f) = mem_map (shift t u) (suc (early u t)) (t ∷ ys) (subst (λ (v : Piece). Mem (suc (early u t)) v.spans) e i) in
        (shift_new u t s).1 (sym (shift_swap t u s) ∙ sym f))
    tip_after_list q (inr (inr (inl e))) i = e
    tip_after_list q (inr (inr (inr i))) n = absurd (
        let (o, j, e) = rest_from D t u out c es xs ys push gs h some ps tally p pin tin q i in
        let n' : Mem (suc (early u t)) (spread_all t u x o.spans) = subst (λ (v : Piece). Mem (suc (early u t)) v.spans) e n in
        let (s, sm, sh) = spread_all_home t u x (suc (early u t)) o.spans n' in
        not_tips D t u out c es xs ys push gs h some ps tally p pin tin (suc (early u t)) s (rest_same D t u out c es xs ys push gs h some ps tally p pin tin o j (suc (early u t)) s n' sm) refl)

-- A row of fingers: the list of pieces after it, and how its sum falls.
use Rattle.std.proofs.Common.{◌≡◌, ℕ, suc, ◌+◌, ◌<◌, ◌≤◌, Bool, List, [], ◌∷◌, ◌++◌, map, length, refl, sym, ◌∙◌, ap, subst, arith, ◌⊎◌, inl, inr, ◌≢◌}
use Rattle.std.proofs.lemmas.List.{length-append}
use Rattle.obd_base.specs.Lists.{Mem, Once}
use Rattle.obd_base.proofs.lists.Members.{mem_right}
use Rattle.page_surface.specs.Drawing.{Chord}
use Rattle.drawing.proofs.SamePiece.{same_piece_sym}
use Rattle.drawing.proofs.fingers.Shift.{shift, early, shift_new, shift_swap}
use Rattle.drawing.proofs.fingers.Finger.{turn, pushed}
use Rattle.finger_move.proofs.PushedNext.{next, near, far}
use Rattle.finger_move.proofs.Cycles.{cycle_same, cycle_whole}
use Rattle.finger_move.proofs.Kept.{middle_behind}
use Rattle.nice_plan.proofs.Pushing.{others, arranged_after}
use Rattle.nice_plan.proofs.RowLegal.{Stop, carry_stop, spans_from, Way, Misses, Simple, carry_way, carry_misses, carry_simple, tip_misses, near_is}
use Rattle.nice_plan.proofs.RowEnd.{Row, last, more, map_twice}
use Rattle.nice_plan.proofs.Distance.{dist, dist_same, dist_le, separated_none}
use Rattle.nice_plan.proofs.Farther.{mem_shift}
use Rattle.nice_plan.proofs.Ledger.{Piece, total, spread_piece}
use Rattle.nice_plan.proofs.falling.Tally.{Tally, Holds, Zero, Sure, label_most, one_piece}
use Rattle.nice_plan.proofs.falling.Spans.{spread_has, two_members}
use Rattle.nice_plan.proofs.falling.Finger.{listed, piece, ne, opens, loop, list_cycles, lower, r, in_whole, in_rest, tally_after, unspread}
use Rattle.nice_plan.proofs.falling.FingerFalls.{parts, keep, sum_after, zero_after, sure_after, tip_after_list}
use Rattle.nice_plan.proofs.falling.Splits.{Splits, SmallBut, Small}
use Rattle.nice_plan.proofs.falling.Sizes.{NearFits, small_last, small_on}
use Rattle.nice_plan.proofs.falling.Stops.{Fits, last_of, last_carried, fits_end, swapped, deeper, near_kept, middle_level, fits_carried, splits_next}

-- the list after some fingers of a row: of chords ds and gaps hs, old numbers z at k z
pub record RowDone (D : ℕ) (cs : List Chord) (gs : List ℕ) (ps : List Piece) (t x : ℕ) (lost most : ℕ) (ds : List Chord) (k : ℕ → ℕ) (m e : ℕ) (strips : List Stop) : Type 0 where
  pub gaps : List ℕ
  pub gaps_are : gaps ≡ map k gs
  pub pieces : List Piece
  pub tally : Tally D ds gaps pieces
  pub falls : total pieces + lost ≤ total ps + most
  pub small : Small pieces
  pub keeps : (z : ℕ) → dist cs gs z < D → dist ds gaps (k z) ≡ dist cs gs z
  pub deeper : (z : ℕ) → dist cs gs z ≤ dist ds gaps (k z)
  pub sure : (z : ℕ) → dist cs gs z < D → dist cs gs z ≢ dist cs gs t → Sure ps z → Sure pieces (k z)
  pub zero : (z : ℕ) → Zero ps z → Zero pieces (k z)
  pub strips_fit : Fits D 0 ds gaps pieces e strips
  pub middle : dist cs gs x < D → dist ds gaps m ≡ dist cs gs x
  pub middle_sure : dist cs gs x < D → dist cs gs x ≢ dist cs gs t → Sure ps x → Sure pieces m

once_of : (D : ℕ) (cs : List Chord) (gs : List ℕ) (ps : List Piece) → Tally D cs gs ps → (q : Piece) → Mem q ps → Once q.spans
once_of D cs gs ps tally q i = (tally.cycles q i).once

-- what a row leaves of the list and the sum
pub row_falls : (D : ℕ) → 1 ≤ D → {t u : ℕ} {out : Bool} {c : Chord} {es : List Chord} {xs ys : List ℕ} {ss : List Stop} {ds : List Chord} {k : ℕ → ℕ} {m e : ℕ} {strips : List Stop}
    → Row t u out c es xs ys ss ds k m e strips
    → (gs : List ℕ) (h : ℕ) (some : Mem h gs) (ps : List Piece) (tally : Tally D (c ∷ es) gs ps) (p : Piece) (pin : Mem p ps) (tin : Mem t p.spans)
    → (n b : ℕ) → b < D → 1 ≤ length xs → 1 ≤ length ys
    → Splits D (c ∷ es) gs ps t (near out c) (far out c) xs ys → SmallBut ps t
    → NearFits ps (near out c) (last_of u ss) → Holds ps (near out c) (λ q. q.label ≤ n)
    → Way (next (c ∷ es)) u ss → Misses t u ss → Misses (near out c) u ss → Simple u ss
    → Fits D b (c ∷ es) gs ps u ss → (Mem (last_of u ss) p.spans → ⊥)
    → RowDone D (c ∷ es) gs ps t (near out c) p.label (n + b) ds k m e strips
row_falls D pos (last {t} {u} {out} {c} {es} {xs} {ys} push) gs h some ps tally p pin tin n b bd lx ly how sizes nf nl way mt mx sim fit apart =
    let w = parts D t u out c es xs ys push gs h some ps tally p pin tin lx ly how in
    let rest = r D t u out c es xs ys push gs h some ps tally p pin tin in
    let x = near out c in
    let list = listed t u x xs ys w.l w.m rest.rest in
    let tip = suc (early u t) in
    let at_u = label_most rest.rest u b rest.disjoint (λ q i. once_of D (c ∷ es) gs ps tally q (rest.into q i)) (λ q i j. (fit q (rest.into q i) j).0) in
    let at_x = label_most rest.rest x n rest.disjoint (λ q i. once_of D (c ∷ es) gs ps tally q (rest.into q i)) (λ q i j. nl q (rest.into q i) j) in
    record {
      gaps = map (shift t u) gs;
      gaps_are = refl;
      pieces = list;
      tally = tally_after D t u out c es xs ys push gs h some ps tally p pin tin w.l w.m (keep D t u out c es xs ys push gs h some ps tally p pin tin how) w.front_label w.back_label;
      falls = let s = sum_after D t u out c es xs ys push gs h some ps tally p pin tin w in omega (arith, s, at_u, at_x);
      small = small_last D t u out c es xs ys push gs h some ps tally p pin tin w sizes nf (λ q i j. (fit q i j).1);
      keeps = near_kept D t u out c es xs ys push gs h some ps tally p pin tin w how;
      deeper = deeper D t u out c es xs ys push gs h some ps tally p pin tin w how;
      sure = λ z l d s. sure_after D t u out c es xs ys push gs h some ps tally p pin tin w z (λ i. d (dist_same (c ∷ es) gs z t (cycle_same (c ∷ es) push.arranged p.spans (tally.cycles p pin) z t i tin))) s;
      zero = zero_after D t u out c es xs ys push gs h some ps tally p pin tin w;
      strips_fit = λ q i j. let v = tip_after_list D t u out c es xs ys push gs h some ps tally p pin tin w q i j in
          (let a : q.label ≡ 0 = ap (λ (y : Piece). y.label) v in omega (arith, a), λ z. let a : length q.spans ≡ 1 = ap (λ (y : Piece). length y.spans) v in omega (arith, a));
      middle = λ l. middle_level D t u out c es xs ys push gs h some ps tally p pin tin w how ∙ near_kept D t u out c es xs ys push gs h some ps tally p pin tin w how x l;
      middle_sure = λ l d s q i j. sure_after D t u out c es xs ys push gs h some ps tally p pin tin w x (λ i. d (dist_same (c ∷ es) gs x t (cycle_same (c ∷ es) push.arranged p.spans (tally.cycles p pin) x t i tin))) s q i
          (cycle_whole (pushed t u out c es) (arranged_after t u out c es xs ys push) q.spans (list_cycles D t u out c es xs ys push gs h some ps tally p pin tin w.l w.m q i) (suc (early t u)) (shift t u x) j
          (same_piece_sym (pushed t u out c es) _ _ (middle_behind t u out c es (ne D t u out c es xs ys push gs h some ps tally p pin tin) push.arranged (opens D t u out c es xs ys push gs h some ps tally p pin tin) (loop D t u out c es xs ys push gs h some ps tally p pin tin))));
    }
row_falls D pos (more {t} {u} {out} {c} {es} {xs} {ys} {s} {ss} {ds} {k} {m} {e} {strips} push row) gs h some ps tally p pin tin n b bd lx ly how sizes nf nl way mt mx sim fit apart =
    let w = parts D t u out c es xs ys push gs h some ps tally p pin tin lx ly how in
    let rest = r D t u out c es xs ys push gs h some ps tally p pin tin in
    let x = near out c in
    let old = c ∷ es in
    let list = listed t u x xs ys w.l w.m rest.rest in
    let tip = suc (early u t) in
    let turned = turn t u out ∷ others t u out c es in
    let gs' = map (shift t u) gs in
    let list_tally : Tally D turned gs' list = tally_after D t u out c es xs ys push gs h some ps tally p pin tin w.l w.m (keep D t u out c es xs ys push gs h some ps tally p pin tin how) w.front_label w.back_label in
    -- the piece that is entered
    let found : (q : Piece) × Mem q ps × Mem u q.spans = elim (tally.covers u) [
      | inl base ↦ (let (g, i, q) = base in absurd (let v : ⊥ = omega (arith, pos, fit.0, dist_le old gs u g i, separated_none old u g q) in v))
      | inr v ↦ v
    ] in
    let q = found.0 in
    let q_rest : Mem q rest.rest = elim (rest.from q found.1) [
      | inl v ↦ absurd (push.outside (in_whole D t u out c es xs ys push gs h some ps tally p pin tin u (subst (λ (y : Piece). Mem u y.spans) v found.2)))
      | inr v ↦ v
    ] in
    let cyc = way.0 in
    let seg_in : Mem s.seg (spans_from u s) = mem_right s.seg (u ∷ s.before) (s.seg ∷ s.after) (inl refl) in
    let same = cycle_same old push.arranged (spans_from u s) cyc u s.seg (inl refl) seg_in in
    let along : (q : Piece) → Mem q ps → Mem u q.spans → Mem s.seg q.spans = λ q i j. cycle_whole old push.arranged q.spans (tally.cycles q i) u s.seg j same in
    let apart_seg : s.seg ≢ u = λ v. cyc.once.0 (subst (λ y. Mem y (s.before ++ (s.seg ∷ s.after))) v (mem_right s.seg s.before (s.seg ∷ s.after) (inl refl))) in
    let two : (q : Piece) → Mem q ps → Mem u q.spans → q.label ≡ 0 → 2 ≤ length q.spans = λ q i j z. two_members s.seg u q.spans (along q i j) j apart_seg in
    let tip_piece : (v : Piece) → Mem v list → Mem tip v.spans → v ≡ piece (tip ∷ []) 0 = tip_after_list D t u out c es xs ys push gs h some ps tally p pin tin w in
    let tip_name : near out (turn t u out) ≡ tip = near_is t u out in
    let ends = fits_end D b old gs ps s.beyond ss fit.2 in
    let last_name = last_carried t u s.beyond ss in
    let fit' = fits_carried D t u out c es xs ys push gs h some ps tally p pin tin w how b s.beyond ss apart nf two way.2 mt.1 fit.2 in
    let q_label : q.label ≡ 0 ⊎ (D ≤ q.label) = elim (tally.labelled q found.1 u found.2) [ inl v ↦ inl v | inr v ↦ inr (let f = fit.0 in omega (arith, v, f)) ] in
    let apart' : Mem (last_of (shift t u s.beyond) (map (carry_stop t u) ss)) (spread_piece t u x q).spans → ⊥ = λ i.
    let l = unspread D t u out c es xs ys push gs h some ps tally p pin tin q q_rest (last_of s.beyond ss) (subst (λ y. Mem y (spread_piece t u x q).spans) last_name i) in
    let f = ends q found.1 l in
    elim q_label [
      | inl z ↦ (let g = two q found.1 found.2 z in let y = f.1 z in let v : ⊥ = omega (arith, g, y) in v)
      | inr z ↦ (let v : ⊥ = omega (arith, z, f.0, bd) in v)
    ] in
    let done = row_falls D pos row gs' (shift t u h) (mem_shift t u h gs some) list list_tally (spread_piece t u x q) (in_rest D t u out c es xs ys push gs h some ps tally p pin tin w.l w.m q q_rest)
    (spread_has t u x s.seg q.spans (along q found.1 found.2)) 0 b bd
    (omega arith) (let v = length-append (map (shift t u) s.after) (early u t ∷ []) in omega (arith, v))
    (splits_next D t u out c es xs ys push gs h some ps tally p pin tin w how s cyc mt.0 fit.0 fit.1)
    (small_on D t u out c es xs ys push gs h some ps tally p pin tin w sizes s.seg (last_of s.beyond ss) apart_seg along nf)
    (λ v i j z. let y = tip_piece v i (subst (λ y. Mem y v.spans) tip_name j) in (
      let a : length v.spans ≡ 1 = ap (λ (y : Piece). length y.spans) y in omega (arith, a),
      λ g. (shift_new u t (last_of s.beyond ss)).1 (sym (shift_swap t u (last_of s.beyond ss)) ∙ sym last_name ∙ sym g ∙ tip_name),
    ))
    (λ v i j. let y = tip_piece v i (subst (λ y. Mem y v.spans) tip_name j) in let a : v.label ≡ 0 = ap (λ (y : Piece). y.label) y in omega (arith, a))
    (carry_way t u out c es xs ys push s.beyond ss way.2 mt.1 sim.0 mx.1)
    (carry_misses t u s.seg s.beyond ss sim.1)
    (subst (λ z. Misses z (shift t u s.beyond) (map (carry_stop t u) ss)) (sym tip_name) (tip_misses t u s.beyond ss))
    (carry_simple t u s.beyond ss sim.2)
    fit' apart' in
    let at_u = label_most rest.rest u q.label rest.disjoint (λ q i. once_of D old gs ps tally q (rest.into q i))
    (λ o i j. let v = one_piece rest.rest rest.disjoint o q i q_rest u j found.2 in let a : o.label ≡ q.label = ap (λ (y : Piece). y.label) v in omega (arith, a)) in
    let at_x = label_most rest.rest x n rest.disjoint (λ q i. once_of D old gs ps tally q (rest.into q i)) (λ q i j. nl q (rest.into q i) j) in
    record {
      gaps = done.gaps;
      gaps_are = done.gaps_are ∙ map_twice (shift t u) k gs;
      pieces = done.pieces;
      tally = done.tally;
      falls = let a = sum_after D t u out c es xs ys push gs h some ps tally p pin tin w in let f = done.falls in omega (arith, a, f, at_u, at_x);
      small = done.small;
      keeps = λ z l. let a = near_kept D t u out c es xs ys push gs h some ps tally p pin tin w how z l in done.keeps (shift t u z) (omega (arith, a, l)) ∙ a;
      deeper = λ z. let a = deeper D t u out c es xs ys push gs h some ps tally p pin tin w how z in let f = done.deeper (shift t u z) in omega (arith, a, f);
      sure = λ z l d v. let a = near_kept D t u out c es xs ys push gs h some ps tally p pin tin w how z l in
          done.sure (shift t u z) (omega (arith, a, l)) (λ g. let f = deeper D t u out c es xs ys push gs h some ps tally p pin tin w how s.seg in let y = dist_same old gs u s.seg same in absurd {A = ⊥} (omega (arith, g, a, l, f, y, fit.0)))
          (sure_after D t u out c es xs ys push gs h some ps tally p pin tin w z (λ i. d (dist_same old gs z t (cycle_same old push.arranged p.spans (tally.cycles p pin) z t i tin))) v);
      zero = λ z v. done.zero (shift t u z) (zero_after D t u out c es xs ys push gs h some ps tally p pin tin w z v);
      strips_fit = (
        (let a = lower D t u out c es xs ys push gs h some ps tally p pin tin tip u (inr (inr (inr (inr (refl, refl))))) in let g = swapped D t u out c es xs ys push gs h some ps tally p pin tin w how tip in let f = done.deeper tip in omega (arith, a, g, f, fit.0)),
        inl (done.zero tip (λ v i j. ap (λ (y : Piece). y.label) (tip_piece v i j))),
        done.strips_fit,
      );
      middle = λ l.
          let a = middle_level D t u out c es xs ys push gs h some ps tally p pin tin w how ∙ near_kept D t u out c es xs ys push gs h some ps tally p pin tin w how x l in
          done.keeps (suc (early t u)) (omega (arith, a, l)) ∙ a;
      middle_sure = λ l d v.
          let a = middle_level D t u out c es xs ys push gs h some ps tally p pin tin w how ∙ near_kept D t u out c es xs ys push gs h some ps tally p pin tin w how x l in
          done.sure (suc (early t u)) (omega (arith, a, l)) (λ g. let f = deeper D t u out c es xs ys push gs h some ps tally p pin tin w how s.seg in let y = dist_same old gs u s.seg same in absurd {A = ⊥} (omega (arith, g, a, l, f, y, fit.0)))
          (λ q i j. sure_after D t u out c es xs ys push gs h some ps tally p pin tin w x (λ i. d (dist_same old gs x t (cycle_same old push.arranged p.spans (tally.cycles p pin) x t i tin))) v q i
          (cycle_whole (pushed t u out c es) (arranged_after t u out c es xs ys push) q.spans (list_cycles D t u out c es xs ys push gs h some ps tally p pin tin w.l w.m q i) (suc (early t u)) (shift t u x) j
          (same_piece_sym (pushed t u out c es) _ _ (middle_behind t u out c es (ne D t u out c es xs ys push gs h some ps tally p pin tin) push.arranged (opens D t u out c es xs ys push gs h some ps tally p pin tin) (loop D t u out c es xs ys push gs h some ps tally p pin tin)))));
    }

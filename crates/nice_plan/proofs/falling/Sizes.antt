-- One finger: pieces that aren't counted stay small, but for the one that is entered, which is split next.
use Rattle.std.proofs.Common.{◌≡◌, ℕ, ◌+◌, ◌≤◌, Bool, List, ◌∷◌, length, sym, ◌∙◌, ap, subst, arith, inl, inr, ◌≢◌}
use Rattle.obd_base.specs.Lists.{Mem, Once}
use Rattle.page_surface.specs.Drawing.{Chord}
use Rattle.drawing.proofs.fingers.Shift.{shift}
use Rattle.finger_move.proofs.PushedNext.{near}
use Rattle.nice_plan.proofs.Pushing.{Push}
use Rattle.nice_plan.proofs.Ledger.{Piece, spread_piece, times, times_none, times_once, length_spread_all}
use Rattle.nice_plan.proofs.falling.Tally.{Tally, Rest, Holds, mem_dec}
use Rattle.nice_plan.proofs.falling.Spans.{spread_has, two_members}
use Rattle.nice_plan.proofs.falling.Finger.{listed, rest_from, r}
use Rattle.nice_plan.proofs.falling.FingerFalls.{Parts}
use Rattle.nice_plan.proofs.falling.Splits.{SmallBut, Small}

-- the piece behind the chord, where it isn't counted, is a tip, and isn't the last piece of the path
abbrev pub NearFits : List Piece → ℕ → ℕ → Type 0
NearFits ps x last = Holds ps x (λ q. q.label ≡ 0 → (length q.spans ≤ 1) × (x ≢ last))

module _ (D t u : ℕ) (out : Bool) (c : Chord) (es : List Chord) (xs ys : List ℕ) (push : Push t u out c es xs ys)
    (gs : List ℕ) (h : ℕ) (some : Mem h gs) (ps : List Piece) (tally : Tally D (c ∷ es) gs ps) (p : Piece) (pin : Mem p ps) (tin : Mem t p.spans)
    (w : Parts D t u out c es xs ys push gs h some ps tally p pin tin) (sizes : SmallBut ps t) where
  abbrev x : ℕ
  x = near out c

  abbrev others_of : Rest ps p
  others_of = r D t u out c es xs ys push gs h some ps tally p pin tin

  abbrev list : List Piece
  list = listed t u x xs ys w.l w.m others_of.rest

  split_size : p.label ≡ 0 → length p.spans ≤ 3
  split_size e = elim (sizes p pin e) [ inl k ↦ omega (arith, k) | inr k ↦ k.1 ]

  rest_size : (o : Piece) → Mem o others_of.rest → o.label ≡ 0 → length o.spans ≤ 2
  rest_size o j e = elim (sizes o (others_of.into o j) e) [ inl k ↦ k | inr k ↦ absurd (others_of.apart o j t tin k.0) ]

  once : (o : Piece) → Mem o others_of.rest → Once o.spans
  once o j = (tally.cycles o (others_of.into o j)).once

  label_of : (q o : Piece) → q ≡ spread_piece t u x o → q.label ≡ 0 → o.label ≡ 0
  label_of q o e k = sym (ap (λ (v : Piece). v.label) e) ∙ k

  size_of : (q o : Piece) → q ≡ spread_piece t u x o → length q.spans ≡ length o.spans + (times u o.spans + times x o.spans)
  size_of q o e = ap (λ (v : Piece). length v.spans) e ∙ length_spread_all t u x o.spans

  -- the last finger of a row
  pub small_last : NearFits ps x u → Holds ps u (λ q. q.label ≡ 0 → length q.spans ≤ 1) → Small list
  small_last nf lf q (inl e) k = let a = (w.small split_size).0 (sym (ap (λ (v : Piece). v.label) e) ∙ k) in
      subst (λ (v : Piece). length v.spans ≤ 2) (sym e) a
  small_last nf lf q (inr (inl e)) k = let a = (w.small split_size).1 (sym (ap (λ (v : Piece). v.label) e) ∙ k) in
      subst (λ (v : Piece). length v.spans ≤ 2) (sym e) a
  small_last nf lf q (inr (inr (inl e))) k = subst (λ (v : Piece). length v.spans ≤ 2) (sym e) (omega arith)
  small_last nf lf q (inr (inr (inr i))) k =
      let (o, j, e) = rest_from D t u out c es xs ys push gs h some ps tally p pin tin q i in
      let z = label_of q o e k in
      let s = size_of q o e in
      let two = rest_size o j z in
      elim (mem_dec u o.spans) [
        | inl a ↦ (let one = lf o (others_of.into o j) a z in let tu = times_once u o.spans (once o j) a in elim (mem_dec x o.spans) [
          | inl b ↦ (let f = nf o (others_of.into o j) b z in absurd (let v : ⊥ = omega (arith, two_members x u o.spans b a f.1, f.0) in v))
          | inr b ↦ (let tx = times_none x o.spans b in omega (arith, s, one, tu, tx))
        ])
        | inr a ↦ (let tu = times_none u o.spans a in elim (mem_dec x o.spans) [
          | inl b ↦ (let f = nf o (others_of.into o j) b z in let tx = times_once x o.spans (once o j) b in omega (arith, s, f.0, tu, tx))
          | inr b ↦ (let tx = times_none x o.spans b in omega (arith, s, two, tu, tx))
        ])
      ]

  -- a finger that is pushed on, across v of the piece that it enters at u
  pub small_on : (v last : ℕ) → v ≢ u → ((q : Piece) → Mem q ps → Mem u q.spans → Mem v q.spans) → NearFits ps x last → SmallBut list (shift t u v)
  small_on v last vu along nf q (inl e) k = let a = (w.small split_size).0 (sym (ap (λ (v : Piece). v.label) e) ∙ k) in
      inl (subst (λ (v : Piece). length v.spans ≤ 2) (sym e) a)
  small_on v last vu along nf q (inr (inl e)) k = let a = (w.small split_size).1 (sym (ap (λ (v : Piece). v.label) e) ∙ k) in
      inl (subst (λ (v : Piece). length v.spans ≤ 2) (sym e) a)
  small_on v last vu along nf q (inr (inr (inl e))) k = inl (subst (λ (v : Piece). length v.spans ≤ 2) (sym e) (omega arith))
  small_on v last vu along nf q (inr (inr (inr i))) k =
      let (o, j, e) = rest_from D t u out c es xs ys push gs h some ps tally p pin tin q i in
      let z = label_of q o e k in
      let s = size_of q o e in
      let two = rest_size o j z in
      elim (mem_dec u o.spans) [
        | inl a ↦ (let g = along o (others_of.into o j) a in let tu = times_once u o.spans (once o j) a in elim (mem_dec x o.spans) [
          | inl b ↦ (let f = nf o (others_of.into o j) b z in absurd (let v : ⊥ = omega (arith, two_members v u o.spans g a vu, f.0) in v))
          | inr b ↦ (let tx = times_none x o.spans b in
              inr (subst (λ (y : Piece). Mem (shift t u v) y.spans) (sym e) (spread_has t u x v o.spans g), omega (arith, s, two, tu, tx)))
        ])
        | inr a ↦ (let tu = times_none u o.spans a in elim (mem_dec x o.spans) [
          | inl b ↦ (let f = nf o (others_of.into o j) b z in let tx = times_once x o.spans (once o j) b in inl (omega (arith, s, f.0, tu, tx)))
          | inr b ↦ (let tx = times_none x o.spans b in inl (omega (arith, s, two, tu, tx)))
        ])
      ]

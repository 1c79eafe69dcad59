-- Pieces without common spans, with labels: what a list of them says of a drawing, and labels of single spans.
use Rattle.std.proofs.Common.{◌≡◌, ℕ, ◌+◌, ◌*◌, ◌<◌, ◌≤◌, true, List, [], ◌∷◌, refl, sym, ◌∙◌, ap, subst, arith, ◌⊎◌, inl, inr}
use Rattle.std.proofs.lemmas.Bool.{cases_eq}
use Rattle.obd_base.specs.Lists.{Mem, Once}
use Rattle.page_surface.specs.Drawing.{Chord}
use Rattle.drawing.specs.Pieces.{same_piece}
use Rattle.drawing.proofs.fingers.Arranged.{Arranged}
use Rattle.finger_move.proofs.PushedNext.{next}
use Rattle.finger_move.proofs.Cycles.{IsCycle}
use Rattle.nice_plan.proofs.Distance.{dist}
use Rattle.nice_plan.proofs.Pushing.{SameChords}
use Rattle.nice_plan.proofs.Ledger.{Piece, score, total, times, label_at, times_none, times_once}
use Rattle.nice_plan.proofs.falling.Reordered.{dist_order, same_order, cycle_order}

-- no span lies in two of the pieces
abbrev pub Disjoint : List Piece → Type 0
Disjoint [] = Unit {0}
Disjoint (p ∷ ps) = ((q : Piece) → Mem q ps → (z : ℕ) → Mem z p.spans → Mem z q.spans → ⊥) × Disjoint ps

-- a span in one piece with a gap
abbrev pub AtBase : List Chord → List ℕ → ℕ → Type 0
AtBase cs gs z = (g : ℕ) × Mem g gs × (same_piece cs z g ≡ true)

-- a list of all pieces but the base ones; each has label 0, or its distance, which is at most D
pub record Tally (D : ℕ) (cs : List Chord) (gs : List ℕ) (ps : List Piece) : Type 0 where
  pub cycles : (p : Piece) → Mem p ps → IsCycle (next cs) p.spans
  pub apart : Disjoint ps
  pub covers : (z : ℕ) → AtBase cs gs z ⊎ ((p : Piece) × Mem p ps × Mem z p.spans)
  pub inner : (p : Piece) → Mem p ps → (z : ℕ) → Mem z p.spans → 0 < dist cs gs z
  pub labelled : (p : Piece) → Mem p ps → (z : ℕ) → Mem z p.spans → (p.label ≡ 0) ⊎ ((p.label ≡ dist cs gs z) × (p.label ≤ D))

-- what is true of each listed piece that has span z
abbrev pub Holds : List Piece → ℕ → (Piece → Type 0) → Type 0
Holds ps z Q = (p : Piece) → Mem p ps → Mem z p.spans → Q p

-- the piece of the span isn't counted
abbrev pub Zero : List Piece → ℕ → Type 0
Zero ps z = Holds ps z (λ p. p.label ≡ 0)

-- the piece of the span is counted, or base
abbrev pub Sure : List Piece → ℕ → Type 0
Sure ps z = Holds ps z (λ p. 0 < p.label)

-- a number stands in a list or does not
pub mem_dec : (s : ℕ) (rs : List ℕ) → Mem s rs ⊎ (Mem s rs → ⊥)
mem_dec s [] = inr (λ m. m)
mem_dec s (r ∷ rs) = elim (cases_eq s r) [
  | inl q ↦ inl (inl q)
  | inr n ↦ elim (mem_dec s rs) [ inl m ↦ inl (inr m) | inr k ↦ inr (λ m. elim m [ inl q ↦ n q | inr m ↦ k m ]) ]
]

-- the same with the chords in another order
pub tally_order : (D : ℕ) (cs ds : List Chord) (gs : List ℕ) (ps : List Piece) → Arranged cs → Arranged ds → SameChords cs ds → Tally D cs gs ps → Tally D ds gs ps
tally_order D cs ds gs ps ok also same k = record {
  cycles = λ p m. cycle_order cs ds ok also same p.spans (k.cycles p m);
  apart = k.apart;
  covers = λ z. elim (k.covers z) [ inl b ↦ (let (g, i, q) = b in inl (g, i, same_order cs ds ok also same z g q)) | inr w ↦ inr w ];
  inner = λ p m z i. subst (λ n. 0 < n) (dist_order cs ds ok also same gs z) (k.inner p m z i);
  labelled = λ p m z i. elim (k.labelled p m z i) [ inl q ↦ inl q | inr q ↦ inr (q.0 ∙ dist_order cs ds ok also same gs z, q.1) ];
}

-- a member taken out of the list
pub record Rest (ps : List Piece) (p : Piece) : Type 0 where
  pub rest : List Piece
  pub into : (q : Piece) → Mem q rest → Mem q ps
  pub from : (q : Piece) → Mem q ps → (q ≡ p) ⊎ Mem q rest
  pub sum : total ps ≡ score p + total rest
  pub disjoint : Disjoint rest
  pub apart : (q : Piece) → Mem q rest → (z : ℕ) → Mem z p.spans → Mem z q.spans → ⊥

-- each member can be taken out
pub rest_of : (ps : List Piece) (p : Piece) → Mem p ps → Disjoint ps → Rest ps p
rest_of [] p m d = absurd m
rest_of (q ∷ ps) p (inl e) d = record {
  rest = ps;
  into = λ r m. inr m;
  from = λ r m. elim m [ inl k ↦ inl (k ∙ sym e) | inr k ↦ inr k ];
  sum = ap (λ (w : Piece). score w + total ps) (sym e);
  disjoint = d.1;
  apart = λ r m z i j. d.0 r m z (subst (λ (w : Piece). Mem z w.spans) e i) j;
}
rest_of (q ∷ ps) p (inr m) d =
    let r = rest_of ps p m d.1 in
    record {
      rest = q ∷ r.rest;
      into = λ s i. elim i [ inl e ↦ inl e | inr i ↦ inr (r.into s i) ];
      from = λ s i. elim i [ inl e ↦ inr (inl e) | inr i ↦ elim (r.from s i) [ inl e ↦ inl e | inr j ↦ inr (inr j) ] ];
      sum = omega (arith, r.sum);
      disjoint = (λ s i. d.0 s (r.into s i), r.disjoint);
      apart = λ s i z a b. elim i [ inl e ↦ d.0 p m z (subst (λ (w : Piece). Mem z w.spans) e b) a | inr i ↦ r.apart s i z a b ];
    }

-- a span of two listed pieces makes them one
pub one_piece : (ps : List Piece) → Disjoint ps → (p q : Piece) → Mem p ps → Mem q ps → (z : ℕ) → Mem z p.spans → Mem z q.spans → p ≡ q
one_piece [] d p q m n z i j = absurd m
one_piece (r ∷ ps) d p q (inl e) (inl f) z i j = e ∙ sym f
one_piece (r ∷ ps) d p q (inl e) (inr n) z i j = absurd (d.0 q n z (subst (λ (w : Piece). Mem z w.spans) e i) j)
one_piece (r ∷ ps) d p q (inr m) (inl f) z i j = absurd (d.0 p m z (subst (λ (w : Piece). Mem z w.spans) f j) i)
one_piece (r ∷ ps) d p q (inr m) (inr n) z i j = one_piece ps d.1 p q m n z i j

label_none : (ps : List Piece) (s : ℕ) → ((p : Piece) → Mem p ps → Mem s p.spans → ⊥) → label_at ps s ≡ 0
label_none [] s h = refl
label_none (p ∷ ps) s h =
    let e = times_none s p.spans (λ m. h p (inl refl) m) in
    let k : times s p.spans * p.label ≡ 0 * p.label = ap (λ z. z * p.label) e in
    omega (arith, k, label_none ps s (λ q m. h q (inr m)))

-- the label that counts at a span is that of its piece
pub label_most : (ps : List Piece) (s l : ℕ) → Disjoint ps → ((p : Piece) → Mem p ps → Once p.spans) → Holds ps s (λ p. p.label ≤ l) → label_at ps s ≤ l
label_most [] s l d o h = omega arith
label_most (p ∷ ps) s l d o h = elim (mem_dec s p.spans) [
  | inl m ↦ (
      let k : times s p.spans * p.label ≡ 1 * p.label = ap (λ z. z * p.label) (times_once s p.spans (o p (inl refl)) m) in
      omega (arith, k, h p (inl refl) m, label_none ps s (λ q i j. d.0 q i s m j)))
  | inr n ↦ (
      let k : times s p.spans * p.label ≡ 0 * p.label = ap (λ z. z * p.label) (times_none s p.spans n) in
      omega (arith, k, label_most ps s l d.1 (λ q m. o q (inr m)) (λ q m. h q (inr m))))
]

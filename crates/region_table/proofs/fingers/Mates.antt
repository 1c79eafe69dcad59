-- The other ends of chords after a finger: all are carried but six.
use Rattle.std.proofs.Common.{◌≡◌, ℕ, suc, ◌+◌, ◌<◌, Bool, true, false, List, map, length, get_or, refl, sym, ◌∙◌, ap, subst, arith, ◌⊎◌, inl, inr, ◌≢◌}
use Rattle.std.proofs.lemmas.Bool.{cases_eq}
use Rattle.obd_base.specs.Lists.{Mem}
use Rattle.obd_base.proofs.lists.Below.{mem_below}
use Rattle.obd_base.proofs.lists.Sums.{by_entries}
use Rattle.page_surface.specs.Drawing.{Chord, Drawing, IsEmbedded, chords}
use Rattle.drawing.specs.Pieces.{gap, span_count, spans}
use Rattle.drawing.specs.Round.{other_end}
use Rattle.drawing.proofs.fingers.Finger.{back, carry, onto, pushed, turn}
use Rattle.region_table.specs.FingerLists.{AreMatesAfter}
use Rattle.region_table.proofs.fingers.Pushed.{IsPushed, number_cases}
use Rattle.region_table.proofs.fingers.Next.{far, near}
use Rattle.drawing.proofs.fingers.Shift.{early, shift}
use Rattle.region_table.proofs.SameMembers.{map_same}
use Rattle.drawing.proofs.Diagram.{at_most_one_end, chord_at_spot, mate, mate_gap, which_place}
use Rattle.drawing.proofs.Mates.{Joins, other_joins}
use Rattle.obd_base.proofs.lists.Members.{mem_to_map}

module _ (d e : Drawing) (ok : IsEmbedded d) (new_ok : IsEmbedded e) (t u : ℕ) (out : Bool) (c : Chord) (es : List Chord) (push : IsPushed d e t u out c es) where
  -- a chord of the list joins its ends
  joined : (x : Chord) (y z : ℕ) → Mem x (pushed t u out c es) → Joins x y z → other_end (chords e) y ≡ z
  joined x y z m j = other_joins (chords e) (at_most_one_end e new_ok) x y z (push.new_from x m) j

  -- the three parts
  first_part : (out : Bool) → ((x : Chord) (y z : ℕ) → Mem x (pushed t u out c es) → Joins x y z → other_end (chords e) y ≡ z)
      → AreMatesAfter 0 t u (near out c) (far out c) (other_end (chords d)) (other_end (chords e))
  first_part true at = record {
    others = λ s l. absurd (omega arith);
    at_near = at (back t u true c) (shift t u c.to) (early t u) (inr (inr (inl refl))) (inr (refl, refl));
    at_early = at (back t u true c) (early t u) (shift t u c.to) (inr (inr (inl refl))) (inl (refl, refl));
    at_far = at (onto t u true c) (shift t u c.from) (suc (early t u)) (inl refl) (inl (refl, refl));
    at_late = at (onto t u true c) (suc (early t u)) (shift t u c.from) (inl refl) (inr (refl, refl));
    at_beyond = at (turn t u true) (early u t) (suc (early u t)) (inr (inl refl)) (inl (refl, refl));
    at_tip = at (turn t u true) (suc (early u t)) (early u t) (inr (inl refl)) (inr (refl, refl));
  }
  first_part false at = record {
    others = λ s l. absurd (omega arith);
    at_near = at (onto t u false c) (shift t u c.from) (early t u) (inl refl) (inl (refl, refl));
    at_early = at (onto t u false c) (early t u) (shift t u c.from) (inl refl) (inr (refl, refl));
    at_far = at (back t u false c) (shift t u c.to) (suc (early t u)) (inr (inr (inl refl))) (inr (refl, refl));
    at_late = at (back t u false c) (suc (early t u)) (shift t u c.to) (inr (inr (inl refl))) (inl (refl, refl));
    at_beyond = at (turn t u false) (early u t) (suc (early u t)) (inr (inl refl)) (inr (refl, refl));
    at_tip = at (turn t u false) (suc (early u t)) (early u t) (inr (inl refl)) (inl (refl, refl));
  }

  -- an end of the pushed chord is the near or the far one
  its_end : (out : Bool) (s y : ℕ) → Joins c s y → (s ≡ near out c) ⊎ (s ≡ far out c)
  its_end true s y (inl w) = inr (sym w.0)
  its_end true s y (inr w) = inl (sym w.0)
  its_end false s y (inl w) = inl (sym w.0)
  its_end false s y (inr w) = inr (sym w.0)

  -- a carried chord joins the carried ends
  carried_joins : (x : Chord) (y z : ℕ) → Joins x y z → Joins (carry t u x) (shift t u y) (shift t u z)
  carried_joins x y z (inl w) = inl (ap (shift t u) w.0, ap (shift t u) w.1)
  carried_joins x y z (inr w) = inr (ap (shift t u) w.0, ap (shift t u) w.1)

  -- all other numbers
  kept : (s : ℕ) → s < span_count d → s ≢ near out c → s ≢ far out c → other_end (chords e) (shift t u s) ≡ shift t u (mate d ok s)
  kept s l n f = elim (which_place d ok s l) [
    | inr w ↦
        let (k, lk, q) = w in
        let here : mate d ok s ≡ s = subst (λ y. mate d ok y ≡ y) (sym q) (mate_gap d ok k) in
        let there : shift t u s ≡ gap e k = ap (shift t u) q ∙ sym (push.gaps k lk) in
        subst (λ y. other_end (chords e) y ≡ y) (sym there) (mate_gap e new_ok k) ∙ ap (shift t u) (sym here)
    | inl w ↦
        let (k, j, lk, lj, q) = w in
        let (x, m, join0) = chord_at_spot d ok k j lk lj in
        let join : Joins x s (mate d ok s) = subst (λ y. Joins x y (mate d ok y)) (sym q) join0 in
        elim (push.old_to x m) [
          | inl same ↦ elim (its_end out s (mate d ok s) (subst (λ y. Joins y s (mate d ok s)) same join)) [ inl a ↦ absurd (n a) | inr a ↦ absurd (f a) ]
          | inr i ↦ joined (carry t u x) (shift t u s) (shift t u (mate d ok s)) (inr (inr (inr (mem_to_map (carry t u) x es i)))) (carried_joins x s (mate d ok s) join)
        ]
  ]

  -- the other ends after the finger
  pub mates_after : AreMatesAfter (span_count d) t u (near out c) (far out c) (other_end (chords d)) (other_end (chords e))
  mates_after =
      let parts = first_part out joined in
      record { others = kept; at_near = parts.at_near; at_early = parts.at_early; at_far = parts.at_far; at_late = parts.at_late; at_beyond = parts.at_beyond; at_tip = parts.at_tip }

-- two tables of which the same was written agree
pub mates_agree : (total t u n f : ℕ) (mates a b : ℕ → ℕ) → t ≢ u → t < total → u < total → AreMatesAfter total t u n f mates a → AreMatesAfter total t u n f mates b
    → (w : ℕ) → w < total + 4 → a w ≡ b w
mates_agree total t u n f mates a b ne lt lu x y w lw = elim (number_cases t u total ne lt lu w lw) [
  | inl k ↦
      let (s, ls, q) = k in
      elim (cases_eq s n) [
        | inl e ↦ (let v : w ≡ shift t u n = q ∙ ap (shift t u) e in subst (λ z. a z ≡ b z) (sym v) (x.at_near ∙ sym y.at_near))
        | inr m ↦ elim (cases_eq s f) [
          | inl e ↦ (let v : w ≡ shift t u f = q ∙ ap (shift t u) e in subst (λ z. a z ≡ b z) (sym v) (x.at_far ∙ sym y.at_far))
          | inr o ↦ subst (λ z. a z ≡ b z) (sym q) (x.others s ls m o ∙ sym (y.others s ls m o))
        ]
      ]
  | inr k ↦ elim k [
    | inl q ↦ subst (λ z. a z ≡ b z) (sym q) (x.at_early ∙ sym y.at_early)
    | inr k ↦ elim k [
      | inl q ↦ subst (λ z. a z ≡ b z) (sym q) (x.at_late ∙ sym y.at_late)
      | inr k ↦ elim k [
        | inl q ↦ subst (λ z. a z ≡ b z) (sym q) (x.at_beyond ∙ sym y.at_beyond)
        | inr q ↦ subst (λ z. a z ≡ b z) (sym q) (x.at_tip ∙ sym y.at_tip)
      ]
    ]
  ]
]

-- so a table so written is that of the drawing after the finger
pub mates_table : (d e : Drawing) (ok : IsEmbedded d) (new_ok : IsEmbedded e) (t u : ℕ) (out : Bool) (c : Chord) (es : List Chord) → IsPushed d e t u out c es
    → (table : List ℕ) → length table ≡ span_count e → AreMatesAfter (span_count d) t u (near out c) (far out c) (other_end (chords d)) (λ w. get_or table w 0)
    → table ≡ map (other_end (chords e)) (spans e)
mates_table d e ok new_ok t u out c es push table size written =
    by_entries 0 table (span_count e) size ∙ map_same (λ w. get_or table w 0) (other_end (chords e)) (spans e) (λ w m.
    mates_agree (span_count d) t u (near out c) (far out c) (other_end (chords d)) (λ w. get_or table w 0) (other_end (chords e)) push.apart push.entered_in push.beyond_in
    written (mates_after d e ok new_ok t u out c es push) w (let l = mem_below (span_count e) w m in omega (arith, l, push.spans)))

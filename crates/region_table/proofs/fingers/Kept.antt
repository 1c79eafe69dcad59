-- Which pieces a finger keeps: all but those that a new span touches.
use Rattle.std.proofs.Common.{◌≡◌, ℕ, suc, Bool, true, false, ltb, not, List, [], ◌∷◌, refl, sym, ◌∙◌, ap, subst, arith, ◌⊎◌, inl, inr, ◌≢◌}
use Rattle.std.proofs.lemmas.Bool.{false≢true, le-ltb, cases_Bool}
use Rattle.page_surface.specs.Drawing.{Chord, beyond, differ}
use Rattle.drawing.specs.Pieces.{same_piece}
use Rattle.drawing.proofs.SamePiece.{same_piece_sym, same_piece_refl}
use Rattle.drawing.proofs.SamePiece.{differ-false as same_from_differ}
use Rattle.drawing.proofs.ChordTree.{same_from_each}
use Rattle.obd_base.specs.Lists.{Mem}
use Rattle.drawing.proofs.fingers.Shift.{shift, early, shift_new, shift_swap}
use Rattle.drawing.proofs.fingers.Arranged.{Arranged, alike}
use Rattle.drawing.proofs.fingers.Finger.{carry, onto, turn, back, pushed, start, sees_shift, sees_early, beyond_onto, beyond_back, beyond_turn}
use Rattle.drawing.proofs.fingers.OneEffect.{IsOpen, start_apart, effect_arranged}
use Rattle.region_table.proofs.fingers.Next.{near, Table, table}
use Rattle.region_table.proofs.fingers.Walk.{next_same}
use Rattle.drawing.proofs.Orbits.{same_then}
use Rattle.region_table.proofs.fingers.Homes.{old_same, old_early, new_same, early_onto, early_back, own}
use Rattle.region_table.proofs.fingers.Turn.{agree_both, flip_both, new_cases, no_fixed, shift_other, turn_early, turn_only, turn_tip, two_ends}
use Rattle.obd_base.proofs.lists.Members.{mem_map}

-- a piece is kept where its spans, each with both its bounds, are those of an old piece, carried; spans t and u lose a bound
pub record IsKept (t u : ℕ) (old new : List Chord) (z : ℕ) : Type 0 where
  pub span : ℕ
  pub carried : z ≡ shift t u span
  pub whole : (r : ℕ) → same_piece old span r ≡ true → (r ≢ t) × (r ≢ u) × (same_piece new z (shift t u r) ≡ true)
  pub only : (w : ℕ) → same_piece new z w ≡ true → (r : ℕ) × (w ≡ shift t u r) × (same_piece old span r ≡ true)

-- the five names: the two parts, behind the chord, beyond the segment, the tip
abbrev pub touched : ℕ → ℕ → List ℕ
touched t u = early t u ∷ shift t u t ∷ suc (early t u) ∷ early u t ∷ suc (early u t) ∷ []

module _ (t u : ℕ) (out : Bool) (c : Chord) (es : List Chord) (ne : t ≢ u) (ok : Arranged (c ∷ es)) (legal : IsOpen t out c es) (loop : same_piece (c ∷ es) t u ≡ false) where
  -- the chords before the finger
  abbrev old : List Chord
  old = c ∷ es

  -- and after it
  abbrev new : List Chord
  new = pushed t u out c es

  -- the near end of the pushed chord
  abbrev x : ℕ
  x = near out c

  -- the new chords are arranged
  arranged : Arranged new
  arranged = effect_arranged t u out c es ne ok legal

  -- the other ends at the new numbers
  tab : Table t u out c es
  tab = table t u out c es arranged

  -- the middle span lies behind the chord, the first part of u beyond the segment
  pub middle_behind : same_piece new (shift t u x) (suc (early t u)) ≡ true
  middle_behind = subst (λ w. same_piece new (shift t u x) (suc w) ≡ true) tab.at_near (next_same new arranged (shift t u x))

  -- the new span beyond lies in the piece beyond the segment
  pub third_beyond : same_piece new (early u t) (shift t u u) ≡ true
  third_beyond = subst (λ w. same_piece new (early u t) w ≡ true) (ap suc tab.at_beyond ∙ sym (shift_other t u)) (next_same new arranged (early u t))

  -- the span behind the chord isn't in the split piece
  pub behind_apart : same_piece old x t ≡ true → ⊥
  behind_apart h = go out legal h
    where
      go : (out : Bool) → same_piece old (start out c) t ≡ true → same_piece old (near out c) t ≡ true → ⊥
      go false l h = start_apart c ok.0 (alike old (suc c.from) t l c (inl refl) ∙ sym (alike old c.from t h c (inl refl)))
      go true l h = two_ends c ok.0 (alike old c.from t l c (inl refl) ∙ sym (alike old c.to t h c (inl refl)))

  -- the tip is a piece of one span
  pub tip_alone : (w : ℕ) → same_piece new (suc (early u t)) w ≡ true → w ≡ suc (early u t)
  tip_alone w h = turn_only t u out w (sym (alike new (suc (early u t)) w h (turn t u out) (inr (inl refl))) ∙ turn_tip t u out)

  -- the two parts of the split piece are two pieces
  pub parts_apart : same_piece new (early t u) (shift t u t) ≡ true → ⊥
  parts_apart h =
      let q = alike new (early t u) (shift t u t) h (onto t u out c) (inl refl) in
      no_fixed (ltb c.from t) (sym (early_onto t u out c es out) ∙ q ∙ beyond_onto t u out c t ∙ ap (λ b. differ (ltb c.from t) (not b)) (le-ltb t t (omega arith)))

  -- the split piece's spans lie in one of the two parts
  pub in_parts : (s : ℕ) → same_piece old s t ≡ true → (same_piece new (shift t u s) (early t u) ≡ true) ⊎ (same_piece new (shift t u s) (shift t u t) ≡ true)
  in_parts s h = elim (cases_Bool (differ (beyond (onto t u out c) (shift t u s)) (ltb c.from t))) [
    | inr q ↦ inl (same_from_each new (shift t u s) (early t u) (λ e i. to_early q e i))
    | inl q ↦ inr (same_from_each new (shift t u s) (shift t u t) (λ e i. to_last q e i))
  ]
    where
      both : differ (beyond (onto t u out c) (shift t u s)) (beyond (back t u out c) (shift t u s)) ≡ differ (ltb c.from t) (ltb c.to t)
      both = sym (own t u out c es s) ∙ alike old s t h c (inl refl)

      other_chords : (e : Chord) → Mem e es → beyond (carry t u e) (shift t u s) ≡ beyond e t
      other_chords e k = sees_shift t u e s ∙ alike old s t h e (inr k)

      to_early : differ (beyond (onto t u out c) (shift t u s)) (ltb c.from t) ≡ false → (e : Chord) → Mem e new → beyond e (shift t u s) ≡ beyond e (early t u)
      to_early q e i =
          let a = same_from_differ _ _ q in
          let b = agree_both _ _ _ _ both a in
          elim i [
            | inl r ↦ subst (λ w. beyond w (shift t u s) ≡ beyond w (early t u)) (sym r) (a ∙ sym (early_onto t u out c es out))
            | inr i ↦ elim i [
              | inl r ↦ subst (λ w. beyond w (shift t u s) ≡ beyond w (early t u)) (sym r) (beyond_turn t u out s ∙ sym (turn_early t u out ne))
              | inr i ↦ elim i [
                | inl r ↦ subst (λ w. beyond w (shift t u s) ≡ beyond w (early t u)) (sym r) (b ∙ sym (early_back t u out c es out))
                | inr i ↦ (let (y, k, r) = mem_map (carry t u) e es i in
                    subst (λ w. beyond w (shift t u s) ≡ beyond w (early t u)) (sym r) (other_chords y k ∙ sym (sees_early t u y)))
              ]
            ]
          ]

      last_onto : beyond (onto t u out c) (shift t u t) ≡ differ (ltb c.from t) true
      last_onto = beyond_onto t u out c t ∙ ap (λ b. differ (ltb c.from t) (not b)) (le-ltb t t (omega arith))

      last_back : beyond (back t u out c) (shift t u t) ≡ differ true (ltb c.to t)
      last_back = beyond_back t u out c t ∙ ap (λ b. differ (not b) (ltb c.to t)) (le-ltb t t (omega arith))

      to_last : differ (beyond (onto t u out c) (shift t u s)) (ltb c.from t) ≡ true → (e : Chord) → Mem e new → beyond e (shift t u s) ≡ beyond e (shift t u t)
      to_last q e i =
          let a = flip_both _ _ _ _ both q in
          elim i [
            | inl r ↦ subst (λ w. beyond w (shift t u s) ≡ beyond w (shift t u t)) (sym r) (a.0 ∙ sym last_onto)
            | inr i ↦ elim i [
              | inl r ↦ subst (λ w. beyond w (shift t u s) ≡ beyond w (shift t u t)) (sym r) (beyond_turn t u out s ∙ sym (beyond_turn t u out t))
              | inr i ↦ elim i [
                | inl r ↦ subst (λ w. beyond w (shift t u s) ≡ beyond w (shift t u t)) (sym r) (a.1 ∙ sym last_back)
                | inr i ↦ (let (y, k, r) = mem_map (carry t u) e es i in
                    subst (λ w. beyond w (shift t u s) ≡ beyond w (shift t u t)) (sym r) (other_chords y k ∙ sym (sees_shift t u y t)))
              ]
            ]
          ]

  -- every new span lies in one of the five pieces, or its piece is kept
  pub touched_or_kept : (w : ℕ) → ((n : ℕ) × Mem n (touched t u) × (same_piece new w n ≡ true)) ⊎ IsKept t u old new w
  touched_or_kept w = elim (new_cases t u ne w) [
    | inl k ↦ (let (s, q) = k in subst (λ v. ((n : ℕ) × Mem n (touched t u) × (same_piece new v n ≡ true)) ⊎ IsKept t u old new v) (sym q) (go s))
    | inr k ↦ elim k [
      | inl q ↦ inl (early t u, inl refl, subst (λ v. same_piece new v (early t u) ≡ true) (sym q) (same_piece_refl new (early t u)))
      | inr k ↦ elim k [
        | inl q ↦ inl (suc (early t u), inr (inr (inl refl)), subst (λ v. same_piece new v (suc (early t u)) ≡ true) (sym q) (same_piece_refl new (suc (early t u))))
        | inr k ↦ elim k [
          | inl q ↦ inl (early u t, inr (inr (inr (inl refl))), subst (λ v. same_piece new v (early u t) ≡ true) (sym q) (same_piece_refl new (early u t)))
          | inr q ↦ inl (suc (early u t), inr (inr (inr (inr (inl refl)))), subst (λ v. same_piece new v (suc (early u t)) ≡ true) (sym q) (same_piece_refl new (suc (early u t))))
        ]
      ]
    ]
  ]
    where
      kept : (s : ℕ) → same_piece old s t ≡ false → same_piece old s x ≡ false → same_piece old s u ≡ false → IsKept t u old new (shift t u s)
      kept s nt nx nu = record {
        span = s;
        carried = refl;
        whole = λ r h. (
          λ q. false≢true (sym nt ∙ subst (λ v. same_piece old s v ≡ true) q h),
          λ q. false≢true (sym nu ∙ subst (λ v. same_piece old s v ≡ true) q h),
          new_same t u out c es ne ok legal s r h nt,
        );
        only = λ w h. elim (new_cases t u ne w) [
          | inl k ↦ (let (r, q) = k in (r, q, old_same t u out c es s r (subst (λ v. same_piece new (shift t u s) v ≡ true) q h)))
          | inr k ↦ absurd (elim k [
            | inl q ↦ false≢true (sym nt ∙ same_piece_sym old t s (old_early t u out c es s (same_piece_sym new (shift t u s) (early t u) (subst (λ v. same_piece new (shift t u s) v ≡ true) q h))))
            | inr k ↦ elim k [
              | inl q ↦ false≢true (sym nx ∙ old_same t u out c es s x
                  (same_then new _ _ _ (subst (λ v. same_piece new (shift t u s) v ≡ true) q h) (same_piece_sym new _ _ middle_behind)))
              | inr k ↦ elim k [
                | inl q ↦ false≢true (sym nu ∙ old_same t u out c es s u
                    (same_then new _ _ _ (subst (λ v. same_piece new (shift t u s) v ≡ true) q h) third_beyond))
                | inr q ↦ (shift_new u t s).1 (sym (shift_swap t u s) ∙ tip_alone (shift t u s) (same_piece_sym new _ _ (subst (λ v. same_piece new (shift t u s) v ≡ true) q h)))
              ]
            ]
          ])
        ];
      }

      go : (s : ℕ) → ((n : ℕ) × Mem n (touched t u) × (same_piece new (shift t u s) n ≡ true)) ⊎ IsKept t u old new (shift t u s)
      go s = elim (cases_Bool (same_piece old s t)) [
        | inl h ↦ inl (elim (in_parts s h) [ inl q ↦ (early t u, inl refl, q) | inr q ↦ (shift t u t, inr (inl refl), q) ])
        | inr nt ↦ elim (cases_Bool (same_piece old s x)) [
          | inl h ↦ inl (suc (early t u), inr (inr (inl refl)), same_then new _ _ _ (new_same t u out c es ne ok legal s x h nt) middle_behind)
          | inr nx ↦ elim (cases_Bool (same_piece old s u)) [
            | inl h ↦ inl (early u t, inr (inr (inr (inl refl))), same_then new _ _ _ (new_same t u out c es ne ok legal s u h nt) (same_piece_sym new _ _ third_beyond))
            | inr nu ↦ inr (kept s nt nx nu)
          ]
        ]
      ]

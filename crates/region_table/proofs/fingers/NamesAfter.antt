-- The names of a table after a finger, entry by entry: they name the new drawing's pieces, and are again the numbers below a count.
use Rattle.std.proofs.Common.{◌≡◌, ℕ, suc, ◌+◌, ◌<◌, Bool, false, List, ◌∷◌, refl, sym, ◌∙◌, ap, subst, arith, inl, inr}
use Rattle.std.proofs.lemmas.Bool.{cases_Bool, cases_eq, cases_lt}
use Rattle.page_surface.specs.Drawing.{Chord, Drawing, chords}
use Rattle.drawing.specs.Pieces.{same_piece, span_count}
use Rattle.drawing.proofs.SamePiece.{same_piece_refl, same_piece_sym}
use Rattle.region_table.specs.Naming.{IsNaming}
use Rattle.drawing.proofs.fingers.Finger.{pushed}
use Rattle.region_table.proofs.fingers.Pushed.{IsPushed, grown_numbers, number_cases, same_chords}
use Rattle.region_table.proofs.fingers.Kept.{parts_apart}
use Rattle.region_table.proofs.fingers.Names.{IsNamedAnew, NamesAll, TellsParts, names_after}
use Rattle.region_table.proofs.fingers.Next.{near}
use Rattle.drawing.proofs.fingers.Shift.{early, shift}
use Rattle.region_table.proofs.fingers.Turn.{shift_other, shift_own}
use Rattle.region_table.proofs.fingers.Parts.{back_by_number, front_by_number}
use Rattle.region_table.specs.FingerLists.{IsNamedByFinger, comes_in_front}

module _ (d e : Drawing) (t u : ℕ) (out : Bool) (c : Chord) (es : List Chord) (push : IsPushed d e t u out c es) where
  -- spans in one piece, before and after
  pub old_is : (s r : ℕ) → same_piece (chords d) s r ≡ same_piece (c ∷ es) s r
  old_is s r = same_chords (chords d) (c ∷ es) s r push.old_from push.old_to

  -- and after
  pub new_is : (s r : ℕ) → same_piece (chords e) s r ≡ same_piece (pushed t u out c es) s r
  new_is s r = same_chords (chords e) (pushed t u out c es) s r push.new_from push.new_to

module _ (d e : Drawing) (t u : ℕ) (out : Bool) (c : Chord) (es : List Chord) (push : IsPushed d e t u out c es)
    (name name_after : ℕ → ℕ) (count : ℕ) (naming : IsNaming d name) (told : (s : ℕ) → s < span_count d → name s < count)
    (used : (p : ℕ) → p < count → (s : ℕ) × (s < span_count d) × (name s ≡ p))
    (made : IsNamedByFinger (span_count d) t u (near out c) count (comes_in_front c.from t) name name_after) where
  -- names over the list of chords
  names_old : NamesAll (c ∷ es) (span_count d) (λ s. s) name
  names_old = record {
    together = λ a b la lb h. naming.together a b la lb (old_is d e t u out c es push a b ∙ h);
    apart = λ a b la lb q. sym (old_is d e t u out c es push a b) ∙ naming.apart a b la lb q;
  }

  -- no other piece has the three names
  anew : IsNamedAnew (span_count d) (name t) (name (near out c)) (name u) (comes_in_front c.from t) name name_after (shift t u) (early t u) (suc (early t u)) (early u t) (suc (early u t))
      (name t) count (suc count)
  anew = record {
    others = made.others;
    in_first = made.in_first;
    in_second = made.in_second;
    at_front = made.at_front;
    at_middle = made.at_middle;
    at_beyond = made.at_beyond;
    at_tip = made.at_tip;
    one_two = λ q. absurd (omega (arith, q, told t push.entered_in));
    one_last = λ q. absurd (omega (arith, q, told t push.entered_in));
    two_last = λ q. absurd (omega (arith, q));
    free = λ s l n. (n, (λ q. absurd (omega (arith, q, told s l))), (λ q. absurd (omega (arith, q, told s l))));
  }

  -- the numbers tell the two parts
  parts : TellsParts t u out c es push.apart push.arranged push.legal push.no_loop (span_count d) (span_count d + 4) (λ s. s) (λ s. s) (shift t u)
      (early t u) (suc (early t u)) (early u t) (suc (early u t)) (grown_numbers t u (span_count d) push.apart push.entered_in push.beyond_in)
      (comes_in_front c.from t) name name_after (name t) count (suc count) t (near out c) u (push.entered_in, push.behind_in, push.beyond_in) (refl, refl, refl) anew names_old
  parts = record {
    yes = λ s l h f. front_by_number t u out c es push.apart push.arranged push.legal push.no_loop s h f;
    no = λ s l h f. back_by_number t u out c es push.apart push.arranged push.legal push.no_loop s h f;
  }

  -- the new names name the new drawing's pieces
  pub naming_after : IsNaming e name_after
  naming_after = record {
    together = λ a b la lb h. all.together a b (inside a la) (inside b lb) (sym (new_is d e t u out c es push a b) ∙ h);
    apart = λ a b la lb q. new_is d e t u out c es push a b ∙ all.apart a b (inside a la) (inside b lb) q;
  }
    where
      all : NamesAll (pushed t u out c es) (span_count d + 4) (λ s. s) name_after
      all = names_after t u out c es push.apart push.arranged push.legal push.no_loop (span_count d) (span_count d + 4) (λ s. s) (λ s. s) (shift t u)
          (early t u) (suc (early t u)) (early u t) (suc (early u t)) (grown_numbers t u (span_count d) push.apart push.entered_in push.beyond_in)
          (comes_in_front c.from t) name name_after (name t) count (suc count) t (near out c) u (push.entered_in, push.behind_in, push.beyond_in) (refl, refl, refl) anew names_old parts

      inside : (a : ℕ) → a < span_count e → a < span_count d + 4
      inside a l = omega (arith, push.spans)

  -- each new span has an old name or one of the two new ones
  pub told_after : (w : ℕ) → w < span_count e → name_after w < count + 2
  told_after w l = elim (number_cases t u (span_count d) push.apart push.entered_in push.beyond_in w (omega (arith, push.spans))) [
    | inl k ↦ (let (r, lr, q) = k in subst (λ v. name_after v < count + 2) (sym q) (carried r lr))
    | inr k ↦ elim k [
      | inl q ↦ (let v = ap name_after q ∙ made.at_front in omega (arith, v, told t push.entered_in))
      | inr k ↦ elim k [
        | inl q ↦ (let v = ap name_after q ∙ made.at_middle in omega (arith, v, told (near out c) push.behind_in))
        | inr k ↦ elim k [
          | inl q ↦ (let v = ap name_after q ∙ made.at_beyond in omega (arith, v, told u push.beyond_in))
          | inr q ↦ (let v = ap name_after q ∙ made.at_tip in omega (arith, v))
        ]
      ]
    ]
  ]
    where
      carried : (r : ℕ) → r < span_count d → name_after (shift t u r) < count + 2
      carried r lr = elim (cases_eq (name r) (name t)) [
        | inr ne ↦ omega (arith, made.others r lr ne, told r lr)
        | inl q ↦ elim (cases_Bool (comes_in_front c.from t r)) [
          | inl f ↦ omega (arith, made.in_first r lr q f, told t push.entered_in)
          | inr f ↦ omega (arith, made.in_second r lr q f)
        ]
      ]

  -- a carried span is a span
  pub carried_in : (r : ℕ) → r < span_count d → shift t u r < span_count e
  carried_in r l = omega (arith, push.spans, (grown_numbers t u (span_count d) push.apart push.entered_in push.beyond_in).carried_in r l)

  -- so are the four new ones
  pub new_in : (early t u < span_count e) × (suc (early t u) < span_count e) × (early u t < span_count e) × (suc (early u t) < span_count e)
  new_in =
      let a = carried_in t push.entered_in in
      let b = carried_in u push.beyond_in in
      let x : shift t u t ≡ suc (suc (early t u)) = shift_own t u in
      let y : shift t u u ≡ suc (suc (early u t)) = shift_other t u in
      (omega (arith, a, x), omega (arith, a, x), omega (arith, b, y), omega (arith, b, y))

  -- span t itself comes into the other part
  pub t_behind : comes_in_front c.from t t ≡ false
  t_behind = elim (cases_Bool (comes_in_front c.from t t)) [
    | inr q ↦ q
    | inl q ↦
        let h = front_by_number t u out c es push.apart push.arranged push.legal push.no_loop t (same_piece_refl (c ∷ es) t) q in
        absurd (parts_apart t u out c es push.apart push.arranged push.legal push.no_loop (same_piece_sym (pushed t u out c es) (shift t u t) (early t u) h))
  ]

  -- each name below the new count is used
  pub used_after : (p : ℕ) → p < count + 2 → (w : ℕ) × (w < span_count e) × (name_after w ≡ p)
  used_after p l = elim (cases_lt p count) [
    | inl h ↦
        let (s, ls, q) = used p h in
        elim (cases_eq (name s) (name t)) [
          | inl same ↦ (early t u, new_in.0, made.at_front ∙ (sym same ∙ q))
          | inr ne ↦ (shift t u s, carried_in s ls, made.others s ls ne ∙ q)
        ]
    | inr h ↦ elim (cases_eq p count) [
      | inl q ↦ (shift t u t, carried_in t push.entered_in, made.in_second t push.entered_in refl t_behind ∙ sym q)
      | inr ne ↦ (suc (early u t), new_in.3, made.at_tip ∙ omega arith)
    ]
  ]

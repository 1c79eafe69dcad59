-- A finger keeps the names of kept pieces, and changes or makes four pieces, or five.
use Rattle.std.proofs.Common.{◌≡◌, ℕ, suc, ◌+◌, ◌<◌, Bool, true, false, cond, eqb, List, [], ◌∷◌, map, length, refl, sym, ◌∙◌, ap, subst, arith, inl, inr, ◌≢◌}
use Rattle.std.proofs.lemmas.Bool.{cases_eq, cases_lt, eq-eqb, false≢true, ne_eqb}
use Rattle.obd_base.specs.Lists.{Mem, Once}
use Rattle.obd_base.proofs.lists.Below.{below_mem, mem_below}
use Rattle.obd_base.proofs.lists.Members.{filter_mem, mem_filter, mem_map}
use Rattle.page_surface.specs.Drawing.{Chord, Drawing, chords}
use Rattle.drawing.specs.Pieces.{same_piece, segments_in, span_count, spans}
use Rattle.obd_base.proofs.lists.Members.{mem_to_map}
use Rattle.drawing.proofs.SamePiece.{same_piece_refl, same_piece_sym}
use Rattle.region_table.specs.Naming.{IsNaming}
use Rattle.drawing.proofs.fingers.Finger.{pushed}
use Rattle.drawing.proofs.Orbits.{same_then}
use Rattle.region_table.proofs.fingers.Pushed.{IsPushed}
use Rattle.region_table.proofs.fingers.Kept.{IsKept, behind_apart, middle_behind, touched, touched_or_kept}
use Rattle.region_table.proofs.fingers.Next.{near}
use Rattle.drawing.proofs.fingers.Shift.{early, rooms, shift, shift_less, shift_new}
use Rattle.region_table.specs.FingerLists.{IsNamedByFinger, comes_in_front}
use Rattle.region_table.proofs.fingers.NamesAfter.{carried_in, naming_after, new_in, new_is, old_is, t_behind}
use Rattle.region_table.proofs.RisingLists.{one_rising, rising_filter, rising_map}

-- a piece of e whose spans are those of a piece of d, carried, spans t and u left aside
pub record IsKeptIn (d e : Drawing) (t u old new : ℕ) : Type 0 where
  pub whole : segments_in e new ≡ map (shift t u) (segments_in d old)
  pub apart : Mem t (segments_in d old) → ⊥
  pub apart_beyond : Mem u (segments_in d old) → ⊥

-- a span is among those of its piece, and what is among them lies in the piece
pub segment_mem : (d : Drawing) (s r : ℕ) → r < span_count d → same_piece (chords d) s r ≡ true → Mem r (segments_in d s)
segment_mem d s r l h = filter_mem (same_piece (chords d) s) r (spans d) (below_mem (span_count d) r l) h

-- and what is among them is a span of the piece
pub mem_segment : (d : Drawing) (s r : ℕ) → Mem r (segments_in d s) → (r < span_count d) × (same_piece (chords d) s r ≡ true)
mem_segment d s r m = let (i, h) = mem_filter (same_piece (chords d) s) r (spans d) m in (mem_below (span_count d) r i, h)

module _ (d e : Drawing) (t u : ℕ) (out : Bool) (c : Chord) (es : List Chord) (push : IsPushed d e t u out c es) where
  -- a span of a kept piece is carried from one of the old piece
  pub record ComesFrom (old new : ℕ) : Type 0 where
    pub span : ℕ
    pub span_in : span < span_count d
    pub same : same_piece (chords d) old span ≡ true
    pub carried : new ≡ shift t u span

  -- each span of a kept piece comes from one of the old piece
  pub kept_from : (old new w : ℕ) → IsKeptIn d e t u old new → w < span_count e → same_piece (chords e) new w ≡ true → ComesFrom old w
  kept_from old new w k l h =
      let (r, m, q) = mem_map (shift t u) w (segments_in d old) (subst (λ xs. Mem w xs) k.whole (segment_mem e new w l h)) in
      let (lr, s) = mem_segment d old r m in
      record { span = r; span_in = lr; same = s; carried = q }

  -- what is kept by chords is kept by lists of spans
  pub kept_by_lists : (w : ℕ) → w < span_count e → (k : IsKept t u (c ∷ es) (pushed t u out c es) w) → (k.span < span_count d) × IsKeptIn d e t u k.span w
  kept_by_lists w lw k = (
    in_range k.span (sym k.carried),
    record {
      whole = one_rising (segments_in e w) (map (shift t u) (segments_in d k.span))
          (rising_filter (same_piece (chords e) w) 0 (span_count e))
          (rising_map (shift t u) (λ x y l. shift_less t u x y l) (segments_in d k.span) (rising_filter (same_piece (chords d) k.span) 0 (span_count d)))
          (λ z m.
          let (lz, h) = mem_segment e w z m in
          let (r, q, o) = k.only z (sym (new_is d e t u out c es push w z) ∙ h) in
          subst (λ y. Mem y (map (shift t u) (segments_in d k.span))) (sym q)
          (mem_to_map (shift t u) r (segments_in d k.span) (segment_mem d k.span r (in_range_of r z lz q) (old_is d e t u out c es push k.span r ∙ o))))
          (λ z m.
          let (r, i, q) = mem_map (shift t u) z (segments_in d k.span) m in
          let (lr, h) = mem_segment d k.span r i in
          let there = k.whole r (sym (old_is d e t u out c es push k.span r) ∙ h) in
          subst (λ y. Mem y (segments_in e w)) (sym q) (segment_mem e w (shift t u r) (carried_up r lr) (new_is d e t u out c es push w (shift t u r) ∙ there.2)));
      apart = λ m. (k.whole t (sym (old_is d e t u out c es push k.span t) ∙ (mem_segment d k.span t m).1)).0 refl;
      apart_beyond = λ m. (k.whole u (sym (old_is d e t u out c es push k.span u) ∙ (mem_segment d k.span u m).1)).1 refl;
    },
  )
    where
      in_range_of : (r z : ℕ) → z < span_count e → z ≡ shift t u r → r < span_count d
      in_range_of r z l q = elim (cases_lt r (span_count d)) [ inl h ↦ h | inr h ↦ absurd (omega (arith, push.spans, push.entered_in, push.beyond_in, rooms r t, rooms r u, q)) ]

      in_range : (r : ℕ) → shift t u r ≡ w → r < span_count d
      in_range r q = in_range_of r w lw (sym q)

      carried_up : (r : ℕ) → r < span_count d → shift t u r < span_count e
      carried_up r l = omega (arith, push.spans, push.entered_in, push.beyond_in, rooms r t, rooms r u)

module _ (d e : Drawing) (t u : ℕ) (out : Bool) (c : Chord) (es : List Chord) (push : IsPushed d e t u out c es)
    (name name_after : ℕ → ℕ) (count : ℕ) (naming : IsNaming d name) (told : (s : ℕ) → s < span_count d → name s < count)
    (used : (p : ℕ) → p < count → (s : ℕ) × (s < span_count d) × (name s ≡ p))
    (made : IsNamedByFinger (span_count d) t u (near out c) count (comes_in_front c.from t) name name_after) where
  -- the near end of the pushed chord
  abbrev x : ℕ
  x = near out c

  -- the chords before the finger
  abbrev old : List Chord
  old = c ∷ es

  -- a span of a kept piece isn't in the split one
  not_split : (o new : ℕ) → IsKeptIn d e t u o new → (r : ℕ) → r < span_count d → same_piece (chords d) o r ≡ true → name r ≢ name t
  not_split o new k r l h q = k.apart (segment_mem d o t push.entered_in (same_then (chords d) o r t h (naming.apart r t l push.entered_in q)))

  -- a kept piece has the name that it had
  pub kept_name : (o new : ℕ) → o < span_count d → new < span_count e → IsKeptIn d e t u o new → name_after new ≡ name o
  kept_name o new lo ln k =
      let from = kept_from d e t u out c es push o new new k ln (same_piece_refl (chords e) new) in
      ap name_after from.carried
      ∙ (made.others from.span from.span_in (not_split o new k from.span from.span_in from.same) ∙ naming.together from.span o from.span_in lo (same_piece_sym (chords d) o from.span from.same))

  -- the names of the changed pieces: the two parts, the tip, the piece behind the chord, and the piece beyond the segment where
  -- that is another one
  abbrev pub changed_names : List ℕ
  changed_names = name t ∷ count ∷ suc count ∷ name (near out c) ∷ cond (eqb (name u) (name (near out c))) [] (name u ∷ [])

  -- four, or five
  pub four_or_five : length changed_names ≡ cond (eqb (name u) (name (near out c))) 4 5
  four_or_five = go (eqb (name u) (name x))
    where
      go : (b : Bool) → suc (suc (suc (suc (length (cond b [] (name u ∷ [])))))) ≡ cond b 4 5
      go true = refl
      go false = refl

  -- the piece of a new number that was touched is one of them
  past_listed : Mem (name u) changed_names
  past_listed = elim (cases_eq (name u) (name x)) [
    | inl q ↦ inr (inr (inr (inl q)))
    | inr ne ↦ rw (ne_eqb (name u) (name x) ne) (inr (inr (inr (inr (inl refl)))))
  ]

  -- the name of each number that was touched is one of them
  touched_listed : (n : ℕ) → Mem n (touched t u) → (n < span_count e) × Mem (name_after n) changed_names
  touched_listed n m =
      let inside = new_in d e t u out c es push name name_after count naming told used made in
      go n inside m
    where
      go : (n : ℕ) → (early t u < span_count e) × (suc (early t u) < span_count e) × (early u t < span_count e) × (suc (early u t) < span_count e) → Mem n (touched t u)
          → (n < span_count e) × Mem (name_after n) changed_names
      go n i (inl q) = (subst (λ y. y < span_count e) (sym q) i.0, inl (ap name_after q ∙ made.at_front))
      go n i (inr (inl q)) = (
        subst (λ y. y < span_count e) (sym q) (carried_in d e t u out c es push name name_after count naming told used made t push.entered_in),
        inr (inl (ap name_after q ∙ made.in_second t push.entered_in refl (t_behind d e t u out c es push name name_after count naming told used made))),
      )
      go n i (inr (inr (inl q))) = (subst (λ y. y < span_count e) (sym q) i.1, inr (inr (inr (inl (ap name_after q ∙ made.at_middle)))))
      go n i (inr (inr (inr (inl q)))) = (subst (λ y. y < span_count e) (sym q) i.2, subst (λ p. Mem p changed_names) (sym (ap name_after q ∙ made.at_beyond)) past_listed)
      go n i (inr (inr (inr (inr (inl q))))) = (subst (λ y. y < span_count e) (sym q) i.3, inr (inr (inl (ap name_after q ∙ made.at_tip))))
      go n i (inr (inr (inr (inr (inr m))))) = absurd m

  -- a piece that is no old one has one of these names
  pub changed_listed : (w : ℕ) → w < span_count e → ((o : ℕ) → o < span_count d → IsKeptIn d e t u o w → ⊥) → Mem (name_after w) changed_names
  changed_listed w l none = elim (touched_or_kept t u out c es push.apart push.arranged push.legal push.no_loop w) [
    | inl q ↦
        let (n, m, h) = q in
        let (ln, i) = touched_listed n m in
        let names = naming_after d e t u out c es push name name_after count naming told used made in
        subst (λ p. Mem p changed_names) (sym (names.together w n l ln (new_is d e t u out c es push w n ∙ h))) i
    | inr k ↦ (let r = kept_by_lists d e t u out c es push w l k in absurd (none k.span r.0 r.1))
  ]

  -- a kept piece has none of them
  pub kept_unlisted : (o w : ℕ) → o < span_count d → w < span_count e → IsKeptIn d e t u o w → Mem (name_after w) changed_names → ⊥
  kept_unlisted o w lo lw k m =
      let from = kept_from d e t u out c es push o w w k lw (same_piece_refl (chords e) w) in
      let is : name_after w ≡ name from.span = ap name_after from.carried ∙ made.others from.span from.span_in (not_split o w k from.span from.span_in from.same) in
      go from.span from.span_in from.same from.carried (subst (λ p. Mem p changed_names) is m)
    where
      -- behind the chord lies the new middle span, which is not carried
      not_behind : (r : ℕ) → r < span_count d → same_piece (chords d) o r ≡ true → w ≡ shift t u r → name r ≡ name x → ⊥
      not_behind r l h q n =
          let there = segment_mem d o x push.behind_in (same_then (chords d) o r x h (naming.apart r x l push.behind_in n)) in
          let up = mem_segment e w (shift t u x) (subst (λ xs. Mem (shift t u x) xs) (sym k.whole) (mem_to_map (shift t u) x (segments_in d o) there)) in
          let middle = new_is d e t u out c es push (shift t u x) (suc (early t u)) ∙ middle_behind t u out c es push.apart push.arranged push.legal push.no_loop in
          let from = kept_from d e t u out c es push o w (suc (early t u)) k (new_in d e t u out c es push name name_after count naming told used made).1 (same_then (chords e) w (shift t u x) _ up.1 middle) in
          (shift_new t u from.span).1 (sym from.carried)

      not_past : (r : ℕ) → r < span_count d → same_piece (chords d) o r ≡ true → name r ≡ name u → ⊥
      not_past r l h n = k.apart_beyond (segment_mem d o u push.beyond_in (same_then (chords d) o r u h (naming.apart r u l push.beyond_in n)))

      last_one : (b : Bool) (r : ℕ) → Mem (name r) (cond b [] (name u ∷ [])) → name r ≡ name u
      last_one true r m = absurd m
      last_one false r (inl q) = q
      last_one false r (inr m) = absurd m

      go : (r : ℕ) → r < span_count d → same_piece (chords d) o r ≡ true → w ≡ shift t u r → Mem (name r) changed_names → ⊥
      go r l h q (inl n) = not_split o w k r l h n
      go r l h q (inr (inl n)) = absurd (omega (arith, n, told r l))
      go r l h q (inr (inr (inl n))) = absurd (omega (arith, n, told r l))
      go r l h q (inr (inr (inr (inl n)))) = not_behind r l h q n
      go r l h q (inr (inr (inr (inr m)))) = not_past r l h (last_one (eqb (name u) (name x)) r m)

  -- they are different names
  pub different : Once changed_names
  different = (
    (λ m. first m),
    ((λ m. second m), ((λ m. third m), ((λ m. fourth (eqb (name u) (name x)) refl m), rest (eqb (name u) (name x))))),
  )
    where
      split_in : name t < count
      split_in = told t push.entered_in

      behind_in : name x < count
      behind_in = told x push.behind_in

      past_in : name u < count
      past_in = told u push.beyond_in

      not_behind : name t ≢ name x
      not_behind q = behind_apart t u out c es push.apart push.arranged push.legal push.no_loop
          (sym (old_is d e t u out c es push x t) ∙ naming.apart x t push.behind_in push.entered_in (sym q))

      not_past : name t ≢ name u
      not_past q = absurd (false≢true (sym push.no_loop ∙ (sym (old_is d e t u out c es push t u) ∙ naming.apart t u push.entered_in push.beyond_in q)))

      tail : (b : Bool) (p : ℕ) → Mem p (cond b [] (name u ∷ [])) → p ≡ name u
      tail true p m = absurd m
      tail false p (inl q) = q
      tail false p (inr m) = absurd m

      first : Mem (name t) (count ∷ suc count ∷ name x ∷ cond (eqb (name u) (name x)) [] (name u ∷ [])) → ⊥
      first (inl q) = absurd (omega (arith, q, split_in))
      first (inr (inl q)) = absurd (omega (arith, q, split_in))
      first (inr (inr (inl q))) = not_behind q
      first (inr (inr (inr m))) = not_past (tail (eqb (name u) (name x)) (name t) m)

      second : Mem count (suc count ∷ name x ∷ cond (eqb (name u) (name x)) [] (name u ∷ [])) → ⊥
      second (inl q) = absurd (omega (arith, q))
      second (inr (inl q)) = absurd (omega (arith, q, behind_in))
      second (inr (inr m)) = absurd (omega (arith, tail (eqb (name u) (name x)) count m, past_in))

      third : Mem (suc count) (name x ∷ cond (eqb (name u) (name x)) [] (name u ∷ [])) → ⊥
      third (inl q) = absurd (omega (arith, q, behind_in))
      third (inr m) = absurd (omega (arith, tail (eqb (name u) (name x)) (suc count) m, past_in))

      fourth : (b : Bool) → eqb (name u) (name x) ≡ b → Mem (name x) (cond b [] (name u ∷ [])) → ⊥
      fourth true h m = absurd m
      fourth false h (inl q) = absurd (false≢true (sym h ∙ eq-eqb (name u) (name x) (sym q)))
      fourth false h (inr m) = absurd m

      rest : (b : Bool) → Once (cond b [] (name u ∷ []))
      rest true = tt
      rest false = ((λ m. m), tt)

  -- all of them below the new count
  pub changed_below : (p : ℕ) → Mem p changed_names → p < count + 2
  changed_below p (inl q) = omega (arith, q, told t push.entered_in)
  changed_below p (inr (inl q)) = omega (arith, q)
  changed_below p (inr (inr (inl q))) = omega (arith, q)
  changed_below p (inr (inr (inr (inl q)))) = omega (arith, q, told x push.behind_in)
  changed_below p (inr (inr (inr (inr m)))) = go (eqb (name u) (name x)) m
    where
      go : (b : Bool) → Mem p (cond b [] (name u ∷ [])) → p < count + 2
      go true m = absurd m
      go false (inl q) = omega (arith, q, told u push.beyond_in)
      go false (inr m) = absurd m

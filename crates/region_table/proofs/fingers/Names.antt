-- Names after a finger: all stay but that of the piece that is split. Its two parts and the tip get names that no other piece
-- has; the new middle span takes the name of the piece behind the chord, and the new span beyond that of the piece there.
use Rattle.std.proofs.Common.{◌≡◌, ℕ, suc, ◌<◌, Bool, true, false, List, ◌∷◌, sym, ◌∙◌, ap, subst, ◌⊎◌, inl, inr, ◌≢◌}
use Rattle.std.proofs.lemmas.Bool.{cases_Bool, false≢true}
use Rattle.page_surface.specs.Drawing.{Chord}
use Rattle.drawing.specs.Pieces.{same_piece}
use Rattle.drawing.proofs.SamePiece.{same_piece_refl, same_piece_sym}
use Rattle.drawing.proofs.fingers.Arranged.{Arranged}
use Rattle.drawing.proofs.fingers.Finger.{new_apart, pushed}
use Rattle.drawing.proofs.Orbits.{same_then}
use Rattle.drawing.proofs.fingers.OneEffect.{IsOpen}
use Rattle.region_table.proofs.fingers.Homes.{new_same, old_early, old_same}
use Rattle.region_table.proofs.fingers.Kept.{behind_apart, middle_behind, parts_apart, third_beyond, tip_alone}
use Rattle.region_table.proofs.fingers.Next.{near}
use Rattle.drawing.proofs.fingers.Shift.{early, shift, shift_new, shift_swap}
use Rattle.region_table.proofs.fingers.Turn.{not_same}

-- a table by an index, with the span at each index: two of its entries are one name exactly where their spans lie in one
-- piece. The index may be the span's number itself, or the name of a cell that stays when numbers shift
pub record NamesAll (cs : List Chord) (count : ℕ) (at name : ℕ → ℕ) : Type 0 where
  pub together : (a b : ℕ) → a < count → b < count → same_piece cs (at a) (at b) ≡ true → name a ≡ name b
  pub apart : (a b : ℕ) → a < count → b < count → name a ≡ name b → same_piece cs (at a) (at b) ≡ true

-- the index after a finger: each old entry is carried, and there are four new ones, at the two new spans before span t and the
-- two before span u
pub record IsGrown (t u before after : ℕ) (at at_after carry : ℕ → ℕ) (front middle beyond tip : ℕ) : Type 0 where
  pub carried_in : (a : ℕ) → a < before → carry a < after
  pub carried : (a : ℕ) → a < before → at_after (carry a) ≡ shift t u (at a)
  pub at_front : at_after front ≡ early t u
  pub at_middle : at_after middle ≡ suc (early t u)
  pub at_beyond : at_after beyond ≡ early u t
  pub at_tip : at_after tip ≡ suc (early u t)
  pub all : (b : ℕ) → b < after → ((a : ℕ) × (a < before) × (b ≡ carry a)) ⊎ ((b ≡ front) ⊎ ((b ≡ middle) ⊎ ((b ≡ beyond) ⊎ (b ≡ tip))))

-- the new names: 'split' is the old name of the split piece, 'behind' and 'past' those of the pieces behind the chord and beyond
-- the segment; the part in front is named 'one', the other part 'two', the tip 'last'
pub record IsNamedAnew (before split behind past : ℕ) (first : ℕ → Bool) (name name_after carry : ℕ → ℕ) (front middle beyond tip one two last : ℕ) : Type 0 where
  pub others : (a : ℕ) → a < before → name a ≢ split → name_after (carry a) ≡ name a
  pub in_first : (a : ℕ) → a < before → name a ≡ split → first a ≡ true → name_after (carry a) ≡ one
  pub in_second : (a : ℕ) → a < before → name a ≡ split → first a ≡ false → name_after (carry a) ≡ two
  pub at_front : name_after front ≡ one
  pub at_middle : name_after middle ≡ behind
  pub at_beyond : name_after beyond ≡ past
  pub at_tip : name_after tip ≡ last
  pub one_two : one ≢ two
  pub one_last : one ≢ last
  pub two_last : two ≢ last
  pub free : (a : ℕ) → a < before → name a ≢ split → (name a ≢ one) × (name a ≢ two) × (name a ≢ last)

module _ (t u : ℕ) (out : Bool) (c : Chord) (es : List Chord) (ne : t ≢ u) (ok : Arranged (c ∷ es)) (legal : IsOpen t out c es) (loop : same_piece (c ∷ es) t u ≡ false)
    (before after : ℕ) (at at_after carry : ℕ → ℕ) (front middle beyond tip : ℕ) (grown : IsGrown t u before after at at_after carry front middle beyond tip)
    (first : ℕ → Bool) (name name_after : ℕ → ℕ) (one two last it ix iu : ℕ)
    (there : (it < before) × (ix < before) × (iu < before)) (spans : (at it ≡ t) × (at ix ≡ near out c) × (at iu ≡ u))
    (anew : IsNamedAnew before (name it) (name ix) (name iu) first name name_after carry front middle beyond tip one two last)
    (naming : NamesAll (c ∷ es) before at name) where
  -- the chords before the finger
  abbrev old : List Chord
  old = c ∷ es

  -- and after it
  abbrev new : List Chord
  new = pushed t u out c es

  -- which spans of the split piece lie in its part in front
  pub record TellsParts : Type 0 where
    pub yes : (a : ℕ) → a < before → same_piece old (at a) t ≡ true → first a ≡ true → same_piece new (shift t u (at a)) (early t u) ≡ true
    pub no : (a : ℕ) → a < before → same_piece old (at a) t ≡ true → first a ≡ false → same_piece new (shift t u (at a)) (shift t u t) ≡ true

  -- an entry of another piece than the split one
  other_piece : (a : ℕ) → a < before → same_piece old (at a) t ≡ false → name a ≢ name it
  other_piece a l n e = absurd (false≢true (sym n ∙ subst (λ s. same_piece old (at a) s ≡ true) spans.0 (naming.apart a it l there.0 e)))

  -- where a new span lies: in a piece that was whole, in one of the two parts, or in the tip
  data Lies (b : ℕ) : Type 0 where
    whole : (a : ℕ) → a < before → same_piece old (at a) t ≡ false → same_piece new (at_after b) (shift t u (at a)) ≡ true → name_after b ≡ name a → Lies b
    in_front : same_piece new (at_after b) (early t u) ≡ true → name_after b ≡ one → Lies b
    in_back : same_piece new (at_after b) (shift t u t) ≡ true → name_after b ≡ two → Lies b
    in_tip : at_after b ≡ suc (early u t) → name_after b ≡ last → Lies b

  module _ (parts : TellsParts) where
    -- spans that are the same number
    same_at : (y z : ℕ) → y ≡ z → same_piece new y z ≡ true
    same_at y z e = subst (λ w. same_piece new y w ≡ true) e (same_piece_refl new y)

    -- each lies somewhere
    lies_carried : (a : ℕ) → a < before → (b : ℕ) → b ≡ carry a → Lies b
    lies_carried a l b e =
        let here : at_after b ≡ shift t u (at a) = ap at_after e ∙ grown.carried a l in
        elim (cases_Bool (same_piece old (at a) t)) [
          | inr h ↦ whole a l h (same_at _ _ here) (ap name_after e ∙ anew.others a l (other_piece a l h))
          | inl h ↦
              let q : name a ≡ name it = naming.together a it l there.0 (subst (λ s. same_piece old (at a) s ≡ true) (sym spans.0) h) in
              elim (cases_Bool (first a)) [
                | inl f ↦ in_front (subst (λ y. same_piece new y (early t u) ≡ true) (sym here) (parts.yes a l h f)) (ap name_after e ∙ anew.in_first a l q f)
                | inr f ↦ in_back (subst (λ y. same_piece new y (shift t u t) ≡ true) (sym here) (parts.no a l h f)) (ap name_after e ∙ anew.in_second a l q f)
              ]
        ]

    -- each number lies somewhere
    lies : (b : ℕ) → b < after → Lies b
    lies b lb = elim (grown.all b lb) [
      | inl w ↦ (let (a, l, e) = w in lies_carried a l b e)
      | inr w ↦ elim w [
        | inl e ↦ in_front (same_at _ _ (ap at_after e ∙ grown.at_front)) (ap name_after e ∙ anew.at_front)
        | inr w ↦ elim w [
          | inl e ↦
              let m = middle_behind t u out c es ne ok legal loop in
              whole ix there.1 (subst (λ s. same_piece old s t ≡ false) (sym spans.1) (not_same old (near out c) t (behind_apart t u out c es ne ok legal loop)))
              (same_then new _ _ _ (same_at _ _ (ap at_after e ∙ grown.at_middle)) (subst (λ s. same_piece new (suc (early t u)) (shift t u s) ≡ true) (sym spans.1) (same_piece_sym new _ _ m)))
              (ap name_after e ∙ anew.at_middle)
          | inr w ↦ elim w [
            | inl e ↦
                whole iu there.2 (subst (λ s. same_piece old s t ≡ false) (sym spans.2) (not_same old u t (λ h. false≢true (sym loop ∙ same_piece_sym old u t h))))
                (same_then new _ _ _ (same_at _ _ (ap at_after e ∙ grown.at_beyond)) (subst (λ s. same_piece new (early u t) (shift t u s) ≡ true) (sym spans.2) (third_beyond t u out c es ne ok legal loop)))
                (ap name_after e ∙ anew.at_beyond)
            | inr e ↦ in_tip (ap at_after e ∙ grown.at_tip) (ap name_after e ∙ anew.at_tip)
          ]
        ]
      ]
    ]

    -- the four kinds lie apart
    whole_front : (s : ℕ) → same_piece old s t ≡ false → same_piece new (shift t u s) (early t u) ≡ true → ⊥
    whole_front s n h = absurd (false≢true (sym n ∙ same_piece_sym old t s (old_early t u out c es s (same_piece_sym new _ _ h))))

    -- a whole piece and the other part
    whole_back : (s : ℕ) → same_piece old s t ≡ false → same_piece new (shift t u s) (shift t u t) ≡ true → ⊥
    whole_back s n h = absurd (false≢true (sym n ∙ old_same t u out c es s t h))

    -- the tip and a carried span
    tip_carried : (s : ℕ) → same_piece new (shift t u s) (suc (early u t)) ≡ true → ⊥
    tip_carried s h = (shift_new u t s).1 (sym (shift_swap t u s) ∙ tip_alone t u out c es ne ok legal loop (shift t u s) (same_piece_sym new _ _ h))

    -- the tip and the part in front
    tip_front : same_piece new (early t u) (suc (early u t)) ≡ true → ⊥
    tip_front h = (new_apart t u ne).1 (tip_alone t u out c es ne ok legal loop (early t u) (same_piece_sym new _ _ h))

    -- through two spans of one piece
    meet : (y z v w : ℕ) → same_piece new y v ≡ true → same_piece new z w ≡ true → same_piece new y z ≡ true → same_piece new v w ≡ true
    meet y z v w p q h = same_then new v y w (same_piece_sym new y v p) (same_then new y z w h q)

    -- and back
    join : (y z v w : ℕ) → same_piece new y v ≡ true → same_piece new z w ≡ true → same_piece new v w ≡ true → same_piece new y z ≡ true
    join y z v w p q h = same_then new y v z p (same_then new v w z h (same_piece_sym new z w q))

    -- numbers of one piece have one name
    together_by : (a b : ℕ) → Lies a → Lies b → same_piece new (at_after a) (at_after b) ≡ true → name_after a ≡ name_after b
    together_by a b (whole r lr n h q) (whole s ls m k p) g = q ∙ (naming.together r s lr ls (old_same t u out c es (at r) (at s) (meet _ _ _ _ h k g)) ∙ sym p)
    together_by a b (whole r lr n h q) (in_front k p) g = absurd (whole_front (at r) n (meet _ _ _ _ h k g))
    together_by a b (whole r lr n h q) (in_back k p) g = absurd (whole_back (at r) n (meet _ _ _ _ h k g))
    together_by a b (whole r lr n h q) (in_tip k p) g = absurd (tip_carried (at r) (meet _ _ _ _ h (same_at _ _ k) g))
    together_by a b (in_front h q) (whole s ls m k p) g = absurd (whole_front (at s) m (same_piece_sym new _ _ (meet _ _ _ _ h k g)))
    together_by a b (in_front h q) (in_front k p) g = q ∙ sym p
    together_by a b (in_front h q) (in_back k p) g = absurd (parts_apart t u out c es ne ok legal loop (meet _ _ _ _ h k g))
    together_by a b (in_front h q) (in_tip k p) g = absurd (tip_front (meet _ _ _ _ h (same_at _ _ k) g))
    together_by a b (in_back h q) (whole s ls m k p) g = absurd (whole_back (at s) m (same_piece_sym new _ _ (meet _ _ _ _ h k g)))
    together_by a b (in_back h q) (in_front k p) g = absurd (parts_apart t u out c es ne ok legal loop (same_piece_sym new _ _ (meet _ _ _ _ h k g)))
    together_by a b (in_back h q) (in_back k p) g = q ∙ sym p
    together_by a b (in_back h q) (in_tip k p) g = absurd (tip_carried t (meet _ _ _ _ h (same_at _ _ k) g))
    together_by a b (in_tip h q) (whole s ls m k p) g = absurd (tip_carried (at s) (same_piece_sym new _ _ (meet _ _ _ _ (same_at _ _ h) k g)))
    together_by a b (in_tip h q) (in_front k p) g = absurd (tip_front (same_piece_sym new _ _ (meet _ _ _ _ (same_at _ _ h) k g)))
    together_by a b (in_tip h q) (in_back k p) g = absurd (tip_carried t (same_piece_sym new _ _ (meet _ _ _ _ (same_at _ _ h) k g)))
    together_by a b (in_tip h q) (in_tip k p) g = q ∙ sym p

    -- numbers with one name lie in one piece
    apart_by : (a b : ℕ) → Lies a → Lies b → name_after a ≡ name_after b → same_piece new (at_after a) (at_after b) ≡ true
    apart_by a b (whole r lr n h q) (whole s ls m k p) g =
        join _ _ _ _ h k (new_same t u out c es ne ok legal (at r) (at s) (naming.apart r s lr ls (sym q ∙ (g ∙ p))) n)
    apart_by a b (whole r lr n h q) (in_front k p) g = absurd ((anew.free r lr (other_piece r lr n)).0 (sym q ∙ (g ∙ p)))
    apart_by a b (whole r lr n h q) (in_back k p) g = absurd ((anew.free r lr (other_piece r lr n)).1 (sym q ∙ (g ∙ p)))
    apart_by a b (whole r lr n h q) (in_tip k p) g = absurd ((anew.free r lr (other_piece r lr n)).2 (sym q ∙ (g ∙ p)))
    apart_by a b (in_front h q) (whole s ls m k p) g = absurd ((anew.free s ls (other_piece s ls m)).0 (sym p ∙ (sym g ∙ q)))
    apart_by a b (in_front h q) (in_front k p) g = join _ _ _ _ h k (same_piece_refl new _)
    apart_by a b (in_front h q) (in_back k p) g = absurd (anew.one_two (sym q ∙ (g ∙ p)))
    apart_by a b (in_front h q) (in_tip k p) g = absurd (anew.one_last (sym q ∙ (g ∙ p)))
    apart_by a b (in_back h q) (whole s ls m k p) g = absurd ((anew.free s ls (other_piece s ls m)).1 (sym p ∙ (sym g ∙ q)))
    apart_by a b (in_back h q) (in_front k p) g = absurd (anew.one_two (sym p ∙ (sym g ∙ q)))
    apart_by a b (in_back h q) (in_back k p) g = join _ _ _ _ h k (same_piece_refl new _)
    apart_by a b (in_back h q) (in_tip k p) g = absurd (anew.two_last (sym q ∙ (g ∙ p)))
    apart_by a b (in_tip h q) (whole s ls m k p) g = absurd ((anew.free s ls (other_piece s ls m)).2 (sym p ∙ (sym g ∙ q)))
    apart_by a b (in_tip h q) (in_front k p) g = absurd (anew.one_last (sym p ∙ (sym g ∙ q)))
    apart_by a b (in_tip h q) (in_back k p) g = absurd (anew.two_last (sym p ∙ (sym g ∙ q)))
    apart_by a b (in_tip h q) (in_tip k p) g = same_at _ _ (h ∙ sym k)

    -- the new names name the new pieces
    pub names_after : NamesAll (pushed t u out c es) after at_after name_after
    names_after = record {
      together = λ a b la lb h. together_by a b (lies a la) (lies b lb) h;
      apart = λ a b la lb e. apart_by a b (lies a la) (lies b lb) e;
    }

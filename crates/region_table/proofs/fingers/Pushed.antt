-- A finger on a drawing, as its proof sees it: the chords before and after, and where the old spans and gaps stand.
use Rattle.std.proofs.Common.{◌≡◌, ℕ, ◌+◌, suc, ◌<◌, Bool, true, false, List, ◌∷◌, sym, ◌∙◌, arith, ◌⊎◌, inl, inr, ◌≢◌}
use Rattle.std.proofs.lemmas.Bool.{cases_Bool, cases_lt, false≢true}
use Rattle.obd_base.specs.Lists.{Mem}
use Rattle.page_surface.specs.Polygon.{sides}
use Rattle.page_surface.specs.Drawing.{Chord, Drawing, chords}
use Rattle.drawing.specs.Pieces.{gap, same_piece, span_count}
use Rattle.drawing.proofs.ChordTree.{same_from_each}
use Rattle.drawing.proofs.fingers.Arranged.{Arranged, alike}
use Rattle.drawing.proofs.fingers.Finger.{pushed}
use Rattle.drawing.proofs.fingers.OneEffect.{IsOpen}
use Rattle.region_table.proofs.fingers.Turn.{new_cases}
use Rattle.region_table.proofs.fingers.Names.{IsGrown}
use Rattle.region_table.proofs.fingers.Next.{near}
use Rattle.drawing.proofs.fingers.Shift.{early, rooms, shift}

-- the drawing d becomes e where chord c is pushed across span t and span u, which is glued to it; es are the other chords
pub record IsPushed (d e : Drawing) (t u : ℕ) (out : Bool) (c : Chord) (es : List Chord) : Type 0 where
  pub polygon : e.polygon ≡ d.polygon
  pub spans : span_count e ≡ span_count d + 4
  pub gaps : (k : ℕ) → k < sides d.polygon → gap e k ≡ shift t u (gap d k)
  pub old_to : (x : Chord) → Mem x (chords d) → Mem x (c ∷ es)
  pub old_from : (x : Chord) → Mem x (c ∷ es) → Mem x (chords d)
  pub new_to : (x : Chord) → Mem x (chords e) → Mem x (pushed t u out c es)
  pub new_from : (x : Chord) → Mem x (pushed t u out c es) → Mem x (chords e)
  pub arranged : Arranged (c ∷ es)
  pub legal : IsOpen t out c es
  pub entered_in : t < span_count d
  pub beyond_in : u < span_count d
  pub behind_in : near out c < span_count d
  pub apart : t ≢ u
  pub no_loop : same_piece (c ∷ es) t u ≡ false

-- fewer chords separate no more
pub same_of_members : (cs ds : List Chord) (s r : ℕ) → ((x : Chord) → Mem x ds → Mem x cs) → same_piece cs s r ≡ true → same_piece ds s r ≡ true
same_of_members cs ds s r h q = same_from_each ds s r (λ x m. alike cs s r q x (h x m))

-- the same chords separate the same
pub same_chords : (cs ds : List Chord) (s r : ℕ) → ((x : Chord) → Mem x ds → Mem x cs) → ((x : Chord) → Mem x cs → Mem x ds) → same_piece cs s r ≡ same_piece ds s r
same_chords cs ds s r h k = elim (cases_Bool (same_piece cs s r)) [
  | inl q ↦ q ∙ sym (same_of_members cs ds s r h q)
  | inr q ↦ elim (cases_Bool (same_piece ds s r)) [ inl p ↦ absurd (false≢true (sym q ∙ same_of_members ds cs s r k p)) | inr p ↦ q ∙ sym p ]
]

-- every number after a finger is carried from an old one or one of the four new ones
pub number_cases : (t u total : ℕ) → t ≢ u → t < total → u < total → (w : ℕ) → w < total + 4
    → ((r : ℕ) × (r < total) × (w ≡ shift t u r)) ⊎ ((w ≡ early t u) ⊎ ((w ≡ suc (early t u)) ⊎ ((w ≡ early u t) ⊎ (w ≡ suc (early u t)))))
number_cases t u total ne lt lu w lw = elim (new_cases t u ne w) [
  | inl k ↦ (let (r, e) = k in elim (cases_lt r total) [ inl l ↦ inl (r, l, e) | inr h ↦ absurd (omega (arith, rooms r t, rooms r u, e)) ])
  | inr k ↦ inr k
]

-- the numbers themselves as an index
pub grown_numbers : (t u total : ℕ) → t ≢ u → t < total → u < total
    → IsGrown t u total (total + 4) (λ s. s) (λ s. s) (shift t u) (early t u) (suc (early t u)) (early u t) (suc (early u t))
grown_numbers t u total ne lt lu = record {
  carried_in = λ a l. omega (arith, rooms a t, rooms a u);
  carried = λ a l. omega arith;
  at_front = omega arith;
  at_middle = omega arith;
  at_beyond = omega arith;
  at_tip = omega arith;
  all = λ b l. elim (number_cases t u total ne lt lu b l) [
    | inl k ↦ (let (r, lr, e) = k in inl (r, lr, e))
    | inr k ↦ inr k
  ];
}

-- One finger after another: what a finger needs, what it leaves, and that its tip can be pushed on across any other span of the piece beyond.
use Rattle.std.proofs.Common.{◌≡◌, ℕ, suc, Bool, true, false, List, [], ◌∷◌, ◌++◌, map, refl, sym, ◌∙◌, ap, subst, inl, inr, ◌≢◌}
use Rattle.std.proofs.lemmas.Bool.{cases_eq, eq-eqb, ne_eqb}
use Rattle.obd_base.specs.Lists.{Mem}
use Rattle.obd_base.proofs.lists.Members.{mem_append, mem_left, mem_right}
use Rattle.page_surface.specs.Drawing.{Chord}
use Rattle.drawing.specs.Pieces.{same_piece}
use Rattle.drawing.specs.Round.{other_end}
use Rattle.drawing.proofs.fingers.Shift.{shift, early, shift_new, shift_swap}
use Rattle.drawing.proofs.fingers.Arranged.{Arranged, swap_arranged}
use Rattle.drawing.proofs.fingers.Finger.{carry, onto, turn, back, pushed, shift_apart}
use Rattle.drawing.proofs.fingers.OneEffect.{IsOpen, effect_arranged}
use Rattle.finger_move.proofs.PushedNext.{next, near, far, other_at, other_cases}
use Rattle.finger_move.proofs.Walk.{next_same}
use Rattle.finger_move.proofs.Cycles.{head_or, Leads, IsCycle, cycle_same, cycle_whole, same_trans}
use Rattle.finger_move.proofs.Spread.{rotate, spread, spread_all, shift_other}
use Rattle.finger_move.proofs.Touched.{two_sides}
use Rattle.finger_move.proofs.PushedCycles.{kept_cycle, split_front, split_back, tip_cycle}

-- two lists of chords with the same members
pub record SameChords (cs ds : List Chord) : Type 0 where
  pub into : (e : Chord) → Mem e cs → Mem e ds
  pub from : (e : Chord) → Mem e ds → Mem e cs

-- pieces and next spans depend on the members alone
pub same_other : (cs ds : List Chord) → Arranged cs → Arranged ds → SameChords cs ds → (x : ℕ) → other_end cs x ≡ other_end ds x
same_other cs ds a b m x = elim (other_cases cs x) [
  | inl w ↦ (let (c, i, v) = w in elim v [
    | inl q ↦ q.1 ∙ sym (other_at ds b c (m.into c i)).0 ∙ ap (other_end ds) q.0
    | inr q ↦ q.1 ∙ sym (other_at ds b c (m.into c i)).1 ∙ ap (other_end ds) q.0
  ])
  | inr w ↦ w.1 ∙ elim (other_cases ds x) [
    | inl v ↦ (let (c, i, k) = v in let n = w.0 c (m.from c i) in elim k [ inl q ↦ absurd (n.0 q.0) | inr q ↦ absurd (n.1 q.0) ])
    | inr v ↦ sym v.1
  ]
]

-- circles of the same steps
pub same_cycle : (f g : ℕ → ℕ) (xs : List ℕ) → ((x : ℕ) → f x ≡ g x) → IsCycle f xs → IsCycle g xs
same_cycle f g xs h c = record { leads = go xs (head_or xs 0) c.leads; once = c.once }
  where
    go : (xs : List ℕ) (z : ℕ) → Leads f xs z → Leads g xs z
    go [] z l = tt
    go (x ∷ xs) z l = (sym (h x) ∙ l.0, go xs z l.1)

-- and it has the same members
pub swap_same : (a b : Chord) (es : List Chord) → SameChords (a ∷ b ∷ es) (b ∷ a ∷ es)
swap_same a b es = record { into = λ e i. go a b e i; from = λ e i. go b a e i }
  where
    go : (a b : Chord) (e : Chord) → Mem e (a ∷ b ∷ es) → Mem e (b ∷ a ∷ es)
    go a b e i = elim i [
      | inl q ↦ subst (λ w. Mem w (b ∷ a ∷ es)) (sym q) (inr (inl refl))
      | inr i ↦ elim i [ inl q ↦ subst (λ w. Mem w (b ∷ a ∷ es)) (sym q) (inl refl) | inr i ↦ inr (inr i) ]
    ]

-- all chords after a finger but the turn
abbrev pub others : ℕ → ℕ → Bool → Chord → List Chord → List Chord
others t u out c es = onto t u out c ∷ back t u out c ∷ map (carry t u) es

-- a finger: chord c, pushed across t of the piece that is listed from the span after the chord's near end on; u is glued to t
pub record Push (t u : ℕ) (out : Bool) (c : Chord) (es : List Chord) (xs ys : List ℕ) : Type 0 where
  pub arranged : Arranged (c ∷ es)
  pub cycle : IsCycle (next (c ∷ es)) (xs ++ (t ∷ ys))
  pub starts : head_or (xs ++ (t ∷ ys)) 0 ≡ suc (near out c)
  pub outside : Mem u (xs ++ (t ∷ ys)) → ⊥

module _ (t u : ℕ) (out : Bool) (c : Chord) (es : List Chord) (xs ys : List ℕ) (p : Push t u out c es xs ys) where
  abbrev old : List Chord
  old = c ∷ es

  abbrev new : List Chord
  new = pushed t u out c es

  abbrev x : ℕ
  x = near out c

  t_in : Mem t (xs ++ (t ∷ ys))
  t_in = mem_right t xs (t ∷ ys) (inl refl)

  -- the entered segment is not glued to itself
  pub apart : t ≢ u
  apart q = p.outside (subst (λ w. Mem w (xs ++ (t ∷ ys))) q t_in)

  head_in : (zs : List ℕ) → Mem t zs → Mem (head_or zs 0) zs
  head_in [] m = absurd m
  head_in (z ∷ zs) m = inl refl

  first_in : Mem (suc x) (xs ++ (t ∷ ys))
  first_in = subst (λ w. Mem w (xs ++ (t ∷ ys))) p.starts (head_in (xs ++ (t ∷ ys)) t_in)

  first_same : same_piece old (suc x) t ≡ true
  first_same = cycle_same old p.arranged (xs ++ (t ∷ ys)) p.cycle (suc x) t first_in t_in

  far_next : (out : Bool) → other_end old (far out c) ≡ near out c
  far_next true = (other_at old p.arranged c (inl refl)).0
  far_next false = (other_at old p.arranged c (inl refl)).1

  -- the far end lies in the piece of t too
  pub far_same : same_piece old (far out c) t ≡ true
  far_same = same_trans old (far out c) (suc x) t (subst (λ w. same_piece old (far out c) w ≡ true) (ap suc (far_next out)) (next_same old p.arranged (far out c))) first_same

  -- the finger is legal, in the order that `out` says
  pub legal : IsOpen t out c es
  legal = go out first_same far_same
    where
      go : (out : Bool) → same_piece old (suc (near out c)) t ≡ true → same_piece old (far out c) t ≡ true → IsOpen t out c es
      go true h k = k
      go false h k = h

  -- the chords afterwards share no end and do not cross
  pub arranged_after : Arranged new
  arranged_after = effect_arranged t u out c es apart p.arranged legal

  -- the near end isn't in the piece
  pub near_outside : Mem x (xs ++ (t ∷ ys)) → ⊥
  near_outside m = two_sides out c es t p.arranged legal (cycle_same old p.arranged (xs ++ (t ∷ ys)) p.cycle x t m t_in)

  -- the first part of the split piece
  pub front_after : IsCycle (next new) (map (shift t u) xs ++ (early t u ∷ []))
  front_after = split_front t u out c es apart p.arranged arranged_after xs ys p.cycle p.starts near_outside p.outside

  -- the second part
  pub back_after : IsCycle (next new) (map (shift t u) (t ∷ ys))
  back_after = split_back t u out c es apart p.arranged arranged_after xs ys p.cycle p.starts near_outside p.outside

  -- a piece without t isn't split
  pub other_after : (zs : List ℕ) → IsCycle (next old) zs → (Mem t zs → ⊥) → IsCycle (next new) (spread_all t u x zs)
  other_after zs k n = kept_cycle t u out c es apart p.arranged arranged_after zs n
      (λ m. n (cycle_whole old p.arranged zs k (far out c) t m far_same)) k

  -- the tip
  pub tip_after : IsCycle (next new) (suc (early u t) ∷ [])
  tip_after = tip_cycle t u out c es apart p.arranged arranged_after

  abbrev turned_chords : List Chord
  turned_chords = others t u out c es

  -- the near end of the turn is the tip
  pub near_turn : (out : Bool) → near out (turn t u out) ≡ suc (early u t)
  near_turn true = refl
  near_turn false = refl

  -- the finger's chords, with the turn first
  pub turned_arranged : Arranged (turn t u out ∷ turned_chords)
  turned_arranged = swap_arranged (onto t u out c) (turn t u out) (back t u out c ∷ map (carry t u) es) arranged_after

  -- put first, the turn changes no next span
  pub turned_same : (v : ℕ) → next new v ≡ next (turn t u out ∷ turned_chords) v
  turned_same v = ap suc (same_other new (turn t u out ∷ turned_chords) arranged_after turned_arranged
      (swap_same (onto t u out c) (turn t u out) (back t u out c ∷ map (carry t u) es)) v)

  -- a list without u and the near end is only carried
  pub spread_plain : (ss : List ℕ) → (Mem u ss → ⊥) → (Mem x ss → ⊥) → spread_all t u x ss ≡ map (shift t u) ss
  spread_plain [] n m = refl
  spread_plain (s ∷ ss) n m =
      rw (ne_eqb s u (λ q. n (inl (sym q))), ne_eqb s x (λ q. m (inl (sym q)))) (ap (λ w. shift t u s ∷ w) (spread_plain ss (λ i. n (inr i)) (λ i. m (inr i))))

  -- the turn can be pushed on, across any other span v of the piece beyond (listed from u on), where that isn't the piece behind;
  -- both parts will have two spans or more, and one of them just two where v comes next to u
  pub push_on : (before after : List ℕ) (v w : ℕ) → IsCycle (next old) (u ∷ (before ++ (v ∷ after)))
      → (Mem t (u ∷ (before ++ (v ∷ after))) → ⊥) → (Mem x (u ∷ (before ++ (v ∷ after))) → ⊥) → (Mem w (u ∷ (before ++ (v ∷ after))) → ⊥)
      → Push (shift t u v) (shift t u w) out (turn t u out) turned_chords (shift t u u ∷ map (shift t u) before) (map (shift t u) after ++ (early u t ∷ []))
  push_on before after v w k nt nx nw = record {
    arranged = turned_arranged;
    cycle = same_cycle (next new) (next (turn t u out ∷ turned_chords)) _ turned_same
        (subst (λ z. IsCycle (next new) z) listed (rotate (next new) (early u t ∷ []) (shift t u u ∷ map (shift t u) rest) whole));
    starts = shift_other t u ∙ ap suc (sym (near_turn out));
    outside = λ m. elim (mem_append (shift t u w) (map (shift t u) (u ∷ before)) _ m) [
      | inl i ↦ missing (u ∷ before) (λ j. nw (mem_left w (u ∷ before) (v ∷ after) j)) i
      | inr i ↦ elim (mem_append (shift t u w) (map (shift t u) (v ∷ after)) (early u t ∷ []) i) [
        | inl i ↦ missing (v ∷ after) (λ j. nw (mem_right w (u ∷ before) (v ∷ after) j)) i
        | inr i ↦ elim i [ inl q ↦ (shift_new u t w).0 (sym (shift_swap t u w) ∙ q) | inr i ↦ i ]
      ]
    ];
  }
    where
      rest : List ℕ
      rest = before ++ (v ∷ after)

      missing : (zs : List ℕ) → (Mem w zs → ⊥) → Mem (shift t u w) (map (shift t u) zs) → ⊥
      missing [] n i = i
      missing (z ∷ zs) n (inl q) = elim (cases_eq w z) [ inl e ↦ n (inl e) | inr e ↦ shift_apart t u w z e q ]
      missing (z ∷ zs) n (inr i) = missing zs (λ j. n (inr j)) i

      head : spread t u x u ≡ early u t ∷ shift t u u ∷ []
      head = rw (eq-eqb u u refl, ne_eqb u x (λ q. nx (inl (sym q)))) refl

      whole : IsCycle (next new) ((early u t ∷ []) ++ (shift t u u ∷ map (shift t u) (before ++ (v ∷ after))))
      whole = subst (λ z. IsCycle (next new) z)
          (ap (λ z. z ++ spread_all t u x (before ++ (v ∷ after))) head ∙ ap (λ z. early u t ∷ shift t u u ∷ z) (spread_plain (before ++ (v ∷ after)) k.once.0 (λ i. nx (inr i))))
          (other_after (u ∷ (before ++ (v ∷ after))) k nt)

      map_append : (vs bs zs : List ℕ) → map (shift t u) (vs ++ bs) ++ zs ≡ map (shift t u) vs ++ (map (shift t u) bs ++ zs)
      map_append [] bs zs = refl
      map_append (a ∷ vs) bs zs = ap (λ z. shift t u a ∷ z) (map_append vs bs zs)

      listed : (shift t u u ∷ map (shift t u) (before ++ (v ∷ after))) ++ (early u t ∷ []) ≡ (shift t u u ∷ map (shift t u) before) ++ (shift t u v ∷ (map (shift t u) after ++ (early u t ∷ [])))
      listed = ap (λ z. shift t u u ∷ z) (map_append before (v ∷ after) (early u t ∷ []))

  -- a piece apart from the finger is only carried
  pub carried_cycle : (zs : List ℕ) → IsCycle (next old) zs → (Mem t zs → ⊥) → (Mem u zs → ⊥) → (Mem x zs → ⊥) → IsCycle (next (turn t u out ∷ turned_chords)) (map (shift t u) zs)
  carried_cycle zs k nt nu nx = same_cycle (next new) (next (turn t u out ∷ turned_chords)) _ turned_same
      (subst (λ z. IsCycle (next new) z) (spread_plain zs nu nx) (other_after zs k nt))

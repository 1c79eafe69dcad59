-- The doors from a piece to the base, one after another, as a burst needs them.
use Rattle.std.proofs.Common.{◌≡◌, ℕ, zero, suc, ◌<◌, ◌≤◌, Bool, true, false, List, [], ◌∷◌, ◌++◌, map, refl, sym, ◌∙◌, ap, subst, arith, ◌⊎◌, inl, inr, ◌≢◌}
use Rattle.std.proofs.lemmas.Bool.{cases_lt}
use Rattle.obd_base.specs.Lists.{Mem}
use Rattle.obd_base.proofs.lists.Members.{split}
use Rattle.page_surface.specs.Drawing.{Chord, Drawing, IsEmbedded, chords}
use Rattle.drawing.specs.Pieces.{distance, is_base, span_count}
use Rattle.drawing.proofs.Placed.{ends_at, ends_past-placed}
use Rattle.drawing.proofs.Spots.{offset_rises}
use Rattle.finger_move.proofs.Cycles.{same_trans}
use Rattle.drawing.proofs.fingers.NewEmbedded.{end_counted, placed}
use Rattle.drawing.proofs.fingers.Premise.{ends_in}
use Rattle.finger_move.proofs.PushedNext.{far, near}
use Rattle.nice_plan.specs.Path.{before_door, doors_from}
use Rattle.nice_plan.proofs.DoorSearch.{before_door_again, behind_door, door_at}
use Rattle.nice_plan.proofs.PieceRounds.{base_same, distance_same, far_inner, round_of}
use Rattle.nice_plan.proofs.Rows.{Chain, Door, Later, Ordered, behind}
use Rattle.finger_move.proofs.Segments.{inner_segment}

-- chords end at numbers of the place order
pub ends_inside : (d : Drawing) → IsEmbedded d → (c : Chord) → Mem c (chords d) → (c.from < span_count d) × (c.to < span_count d)
ends_inside d ok c m =
    let i = ends_in c (chords d) m in
    (at c.from (end_counted c.from (chords d) i.0), at c.to (end_counted c.to (chords d) i.1))
  where
    at : (x : ℕ) → 1 ≤ ends_at (chords d) x → x < span_count d
    at x h = elim (cases_lt x (span_count d)) [ inl l ↦ l | inr l ↦ absurd (let z = ends_past-placed d (placed d ok) x l in let w : ⊥ = omega (arith, z, h) in w) ]

-- also its near end
pub near_inside : (d : Drawing) → IsEmbedded d → (out : Bool) (c : Chord) → Mem c (chords d) → near out c < span_count d
near_inside d ok true c m = (ends_inside d ok c m).1
near_inside d ok false c m = (ends_inside d ok c m).0

-- the span after one of a piece that isn't base is there
pub after_inside : (d : Drawing) → IsEmbedded d → (s : ℕ) → s < span_count d → is_base d s ≡ false → suc s < span_count d
after_inside d ok s l h = let g = inner_segment d s l h in omega (arith, g.is, g.place_in, offset_rises d g.side _ g.side_in)

-- the piece before a door is at distance n + 1, that behind it at distance n
abbrev pub At : Drawing → ℕ → Door → Type 0
At d n g = ((z : ℕ) → Mem z (behind g) → distance d z ≡ n) × (distance d (far g.out g.chord) ≡ suc n)

-- one after another nearer to the base
abbrev pub Levels : Drawing → ℕ → List Door → Type 0
Levels d n [] = Unit {0}
Levels d zero (g ∷ gs) = At d zero g × (gs ≡ [])
Levels d (suc n) (g ∷ gs) = At d (suc n) g × Levels d n gs

-- doors from a piece at distance n + 1 on; q are spans of that piece
pub record Chained (d : Drawing) (n s : ℕ) (q : List ℕ) : Type 0 where
  pub door : Door
  pub later : List Door
  pub chain : Chain (chords d) q (door ∷ later)
  pub spans : map (λ (g : Door). far g.out g.chord) (door ∷ later) ≡ doors_from d (suc n) s
  pub levels : Levels d n (door ∷ later)

-- there are such doors
pub chained : (d : Drawing) → IsEmbedded d → (n s : ℕ) → s < span_count d → distance d s ≡ suc n → (q : List ℕ) → Mem (before_door d s) q → Chained d n s q
chained d ok zero s l h q m =
    let g = door_at d ok s zero l h in
    let (left, right, e) = split (before_door d s) q m in
    let near_at = distance_same d (near g.out g.chord) (suc (before_door d s)) (behind_door d ok s zero (before_door d s) g) in
    record {
      door = record { chord = g.chord; out = g.out; left = left; right = right; rest = [] };
      later = [];
      chain = (e ∙ ap (λ w. left ++ (w ∷ right)) (sym g.here), g.of_drawing, tt, tt);
      spans = ap (λ w. w ∷ []) g.here;
      levels = (
        (
          (λ z i. elim i [ inl q ↦ ap (distance d) q ∙ (near_at ∙ g.nearer) | inr i ↦ absurd i ]),
          ap (distance d) g.here ∙ (sym (distance_same d s (before_door d s) g.same) ∙ h),
        ),
        refl,
      );
    }
chained d ok (suc n) s l h q m =
    let g = door_at d ok s (suc n) l h in
    let b = before_door d s in
    let (left, right, e) = split b q m in
    let x = near g.out g.chord in
    let same = behind_door d ok s (suc n) b g in
    let near_at : distance d x ≡ suc n = distance_same d x (suc b) same ∙ g.nearer in
    let r = round_of d ok x (near_inside d ok g.out g.chord g.of_drawing) (far_inner d ok x n near_at) in
    let inner : is_base d b ≡ false = sym (base_same d s b g.same) ∙ far_inner d ok s (suc n) h in
    let lb = after_inside d ok b g.inside inner in
    let next_door = door_at d ok (suc b) n lb g.nearer in
    let b' = before_door d (suc b) in
    let in_rest : Mem b' r.rest = skip b' x r.rest (r.whole b' (same_trans (chords d) x (suc b) b' same next_door.same))
    (λ e'. let w : distance d (suc x) ≡ n = ap (λ v. distance d (suc v)) (sym e') ∙ next_door.nearer in
    let y = distance_same d b (suc x) (before_door_again d ok s (suc n) b g) in
    let z = distance_same d s b g.same in
    omega (arith, w, y, z, h)) in
    let ih = chained d ok n (suc b) lb g.nearer r.rest in_rest in
    record {
      door = record { chord = g.chord; out = g.out; left = left; right = right; rest = r.rest };
      later = ih.door ∷ ih.later;
      chain = (e ∙ ap (λ w. left ++ (w ∷ right)) (sym g.here), g.of_drawing, r.cycle, ih.chain);
      spans = ap (λ w. w ∷ map (λ (g : Door). far g.out g.chord) (ih.door ∷ ih.later)) g.here ∙ ap (λ w. b ∷ w) ih.spans;
      levels = (((λ z i. sym (distance_same d x z (r.inside z i).1) ∙ near_at), ap (distance d) g.here ∙ (sym (distance_same d s b g.same) ∙ h)), ih.levels);
    }
  where
    skip : (y x : ℕ) (xs : List ℕ) → Mem y (x ∷ xs) → (y ≡ x → ⊥) → Mem y xs
    skip y x xs (inl q) n = absurd (n q)
    skip y x xs (inr i) n = i

-- doors below a level
abbrev pub Lower : Drawing → ℕ → List Door → Type 0
Lower d n gs = (e : Door) → Mem e gs → (k : ℕ) × (k < n) × At d k e

-- each later door is no farther
pub level_of : (d : Drawing) (n : ℕ) (gs : List Door) → Levels d n gs → (e : Door) → Mem e gs → (k : ℕ) × (k ≤ n) × At d k e
level_of d n [] h e m = absurd m
level_of d zero (g ∷ gs) h e (inl q) = (zero, omega arith, subst (λ x. At d zero x) (sym q) h.0)
level_of d zero (g ∷ gs) h e (inr m) = absurd (subst (λ xs. Mem e xs) h.1 m)
level_of d (suc n) (g ∷ gs) h e (inl q) = (suc n, omega arith, subst (λ x. At d (suc n) x) (sym q) h.0)
level_of d (suc n) (g ∷ gs) h e (inr m) = let (k, l, a) = level_of d n gs h.1 e m in (k, omega (arith, l), a)

-- and nearer than the first
pub lower_of : (d : Drawing) (n : ℕ) (g : Door) (gs : List Door) → Levels d n (g ∷ gs) → Lower d n gs
lower_of d zero g gs h e m = absurd (subst (λ xs. Mem e xs) h.1 m)
lower_of d (suc n) g gs h e m = let (k, l, a) = level_of d n gs h.1 e m in (k, omega (arith, l), a)

-- the first stands at its level
pub at_of : (d : Drawing) (n : ℕ) (g : Door) (gs : List Door) → Levels d n (g ∷ gs) → At d n g
at_of d zero g gs h = h.0
at_of d (suc n) g gs h = h.0

-- the chord of a door isn't that of a lower one
not_again : (d : Drawing) (n k : ℕ) (g e : Door) → k < n → At d n g → At d k e → e.chord ≢ g.chord
not_again d n k g e l a b q = elim (one_end g.out e.out g.chord) [
  | inl p ↦
      (let w : far g.out g.chord ≡ far e.out e.chord = p ∙ ap (far e.out) (sym q) in
      let z = ap (distance d) w in
      omega (arith, z, a.1, b.1, l))
  | inr p ↦
      (let w : far g.out g.chord ≡ near e.out e.chord = p ∙ ap (near e.out) (sym q) in
      let z = ap (distance d) w in
      omega (arith, z, a.1, b.0 (near e.out e.chord) (inl refl), l))
]
  where
    one_end : (o o' : Bool) (c : Chord) → (far o c ≡ far o' c) ⊎ (far o c ≡ near o' c)
    one_end true true c = inl refl
    one_end true false c = inr refl
    one_end false true c = inr refl
    one_end false false c = inl refl

-- lower doors come later
pub later_of : (d : Drawing) (n : ℕ) (g : Door) → At d n g → (gs : List Door) → Lower d n gs → Later g gs
later_of d n g a [] h = tt
later_of d n g a (e ∷ gs) h =
    let (k, l, b) = h e (inl refl) in (
      not_again d n k g e l a b,
      (λ i. let x = b.0 (near g.out g.chord) i in let y = a.0 (near g.out g.chord) (inl refl) in omega (arith, x, y, l)),
      later_of d n g a gs (λ e m. h e (inr m)),
    )

-- so they are in order
pub ordered_of : (d : Drawing) (n : ℕ) (gs : List Door) → Levels d n gs → Ordered gs
ordered_of d n [] h = tt
ordered_of d zero (g ∷ gs) h = (later_of d zero g h.0 gs (lower_of d zero g gs h), subst Ordered (sym h.1) tt)
ordered_of d (suc n) (g ∷ gs) h = (later_of d (suc n) g h.0 gs (lower_of d (suc n) g gs h), ordered_of d n gs h.1)

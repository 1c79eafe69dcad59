-- All rows of a burst are legal: after a row the next door is pushed across the middle span, and on along the strips.
use Rattle.std.proofs.Common.{◌≡◌, ℕ, zero, suc, Bool, true, false, List, [], ◌∷◌, ◌++◌, map, length, refl, sym, ◌∙◌, ap, subst, arith, inl, inr, ◌≢◌}
use Rattle.std.proofs.lemmas.Bool.{cases_eq}
use Rattle.std.proofs.lemmas.List.{length-map}
use Rattle.obd_base.specs.Lists.{Mem}
use Rattle.page_surface.specs.Drawing.{Chord}
use Rattle.drawing.proofs.fingers.Arranged.{Arranged}
use Rattle.finger_move.proofs.PushedNext.{next, near, far}
use Rattle.finger_move.proofs.Cycles.{IsCycle}
use Rattle.nice_plan.proofs.Pushing.{SameChords, same_other, same_cycle}
use Rattle.nice_plan.proofs.RowLegal.{Stop, spans_from, Way, Misses, Simple}
use Rattle.nice_plan.proofs.RowEnd.{Row, row_apart, row_made, row_fresh, row_middle, row_simple, row_way, row_carry, row_behind, Avoids}
use Rattle.nice_plan.proofs.PushDoor.{pulled, push_door, carry_by, row_chords, row_arranged, row_avoids}

-- a door: its chord with the far end on the piece before it (there between `left` and `right`), and the piece behind it, from the near end on
pub record Door : Type 0 where
  pub chord : Chord
  pub out : Bool
  pub left : List ℕ
  pub right : List ℕ
  pub rest : List ℕ

-- the piece behind it
abbrev pub behind : Door → List ℕ
behind d = near d.out d.chord ∷ d.rest

-- what is asked only of a door that isn't the last
abbrev pub unless_last : List Door → Type 0 → Type 0
unless_last [] X = Unit {0}
unless_last (d ∷ ds) X = X

-- what holds for any door
pub usual : (ds : List Door) (X : Type 0) → X → unless_last ds X
usual [] X h = tt
usual (d ∷ ds) X h = h

-- two such facts
pub both_unless : (f : Door → Door) (ds : List Door) (X Y Z : Type 0) → unless_last ds X → unless_last ds Y → (X → Y → Z) → unless_last (map f ds) Z
both_unless f [] X Y Z a b h = tt
both_unless f (d ∷ ds) X Y Z a b h = h a b

-- one such fact
pub one_unless : (ds : List Door) (X Y : Type 0) → unless_last ds X → (X → Y) → unless_last ds Y
one_unless [] X Y a h = tt
one_unless (d ∷ ds) X Y a h = h a

-- each door lies on the piece behind the one before; q is the piece before the first
abbrev pub Chain : List Chord → List ℕ → List Door → Type 0
Chain cs q [] = Unit {0}
Chain cs q (d ∷ ds) = (q ≡ d.left ++ (far d.out d.chord ∷ d.right)) × Mem d.chord cs × unless_last ds (IsCycle (next cs) (behind d)) × Chain cs d.rest ds

-- the piece behind a door isn't behind a later one
abbrev pub Later : Door → List Door → Type 0
Later d [] = Unit {0}
Later d (e ∷ es) = (e.chord ≢ d.chord) × (Mem (near d.out d.chord) (behind e) → ⊥) × Later d es

-- each door against the later ones
abbrev pub Ordered : List Door → Type 0
Ordered [] = Unit {0}
Ordered (d ∷ ds) = Later d ds × Ordered ds

-- a piece behind a door that the row does not touch
abbrev pub Apart : ℕ → ℕ → List Stop → Door → Type 0
Apart m e strips d = (Mem m (behind d) → ⊥) × (Mem e (behind d) → ⊥) × Avoids strips (behind d)

-- the middle span, the tip and the strips of the row before are apart from the pieces behind the doors
abbrev pub Clean : ℕ → ℕ → List Stop → List Door → Type 0
Clean m e strips [] = Unit {0}
Clean m e strips (d ∷ ds) = unless_last ds (Apart m e strips d) × Misses (near d.out d.chord) e strips × Clean m e strips ds

-- a door in new numbers
abbrev pub carry_door : (ℕ → ℕ) → Door → Door
carry_door k d = record { chord = carry_by k d.chord; out = d.out; left = map k d.left; right = map k d.right; rest = map k d.rest }

-- the rows of the later doors, each in what the ones before it leave
pub data LaterRows : List Chord → ℕ → ℕ → ℕ → List Stop → List Door → Type 0 where
  done : {ds : List Chord} {b m e : ℕ} {strips : List Stop} → LaterRows ds b m e strips []
  row : {ds : List Chord} {b m e : ℕ} {strips : List Stop} {d : Door} {doors : List Door} {es new : List Chord} {k : ℕ → ℕ} {m' e' : ℕ} {strips' : List Stop}
      → SameChords ds (d.chord ∷ es)
      → Row m e d.out d.chord es (d.right ++ (b ∷ [])) (d.left ++ (far d.out d.chord ∷ [])) strips new k m' e' strips'
      → LaterRows new (k (near d.out d.chord)) m' e' strips' (map (carry_door k) doors)
      → LaterRows ds b m e strips (d ∷ doors)

-- its near end
pub near_by : (k : ℕ → ℕ) (out : Bool) (c : Chord) → near out (carry_by k c) ≡ k (near out c)
near_by k true c = refl
near_by k false c = refl

-- its far end
pub far_by : (k : ℕ → ℕ) (out : Bool) (c : Chord) → far out (carry_by k c) ≡ k (far out c)
far_by k true c = refl
far_by k false c = refl

map_parts : (f : ℕ → ℕ) (xs ys : List ℕ) → map f (xs ++ ys) ≡ map f xs ++ map f ys
map_parts f [] ys = refl
map_parts f (x ∷ xs) ys = ap (λ z. f x ∷ z) (map_parts f xs ys)

behind_by : (k : ℕ → ℕ) (d : Door) → behind (carry_door k d) ≡ map k (behind d)
behind_by k d = ap (λ w. w ∷ map k d.rest) (near_by k d.out d.chord)

module _ {t u : ℕ} {out : Bool} {c : Chord} {es : List Chord} {xs ys : List ℕ} {ss : List Stop} {ds : List Chord} {k : ℕ → ℕ} {m e : ℕ} {strips : List Stop}
    (r : Row t u out c es xs ys ss ds k m e strips) where
  -- a row leaves middle span, tip and strips apart from the pieces behind the doors
  pub clean_after : (doors : List Door) → Clean m e strips (map (carry_door k) doors)
  clean_after [] = tt
  clean_after (d ∷ doors) =
      let a = row_avoids r (behind d) in
      let q = sym (behind_by k d) in (
        usual (map (carry_door k) doors) (Apart m e strips (carry_door k d)) (subst (λ w. Mem m w → ⊥) q a.0, subst (λ w. Mem e w → ⊥) q a.1, subst (λ w. Avoids strips w) q a.2),
        subst (λ w. Misses w e strips) (sym (near_by k d.out d.chord)) (row_fresh r (near d.out d.chord)).2,
        clean_after doors,
      )

  -- carrying tells numbers apart
  pub apart_by : (a b : ℕ) → k a ≡ k b → a ≡ b
  apart_by a b q = elim (cases_eq a b) [ inl p ↦ p | inr n ↦ absurd (row_apart r a b n q) ]

  -- and members
  pub mem_by : (z : ℕ) (zs : List ℕ) → Mem (k z) (map k zs) → Mem z zs
  mem_by z [] i = i
  mem_by z (y ∷ zs) (inl q) = inl (apart_by z y q)
  mem_by z (y ∷ zs) (inr i) = inr (mem_by z zs i)

  later_after : (d : Door) (doors : List Door) → Later d doors → Later (carry_door k d) (map (carry_door k) doors)
  later_after d [] h = tt
  later_after d (f ∷ doors) h = (
    λ q. h.0 (let a : f.chord.from ≡ d.chord.from = apart_by _ _ (ap (λ (w : Chord). w.from) q) in let b : f.chord.to ≡ d.chord.to = apart_by _ _ (ap (λ (w : Chord). w.to) q) in same_chord a b),
    λ i. h.1 (mem_by (near d.out d.chord) (behind f) (subst (λ w. Mem w (map k (behind f))) (near_by k d.out d.chord) (subst (λ w. Mem (near d.out (carry_by k d.chord)) w) (behind_by k f) i))),
    later_after d doors h.2,
  )
    where
      same_chord : {a b : Chord} → a.from ≡ b.from → a.to ≡ b.to → a ≡ b
      same_chord {a} {b} p q = ap (λ w. record { from = w; to = a.to }) p ∙ ap (λ w. record { from = b.from; to = w }) q

  -- doors stay in order
  pub ordered_after : (doors : List Door) → Ordered doors → Ordered (map (carry_door k) doors)
  ordered_after [] h = tt
  ordered_after (d ∷ doors) h = (later_after d doors h.0, ordered_after doors h.1)

  -- and one behind the other
  pub chain_after : (d : Door) → d.out ≡ out → d.chord ≡ c → (q : List ℕ) (doors : List Door) → Chain (c ∷ es) q doors → Clean t u ss doors → Later d doors → Chain ds (map k q) (map (carry_door k) doors)
  chain_after d o f q [] h w l = tt
  chain_after d o f q (g ∷ doors) h w l = (
    ap (map k) h.0 ∙ map_parts k g.left (far g.out g.chord ∷ g.right) ∙ ap (λ z. map k g.left ++ (z ∷ map k g.right)) (sym (far_by k g.out g.chord)),
    row_chords r g.chord (elim h.1 [ inl e ↦ absurd (l.0 (e ∙ sym f)) | inr i ↦ i ]),
    both_unless (carry_door k) doors (IsCycle (next (c ∷ es)) (behind g)) (Apart t u ss g) (IsCycle (next ds) (behind (carry_door k g))) h.2 w.0
        (λ y a. subst (λ z. IsCycle (next ds) z) (sym (behind_by k g))
        (row_carry r (behind g) y a.0 a.1 (subst (λ z. Mem (near z c) (behind g) → ⊥) o (subst (λ z. Mem (near d.out z) (behind g) → ⊥) f l.1)) a.2)),
    chain_after d o f g.rest doors h.3 w.2 l.2,
  )

-- a chain in another list of the same chords
pub chain_same : (ds es : List Chord) → Arranged ds → Arranged es → SameChords ds es → (q : List ℕ) (doors : List Door) → Chain ds q doors → Chain es q doors
chain_same ds es a b s q [] h = tt
chain_same ds es a b s q (d ∷ doors) h =
    (h.0, s.into d.chord h.1, one_unless doors (IsCycle (next ds) (behind d)) (IsCycle (next es) (behind d)) h.2 (same_cycle (next ds) (next es) (behind d) (λ x. ap suc (same_other ds es a b s x))), chain_same ds es a b s d.rest doors h.3)

-- a path in another list of the same chords
pub way_same : (ds es : List Chord) → Arranged ds → Arranged es → SameChords ds es → (e : ℕ) (ss : List Stop) → Way (next ds) e ss → Way (next es) e ss
way_same ds es a b s e [] w = tt
way_same ds es a b s e (t ∷ ss) w =
    (same_cycle (next ds) (next es) (spans_from e t) (λ x. ap suc (same_other ds es a b s x)) w.0, w.1, way_same ds es a b s t.beyond ss w.2)

-- after a row, all rows of the later doors can be made
pub rows_made : (n : ℕ) (ds : List Chord) (b m e : ℕ) (q : List ℕ) (strips : List Stop) (doors : List Door) → length doors ≡ n → Arranged ds
    → Way (next ds) e strips → Simple e strips → Misses m e strips
    → IsCycle (next ds) (b ∷ m ∷ q) → (Mem e (b ∷ m ∷ q) → ⊥)
    → Chain ds q doors → Ordered doors → Clean m e strips doors → LaterRows ds b m e strips doors
rows_made n ds b m e q strips [] l ok w si mi cy ne ch or cl = done
rows_made zero ds b m e q strips (d ∷ doors) l ok w si mi cy ne ch or cl = absurd (let z : ⊥ = omega (arith, l) in z)
rows_made (suc n) ds b m e q strips (d ∷ []) l ok w si mi cy ne ch or cl =
    let (es, new, same) = pulled ds ok d.chord ch.1 in
    let push = push_door ds ok d.chord es new same d.out b m e d.left d.right (subst (λ z. IsCycle (next ds) (b ∷ m ∷ z)) ch.0 cy) (subst (λ z. Mem e (b ∷ m ∷ z) → ⊥) ch.0 ne) in
    let left = row_made (length strips) m e d.out d.chord es (d.right ++ (b ∷ [])) (d.left ++ (far d.out d.chord ∷ [])) strips refl push
    (way_same ds (d.chord ∷ es) ok new same e strips w) mi cl.1 si in
    row same left.row done
rows_made (suc n) ds b m e q strips (d ∷ g ∷ doors) l ok w si mi cy ne ch or cl =
    let (es, new, same) = pulled ds ok d.chord ch.1 in
    let push = push_door ds ok d.chord es new same d.out b m e d.left d.right (subst (λ z. IsCycle (next ds) (b ∷ m ∷ z)) ch.0 cy) (subst (λ z. Mem e (b ∷ m ∷ z) → ⊥) ch.0 ne) in
    let left = row_made (length strips) m e d.out d.chord es (d.right ++ (b ∷ [])) (d.left ++ (far d.out d.chord ∷ [])) strips refl push
    (way_same ds (d.chord ∷ es) ok new same e strips w) mi cl.1 si in
    let r = left.row in
    let k = left.carried in
    let next_piece = same_cycle (next ds) (next (d.chord ∷ es)) (behind d) (λ x. ap suc (same_other ds (d.chord ∷ es) ok new same x)) ch.2 in
    row same r (rows_made n left.chords (k (near d.out d.chord)) left.middle left.tip (map k d.rest) left.strips (map (carry_door k) (g ∷ doors))
    (omega (arith, l, length-map (g ∷ doors) (carry_door k)))
    (row_arranged r) (row_way r) (row_simple r) (row_middle r).1
    (row_behind r d.rest next_piece cl.0.0 cl.0.1 cl.0.2)
    (λ i. elim i [ inl z ↦ (row_fresh r (near d.out d.chord)).1 (sym z) | inr i ↦ elim i [ inl z ↦ (row_middle r).0 (sym z) | inr i ↦ (row_avoids r d.rest).1 i ] ])
    (chain_after r d refl refl d.rest (g ∷ doors) (chain_same ds (d.chord ∷ es) ok new same d.rest (g ∷ doors) ch.3) cl.2 or.0)
    (ordered_after r (g ∷ doors) or.1)
    (clean_after r (g ∷ doors)))

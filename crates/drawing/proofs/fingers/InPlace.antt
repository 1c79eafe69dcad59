-- One effect, with the chords in the order in which a drawing lists them: the pushed chord stands between a and b, its three parts take its place.
use Rattle.std.proofs.Common.{◌≡◌, ℕ, Bool, not, List, [], ◌∷◌, ◌++◌, map, refl, sym, ap, subst, inl, inr, ◌≢◌}
use Rattle.obd_base.specs.Lists.{Mem}
use Rattle.page_surface.specs.Drawing.{Chord}
use Rattle.drawing.proofs.fingers.Arranged.{Arranged, swap_arranged}
use Rattle.drawing.proofs.fingers.Finger.{carry, onto, turn, back, pushed}
use Rattle.drawing.proofs.fingers.OneEffect.{Borders, order, one_effect, effect_legal}

-- a member of a list with one of its chords put first
pub in_first : (e c : Chord) (a b : List Chord) → Mem e (a ++ (c ∷ b)) → Mem e (c ∷ (a ++ b))
in_first e c [] b i = i
in_first e c (d ∷ a) b i = elim i [
  | inl q ↦ inr (subst (λ w. Mem w (d ∷ (a ++ b))) (sym q) (inl refl))
  | inr j ↦ elim ((in_first e c a b j)) [ inl q ↦ subst (λ w. Mem w (c ∷ d ∷ (a ++ b))) (sym q) (inl refl) | inr k ↦ inr (inr k) ]
]

-- and with it put back
pub in_place : (e c : Chord) (a b : List Chord) → Mem e (c ∷ (a ++ b)) → Mem e (a ++ (c ∷ b))
in_place e c [] b i = i
in_place e c (d ∷ a) b i = elim i [
  | inl q ↦ inr (in_place e c a b (subst (λ w. Mem w (c ∷ (a ++ b))) (sym q) (inl refl)))
  | inr j ↦ elim j [ inl q ↦ subst (λ w. Mem w (d ∷ (a ++ (c ∷ b)))) (sym q) (inl refl) | inr k ↦ inr (in_place e c a b (inr k)) ]
]

-- a chord put back in its place
pub put_back : (c : Chord) (a b : List Chord) → Arranged (c ∷ (a ++ b)) → Arranged (a ++ (c ∷ b))
put_back c [] b ok = ok
put_back c (d ∷ a) b ok =
    let s = swap_arranged c d (a ++ b) ok in
    (s.0, λ e i. s.1 e (in_first e c a b i), put_back c a b s.2)

-- a chord put first
pub put_first : (c : Chord) (a b : List Chord) → Arranged (a ++ (c ∷ b)) → Arranged (c ∷ (a ++ b))
put_first c [] b ok = ok
put_first c (d ∷ a) b ok = swap_arranged d c (a ++ b) (ok.0, λ e i. ok.1 e (in_place e c a b i), put_first c a b ok.2)

-- the chords after the finger, in the drawing's order
abbrev pub pushed_in : ℕ → ℕ → Bool → List Chord → Chord → List Chord → List Chord
pushed_in t u out a c b = map (carry t u) a ++ (onto t u out c ∷ turn t u out ∷ back t u out c ∷ map (carry t u) b)

map_parts : (f : Chord → Chord) (a b : List Chord) → map f (a ++ b) ≡ map f a ++ map f b
map_parts f [] b = refl
map_parts f (x ∷ a) b = ap (λ w. f x ∷ w) (map_parts f a b)

three_back : (o t r : Chord) (a b : List Chord) → Arranged (o ∷ t ∷ r ∷ (a ++ b)) → Arranged (a ++ (o ∷ t ∷ r ∷ b))
three_back o t r a b ok =
    let one = put_back r a b ok.2.2 in
    let two = put_back t a (r ∷ b) (ok.2.0, λ e i. ok.2.1 e (in_first e r a b i), one) in
    put_back o a (t ∷ r ∷ b) (
      ok.0,
      λ e i. ok.1 e (elim ((in_first e t a (r ∷ b) i)) [
        | inl q ↦ subst (λ w. Mem w (t ∷ r ∷ (a ++ b))) (sym q) (inl refl)
        | inr j ↦ inr (in_first e r a b j)
      ]),
      two,
    )

three_first : (o t r : Chord) (a b : List Chord) → Arranged (a ++ (o ∷ t ∷ r ∷ b)) → Arranged (o ∷ t ∷ r ∷ (a ++ b))
three_first o t r a b ok =
    let one = put_first o a (t ∷ r ∷ b) ok in
    let two = put_first t a (r ∷ b) one.2 in
    let three = put_first r a b two.2 in (
      one.0,
      λ e i. one.1 e (elim i [
        | inl q ↦ in_place e t a (r ∷ b) (subst (λ w. Mem w (t ∷ (a ++ (r ∷ b)))) (sym q) (inl refl))
        | inr j ↦ in_place e t a (r ∷ b) (inr (in_place e r a b j))
      ]),
      (two.0, λ e i. two.1 e (in_place e r a b i), three),
    )

-- the three parts put in the place of the chord
pub pushed_arranged : (t u : ℕ) (out : Bool) (a : List Chord) (c : Chord) (b : List Chord) → Arranged (pushed t u out c (a ++ b)) → Arranged (pushed_in t u out a c b)
pushed_arranged t u out a c b ok =
    three_back _ _ _ (map (carry t u) a) (map (carry t u) b) (subst (λ w. Arranged (onto t u out c ∷ turn t u out ∷ back t u out c ∷ w)) (map_parts (carry t u) a b) ok)

-- and put first again
pub arranged_pushed : (t u : ℕ) (out : Bool) (a : List Chord) (c : Chord) (b : List Chord) → Arranged (pushed_in t u out a c b) → Arranged (pushed t u out c (a ++ b))
arranged_pushed t u out a c b ok =
    subst (λ w. Arranged (onto t u out c ∷ turn t u out ∷ back t u out c ∷ w)) (sym (map_parts (carry t u) a b)) (three_first _ _ _ (map (carry t u) a) (map (carry t u) b) ok)

-- where the chord borders the piece of t, just one of the two orders has no crossing; where it doesn't, none has
pub one_effect_in : (t u : ℕ) (a : List Chord) (c : Chord) (b : List Chord) → t ≢ u → Arranged (a ++ (c ∷ b)) → Borders t c (a ++ b)
    → Arranged (pushed_in t u (order t c (a ++ b)) a c b) × (Arranged (pushed_in t u (not (order t c (a ++ b))) a c b) → ⊥)
one_effect_in t u a c b ne ok h =
    let r = one_effect t u c (a ++ b) ne (put_first c a b ok) h in
    (pushed_arranged t u (order t c (a ++ b)) a c b r.0, λ w. r.1 (arranged_pushed t u (not (order t c (a ++ b))) a c b w))

-- where an order has no crossing the chord borders the piece
pub effect_legal_in : (t u : ℕ) (out : Bool) (a : List Chord) (c : Chord) (b : List Chord) → Arranged (a ++ (c ∷ b)) → Arranged (pushed_in t u out a c b) → Borders t c (a ++ b)
effect_legal_in t u out a c b ok h = effect_legal t u out c (a ++ b) (put_first c a b ok) (arranged_pushed t u out a c b h)

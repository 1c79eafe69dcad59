-- Which of two bad pieces goes before the other.
use Rattle.std.proofs.Common.{◌≡◌, ℕ, ◌<◌, ◌≤◌, true, false, ltb, refl, sym, ◌∙◌, arith, ◌⊎◌, inl, inr, ◌≢◌}
use Rattle.std.proofs.lemmas.Bool.{cases_Bool, cases_lt, cases_eq, eq-eqb, false≢true, lt-ltb, le-ltb, ne_eqb}
use Rattle.obd_base.specs.declared.points.Exit.{Exit}
use Rattle.page_surface.specs.Drawing.{Drawing, spot}
use Rattle.region_table.specs.Table.{region}
use Rattle.nice_plan.specs.Measured.{IsOn, Measured, comes_first, goes_before, home}
use Rattle.nice_plan.proofs.EdgeSteps.{order_spot, spot_order}

-- one piece before another, by numbers
pub before_numbers : (m : Measured) (p q : ℕ) → goes_before m p q ≡ true
    → ((region m.table q).distance < (region m.table p).distance) ⊎ (((region m.table q).distance ≡ (region m.table p).distance) × (home m p < home m q))
before_numbers m p q h = go (cases_lt dq dp) (cases_eq dq dp) (cases_lt (home m p) (home m q))
  where
    dp : ℕ
    dp = (region m.table p).distance

    dq : ℕ
    dq = (region m.table q).distance

    go : (dq < dp) ⊎ (dp ≤ dq) → (dq ≡ dp) ⊎ (dq ≢ dp) → (home m p < home m q) ⊎ (home m q ≤ home m p) → (dq < dp) ⊎ ((dq ≡ dp) × (home m p < home m q))
    go (inl l) e c = inl l
    go (inr l) (inl e) (inl c) = inr (e, c)
    go (inr l) (inl e) (inr c) = absurd (false≢true (rw (le-ltb dq dp l, eq-eqb dq dp e, le-ltb (home m p) (home m q) c) at h))
    go (inr l) (inr e) c = absurd (false≢true (rw (le-ltb dq dp l, ne_eqb dq dp e) at h))

pub after_numbers : (m : Measured) (p q : ℕ) → goes_before m p q ≡ false
    → ((region m.table p).distance < (region m.table q).distance) ⊎ (((region m.table q).distance ≡ (region m.table p).distance) × (home m q ≤ home m p))
after_numbers m p q h = go (cases_lt dq dp) (cases_eq dq dp) (cases_lt (home m p) (home m q))
  where
    dp : ℕ
    dp = (region m.table p).distance

    dq : ℕ
    dq = (region m.table q).distance

    go : (dq < dp) ⊎ (dp ≤ dq) → (dq ≡ dp) ⊎ (dq ≢ dp) → (home m p < home m q) ⊎ (home m q ≤ home m p) → (dp < dq) ⊎ ((dq ≡ dp) × (home m q ≤ home m p))
    go (inl l) e c = absurd (false≢true (sym h ∙ rw (lt-ltb dq dp l) refl))
    go (inr l) (inl e) (inl c) = absurd (false≢true (sym h ∙ rw (le-ltb dq dp l, eq-eqb dq dp e, lt-ltb (home m p) (home m q) c) refl))
    go (inr l) (inl e) (inr c) = inr (e, c)
    go (inr l) (inr e) c = inl (omega (arith, l, e))

-- the order goes on
pub before_then : (m : Measured) (q p b : ℕ) → goes_before m p b ≡ true → goes_before m q b ≡ false → goes_before m q p ≡ false
before_then m q p b h k = elim (cases_Bool (goes_before m q p)) [
  | inr e ↦ e
  | inl e ↦ absurd (let w : ⊥ = omega (arith, before_numbers m p b h, after_numbers m q b k, before_numbers m q p e) in w)
]

-- segments in the place order, as a test
comes_true : (e f : Exit) → (e.side < f.side) ⊎ ((e.side ≡ f.side) × (e.place < f.place)) → comes_first e f ≡ true
comes_true e f (inl l) = rw (lt-ltb e.side f.side l) refl
comes_true e f (inr (q, l)) = rw (le-ltb e.side f.side (omega (arith, q)), eq-eqb e.side f.side q, lt-ltb e.place f.place l) refl

comes_false : (d : Drawing) (e f : Exit) → IsOn d e → IsOn d f → spot d f ≤ spot d e → comes_first e f ≡ false
comes_false d e f on_e on_f h = go (cases_lt e.side f.side) (cases_eq e.side f.side) (cases_lt e.place f.place)
  where
    not_before : (e.side < f.side) ⊎ ((e.side ≡ f.side) × (e.place < f.place)) → ⊥
    not_before w = let l = order_spot d e f on_e on_f w in omega (arith, l, h)

    go : (e.side < f.side) ⊎ (f.side ≤ e.side) → (e.side ≡ f.side) ⊎ (e.side ≢ f.side) → (e.place < f.place) ⊎ (f.place ≤ e.place) → comes_first e f ≡ false
    go (inl l) q c = absurd (not_before (inl l))
    go (inr l) (inl q) (inl c) = absurd (not_before (inr (q, c)))
    go (inr l) (inl q) (inr c) = rw (le-ltb e.side f.side l, eq-eqb e.side f.side q, le-ltb e.place f.place c) refl
    go (inr l) (inr n) c = rw (le-ltb e.side f.side l, ne_eqb e.side f.side n) refl

-- of two pieces as far the one goes before whose first segment comes first
pub before_by_segments : (m : Measured) (p q : ℕ) (e f : Exit) → (region m.table p).distance ≡ (region m.table q).distance → IsOn m.drawing e → IsOn m.drawing f
    → spot m.drawing e ≡ home m p → spot m.drawing f ≡ home m q → comes_first e f ≡ goes_before m p q
before_by_segments m p q e f far on_e on_f at_e at_f = test ∙ sym goes
  where
    goes : goes_before m p q ≡ ltb (home m p) (home m q)
    goes = rw (le-ltb (region m.table q).distance (region m.table p).distance (omega (arith, far)), eq-eqb (region m.table q).distance (region m.table p).distance (sym far)) refl

    test : comes_first e f ≡ ltb (home m p) (home m q)
    test = elim (cases_lt (home m p) (home m q)) [
      | inl l ↦ comes_true e f (spot_order m.drawing e f on_e on_f (omega (arith, l, at_e, at_f))) ∙ sym (lt-ltb (home m p) (home m q) l)
      | inr l ↦ comes_false m.drawing e f on_e on_f (omega (arith, l, at_e, at_f)) ∙ sym (le-ltb (home m p) (home m q) l)
    ]

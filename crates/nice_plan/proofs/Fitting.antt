-- The bursts that fit within a limit of fingers: all of the strategy's where its list is no longer, and else a drawing that isn't nice is left.
use Rattle.std.proofs.Common.{◌≡◌, ℕ, zero, suc, ◌-◌, ◌<◌, ◌≤◌, true, false, ltb, List, [], ◌++◌, length, refl, sym, ◌∙◌, ap, subst, arith, inl, inr}
use Rattle.std.proofs.lemmas.Bool.{cases_Bool, cases_lt, lt-ltb, le-ltb}
use Rattle.std.proofs.lemmas.List.{length-append}
use Rattle.page_surface.specs.Drawing.{Drawing, IsEmbedded}
use Rattle.drawing.specs.declared.finger.Finger.{Finger}
use Rattle.drawing.specs.Fingers.{replayed}
use Rattle.region_table.specs.Nice.{is_nice, weight}
use Rattle.drawing.specs.Fingers.{AllLegal}
use Rattle.finger_move.proofs.Replayed.{legal_append, replayed_append}
use Rattle.nice_plan.specs.Burst.{burst}
use Rattle.nice_plan.specs.Strategy.{bursts_of, fitting, within_limit}
use Rattle.nice_plan.proofs.BurstLegal.{burst_embedded, burst_legal}
use Rattle.nice_plan.proofs.BurstLowers.{burst_lowers}

-- what a limit leaves of bursts, at most n of them
pub record Fits (d : Drawing) (n limit : ℕ) (fs : List Finger) : Type 0 where
  pub legal : AllLegal d fs
  pub embedded : IsEmbedded (replayed d fs)
  pub short : length fs ≤ limit
  pub all : length (bursts_of n d) ≤ limit → fs ≡ bursts_of n d
  pub cut : limit < length (bursts_of n d) → is_nice (replayed d fs) ≡ false

-- a drawing that isn't nice has a weight
pub weighs : (d : Drawing) → IsEmbedded d → is_nice d ≡ false → 1 ≤ weight d
weighs d ok bad = let w = burst_lowers d ok bad in omega (arith, w)

-- the bursts that fit are such
pub fits : (n limit : ℕ) (d : Drawing) → IsEmbedded d → weight d ≤ n → Fits d n limit (fitting n limit d)
fits zero limit d ok l = record { legal = tt; embedded = ok; short = omega arith; all = λ h. refl; cut = λ h. absurd (let w : ⊥ = omega (arith, h) in w) }
fits (suc n) limit d ok l = elim (cases_Bool (is_nice d)) [
  | inl q ↦
      (let done : bursts_of (suc n) d ≡ [] = rw (bursts_of, q) refl in
      let e = ap length done in
      let none : fitting (suc n) limit d ≡ [] = rw (fitting, q) refl in
      subst (λ w. Fits d (suc n) limit w) (sym none) (record { legal = tt; embedded = ok; short = omega arith; all = λ h. sym done; cut = λ h. absurd (let w : ⊥ = omega (arith, h, e) in w) }))
  | inr q ↦
      let new = replayed d (burst d) in
      let low = burst_lowers d ok q in
      elim (cases_lt limit (length (burst d))) [
        | inl k ↦
            (let z : ltb limit (length (burst d)) ≡ true = lt-ltb limit (length (burst d)) k in
            let long : bursts_of (suc n) d ≡ burst d ++ bursts_of n new = rw (bursts_of, q) refl in
            let e = ap length long in
            let a = length-append (burst d) (bursts_of n new) in
            let none : fitting (suc n) limit d ≡ [] = rw (fitting, q, z) refl in
            subst (λ w. Fits d (suc n) limit w) (sym none) (record {
              legal = tt;
              embedded = ok;
              short = omega arith;
              all = λ h. absurd (let w : ⊥ = omega (arith, h, e, a, k) in w);
              cut = λ h. q;
            }))
        | inr k ↦
            (let z : ltb limit (length (burst d)) ≡ false = le-ltb limit (length (burst d)) k in
            let long : bursts_of (suc n) d ≡ burst d ++ bursts_of n new = rw (bursts_of, q) refl in
            let e = ap length long in
            let a = length-append (burst d) (bursts_of n new) in
            let rest = fitting n (limit - length (burst d)) new in
            let some : fitting (suc n) limit d ≡ burst d ++ rest = rw (fitting, q, z) refl in
            let r = fits n (limit - length (burst d)) new (burst_embedded d ok q) (omega (arith, l, low)) in
            let b = length-append (burst d) rest in
            let same = replayed_append d (burst d) rest in
            subst (λ w. Fits d (suc n) limit w) (sym some) (record {
              legal = legal_append d (burst d) rest (burst_legal d ok q) r.legal;
              embedded = subst IsEmbedded (sym same) r.embedded;
              short = omega (arith, b, r.short, k);
              all = λ h. ap (λ w. burst d ++ w) (r.all (omega (arith, h, e, a, k))) ∙ sym long;
              cut = λ h. ap is_nice same ∙ r.cut (omega (arith, h, e, a, k));
            }))
      ]
]

-- for the strategy's list
pub fits_limit : (limit : ℕ) (d : Drawing) → IsEmbedded d → Fits d (weight d) limit (within_limit limit d)
fits_limit limit d ok = fits (weight d) limit d ok (omega arith)

-- The strategy ends in a nice drawing, after at most as many bursts as the first weight.
use Rattle.std.proofs.Common.{◌≡◌, ℕ, zero, suc, ◌*◌, ◌≤◌, true, eqb, List, [], ◌∷◌, ◌++◌, refl, sym, ◌∙◌, ap, subst, arith, inl, inr}
use Rattle.std.specs.List.{list_all, sum_by}
use Rattle.std.proofs.lemmas.Bool.{cases_Bool, eqb-true, and_parts, true≢false}
use Rattle.std.proofs.lemmas.List.Sums.{sum_by-cons}
use Rattle.page_surface.specs.Drawing.{Drawing, IsEmbedded}
use Rattle.drawing.specs.declared.finger.Finger.{Finger}
use Rattle.drawing.specs.Fingers.{replayed}
use Rattle.drawing.specs.Pieces.{badness, distance, inner_pieces}
use Rattle.region_table.specs.Nice.{is_nice, weight}
use Rattle.drawing.specs.Fingers.{AllLegal}
use Rattle.finger_move.proofs.Replayed.{legal_append, replayed_append}
use Rattle.nice_plan.specs.Burst.{burst}
use Rattle.nice_plan.specs.Strategy.{IsStrategy, burst_count, bursts, bursts_of, nice, strategy}
use Rattle.nice_plan.proofs.BurstLegal.{burst_embedded, burst_legal}
use Rattle.nice_plan.proofs.BurstLowers.{burst_lowers}

-- a nice drawing has weight 0
pub nice_weighs_nothing : (d : Drawing) → is_nice d ≡ true → weight d ≡ 0
nice_weighs_nothing d h = go (inner_pieces d) h
  where
    go : (zs : List ℕ) → list_all (λ s. eqb (badness d s) 0) zs ≡ true → sum_by (λ s. badness d s * distance d s) zs ≡ 0
    go [] h = refl
    go (z ∷ zs) h =
        let a = and_parts (eqb (badness d z) 0) (list_all (λ s. eqb (badness d s) 0) zs) h in
        let b = eqb-true (badness d z) 0 a.0 in
        let e : badness d z * distance d z ≡ 0 * distance d z = ap (λ v. v * distance d z) b in
        omega (arith, sum_by-cons (λ s. badness d s * distance d s) z zs, e, go zs a.1)

-- what bursts do that end in a nice drawing
pub record Ended (d : Drawing) (fs : List Finger) (count : ℕ) : Type 0 where
  pub strategy : IsStrategy d fs
  pub legal : AllLegal d fs
  pub embedded : IsEmbedded (replayed d fs)
  pub ends_nice : is_nice (replayed d fs) ≡ true
  pub few : count ≤ weight d

-- so many bursts as the weight are enough
pub enough : (n : ℕ) (d : Drawing) → IsEmbedded d → weight d ≤ n → Ended d (bursts_of n d) (burst_count n d)
enough zero d ok l = elim (cases_Bool (is_nice d)) [
  | inl q ↦ record { strategy = nice q; legal = tt; embedded = ok; ends_nice = q; few = omega arith }
  | inr q ↦ absurd (let w = burst_lowers d ok q in let v : ⊥ = omega (arith, w, l) in v)
]
enough (suc n) d ok l = elim (cases_Bool (is_nice d)) [
  | inl q ↦ rw (bursts_of, burst_count, q) (record { strategy = nice q; legal = tt; embedded = ok; ends_nice = q; few = omega arith })
  | inr q ↦
      (let w = burst_lowers d ok q in
      let new = replayed d (burst d) in
      let r = enough n new (burst_embedded d ok q) (omega (arith, w, l)) in
      let same = replayed_append d (burst d) (bursts_of n new) in
      rw (bursts_of, burst_count, q) (record {
        strategy = bursts q r.strategy;
        legal = legal_append d (burst d) (bursts_of n new) (burst_legal d ok q) r.legal;
        embedded = subst IsEmbedded (sym same) r.embedded;
        ends_nice = subst (λ v. is_nice v ≡ true) (sym same) r.ends_nice;
        few = omega (arith, w, r.few);
      }))
]

-- the strategy's list is legal, ends in a nice embedded drawing, and has at most as many bursts as the first weight
pub strategy_ends : (d : Drawing) → IsEmbedded d → Ended d (strategy d) (burst_count (weight d) d)
strategy_ends d ok = enough (weight d) d ok (omega arith)

-- the strategy's list is one list
pub one_strategy : (d : Drawing) (fs gs : List Finger) → IsStrategy d fs → IsStrategy d gs → fs ≡ gs
one_strategy d fs gs (nice q) (nice r) = refl
one_strategy d fs gs (nice q) (bursts r k) = absurd (true≢false (sym q ∙ r))
one_strategy d fs gs (bursts q h) (nice r) = absurd (true≢false (sym r ∙ q))
one_strategy d fs gs (bursts q h) (bursts r k) = ap (λ v. burst d ++ v) (one_strategy (replayed d (burst d)) _ _ h k)

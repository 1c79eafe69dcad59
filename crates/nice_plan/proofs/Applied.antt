-- The bursts that were applied so far, and what they leave of the strategy's list and of the bursts that fit a limit.
use Rattle.std.proofs.Common.{◌≡◌, ℕ, zero, suc, ◌+◌, ◌-◌, ◌<◌, ◌≤◌, Bool, true, false, cond, ltb, List, [], ◌∷◌, ◌++◌, get_or, length, take, append_assoc, refl, sym, ◌∙◌, ap, ap₂, subst, arith, inl, inr}
use Rattle.std.proofs.lemmas.Bool.{cases_Bool, cases_lt, le-ltb, lt-ltb, true≢false}
use Rattle.std.proofs.lemmas.List.{append-nil, length-append}
use Rattle.page_surface.specs.Drawing.{Drawing, IsEmbedded}
use Rattle.drawing.specs.declared.finger.Finger.{Finger}
use Rattle.drawing.specs.Fingers.{AllLegal, IsLegal, pushed, replayed}
use Rattle.region_table.specs.Changed.{KeepsAllNames}
use Rattle.region_table.specs.Nice.{is_nice, weight}
use Rattle.region_table.specs.Table.{Table}
use Rattle.finger_move.proofs.Replayed.{replayed_append, replayed_exits}
use Rattle.nice_plan.specs.Applied.{AreBurstsApplied, IsApplied, IsBurstApplied}
use Rattle.nice_plan.specs.Burst.{burst}
use Rattle.nice_plan.specs.Strategy.{bursts_of, fitting, strategy, within_limit}
use Rattle.nice_plan.specs.declared.refusal.PlanRefusal.{PlanRefusal}
use Rattle.nice_plan.specs.declared.refusal.PlanRefusal.TheVariants.{MoveBudget, NoMemory}
use Rattle.nice_plan.proofs.BurstLegal.{burst_embedded, burst_legal}
use Rattle.nice_plan.proofs.BurstLowers.{burst_lowers}
use Rattle.nice_plan.proofs.Fitting.{weighs}
use Rattle.nice_plan.proofs.KeptNames.{names_through}
use Rattle.nice_plan.proofs.StrategyEnds.{enough, one_strategy}

-- a nice drawing has no burst
no_burst : (n : ℕ) (d : Drawing) → is_nice d ≡ true → bursts_of n d ≡ []
no_burst zero d q = refl
no_burst (suc n) d q = rw (bursts_of, q) refl

-- another one begins with its burst
first_burst : (n : ℕ) (d : Drawing) → is_nice d ≡ false → bursts_of (suc n) d ≡ burst d ++ bursts_of n (replayed d (burst d))
first_burst n d q = rw (bursts_of, q) refl

-- more bursts than the weight change nothing
bursts_enough : (n : ℕ) (d : Drawing) → IsEmbedded d → weight d ≤ n → bursts_of n d ≡ strategy d
bursts_enough n d ok l = one_strategy d (bursts_of n d) (strategy d) (enough n d ok l).strategy (enough (weight d) d ok (omega arith)).strategy

-- so the strategy's list begins with the burst, and goes on with that of the drawing after it
strategy_more : (d : Drawing) → IsEmbedded d → is_nice d ≡ false → strategy d ≡ burst d ++ strategy (replayed d (burst d))
strategy_more d ok q = by_weight (weight d) refl
  where
    by_weight : (n : ℕ) → weight d ≡ n → strategy d ≡ burst d ++ strategy (replayed d (burst d))
    by_weight zero e = absurd (let w = weighs d ok q in let v : ⊥ = omega (arith, w, e) in v)
    by_weight (suc n) e =
        let low = burst_lowers d ok q in
        ap (λ k. bursts_of k d) e ∙ (first_burst n d q ∙ ap (λ gs. burst d ++ gs) (bursts_enough n (replayed d (burst d)) (burst_embedded d ok q) (omega (arith, low, e))))

-- none of a nice drawing fits
none_fits : (n limit : ℕ) (d : Drawing) → is_nice d ≡ true → fitting n limit d ≡ []
none_fits zero limit d q = refl
none_fits (suc n) limit d q = rw (fitting, q) refl

-- nor where the next burst is too long
too_long : (n limit : ℕ) (d : Drawing) → is_nice d ≡ false → limit < length (burst d) → fitting n limit d ≡ []
too_long zero limit d q k = refl
too_long (suc n) limit d q k = let z : ltb limit (length (burst d)) ≡ true = lt-ltb limit (length (burst d)) k in rw (fitting, q, z) refl

-- and else it is the first that fits
first_fits : (n limit : ℕ) (d : Drawing) → is_nice d ≡ false → length (burst d) ≤ limit → fitting (suc n) limit d ≡ burst d ++ fitting n (limit - length (burst d)) (replayed d (burst d))
first_fits n limit d q k = let z : ltb limit (length (burst d)) ≡ false = le-ltb limit (length (burst d)) k in rw (fitting, q, z) refl

-- more bursts than the weight change nothing of those that fit
fitting_enough : (n m limit : ℕ) (d : Drawing) → IsEmbedded d → weight d ≤ n → weight d ≤ m → fitting n limit d ≡ fitting m limit d
fitting_enough zero m limit d ok l k = elim (cases_Bool (is_nice d)) [
  | inl q ↦ sym (none_fits m limit d q)
  | inr q ↦ absurd (let w = weighs d ok q in let v : ⊥ = omega (arith, w, l) in v)
]
fitting_enough (suc n) zero limit d ok l k = elim (cases_Bool (is_nice d)) [
  | inl q ↦ none_fits (suc n) limit d q
  | inr q ↦ absurd (let w = weighs d ok q in let v : ⊥ = omega (arith, w, k) in v)
]
fitting_enough (suc n) (suc m) limit d ok l k = elim (cases_Bool (is_nice d)) [
  | inl q ↦ none_fits (suc n) limit d q ∙ sym (none_fits (suc m) limit d q)
  | inr q ↦ elim (cases_lt limit (length (burst d))) [
    | inl long ↦ too_long (suc n) limit d q long ∙ sym (too_long (suc m) limit d q long)
    | inr short ↦
        (let low = burst_lowers d ok q in
        let rest = fitting_enough n m (limit - length (burst d)) (replayed d (burst d)) (burst_embedded d ok q) (omega (arith, low, l)) (omega (arith, low, k)) in
        first_fits n limit d q short ∙ (ap (λ gs. burst d ++ gs) rest ∙ sym (first_fits m limit d q short)))
  ]
]

-- so what fits begins with the burst
within_more : (limit : ℕ) (d : Drawing) → IsEmbedded d → is_nice d ≡ false → length (burst d) ≤ limit → within_limit limit d ≡ burst d ++ within_limit (limit - length (burst d)) (replayed d (burst d))
within_more limit d ok q k = by_weight (weight d) refl
  where
    by_weight : (n : ℕ) → weight d ≡ n → within_limit limit d ≡ burst d ++ within_limit (limit - length (burst d)) (replayed d (burst d))
    by_weight zero e = absurd (let w = weighs d ok q in let v : ⊥ = omega (arith, w, e) in v)
    by_weight (suc n) e =
        let low = burst_lowers d ok q in
        let new = replayed d (burst d) in
        ap (λ k. fitting k limit d) e
        ∙ (first_fits n limit d q k
        ∙ ap (λ gs. burst d ++ gs) (fitting_enough n (weight new) (limit - length (burst d)) new (burst_embedded d ok q) (omega (arith, low, e)) (omega arith)))

-- one burst more, where the drawing after those before it isn't nice
one_more : (n : ℕ) (d : Drawing) → is_nice (replayed d (bursts_of n d)) ≡ false → bursts_of (suc n) d ≡ bursts_of n d ++ burst (replayed d (bursts_of n d))
one_more zero d q = first_burst zero d q ∙ append-nil (burst d)
one_more (suc n) d q = elim (cases_Bool (is_nice d)) [
  | inl good ↦ absurd (true≢false (sym good ∙ (ap (λ fs. is_nice (replayed d fs)) (sym (no_burst (suc n) d good)) ∙ q)))
  | inr bad ↦
      (let new = replayed d (burst d) in
      let here : replayed d (bursts_of (suc n) d) ≡ replayed new (bursts_of n new) = ap (replayed d) (first_burst n d bad) ∙ replayed_append d (burst d) (bursts_of n new) in
      let later = one_more n new (ap is_nice (sym here) ∙ q) in
      first_burst (suc n) d bad
      ∙ (ap (λ gs. burst d ++ gs) later
      ∙ (sym (append_assoc (burst d) (bursts_of n new) (burst (replayed new (bursts_of n new))))
      ∙ (ap (λ gs. gs ++ burst (replayed new (bursts_of n new))) (sym (first_burst n d bad))
      ∙ ap (λ (e : Drawing). bursts_of (suc n) d ++ burst e) (sym here)))))
]

-- each of some legal fingers is legal in the drawing that the ones before it leave
pub each_legal : (d : Drawing) (fs : List Finger) (n : ℕ) (f : Finger) → AllLegal d fs → n < length fs → f ≡ get_or fs n f → IsLegal (replayed d (take n fs)) f
each_legal d [] n f all l is = absurd (omega (arith, l))
each_legal d (g ∷ fs) zero f all l is = subst (IsLegal d) (sym is) all.0
each_legal d (g ∷ fs) (suc n) f all l is = each_legal (pushed d g) fs n f all.1 (omega (arith, l)) is

-- none so far
pub none_applied : (first : Drawing) (limit : ℕ) → IsEmbedded first → IsApplied first limit [] first
none_applied first limit ok = record {
  embedded = ok;
  here = refl;
  short = omega arith;
  size = omega arith;
  planned = refl;
  fits = let all : limit ≡ limit - 0 = omega arith in ap (λ k. within_limit k first) all;
  bursts = (0, refl);
}

module _ (first : Drawing) (limit : ℕ) (fingers : List Finger) (now : Drawing) (applied : IsApplied first limit fingers now) where
  -- after one burst more so many bursts were applied
  pub bursts_more : is_nice now ≡ false → (n : ℕ) × (fingers ++ burst now ≡ bursts_of n first)
  bursts_more bad =
      let (n, so) = applied.bursts in
      let here : now ≡ replayed first (bursts_of n first) = applied.here ∙ ap (replayed first) so in
      let more : bursts_of (suc n) first ≡ bursts_of n first ++ burst (replayed first (bursts_of n first)) = one_more n first (ap is_nice (sym here) ∙ bad) in
      (suc n, ap₂ (λ (gs : List Finger) (e : Drawing). gs ++ burst e) so here ∙ sym more)

  -- one burst more that fits
  pub burst_applied : is_nice now ≡ false → length fingers + length (burst now) ≤ limit → IsApplied first limit (fingers ++ burst now) (replayed now (burst now))
  burst_applied bad room =
      let size = length-append fingers (burst now) in
      let new = replayed now (burst now) in
      record {
        embedded = burst_embedded now applied.embedded bad;
        here = ap (λ (e : Drawing). replayed e (burst now)) applied.here ∙ sym (replayed_append first fingers (burst now));
        short = omega (arith, size, room);
        size = omega (arith, replayed_exits now applied.embedded (burst now) (burst_legal now applied.embedded bad), applied.size, size);
        planned = applied.planned ∙ (ap (λ gs. fingers ++ gs) (strategy_more now applied.embedded bad) ∙ sym (append_assoc fingers (burst now) (strategy new)));
        fits = applied.fits
            ∙ (ap (λ gs. fingers ++ gs) (within_more (limit - length fingers) now applied.embedded bad (omega (arith, room)))
            ∙ (sym (append_assoc fingers (burst now) (within_limit (limit - length fingers - length (burst now)) new))
            ∙ ap (λ k. (fingers ++ burst now) ++ within_limit k new) (omega (arith, size))));
        bursts = bursts_more bad;
      }

  -- a nice drawing is the strategy's last one
  pub all_applied : is_nice now ≡ true → strategy first ≡ fingers
  all_applied good = applied.planned ∙ (ap (λ gs. fingers ++ gs) (no_burst (weight now) now good) ∙ append-nil fingers)

  -- and a burst that doesn't fit is where the bursts that fit end
  pub all_that_fit : is_nice now ≡ false → limit - length fingers < length (burst now) → (within_limit limit first ≡ fingers) × (limit < length (strategy first))
  all_that_fit bad long =
      let more = ap length (applied.planned ∙ ap (λ gs. fingers ++ gs) (strategy_more now applied.embedded bad)) in
      let size = length-append fingers (burst now ++ strategy (replayed now (burst now))) in
      let rest = length-append (burst now) (strategy (replayed now (burst now))) in (
        applied.fits ∙ (ap (λ gs. fingers ++ gs) (too_long (weight now) (limit - length fingers) now bad long) ∙ append-nil fingers),
        omega (arith, more, size, rest, long, applied.short),
      )

  -- a step that may apply a burst
  pub step_applied : (new : Drawing) (more : List Finger) (b : Bool) → (b ≡ true → IsBurstApplied limit now fingers new more) → (b ≡ false → (new ≡ now) × (more ≡ fingers)) → IsApplied first limit more new
  step_applied new more true burst_so same =
      let a = burst_so refl in
      subst (λ (e : Drawing). IsApplied first limit more e) (sym a.here)
      (subst (λ fs. IsApplied first limit fs (replayed now (burst now))) (sym a.listed) (burst_applied a.bad (omega (arith, a.short, applied.short))))
  step_applied new more false burst_so same =
      let (here, listed) = same refl in
      subst (λ (e : Drawing). IsApplied first limit more e) (sym here) (subst (λ fs. IsApplied first limit fs now) (sym listed) applied)

  -- lowers the weight, or is the last one
  pub step_lowers : (new : Drawing) (more : List Finger) (b : Bool) → (b ≡ true → IsBurstApplied limit now fingers new more) → (b ≡ false → new ≡ now) → weight new + cond {A = ℕ} b 1 0 < weight now + 1
  step_lowers new more true burst_so same = let a = burst_so refl in omega (arith, burst_lowers now applied.embedded a.bad, ap weight a.here)
  step_lowers new more false burst_so same = omega (arith, ap weight (same refl))

  -- and keeps names
  pub step_names : (more : List Finger) (b : Bool) (t u v : Table) → (b ≡ true → more ≡ fingers ++ burst now) → (b ≡ true → KeepsAllNames now (burst now) u v)
      → (b ≡ false → (v ≡ u) × (more ≡ fingers)) → KeepsAllNames first fingers t u → KeepsAllNames first more t v
  step_names more true t u v listed later same kept =
      subst (λ gs. KeepsAllNames first gs t v) (sym (listed refl))
      (names_through first fingers (burst now) t u v kept (subst (λ (e : Drawing). KeepsAllNames e (burst now) u v) applied.here (later refl)))
  step_names more false t u v listed later same kept =
      let (here, stay) = same refl in
      subst (λ gs. KeepsAllNames first gs t v) (sym stay) (subst (λ (x : Table). KeepsAllNames first fingers t x) (sym here) kept)

  -- a refusal leaves the bursts that fit
  pub over_budget : (n left : ℕ) (new : Drawing) → n ≡ limit → is_nice now ≡ false → limit - length fingers < length (burst now) → left ≡ weight now → new ≡ now
      → (n ≡ limit) × (limit < length (strategy first)) × (new ≡ replayed first (within_limit limit first)) × (left ≡ weight new) × (1 ≤ left)
  over_budget n left new limit_is bad long left_is same =
      let (fits, over) = all_that_fit bad long in
      (limit_is, over, same ∙ (applied.here ∙ ap (replayed first) (sym fits)), left_is ∙ ap weight (sym same), omega (arith, weighs now applied.embedded bad, left_is))

  -- and their names,
  pub names_that_fit : (t u v : Table) → is_nice now ≡ false → limit - length fingers < length (burst now) → v ≡ u → KeepsAllNames first fingers t u → KeepsAllNames first (within_limit limit first) t v
  names_that_fit t u v bad long same kept =
      let (fits, over) = all_that_fit bad long in
      subst (λ gs. KeepsAllNames first gs t v) (sym fits) (subst (λ (x : Table). KeepsAllNames first fingers t x) (sym same) kept)

  -- and want of memory some whole bursts
  pub whole_bursts : (new : Drawing) (t u v : Table) → new ≡ now → v ≡ u → KeepsAllNames first fingers t u → AreBurstsApplied first new t v
  whole_bursts new t u v here same kept =
      let (n, so) = applied.bursts in (
        n,
        here ∙ (applied.here ∙ ap (replayed first) so),
        subst (λ gs. KeepsAllNames first gs t v) so (subst (λ (x : Table). KeepsAllNames first fingers t x) (sym same) kept),
      )

-- what holds for a refusal that isn't for want of memory
pub where_refused : (P : Type 0) (refusal : PlanRefusal) → (refusal ≡ NoMemory → ⊥) → ((n left : ℕ) → refusal ≡ MoveBudget n left → P) → P
where_refused P (MoveBudget n left) other given = given n left refl
where_refused P NoMemory other given = absurd (other refl)

-- the numbers of a refusal
budget_limit : PlanRefusal → ℕ
budget_limit (MoveBudget n left) = n
budget_limit NoMemory = 0

budget_left : PlanRefusal → ℕ
budget_left (MoveBudget n left) = left
budget_left NoMemory = 0

pub budget_parts : (n m left other : ℕ) → MoveBudget n left ≡ MoveBudget m other → (n ≡ m) × (left ≡ other)
unfolding budget_limit budget_left
budget_parts n m left other is = (ap budget_limit is, ap budget_left is)

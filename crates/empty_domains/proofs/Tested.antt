-- The steps of a generator tested one after the other: the numbers of their targets so far, and at the end.
use Rattle.std.proofs.Common.{◌≡◌, ℕ, suc, ◌<◌, List, [], ◌∷◌, ◌++◌, None, Some, get_or, length, refl, sym, ap, subst, take, ◌∙◌}
use Rattle.std.proofs.Math.Seq.{take-suc}
use Rattle.drawing.specs.Points.{IsGenerator}
use Rattle.empty_domains.proofs.Laws.{strips_find_all}
use Rattle.empty_domains.proofs.LedSteps.{led_more, led_same}
use Rattle.empty_domains.specs.Leads.{IsWalk}
use Rattle.empty_domains.specs.Led.{IsLed}
use Rattle.empty_domains.specs.Strip.{Step, all_strips, step_leads}
use Rattle.empty_domains.specs.Targets.{AreLed, AreTargets}
use Rattle.page_surface.specs.Drawing.{Drawing, IsEmbedded}
use Rattle.region_table.specs.Nice.{IsNice}

-- some steps and one more
pub taken_more : (steps : List Step) (k n : ℕ) → n ≡ suc k → k < length steps → (s z : Step) → s ≡ get_or steps k z → take n steps ≡ take k steps ++ s ∷ []
taken_more steps k n e l s z here = ap (λ i. take i steps) e ∙ (take-suc steps k z l ∙ ap (λ w. take k steps ++ w ∷ []) (sym here))

module _ (d : Drawing) (y : List ℕ) (gens : List (List ℕ)) where
  -- no step leads nowhere
  pub led_begin : AreLed d y gens [] []
  led_begin = record { told = refl; inside = (λ n m. absurd m) }

  module _ (steps : List Step) (numbers : List ℕ) (k n : ℕ) (e : n ≡ suc k) (l : k < length steps) (s z : Step) (here : s ≡ get_or steps k z) (so_far : AreLed d y gens (take k steps) numbers) where
    -- one step more that leads to a generator
    pub led_on : (to : ℕ) → IsLed d y gens s (Some to) → AreLed d y gens (take n steps) (numbers ++ to ∷ [])
    led_on to led = subst (λ ss. AreLed d y gens ss (numbers ++ to ∷ [])) (sym (taken_more steps k n e l s z here)) (led_more d y gens (take k steps) numbers so_far s to led)

    -- and one that doesn't
    pub led_over : IsLed d y gens s None → AreLed d y gens (take n steps) numbers
    led_over led = subst (λ ss. AreLed d y gens ss numbers) (sym (taken_more steps k n e l s z here)) (led_same d y gens (take k steps) numbers so_far s led)

  -- at the end they are the targets of all domains
  pub all_targets : IsEmbedded d → IsNice d → IsGenerator d y → (steps : List Step) → steps ≡ all_strips d y → (numbers : List ℕ) → AreLed d y gens steps numbers → AreTargets d y gens numbers
  all_targets ok nice from steps e numbers led = record {
    leads = step_leads d y steps;
    walk = subst (λ ss. IsWalk d y (step_leads d y ss)) (sym e) (strips_find_all d ok nice y from);
    told = led.told;
    inside = led.inside;
  }

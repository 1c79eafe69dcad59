-- The numbers of the generators to which domains lead.
use Rattle.std.specs.Prelude.{◌≡◌, ℕ, ◌<◌, List, [], length, map, slice_index_or}
use Rattle.obd_base.specs.Lists.{Mem}
use Rattle.page_surface.specs.Drawing.{Drawing}
use Rattle.empty_domains.specs.Leads.{IsWalk, Lead}
use Rattle.empty_domains.specs.Strip.{Step, step_leads}

-- the numbers of the generators to which the leads of some steps lead
pub record AreLed (d : Drawing) (y : List ℕ) (generators : List (List ℕ)) (steps : List Step) (numbers : List ℕ) : Type 0 where
  pub told : map (λ n. slice_index_or generators n []) numbers ≡ map (λ l. l.to) (step_leads d y steps)
  pub inside : (n : ℕ) → Mem n numbers → n < length generators

-- the numbers of the generators to which the domains from y lead, one for each domain
pub record AreTargets (d : Drawing) (y : List ℕ) (generators : List (List ℕ)) (numbers : List ℕ) : Type 0 where
  pub leads : List Lead
  pub walk : IsWalk d y leads
  pub told : map (λ n. slice_index_or generators n []) numbers ≡ map (λ l. l.to) leads
  pub inside : (n : ℕ) → Mem n numbers → n < length generators

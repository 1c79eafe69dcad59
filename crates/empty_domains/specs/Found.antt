-- The domains from a generator, by the numbers of their targets and the first spans of their pieces.
use Rattle.std.specs.Prelude.{◌≡◌, ℕ, ◌<◌, List, [], length, map, slice_index_or}
use Rattle.std.specs.List.Sorted.{IsStrictlyIncreasing}
use Rattle.obd_base.specs.Lists.{Mem}
use Rattle.page_surface.specs.Drawing.{Drawing}
use Rattle.empty_domains.specs.Leads.{IsWalk, Lead, lead}
use Rattle.empty_domains.specs.Strip.{Step, step_leads}

-- a domain: the number of the generator to which it leads, and its pieces by their first spans
pub record Found : Type 0 where
  pub target : ℕ
  pub pieces : List ℕ

-- a domain by its two parts
abbrev pub domain : ℕ → List ℕ → Found
domain n set = record { target = n; pieces = set }

-- the leads of some domains
abbrev pub found_leads : List (List ℕ) → List Found → List Lead
found_leads generators domains = map (λ f. lead (slice_index_or generators f.target []) f.pieces) domains

-- the domains to which some steps lead
pub record AreFound (d : Drawing) (y : List ℕ) (generators : List (List ℕ)) (steps : List Step) (domains : List Found) : Type 0 where
  pub told : found_leads generators domains ≡ step_leads d y steps
  pub inside : (f : Found) → Mem f domains → f.target < length generators

-- all domains from y, each once, with the numbers of their targets
pub record AreDomains (d : Drawing) (y : List ℕ) (generators : List (List ℕ)) (domains : List Found) : Type 0 where
  pub walk : IsWalk d y (found_leads generators domains)
  pub inside : (f : Found) → Mem f domains → f.target < length generators

-- the same numbers in ascending order
pub record IsAscending (numbers sorted : List ℕ) : Type 0 where
  pub up : IsStrictlyIncreasing sorted
  pub back : (n : ℕ) → Mem n sorted → Mem n numbers
  pub all : (n : ℕ) → Mem n numbers → Mem n sorted

-- Lines of which the last one has a rule of its own, tried one after another.
use Rattle.std.proofs.Common.{◌≡◌, ℕ, ◌-◌, Bool, true, false, List, length, None, Some, ◌∙◌, ap}
use Rattle.witness_check.specs.declared.certificate.Certificate.{Certificate}
use Rattle.witness_check.specs.declared.checked.Reason.{Reason}
use Rattle.witness_check.specs.declared.fault.Fault.{Fault}
use Rattle.witness_check.specs.declared.fault.Stop.TheVariants.{Fault as stopped}
use Rattle.witness_check.specs.Checked.{first_fault}
use Rattle.witness_check.specs.DrawingRules.{Finds, Stops}
use Rattle.witness_check.specs.Rules.{Rule, each, rule}
use Rattle.witness_check.proofs.FirstFaults.{alone, fault_at, own_rules, then_last}

-- the lines of every certificate that begins so have one rule each, and the last one a rule after its own
abbrev pub EndsBy : {A : Type 0} → (Certificate → Type 0) → (Certificate → List (List Rule)) → (ℕ → A → Rule) → Rule → List A → Type 0
EndsBy begins lines own last xs =
    (c : Certificate) → begins c → first_fault (lines c) ≡ then_last own (length xs) last (length xs - 1) (first_fault (each (own_rules own) xs))

module _ {A : Type 0} (begins : Certificate → Type 0) (lines : Certificate → List (List Rule)) (own : ℕ → A → Rule) (reason : Reason) (test : Bool) (xs : List A)
    (ends : EndsBy begins lines own (rule reason test) xs) where
  -- a line that breaks its own rule
  pub own_stops : (fault : Fault) → first_fault (each (own_rules own) xs) ≡ Some fault → Stops begins lines (stopped fault)
  own_stops fault is given same c begun = ends c begun ∙ (ap (then_last own (length xs) (rule reason test) (length xs - 1)) is ∙ cc)

  -- none does, and the last rule is kept
  pub last_kept : first_fault (each (own_rules own) xs) ≡ None → test ≡ true → Finds begins lines None
  last_kept none good c begun =
      ends c begun ∙ (ap (then_last own (length xs) (rule reason test) (length xs - 1)) none ∙ ap (λ b. alone (length xs - 1) (rule reason b)) good)

  -- none does, and the last rule isn't kept
  pub last_stops : first_fault (each (own_rules own) xs) ≡ None → test ≡ false → Stops begins lines (stopped (fault_at (length xs - 1) reason))
  last_stops none bad given same c begun =
      ends c begun ∙ (ap (then_last own (length xs) (rule reason test) (length xs - 1)) none ∙ (ap (λ b. alone (length xs - 1) (rule reason b)) bad ∙ cc))

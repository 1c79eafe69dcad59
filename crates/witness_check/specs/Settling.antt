-- What is said of rows that were read and tried.
use Rattle.std.specs.Prelude.{◌≡◌, ℕ, ◌+◌, ◌<◌, ◌^◌, List, [], ◌∷◌, Option, Some, None, Result, Ok, Err}
use Rattle.witness_check.specs.declared.checked.Reason.TheVariants.{Form as form}
use Rattle.witness_check.specs.declared.fault.Fault.{Fault}
use Rattle.witness_check.specs.declared.fault.Refusal.{Refusal}
use Rattle.witness_check.specs.declared.fault.Refusal.TheVariants.{Bad as badly, NoMemory as no_memory}
use Rattle.witness_check.specs.declared.fault.Stop.{Stop}
use Rattle.witness_check.specs.declared.fault.Stop.TheVariants.{Fault as stopped, NoMemory as no_room}

-- the refusal of a fault among lines that begin at this number
abbrev pub FaultFrom : ℕ → Fault → Refusal → Type 0
FaultFrom first fault refusal = first + fault.at < 2 ^ 32 → refusal ≡ badly (first + fault.at) fault.reason

-- the refusal of rows that were read: their first fault, or else the line that lacks its form
abbrev pub Broken : ℕ → Option Fault → ℕ → Refusal → Type 0
Broken first (Some fault) line refusal = FaultFrom first fault refusal
Broken first None line refusal = refusal ≡ badly line form

-- and by what became of trying them
abbrev pub Settles : {T : Type 0} → ℕ → Result T Stop → Option ℕ → Refusal → Type 0
Settles first (Err (stopped fault)) breaks refusal = FaultFrom first fault refusal
Settles first (Err no_room) breaks refusal = refusal ≡ no_memory
Settles first (Ok made) (Some line) refusal = refusal ≡ badly line form
Settles first (Ok made) None refusal = ⊥

-- what stands behind rows that were read: nothing where these are all, and else one more at least
abbrev pub Behind : {A : Type 0} → Option ℕ → List A → Type 0
Behind None more = more ≡ []
Behind {A = A} (Some line) more = (next : A) × (rest : List A) × (more ≡ next ∷ rest)

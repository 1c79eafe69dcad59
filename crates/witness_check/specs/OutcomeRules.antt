-- What is said of the lines from the pivots to the verdict, by what the lines before them give.
use Rattle.std.specs.Prelude.{◌≡◌, ℕ, suc, Bool, true, false, List, [], ◌∷◌, ◌++◌, length, Result, Ok, Err}
use Rattle.obd_base.specs.declared.causes.NoMemory.{NoMemory}
use Rattle.mod2_rank.specs.GivenPivots.{Reducing}
use Rattle.mod2_rank.specs.PivotRules.{reducers}
use Rattle.mod2_rank.specs.declared.outcome.Pivot.{Pivot}
use Rattle.witness_check.specs.declared.certificate.Certificate.{Certificate}
use Rattle.witness_check.specs.declared.checked.Reason.{Reason}
use Rattle.witness_check.specs.declared.checked.Reason.TheVariants.{Form as form}
use Rattle.witness_check.specs.declared.fault.Refusal.{Refusal}
use Rattle.witness_check.specs.declared.fault.Refusal.TheVariants.{Bad as badly, NoMemory as no_memory}
use Rattle.witness_check.specs.Between.{After}
use Rattle.witness_check.specs.FieldsOn.{rank_fields}
use Rattle.witness_check.specs.Passing.{Lines}
use Rattle.witness_check.specs.Rules.{last_columns}
use Rattle.witness_check.specs.RulesOn.{rank_on_rules}
use Rattle.witness_check.specs.Stages.{rank_on}

-- the columns, and the first pivots
pub record BeginsPivots (columns : List (List ℕ)) (count : ℕ) (read : List Pivot) (c : Certificate) : Type 0 where
  pub columns_are : last_columns c ≡ columns
  pub count_is : c.generators ≡ count
  pub more : List Pivot
  pub pivots_are : c.pivots ≡ read ++ more

-- the columns, and the reducers that the pivots make
pub record HasReducers (columns : List (List ℕ)) (made : Reducing) (c : Certificate) : Type 0 where
  pub columns_are : last_columns c ≡ columns
  pub count_is : c.generators ≡ made.rows
  pub list_is : reducers made.rows columns [] c.pivots ≡ made.list
  pub size_is : length c.pivots ≡ length made.list

-- the lines of the pivots are passed
abbrev pub AfterReducers : List (List ℕ) → Reducing → List ℕ → Lines → Type 0
AfterReducers columns made = After rank_on rank_on_rules rank_fields (HasReducers columns made)

-- the refusal of a line by the one rule that it has
abbrev pub Untrue : Result Bool NoMemory → ℕ → Reason → Refusal → Type 0
Untrue (Ok true) line reason refusal = ⊥
Untrue (Ok false) line reason refusal = refusal ≡ badly line reason
Untrue (Err e) line reason refusal = refusal ≡ no_memory

-- a line is left, and is refused
abbrev pub Follows : Lines → Refusal → Type 0
Follows lines refusal = (line : List ℕ) × (more : List (List ℕ)) × (lines.left ≡ line ∷ more) × (refusal ≡ badly (suc lines.taken) form)

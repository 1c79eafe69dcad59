-- Options, of which the first that isn't none counts: so rules are tried in order.
use Rattle.std.specs.Prelude.{Bool, List, [], ◌∷◌, Option, None, Some, if◌then◌else◌}

-- something where a test says so, and else none
abbrev pub when : {A : Type 0} → Bool → A → Option A
when so x = if so then Some x else None

-- the first of some options that isn't none
abbrev pub first_of : {A : Type 0} → List (Option A) → Option A
first_of [] = None
first_of (Some x ∷ rest) = Some x
first_of (None ∷ rest) = first_of rest

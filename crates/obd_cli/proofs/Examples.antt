-- Worked samples and answers of `check`.
use Rattle.std.proofs.Common.{◌≡◌, [], ◌∷◌, codes, map, refl}
use Rattle.std.specs.Prelude.{negsuc, pos}
use Rattle.obd_base.specs.Lists.{below}
use Rattle.curve_paths.specs.declared.twist.Twist.{Twist}
use Rattle.witness_check.specs.Line.{line}
use Rattle.witness_check.specs.declared.checked.Answer.TheVariants as found
use Rattle.obd_cli.specs.CheckAnswer.{valid_line}
use Rattle.obd_cli.specs.Sample.{number, sample_twist}

-- entries about a and b by these powers
abbrev a_left : Twist
a_left = record { curve = 0; power = negsuc 0 }

abbrev a_right : Twist
a_right = record { curve = 0; power = pos 1 }

abbrev b_left : Twist
b_left = record { curve = 1; power = negsuc 0 }

abbrev b_right : Twist
b_right = record { curve = 1; power = pos 1 }

-- the numbers from the seed 0
numbers_from_zero : map (number 0) (below 4) ≡ 0 ∷ 74 ∷ 5624 ∷ 28652 ∷ []
numbers_from_zero = refl

-- and its first six entries
entries_from_zero : map (sample_twist 0) (below 6) ≡ a_left ∷ a_right ∷ b_right ∷ b_left ∷ a_right ∷ b_right ∷ []
entries_from_zero = refl

-- the line of a valid certificate that says zero
valid_zero : valid_line found.Zero ≡ codes "valid zero\n"
unfolding line
valid_zero = refl

-- Worked curves made tight, and closed words reduced.
use Rattle.std.proofs.Common.{◌≡◌, true, List, [], ◌∷◌, map, refl}
use Rattle.obd_base.specs.declared.points.Exit.{Exit}
use Rattle.obd_base.specs.declared.points.Sign.TheVariants.{Plus}
use Rattle.page_surface.specs.Drawing.{exit}
use Rattle.page_surface.specs.Words.{reduced}
use Rattle.page_surface.proofs.Examples.{annulus, torus}
use Rattle.curve_paths.specs.Curves.{identity_words, is_curve_list, push_at, twisted}
use Rattle.tight_curves.specs.Closed.{cyclic_form, word_of}
use Rattle.tight_curves.specs.Parts.{part_exits}
use Rattle.tight_curves.specs.Turns.{is_turn_at, without_turn}

-- the letters at the two ends cancel too
cyclic_form_of_three : cyclic_form torus (2 ∷ 1 ∷ 0 ∷ []) ≡ 1 ∷ []
cyclic_form_of_three = refl

cyclic_form_of_nothing : cyclic_form torus (2 ∷ 1 ∷ 3 ∷ 0 ∷ []) ≡ []
cyclic_form_of_nothing = refl

-- the core of the annulus
abbrev core : List Exit
core = exit 0 0 ∷ []

-- a curve of the annulus with a turn: without it the core is left
abbrev with_turn : List Exit
with_turn = exit 0 0 ∷ exit 1 1 ∷ exit 0 2 ∷ []

with_turn_is_curve : is_curve_list annulus with_turn ≡ true
with_turn_is_curve = refl

first_is_turn : is_turn_at annulus with_turn with_turn 0 ≡ true
first_is_turn = refl

what_is_left : without_turn 0 with_turn ≡ exit 0 2 ∷ []
what_is_left = refl

without_turn_is_core : part_exits annulus with_turn (exit 0 2 ∷ []) ≡ core
without_turn_is_core = refl

-- the twist about it sets the same products, and makes the same words
same_pushes : map (λ k. reduced annulus (push_at annulus with_turn Plus k)) (0 ∷ 1 ∷ []) ≡ map (λ k. reduced annulus (push_at annulus core Plus k)) (0 ∷ 1 ∷ [])
same_pushes = refl

same_words : twisted annulus with_turn Plus (identity_words annulus) ≡ twisted annulus core Plus (identity_words annulus)
same_words = refl

-- a curve that crosses a side and comes back bounds a disk: nothing is left
abbrev comes_back : List Exit
comes_back = exit 0 0 ∷ exit 1 0 ∷ []

comes_back_is_curve : is_curve_list annulus comes_back ≡ true
comes_back_is_curve = refl

comes_back_form : cyclic_form annulus (word_of comes_back) ≡ []
comes_back_form = refl

last_is_turn : is_turn_at annulus comes_back comes_back 1 ≡ true
last_is_turn = refl

nothing_is_left : without_turn 1 comes_back ≡ []
nothing_is_left = refl

-- the twist about it changes no reduced word
changes_nothing : twisted annulus comes_back Plus (identity_words annulus) ≡ identity_words annulus
changes_nothing = refl

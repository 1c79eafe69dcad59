-- Worked curves, and the words after twists along them.
use Rattle.std.proofs.Common.{◌≡◌, ℕ, zero, suc, true, false, List, [], ◌∷◌, refl}
use Rattle.obd_base.specs.declared.points.Exit.{Exit}
use Rattle.obd_base.specs.declared.points.Sign.TheVariants.{Plus, Minus}
use Rattle.page_surface.specs.Drawing.{exit}
use Rattle.page_surface.proofs.Examples.{annulus, eight_sides, torus}
use Rattle.curve_paths.specs.Curves.{identity_words, image, is_curve_list, passed, push_at, rho, twisted}

-- the curve with one exit, by point 0 of a side
abbrev pub through : ℕ → List Exit
through k = exit k 0 ∷ []

-- such lists are curves
core_of_annulus : is_curve_list annulus (through 0) ≡ true
core_of_annulus = refl

curves_of_torus : is_curve_list torus (through 0) ≡ true
curves_of_torus = refl

-- of a list whose two chords cross, that is told
crossing_list : is_curve_list annulus (exit 0 0 ∷ exit 0 1 ∷ []) ≡ false
crossing_list = refl

-- the curve's word from its point on the side by which it leaves, and from the one by which it enters
word_leaving : rho annulus (through 0) 0 0 ≡ 0 ∷ []
word_leaving = refl

word_entering : rho annulus (through 0) 1 0 ≡ 1 ∷ []
word_entering = refl

-- a negative twist pushes the other way
pushed_right : push_at annulus (through 0) Plus 0 ≡ 0 ∷ []
pushed_right = refl

pushed_left : push_at annulus (through 0) Minus 0 ≡ 1 ∷ []
pushed_left = refl

-- the sides passed from gap 2 round to gap 0, and none from a gap to itself
passed_round : passed torus 2 0 ≡ 3 ∷ 0 ∷ []
passed_round = refl

passed_none : passed torus 2 2 ≡ []
passed_none = refl

-- the words without a twist
annulus_without_twist : identity_words annulus ≡ (1 ∷ []) ∷ []
annulus_without_twist = refl

torus_without_twist : identity_words torus ≡ (2 ∷ []) ∷ (3 ∷ []) ∷ []
torus_without_twist = refl

eight_sides_without_twist : identity_words eight_sides ≡ (2 ∷ []) ∷ (4 ∷ []) ∷ (6 ∷ []) ∷ (7 ∷ []) ∷ []
eight_sides_without_twist = refl

-- the annulus after one right twist: the image, before it is reduced, and the word
annulus_image : image annulus (through 0) Plus (1 ∷ []) 1 0 ≡ 0 ∷ 1 ∷ []
annulus_image = refl

annulus_one_right_twist : twisted annulus (through 0) Plus (identity_words annulus) ≡ [] ∷ []
annulus_one_right_twist = refl

annulus_one_left_twist : twisted annulus (through 0) Minus (identity_words annulus) ≡ (1 ∷ 1 ∷ []) ∷ []
annulus_one_left_twist = refl

annulus_two_right_twists : twisted annulus (through 0) Plus (twisted annulus (through 0) Plus (identity_words annulus)) ≡ (0 ∷ []) ∷ []
annulus_two_right_twists = refl

-- a left twist takes a right one back
annulus_right_then_left : twisted annulus (through 0) Minus (twisted annulus (through 0) Plus (identity_words annulus)) ≡ identity_words annulus
annulus_right_then_left = refl

-- a right twist of the torus along the curve through the first arc, and one along the curve through the second
abbrev pub along_first : List (List ℕ) → List (List ℕ)
along_first ws = twisted torus (through 0) Plus ws

abbrev pub along_second : List (List ℕ) → List (List ℕ)
along_second ws = twisted torus (through 1) Plus ws

-- along the first, then along the second
abbrev pub both : List (List ℕ) → List (List ℕ)
both ws = along_second (along_first ws)

torus_one_right_twist : along_first (identity_words torus) ≡ [] ∷ (3 ∷ []) ∷ []
torus_one_right_twist = refl

torus_right_right : both (identity_words torus) ≡ (3 ∷ []) ∷ [] ∷ []
torus_right_right = refl

torus_right_left : twisted torus (through 1) Minus (along_first (identity_words torus)) ≡ (1 ∷ []) ∷ (3 ∷ 3 ∷ []) ∷ []
torus_right_left = refl

-- the other order gives other words
torus_left_right : along_first (twisted torus (through 1) Minus (identity_words torus)) ≡ [] ∷ (3 ∷ 2 ∷ 3 ∷ []) ∷ []
torus_left_right = refl

-- two pairs of right twists
torus_two_hexagons : both (both (identity_words torus)) ≡ (3 ∷ 3 ∷ []) ∷ (0 ∷ []) ∷ []
torus_two_hexagons = refl

-- a twist so many times
abbrev pub times : ℕ → (List (List ℕ) → List (List ℕ)) → List (List ℕ) → List (List ℕ)
times zero f ws = ws
times (suc n) f ws = times n f (f ws)

-- five along the first, and one along the second
torus_five_and_one : along_second (times 5 along_first (identity_words torus)) ≡ (3 ∷ 0 ∷ 3 ∷ 0 ∷ 3 ∷ 0 ∷ 3 ∷ 0 ∷ 3 ∷ []) ∷ [] ∷ []
torus_five_and_one = refl

-- five pairs
torus_five_pairs : times 5 both (identity_words torus) ≡ (3 ∷ 2 ∷ 1 ∷ 1 ∷ 2 ∷ 3 ∷ []) ∷ (0 ∷ 3 ∷ 2 ∷ 3 ∷ 0 ∷ []) ∷ []
torus_five_pairs = refl

-- a right twist of the page with eight sides along the curve through the arc of a side
abbrev along : ℕ → List (List ℕ) → List (List ℕ)
along k ws = twisted eight_sides (through k) Plus ws

chain_of_four_curves : along 5 (along 3 (along 1 (along 0 (identity_words eight_sides)))) ≡ (3 ∷ 7 ∷ 4 ∷ []) ∷ (5 ∷ 6 ∷ []) ∷ (7 ∷ []) ∷ [] ∷ []
chain_of_four_curves = refl

-- The certificate of the torus with two hexagons, whole and damaged.
use Rattle.std.proofs.Common.{◌≡◌, ℕ, ◌-◌, List, [], ◌∷◌, ◌++◌, codes, drop, refl, take}
use Rattle.std.specs.List.{flat_map}
use Rattle.std.specs.Fmt.{digits}
use Rattle.witness_check.specs.declared.checked.Answer.TheVariants.{Nonzero as nonzero}
use Rattle.witness_check.specs.declared.checked.Checked.{Checked}
use Rattle.witness_check.specs.declared.checked.Checked.TheVariants.{Bad as bad, Valid as valid}
use Rattle.witness_check.specs.Checked.{checked}
use Rattle.witness_check.specs.Line.{line}
use Rattle.witness_check.specs.Meaning.{Certifies}
use Rattle.witness_check.specs.declared.checked.Reason.TheVariants.{Form as form, Page as page, Limit as limit, Curve as curve, Slide as slide, Twist as twist, Basis as basis, Word as word, Drawing as drawing, Finger as finger, Final as final, Nice as nice, Generators as generators, Contact as contact, Pivot as pivot, Rank as rank, Homology as homology, Verdict as verdict}
use Rattle.witness_check.proofs.ValidLaw.{valid_certifies}

-- the text of some lines, checked
abbrev check_lines : List (List ℕ) → Checked
check_lines lines = checked (flat_map (λ l. l ++ 10 ∷ []) lines)

-- with another line of a number
abbrev with_line : ℕ → List ℕ → List (List ℕ) → List (List ℕ)
with_line number other lines = take (number - 1) lines ++ (other ∷ drop number lines)

-- without the line of a number
abbrev without_line : ℕ → List (List ℕ) → List (List ℕ)
without_line number lines = take (number - 1) lines ++ drop number lines

abbrev torus : List (List ℕ)
torus =
    codes "contact certificate 1" ∷ codes "polygons 1" ∷ codes "polygon A B A B" ∷ codes "curves 2" ∷ codes "curve a A:0:0" ∷ codes "curve b B:0:0"
    ∷ codes "slides 0" ∷ codes "twists 4" ∷ codes "twist a 1" ∷ codes "twist b 1" ∷ codes "twist a 1" ∷ codes "twist b 1" ∷ codes "seams 0"
    ∷ codes "basis 0 1 0 1" ∷ codes "strand 0 3.0 3.1" ∷ codes "strand 1 0.0" ∷ codes "fingers 3" ∷ codes "finger 0 2 3 2" ∷ codes "finger 1 1 3 1"
    ∷ codes "finger 1 2 3 4" ∷ codes "final 0 3.0 3.3 3.6 1.0" ∷ codes "final 1 0.0 3.1 3.4 1.2 1.5" ∷ codes "generators 9" ∷ codes "contact 8 1 8"
    ∷ codes "pivots 3" ∷ codes "pivot 0 1" ∷ codes "pivot 2 5" ∷ codes "pivot 3 7" ∷ codes "rank 3" ∷ codes "homology 3" ∷ codes "nonzero 1 8"
    ∷ codes "end" ∷ []

torus_valid : check_lines (torus) ≡ valid nonzero
unfolding line digits
torus_valid = refl

-- so it certifies that the contact class of the open book that it writes isn't zero
torus_certified : Certifies (flat_map (λ l. l ++ 10 ∷ []) torus) nonzero
torus_certified = valid_certifies (flat_map (λ l. l ++ 10 ∷ []) torus) nonzero torus_valid

label_three_times : check_lines (with_line 3 (codes "polygon A B A A") torus) ≡ bad 3 page
unfolding line digits
label_three_times = refl

wrong_place : check_lines (with_line 5 (codes "curve a A:0:1") torus) ≡ bad 5 curve
unfolding line digits
wrong_place = refl

name_of_an_earlier_curve : check_lines (with_line 6 (codes "curve a B:0:0") torus) ≡ bad 6 curve
unfolding line digits
name_of_an_earlier_curve = refl

no_such_side : check_lines (with_line 7 (codes "slides 1") (take 7 torus ++ (codes "slide 9" ∷ drop 7 torus))) ≡ bad 8 slide
unfolding line digits
no_such_side = refl

power_nothing : check_lines (with_line 9 (codes "twist a 0") torus) ≡ bad 9 twist
unfolding line digits
power_nothing = refl

unknown_curve : check_lines (with_line 9 (codes "twist d 1") torus) ≡ bad 9 twist
unfolding line digits
unknown_curve = refl

wrong_arcs : check_lines (with_line 14 (codes "basis 0 1 1 0") torus) ≡ bad 14 basis
unfolding line digits
wrong_arcs = refl

letter_less : check_lines (with_line 15 (codes "strand 0 3.0") torus) ≡ bad 15 word
unfolding line digits
letter_less = refl

crossing_chords : check_lines (with_line 15 (codes "strand 0 3.1 3.0") torus) ≡ bad 16 drawing
unfolding line digits
crossing_chords = refl

too_many_fingers : check_lines (with_line 17 (codes "fingers 20001") torus) ≡ bad 17 limit
unfolding line digits
too_many_fingers = refl

no_such_segment : check_lines (with_line 18 (codes "finger 0 2 3 3") torus) ≡ bad 18 finger
unfolding line digits
no_such_segment = refl

finger_less : check_lines (with_line 17 (codes "fingers 2") (without_line 20 torus)) ≡ bad 20 final
unfolding line digits
finger_less = refl

one_finger : check_lines (with_line 17 (codes "fingers 1") (with_line 19 (codes "final 0 3.0 3.1 3.2 1.0") (with_line 20 (codes "final 1 0.0") (without_line 21 (without_line 22 torus))))) ≡ bad 20 nice
unfolding line digits
one_finger = refl

generator_more : check_lines (with_line 23 (codes "generators 10") torus) ≡ bad 23 generators
unfolding line digits
generator_more = refl

wrong_contact : check_lines (with_line 24 (codes "contact 7 1 8") torus) ≡ bad 24 contact
unfolding line digits
wrong_contact = refl

row_that_is_not_least : check_lines (with_line 26 (codes "pivot 0 8") torus) ≡ valid nonzero
unfolding line digits
row_that_is_not_least = refl

pivot_twice : check_lines (with_line 27 (codes "pivot 0 1") torus) ≡ bad 27 pivot
unfolding line digits
pivot_twice = refl

pivot_less : check_lines (with_line 25 (codes "pivots 2") (without_line 28 (with_line 29 (codes "rank 2") torus))) ≡ bad 28 rank
unfolding line digits
pivot_less = refl

wrong_homology : check_lines (with_line 30 (codes "homology 2") torus) ≡ bad 30 homology
unfolding line digits
wrong_homology = refl

contact_row_alone : check_lines (with_line 31 (codes "nonzero 8") torus) ≡ bad 31 verdict
unfolding line digits
contact_row_alone = refl

out_of_order : check_lines (with_line 31 (codes "nonzero 8 1") torus) ≡ bad 31 verdict
unfolding line digits
out_of_order = refl

no_chain : check_lines (with_line 31 (codes "zero 0") torus) ≡ bad 31 verdict
unfolding line digits
no_chain = refl

end_less : check_lines (without_line 32 torus) ≡ bad 32 form
unfolding line digits
end_less = refl

further_line : check_lines (torus ++ (codes "end" ∷ [])) ≡ bad 33 form
unfolding line digits
further_line = refl

number_too_great : check_lines (with_line 21 (codes "final 0 3.4294967296") torus) ≡ bad 21 form
unfolding line digits
number_too_great = refl

-- the last line without its line feed
unended : checked (flat_map (λ l. l ++ 10 ∷ []) (without_line 32 torus) ++ codes "end") ≡ bad 32 form
unfolding line digits
unended = refl

-- no byte at all
empty_text : checked [] ≡ bad 1 form
unfolding line digits
empty_text = refl

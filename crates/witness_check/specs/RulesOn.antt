-- The rules of the lines that are left, from a line of each kind on.
use Rattle.std.specs.Prelude.{List, [], ◌∷◌, ◌++◌, length, nat_le}
use Rattle.mod2_rank.specs.Linear.{same_list}
use Rattle.witness_check.specs.declared.certificate.Certificate.{Certificate}
use Rattle.witness_check.specs.declared.checked.Reason.TheVariants.{Basis as basis, Limit as limit, Pivot as pivot}
use Rattle.witness_check.specs.OpenBook.{arcs, seam_names}
use Rattle.witness_check.specs.Rules.{Rule, contact_rules, curve_rules, each, final_rules, finger_rules, generator_rules, homology_rules, pivot_rules, polygon_count, polygon_rules, rank_rules, rule, same_names, slide_rules, strand_rules, twist_rules, verdict_rules}
use Rattle.witness_check.specs.Written.{polygon}

-- the rules of the lines with a number of further lines, and of the lines of the seams and the basis
abbrev pub curve_count : Certificate → List Rule
curve_count c = rule limit (nat_le (length c.curves) 32) ∷ []

abbrev pub slide_count : Certificate → List Rule
slide_count c = rule limit (nat_le (length c.slides) 64) ∷ []

abbrev pub twist_count : Certificate → List Rule
twist_count c = rule limit (nat_le (length c.twists) 256) ∷ []

abbrev pub finger_count : Certificate → List Rule
finger_count c = rule limit (nat_le (length c.fingers) 20000) ∷ []

abbrev pub pivot_count : Certificate → List Rule
pivot_count c = rule pivot (nat_le (length c.pivots) c.generators) ∷ []

abbrev pub seams_rules : Certificate → List Rule
seams_rules c = rule basis (same_names c.seams (seam_names c.polygons)) ∷ []

abbrev pub basis_rules : Certificate → List Rule
basis_rules c = rule basis (same_list c.basis (arcs (polygon c))) ∷ []

-- a line's rules, and those of the lines after it
abbrev pub end_on_rules : Certificate → List (List Rule)
end_on_rules c = [] ∷ []

abbrev pub verdict_on_rules : Certificate → List (List Rule)
verdict_on_rules c = (verdict_rules c ∷ []) ++ end_on_rules c

abbrev pub homology_on_rules : Certificate → List (List Rule)
homology_on_rules c = (homology_rules c ∷ []) ++ verdict_on_rules c

abbrev pub rank_on_rules : Certificate → List (List Rule)
rank_on_rules c = (rank_rules c ∷ []) ++ homology_on_rules c

abbrev pub pivots_on_rules : Certificate → List (List Rule)
pivots_on_rules c = (pivot_count c ∷ each (pivot_rules c) c.pivots) ++ rank_on_rules c

abbrev pub contact_on_rules : Certificate → List (List Rule)
contact_on_rules c = (contact_rules c ∷ []) ++ pivots_on_rules c

abbrev pub generators_on_rules : Certificate → List (List Rule)
generators_on_rules c = (generator_rules c ∷ []) ++ contact_on_rules c

abbrev pub finals_on_rules : Certificate → List (List Rule)
finals_on_rules c = each (final_rules c) c.finals ++ generators_on_rules c

abbrev pub fingers_on_rules : Certificate → List (List Rule)
fingers_on_rules c = (finger_count c ∷ each (finger_rules c) c.fingers) ++ finals_on_rules c

abbrev pub strands_on_rules : Certificate → List (List Rule)
strands_on_rules c = each (strand_rules c) c.strands ++ fingers_on_rules c

abbrev pub basis_on_rules : Certificate → List (List Rule)
basis_on_rules c = (basis_rules c ∷ []) ++ strands_on_rules c

abbrev pub seams_on_rules : Certificate → List (List Rule)
seams_on_rules c = (seams_rules c ∷ []) ++ basis_on_rules c

abbrev pub twists_on_rules : Certificate → List (List Rule)
twists_on_rules c = (twist_count c ∷ each (twist_rules c) c.twists) ++ seams_on_rules c

abbrev pub slides_on_rules : Certificate → List (List Rule)
slides_on_rules c = (slide_count c ∷ each (slide_rules c) c.slides) ++ twists_on_rules c

abbrev pub curves_on_rules : Certificate → List (List Rule)
curves_on_rules c = (curve_count c ∷ each (curve_rules c) c.curves) ++ slides_on_rules c

abbrev pub polygons_on_rules : Certificate → List (List Rule)
polygons_on_rules c = (polygon_count c ∷ each (polygon_rules c) c.polygons) ++ curves_on_rules c

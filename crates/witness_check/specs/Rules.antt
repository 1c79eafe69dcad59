-- The rules of the lines of a certificate, in the order of the lines and, for each line, in their own order.
use Rattle.std.specs.Prelude.{ℕ, ℤ, suc, pos, ◌-ℤ◌, ◌*◌, Bool, true, false, cond, not, nat_eq, nat_le, ◌&&◌, List, [], ◌∷◌, ◌++◌, length, map, slice_index_or, take, unsigned_abs, is_ok}
use Rattle.std.specs.List.{enumerate_from, list_any}
use Rattle.std.specs.Option.{is_none}
use Rattle.std.specs.Ordering.{int_eq}
use Rattle.std.specs.Str.{bytes_eq}
use Rattle.obd_base.specs.declared.points.Exit.{Exit}
use Rattle.page_surface.specs.Drawing.{is_embedded, strand_exits}
use Rattle.page_surface.specs.Labels.{Label}
use Rattle.page_surface.specs.Page.{refusal_of as page_refusal}
use Rattle.curve_paths.specs.PathRules.{refusal_of as path_refusal}
use Rattle.drawing.specs.Fingers.{is_legal}
use Rattle.drawing.specs.declared.finger.Finger.{Finger}
use Rattle.drawing.specs.Points.{contact_generator, generators as all_generators}
use Rattle.region_table.specs.Nice.{is_nice}
use Rattle.hkm_diagram.specs.Domains.{columns}
use Rattle.mod2_rank.specs.Linear.{same_list}
use Rattle.witness_check.specs.declared.certificate.Certificate.{Certificate}
use Rattle.curve_paths.specs.declared.named.NamedPath.{NamedPath}
use Rattle.curve_paths.specs.declared.named.NamedTwist.{NamedTwist}
use Rattle.witness_check.specs.OpenBook.{arcs, curve_names, seam_names}
use Rattle.witness_check.specs.Written.{drawing_after, first_drawing, last_drawing, last_words, own_book, polygon, slid_by, words_by}
use Rattle.mod2_rank.specs.PivotRules.{reducers}
use Rattle.mod2_rank.specs.PivotLines.{next_column, pivot_line_passes, rank_line_passes, verdict_line_passes}
use Rattle.mod2_rank.specs.declared.outcome.Pivot.{Pivot}
use Rattle.witness_check.specs.declared.checked.Reason.{Reason}
use Rattle.witness_check.specs.declared.checked.Reason.TheVariants.{Page as page, Limit as limit, Curve as curve, Slide as slide, Twist as twist, Basis as basis, Word as word, Drawing as drawing, Finger as finger, Final as final, Nice as nice, Generators as generators, Contact as contact, Pivot as pivot, Rank as rank, Homology as homology, Verdict as verdict}

-- a rule of a line: its reason, and whether it is kept
pub record Rule : Type 0 where
  pub reason : Reason
  pub keeps : Bool

-- a rule by its reason and its test
abbrev pub rule : Reason → Bool → Rule
rule reason keeps = record { reason = reason; keeps = keeps }

-- the rules of the lines of some entries, each by its number
abbrev pub each : {A : Type 0} → (ℕ → A → List Rule) → List A → List (List Rule)
each rules entries = map (λ e. rules e.0 e.1) (enumerate_from 0 entries)

-- a rule for the last of some lines alone
abbrev pub at_last : {A : Type 0} → List A → ℕ → Rule → List Rule
at_last entries i r = cond (nat_eq (suc i) (length entries)) (r ∷ []) []

-- two lists of names are one, as a test
abbrev pub same_names : List Label → List Label → Bool
same_names [] [] = true
same_names [] (b ∷ bs) = false
same_names (a ∷ names) [] = false
same_names (a ∷ names) (b ∷ bs) = bytes_eq a b && same_names names bs

-- two lists of exits are one, as a test
abbrev pub same_exits : List Exit → List Exit → Bool
same_exits es fs = same_list (map (λ e. e.side) es) (map (λ e. e.side) fs) && same_list (map (λ e. e.place) es) (map (λ e. e.place) fs)

-- polygons: 1 to 16, and after the last one they are a page
abbrev pub polygon_count : Certificate → List Rule
polygon_count c = rule page (nat_le 1 (length c.polygons) && nat_le (length c.polygons) 16) ∷ []

-- the page, after the last polygon
abbrev pub polygon_rules : Certificate → ℕ → List Label → List Rule
polygon_rules c i labels = at_last c.polygons i (rule page (is_none (page_refusal c.polygons)))

-- curves: at most 32, each with a new name, and a curve on the page
abbrev pub curve_rules : Certificate → ℕ → NamedPath → List Rule
curve_rules c i entry = rule curve (not (list_any (bytes_eq entry.name) (take i (curve_names (own_book c)))) && is_none (path_refusal c.polygons entry.path)) ∷ []

-- slides: at most 64, each accepted where it comes
abbrev pub slide_rules : Certificate → ℕ → ℕ → List Rule
slide_rules c i side = rule slide (is_ok (slid_by c (take (suc i) c.slides))) ∷ []

-- a power from -64 to 64 that isn't 0
abbrev pub is_power : ℤ → Bool
is_power power = nat_le 1 (unsigned_abs power) && nat_le (unsigned_abs power) 64

-- twists: at most 256, each of a known curve and with such a power, and no words on the way have more than 4,000 letters
abbrev pub twist_rules : Certificate → ℕ → NamedTwist → List Rule
twist_rules c i entry =
    rule twist (list_any (bytes_eq entry.name) (curve_names (own_book c)) && is_power entry.power)
    ∷ rule limit (is_ok (words_by c (take (suc i) c.twists)))
    ∷ []

-- strands: their words are those of the twist word, and after the last one they are an embedded drawing
abbrev pub strand_rules : Certificate → ℕ → List Exit → List Rule
strand_rules c i exits =
    rule word (same_list (map (λ e. e.side) exits) (slice_index_or (last_words c) i []))
    ∷ at_last c.strands i (rule drawing (is_embedded (first_drawing c)))

-- fingers: at most 20,000, each legal in the drawing that it meets
abbrev pub finger_rules : Certificate → ℕ → Finger → List Rule
finger_rules c i f = rule finger (is_legal (drawing_after c i) f) ∷ []

-- final strands: those of the drawing after all fingers, which is nice
abbrev pub final_rules : Certificate → ℕ → List Exit → List Rule
final_rules c i exits =
    rule final (same_exits exits (strand_exits (last_drawing c) i))
    ∷ at_last c.finals i (rule nice (is_nice (last_drawing c)))

-- generators: at most 20,000, and the number of those of the last drawing
abbrev pub generator_rules : Certificate → List Rule
generator_rules c =
    rule limit (nat_le c.generators 20000)
    ∷ rule generators (nat_eq c.generators (length (all_generators (last_drawing c))))
    ∷ []

-- the contact generator: the last number, and the contact points
abbrev pub contact_rules : Certificate → List Rule
contact_rules c = rule contact (nat_eq (suc c.contact) c.generators && same_list c.points (contact_generator (last_drawing c))) ∷ []

-- the columns of the last drawing
abbrev pub last_columns : Certificate → List (List ℕ)
last_columns c = columns (last_drawing c)

-- pivots: at most as many as generators, each after the one before and with a row of its reduced column
abbrev pub pivot_rules : Certificate → ℕ → Pivot → List Rule
pivot_rules c i l =
    rule pivot (pivot_line_passes c.generators (last_columns c) (next_column 0 (take i c.pivots))
    (reducers c.generators (last_columns c) [] (take i c.pivots)) l)
    ∷ []

-- the rank: as many as pivots, and every column reduces to nothing by them
abbrev pub rank_rules : Certificate → List Rule
rank_rules c = rule rank (nat_eq c.rank (length c.pivots) && rank_line_passes c.generators (last_columns c) c.pivots) ∷ []

-- what is left of the generators
abbrev pub homology_rules : Certificate → List Rule
homology_rules c = rule homology (int_eq c.homology (pos c.generators -ℤ pos (2 * c.rank))) ∷ []

-- the verdict: a chain or a functional
abbrev pub verdict_rules : Certificate → List Rule
verdict_rules c = rule verdict (verdict_line_passes c.generators (last_columns c) c.verdict) ∷ []

-- the rules of the lines from the version to the twists
abbrev pub book_rules : Certificate → List (List Rule)
book_rules c =
    ([] ∷ (polygon_count c ∷ each (polygon_rules c) c.polygons))
    ++ (((rule limit (nat_le (length c.curves) 32) ∷ []) ∷ each (curve_rules c) c.curves)
    ++ (((rule limit (nat_le (length c.slides) 64) ∷ []) ∷ each (slide_rules c) c.slides)
    ++ ((rule limit (nat_le (length c.twists) 256) ∷ []) ∷ each (twist_rules c) c.twists)))

-- from the seams to the contact generator
abbrev pub drawing_rules : Certificate → List (List Rule)
drawing_rules c =
    ((rule basis (same_names c.seams (seam_names c.polygons)) ∷ []) ∷ ((rule basis (same_list c.basis (arcs (polygon c))) ∷ []) ∷ each (strand_rules c) c.strands))
    ++ (((rule limit (nat_le (length c.fingers) 20000) ∷ []) ∷ each (finger_rules c) c.fingers)
    ++ (each (final_rules c) c.finals
    ++ (generator_rules c ∷ (contact_rules c ∷ []))))

-- from the pivots to the end
abbrev pub outcome_rules : Certificate → List (List Rule)
outcome_rules c =
    ((rule pivot (nat_le (length c.pivots) c.generators) ∷ []) ∷ each (pivot_rules c) c.pivots)
    ++ (rank_rules c ∷ (homology_rules c ∷ (verdict_rules c ∷ ([] ∷ []))))

-- the rules of each line, from line 1 on
abbrev pub line_rules : Certificate → List (List Rule)
line_rules c = book_rules c ++ (drawing_rules c ++ outcome_rules c)

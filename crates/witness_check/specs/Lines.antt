-- The form of each line of a certificate.
use Rattle.std.specs.Prelude.{ℕ, ℤ, pos, zero, suc, ◌/◌, ◌*◌, true, cond, nat_eq, ◌&&◌, List, [], ◌∷◌, codes, decimal, drop, length, map}
use Rattle.std.specs.List.{list_all}
use Rattle.std.specs.Fmt.{signed_decimal}
use Rattle.std.specs.Str.{bytes_eq}
use Rattle.obd_base.specs.declared.points.Exit.{Exit}
use Rattle.page_surface.specs.Labels.{Label}
use Rattle.drawing.specs.declared.finger.Finger.{Finger}
use Rattle.mod2_rank.specs.declared.outcome.Verdict.{Verdict}
use Rattle.mod2_rank.specs.declared.outcome.Verdict.TheVariants.{Chain, Functional}
use Rattle.curve_paths.specs.declared.named.NamedPath.{NamedPath}
use Rattle.curve_paths.specs.declared.named.NamedTwist.{NamedTwist}
use Rattle.witness_check.specs.Forms.{LineForm, Section, both, one, rows, seen_as}
use Rattle.witness_check.specs.Line.{exit_text}
use Rattle.witness_check.specs.Reading.{cross_of, exit_of, is_cross, is_exit, is_name, is_number, is_signed, number_of, signed_of, word_at}
use Rattle.witness_check.specs.Text.{cross_text}
use Rattle.mod2_rank.specs.declared.outcome.Pivot.{Pivot}

-- KIND NUMBER
abbrev pub number_line : List ℕ → LineForm ℕ
number_line kind = record {
  kind = λ n. kind;
  words = λ n. decimal n ∷ [];
  fits = is_number;
  blank = 0;
  value = λ ws. number_of (word_at ws 1);
}

-- `contact certificate 1`
abbrev pub version_line : LineForm ℕ
version_line = record {
  kind = λ n. codes "contact";
  words = λ n. codes "certificate" ∷ decimal n ∷ [];
  fits = nat_eq 1;
  blank = 1;
  value = λ ws. number_of (word_at ws 2);
}

-- `polygon NAME ..`
abbrev pub polygon_line : LineForm (List Label)
polygon_line = record {
  kind = λ names. codes "polygon";
  words = λ names. names;
  fits = list_all is_name;
  blank = [];
  value = drop 1;
}

-- `curve NAME LABEL:OCC:PLACE ..`
abbrev pub curve_line : LineForm NamedPath
curve_line = record {
  kind = λ curve. codes "curve";
  words = λ curve. curve.name ∷ map cross_text curve.path;
  fits = λ curve. is_name curve.name && list_all is_cross curve.path;
  blank = record { name = codes "A"; path = [] };
  value = λ ws. record { name = word_at ws 1; path = map cross_of (drop 2 ws) };
}

-- `twist NAME POWER`
abbrev pub twist_line : LineForm NamedTwist
twist_line = record {
  kind = λ twist. codes "twist";
  words = λ twist. twist.name ∷ signed_decimal twist.power ∷ [];
  fits = λ twist. is_name twist.name && is_signed twist.power;
  blank = record { name = codes "A"; power = pos 0 };
  value = λ ws. record { name = word_at ws 1; power = signed_of (word_at ws 2) };
}

-- `seams M NAME ..`
abbrev pub seams_line : LineForm (List Label)
seams_line = record {
  kind = λ names. codes "seams";
  words = λ names. decimal (length names) ∷ names;
  fits = λ names. is_number (length names) && list_all is_name names;
  blank = [];
  value = drop 2;
}

-- `basis ARC ..`: an even number of arcs, and not so many that their half is no number
abbrev pub basis_line : LineForm (List ℕ)
basis_line = record {
  kind = λ arcs. codes "basis";
  words = λ arcs. map decimal arcs;
  fits = λ arcs. nat_eq (2 * (length arcs / 2)) (length arcs) && (is_number (length arcs / 2) && list_all is_number arcs);
  blank = [];
  value = λ ws. map number_of (drop 1 ws);
}

-- `KIND I SIDE.PLACE ..`: the exits of strand I
abbrev pub strand_line : List ℕ → ℕ → LineForm (List Exit)
strand_line kind i = record {
  kind = λ exits. kind;
  words = λ exits. decimal i ∷ map exit_text exits;
  fits = λ exits. is_number i && list_all is_exit exits;
  blank = [];
  value = λ ws. map exit_of (drop 2 ws);
}

-- `finger STRAND CHORD SIDE SEGMENT`
abbrev pub finger_line : LineForm Finger
finger_line = record {
  kind = λ f. codes "finger";
  words = λ f. decimal f.strand ∷ decimal f.chord ∷ decimal f.side ∷ decimal f.segment ∷ [];
  fits = λ f. is_number f.strand && (is_number f.chord && (is_number f.side && is_number f.segment));
  blank = record { strand = 0; chord = 0; side = 0; segment = 0 };
  value = λ ws. record { strand = number_of (word_at ws 1); chord = number_of (word_at ws 2); side = number_of (word_at ws 3); segment = number_of (word_at ws 4) };
}

-- `contact NUMBER POINT ..`, with a point for each arc
abbrev pub contact_line : ℕ → LineForm (ℕ × List ℕ)
contact_line n = record {
  kind = λ c. codes "contact";
  words = λ c. decimal c.0 ∷ map decimal c.1;
  fits = λ c. is_number c.0 && (nat_eq (length c.1) n && list_all is_number c.1);
  blank = (0, zeros n);
  value = λ ws. (number_of (word_at ws 1), map number_of (drop 2 ws));
}
  where
    zeros : ℕ → List ℕ
    zeros zero = []
    zeros (suc m) = 0 ∷ zeros m

-- `pivot COLUMN ROW`
abbrev pub pivot_line : LineForm Pivot
pivot_line = record {
  kind = λ p. codes "pivot";
  words = λ p. decimal p.column ∷ decimal p.row ∷ [];
  fits = λ p. is_number p.column && is_number p.row;
  blank = record { column = 0; row = 0 };
  value = λ ws. record { column = number_of (word_at ws 1); row = number_of (word_at ws 2) };
}

-- `homology H`
abbrev pub homology_line : LineForm ℤ
homology_line = record {
  kind = λ h. codes "homology";
  words = λ h. signed_decimal h ∷ [];
  fits = is_signed;
  blank = pos 0;
  value = λ ws. signed_of (word_at ws 1);
}

-- the numbers of a verdict
abbrev pub verdict_numbers : Verdict → List ℕ
verdict_numbers (Chain numbers) = numbers
verdict_numbers (Functional numbers) = numbers

-- the word for its kind
abbrev pub verdict_word : Verdict → List ℕ
verdict_word (Chain numbers) = codes "zero"
verdict_word (Functional numbers) = codes "nonzero"

-- `zero GEN ..` or `nonzero GEN ..`
abbrev pub answer_line : LineForm Verdict
answer_line = record {
  kind = verdict_word;
  words = λ v. map decimal (verdict_numbers v);
  fits = λ v. list_all is_number (verdict_numbers v);
  blank = Chain [];
  value = λ ws. cond (bytes_eq (word_at ws 0) (codes "zero")) (Chain (map number_of (drop 1 ws))) (Functional (map number_of (drop 1 ws)));
}

-- `end`
abbrev pub end_line : LineForm (Unit {0})
end_line = record { kind = λ e. codes "end"; words = λ e. []; fits = λ e. true; blank = tt; value = λ ws. tt }

-- a line with a number, and then as many lines of a form
abbrev pub counted : {A : Type 0} → List ℕ → LineForm A → Section (List A)
counted many form = seen_as (λ p. p.1) (λ xs. (length xs, xs)) (both (one (number_line many)) (rows (λ i. form)))

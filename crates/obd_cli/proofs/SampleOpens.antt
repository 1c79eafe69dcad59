-- The book of a sample keeps all rules, so it is an open book, and a certificate of it is valid.
use Rattle.std.proofs.Common.{◌≡◌, ℕ, zero, suc, ◌+◌, ◌*◌, ◌%◌, ◌≤◌, Bool, true, false, List, [], ◌∷◌, codes, get_or, refl, arith, ap, inl, inr, All}
use Rattle.std.specs.Prelude.{negsuc, pos, nat_eq, if◌then◌else◌}
use Rattle.std.proofs.lemmas.List.{length-map}
use Rattle.std.proofs.lemmas.List.FromFn.{length-range_with_len}
use Rattle.std.proofs.lemmas.Nat.{mod_below}
use Rattle.obd_base.specs.Lists.{Mem, below}
use Rattle.curve_paths.specs.PathTables.{HaveOccurrences}
use Rattle.witness_check.specs.Checked.{answer_of, checked}
use Rattle.witness_check.specs.OpenBook.{IsOpenBook}
use Rattle.witness_check.specs.Text.{certificate_text}
use Rattle.witness_check.specs.declared.certificate.Certificate.{Certificate}
use Rattle.witness_check.specs.declared.checked.Checked.TheVariants.{Valid as valid}
use Rattle.obd_doc.specs.Accepted.{IsAccepted, IsCurveOf, IsEntryOf, IsName, IsTwistPower}
use Rattle.obd_doc.proofs.ReadAccepted.{all_mapped}
use Rattle.obd_cli.specs.Opened.{open_book}
use Rattle.obd_cli.specs.Sample.{around, number, sample_book, sample_curves, sample_twist, sample_twists, torus}
use Rattle.obd_cli.specs.Steps.{IsCertificateOf}
use Rattle.obd_cli.proofs.ReadOpens.{accepted_opens, accepted_valid}

-- the labels of the torus are names
labels_named : All (All IsName) torus
labels_named zero polygon within zero label less = refl
labels_named zero polygon within (suc zero) label less = refl
labels_named zero polygon within (suc (suc zero)) label less = refl
labels_named zero polygon within (suc (suc (suc zero))) label less = refl
labels_named zero polygon within (suc (suc (suc (suc i)))) label less = absurd (omega (arith, less))
labels_named (suc k) polygon within i label less = absurd (omega (arith, within))

-- a path of one crossing by occurrence 0
first_occurrence : (name label : List ℕ) → HaveOccurrences (around name label).path
first_occurrence name label zero cross less = omega arith
first_occurrence name label (suc i) cross less = absurd (omega (arith, less))

-- the torus takes the curves a and b,
curves_kept : All (IsCurveOf torus) sample_curves
curves_kept zero curve less = record { named = refl; occurrences = first_occurrence (codes "a") (codes "A"); path = refl }
curves_kept (suc zero) curve less = record { named = refl; occurrences = first_occurrence (codes "b") (codes "B"); path = refl }
curves_kept (suc (suc i)) curve less = absurd (omega (arith, less))

-- of different names
names_differ : Mem (codes "a") (codes "b" ∷ []) → ⊥
names_differ (inl same) = let bad : 97 ≡ 98 = ap (λ name. get_or name 0 0) same in omega (arith, bad)
names_differ (inr later) = later

-- the power of an entry is 1 or -1
power_kept : (turned : Bool) → IsTwistPower (if turned then negsuc 0 else pos 1)
power_kept true = record { some = omega arith; most = omega arith }
power_kept false = record { some = omega arith; most = omega arith }

-- and its curve is a or b
entry_kept : (seed twists j : ℕ) → IsEntryOf (sample_book seed twists) (sample_twist seed j)
unfolding sample_book
entry_kept seed twists j = record { known = mod_below (number seed (2 * j + 1)) 2 (omega arith); power = power_kept (nat_eq (number seed (2 * j + 2) % 4) 0) }

module _ (seed twists : ℕ) (few : twists ≤ 256) where
  -- so a sample of at most 256 twists keeps all rules,
  sample_accepted : IsAccepted (sample_book seed twists)
  unfolding sample_book sample_twists
  sample_accepted = record {
    page = refl;
    labels = labels_named;
    few_curves = omega arith;
    curves = curves_kept;
    different = (names_differ, (λ none. none, tt));
    few_slides = omega arith;
    slides = λ k side less. absurd (omega (arith, less));
    few_twists = omega (arith, length-map (below twists) (sample_twist seed), length-range_with_len 0 twists, few);
    twists = all_mapped (IsEntryOf (sample_book seed twists)) (sample_twist seed) (below twists) (λ k j less. entry_kept seed twists (get_or (below twists) k j));
  }

  -- and is an open book,
  pub sample_opens : IsOpenBook (open_book (sample_book seed twists))
  sample_opens = accepted_opens (sample_book seed twists) sample_accepted

  -- and a certificate of it is valid
  pub sample_valid : (c : Certificate) → IsCertificateOf (sample_book seed twists) c → checked (certificate_text c) ≡ valid (answer_of c.verdict)
  sample_valid c of_book = accepted_valid (sample_book seed twists) c sample_accepted of_book

-- What is checked as valid is valid, and what is bad is bad where it is said to be.
use Rattle.std.proofs.Common.{◌≡◌, ℕ, zero, suc, ◌+◌, ◌<◌, ◌≤◌, Bool, true, false, cond, not, ◌&&◌, List, [], ◌∷◌, length, take, find, Option, Some, None, refl, sym, ◌∙◌, ap, subst, arith, inl, inr, ◌⊎◌}
use Rattle.std.specs.Prelude.{slice_index_or}
use Rattle.std.proofs.lemmas.Bool.{and_from}
use Rattle.witness_check.specs.declared.checked.Answer.{Answer}
use Rattle.witness_check.specs.declared.checked.Checked.{Checked}
use Rattle.witness_check.specs.declared.checked.Checked.TheVariants.{Bad as bad, Valid as valid}
use Rattle.witness_check.specs.Checked.{IsBad, IsValid, answer_of, bad_line, breaks_rule, checked, first_bad, first_broken, judged, lacks_form}
use Rattle.witness_check.specs.declared.certificate.Certificate.{Certificate}
use Rattle.witness_check.specs.declared.checked.Reason.{Reason}
use Rattle.witness_check.specs.declared.checked.Reason.TheVariants.{Form as form}
use Rattle.witness_check.specs.Rules.{Rule, line_rules}
use Rattle.witness_check.specs.Splitting.{lines_of}
use Rattle.witness_check.specs.Grammar.{BeginsAs, Said, breaks, certificate_lines, fits, parsed, says}
use Rattle.witness_check.specs.Text.{certificate_text}
use Rattle.witness_check.proofs.Kept.{keep, keep_all, none_bad}
use Rattle.witness_check.proofs.Prefixes.{take_fewer}
use Rattle.witness_check.proofs.TextLaws.{breaks_after, lines_of_certificate, parsed_breaks, parsed_printed, printed_parses}

-- a line with a rule that isn't kept, the first one
record Found (number : ℕ) (lines : List (List Rule)) (said : Checked) : Type 0 where
  at : ℕ
  within : at < length lines
  before : keep_all (take at lines) ≡ true
  broken : Rule
  first : first_broken (slice_index_or lines at []) ≡ Some broken
  told : said ≡ bad (number + at) broken.reason

none_broken : (rules : List Rule) → find (λ r. not r.keeps) rules ≡ None → keep rules ≡ true
none_broken [] h = refl
none_broken (r ∷ rules) h = go r.keeps h (none_broken rules)
  where
    go : (b : Bool) → cond (not b) (Some r) (find (λ (s : Rule). not s.keeps) rules) ≡ None → (find (λ (s : Rule). not s.keeps) rules ≡ None → keep rules ≡ true)
        → b && keep rules ≡ true
    go true k f = f k
    go false k f = cc

bad_cases : (number : ℕ) (lines : List (List Rule)) (good : Checked) → ((keep_all lines ≡ true) × (first_bad number lines good ≡ good)) ⊎ Found number lines (first_bad number lines good)
bad_cases number [] good = inl (refl, refl)
bad_cases number (rules ∷ lines) good = go (find (λ (r : Rule). not r.keeps) rules) refl (bad_cases (suc number) lines good)
  where
    Goal : Checked → Type 0
    Goal said = ((keep_all (rules ∷ lines) ≡ true) × (said ≡ good)) ⊎ Found number (rules ∷ lines) said

    go : (o : Option Rule) → find (λ (r : Rule). not r.keeps) rules ≡ o
        → ((keep_all lines ≡ true) × (first_bad (suc number) lines good ≡ good)) ⊎ Found (suc number) lines (first_bad (suc number) lines good)
        → Goal (bad_line number (first_bad (suc number) lines good) o)
    go (Some r) e h = inr (record { at = 0; within = omega arith; before = refl; broken = r; first = e; told = ap (λ k. bad k r.reason) (omega arith) })
    go None e (inl h) = inl (and_from (keep rules) (keep_all lines) (none_broken rules e) h.0, h.1)
    go None e (inr f) =
        let w : f.at < length lines = f.within in
        let k : suc number + f.at ≡ number + suc f.at = omega arith in
        inr (record {
          at = suc f.at;
          within = omega (arith, w);
          before = and_from (keep rules) (keep_all (take f.at lines)) (none_broken rules e) f.before;
          broken = f.broken;
          first = f.first;
          told = f.told ∙ ap (λ j. bad j f.broken.reason) k;
        })

-- entries and parts of the first so many
pub take_less : {A : Type 0} (m n : ℕ) (xs : List A) → m ≤ n → take m (take n xs) ≡ take m xs
take_less zero n xs l = refl
take_less (suc m) zero xs l = absurd (omega arith)
take_less (suc m) (suc n) [] l = refl
take_less (suc m) (suc n) (x ∷ xs) l = ap (λ z. x ∷ z) (take_less m n xs (omega arith))

pub index_of_take : {A : Type 0} (i n : ℕ) (xs : List A) (d : A) → i < length (take n xs) → (i < n) × (slice_index_or (take n xs) i d ≡ slice_index_or xs i d)
index_of_take i zero xs d l = absurd (omega arith)
index_of_take i (suc n) [] d l = absurd (omega arith)
index_of_take zero (suc n) (x ∷ xs) d l = (omega arith, refl)
index_of_take (suc i) (suc n) (x ∷ xs) d l = let (a, b) = index_of_take i n xs d (omega (arith, l)) in (omega (arith, a), b)

valid_same : {a b : Answer} → valid a ≡ valid b → a ≡ b
valid_same e = cc

bad_line_same : {k l : ℕ} {r s : Reason} → bad k r ≡ bad l s → k ≡ l
bad_line_same e = cc

bad_reason_same : {k l : ℕ} {r s : Reason} → bad k r ≡ bad l s → r ≡ s
bad_reason_same e = cc

valid_bad : {a : Answer} {k : ℕ} {r : Reason} → valid a ≡ bad k r → ⊥
valid_bad e = cc

-- valid comes exactly where the text is valid
pub checked_valid : (text : List ℕ) (a : Answer) → checked text ≡ valid a → IsValid text a
checked_valid text a e = go (parsed text) refl e
  where
    go : (s : Said) → parsed text ≡ s → judged s ≡ valid a → IsValid text a
    go (says c) p h = cases (bad_cases 1 (line_rules c) (valid (answer_of c.verdict)))
      where
        cases : ((keep_all (line_rules c) ≡ true) × (judged (says c) ≡ valid (answer_of c.verdict))) ⊎ Found 1 (line_rules c) (judged (says c)) → IsValid text a
        cases (inl k) = let (f, w) = parsed_printed text c p in record {
          certificate = c;
          fitting = f;
          text_is = w;
          kept = k.0;
          answer_is = valid_same (sym h ∙ k.1);
        }
        cases (inr f) = absurd (valid_bad (sym h ∙ f.told))
    go (breaks c n) p h = cases (bad_cases 1 (take n (line_rules c)) (bad (suc n) form))
      where
        cases : ((keep_all (take n (line_rules c)) ≡ true) × (judged (breaks c n) ≡ bad (suc n) form)) ⊎ Found 1 (take n (line_rules c)) (judged (breaks c n)) → IsValid text a
        cases (inl k) = absurd (valid_bad (sym h ∙ k.1))
        cases (inr f) = absurd (valid_bad (sym h ∙ f.told))

pub valid_checked : (text : List ℕ) (a : Answer) → IsValid text a → checked text ≡ valid a
valid_checked text a v =
    ap checked v.text_is
    ∙ (ap judged (printed_parses v.certificate v.fitting)
    ∙ (none_bad 1 (line_rules v.certificate) (valid (answer_of v.certificate.verdict)) v.kept ∙ ap valid (sym v.answer_is)))

-- and bad only where it is bad
pub checked_bad : (text : List ℕ) (k : ℕ) (r : Reason) → checked text ≡ bad k r → IsBad text k r
checked_bad text k r e = go (parsed text) refl e
  where
    at_rule : (c : Certificate) (n : ℕ) (b : Rule) → BeginsAs text (suc n) c → keep_all (take n (line_rules c)) ≡ true
        → first_broken (slice_index_or (line_rules c) n []) ≡ Some b → bad (1 + n) b.reason ≡ bad k r → IsBad text k r
    at_rule c n b w h f q =
        let line : suc n ≡ k = (let z : 1 + n ≡ k = bad_line_same q in omega (arith, z)) in
        subst (λ x. IsBad text x r) line (subst (λ x. IsBad text (suc n) x) (bad_reason_same q) (breaks_rule c n b w h f))

    go : (s : Said) → parsed text ≡ s → judged s ≡ bad k r → IsBad text k r
    go (says c) p h = cases (bad_cases 1 (line_rules c) (valid (answer_of c.verdict))) (parsed_printed text c p)
      where
        cases : ((keep_all (line_rules c) ≡ true) × (judged (says c) ≡ valid (answer_of c.verdict))) ⊎ Found 1 (line_rules c) (judged (says c))
            → (fits c ≡ true) × (text ≡ certificate_text c) → IsBad text k r
        cases (inl z) w = absurd (valid_bad (sym z.1 ∙ h))
        cases (inr f) w =
            let same : lines_of text ≡ certificate_lines c = ap lines_of w.1 ∙ lines_of_certificate c w.0 in
            at_rule c f.at f.broken (w.0, ap (take (suc f.at)) same) f.before f.first (sym f.told ∙ h)
    go (breaks c n) p h = cases (bad_cases 1 (take n (line_rules c)) (bad (suc n) form)) (parsed_breaks text c n p)
      where
        cases : ((keep_all (take n (line_rules c)) ≡ true) × (judged (breaks c n) ≡ bad (suc n) form)) ⊎ Found 1 (take n (line_rules c)) (judged (breaks c n))
            → (n ≤ length (certificate_lines c)) × BeginsAs text n c × ((d : Certificate) → BeginsAs text (suc n) d → ⊥) → IsBad text k r
        cases (inl z) (l, b, none) =
            let q : bad (suc n) form ≡ bad k r = sym z.1 ∙ h in
            subst (λ x. IsBad text x r) (bad_line_same q) (subst (λ x. IsBad text (suc n) x) (bad_reason_same q) (lacks_form c n b z.0 (breaks_after text c n p)))
        cases (inr f) (l, b, none) =
            let i = index_of_take f.at n (line_rules c) [] f.within in
            let less : suc f.at ≤ n = (let z : f.at < n = i.0 in omega (arith, z)) in
            at_rule c f.at f.broken (b.0, take_fewer (suc f.at) n (lines_of text) (certificate_lines c) less b.1)
            (ap keep_all (sym (take_less f.at n (line_rules c) (omega (arith, less)))) ∙ f.before)
            (ap first_broken (sym i.1) ∙ f.first) (sym f.told ∙ h)

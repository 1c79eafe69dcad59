-- A text that is bad at a line for a reason is checked so; there is one such line and reason.
use Rattle.std.proofs.Common.{◌≡◌, ℕ, zero, suc, ◌+◌, ◌<◌, ◌≤◌, Bool, true, false, not, leb, leb-true, leb-false, List, [], ◌∷◌, take, find, Some, None, refl, sym, ◌∙◌, ap, subst, arith, le_antisymm}
use Rattle.std.specs.Prelude.{slice_index_or}
use Rattle.std.proofs.lemmas.Bool.{and_parts}
use Rattle.witness_check.specs.declared.checked.Checked.{Checked}
use Rattle.witness_check.specs.declared.checked.Checked.TheVariants.{Bad as bad, Valid as valid}
use Rattle.witness_check.specs.Checked.{IsBad, answer_of, bad_line, breaks_rule, checked, first_bad, first_broken, judged, lacks_form}
use Rattle.witness_check.specs.declared.certificate.Certificate.{Certificate}
use Rattle.witness_check.specs.declared.checked.Reason.{Reason}
use Rattle.witness_check.specs.declared.checked.Reason.TheVariants.{Form as form}
use Rattle.witness_check.specs.Rules.{Rule, line_rules}
use Rattle.witness_check.specs.Splitting.{lines_of}
use Rattle.witness_check.specs.Grammar.{BeginsAs, Said, breaks, certificate_lines, parsed, says}
use Rattle.witness_check.proofs.CheckLaws.{take_less}
use Rattle.witness_check.proofs.Kept.{keep, keep_all, none_bad}
use Rattle.witness_check.proofs.Prefixes.{take_fewer}
use Rattle.witness_check.proofs.RulesAgree.{rules_agree}
use Rattle.witness_check.proofs.TextLaws.{breaks_after, breaks_once, lines_of_certificate, parsed_breaks, parsed_printed}

-- where the lines before are kept and a rule of the next one isn't, that line is bad
found_bad : (k n : ℕ) (lines : List (List Rule)) (good : Checked) (r : Rule) → keep_all (take n lines) ≡ true → first_broken (slice_index_or lines n []) ≡ Some r
    → first_bad k lines good ≡ bad (k + n) r.reason
found_bad k n [] good r h e = let no : None ≡ Some r = e in cc
found_bad k zero (rules ∷ lines) good r h e =
    let z : k ≡ k + 0 = omega arith in
    ap (bad_line k (first_bad (suc k) lines good)) e ∙ ap (λ m. bad m r.reason) z
found_bad k (suc n) (rules ∷ lines) good r h e =
    let (p, q) = and_parts (keep rules) (keep_all (take n lines)) h in
    let z : suc k + n ≡ k + suc n = omega arith in
    ap (bad_line k (first_bad (suc k) lines good)) (none rules p) ∙ (found_bad (suc k) n lines good r q e ∙ ap (λ m. bad m r.reason) z)
  where
    none : (rules : List Rule) → keep rules ≡ true → find (λ r. not r.keeps) rules ≡ None
    none [] h = refl
    none (r ∷ rules) h = let (p, q) = and_parts r.keeps (keep rules) h in rw (p, none rules q) refl

-- an entry is told by the first entries up to it
index_up_to : {A : Type 0} (n : ℕ) (xs ys : List A) (d : A) → take (suc n) xs ≡ take (suc n) ys → slice_index_or xs n d ≡ slice_index_or ys n d
index_up_to n [] [] d e = refl
index_up_to n [] (y ∷ ys) d e = cc
index_up_to n (x ∷ xs) [] d e = cc
index_up_to zero (x ∷ xs) (y ∷ ys) d e = cc
index_up_to (suc n) (x ∷ xs) (y ∷ ys) d e = let t : take (suc n) xs ≡ take (suc n) ys = cc in index_up_to n xs ys d t

index_in_take : {A : Type 0} (n m : ℕ) (xs : List A) (d : A) → n < m → slice_index_or (take m xs) n d ≡ slice_index_or xs n d
index_in_take n zero xs d l = absurd (omega (arith, l))
index_in_take n (suc m) [] d l = refl
index_in_take zero (suc m) (x ∷ xs) d l = refl
index_in_take (suc n) (suc m) (x ∷ xs) d l = index_in_take n m xs d (omega (arith, l))

-- two certificates that begin as the text have the same rules so far
same_so_far : (text : List ℕ) (n : ℕ) (c d : Certificate) → BeginsAs text n c → BeginsAs text n d → take n (line_rules c) ≡ take n (line_rules d)
same_so_far text n c d b e = rules_agree c d n b.0 e.0 (sym b.1 ∙ e.1)

fewer : (text : List ℕ) (m n : ℕ) (c : Certificate) → m ≤ n → BeginsAs text n c → BeginsAs text m c
fewer text m n c l b = (b.0, take_fewer m n (lines_of text) (certificate_lines c) l b.1)

whole_text : (text : List ℕ) (d : Certificate) → parsed text ≡ says d → (n : ℕ) → BeginsAs text n d
whole_text text d p n =
    let (f, w) = parsed_printed text d p in
    (f, ap (take n) (ap lines_of w ∙ lines_of_certificate d f))

pub bad_checked : (text : List ℕ) (k : ℕ) (r : Reason) → IsBad text k r → checked text ≡ bad k r
bad_checked text k r (lacks_form c n b h a) = go (parsed text) refl
  where
    go : (s : Said) → parsed text ≡ s → judged s ≡ bad (suc n) form
    go (says d) p = absurd (a.none d (whole_text text d p (suc n)))
    go (breaks d m) p =
        let x = breaks_after text d m p in
        let same : m ≡ n = le_antisymm (breaks_once text m n x a) (breaks_once text n m a x) in
        let e : BeginsAs text n d = subst (λ j. BeginsAs text j d) same (parsed_breaks text d m p).1 in
        let kept : keep_all (take n (line_rules d)) ≡ true = ap keep_all (sym (same_so_far text n c d b e)) ∙ h in
        ap (λ j. judged (breaks d j)) same ∙ none_bad 1 (take n (line_rules d)) (bad (suc n) form) kept
bad_checked text k r (breaks_rule c n broken b h f) = go (parsed text) refl
  where
    line : 1 + n ≡ suc n
    line = omega arith

    kept : (d : Certificate) → BeginsAs text (suc n) d → keep_all (take n (line_rules d)) ≡ true
    kept d e = ap keep_all (sym (same_so_far text n c d (fewer text n (suc n) c (omega arith) b) (fewer text n (suc n) d (omega arith) e))) ∙ h

    rule_of : (d : Certificate) → BeginsAs text (suc n) d → first_broken (slice_index_or (line_rules d) n []) ≡ Some broken
    rule_of d e = ap first_broken (sym (index_up_to n (line_rules c) (line_rules d) [] (same_so_far text (suc n) c d b e))) ∙ f

    go : (s : Said) → parsed text ≡ s → judged s ≡ bad (suc n) broken.reason
    go (says d) p =
        let e = whole_text text d p (suc n) in
        found_bad 1 n (line_rules d) (valid (answer_of d.verdict)) broken (kept d e) (rule_of d e) ∙ ap (λ m. bad m broken.reason) line
    go (breaks d m) p = cases (leb m n) refl
      where
        cases : (t : Bool) → leb m n ≡ t → judged (breaks d m) ≡ bad (suc n) broken.reason
        cases true q =
            let l : m ≤ n = leb-true m n q in
            absurd ((breaks_after text d m p).none c (fewer text (suc m) (suc n) c (omega (arith, l)) b))
        cases false q =
            let l : n < m = leb-false m n q in
            let e : BeginsAs text (suc n) d = fewer text (suc n) m d l (parsed_breaks text d m p).1 in
            found_bad 1 n (take m (line_rules d)) (bad (suc m) form) broken
            (ap keep_all (take_less n m (line_rules d) (omega (arith, l))) ∙ kept d e)
            (ap first_broken (index_in_take n m (line_rules d) [] l) ∙ rule_of d e)
            ∙ ap (λ j. bad j broken.reason) line

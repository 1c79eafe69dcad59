-- A text is passed section by section.
use Rattle.std.proofs.Common.{◌≡◌, ℕ, suc, ◌+◌, not, List, [], ◌∷◌, ◌++◌, length, take, find, Option, Some, None, refl, sym, ◌∙◌, ap, ap₂, arith, append-nil, length-append}
use Rattle.witness_check.specs.declared.certificate.Certificate.{Certificate}
use Rattle.witness_check.specs.declared.checked.Checked.{Checked}
use Rattle.witness_check.specs.declared.checked.Checked.TheVariants.{Bad as bad, Valid as valid}
use Rattle.witness_check.specs.declared.checked.Reason.TheVariants.{Form as form}
use Rattle.witness_check.specs.declared.fault.Fault.{Fault}
use Rattle.witness_check.specs.Checked.{answer_of, bad_line, checked, fault_or, first_bad, first_fault, one_later}
use Rattle.witness_check.specs.Forms.{Begun, Section, after_first, both, broken, read_both, whole}
use Rattle.witness_check.specs.Passing.{Lines, Passes, judged_from}
use Rattle.witness_check.specs.Rules.{Rule}
use Rattle.witness_check.proofs.Prefixes.{take_past}

-- lines whose rules are kept are passed
passed_lines : (k j : ℕ) (ks ls : List (List Rule)) (good : Checked) → first_fault ks ≡ None → j ≡ k + length ks → first_bad k (ks ++ ls) good ≡ first_bad j ls good
passed_lines k j [] ls good h e = let z : k ≡ j = omega (arith, e) in ap (λ i. first_bad i ls good) z
passed_lines k j (r ∷ ks) ls good h e =
    go (find (λ r. not r.keeps) r) (first_fault ks) h (λ q. passed_lines (suc k) j ks ls good q (omega (arith, e)))
  where
    go : (o : Option Rule) (f : Option Fault) → fault_or f o ≡ None → (f ≡ None → first_bad (suc k) (ks ++ ls) good ≡ first_bad j ls good)
        → bad_line k (first_bad (suc k) (ks ++ ls) good) o ≡ first_bad j ls good
    go None None q then = then refl
    go None (Some f) q then = cc
    go (Some b) f q then = cc

-- and the first one that breaks a rule is bad
faulty_line : (k : ℕ) (ks ls : List (List Rule)) (good : Checked) (fault : Fault) → first_fault ks ≡ Some fault → first_bad k (ks ++ ls) good ≡ bad (k + fault.at) fault.reason
faulty_line k [] ls good fault h = cc
faulty_line k (r ∷ ks) ls good fault h =
    go (find (λ r. not r.keeps) r) (first_fault ks) h (λ g q. faulty_line (suc k) ks ls good g q)
  where
    go : (o : Option Rule) (f : Option Fault) → fault_or f o ≡ Some fault → ((g : Fault) → f ≡ Some g → first_bad (suc k) (ks ++ ls) good ≡ bad (suc k + g.at) g.reason)
        → bad_line k (first_bad (suc k) (ks ++ ls) good) o ≡ bad (k + fault.at) fault.reason
    go None None q then = cc
    go None (Some g) q then =
        let same : one_later g ≡ fault = cc in
        let number : suc k + g.at ≡ k + suc g.at = omega arith in
        then g refl ∙ (ap (λ n. bad n g.reason) number ∙ ap (λ (f : Fault). bad (k + f.at) f.reason) same)
    go (Some b) f q then =
        let at : 0 ≡ fault.at = cc in
        let reason : b.reason ≡ fault.reason = cc in
        let number : k ≡ k + fault.at = omega (arith, at) in
        ap₂ bad number reason

-- what follows some lines that are passed
moved : (n k m size : ℕ) (ks ls : List (List Rule)) → first_fault ks ≡ None → k ≡ n + length ks → size ≡ length ks + m
    → first_bad (suc n) (take size (ks ++ ls)) (bad (suc (n + size)) form) ≡ first_bad (suc k) (take m ls) (bad (suc (k + m)) form)
moved n k m size ks ls h e s =
    let number : n + size ≡ k + m = omega (arith, e, s) in
    ap₂ (λ rs z. first_bad (suc n) rs (bad (suc z) form)) (take_past size m ks ls s) number
    ∙ passed_lines (suc n) (suc k) ks (take m ls) (bad (suc (k + m)) form) h (omega (arith, e))

module _ {A B : Type 0} (text : List ℕ) (l0 : Lines) (to : A × B → Certificate) (s : Section A) (t : A → Section B) (rules : Certificate → List (List Rule))
    (ok : Passes text l0 to (both s t) rules) where
  -- a section whose rules are kept
  pub section_passes : (rest : Certificate → List (List Rule)) (l1 : Lines) (a : A) (R : B → List (List Rule)) → s.read l0.left ≡ whole a l1.left → l1.taken ≡ l0.taken + length (s.write a)
      → ((b : B) → rules (to (a, b)) ≡ R b ++ rest (to (a, b))) → ((b : B) → length (R b) ≡ length (s.write a)) → ((b : B) → first_fault (R b) ≡ None)
      → Passes text l1 (λ b. to (a, b)) (t a) rest
  section_passes rest l1 a R h k cut size kept = ok ∙ (ap (λ r. judged_from l0.taken to (both s t) rules (read_both s t r)) h ∙ go ((t a).read l1.left))
    where
      go : (r : Begun B) → judged_from l0.taken to (both s t) rules (after_first a (length (s.write a)) r) ≡ judged_from l1.taken (λ b. to (a, b)) (t a) rest r
      go (whole b []) =
          let z = size b in
          ap (λ rs. first_bad (suc l0.taken) rs (valid (answer_of (to (a, b)).verdict))) (cut b)
          ∙ passed_lines (suc l0.taken) (suc l1.taken) (R b) (rest (to (a, b))) _ (kept b) (omega (arith, k, z))
      go (whole b (l ∷ ls)) =
          let z = size b in
          let y = length-append (s.write a) ((t a).write b) in
          ap (λ rs. first_bad (suc l0.taken) (take (length (s.write a ++ (t a).write b)) rs) (bad (suc (l0.taken + length (s.write a ++ (t a).write b))) form)) (cut b)
          ∙ moved l0.taken l1.taken (length ((t a).write b)) (length (s.write a ++ (t a).write b)) (R b) (rest (to (a, b))) (kept b) (omega (arith, k, z)) (omega (arith, z, y))
      go (broken b m) =
          let z = size b in
          ap (λ rs. first_bad (suc l0.taken) (take (length (s.write a) + m) rs) (bad (suc (l0.taken + (length (s.write a) + m))) form)) (cut b)
          ∙ moved l0.taken l1.taken m (length (s.write a) + m) (R b) (rest (to (a, b))) (kept b) (omega (arith, k, z)) (omega (arith, z))

  -- a section that is whole and breaks a rule
  pub section_faulty : (rest : Certificate → List (List Rule)) (left : List (List ℕ)) (a : A) (R : B → List (List Rule)) (fault : Fault) → s.read l0.left ≡ whole a left
      → ((b : B) → rules (to (a, b)) ≡ R b ++ rest (to (a, b))) → ((b : B) → length (R b) ≡ length (s.write a)) → ((b : B) → first_fault (R b) ≡ Some fault)
      → checked text ≡ bad (suc (l0.taken + fault.at)) fault.reason
  section_faulty rest left a R fault h cut size broke = ok ∙ (ap (λ r. judged_from l0.taken to (both s t) rules (read_both s t r)) h ∙ go ((t a).read left))
    where
      number : suc l0.taken + fault.at ≡ suc (l0.taken + fault.at)
      number = omega arith

      taken : (b : B) (k m : ℕ) (good : Checked) → k ≡ length (s.write a) + m → first_bad (suc l0.taken) (take k (rules (to (a, b)))) good ≡ bad (suc (l0.taken + fault.at)) fault.reason
      taken b k m good e =
          let z = size b in
          ap (λ rs. first_bad (suc l0.taken) (take k rs) good) (cut b)
          ∙ (ap (λ rs. first_bad (suc l0.taken) rs good) (take_past k m (R b) (rest (to (a, b))) (omega (arith, z, e)))
          ∙ (faulty_line (suc l0.taken) (R b) (take m (rest (to (a, b)))) good fault (broke b) ∙ ap (λ n. bad n fault.reason) number))

      go : (r : Begun B) → judged_from l0.taken to (both s t) rules (after_first a (length (s.write a)) r) ≡ bad (suc (l0.taken + fault.at)) fault.reason
      go (whole b []) =
          ap (λ rs. first_bad (suc l0.taken) rs (valid (answer_of (to (a, b)).verdict))) (cut b)
          ∙ (faulty_line (suc l0.taken) (R b) (rest (to (a, b))) _ fault (broke b) ∙ ap (λ n. bad n fault.reason) number)
      go (whole b (l ∷ ls)) = taken b (length (s.write a ++ (t a).write b)) (length ((t a).write b)) _ (length-append (s.write a) ((t a).write b))
      go (broken b m) = taken b (length (s.write a) + m) m _ refl

  -- a section that breaks off after lines that keep their rules
  pub section_breaks : (a : A) (m : ℕ) (R : B → List (List Rule)) → s.read l0.left ≡ broken a m → ((b : B) → take m (rules (to (a, b))) ≡ R b) → ((b : B) → first_fault (R b) ≡ None)
      → checked text ≡ bad (suc (l0.taken + m)) form
  section_breaks a m R h cut kept =
      ok ∙ (ap (λ r. judged_from l0.taken to (both s t) rules (read_both s t r)) h
      ∙ (ap (λ rs. first_bad (suc l0.taken) rs (bad (suc (l0.taken + m)) form)) (cut (t a).blank ∙ sym (append-nil (R (t a).blank)))
      ∙ passed_lines (suc l0.taken) (suc l0.taken + length (R (t a).blank)) (R (t a).blank) [] (bad (suc (l0.taken + m)) form) (kept (t a).blank) refl))

  -- or after one that doesn't
  pub section_breaks_faulty : (a : A) (m : ℕ) (R : B → List (List Rule)) (fault : Fault) → s.read l0.left ≡ broken a m → ((b : B) → take m (rules (to (a, b))) ≡ R b)
      → ((b : B) → first_fault (R b) ≡ Some fault) → checked text ≡ bad (suc (l0.taken + fault.at)) fault.reason
  section_breaks_faulty a m R fault h cut broke =
      let number : suc l0.taken + fault.at ≡ suc (l0.taken + fault.at) = omega arith in
      ok ∙ (ap (λ r. judged_from l0.taken to (both s t) rules (read_both s t r)) h
      ∙ (ap (λ rs. first_bad (suc l0.taken) rs (bad (suc (l0.taken + m)) form)) (cut (t a).blank ∙ sym (append-nil (R (t a).blank)))
      ∙ (faulty_line (suc l0.taken) (R (t a).blank) [] (bad (suc (l0.taken + m)) form) fault (broke (t a).blank) ∙ ap (λ n. bad n fault.reason) number)))

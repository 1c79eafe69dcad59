-- A section and then another, many lines of a form, and the same lines for another value.
use Rattle.std.proofs.Common.{◌≡◌, ℕ, suc, ◌+◌, ◌<◌, true, List, ◌++◌, length, take, drop, refl, sym, ◌∙◌, ap, subst, arith, append_assoc, length-append}
use Rattle.std.proofs.lemmas.Bool.{and_parts, and_from}
use Rattle.witness_check.specs.Forms.{Begun, Section, after_first, both, broken, read_both, whole}
use Rattle.witness_check.proofs.Cutting.{all_lines_append}
use Rattle.witness_check.proofs.Prefixes.{goes_on, goes_on_as, take_past, take_within}
use Rattle.witness_check.proofs.Sections.{IsSection, broken_count, broken_value, whole_broken, whole_rest, whole_value}

module _ {A B : Type 0} (s : Section A) (t : A → Section B) (ok : IsSection s) (then : (a : A) → s.fits a ≡ true → IsSection (t a)) where
  both_back : (p : A × B) (rest : List (List ℕ)) → (both s t).fits p ≡ true → (both s t).read ((both s t).write p ++ rest) ≡ whole p rest
  both_back (a, b) rest h =
      let (fa, fb) = and_parts (s.fits a) ((t a).fits b) h in
      let first : s.read ((s.write a ++ (t a).write b) ++ rest) ≡ whole a ((t a).write b ++ rest) = ap s.read (append_assoc (s.write a) ((t a).write b) rest) ∙ ok.back a ((t a).write b ++ rest) fa in
      let second : (t a).read ((t a).write b ++ rest) ≡ whole b rest = (then a fa).back b rest fb in
      ap (read_both s t) first ∙ ap (after_first a (length (s.write a))) second

  both_only : (ls : List (List ℕ)) (p : A × B) (rest : List (List ℕ)) → (both s t).read ls ≡ whole p rest → ((both s t).fits p ≡ true) × (ls ≡ (both s t).write p ++ rest)
  both_only ls p rest e = go (s.read ls) refl e
    where
      go : (r : Begun A) → s.read ls ≡ r → read_both s t r ≡ whole p rest → ((both s t).fits p ≡ true) × (ls ≡ (both s t).write p ++ rest)
      go (broken a n) q h = absurd (whole_broken (sym h))
      go (whole a more) q h = next ((t a).read more) refl h
        where
          next : (r : Begun B) → (t a).read more ≡ r → after_first a (length (s.write a)) r ≡ whole p rest → ((both s t).fits p ≡ true) × (ls ≡ (both s t).write p ++ rest)
          next (broken b m) z k = absurd (whole_broken (sym k))
          next (whole b end) z k =
              let (fa, wa) = ok.only ls a more q in
              let (fb, wb) = (then a fa).only more b end z in
              let v : (a, b) ≡ p = whole_value k in
              let r : end ≡ rest = whole_rest k in (
                subst (λ x. (both s t).fits x ≡ true) v (and_from (s.fits a) ((t a).fits b) fa fb),
                wa ∙ (ap (λ x. s.write a ++ x) wb ∙ (sym (append_assoc (s.write a) ((t a).write b) end)
                    ∙ (ap (λ x. (both s t).write x ++ end) v ∙ ap (λ x. (both s t).write p ++ x) r))),
              )

  -- where reading breaks off: in the first section, or in the second
  pub data Breaks (ls : List (List ℕ)) (p : A × B) (n : ℕ) : Type 0 where
    early : s.read ls ≡ broken p.0 n → p.1 ≡ (t p.0).blank → Breaks ls p n
    late : (more : List (List ℕ)) (m : ℕ) → s.read ls ≡ whole p.0 more → (t p.0).read more ≡ broken p.1 m → n ≡ length (s.write p.0) + m → Breaks ls p n

  both_breaks : (ls : List (List ℕ)) (p : A × B) (n : ℕ) → (both s t).read ls ≡ broken p n → Breaks ls p n
  both_breaks ls p n e = go (s.read ls) refl e
    where
      go : (r : Begun A) → s.read ls ≡ r → read_both s t r ≡ broken p n → Breaks ls p n
      go (broken a k) q h = subst (λ (x : A × B). Breaks ls x n) (broken_value h) (early (q ∙ ap (broken a) (broken_count h)) refl)
      go (whole a more) q h = next ((t a).read more) refl h
        where
          next : (r : Begun B) → (t a).read more ≡ r → after_first a (length (s.write a)) r ≡ broken p n → Breaks ls p n
          next (whole b end) z k = absurd (whole_broken k)
          next (broken b m) z k = subst (λ (x : A × B). Breaks ls x n) (broken_value k) (late more m q z (sym (broken_count k)))

  both_begun : (ls : List (List ℕ)) (p : A × B) (n : ℕ) → (both s t).read ls ≡ broken p n
      → ((both s t).fits p ≡ true) × (n < length ((both s t).write p)) × (take n ls ≡ take n ((both s t).write p))
  both_begun ls p n e = go (both_breaks ls p n e)
    where
      go : Breaks ls p n → ((both s t).fits p ≡ true) × (n < length ((both s t).write p)) × (take n ls ≡ take n ((both s t).write p))
      go (early q z) =
          let (fa, la, wa) = ok.begun ls p.0 n q in (
            and_from (s.fits p.0) ((t p.0).fits p.1) fa (ap (t p.0).fits z ∙ (then p.0 fa).blank_fits),
            omega (arith, length-append (s.write p.0) ((t p.0).write p.1)),
            wa ∙ sym (take_within n (s.write p.0) ((t p.0).write p.1) (omega arith)),
          )
      go (late more m q z c) =
          let (fa, wa) = ok.only ls p.0 more q in
          let (fb, lb, wb) = (then p.0 fa).begun more p.1 m z in (
            and_from (s.fits p.0) ((t p.0).fits p.1) fa fb,
            omega (arith, length-append (s.write p.0) ((t p.0).write p.1)),
            subst (λ k. take k ls ≡ take k (s.write p.0 ++ (t p.0).write p.1)) (sym c)
                (ap (take (length (s.write p.0) + m)) wa ∙ (take_past (length (s.write p.0) + m) m (s.write p.0) more refl ∙ (ap (λ x. s.write p.0 ++ x) wb
                ∙ sym (take_past (length (s.write p.0) + m) m (s.write p.0) ((t p.0).write p.1) refl)))),
          )

  both_wrong : (ls : List (List ℕ)) (p : A × B) (n : ℕ) → (both s t).read ls ≡ broken p n → (r : A × B) (rest : List (List ℕ)) → (both s t).fits r ≡ true
      → take (suc n) ls ≡ take (suc n) ((both s t).write r ++ rest) → ⊥
  both_wrong ls p n e (a, b) rest h d = go (both_breaks ls p n e)
    where
      X : List (List ℕ)
      X = s.write a ++ ((t a).write b ++ rest)

      fa : s.fits a ≡ true
      fa = (and_parts (s.fits a) ((t a).fits b) h).0

      fb : (t a).fits b ≡ true
      fb = (and_parts (s.fits a) ((t a).fits b) h).1

      same : take (suc n) ls ≡ take (suc n) X
      same = d ∙ ap (take (suc n)) (append_assoc (s.write a) ((t a).write b) rest)

      go : Breaks ls p n → ⊥
      go (early q z) = ok.wrong ls p.0 n q a ((t a).write b ++ rest) fa same
      go (late more m q z c) =
          let (f, w) = ok.only ls p.0 more q in
          let count : suc n ≡ length (s.write p.0) + suc m = omega (arith, c) in
          let long : take (length (s.write p.0) + suc m) X ≡ s.write p.0 ++ take (suc m) more =
          sym (subst (λ x. take x ls ≡ take x X) count same) ∙ (ap (take (length (s.write p.0) + suc m)) w ∙ take_past (length (s.write p.0) + suc m) (suc m) (s.write p.0) more refl) in
          let on : X ≡ s.write p.0 ++ drop (length (s.write p.0)) X = goes_on (length (s.write p.0) + suc m) (suc m) (s.write p.0) more X refl long in
          let again : whole a ((t a).write b ++ rest) ≡ whole p.0 (drop (length (s.write p.0)) X) =
          sym (ok.back a ((t a).write b ++ rest) fa) ∙ (ap s.read on ∙ ok.back p.0 (drop (length (s.write p.0)) X) f) in
          let v : a ≡ p.0 = whole_value again in
          let r : (t a).write b ++ rest ≡ drop (length (s.write p.0)) X = whole_rest again in
          let tail : take (suc m) (drop (length (s.write p.0)) X) ≡ take (suc m) more =
          goes_on_as (length (s.write p.0) + suc m) (suc m) (s.write p.0) more (drop (length (s.write p.0)) X) refl (ap (take (length (s.write p.0) + suc m)) (sym on) ∙ long) in
          let r2 : (t p.0).write b ++ rest ≡ drop (length (s.write p.0)) X = subst (λ x. (t x).write b ++ rest ≡ drop (length (s.write p.0)) X) v r in
          (then p.0 f).wrong more p.1 m z b rest (subst (λ x. (t x).fits b ≡ true) v fb) (sym tail ∙ ap (take (suc m)) (sym r2))

  -- a section and then another
  pub both_section : IsSection (both s t)
  both_section = record {
    blank_fits = and_from (s.fits s.blank) ((t s.blank).fits (t s.blank).blank) ok.blank_fits (then s.blank ok.blank_fits).blank_fits;
    lines = λ p h. let (fa, fb) = and_parts (s.fits p.0) ((t p.0).fits p.1) h in
        all_lines_append (s.write p.0) ((t p.0).write p.1) (ok.lines p.0 fa) ((then p.0 fa).lines p.1 fb);
    back = both_back;
    only = both_only;
    begun = both_begun;
    wrong = both_wrong;
  }

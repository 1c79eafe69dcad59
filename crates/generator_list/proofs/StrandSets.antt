-- The test of a beginning by sets of strands: in a search the strands used are a set of bits, and a table over all such sets tells whether the arcs that are left can meet others.
use Rattle.std.proofs.Common.{◌≡◌, ◌⊎◌, ◌≢◌, ℕ, ◌+◌, ◌^◌, ◌<◌, Bool, true, false, eqb, ◌&&◌, ◌||◌, not, max, List, [], ◌∷◌, ◌++◌, length, refl, sym, ◌∙◌, ap, arith, inl, inr}
use Rattle.std.specs.Int.{bit_at}
use Rattle.std.specs.Int.Bits.{bit_or}
use Rattle.std.specs.List.{list_any}
use Rattle.std.proofs.lemmas.Bool.{cases_eq, eq-eqb, ne_eqb}
use Rattle.std.proofs.lemmas.Nat.Bits.{bit_at-lt, bit_at_or, bit_at-pow_other, bit_at-pow_same}
use Rattle.obd_base.specs.Lists.{has}
use Rattle.drawing.specs.Points.{all_different}
use Rattle.generator_list.specs.Search.{in_set, meets}
use Rattle.generator_list.proofs.Pruning.{can_meet, offers, strands_append, strands_from, worth}
use mathlib.Core.Path.{fun_ext}

-- the same, by a list of those used
pub meets_is : (rest : List (List ℕ)) (used : List ℕ) → meets rest (has used) ≡ can_meet rest used
meets_is [] used = refl
meets_is (ss ∷ rest) used = each ss (λ s. meets_is rest (s ∷ used))
  where
    each : (ss : List ℕ) → ((s : ℕ) → meets rest (has (s ∷ used)) ≡ can_meet rest (s ∷ used))
        → list_any (λ s. not (has used s) && meets rest (has (s ∷ used))) ss ≡ list_any (λ s. not (has used s) && can_meet rest (s ∷ used)) ss
    each [] h = refl
    each (s ∷ ss) h = rw (h s, each ss h) refl

-- one strand more in a set of bits
pub set_with : (set s k : ℕ) → in_set (bit_or set (2 ^ s)) k ≡ (eqb k s || in_set set k)
set_with set s k = ap (λ b. eqb b 1) (bit_at_or set (2 ^ s) k) ∙ go (cases_eq k s) (bit (bit_at set k) (bit_at-lt set k))
  where
    bit : (n : ℕ) → n < 2 → (n ≡ 0) ⊎ (n ≡ 1)
    bit n l = elim (cases_eq n 0) [ inl e ↦ inl e | inr ne ↦ inr (omega arith) ]

    same : k ≡ s → (b c : ℕ) → bit_at set k ≡ b → bit_at (2 ^ s) k ≡ c → eqb (max b c) 1 ≡ true → eqb (max (bit_at set k) (bit_at (2 ^ s) k)) 1 ≡ (eqb k s || in_set set k)
    same e b c p q h = rw (p, q, eq-eqb k s e) h

    other : k ≢ s → (b : ℕ) → bit_at set k ≡ b → bit_at (2 ^ s) k ≡ 0 → eqb (max b 0) 1 ≡ eqb b 1 → eqb (max (bit_at set k) (bit_at (2 ^ s) k)) 1 ≡ (eqb k s || in_set set k)
    other ne b p q h = rw (p, q, ne_eqb k s ne) h

    one : k ≡ s → bit_at (2 ^ s) k ≡ 1
    one e = rw e (bit_at-pow_same s)

    go : (k ≡ s) ⊎ (k ≢ s) → (bit_at set k ≡ 0) ⊎ (bit_at set k ≡ 1) → eqb (max (bit_at set k) (bit_at (2 ^ s) k)) 1 ≡ (eqb k s || in_set set k)
    go (inl e) (inl z) = same e 0 1 z (one e) refl
    go (inl e) (inr z) = same e 1 1 z (one e) refl
    go (inr ne) (inl z) = other ne 0 z (bit_at-pow_other s k ne) refl
    go (inr ne) (inr z) = other ne 1 z (bit_at-pow_other s k ne) refl

pub set_with_test : (set s : ℕ) → in_set (bit_or set (2 ^ s)) ≡ (λ k. eqb k s || in_set set k)
set_with_test set s = fun_ext (set_with set s)

-- a member more at the end
pub has_push : (ys : List ℕ) (x k : ℕ) → has (ys ++ x ∷ []) k ≡ (has ys k || eqb k x)
has_push [] x k = last (eqb k x)
  where
    last : (b : Bool) → (b || false) ≡ b
    last true = refl
    last false = refl
has_push (z ∷ ys) x k = ap (λ b. eqb k z || b) (has_push ys x k) ∙ assoc (eqb k z) (has ys k) (eqb k x)
  where
    assoc : (a b c : Bool) → (a || (b || c)) ≡ ((a || b) || c)
    assoc true b c = refl
    assoc false b c = refl

-- different numbers, with one more at the end
different_push : (xs : List ℕ) (x : ℕ) → all_different (xs ++ x ∷ []) ≡ (all_different xs && not (has xs x))
different_push [] x = refl
different_push (y ∷ ys) x =
    ap (λ b. not b && all_different (ys ++ x ∷ [])) (has_push ys x y)
    ∙ (ap (λ b. not (has ys y || eqb y x) && b) (different_push ys x)
    ∙ (ap (λ b. not (has ys y || b) && (all_different ys && not (has ys x))) (turned y x)
    ∙ shuffle (has ys y) (eqb x y) (all_different ys) (has ys x)))
  where
    turned : (a b : ℕ) → eqb a b ≡ eqb b a
    turned a b = elim (cases_eq a b) [ inl e ↦ eq-eqb a b e ∙ sym (eq-eqb b a (sym e)) | inr ne ↦ ne_eqb a b ne ∙ sym (ne_eqb b a (λ q. ne (sym q))) ]

    shuffle : (a b c d : Bool) → (not (a || b) && (c && not d)) ≡ ((not a && c) && not (b || d))
    shuffle true b c d = refl
    shuffle false true true d = refl
    shuffle false true false d = refl
    shuffle false false true d = refl
    shuffle false false false d = refl

-- the test of a beginning with one point more: its strand is new, and the arcs after it can meet strands that aren't used
pub worth_next : (strand : ℕ → ℕ → ℕ) (q ms : List ℕ) (j set : ℕ) → all_different (strands_from strand 0 q) ≡ true → in_set set ≡ has (strands_from strand 0 q)
    → worth strand (q ++ j ∷ []) ms ≡ (not (in_set set (strand (length q) j)) && meets (offers strand (length (q ++ j ∷ [])) ms) (in_set (bit_or set (2 ^ strand (length q) j))))
worth_next strand q ms j set different same =
    let at : 0 + length q ≡ length q = omega arith in
    let whole : strands_from strand 0 (q ++ j ∷ []) ≡ strands_from strand 0 q ++ strand (length q) j ∷ [] = strands_append strand 0 q (j ∷ []) ∙ ap (λ a. strands_from strand 0 q ++ strand a j ∷ []) at in
    let s = strand (length q) j in
    let used = strands_from strand 0 q in
    let more : has (used ++ s ∷ []) ≡ in_set (bit_or set (2 ^ s)) =
    fun_ext (λ k. has_push used s k ∙ (swap (has used k) (eqb k s) ∙ (ap (λ b. eqb k s || b) (ap (λ (f : ℕ → Bool). f k) (sym same)) ∙ sym (set_with set s k)))) in
    ap (λ us. all_different us && can_meet (offers strand (length (q ++ j ∷ [])) ms) us) whole
    ∙ (ap (λ b. b && can_meet (offers strand (length (q ++ j ∷ [])) ms) (used ++ s ∷ [])) (different_push used s ∙ (ap (λ b. b && not (has used s)) different ∙ ap not (ap (λ (f : ℕ → Bool). f s) (sym same))))
    ∙ ap (λ b. not (in_set set s) && b) (sym (meets_is (offers strand (length (q ++ j ∷ [])) ms) (used ++ s ∷ [])) ∙ ap (meets (offers strand (length (q ++ j ∷ [])) ms)) more))
  where
    swap : (a b : Bool) → (a || b) ≡ (b || a)
    swap true true = refl
    swap true false = refl
    swap false true = refl
    swap false false = refl

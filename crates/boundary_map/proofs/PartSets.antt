-- Parts by their numbers: members, lengths, and one step of choosing.
use Rattle.std.proofs.Common.{◌≡◌, ℕ, suc, ◌+◌, ◌-◌, ◌≤◌, ◌<◌, inl, inr, List, [], ◌∷◌, ◌++◌, append_assoc, drop, get_or, length, map, refl, sym, ap, ap₂, arith, ◌∙◌}
use Rattle.std.proofs.lemmas.Bool.{cases_lt, le-ltb, lt-ltb}
use Rattle.std.proofs.lemmas.List.{drop_all, drop_more, append-nil, length-drop, length-map, map-append}
use Rattle.boundary_map.proofs.PartNumbers.{numbered_parts}
use Rattle.boundary_map.specs.Sets.{chosen, doubled}
use Rattle.obd_base.proofs.lists.Below.{below_push}
use Rattle.obd_base.proofs.lists.Members.{mem_left, mem_right, mem_to_map}
use Rattle.obd_base.specs.Lists.{Mem, below, parts}

-- a numbered part is a part
pub chosen_part : (xs : List ℕ) (n : ℕ) → Mem (chosen xs n) (parts xs)
chosen_part [] n = inl refl
chosen_part (x ∷ xs) n = elim (cases_lt n (doubled (length xs))) [
  | inl l ↦ rw (lt-ltb n (doubled (length xs)) l) (mem_left _ (parts xs) _ (chosen_part xs n))
  | inr l ↦ rw (le-ltb n (doubled (length xs)) l) (mem_right _ (parts xs) _ (mem_to_map (λ part. x ∷ part) _ (parts xs) (chosen_part xs (n - doubled (length xs)))))
]

-- it is no longer than the list
pub chosen_short : (xs : List ℕ) (n : ℕ) → length (chosen xs n) ≤ length xs
chosen_short [] n = omega arith
chosen_short (x ∷ xs) n = elim (cases_lt n (doubled (length xs))) [
  | inl l ↦ rw (lt-ltb n (doubled (length xs)) l) (omega (arith, chosen_short xs n))
  | inr l ↦ rw (le-ltb n (doubled (length xs)) l) (omega (arith, chosen_short xs (n - doubled (length xs))))
]

-- the parts of a mapped list
pub chosen_map : (f : ℕ → ℕ) (xs : List ℕ) (n : ℕ) → chosen (map f xs) n ≡ map f (chosen xs n)
chosen_map f [] n = refl
chosen_map f (x ∷ xs) n = elim (cases_lt n (doubled (length xs))) [
  | inl l ↦ rw (length-map xs f, lt-ltb n (doubled (length xs)) l) (chosen_map f xs n)
  | inr l ↦ rw (length-map xs f, le-ltb n (doubled (length xs)) l) (ap (λ zs. f x ∷ zs) (chosen_map f xs (n - doubled (length xs))))
]

-- the sets of one number more
pub sets_push : (xs : List ℕ) (t : ℕ) → map (chosen xs) (below (suc t)) ≡ map (chosen xs) (below t) ++ chosen xs t ∷ []
sets_push xs t = ap (map (chosen xs)) (below_push t) ∙ map-append (chosen xs) (below t) (t ∷ [])

-- all sets are the parts
pub all_sets : (xs : List ℕ) (m : ℕ) → m ≡ doubled (length xs) → map (chosen xs) (below m) ≡ parts xs
all_sets xs m e = ap (λ k. map (chosen xs) (below k)) e ∙ sym (numbered_parts xs)

-- what is to be chosen of the members from one on
pub record IsLeft (pieces set : List ℕ) (number i rest half : ℕ) : Type 0 where
  pub so_far : set ++ chosen (drop i pieces) rest ≡ chosen pieces number
  pub half_is : half ≡ doubled (length pieces - i)
  pub within : rest < half

module _ (pieces set : List ℕ) (number i rest half : ℕ) (l : i < length pieces) (left : IsLeft pieces set number i rest half) where
  abbrev more : ℕ
  more = length pieces - suc i

  -- half of the numbers that are left
  halves : half ≡ doubled more + doubled more
  halves = left.half_is ∙ ap doubled (let e : length pieces - i ≡ suc more = omega arith in e)

  -- how many members are left after this one
  rest_length : (j : ℕ) → j ≡ i + 1 → length (drop j pieces) ≡ more
  rest_length j e = length-drop j pieces ∙ omega (arith, e)

  -- a member is left out
  pub left_out : (same : List ℕ) (x half' rest' j : ℕ) → same ≡ set → rest' ≡ rest → j ≡ i + 1 → half' + half' ≤ half → half ≤ half' + half' + 1 → rest < half' → IsLeft pieces same number j rest' half'
  left_out same x half' rest' j es er ej a b under =
      let half_now : half' ≡ doubled more = omega (arith, halves) in
      let n = rest_length (i + 1) refl in
      let here : drop i pieces ≡ get_or pieces i x ∷ drop (i + 1) pieces = drop_more pieces i x l in
      let out : chosen (get_or pieces i x ∷ drop (i + 1) pieces) rest ≡ chosen (drop (i + 1) pieces) rest
      = rw (n, lt-ltb rest (doubled more) (omega (arith, half_now))) refl in
      record {
        so_far = ap₂ (λ zs r. zs ++ chosen (drop j pieces) r) es er ∙ (ap (λ k. set ++ chosen (drop k pieces) rest) ej ∙ (ap (λ zs. set ++ zs) (sym (ap (λ zs. chosen zs rest) here ∙ out)) ∙ left.so_far));
        half_is = half_now ∙ ap (λ k. doubled (length pieces - k)) (let e : suc i ≡ j = omega arith in e);
        within = omega (arith, under, er);
      }

  -- a member is taken
  pub left_in : (longer : List ℕ) (x half' rest' j : ℕ) → longer ≡ set ++ x ∷ [] → j ≡ i + 1 → x ≡ get_or pieces i x → half' + half' ≤ half → half ≤ half' + half' + 1 → half' ≤ rest → rest' ≡ rest - half'
      → IsLeft pieces longer number j rest' half'
  left_in longer x half' rest' j el ej is a b under er =
      let half_now : half' ≡ doubled more = omega (arith, halves) in
      let n = rest_length (i + 1) refl in
      let here : drop i pieces ≡ x ∷ drop (i + 1) pieces = drop_more pieces i x l ∙ ap (λ k. k ∷ drop (i + 1) pieces) (sym is) in
      let into : chosen (x ∷ drop (i + 1) pieces) rest ≡ x ∷ chosen (drop (i + 1) pieces) (rest - doubled more)
      = rw (n, le-ltb rest (doubled more) (omega (arith, half_now))) refl in
      let same : rest' ≡ rest - doubled more = er ∙ ap (λ k. rest - k) half_now in
      record {
        so_far = ap (λ zs. zs ++ chosen (drop j pieces) rest') el
            ∙ (ap₂ (λ k r. (set ++ x ∷ []) ++ chosen (drop k pieces) r) ej same
            ∙ (append_assoc set (x ∷ []) (chosen (drop (i + 1) pieces) (rest - doubled more)) ∙ (ap (λ zs. set ++ zs) (sym (ap (λ zs. chosen zs rest) here ∙ into)) ∙ left.so_far)));
        half_is = half_now ∙ ap (λ k. doubled (length pieces - k)) (let e : suc i ≡ j = omega arith in e);
        within = omega (arith, er, left.within, halves, half_now);
      }

-- nothing was chosen yet
pub left_begin : (pieces : List ℕ) (number half : ℕ) → half ≡ doubled (length pieces) → number < doubled (length pieces) → IsLeft pieces [] number 0 number half
left_begin pieces number half e l = record { so_far = refl; half_is = e ∙ ap doubled (let z : length pieces ≡ length pieces - 0 = omega arith in z); within = omega (arith, e) }

-- all was chosen
pub left_done : (pieces set : List ℕ) (number i rest half : ℕ) → length pieces ≤ i → IsLeft pieces set number i rest half → set ≡ chosen pieces number
left_done pieces set number i rest half l left =
    let e : drop i pieces ≡ [] = drop_all i pieces l in
    sym (append-nil set) ∙ (ap (λ zs. set ++ chosen zs rest) (sym e) ∙ left.so_far)

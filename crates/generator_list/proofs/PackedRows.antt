-- Lists of one length that stand one after the other.
use Rattle.std.proofs.Common.{◌≡◌, ℕ, zero, suc, ◌+◌, ◌-◌, ◌*◌, ◌<◌, ◌≤◌, List, [], ◌∷◌, ◌++◌, length, take, drop, get_or, refl, sym, ◌∙◌, ap, ap₂, arith}
use Rattle.std.proofs.lemmas.Nat.{mul-le}
use Rattle.std.proofs.lemmas.List.{drop-append-le, length-drop, take-append-le, take_all}
use Rattle.generator_list.specs.Packed.{Packed, rows}

-- there are as many as are counted
pub rows_size : (width count : ℕ) (flat : List ℕ) → length (rows width count flat) ≡ count
rows_size width zero flat = refl
rows_size width (suc count) flat = ap suc (rows_size width count (drop width flat))

no_items : (flat : List ℕ) → length flat ≡ 0 → flat ≡ []
no_items [] e = refl
no_items (x ∷ xs) e = absurd (omega (arith, e))

-- one list more
pub rows_push : (width count : ℕ) (flat list : List ℕ) → length flat ≡ count * width → length list ≡ width → rows width (suc count) (flat ++ list) ≡ rows width count flat ++ list ∷ []
rows_push width zero flat list e l =
    ap (λ xs. take width (xs ++ list) ∷ []) (no_items flat (let z : 0 * width ≡ 0 = omega arith in e ∙ z)) ∙ ap (λ xs. xs ∷ []) (take_all width list (omega (arith, l)))
rows_push width (suc count) flat list e l =
    let m : suc count * width ≡ width + count * width = omega arith in
    let enough : width ≤ length flat = omega (arith, e, m) in
    let front : take width (flat ++ list) ≡ take width flat = take-append-le width flat list enough in
    let back : drop width (flat ++ list) ≡ drop width flat ++ list = drop-append-le width flat list enough in
    let left : length (drop width flat) ≡ count * width = (let d = length-drop width flat in omega (arith, d, e, m)) in
    ap₂ (λ a b. a ∷ rows width (suc count) b) front back ∙ ap (λ xs. take width flat ∷ xs) (rows_push width count (drop width flat) list left l)

drop_twice : (a b : ℕ) (xs : List ℕ) → drop a (drop b xs) ≡ drop (b + a) xs
drop_twice a zero [] = let e : 0 + a ≡ a = omega arith in ap (λ k. drop k []) (sym e)
drop_twice a zero (x ∷ xs) = let e : 0 + a ≡ a = omega arith in ap (λ k. drop k (x ∷ xs)) (sym e)
drop_twice a (suc b) [] = none a ∙ sym (none (suc b + a))
  where
    none : (k : ℕ) → drop {A = ℕ} k [] ≡ []
    none zero = refl
    none (suc k) = refl
drop_twice a (suc b) (x ∷ xs) = let e : suc b + a ≡ suc (b + a) = omega arith in drop_twice a b xs ∙ ap (λ k. drop k (x ∷ xs)) (sym e)

-- the list with a number
pub rows_at : (width count k : ℕ) (flat d : List ℕ) → k < count → get_or (rows width count flat) k d ≡ take width (drop (k * width) flat)
rows_at width zero k flat d l = absurd (omega (arith, l))
rows_at width (suc count) zero flat d l = let e : 0 * width ≡ 0 = omega arith in ap (take width) (none flat ∙ ap (λ j. drop j flat) (sym e))
  where
    none : (xs : List ℕ) → xs ≡ drop 0 xs
    none [] = refl
    none (x ∷ xs) = refl
rows_at width (suc count) (suc k) flat d l =
    let e : width + k * width ≡ suc k * width = omega arith in
    rows_at width count k (drop width flat) d (omega (arith, l)) ∙ ap (take width) (drop_twice (k * width) width flat ∙ ap (λ j. drop j flat) e)

-- one list more, as it is kept
pub pushed : (width count : ℕ) (flat list after : List ℕ) (shown : Packed) → ◌≡◌ {A = Packed} (record { width = width; lists = rows width count flat }) shown → length flat ≡ count * width
    → length list ≡ shown.width → after ≡ flat ++ list → ◌≡◌ {A = Packed} (record { width = width; lists = rows width (count + 1) after }) (record { width = shown.width; lists = shown.lists ++ list ∷ [] })
pushed width count flat list after shown is size one grown =
    let e : count + 1 ≡ suc count = omega arith in
    let here : length list ≡ width = one ∙ sym (ap (λ (f : Packed). f.width) is) in
    ap₂ {C = Packed} (λ w ls. record { width = w; lists = ls }) (ap (λ (f : Packed). f.width) is)
    (ap₂ (rows width) e grown ∙ (rows_push width count flat list size here ∙ ap (λ ls. ls ++ list ∷ []) (ap (λ (f : Packed). f.lists) is)))

module _ (width count number : ℕ) (flat part : List ℕ) (shown : Packed) (is : ◌≡◌ {A = Packed} (record { width = width; lists = rows width count flat }) shown)
    (size : length flat ≡ count * width) (inside : number < length shown.lists) (all : part ≡ flat) where
  numbered : number < count
  numbered = let e = ap (λ (p : Packed). length p.lists) is in let r = rows_size width count flat in omega (arith, e, r, inside)

  -- a list lies within all
  pub item_inside : number * width + width ≤ length part
  item_inside =
      let l = numbered in
      let m : (number + 1) * width ≤ count * width = mul-le (number + 1) width count width (omega (arith, l)) (omega arith) in
      let s : (number + 1) * width ≡ number * width + width = omega arith in
      let e = ap length all in
      omega (arith, m, s, e, size)

  -- and is that with its number
  pub item_read : take (number * width + width - number * width) (drop (number * width) part) ≡ get_or shown.lists number []
  item_read =
      let w : number * width + width - number * width ≡ width = omega arith in
      ap₂ (λ k xs. take k (drop (number * width) xs)) w all ∙ (sym (rows_at width count number flat [] numbered) ∙ ap (λ (p : Packed). get_or p.lists number []) is)

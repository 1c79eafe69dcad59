-- Two lists compared, entry by entry.
use Rattle.std.proofs.Common.{◌≡◌, ℕ, zero, suc, ◌+◌, ◌<◌, ◌≤◌, ap₂, Bool, true, false, ◌&&◌, eqb, List, [], ◌∷◌, length, get_or, refl, ◌∙◌, ap, arith, subst, sym, inl, inr}
use Rattle.std.specs.Str.{bytes_eq}
use Rattle.std.proofs.lemmas.Bool.{and_from, cases_lt}
use Rattle.std.proofs.lemmas.List.{get_or-map, length-map}
use Rattle.std.proofs.lemmas.List.FromFn.{get_or-map-range_with_len, length-range_with_len}
use Rattle.obd_base.specs.Lists.{below}
use Rattle.page_surface.specs.Labels.{Label, labels_of}
use Rattle.page_surface.specs.Polygon.{Polygon, arc, sides}
use Rattle.witness_check.specs.BookRules.{label_names}
use Rattle.witness_check.specs.OpenBook.{arcs}
use Rattle.mod2_rank.specs.Linear.{same_list}
use Rattle.witness_check.specs.Rules.{same_names}
use Rattle.witness_check.proofs.EachLine.{same_at}

module _ {A : Type 0} (eq : A → A → Bool) where
  -- two lists are one by a test of entries
  abbrev pub same_by : List A → List A → Bool
  same_by [] [] = true
  same_by [] (y ∷ ys) = false
  same_by (x ∷ xs) [] = false
  same_by (x ∷ xs) (y ∷ ys) = eq x y && same_by xs ys

  -- the first so many entries pass
  abbrev pub Alike : List A → List A → ℕ → Type 0
  Alike xs ys n = (i : ℕ) (d e : A) → i < n → eq (get_or xs i d) (get_or ys i e) ≡ true

  -- one more
  pub one_more_alike : (xs ys : List A) (k : ℕ) (d e : A) → k < length xs → k < length ys → eq (get_or xs k d) (get_or ys k e) ≡ true
      → Alike xs ys k → Alike xs ys (k + 1)
  one_more_alike xs ys k d e l m so all i f g less = elim (cases_lt i k) [
    | inl before ↦ all i f g before
    | inr here ↦ (let one : i ≡ k = omega (arith, less, here) in
        subst (λ j. eq (get_or xs j f) (get_or ys j g) ≡ true) (sym one)
        (subst (λ x. eq x (get_or ys k g) ≡ true) (same_at xs k d f l) (subst (λ y. eq (get_or xs k d) y ≡ true) (same_at ys k e g m) so)))
  ]

  -- what a test tells of the entries at a place
  pub tells_at : (xs ys : List A) (k : ℕ) (d e x y : A) (told so : Bool) → x ≡ get_or xs k d → get_or ys k e ≡ y → told ≡ eq x y → told ≡ so → eq (get_or xs k d) (get_or ys k e) ≡ so
  tells_at xs ys k d e x y told so is at tells this = ap₂ eq (sym is) at ∙ (sym tells ∙ this)

  -- lists of one length whose entries all pass are one
  pub all_alike : (xs ys : List A) (n : ℕ) → length xs ≡ length ys → length xs ≤ n → Alike xs ys n → same_by xs ys ≡ true
  all_alike [] [] n even l all = refl
  all_alike [] (y ∷ ys) n even l all = absurd (omega (arith, even))
  all_alike (x ∷ xs) [] n even l all = absurd (omega (arith, even))
  all_alike (x ∷ xs) (y ∷ ys) zero even l all = absurd (omega (arith, l))
  all_alike (x ∷ xs) (y ∷ ys) (suc n) even l all =
      and_from (eq x y) (same_by xs ys) (all 0 x y (omega arith)) (all_alike xs ys n (omega (arith, even)) (omega (arith, l)) (λ i d e m. all (suc i) d e (omega (arith, m))))

  -- others aren't
  both_needed : (a b : Bool) → b ≡ false → a && b ≡ false
  both_needed true b e = e
  both_needed false b e = refl

  pub unlike : (xs ys : List A) (k : ℕ) (d e : A) → k < length xs → k < length ys → eq (get_or xs k d) (get_or ys k e) ≡ false → same_by xs ys ≡ false
  unlike [] ys k d e l m other = absurd (omega (arith, l))
  unlike (x ∷ xs) [] k d e l m other = absurd (omega (arith, m))
  unlike (x ∷ xs) (y ∷ ys) zero d e l m other = ap (λ b. b && same_by xs ys) other
  unlike (x ∷ xs) (y ∷ ys) (suc k) d e l m other = both_needed (eq x y) (same_by xs ys) (unlike xs ys k d e (omega (arith, l)) (omega (arith, m)) other)

  pub uneven : (xs ys : List A) → (length xs ≡ length ys → ⊥) → same_by xs ys ≡ false
  uneven [] [] odd = absurd (odd refl)
  uneven [] (y ∷ ys) odd = refl
  uneven (x ∷ xs) [] odd = refl
  uneven (x ∷ xs) (y ∷ ys) odd = both_needed (eq x y) (same_by xs ys) (uneven xs ys (λ even. odd (ap suc even)))

-- lists of names, and of numbers, are compared so
pub names_by : (xs ys : List Label) → same_names xs ys ≡ same_by bytes_eq xs ys
names_by [] [] = refl
names_by [] (y ∷ ys) = refl
names_by (x ∷ xs) [] = refl
names_by (x ∷ xs) (y ∷ ys) = ap (λ b. bytes_eq x y && b) (names_by xs ys)

pub numbers_by : (xs ys : List ℕ) → same_list xs ys ≡ same_by eqb xs ys
numbers_by [] [] = refl
numbers_by [] (y ∷ ys) = refl
numbers_by (x ∷ xs) [] = refl
numbers_by (x ∷ xs) (y ∷ ys) = ap (λ b. eqb x y && b) (numbers_by xs ys)

-- the names of labels, one by one
pub name_count : (page : List (List Label)) (labels : List ℕ) → length (label_names page labels) ≡ length labels
name_count page labels = length-map labels (λ label. get_or (labels_of page) label [])

pub name_at : (page : List (List Label)) (labels : List ℕ) (k label : ℕ) → k < length labels → label ≡ get_or labels k label
    → get_or (label_names page labels) k [] ≡ get_or (labels_of page) label []
name_at page labels k label within is =
    get_or-map (λ (n : ℕ). get_or (labels_of page) n []) labels k label [] within ∙ ap (λ (n : ℕ). get_or (labels_of page) n []) (sym is)

-- the arcs of sides, one by one
pub arc_number : (p : Polygon) → length (arcs p) ≡ sides p
arc_number p = length-map (below (sides p)) (arc p) ∙ length-range_with_len 0 (sides p)

pub arc_at : (p : Polygon) (k e : ℕ) → k < sides p → get_or (arcs p) k e ≡ arc p k
arc_at p k e within = get_or-map-range_with_len (arc p) 0 (sides p) k k e within (omega arith)

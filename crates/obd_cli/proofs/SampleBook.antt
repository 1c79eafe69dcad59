-- The book of a sample is a book, its slides are accepted, and how its twist word and its summary are made step by step.
use Rattle.std.proofs.Common.{◌≡◌, ℕ, zero, suc, ℤ, ◌+◌, ◌*◌, ◌%◌, ◌<◌, ◌≤◌, List, [], ◌∷◌, ◌++◌, codes, length, map, take, get_or, refl, sym, ◌∙◌, ap, ap₂, arith, add-one, length-append}
use Rattle.std.specs.List.{All, flat_map}
use Rattle.std.proofs.lemmas.Nat.{mod_below}
use Rattle.obd_base.specs.Lists.{below}
use Rattle.obd_base.specs.declared.points.Exit.{Exit}
use Rattle.curve_paths.specs.declared.twist.Twist.{Twist}
use Rattle.witness_check.specs.OpenBook.{IsSurface, joined_surface}
use Rattle.obd_doc.specs.Document.{IsBook, by_name, twist_about}
use Rattle.obd_doc.specs.declared.book.NamedCurve.{NamedCurve}
use Rattle.obd_cli.specs.Opened.{open_book}
use Rattle.obd_cli.specs.Sample.{entry, next, number, sample_book, sample_curves, sample_twist, sample_twists, torus}
use Rattle.obd_cli.proofs.Collected.{collected_more}

-- the names of the two curves
abbrev names : List (List ℕ)
names = codes "a" ∷ codes "b" ∷ []

-- an entry is about the first curve of its name
found_entry : (c : ℕ) (power : ℤ) → c < 2 → twist_about names (by_name names (record { curve = c; power = power })) ≡ record { curve = c; power = power }
found_entry zero power less = refl
found_entry (suc zero) power less = refl
found_entry (suc (suc c)) power less = absurd (omega (arith, less))

all_found : (seed : ℕ) (js : List ℕ) → map (twist_about names) (map (by_name names) (map (sample_twist seed) js)) ≡ map (sample_twist seed) js
all_found seed [] = refl
all_found seed (j ∷ js) =
    ap₂ (λ (t : Twist) (ts : List Twist). t ∷ ts) (found_entry (number seed (2 * j + 1) % 2) (sample_twist seed j).power (mod_below (number seed (2 * j + 1)) 2 (omega arith))) (all_found seed js)

-- both curves are on the torus
on_torus : All (λ (c : NamedCurve). c.curve ≡ record { page = torus; path = c.path }) sample_curves
on_torus zero d less = refl
on_torus (suc zero) d less = refl
on_torus (suc (suc i)) d less = absurd (omega (arith, less))

pub sample_is_book : (seed twists : ℕ) → IsBook (sample_book seed twists)
unfolding sample_book sample_twists
sample_is_book seed twists = record {
  is_page = refl;
  page_is = refl;
  curves_on_page = on_torus;
  first_of_name = all_found seed (below twists);
}

-- within the limits that a document may give
pub sample_moves : (seed twists : ℕ) → (sample_book seed twists).limits.moves ≤ 20000
unfolding sample_book
sample_moves seed twists = omega arith

pub sample_generators : (seed twists : ℕ) → (sample_book seed twists).limits.generators ≤ 20000
unfolding sample_book
sample_generators seed twists = omega arith

-- no slide is refused
pub sample_surface : (seed twists : ℕ) → IsSurface (open_book (sample_book seed twists)) (joined_surface (open_book (sample_book seed twists)))
unfolding sample_book
sample_surface seed twists = refl

-- two numbers on from number 2i
two_more : (seed i x : ℕ) → x ≡ number seed (2 * i) → next (next x) ≡ number seed (2 * (i + 1))
two_more seed i x is =
    let places : 2 * (i + 1) ≡ suc (suc (2 * i)) = omega arith in
    ap (λ n. next (next n)) is ∙ sym (ap (number seed) places)

-- the entry that they give
entry_there : (seed i x : ℕ) → x ≡ number seed (2 * i) → entry (next x) (next (next x)) ≡ sample_twist seed i
entry_there seed i x is =
    let one : 2 * i + 1 ≡ suc (2 * i) = omega arith in
    let two : 2 * i + 2 ≡ suc (suc (2 * i)) = omega arith in
    ap (λ n. entry (next n) (next (next n))) is ∙ sym (ap₂ entry (ap (number seed) one) (ap (number seed) two))

module _ (seed i x y z : ℕ) (is : x ≡ number seed (2 * i)) (first : y ≡ next x) (second : z ≡ next y) where
  -- the number after one entry more,
  pub number_more : z ≡ number seed (2 * (i + 1))
  number_more = second ∙ (ap next first ∙ two_more seed i x is)

  -- and the word
  pub twists_more : (now then : List Twist) (t : Twist) → now ≡ map (sample_twist seed) (below i) → t ≡ entry y z → then ≡ now ++ t ∷ [] → then ≡ map (sample_twist seed) (below (i + 1))
  twists_more now then t before made after =
      let there : t ≡ sample_twist seed i = made ∙ (ap₂ entry first (second ∙ ap next first) ∙ entry_there seed i x is) in
      collected_more (sample_twist seed) i now then t before after there

-- the whole word
pub are_sample : (seed count i : ℕ) (twists : List Twist) → twists ≡ map (sample_twist seed) (below i) → i ≡ count → twists ≡ sample_twists seed count
unfolding sample_twists
are_sample seed count i twists are whole = are ∙ ap (λ n. map (sample_twist seed) (below n)) whole

-- the exits of some strands
abbrev exits : List (List Exit) → List Exit
exits strands = flat_map (λ strand. strand) strands

-- one strand more has so many exits more
exits_after : (strands : List (List Exit)) (i : ℕ) (d : List Exit) → i < length strands → length (exits (take (suc i) strands)) ≡ length (exits (take i strands)) + length (get_or strands i d)
exits_after [] i d less = absurd (omega (arith, less))
exits_after (s ∷ strands) zero d less = omega (arith, length-append s [])
exits_after (s ∷ strands) (suc i) d less =
    let rest = exits_after strands i d (omega (arith, less)) in
    omega (arith, rest, length-append s (exits (take (suc i) strands)), length-append s (exits (take i strands)))

-- which aren't more than all
exits_within : (strands : List (List Exit)) (i : ℕ) → length (exits (take i strands)) ≤ length (exits strands)
exits_within strands zero = omega arith
exits_within [] (suc i) = omega arith
exits_within (s ∷ strands) (suc i) = omega (arith, exits_within strands i, length-append s (exits (take i strands)), length-append s (exits strands))

module _ (strands : List (List Exit)) (i : ℕ) (d : List Exit) (less : i < length strands) where
  pub exits_more : length (exits (take (i + 1) strands)) ≡ length (exits (take i strands)) + length (get_or strands i d)
  exits_more = ap (λ n. length (exits (take n strands))) (add-one i) ∙ exits_after strands i d less

  pub exits_few : length (exits (take i strands)) + length (get_or strands i d) ≤ length (exits strands)
  exits_few = omega (arith, exits_after strands i d less, exits_within strands (suc i))

-- a count of the exits so far, with one strand more
module _ (strands : List (List Exit)) (i : ℕ) (strand d : List Exit) (less : i < length strands) (is : strand ≡ get_or strands i d)
    (count size : ℕ) (counted : count ≡ length (exits (take i strands))) (sized : size ≡ length strand) where
  pub count_fits : length (exits strands) ≤ 4000 → count + size ≤ 4000
  count_fits few = omega (arith, few, exits_few strands i d less, counted, sized, ap length is)

  pub count_more : (now : ℕ) → now ≡ count + size → now ≡ length (exits (take (i + 1) strands))
  count_more now after = omega (arith, after, exits_more strands i d less, counted, sized, ap length is)

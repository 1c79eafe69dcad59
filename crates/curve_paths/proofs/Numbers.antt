-- Crossings by number, the points of labels and the places that are met, as the tables are filled crossing by crossing.
use Rattle.std.proofs.Common.{◌≡◌, ℕ, zero, suc, ◌+◌, ◌*◌, ◌<◌, ◌≤◌, Bool, true, false, ◌&&◌, ◌||◌, eqb, List, [], ◌∷◌, ◌++◌, map, length, take, get_or, set, Option, Some, refl, sym, subst, ap, ap₂, ◌∙◌, arith, inl, inr}
use Rattle.std.specs.List.{list_all, list_any, position, range_with_len}
use Rattle.std.specs.Option.{IsSome, is_some}
use Rattle.std.specs.Str.{bytes_eq}
use Rattle.std.proofs.lemmas.Bool.{cases_Bool, cases_eq, cases_lt, eq-eqb, ne_eqb}
use Rattle.std.proofs.lemmas.List.{get_or-set_same, get_or-set_other, length-set, take_more, length-take-le}
use Rattle.std.proofs.lemmas.List.Folds.{list_any-append}
use Rattle.std.proofs.lemmas.List.FromFn.{fill_by_all, get_or-map-range_with_len}
use Rattle.std.proofs.lemmas.List.Sums.{count_by-le-length, sum_by_push}
use Rattle.obd_base.specs.Lists.{below}
use Rattle.obd_base.proofs.lists.Below.{bit}
use Rattle.page_surface.specs.Labels.{Label, label_number, labels_of}
use Rattle.curve_paths.specs.declared.crossing.Crossing.{Crossing}
use Rattle.curve_paths.specs.declared.path.Cross.{Cross}
use Rattle.curve_paths.specs.Paths.{has_label_places, is_known, is_met_at, label_points}
use Rattle.curve_paths.specs.PlaceTables.{AreMet}
use Rattle.arc_basis.proofs.Places.{found_place, no_place}
use Rattle.curve_paths.proofs.PathChords.{same_at}
use Rattle.curve_paths.proofs.LabelPlaces.{places_by_met}

-- a crossing by default
abbrev pub nowhere : Cross
nowhere = record { label = []; occurrence = 0; place = 0 }

-- how many points each label has
pub record AreCounts (cs : List Crossing) (count : ℕ) (counts : List ℕ) : Type 0 where
  pub size : length counts ≡ count
  pub counts_are : (k : ℕ) → k < count → get_or counts k 0 ≡ label_points cs k

-- one more crossing
points_push : (cs : List Crossing) (c : Crossing) (k : ℕ) → label_points (cs ++ c ∷ []) k ≡ label_points cs k + bit (eqb c.side.label k)
points_push cs c k = sum_by_push (λ x. bit (eqb x.side.label k)) cs c

pub counts_more : (cs : List Crossing) (i count : ℕ) (c : Crossing) (counts : List ℕ) (n x : ℕ) → i < length cs → c ≡ get_or cs i c
    → c.side.label < count → n ≡ c.side.label → x ≡ get_or counts n 0 → AreCounts (take i cs) count counts → AreCounts (take (i + 1) cs) count (set counts n (x + 1))
counts_more cs i count c counts n x l is lc en ex so_far =
    let grown : take (i + 1) cs ≡ take i cs ++ c ∷ [] = take_more cs i c l ∙ ap (λ y. take i cs ++ y ∷ []) (sym is) in
    rw grown (record {
      size = length-set counts n (x + 1) ∙ so_far.size;
      counts_are = λ k lk. elim (cases_eq k n) [
        | inl e ↦
            let now : get_or (set counts n (x + 1)) k 0 ≡ x + 1 = ap (λ (j : ℕ). get_or (set counts n (x + 1)) j 0) e ∙ get_or-set_same counts n (x + 1) 0 (omega (arith, so_far.size)) in
            let one : bit (eqb c.side.label k) ≡ 1 = rw (eq-eqb c.side.label k (omega arith)) refl in
            let had : get_or counts k 0 ≡ x = ap (λ (j : ℕ). get_or counts j 0) e ∙ sym ex in
            omega (arith, now, one, had, so_far.counts_are k lk, points_push (take i cs) c k)
        | inr ne ↦
            let now : get_or (set counts n (x + 1)) k 0 ≡ get_or counts k 0 = get_or-set_other counts n k (x + 1) 0 ne in
            let none : bit (eqb c.side.label k) ≡ 0 = rw (ne_eqb c.side.label k (λ q. ne (sym q ∙ sym en))) refl in
            omega (arith, now, none, so_far.counts_are k lk, points_push (take i cs) c k)
      ];
    })

-- no more points than crossings
pub few_points : (cs : List Crossing) (k : ℕ) → label_points cs k ≤ length cs
few_points cs k = count_by-le-length (λ c. eqb c.side.label k) cs

pub few_so_far : (cs : List Crossing) (i count : ℕ) (counts : List ℕ) (n : ℕ) → i ≤ length cs → AreCounts (take i cs) count counts → n < count → get_or counts n 0 ≤ i
few_so_far cs i count counts n l so_far ln = omega (arith, so_far.counts_are n ln, few_points (take i cs) n, length-take-le i cs l)

-- at the end the counts are those of all crossings
pub whole_counts : (cs : List Crossing) (count : ℕ) (counts : List ℕ) → AreCounts cs count counts → counts ≡ map (label_points cs) (below count)
whole_counts cs count counts h = fill_by_all (label_points cs) counts count 0 h.size h.counts_are

-- one more crossing meets its place
any_push : {X : Type 0} (p : X → Bool) (xs : List X) (x : X) → list_any p (xs ++ x ∷ []) ≡ (list_any p xs || (p x || false))
any_push p xs x = list_any-append p xs (x ∷ [])

or_not : (a b : Bool) → b ≡ false → (a || (b || false)) ≡ a
or_not true b e = refl
or_not false b e = rw e refl

or_yes : (a b : Bool) → b ≡ true → (a || (b || false)) ≡ true
or_yes true b e = refl
or_yes false b e = rw e refl

module _ (cs : List Crossing) (i count : ℕ) (c : Crossing) (met : List Bool) (l : i < length cs) (is : c ≡ get_or cs i c) (lc : c.side.label < count)
    (so_far : AreMet (take i cs) count met) where
  grown : take (i + 1) cs ≡ take i cs ++ c ∷ []
  grown = take_more cs i c l ∙ ap (λ y. take i cs ++ y ∷ []) (sym is)

  pub met_more : (n : ℕ) → c.place < 32 → n ≡ c.side.label * 32 + c.place → AreMet (take (i + 1) cs) count (set met n true)
  met_more n p en = rw grown (record {
    size = length-set met n true ∙ so_far.size;
    met_are = λ label place ll lp. elim (cases_eq (label * 32 + place) n) [
      | inl e ↦
          let now : get_or (set met n true) (label * 32 + place) false ≡ true
          = ap (λ (j : ℕ). get_or (set met n true) j false) e ∙ get_or-set_same met n true false (omega (arith, so_far.size)) in
          let here : is_met_at label place c ≡ true = rw (eq-eqb c.side.label label (omega arith), eq-eqb c.place place (omega arith)) refl in
          now ∙ sym (any_push (is_met_at label place) (take i cs) c ∙ or_yes _ _ here)
      | inr ne ↦
          let now : get_or (set met n true) (label * 32 + place) false ≡ get_or met (label * 32 + place) false = get_or-set_other met n (label * 32 + place) true false ne in
          now ∙ (so_far.met_are label place ll lp ∙ sym (any_push (is_met_at label place) (take i cs) c ∙ or_not _ _ (elsewhere label place (λ a b. ne (omega (arith, a, b))))))
    ];
  })
    where
      elsewhere : (label place : ℕ) → (c.side.label ≡ label → c.place ≡ place → ⊥) → is_met_at label place c ≡ false
      elsewhere label place apart = elim (cases_eq c.side.label label) [
        | inl a ↦ rw (eq-eqb c.side.label label a) (ne_eqb c.place place (λ b. apart a b))
        | inr a ↦ rw (ne_eqb c.side.label label a) refl
      ]

  -- a place of 32 or above isn't in the table
  pub met_same : 32 ≤ c.place → AreMet (take (i + 1) cs) count met
  met_same p = rw grown (record {
    size = so_far.size;
    met_are = λ label place ll lp.
        let not_here : is_met_at label place c ≡ false = far (eqb c.side.label label) (eqb c.place place) (ne_eqb c.place place (λ e. omega arith)) in
        so_far.met_are label place ll lp ∙ sym (any_push (is_met_at label place) (take i cs) c ∙ or_not _ _ not_here);
  })
    where
      far : (a b : Bool) → b ≡ false → (a && b) ≡ false
      far true b e = e
      far false b e = refl

-- the table of met places tells whether a label's places are right
pub table_tells : (cs : List Crossing) (count label : ℕ) (met : List Bool) → AreMet cs count met → label < count → length cs ≤ 32
    → has_label_places cs label ≡ list_all (λ place. get_or met (label * 32 + place) false) (below (label_points cs label))
table_tells cs count label met h l few = places_by_met cs label ∙ same (label_points cs label) 0 (omega (arith, few_points cs label))
  where
    same : (n a : ℕ) → a + n ≤ length cs → list_all (λ place. list_any (is_met_at label place) cs) (range_with_len a n) ≡ list_all (λ place. get_or met (label * 32 + place) false) (range_with_len a n)
    same zero a f = refl
    same (suc n) a f = ap₂ (λ b c. b && c) (sym (h.met_are label a l (omega arith))) (same n (a + 1) (omega arith))

-- whether a place is found tells whether one passes
pub some_place : {X : Type 0} (p : X → Bool) (xs : List X) → is_some (position p xs) ≡ list_any p xs
some_place p xs = elim (cases_Bool (list_any p xs)) [
  | inl t ↦ rw (found_place p xs t, t) refl
  | inr f ↦ rw (no_place p xs f, f) refl
]

-- a label that is looked up is known, or isn't
pub known_read : (page : List (List Label)) (path : List Cross) (i : ℕ) (x : Cross) (text : Label) (r : Option ℕ) → i < length path
    → text ≡ (get_or path i x).label → r ≡ position (bytes_eq text) (labels_of page) → is_some r ≡ is_known page (get_or path i nowhere)
known_read page path i x text r l et er =
    ap is_some er ∙ (some_place (bytes_eq text) (labels_of page)
    ∙ ap (λ name. list_any (bytes_eq name) (labels_of page)) (et ∙ ap (λ (c : Cross). c.label) (same_at path i x nowhere l)))

-- the numbers below one more
pub next_below : {P : ℕ → Type 0} (n : ℕ) → ((k : ℕ) → k < n → P k) → P n → (k : ℕ) → k < n + 1 → P k
next_below {P = P} n before here k l = elim (cases_lt k n) [
  | inl b ↦ before k b
  | inr b ↦ (let e : n ≡ k = omega arith in subst P e here)
]

-- a known label has a number, the one that is looked up
pub number_read : (page : List (List Label)) (x : Cross) (text : Label) (r : Option ℕ) → is_known page x ≡ true → text ≡ x.label
    → r ≡ position (bytes_eq text) (labels_of page) → r ≡ Some (label_number (labels_of page) x.label)
number_read page x text r known et er = er ∙ (ap (λ name. position (bytes_eq name) (labels_of page)) et ∙ found_place (bytes_eq x.label) (labels_of page) known)

-- an option that is some has a value
pub some_there : {X : Type 0} (o : Option X) (x : X) → o ≡ Some x → IsSome o
some_there o x e = rw e refl

-- the count of a label in the table
pub count_read : (cs : List Crossing) (counts : List ℕ) (count label : ℕ) → counts ≡ map (label_points cs) (below count) → label < count → get_or counts label 0 ≡ label_points cs label
count_read cs counts count label e l =
    ap (λ (xs : List ℕ). get_or xs label 0) e ∙ get_or-map-range_with_len (label_points cs) 0 count label label 0 l (omega arith)

-- whether a label's places are right, as it is read in the tables
pub right_read : (cs : List Crossing) (counts : List ℕ) (met slice : List Bool) (label : ℕ) (r : Bool) → AreMet cs (length counts) met → slice ≡ met
    → counts ≡ map (label_points cs) (below (length counts)) → label < length counts → length cs ≤ 32
    → r ≡ list_all (λ place. get_or slice (label * 32 + place) false) (below (get_or counts label 0)) → has_label_places cs label ≡ r
right_read cs counts met slice label r h es ec l few er =
    let points = count_read cs counts (length counts) label ec l in
    table_tells cs (length counts) label met h l few
    ∙ sym (er ∙ ap₂ (λ (xs : List Bool) (n : ℕ). list_all (λ place. get_or xs (label * 32 + place) false) (below n)) es points)

-- The chords that end at each number after a finger: where two chords more begin behind the pushed one, and the numbers of chords behind it are raised.
use Rattle.std.proofs.Common.{◌≡◌, ◌≢◌, ℕ, suc, ◌+◌, ◌-◌, ◌<◌, ◌≤◌, ◌^◌, Bool, true, false, cond, eqb, List, [], min, map, length, get_or, refl, sym, ◌∙◌, ap, ap₂, subst, arith, ◌⊎◌, inl, inr}
use Rattle.std.proofs.lemmas.Bool.{cases_eq, cases_lt, eq-eqb, le-ltb, lt-ltb, ne_eqb}
use Rattle.std.proofs.lemmas.List.{get_or-map, get_or-set_other, get_or-set_same, length-map, length-set}
use Rattle.page_surface.specs.Drawing.{Chord, Drawing, IsEmbedded, chords}
use Rattle.drawing.specs.declared.finger.Finger.{Finger}
use Rattle.drawing.specs.Fingers.{IsLegal, chord_at}
use Rattle.drawing.specs.Pieces.{spans}
use Rattle.drawing.specs.Round.{other_end}
use Rattle.drawing.proofs.Diagram.{at_most_one_end}
use Rattle.drawing.proofs.Mates.{Joins, other_joins}
use Rattle.drawing.proofs.fingers.Shift.{early, shift}
use Rattle.region_table.specs.Ends.{ChordNo, IsEnd, IsInside, IsNoted, KnowsEnds, begin_in, end_at}
use Rattle.region_table.specs.FingerLists.{AreEndsAfter, AreMatesAfter, IsPush, part_of, passes_later, put_two, renumbered, rows_after}
use Rattle.region_table.specs.Table.{begins_of}
use Rattle.region_table.proofs.FrameTables.{as_many_mates, as_many_rows, begin_is, chord_inside, mate_is, row_long}
use Rattle.region_table.proofs.TablePlaces.{chord_listed}
use Rattle.region_table.proofs.fingers.PushEnds.{ends_in}
use Rattle.region_table.proofs.fingers.Entries.{put_after, put_before, put_first, put_length, put_second}

-- an old chord is there by its name afterwards, and begins where it did
pub record IsCarried (begins rows : List (List ℕ)) (t u : ℕ) (pushed k : ChordNo) : Type 0 where
  pub strand_in : (renumbered pushed k).strand < length rows
  pub chord_in : (renumbered pushed k).chord < length (get_or rows (renumbered pushed k).strand [])
  pub begins_at : begin_in rows (renumbered pushed k).strand (renumbered pushed k).chord ≡ shift t u (begin_in begins k.strand k.chord)

module _ (begins : List (List ℕ)) (t u i c a b : ℕ) (li : i < length begins) (lc : c < length (get_or begins i [])) where
  abbrev rows : List (List ℕ)
  rows = rows_after t u i c a b begins

  abbrev pushed : ChordNo
  pushed = record { strand = i; chord = c }

  abbrev moved : List (List ℕ)
  moved = map (map (shift t u)) begins

  moved_row : (j : ℕ) → j < length begins → get_or moved j [] ≡ map (shift t u) (get_or begins j [])
  moved_row j l = get_or-map (map (shift t u)) begins j [] [] l

  pub as_many : length rows ≡ length begins
  as_many = length-set moved i (put_two (suc c) a b (get_or moved i [])) ∙ length-map begins (map (shift t u))

  -- the row of the pushed chord,
  own : get_or rows i [] ≡ put_two (suc c) a b (map (shift t u) (get_or begins i []))
  own = get_or-set_same moved i (put_two (suc c) a b (get_or moved i [])) [] (omega (arith, li, length-map begins (map (shift t u)))) ∙ ap (put_two (suc c) a b) (moved_row i li)

  pub own_long : length (get_or rows i []) ≡ length (get_or begins i []) + 2
  own_long = ap length own ∙ omega (arith, put_length (suc c) a b (map (shift t u) (get_or begins i [])) (omega (arith, lc, length-map (get_or begins i []) (shift t u))), length-map (get_or begins i []) (shift t u))

  -- and the others
  other : (j : ℕ) → j < length begins → j ≢ i → get_or rows j [] ≡ map (shift t u) (get_or begins j [])
  other j l ne = get_or-set_other moved i j (put_two (suc c) a b (get_or moved i [])) [] ne ∙ moved_row j l

  pub other_long : (j : ℕ) → j < length begins → j ≢ i → length (get_or rows j []) ≡ length (get_or begins j [])
  other_long j l ne = ap length (other j l ne) ∙ length-map (get_or begins j []) (shift t u)

  abbrev row : List ℕ
  row = map (shift t u) (get_or begins i [])

  fits : suc c ≤ length row
  fits = omega (arith, lc, length-map (get_or begins i []) (shift t u))

  -- where chords begin
  pub other_begins : (j n : ℕ) → j < length begins → n < length (get_or begins j []) → j ≢ i → begin_in rows j n ≡ shift t u (begin_in begins j n)
  other_begins j n l ln ne = ap (λ xs. get_or xs n 0) (other j l ne) ∙ get_or-map (shift t u) (get_or begins j []) n 0 0 ln

  pub early_begins : (n : ℕ) → n ≤ c → begin_in rows i n ≡ shift t u (begin_in begins i n)
  early_begins n l =
      ap (λ xs. get_or xs n 0) own
      ∙ (put_before (suc c) a b row 0 n fits (omega (arith, l)) ∙ get_or-map (shift t u) (get_or begins i []) n 0 0 (omega (arith, l, lc)))

  pub turn_begins : begin_in rows i (suc c) ≡ a
  turn_begins = ap (λ xs. get_or xs (suc c) 0) own ∙ put_first (suc c) a b row 0 fits

  pub back_begins : begin_in rows i (suc (suc c)) ≡ b
  back_begins = ap (λ xs. get_or xs (suc (suc c)) 0) own ∙ put_second (suc c) a b row 0 fits

  pub late_begins : (n : ℕ) → c < n → n < length (get_or begins i []) → begin_in rows i (suc (suc n)) ≡ shift t u (begin_in begins i n)
  late_begins n l ln =
      ap (λ xs. get_or xs (suc (suc n)) 0) own
      ∙ (put_after (suc c) a b row 0 n fits (omega (arith, l)) ∙ get_or-map (shift t u) (get_or begins i []) n 0 0 ln)

  -- names of other strands' chords stay,
  named_other : (k : ChordNo) → k.strand ≢ i → (renumbered pushed k).chord ≡ k.chord
  named_other k ne = rw (ne_eqb k.strand i ne) refl

  -- and of those up to the pushed one,
  named_early : (k : ChordNo) → k.strand ≡ i → k.chord ≤ c → (renumbered pushed k).chord ≡ k.chord
  named_early k e l = rw (eq-eqb k.strand i e, le-ltb c k.chord l) refl

  -- and the others come two later
  named_late : (k : ChordNo) → k.strand ≡ i → c < k.chord → k.chord + 2 < 2 ^ 32 → (renumbered pushed k).chord ≡ suc (suc k.chord)
  named_late k e l small = (let z : (renumbered pushed k).chord ≡ min (k.chord + 2) (2 ^ 32 - 1) = rw (eq-eqb k.strand i e, lt-ltb c k.chord l) refl in z) ∙ omega (arith, small)

  -- each old chord is carried
  pub carried : length (get_or begins i []) + 2 < 2 ^ 32 → (k : ChordNo) → k.strand < length begins → k.chord < length (get_or begins k.strand []) → IsCarried begins rows t u pushed k
  carried few k ls lk = elim (cases_eq k.strand i) [
    | inr ne ↦
        let n = named_other k ne in
        record {
          strand_in = omega (arith, ls, as_many);
          chord_in = omega (arith, n, lk, other_long k.strand ls ne);
          begins_at = ap (begin_in rows k.strand) n ∙ other_begins k.strand k.chord ls lk ne;
        }
    | inl e ↦
        let lk2 : k.chord < length (get_or begins i []) = omega (arith, lk, ap (λ j. length (get_or begins j [])) e) in
        let back : begin_in begins i k.chord ≡ begin_in begins k.strand k.chord = ap (λ j. begin_in begins j k.chord) (sym e) in
        elim (cases_lt c k.chord) [
          | inl l ↦
              let n = named_late k e l (omega (arith, few, lk2)) in
              record {
                strand_in = omega (arith, ls, as_many);
                chord_in = omega (arith, n, lk2, own_long, ap (λ j. length (get_or rows j [])) e);
                begins_at = ap₂ (begin_in rows) e n ∙ (late_begins k.chord l lk2 ∙ ap (shift t u) back);
              }
          | inr l ↦
              let n = named_early k e l in
              record {
                strand_in = omega (arith, ls, as_many);
                chord_in = omega (arith, n, lk2, own_long, ap (λ j. length (get_or rows j [])) e);
                begins_at = ap₂ (begin_in rows) e n ∙ (early_begins k.chord l ∙ ap (shift t u) back);
              }
        ]
  ]

module _ (t u near far i c out : ℕ) (begins : List (List ℕ)) (mates mates_after : List ℕ) (ends ends_after : List ChordNo) (li : i < length begins) (lc : c < length (get_or begins i []))
    (few : length (get_or begins i []) + 2 < 2 ^ 32) (inside : (j k : ℕ) → j < length begins → k < length (get_or begins j []) → IsInside begins mates j k) (known : KnowsEnds begins mates ends)
    (meet : (get_or mates near 0 ≡ far) × (get_or mates far 0 ≡ near)) (order : ((out ≡ 0) × (near ≡ begin_in begins i c)) ⊎ ((out ≡ 1) × (far ≡ begin_in begins i c)))
    (mates_are : AreMatesAfter (length mates) t u near far (λ s. get_or mates s 0) (λ w. get_or mates_after w 0))
    (ends_are : AreEndsAfter (length mates) t u near far (record { strand = i; chord = c }) (part_of (record { strand = i; chord = c }) (cond (eqb out 0) 0 2)) (part_of (record { strand = i; chord = c }) 1)
    (part_of (record { strand = i; chord = c }) (cond (eqb out 0) 2 0)) ends ends_after) where
  abbrev key : ChordNo
  key = record { strand = i; chord = c }

  abbrev a : ℕ
  a = early u t + 1 - out

  abbrev b : ℕ
  b = early t u + 1 - out

  abbrev table : List (List ℕ)
  table = rows_after t u i c a b begins

  abbrev mate : ℕ → ℕ
  mate x = get_or mates_after x 0

  -- the table tells right at a number
  abbrev Right : ℕ → Type 0
  Right x = IsEnd table mates_after x (end_at ends_after x)

  -- so it is where it tells a part of the pushed chord that ends there
  part : (m x : ℕ) (k : ChordNo) → m ≤ 2 → end_at ends_after x ≡ k → k ≡ part_of key m → (begin_in table i (c + m) ≡ x) ⊎ (mate (begin_in table i (c + m)) ≡ x) → Right x
  part m x k l told is there =
      subst (IsEnd table mates_after x) (sym (told ∙ is)) (record {
        strand_in = omega (arith, li, as_many begins t u i c a b li lc);
        chord_in = omega (arith, lc, l, own_long begins t u i c a b li lc);
        ends_there = there;
      })

  first_is : begin_in table i (c + 0) ≡ shift t u (begin_in begins i c)
  first_is = ap (begin_in table i) (omega arith) ∙ early_begins begins t u i c a b li lc c (omega arith)

  turn_is : begin_in table i (c + 1) ≡ a
  turn_is = ap (begin_in table i) (omega arith) ∙ turn_begins begins t u i c a b li lc

  back_is : begin_in table i (c + 2) ≡ b
  back_is = ap (begin_in table i) (omega arith) ∙ back_begins begins t u i c a b li lc

  -- it is at the six numbers where the parts end
  abbrev AllRight : Type 0
  AllRight = Right (shift t u near) × Right (early t u) × Right (shift t u far) × Right (suc (early t u)) × Right (early u t) × Right (suc (early u t))

  sooner : out ≡ 0 → near ≡ begin_in begins i c → AllRight
  sooner o e =
      let here : part_of key (cond (eqb out 0) 0 2) ≡ part_of key 0 = ap (λ n. part_of key (cond (eqb n 0) 0 2)) o in
      let there : part_of key (cond (eqb out 0) 2 0) ≡ part_of key 2 = ap (λ n. part_of key (cond (eqb n 0) 2 0)) o in
      let first : begin_in table i (c + 0) ≡ shift t u near = first_is ∙ ap (shift t u) (sym e) in
      let turn : begin_in table i (c + 1) ≡ suc (early u t) = turn_is ∙ omega (arith, o) in
      let back : begin_in table i (c + 2) ≡ suc (early t u) = back_is ∙ omega (arith, o) in (
        part 0 (shift t u near) _ (omega arith) ends_are.at_near here (inl first),
        part 0 (early t u) _ (omega arith) ends_are.at_early here (inr (ap mate first ∙ mates_are.at_near)),
        part 2 (shift t u far) _ (omega arith) ends_are.at_far there (inr (ap mate back ∙ mates_are.at_late)),
        part 2 (suc (early t u)) _ (omega arith) ends_are.at_late there (inl back),
        part 1 (early u t) _ (omega arith) ends_are.at_beyond refl (inr (ap mate turn ∙ mates_are.at_tip)),
        part 1 (suc (early u t)) _ (omega arith) ends_are.at_tip refl (inl turn),
      )

  later : out ≡ 1 → far ≡ begin_in begins i c → AllRight
  later o e =
      let here : part_of key (cond (eqb out 0) 0 2) ≡ part_of key 2 = ap (λ n. part_of key (cond (eqb n 0) 0 2)) o in
      let there : part_of key (cond (eqb out 0) 2 0) ≡ part_of key 0 = ap (λ n. part_of key (cond (eqb n 0) 2 0)) o in
      let first : begin_in table i (c + 0) ≡ shift t u far = first_is ∙ ap (shift t u) (sym e) in
      let turn : begin_in table i (c + 1) ≡ early u t = turn_is ∙ omega (arith, o) in
      let back : begin_in table i (c + 2) ≡ early t u = back_is ∙ omega (arith, o) in (
        part 2 (shift t u near) _ (omega arith) ends_are.at_near here (inr (ap mate back ∙ mates_are.at_early)),
        part 2 (early t u) _ (omega arith) ends_are.at_early here (inl back),
        part 0 (shift t u far) _ (omega arith) ends_are.at_far there (inl first),
        part 0 (suc (early t u)) _ (omega arith) ends_are.at_late there (inr (ap mate first ∙ mates_are.at_far)),
        part 1 (early u t) _ (omega arith) ends_are.at_beyond refl (inl turn),
        part 1 (suc (early u t)) _ (omega arith) ends_are.at_tip refl (inr (ap mate turn ∙ mates_are.at_beyond)),
      )

  all_right : AllRight
  all_right = elim order [ inl w ↦ sooner w.0 w.1 | inr w ↦ later w.0 w.1 ]

  -- a carried chord ends where it did
  ends_carried : (s : ℕ) (k : ChordNo) → s ≢ near → s ≢ far → IsCarried begins table t u key k → IsInside begins mates k.strand k.chord
      → (begin_in begins k.strand k.chord ≡ s) ⊎ (get_or mates (begin_in begins k.strand k.chord) 0 ≡ s)
      → (begin_in table (renumbered key k).strand (renumbered key k).chord ≡ shift t u s) ⊎ (mate (begin_in table (renumbered key k).strand (renumbered key k).chord) ≡ shift t u s)
  ends_carried s k n f car ins (inl q) = inl (car.begins_at ∙ ap (shift t u) q)
  ends_carried s k n f car ins (inr q) =
      let x = begin_in begins k.strand k.chord in
      let to_far : x ≢ near = λ e. f (sym q ∙ (ap (λ y. get_or mates y 0) e ∙ meet.0)) in
      let to_near : x ≢ far = λ e. n (sym q ∙ (ap (λ y. get_or mates y 0) e ∙ meet.1)) in
      inr (ap mate car.begins_at ∙ (mates_are.others x ins.0 to_far to_near ∙ ap (shift t u) q))

  -- so what was right is right
  right_carried : (s : ℕ) → s < length mates → IsEnd begins mates s (end_at ends s) → Right (shift t u s)
  right_carried s l old = elim (cases_eq s near) [
    | inl q ↦ subst (λ x. Right (shift t u x)) (sym q) all_right.0
    | inr n ↦ elim (cases_eq s far) [
      | inl q ↦ subst (λ x. Right (shift t u x)) (sym q) all_right.2
      | inr f ↦
          let k = end_at ends s in
          let car = carried begins t u i c a b li lc few k old.strand_in old.chord_in in
          subst (IsEnd table mates_after (shift t u s)) (sym (ends_are.others s l n f)) (record {
            strand_in = car.strand_in;
            chord_in = car.chord_in;
            ends_there = ends_carried s k n f car (inside k.strand k.chord old.strand_in old.chord_in) old.ends_there;
          })
    ]
  ]

  -- at both ends of a carried chord
  both_right : (y : ℕ) → y < length mates → get_or mates y 0 < length mates → IsEnd begins mates y (end_at ends y) → IsEnd begins mates (get_or mates y 0) (end_at ends (get_or mates y 0))
      → Right (shift t u y) × Right (mate (shift t u y))
  both_right y ly lm here there = elim (cases_eq y near) [
    | inl q ↦ subst (λ x. Right (shift t u x) × Right (mate (shift t u x))) (sym q) (all_right.0, subst Right (sym mates_are.at_near) all_right.1)
    | inr n ↦ elim (cases_eq y far) [
      | inl q ↦ subst (λ x. Right (shift t u x) × Right (mate (shift t u x))) (sym q) (all_right.2, subst Right (sym mates_are.at_far) all_right.3)
      | inr f ↦ (right_carried y ly here, subst Right (sym (mates_are.others y ly n f)) (right_carried (get_or mates y 0) lm there))
    ]
  ]

  -- a chord that begins where an old one did is noted,
  noted_carried : (j k i0 k0 : ℕ) → i0 < length begins → k0 < length (get_or begins i0 []) → begin_in table j k ≡ shift t u (begin_in begins i0 k0) → IsNoted table mates_after ends_after j k
  noted_carried j k i0 k0 l lk at =
      let ins = inside i0 k0 l lk in
      let old = known i0 k0 l lk in
      subst (λ x. Right x × Right (mate x)) (sym at) (both_right (begin_in begins i0 k0) ins.0 ins.1 old.0 old.1)

  -- and so are the part beyond the side
  noted_turn : IsNoted table mates_after ends_after i (suc c)
  noted_turn = subst (λ x. Right x × Right (mate x)) (sym (turn_begins begins t u i c a b li lc)) (elim order [
    | inl w ↦ subst (λ x. Right x × Right (mate x)) (omega (arith, w.0)) (all_right.5, subst Right (sym mates_are.at_tip) all_right.4)
    | inr w ↦ subst (λ x. Right x × Right (mate x)) (omega (arith, w.0)) (all_right.4, subst Right (sym mates_are.at_beyond) all_right.5)
  ])

  -- and the part back
  noted_back : IsNoted table mates_after ends_after i (suc (suc c))
  noted_back = subst (λ x. Right x × Right (mate x)) (sym (back_begins begins t u i c a b li lc)) (elim order [
    | inl w ↦ subst (λ x. Right x × Right (mate x)) (omega (arith, w.0)) (all_right.3, subst Right (sym mates_are.at_late) all_right.2)
    | inr w ↦ subst (λ x. Right x × Right (mate x)) (omega (arith, w.0)) (all_right.1, subst Right (sym mates_are.at_early) all_right.0)
  ])

  -- so all chords are
  pub ends_known : KnowsEnds table mates_after ends_after
  ends_known j k lj lk =
      let many = as_many begins t u i c a b li lc in
      let long = own_long begins t u i c a b li lc in
      elim (cases_eq j i) [
        | inr ne ↦
            let l : j < length begins = omega (arith, lj, many) in
            let n : k < length (get_or begins j []) = omega (arith, lk, other_long begins t u i c a b li lc j l ne) in
            noted_carried j k j k l n (other_begins begins t u i c a b li lc j k l n ne)
        | inl e ↦
            let n : k < length (get_or table i []) = omega (arith, lk, ap (λ m. length (get_or table m [])) e) in
            subst (λ m. IsNoted table mates_after ends_after m k) (sym e) (elim (cases_lt c k) [
              | inr l ↦ noted_carried i k i k li (omega (arith, l, lc)) (early_begins begins t u i c a b li lc k l)
              | inl l ↦ elim (cases_eq k (suc c)) [
                | inl q ↦ subst (IsNoted table mates_after ends_after i) (sym q) noted_turn
                | inr n1 ↦ elim (cases_eq k (suc (suc c))) [
                  | inl q ↦ subst (IsNoted table mates_after ends_after i) (sym q) noted_back
                  | inr n2 ↦
                      let q : suc (suc (k - 2)) ≡ k = omega (arith, l, n1) in
                      let m : k - 2 < length (get_or begins i []) = omega (arith, n, long, l, n1) in
                      subst (IsNoted table mates_after ends_after i) q (noted_carried i (suc (suc (k - 2))) i (k - 2) li m (late_begins begins t u i c a b li lc (k - 2) (omega (arith, l, n1, n2)) m))
                ]
              ]
            ])
      ]

-- the table of chords at their ends after a finger on a drawing
module _ (d : Drawing) (ok : IsEmbedded d) (f : Finger) (l : IsLegal d f) (from near far one other out : ℕ) (given : IsPush d f from near far one other out)
    (begins : List (List ℕ)) (mates : List ℕ) (begins_are : begins ≡ begins_of d) (mates_are : mates ≡ map (other_end (chords d)) (spans d)) where
  abbrev pushed_chord : Chord
  pushed_chord = chord_at d f.strand f.chord

  -- a chord's ends lead to one another
  joined : (x y : ℕ) → x < length mates → Joins pushed_chord x y → get_or mates x 0 ≡ y
  joined x y lx join =
      mate_is d ok mates mates_are x (omega (arith, lx, as_many_mates d ok mates mates_are))
      ∙ other_joins (chords d) (at_most_one_end d ok) pushed_chord x y (chord_listed d ok f.strand f.chord l.strand l.chord) join

  ends_meet : (get_or mates near 0 ≡ far) × (get_or mates far 0 ≡ near)
  ends_meet =
      let ins = ends_in d ok f l from near far one other out given in
      let many = as_many_mates d ok mates mates_are in
      go (passes_later d f) given.near_is given.far_is (omega (arith, ins.0, many)) (omega (arith, ins.1, many))
    where
      go : (b : Bool) → near ≡ cond b pushed_chord.to pushed_chord.from → far ≡ cond b pushed_chord.from pushed_chord.to → near < length mates → far < length mates
          → (get_or mates near 0 ≡ far) × (get_or mates far 0 ≡ near)
      go true n m ln lm = (joined near far ln (inr (sym n, sym m)), joined far near lm (inl (sym m, sym n)))
      go false n m ln lm = (joined near far ln (inl (sym n, sym m)), joined far near lm (inr (sym m, sym n)))

  strand_in : f.strand < length begins
  strand_in = omega (arith, l.strand, as_many_rows d begins begins_are)

  chord_in : f.chord < length (get_or begins f.strand [])
  chord_in = omega (arith, l.chord, row_long d begins begins_are f.strand l.strand)

  ends_in_order : ((out ≡ 0) × (near ≡ begin_in begins f.strand f.chord)) ⊎ ((out ≡ 1) × (far ≡ begin_in begins f.strand f.chord))
  ends_in_order = go (passes_later d f) given.out_is given.near_is given.far_is (begin_is d begins begins_are f.strand l.strand f.chord l.chord)
    where
      go : (b : Bool) → out ≡ cond b 1 0 → near ≡ cond b pushed_chord.to pushed_chord.from → far ≡ cond b pushed_chord.from pushed_chord.to → begin_in begins f.strand f.chord ≡ pushed_chord.from
          → ((out ≡ 0) × (near ≡ begin_in begins f.strand f.chord)) ⊎ ((out ≡ 1) × (far ≡ begin_in begins f.strand f.chord))
      go true o n m b = inr (o, m ∙ sym b)
      go false o n m b = inl (o, n ∙ sym b)

  -- there is room for the numbers of its parts where the strand's list is short
  pub parts_fit : (after : List (List ℕ)) (strand a b : ℕ) → strand ≡ f.strand → after ≡ rows_after one other strand f.chord a b begins → length (get_or after f.strand []) < 2 ^ 32
      → length (get_or begins f.strand []) + 2 < 2 ^ 32
  parts_fit after strand a b i written few =
      let is = written ∙ ap (λ k. rows_after one other k f.chord a b begins) i in
      omega (arith, few, ap (λ xs. length (get_or xs f.strand [])) is, own_long begins one other f.strand f.chord a b strand_in chord_in)

  pub chord_fits : length (get_or begins f.strand []) + 2 < 2 ^ 32 → f.chord + 2 < 2 ^ 32
  chord_fits few = omega (arith, few, chord_in)

  -- it is known as code writes it
  pub ends_after_are : (ends after : List ChordNo) (mates_after : List ℕ) (rows : List (List ℕ)) (strand a b : ℕ) → length ends ≡ length mates → KnowsEnds begins mates ends
      → length (get_or begins f.strand []) + 2 < 2 ^ 32 → strand ≡ f.strand → a ≡ early other one + 1 - out → b ≡ early one other + 1 - out → rows ≡ rows_after one other strand f.chord a b begins
      → AreMatesAfter (length mates) one other near far (λ s. get_or mates s 0) (λ w. get_or mates_after w 0)
      → AreEndsAfter (length ends) one other near far (record { strand = f.strand; chord = f.chord }) (part_of (record { strand = f.strand; chord = f.chord }) (cond (eqb out 0) 0 2))
      (part_of (record { strand = f.strand; chord = f.chord }) 1) (part_of (record { strand = f.strand; chord = f.chord }) (cond (eqb out 0) 2 0)) ends after
      → KnowsEnds rows mates_after after
  ends_after_are ends after mates_after rows strand a b many known few i x y written made put =
      subst (λ r. KnowsEnds r mates_after after)
      (sym (written ∙ (ap (λ k. rows_after one other k f.chord a b begins) i ∙ ap₂ (λ v w. rows_after one other f.strand f.chord v w begins) x y)))
      (ends_known one other near far f.strand f.chord out begins mates mates_after ends after strand_in chord_in few
      (λ j k lj lk. chord_inside d ok mates mates_are begins begins_are j k (omega (arith, lj, as_many_rows d begins begins_are))
      (omega (arith, lk, row_long d begins begins_are j (omega (arith, lj, as_many_rows d begins begins_are)))))
      known ends_meet ends_in_order made
      (subst (λ n. AreEndsAfter n one other near far (record { strand = f.strand; chord = f.chord }) (part_of (record { strand = f.strand; chord = f.chord }) (cond (eqb out 0) 0 2))
      (part_of (record { strand = f.strand; chord = f.chord }) 1) (part_of (record { strand = f.strand; chord = f.chord }) (cond (eqb out 0) 2 0)) ends after) many put))

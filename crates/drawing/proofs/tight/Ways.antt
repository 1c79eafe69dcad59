-- Ways through the polygon: two that start side by side and turn nowhere come to their goals in the order of their starts.
use Rattle.std.proofs.Common.{◌≡◌, ℕ, ◌+◌, ◌-◌, ◌*◌, ◌%◌, ◌<◌, ◌≤◌, true, false, ltb, List, [], ◌∷◌, refl, sym, ◌∙◌, ap, subst, arith, le_refl, ◌⊎◌, inl, inr, ◌≢◌}
use Rattle.std.proofs.lemmas.Bool.{cases_lt, cases_order, eq-eqb, ne_eqb, lt-ltb, le-ltb, le-leb, lt-leb, false≢true}
use Rattle.std.proofs.lemmas.Nat.{mod-mul-add}
use Rattle.obd_base.specs.declared.points.Exit.{Exit}
use Rattle.page_surface.specs.Drawing.{Drawing, exit, entry, end_of, spot, offset, points_on, chords, crosses, IsEmbedded}
use Rattle.page_surface.specs.Polygon.{Polygon, partner, sides}
use Rattle.drawing.specs.Round.{other_end}
use Rattle.drawing.specs.Tight.{goal_side, goal_end, goals, comes_first}
use Rattle.drawing.proofs.Diagram.{mate, mate_twice}
use Rattle.drawing.proofs.Ends.{same_count}
use Rattle.drawing.proofs.Spots.{offset_rises, spot_apart}
use Rattle.drawing.proofs.tight.GoalOrder.{round, goals_in_order}
use Rattle.drawing.proofs.SweepTest.{chord, mates_uncrossed}

-- `%` in the goals, without `%`
round_is : (n e x : ℕ) → e < n → x < n → (x + n - e) % n ≡ round n e x
round_is n e x le lx = elim (cases_lt x e) [
  | inl l ↦
      (let z : x + n - e ≡ 0 * n + (x + n - e) = omega arith in
      let r : round n e x ≡ x + n - e = rw (lt-leb e x l) refl in
      ap (λ y. y % n) z ∙ (mod-mul-add 0 n (x + n - e) (omega arith) ∙ sym r))
  | inr l ↦
      (let z : x + n - e ≡ 1 * n + (x - e) = omega arith in
      let r : round n e x ≡ x - e = rw (le-leb e x l) refl in
      ap (λ y. y % n) z ∙ (mod-mul-add 1 n (x - e) (omega arith) ∙ sym r))
]

-- the goal of a side by the way round to it
goal_side_is : (p : Polygon) (e x : ℕ) → e < sides p → x < sides p → goal_side p e x ≡ 2 * round (sides p) e x
goal_side_is p e x le lx = ap (λ r. 2 * r) (round_is (sides p) e x le lx)

-- the order of goals is strict
pub never_first_of_itself : (g : List ℕ) → comes_first g g ≡ false
never_first_of_itself [] = refl
never_first_of_itself (x ∷ g) = rw (le-ltb x x (le_refl x), eq-eqb x x refl) (never_first_of_itself g)

-- of two lists of goals only one comes first
pub never_both_first : (g h : List ℕ) → comes_first g h ≡ true → comes_first h g ≡ false
never_both_first [] h f = absurd (false≢true f)
never_both_first (x ∷ g) [] f = absurd (false≢true f)
never_both_first (x ∷ g) (y ∷ h) f = elim (cases_order x y) [
  | inl e ↦ (let f' : comes_first g h ≡ true = rw (le-ltb x y (omega arith), eq-eqb x y e) at f in
      rw (le-ltb y x (omega arith), eq-eqb y x (sym e)) (never_both_first g h f'))
  | inr o ↦ elim o [
    | inl l ↦ rw (le-ltb y x (omega arith), ne_eqb y x (λ q. omega arith)) refl
    | inr l ↦ absurd (false≢true (rw (le-ltb x y (omega arith), ne_eqb x y (λ q. omega arith)) at f))
  ]
]

-- the lesser first goal decides
first_by_less : (x y : ℕ) (g h : List ℕ) → x < y → comes_first (x ∷ g) (y ∷ h) ≡ true
first_by_less x y g h l = rw (lt-ltb x y l) refl

-- after equal goals the rest decides
first_by_rest : (x y : ℕ) (g h : List ℕ) → x ≡ y → comes_first g h ≡ true → comes_first (x ∷ g) (y ∷ h) ≡ true
first_by_rest x y g h e f = rw (le-ltb x y (omega arith), eq-eqb x y e) f

-- a way from a place through sides to the end of a side, along chords and through the arcs
abbrev pub Way : Drawing → Exit → List ℕ → ℕ → Type 0
Way d a [] z = (z < sides d.polygon) × (other_end (chords d) (spot d a) ≡ spot d (end_of d z))
Way d a (x ∷ w) z = (j : ℕ) × (x < sides d.polygon) × (j < points_on d x) × (other_end (chords d) (spot d a) ≡ spot d (exit x j)) × Way d (entry d (exit x j)) w z

-- having entered through e the way never turns back through the side it came by
abbrev pub NoTurn : Polygon → ℕ → List ℕ → Type 0
NoTurn p e [] = Unit {0}
NoTurn p e (x ∷ w) = (x ≢ e) × NoTurn p (partner p x) w

module _ (d : Drawing) (ok : IsEmbedded d) where
  -- a goal of a way: a point of another side than e, or the end of a side
  record Goal (e x b : ℕ) : Type 0 where
    in_range : x < sides d.polygon
    place : b ≤ points_on d x
    turns : x ≡ e → b ≡ points_on d x

  -- of two ways from one side the one from the later place has the earlier goal
  goal_order : (e a1 a2 x1 x2 b1 b2 : ℕ) → e < sides d.polygon → a2 < a1 → a1 < points_on d e → Goal e x1 b1 → Goal e x2 b2
      → mate d ok (offset d e + a1) ≡ offset d x1 + b1 → mate d ok (offset d e + a2) ≡ offset d x2 + b2
      → (round (sides d.polygon) e x1 < round (sides d.polygon) e x2) ⊎ ((x1 ≡ x2) × (b1 < b2))
  goal_order e a1 a2 x1 x2 b1 b2 le lt lc g h q1 q2 =
      goals_in_order (sides d.polygon) (points_on d) (offset d) (offset_rises d) e a1 a2 x1 x2 b1 b2 (offset d x1 + b1) (offset d x2 + b2) le lt lc
      (record { below = g.in_range; place = g.place; number = refl; turns = g.turns })
      (record { below = h.in_range; place = h.place; number = refl; turns = h.turns })
      (λ q. absurd (let r = sym (mate_twice d ok (offset d e + a1)) ∙ (ap (mate d ok) (q1 ∙ (q ∙ sym q2)) ∙ mate_twice d ok (offset d e + a2)) in omega (arith, r)))
      (subst (λ y. crosses (chord (offset d e + a1) (offset d x1 + b1)) (chord (offset d e + a2) y) ≡ false) q2
      (subst (λ y. crosses (chord (offset d e + a1) y) (chord (offset d e + a2) (mate d ok (offset d e + a2))) ≡ false) q1
      (mates_uncrossed d ok e a1 e a2 le (omega arith) le (omega arith) (λ q. omega arith) far)))
    where
      -- the chord from the later place does not end at the earlier one, which is a point of e
      far : mate d ok (offset d e + a1) ≢ offset d e + a2
      far q =
          let r = spot_apart d x1 b1 e a2 (omega (arith, g.place)) (omega arith) (sym q1 ∙ q) in
          absurd (let w = g.turns r.0 in let v : points_on d x1 ≡ points_on d e = ap (points_on d) r.0 in omega (arith, w, v, r.1))

  -- two ways from one side: the one from the later place comes first
  pub ways_in_order : (e a1 a2 : ℕ) (w1 w2 : List ℕ) (z1 z2 : ℕ) → e < sides d.polygon → a2 < a1 → a1 < points_on d e
      → Way d (exit e a1) w1 z1 → Way d (exit e a2) w2 z2 → NoTurn d.polygon e w1 → NoTurn d.polygon e w2
      → comes_first (goals d.polygon e w1 z1) (goals d.polygon e w2 z2) ≡ true
  ways_in_order e a1 a2 [] [] z1 z2 le lt lc (l1, q1) (l2, q2) t1 t2 =
      let n = sides d.polygon in
      elim (goal_order e a1 a2 z1 z2 (points_on d z1) (points_on d z2) le lt lc (record { in_range = l1; place = le_refl _; turns = λ q. refl }) (record { in_range = l2; place = le_refl _; turns = λ q. refl }) q1 q2) [
        | inl r ↦ first_by_less (goal_end d.polygon e z1) (goal_end d.polygon e z2) [] [] (omega (arith, r, goal_side_is d.polygon e z1 le l1, goal_side_is d.polygon e z2 le l2))
        | inr r ↦ absurd (let v : points_on d z1 ≡ points_on d z2 = ap (points_on d) r.0 in omega (arith, r.1, v))
      ]
  ways_in_order e a1 a2 [] (x ∷ w) z1 z2 le lt lc (l1, q1) (j, l2, lj, q2, rest) t1 t2 =
      elim (goal_order e a1 a2 z1 x (points_on d z1) j le lt lc (record { in_range = l1; place = le_refl _; turns = λ q. refl }) (record { in_range = l2; place = omega arith; turns = λ q. absurd (t2.0 q) }) q1 q2) [
        | inl r ↦ first_by_less (goal_end d.polygon e z1) (goal_side d.polygon e x) [] (goals d.polygon (partner d.polygon x) w z2) (omega (arith, r, goal_side_is d.polygon e z1 le l1, goal_side_is d.polygon e x le l2))
        | inr r ↦ absurd (let v : points_on d z1 ≡ points_on d x = ap (points_on d) r.0 in omega (arith, r.1, v))
      ]
  ways_in_order e a1 a2 (x ∷ w) [] z1 z2 le lt lc (j, l1, lj, q1, rest) (l2, q2) t1 t2 =
      elim (goal_order e a1 a2 x z2 j (points_on d z2) le lt lc (record { in_range = l1; place = omega arith; turns = λ q. absurd (t1.0 q) }) (record { in_range = l2; place = le_refl _; turns = λ q. refl }) q1 q2) [
        | inl r ↦ first_by_less (goal_side d.polygon e x) (goal_end d.polygon e z2) (goals d.polygon (partner d.polygon x) w z1) [] (omega (arith, r, goal_side_is d.polygon e x le l1, goal_side_is d.polygon e z2 le l2))
        | inr r ↦ first_by_less (goal_side d.polygon e x) (goal_end d.polygon e z2) (goals d.polygon (partner d.polygon x) w z1) [] (let v : goal_side d.polygon e x ≡ goal_side d.polygon e z2 = ap (goal_side d.polygon e) r.0 in omega (arith, v))
      ]
  ways_in_order e a1 a2 (x ∷ w) (y ∷ v) z1 z2 le lt lc (j, l1, lj, q1, rest1) (i, l2, li, q2, rest2) t1 t2 =
      elim (goal_order e a1 a2 x y j i le lt lc (record { in_range = l1; place = omega arith; turns = λ q. absurd (t1.0 q) }) (record { in_range = l2; place = omega arith; turns = λ q. absurd (t2.0 q) }) q1 q2) [
        | inl r ↦ first_by_less (goal_side d.polygon e x) (goal_side d.polygon e y) (goals d.polygon (partner d.polygon x) w z1) (goals d.polygon (partner d.polygon y) v z2) (omega (arith, r, goal_side_is d.polygon e x le l1, goal_side_is d.polygon e y le l2))
        | inr r ↦
            (let same : y ≡ x = sym r.0 in
            let li' : i < points_on d x = subst (λ s. i < points_on d s) same li in
            let rest : Way d (entry d (exit x i)) v z2 = subst (λ s. Way d (entry d (exit s i)) v z2) same rest2 in
            let turn : NoTurn d.polygon (partner d.polygon x) v = subst (λ s. NoTurn d.polygon (partner d.polygon s) v) same t2.1 in
            let ih = ways_in_order (partner d.polygon x) (points_on d x - 1 - j) (points_on d x - 1 - i) w v z1 z2 (ok.polygon.pairs.in_range x l1)
            (omega (arith, r.1)) (omega (arith, same_count d ok x)) rest1 rest t1.1 turn in
            first_by_rest (goal_side d.polygon e x) (goal_side d.polygon e y) (goals d.polygon (partner d.polygon x) w z1) (goals d.polygon (partner d.polygon y) v z2) (ap (goal_side d.polygon e) r.0) (subst (λ s. comes_first (goals d.polygon (partner d.polygon x) w z1) (goals d.polygon (partner d.polygon s) v z2) ≡ true) r.0 ih))
      ]

  -- there is one way from a place
  pub one_way : (a : Exit) (w1 w2 : List ℕ) (z1 z2 : ℕ) → Way d a w1 z1 → Way d a w2 z2 → (w1 ≡ w2) × (z1 ≡ z2)
  one_way a [] [] z1 z2 (l1, q1) (l2, q2) = (refl, (spot_apart d z1 (points_on d z1) z2 (points_on d z2) (omega arith) (omega arith) (sym q1 ∙ q2)).0)
  one_way a [] (x ∷ w) z1 z2 (l1, q1) (j, l2, lj, q2, rest) =
      let r = spot_apart d z1 (points_on d z1) x j (omega arith) (omega arith) (sym q1 ∙ q2) in
      absurd (let v : points_on d z1 ≡ points_on d x = ap (points_on d) r.0 in omega (arith, r.1, v))
  one_way a (x ∷ w) [] z1 z2 (j, l1, lj, q1, rest) (l2, q2) =
      let r = spot_apart d z2 (points_on d z2) x j (omega arith) (omega arith) (sym q2 ∙ q1) in
      absurd (let v : points_on d z2 ≡ points_on d x = ap (points_on d) r.0 in omega (arith, r.1, v))
  one_way a (x ∷ w) (y ∷ v) z1 z2 (j, l1, lj, q1, rest1) (i, l2, li, q2, rest2) =
      let r = spot_apart d x j y i (omega arith) (omega arith) (sym q1 ∙ q2) in
      let rest : Way d (entry d (exit x j)) v z2 = subst (λ s. Way d (entry d (exit s j)) v z2) (sym r.0) (subst (λ b. Way d (entry d (exit y b)) v z2) (sym r.1) rest2) in
      let ih = one_way (entry d (exit x j)) w v z1 z2 rest1 rest in
      (let t : x ∷ w ≡ y ∷ v = rw (r.0, ih.0) refl in t, ih.1)

  -- the goals of the point at a place of a side, on the way out through the side
  pub record HasGoals (k j : ℕ) (g : List ℕ) : Type 0 where
    pub word : List ℕ
    pub last : ℕ
    pub way : Way d (exit (partner d.polygon k) (points_on d k - 1 - j)) word last
    pub straight : NoTurn d.polygon (partner d.polygon k) word
    pub are : g ≡ goals d.polygon (partner d.polygon k) word last

  -- goals are in the order of places
  pub goals_by_places : (k j i : ℕ) (g h : List ℕ) → k < sides d.polygon → j < points_on d k → i < points_on d k → HasGoals k j g → HasGoals k i h
      → comes_first g h ≡ ltb j i
  goals_by_places k j i g h lk lj li hg hh = elim (cases_order j i) [
    | inl e ↦
        (let w : Way d (exit (partner d.polygon k) (points_on d k - 1 - j)) hh.word hh.last = subst (λ b. Way d (exit (partner d.polygon k) (points_on d k - 1 - b)) hh.word hh.last) (sym e) hh.way in
        let one = one_way _ hg.word hh.word hg.last hh.last hg.way w in
        let same : g ≡ h = hg.are ∙ (ap (λ u. goals d.polygon (partner d.polygon k) u hg.last) one.0 ∙ (ap (λ z. goals d.polygon (partner d.polygon k) hh.word z) one.1 ∙ sym hh.are)) in
        subst (λ x. comes_first g x ≡ ltb j i) same (never_first_of_itself g ∙ sym (le-ltb j i (omega arith))))
    | inr o ↦ elim o [
      | inl l ↦ first k j i g h lk lj li hg hh l ∙ sym (lt-ltb j i l)
      | inr l ↦ never_both_first h g (first k i j h g lk li lj hh hg l) ∙ sym (le-ltb j i (omega arith))
    ]
  ]
    where
      first : (k j i : ℕ) (g h : List ℕ) → k < sides d.polygon → j < points_on d k → i < points_on d k → HasGoals k j g → HasGoals k i h → j < i → comes_first g h ≡ true
      first k j i g h lk lj li hg hh l =
          let r = ways_in_order (partner d.polygon k) (points_on d k - 1 - j) (points_on d k - 1 - i) hg.word hh.word hg.last hh.last (ok.polygon.pairs.in_range k lk)
          (omega arith) (omega (arith, same_count d ok k)) hg.way hh.way hg.straight hh.straight in
          subst (λ x. comes_first g x ≡ true) (sym hh.are) (subst (λ x. comes_first x (goals d.polygon (partner d.polygon k) hh.word hh.last) ≡ true) (sym hg.are) r)

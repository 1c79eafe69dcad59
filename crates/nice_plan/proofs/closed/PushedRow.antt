-- The fingers of a row in closed form, and what the row leaves.
use Rattle.std.proofs.Common.{◌≡◌, ℕ, suc, ◌+◌, ◌<◌, Bool, true, false, cond, eqb, ltb, ◌&&◌, List, [], ◌∷◌, ◌++◌, map, length, refl, sym, ◌∙◌, ap, subst, arith, ◌⊎◌, inl, inr, ◌≢◌}
use Rattle.std.specs.List.{sum_by}
use Rattle.std.proofs.lemmas.Bool.{cases_eq, cases_lt, eq-eqb, ne_eqb, lt-ltb, le-ltb}
use Rattle.std.proofs.lemmas.List.Sums.{sum_by-cons}
use Rattle.page_surface.specs.Polygon.{Polygon, partner}
use Rattle.obd_base.specs.declared.points.Exit.{Exit}
use Rattle.page_surface.specs.Drawing.{exit, Drawing, points_on}
use Rattle.drawing.specs.declared.finger.Finger.{Finger}
use Rattle.drawing.specs.Fingers.{finger, pushed}
use Rattle.nice_plan.specs.declared.chord_name.ChordName.{ChordName}
use Rattle.nice_plan.specs.Burst.{carried_segment, carried_chord, Row, push_row}
use Rattle.obd_base.specs.Lists.{Mem}
use Rattle.obd_base.proofs.lists.Members.{mem_right}
use Rattle.nice_plan.proofs.closed.Raised.{lift_in, raised, middle_of}
use Rattle.nice_plan.proofs.closed.Points.{pushed_polygon, pushed_strands, points_pushed}
use Rattle.nice_plan.proofs.closed.RowNumbers.{Seg, seg, Standing, standing_after, gained, gained_own}
use Rattle.obd_base.proofs.lists.Maps.{map_same}
use Rattle.finger_move.proofs.GluedTree.{map_map}

-- a name by its two numbers
abbrev pub chord_name : ℕ → ℕ → ChordName
chord_name i c = record { strand = i; chord = c }

-- its number now
abbrev pub now_of : Seg → Exit
now_of x = x.now

-- after a row: a segment that was passed before, and one of this row's
abbrev pub rise : (Exit → Exit → ℕ) → List Seg → Seg → Seg
rise first_lift Q x = seg x.first (exit x.now.side (x.now.place + sum_by (λ y. first_lift y.first x.first) Q))

-- a segment after the fingers of a row
abbrev pub enter : (Exit → Exit → ℕ) → List Seg → Seg → Seg
enter first_lift Q x = seg x.first (exit x.now.side (x.now.place + 1 + sum_by (λ y. first_lift y.first x.first) Q))

-- the segments that are left
abbrev pub segs_left : (Exit → Exit → ℕ) → List Seg → List Seg → List Seg
segs_left first_lift P Q = map (rise first_lift Q) P ++ map (enter first_lift Q) Q

-- the fingers of a row of strand i, from chord c on
abbrev pub fingers_along : (Exit → Exit → ℕ) → ℕ → ℕ → List Seg → List Seg → List Finger
fingers_along first_lift i c before [] = []
fingers_along first_lift i c before (x ∷ Q) =
    finger i c x.now.side (x.now.place + sum_by (λ y. first_lift y.first x.first) before) ∷ fingers_along first_lift i (c + 1) (before ++ (x ∷ [])) Q

-- joined lists mapped
pub map_joined : {A B : Type 0} (f : A → B) (xs ys : List A) → map f (xs ++ ys) ≡ map f xs ++ map f ys
map_joined f [] ys = refl
map_joined f (x ∷ xs) ys = ap (λ w. f x ∷ w) (map_joined f xs ys)

-- lists joined in another grouping
pub append_nested : {A : Type 0} (a b c : List A) → (a ++ b) ++ c ≡ a ++ (b ++ c)
append_nested [] b c = refl
append_nested (x ∷ a) b c = ap (λ w. x ∷ w) (append_nested a b c)

-- sums over segments don't see where they are now
pub sum_first : (h : Exit → ℕ) (f : Seg → Seg) (Q : List Seg) → ((x : Seg) → (f x).first ≡ x.first) → sum_by (λ y. h y.first) (map f Q) ≡ sum_by (λ y. h y.first) Q
sum_first h f [] k = refl
sum_first h f (x ∷ Q) k =
    let a = sum_by-cons (λ (y : Seg). h y.first) (f x) (map f Q) in
    let b = sum_by-cons (λ (y : Seg). h y.first) x Q in
    let r = sum_first h f Q k in
    let e : h (f x).first ≡ h x.first = ap h (k x) in
    omega (arith, a, b, r, e)

module _ (pg : Polygon) (twice : (k : ℕ) → partner pg (partner pg k) ≡ k) (first_lift : Exit → Exit → ℕ) where
  abbrev p : ℕ → ℕ
  p k = partner pg k

  -- segments carried by a finger are raised
  pub carried_is : (d : Drawing) → d.polygon ≡ pg → (f : Finger) (e : Exit) → carried_segment d f e ≡ raised p (points_on d) (exit f.side f.segment) e
  carried_is d same f e = ap (λ (v : Polygon). raised (partner v) (points_on d) (exit f.side f.segment) e) same

  grown_at : (d : Drawing) → d.polygon ≡ pg → (f : Finger) → f.strand < length d.strands → (k : ℕ)
      → points_on (pushed d f) k ≡ points_on d k + (cond (eqb f.side k) 2 0 + cond (eqb (p f.side) k) 2 0)
  grown_at d same f l k = points_pushed d f l (λ j. subst (λ (v : Polygon). partner v (partner v j) ≡ j) (sym same) (twice j)) k
      ∙ ap (λ (v : Polygon). points_on d k + (cond (eqb f.side k) 2 0 + cond (eqb (partner v f.side) k) 2 0)) same

  -- the fingers are those of the segments' numbers now, wherever that is
  along_raised : (t : Exit) (m : ℕ → ℕ) (x : Seg) (i c : ℕ) (before Q : List Seg) → ((y : Seg) → Mem y Q → lift_in p m t y.now ≡ first_lift x.first y.first)
      → fingers_along first_lift i c (map (λ y. seg y.first (raised p m t y.now)) before) (map (λ y. seg y.first (raised p m t y.now)) Q) ≡ fingers_along first_lift i c (x ∷ before) Q
  along_raised t m x i c before [] h = refl
  along_raised t m x i c before (y ∷ Q) h =
      let up : Seg → Seg = λ y. seg y.first (raised p m t y.now) in
      let a = sum_first (λ v. first_lift v y.first) up before (λ v. refl) in
      let b = sum_by-cons (λ (v : Seg). first_lift v.first y.first) x before in
      let g = h y (inl refl) in
      let e : y.now.place + lift_in p m t y.now + sum_by (λ v. first_lift v.first y.first) (map up before) ≡ y.now.place + sum_by (λ v. first_lift v.first y.first) (x ∷ before)
      = omega (arith, a, b, g) in
      ap (λ v. finger i c y.now.side v ∷ fingers_along first_lift i (c + 1) (map up before ++ (up y ∷ [])) (map up Q)) e
      ∙ ap (λ v. finger i c y.now.side (y.now.place + sum_by (λ v. first_lift v.first y.first) (x ∷ before)) ∷ v)
      (ap (λ v. fingers_along first_lift i (c + 1) v (map up Q)) (sym (map_joined up before (y ∷ []))) ∙ along_raised t m x i (c + 1) (before ++ (y ∷ [])) Q (λ v i. h v (inr i)))

  -- what a row does
  pub record Numbered (d : Drawing) (c : ChordName) (count : ℕ) (P Q : List Seg) (row : Row) : Type 0 where
    pub fingers : row.fingers ≡ fingers_along first_lift c.strand c.chord [] Q
    pub between : row.between ≡ map now_of (segs_left first_lift P Q)
    pub standing : Standing p (points_on row.drawing) first_lift (segs_left first_lift P Q)
    pub polygon : row.drawing.polygon ≡ pg
    pub strands : length row.drawing.strands ≡ length d.strands
    pub carry : (e : ChordName) → row.carry e ≡ chord_name e.strand (e.chord + cond (eqb e.strand c.strand && ltb c.chord e.chord) (count + count) 0)

  chord_step : (c e : ChordName) (n : ℕ) (side place : ℕ) → (r : ChordName) → r ≡ carried_chord (finger c.strand c.chord side place) e
      → chord_name r.strand (r.chord + cond (eqb r.strand c.strand && ltb (c.chord + 1) r.chord) (n + n) 0) ≡ chord_name e.strand (e.chord + cond (eqb e.strand c.strand && ltb c.chord e.chord) (suc n + suc n) 0)
  chord_step c e n side place r q = elim (cases_eq e.strand c.strand) [
    | inl same ↦ elim (cases_lt c.chord e.chord) [
      | inl l ↦ (
          let v : r ≡ chord_name e.strand (e.chord + 2) = q ∙ rw (eq-eqb e.strand c.strand same, lt-ltb c.chord e.chord l) refl in
          let a : r.strand ≡ e.strand = ap (λ (w : ChordName). w.strand) v in
          let b : r.chord ≡ e.chord + 2 = ap (λ (w : ChordName). w.chord) v in
          both (a) (let k : cond {A = ℕ} (eqb r.strand c.strand && ltb (c.chord + 1) r.chord) (n + n) 0 ≡ n + n = rw (eq-eqb r.strand c.strand (a ∙ same), lt-ltb (c.chord + 1) r.chord (omega (arith, b, l))) refl in
          let j : cond {A = ℕ} (eqb e.strand c.strand && ltb c.chord e.chord) (suc n + suc n) 0 ≡ suc n + suc n = rw (eq-eqb e.strand c.strand same, lt-ltb c.chord e.chord l) refl in
          omega (arith, k, j, b)))
      | inr l ↦ (
          let v : r ≡ e = q ∙ rw (eq-eqb e.strand c.strand same, le-ltb c.chord e.chord l) refl in
          let a : r.strand ≡ e.strand = ap (λ (w : ChordName). w.strand) v in
          let b : r.chord ≡ e.chord = ap (λ (w : ChordName). w.chord) v in
          both (a) (let k : cond {A = ℕ} (eqb r.strand c.strand && ltb (c.chord + 1) r.chord) (n + n) 0 ≡ 0 = rw (eq-eqb r.strand c.strand (a ∙ same), le-ltb (c.chord + 1) r.chord (omega (arith, b, l))) refl in
          let j : cond {A = ℕ} (eqb e.strand c.strand && ltb c.chord e.chord) (suc n + suc n) 0 ≡ 0 = rw (eq-eqb e.strand c.strand same, le-ltb c.chord e.chord l) refl in
          omega (arith, k, j, b)))
    ]
    | inr other ↦ (
        let v : r ≡ e = q ∙ rw (ne_eqb e.strand c.strand other) refl in
        let a : r.strand ≡ e.strand = ap (λ (w : ChordName). w.strand) v in
        let b : r.chord ≡ e.chord = ap (λ (w : ChordName). w.chord) v in
        both (a) (let k : cond {A = ℕ} (eqb r.strand c.strand && ltb (c.chord + 1) r.chord) (n + n) 0 ≡ 0 = rw (ne_eqb r.strand c.strand (λ w. other (sym a ∙ w))) refl in
        let j : cond {A = ℕ} (eqb e.strand c.strand && ltb c.chord e.chord) (suc n + suc n) 0 ≡ 0 = rw (ne_eqb e.strand c.strand other) refl in
        omega (arith, k, j, b)))
  ]
    where
      both : {x y z w : ℕ} → x ≡ y → z ≡ w → chord_name x z ≡ chord_name y w
      both {x} {y} {z} {w} a b = ap (λ v. chord_name v z) a ∙ ap (λ v. chord_name y v) b

  append_none : {A : Type 0} (xs : List A) → xs ++ [] ≡ xs
  append_none [] = refl
  append_none (x ∷ xs) = ap (λ w. x ∷ w) (append_none xs)

  none_left : (P : List Seg) → segs_left first_lift P [] ≡ P ++ []
  none_left P = ap (λ w. w ++ []) (go P)
    where
      go : (P : List Seg) → map (rise first_lift []) P ≡ P
      go [] = refl
      go (y ∷ P) = ap (λ v. seg y.first (exit y.now.side v) ∷ map (rise first_lift []) P) (let e : y.now.place + 0 ≡ y.now.place = omega arith in e) ∙ ap (λ w. y ∷ w) (go P)

  -- a step of the segments that a row leaves
  left_step : (t : Exit) (m : ℕ → ℕ) (x : Seg) → x.now ≡ t → (P Q : List Seg) → ((y : Seg) → Mem y P ⊎ Mem y Q → lift_in p m t y.now ≡ first_lift x.first y.first) → first_lift x.first x.first ≡ 0
      → segs_left first_lift (map (λ y. seg y.first (raised p m t y.now)) P ++ (seg x.first (middle_of t) ∷ [])) (map (λ y. seg y.first (raised p m t y.now)) Q) ≡ segs_left first_lift P (x ∷ Q)
  left_step t m x at P Q h none =
      let up : Seg → Seg = λ y. seg y.first (raised p m t y.now) in
      let mid = seg x.first (middle_of t) in
      ap (λ w. w ++ map (enter first_lift (map up Q)) (map up Q)) (map_joined (rise first_lift (map up Q)) (map up P) (mid ∷ []))
      ∙ append_nested (map (rise first_lift (map up Q)) (map up P)) (rise first_lift (map up Q) mid ∷ []) (map (enter first_lift (map up Q)) (map up Q))
      ∙ ap (λ w. w ++ (rise first_lift (map up Q) mid ∷ map (enter first_lift (map up Q)) (map up Q)))
      (map_map up (rise first_lift (map up Q)) P ∙ map_same (λ y. rise first_lift (map up Q) (up y)) (rise first_lift (x ∷ Q)) P (λ y i. same_rise y (h y (inl i))))
      ∙ ap (λ w. map (rise first_lift (x ∷ Q)) P ++ (w ∷ map (enter first_lift (map up Q)) (map up Q))) same_mid
      ∙ ap (λ w. map (rise first_lift (x ∷ Q)) P ++ (enter first_lift (x ∷ Q) x ∷ w))
      (map_map up (enter first_lift (map up Q)) Q ∙ map_same (λ y. enter first_lift (map up Q) (up y)) (enter first_lift (x ∷ Q)) Q (λ y i. same_enter y (h y (inr i))))
    where
      up : Seg → Seg
      up y = seg y.first (raised p m t y.now)

      total : (y : Seg) → sum_by (λ v. first_lift v.first y.first) (map up Q) + first_lift x.first y.first ≡ sum_by (λ v. first_lift v.first y.first) (x ∷ Q)
      total y =
          let a = sum_first (λ v. first_lift v y.first) up Q (λ v. refl) in
          let b = sum_by-cons (λ (v : Seg). first_lift v.first y.first) x Q in
          omega (arith, a, b)

      same_rise : (y : Seg) → lift_in p m t y.now ≡ first_lift x.first y.first → rise first_lift (map up Q) (up y) ≡ rise first_lift (x ∷ Q) y
      same_rise y g = ap (λ v. seg y.first (exit y.now.side v))
          (let a = total y in let e : y.now.place + lift_in p m t y.now + sum_by (λ v. first_lift v.first y.first) (map up Q) ≡ y.now.place + sum_by (λ v. first_lift v.first y.first) (x ∷ Q) = omega (arith, a, g) in e)

      same_enter : (y : Seg) → lift_in p m t y.now ≡ first_lift x.first y.first → enter first_lift (map up Q) (up y) ≡ enter first_lift (x ∷ Q) y
      same_enter y g = ap (λ v. seg y.first (exit y.now.side v))
          (let a = total y in let e : y.now.place + lift_in p m t y.now + 1 + sum_by (λ v. first_lift v.first y.first) (map up Q) ≡ y.now.place + 1 + sum_by (λ v. first_lift v.first y.first) (x ∷ Q) = omega (arith, a, g) in e)

      same_mid : rise first_lift (map up Q) (seg x.first (middle_of t)) ≡ enter first_lift (x ∷ Q) x
      same_mid = ap (λ v. seg x.first (exit v.side (v.place + 1 + sum_by (λ v. first_lift v.first x.first) (map up Q)))) (sym at)
          ∙ ap (λ v. seg x.first (exit x.now.side (x.now.place + 1 + v))) (let a = total x in let e : sum_by (λ v. first_lift v.first x.first) (map up Q) ≡ sum_by (λ v. first_lift v.first x.first) (x ∷ Q) = omega (arith, a, none) in e)

  -- a row of fingers: the segments' first numbers tell all
  pub row_done : (Zs : List Seg) (d : Drawing) → d.polygon ≡ pg → (c : ChordName) → c.strand < length d.strands → ((k : ℕ) → points_on d (p k) ≡ points_on d k)
      → (now : Exit → Exit) (P : List Seg) (done : List Exit) → done ≡ map now_of P
      → Standing p (points_on d) first_lift (P ++ map (λ z. seg z.first (now z.now)) Zs)
      → Numbered d c (length Zs) P (map (λ z. seg z.first (now z.now)) Zs) (push_row d c (map now_of Zs) now done)
  row_done [] d same c l level now P done is st = record {
    fingers = refl;
    between = is ∙ ap (map now_of) (sym (none_left P ∙ append_none P));
    standing = subst (λ w. Standing p (points_on d) first_lift w) (sym (none_left P)) st;
    polygon = same;
    strands = refl;
    carry = λ e. ap (λ v. chord_name e.strand v) (go e.chord (eqb e.strand c.strand && ltb c.chord e.chord));
  }
    where
      go : (n : ℕ) (b : Bool) → n ≡ n + cond {A = ℕ} b (0 + 0) 0
      go n true = omega arith
      go n false = omega arith
  row_done (z ∷ Zs) d same c l level now P done is st =
      let t = now z.now in
      let f = finger c.strand c.chord t.side t.place in
      let x = seg z.first t in
      let Q1 = map (λ z. seg z.first (now z.now)) Zs in
      let m = points_on d in
      let n = points_on (pushed d f) in
      let up : Seg → Seg = λ y. seg y.first (raised p m t y.now) in
      let mid = seg x.first (middle_of t) in
      let g = grown_at d same f l in
      let moved : p t.side ≢ t.side = st.moves x (mem_right x P (x ∷ Q1) (inl refl)) in
      let grown : n t.side ≡ m t.side + 2 = let a = g t.side in a ∙ rw (eq-eqb t.side t.side refl, ne_eqb (p t.side) t.side moved) (omega arith) in
      let grown_glued : n (p t.side) ≡ m t.side + 2 = let a = g (p t.side) in a ∙ rw (ne_eqb t.side (p t.side) (λ q. moved (sym q)), eq-eqb (p t.side) (p t.side) refl) (let v = level t.side in omega (arith, v)) in
      let others : (k : ℕ) → k ≢ t.side → k ≢ p t.side → n k ≡ m k = λ k a b. g k ∙ rw (ne_eqb t.side k (λ q. a (sym q)), ne_eqb (p t.side) k (λ q. b (sym q))) (omega arith) in
      let next_done : map (carried_segment d f) done ++ (exit t.side (t.place + 1) ∷ []) ≡ map now_of (map up P ++ (mid ∷ []))
      = ap (λ w. map (carried_segment d f) w ++ (exit t.side (t.place + 1) ∷ [])) is
      ∙ ap (λ w. w ++ (exit t.side (t.place + 1) ∷ [])) (map_map now_of (carried_segment d f) P ∙ map_same (λ y. carried_segment d f y.now) (λ y. raised p m t y.now) P (λ y i. carried_is d same f y.now) ∙ sym (map_map up now_of P))
      ∙ sym (map_joined now_of (map up P) (mid ∷ [])) in
      let later : map (λ z. seg z.first (carried_segment d f (now z.now))) Zs ≡ map up Q1
      = map_same (λ z. seg z.first (carried_segment d f (now z.now))) (λ z. up (seg z.first (now z.now))) Zs (λ y i. ap (λ v. seg y.first v) (carried_is d same f (now y.now)))
      ∙ sym (map_map (λ z. seg z.first (now z.now)) up Zs) in
      let st' = standing_after p m n twice first_lift P x Q1 st grown grown_glued (level t.side) others in
      let rest = row_done Zs (pushed d f) (pushed_polygon d f ∙ same) (chord_name c.strand (c.chord + 1)) (let e = pushed_strands d f in omega (arith, l, e))
      (λ k. level_after d f k g level) (λ e. carried_segment d f (now e)) (map up P ++ (mid ∷ [])) _ next_done
      (subst (λ w. Standing p n first_lift ((map up P ++ (mid ∷ [])) ++ w)) (sym later) (subst (λ w. Standing p n first_lift w) (sym (append_nested (map up P) (mid ∷ []) (map up Q1))) st')) in
      let gain = gained p m n twice first_lift P x Q1 st grown grown_glued (level t.side) others in
      let none = gained_own p m n twice first_lift P x Q1 st grown grown_glued (level t.side) others in
      let shape : segs_left first_lift (map up P ++ (mid ∷ [])) (map (λ z. seg z.first (carried_segment d f (now z.now))) Zs) ≡ segs_left first_lift P (x ∷ Q1)
      = ap (λ w. segs_left first_lift (map up P ++ (mid ∷ [])) w) later ∙ left_step t m x refl P Q1 gain none in
      record {
        fingers = ap (λ w. f ∷ w) (rest.fingers ∙ ap (λ w. fingers_along first_lift c.strand (c.chord + 1) [] w) later ∙ along_raised t m x c.strand (c.chord + 1) [] Q1 (λ y i. gain y (inr i)))
            ∙ ap (λ v. finger c.strand c.chord t.side v ∷ fingers_along first_lift c.strand (c.chord + 1) (x ∷ []) Q1) (let e : t.place ≡ t.place + 0 = omega arith in e);
        between = rest.between ∙ ap (map now_of) shape;
        standing = subst (λ w. Standing p (points_on (push_row d c (map now_of (z ∷ Zs)) now done).drawing) first_lift w) shape rest.standing;
        polygon = rest.polygon;
        strands = rest.strands ∙ pushed_strands d f;
        carry = λ e. rest.carry (carried_chord f e) ∙ chord_step c e (length Zs) t.side t.place (carried_chord f e) refl;
      }
    where
      level_after : (d : Drawing) (f : Finger) (k : ℕ) → ((k : ℕ) → points_on (pushed d f) k ≡ points_on d k + (cond (eqb f.side k) 2 0 + cond (eqb (p f.side) k) 2 0))
          → ((k : ℕ) → points_on d (p k) ≡ points_on d k) → points_on (pushed d f) (p k) ≡ points_on (pushed d f) k
      level_after d f k g level =
          let a = g (p k) in let b = g k in let c = level k in
          let u : cond {A = ℕ} (eqb f.side (p k)) 2 0 ≡ cond (eqb (p f.side) k) 2 0 = ap (λ v. cond {A = ℕ} v 2 0) (flip f.side k) in
          let w : cond {A = ℕ} (eqb (p f.side) (p k)) 2 0 ≡ cond (eqb f.side k) 2 0 = ap (λ v. cond {A = ℕ} v 2 0) (flip (p f.side) k ∙ ap (λ v. eqb v k) (twice f.side)) in
          omega (arith, a, b, c, u, w)
        where
          flip : (a b : ℕ) → eqb a (p b) ≡ eqb (p a) b
          flip a b = elim (cases_eq a (p b)) [
            | inl q ↦ eq-eqb a (p b) q ∙ sym (eq-eqb (p a) b (ap p q ∙ twice b))
            | inr q ↦ ne_eqb a (p b) q ∙ sym (ne_eqb (p a) b (λ r. q (sym (twice a) ∙ ap p r)))
          ]

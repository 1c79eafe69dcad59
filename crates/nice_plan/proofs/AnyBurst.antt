-- A whole burst is legal also where the last piece of its path is one behind a door.
use Rattle.std.proofs.Common.{◌≡◌, ℕ, suc, List, [], ◌∷◌, ◌++◌, map, length, append_assoc, refl, sym, ◌∙◌, ap, subst, ◌⊎◌, inl, inr, ◌≢◌}
use Rattle.obd_base.specs.Lists.{Mem}
use Rattle.obd_base.proofs.lists.Members.{mem_append}
use Rattle.obd_base.specs.declared.points.Exit.{Exit}
use Rattle.page_surface.specs.Drawing.{Chord, Drawing, IsEmbedded, chords}
use Rattle.finger_move.proofs.PushedNext.{next, near, far}
use Rattle.finger_move.proofs.Cycles.{IsCycle}
use Rattle.finger_move.proofs.Spread.{rotate}
use Rattle.nice_plan.specs.declared.chord_name.ChordName.{ChordName}
use Rattle.nice_plan.specs.Burst.{push_row, push_rows}
use Rattle.nice_plan.proofs.Pushing.{Push, SameChords}
use Rattle.nice_plan.proofs.RowLegal.{Stop, Misses, Simple, Way}
use Rattle.nice_plan.proofs.RowEnd.{Avoids, Left, Row, row_fresh, row_made, row_middle, row_simple, row_way}
use Rattle.nice_plan.proofs.RowLast.{Passes, first_part, grown, grown_append, last_entry, mem_first, mem_grown, row_behind_last, row_carry_last, row_entry, row_entry_new}
use Rattle.nice_plan.proofs.PushDoor.{carry_by, row_arranged, row_avoids, row_chords}
use Rattle.nice_plan.proofs.Rows.{Apart, Chain, Clean, Door, Later, LaterRows, Ordered, behind, done, far_by, mem_by, near_by, rows_made, unless_last, usual, apart_by}
use Rattle.nice_plan.proofs.PathSegments.{AllStand, far_all, pairs, segs_apart}
use Rattle.nice_plan.proofs.Tracing.{AllNamed, Finished, finished_append, later_apart, map_id, names_on, rows_carried, rows_final, trace_row, trace_rows}

-- a door in the new numbers; x is the span at the near end of the door before it
abbrev pub grow_door : (ℕ → ℕ) → ℕ → ℕ → ℕ → Door → Door
grow_door k w b x d = record {
  chord = carry_by k d.chord;
  out = d.out;
  left = grown k w b d.left ++ first_part w b (far d.out d.chord);
  right = grown k w b d.right ++ first_part w b x;
  rest = grown k w b d.rest ++ first_part w b (near d.out d.chord);
}

-- the later doors, one after another
abbrev pub grow_doors : (ℕ → ℕ) → ℕ → ℕ → ℕ → List Door → List Door
grow_doors k w b x [] = []
grow_doors k w b x (d ∷ ds) = grow_door k w b x d ∷ grow_doors k w b (near d.out d.chord) ds

-- their chords are carried
pub grown_chords : (k : ℕ → ℕ) (w b x : ℕ) (doors : List Door) → map (λ (y : Door). y.chord) (grow_doors k w b x doors) ≡ map (λ (y : Door). carry_by k y.chord) doors
grown_chords k w b x [] = refl
grown_chords k w b x (d ∷ ds) = ap (λ z. carry_by k d.chord ∷ z) (grown_chords k w b (near d.out d.chord) ds)

grown_outs : (k : ℕ → ℕ) (w b x : ℕ) (doors : List Door) → map (λ (y : Door). y.out) (grow_doors k w b x doors) ≡ map (λ (y : Door). y.out) doors
grown_outs k w b x [] = refl
grown_outs k w b x (d ∷ ds) = ap (λ z. d.out ∷ z) (grown_outs k w b (near d.out d.chord) ds)

length_grown : (k : ℕ → ℕ) (w b x : ℕ) (doors : List Door) → length (grow_doors k w b x doors) ≡ length doors
length_grown k w b x [] = refl
length_grown k w b x (d ∷ ds) = ap suc (length_grown k w b (near d.out d.chord) ds)

unless_grown : (k : ℕ → ℕ) (w b x : ℕ) (ds : List Door) (X Y Z : Type 0) → unless_last ds X → unless_last ds Y → (X → Y → Z) → unless_last (grow_doors k w b x ds) Z
unless_grown k w b x [] X Y Z p q h = tt
unless_grown k w b x (d ∷ ds) X Y Z p q h = h p q

-- the pieces behind the doors but the last aren't entered by the first row, but perhaps by its last finger
abbrev pub EndClean : ℕ → ℕ → List Stop → List Door → Type 0
EndClean t u path [] = Unit {0}
EndClean t u path (d ∷ ds) = unless_last ds ((Mem t (behind d) → ⊥) × Passes u path (behind d)) × EndClean t u path ds

-- the members of the piece behind a door, in the new numbers
behind_grown : (k : ℕ → ℕ) (w b x y : ℕ) (d : Door) → Mem y (behind (grow_door k w b x d)) → Mem y (map k (behind d)) ⊎ (y ≡ b)
behind_grown k w b x y d (inl q) = inl (inl (q ∙ near_by k d.out d.chord))
behind_grown k w b x y d (inr m) = elim (mem_append y (grown k w b d.rest) (first_part w b (near d.out d.chord)) m) [
  | inl i ↦ elim (mem_grown k w b y d.rest i) [ inl j ↦ inl (inr j) | inr e ↦ inr e ]
  | inr i ↦ inr (mem_first w b (near d.out d.chord) y i)
]

avoids_both : (strips : List Stop) (xs ys zs : List ℕ) → ((z : ℕ) → Mem z zs → Mem z xs ⊎ Mem z ys) → Avoids strips xs → Avoids strips ys → Avoids strips zs
avoids_both [] xs ys zs h a b = tt
avoids_both (s ∷ ss) xs ys zs h a b =
    ((λ m. elim (h s.seg m) [ inl i ↦ a.0 i | inr i ↦ b.0 i ]), (λ m. elim (h s.beyond m) [ inl i ↦ a.1 i | inr i ↦ b.1 i ]), avoids_both ss xs ys zs h a.2 b.2)

module _ (d : Door) {t u : ℕ} {es : List Chord} {xs ys : List ℕ} {ss : List Stop} {ds : List Chord} {k : ℕ → ℕ} {m e : ℕ} {strips : List Stop}
    (r : Row t u d.out d.chord es xs ys ss ds k m e strips) where
  abbrev w : ℕ
  w = last_entry u ss

  abbrev b : ℕ
  b = row_entry r

  abbrev grow : ℕ → Door → Door
  grow x g = grow_door k w b x g

  later_grown : (x y : ℕ) (g : Door) (doors : List Door) → Later g doors → Later (grow x g) (grow_doors k w b y doors)
  later_grown x y g [] h = tt
  later_grown x y g (f ∷ doors) h = (
    (λ q. h.0 (same_chord (apart_by r f.chord.from g.chord.from (ap (λ (w : Chord). w.from) q)) (apart_by r f.chord.to g.chord.to (ap (λ (w : Chord). w.to) q)))),
    (λ i. elim (behind_grown k w b y (near g.out (carry_by k g.chord)) f i) [
      | inl j ↦ h.1 (mem_by r (near g.out g.chord) (behind f) (subst (λ z. Mem z (map k (behind f))) (near_by k g.out g.chord) j))
      | inr q ↦ (row_entry_new r).0 (near g.out g.chord) (sym (near_by k g.out g.chord) ∙ q)
    ]),
    later_grown x (near f.out f.chord) g doors h.2,
  )
    where
      same_chord : {a b : Chord} → a.from ≡ b.from → a.to ≡ b.to → a ≡ b
      same_chord {a} {b} p q = ap (λ w. record { from = w; to = a.to }) p ∙ ap (λ w. record { from = b.from; to = w }) q

  ordered_grown : (x : ℕ) (doors : List Door) → Ordered doors → Ordered (grow_doors k w b x doors)
  ordered_grown x [] h = tt
  ordered_grown x (g ∷ doors) h = (later_grown x (near g.out g.chord) g doors h.0, ordered_grown (near g.out g.chord) doors h.1)

  clean_grown : (x : ℕ) (doors : List Door) → Clean m e strips (grow_doors k w b x doors)
  clean_grown x [] = tt
  clean_grown x (g ∷ doors) =
      let a = row_avoids r (behind g) in
      let n = row_entry_new r in
      let out : (z : ℕ) → (Mem z (map k (behind g)) → ⊥) → z ≢ b → Mem z (behind (grow x g)) → ⊥ = λ z p q i. elim (behind_grown k w b x z g i) [ inl j ↦ p j | inr e ↦ q e ] in (
        usual (grow_doors k w b (near g.out g.chord) doors) (Apart m e strips (grow x g))
            (out m a.0 n.1, out e a.1 n.2, avoids_both strips (map k (behind g)) (b ∷ []) (behind (grow x g)) (λ z i. elim (behind_grown k w b x z g i) [ inl j ↦ inl j | inr e ↦ inr (inl e) ]) a.2 n.3),
        subst (λ z. Misses z e strips) (sym (near_by k g.out g.chord)) (row_fresh r (near g.out g.chord)).2,
        clean_grown (near g.out g.chord) doors,
      )

  -- the list of a piece with a door in it, in the new numbers
  divided : (x : ℕ) (g : Door) (q : List ℕ) → q ≡ g.left ++ (far g.out g.chord ∷ g.right)
      → grown k w b q ++ first_part w b x ≡ (grow x g).left ++ (far (grow x g).out (grow x g).chord ∷ (grow x g).right)
  divided x g q h =
      let p = far g.out g.chord in
      ap (λ z. grown k w b z ++ first_part w b x) h
      ∙ (ap (λ z. z ++ first_part w b x) (grown_append k w b g.left (p ∷ g.right))
      ∙ (ap (λ z. (grown k w b g.left ++ (first_part w b p ++ (z ∷ grown k w b g.right))) ++ first_part w b x) (sym (far_by k g.out g.chord))
      ∙ simp append_assoc refl))

  chain_grown : (x : ℕ) (q : List ℕ) (doors : List Door) → Chain (d.chord ∷ es) q doors → EndClean t u ss doors → Later d doors
      → Chain ds (grown k w b q ++ first_part w b x) (grow_doors k w b x doors)
  chain_grown x q [] h a l = tt
  chain_grown x q (g ∷ doors) h a l = (
    divided x g q h.0,
    row_chords r g.chord (elim h.1 [ inl e ↦ absurd (l.0 e) | inr i ↦ i ]),
    unless_grown k w b (near g.out g.chord) doors (IsCycle (next (d.chord ∷ es)) (behind g)) ((Mem t (behind g) → ⊥) × Passes u ss (behind g)) (IsCycle (next ds) (behind (grow x g))) h.2 a.0
        (λ y z. subst (λ v. IsCycle (next ds) (v ∷ (grow x g).rest)) (sym (near_by k g.out g.chord))
        (rotate (next ds) (first_part w b (near g.out g.chord)) (k (near g.out g.chord) ∷ grown k w b g.rest)
        (row_carry_last r (behind g) y z.0 l.1 z.1))),
    chain_grown (near g.out g.chord) g.rest doors h.3 a.1 l.2,
  )

-- what a burst starts from: the first door d, pushed from the chosen piece across t, glued to u; the stops of the path; the later doors. The
-- last piece of the path may be any piece, the base or one behind a door.
pub record OpenPlan (t u : ℕ) (d : Door) (es : List Chord) (xs ys : List ℕ) (path : List Stop) (doors : List Door) : Type 0 where
  pub first : Push t u d.out d.chord es xs ys
  pub way : Way (next (d.chord ∷ es)) u path
  pub apart : Misses t u path × Misses (near d.out d.chord) u path × Simple u path
  pub piece : unless_last doors (IsCycle (next (d.chord ∷ es)) (behind d))
  pub outside : unless_last doors ((Mem t (behind d) → ⊥) × Passes u path (behind d))
  pub chain : Chain (d.chord ∷ es) d.rest doors
  pub ordered : Later d doors × Ordered doors
  pub clean : EndClean t u path doors

-- the fingers of a burst: the first row, and the rows of the later doors
pub record OpenBurst (t u : ℕ) (d : Door) (es : List Chord) (xs ys : List ℕ) (path : List Stop) (doors : List Door) : Type 0 where
  pub left : Left t u d.out d.chord es xs ys path
  pub later : List Door
  pub grows : map (λ (x : Door). x.chord) later ≡ map (λ (x : Door). carry_by left.carried x.chord) doors
  pub outs : map (λ (x : Door). x.out) later ≡ map (λ (x : Door). x.out) doors
  pub ordered : Ordered later
  pub rows : LaterRows left.chords (left.carried (near d.out d.chord)) left.middle left.tip left.strips later

-- all rows can be made
pub open_burst_made : (t u : ℕ) (d : Door) (es : List Chord) (xs ys : List ℕ) (path : List Stop) (doors : List Door)
    → OpenPlan t u d es xs ys path doors → OpenBurst t u d es xs ys path doors
open_burst_made t u d es xs ys path [] p =
    record { left = row_made (length path) t u d.out d.chord es xs ys path refl p.first p.way p.apart.0 p.apart.1 p.apart.2; later = []; grows = refl; outs = refl; ordered = tt; rows = done }
open_burst_made t u d es xs ys path (g ∷ rest) p =
    let l = row_made (length path) t u d.out d.chord es xs ys path refl p.first p.way p.apart.0 p.apart.1 p.apart.2 in
    let r = l.row in
    let x = near d.out d.chord in
    let w = last_entry u path in
    let b = row_entry r in
    let k = l.carried in
    let n = row_entry_new r in
    record {
      left = l;
      later = grow_doors k w b x (g ∷ rest);
      grows = grown_chords k w b x (g ∷ rest);
      outs = grown_outs k w b x (g ∷ rest);
      ordered = ordered_grown d r x (g ∷ rest) p.ordered.1;
      rows = rows_made (length (g ∷ rest)) l.chords (k x) l.middle l.tip (grown k w b d.rest ++ first_part w b x) l.strips (grow_doors k w b x (g ∷ rest))
          (length_grown k w b x (g ∷ rest)) (row_arranged r) (row_way r) (row_simple r) (row_middle r).1
          (row_behind_last r d.rest p.piece p.outside.0 p.outside.1)
          (λ i. elim i [
            | inl z ↦ (row_fresh r x).1 (sym z)
            | inr i ↦ elim i [
              | inl z ↦ (row_middle r).0 (sym z)
              | inr i ↦ elim (mem_append l.tip (grown k w b d.rest) (first_part w b x) i) [
                | inl i ↦ elim (mem_grown k w b l.tip d.rest i) [ inl j ↦ (row_avoids r d.rest).1 j | inr q ↦ n.2 q ]
                | inr i ↦ n.2 (mem_first w b x l.tip i)
              ]
            ]
          ])
          (chain_grown d r x d.rest (g ∷ rest) p.chain p.clean p.ordered.0)
          (ordered_grown d r x (g ∷ rest) p.ordered.1)
          (clean_grown d r x (g ∷ rest));
    }

-- the chords that the burst leaves, and where old numbers stand then
abbrev pub open_final : (t u : ℕ) (d : Door) (es : List Chord) (xs ys : List ℕ) (path : List Stop) (doors : List Door) → OpenPlan t u d es xs ys path doors → List Chord
open_final t u d es xs ys path doors p = rows_final (open_burst_made t u d es xs ys path doors p).rows

-- where old numbers stand then
abbrev pub open_carried : (t u : ℕ) (d : Door) (es : List Chord) (xs ys : List ℕ) (path : List Stop) (doors : List Door) → OpenPlan t u d es xs ys path doors → ℕ → ℕ
open_carried t u d es xs ys path doors p z = let b = open_burst_made t u d es xs ys path doors p in rows_carried b.rows (b.left.carried z)

-- the fingers that the definition lists are legal, one after another, and leave these chords
pub plan_finished : (drawing : Drawing) → IsEmbedded drawing → (t u : ℕ) (d : Door) (es : List Chord) (xs ys : List ℕ) (path : List Stop) (doors : List Door)
    → (p : OpenPlan t u d es xs ys path doors) → SameChords (chords drawing) (d.chord ∷ es)
    → (names : List ChordName) → AllNamed drawing (λ e. e) names (d ∷ doors)
    → (segs : List Exit) → AllStand drawing segs ((t, u) ∷ pairs path)
    → Finished drawing (push_rows drawing names (λ e. e) segs) (open_final t u d es xs ys path doors p) (open_carried t u d es xs ys path doors p)
plan_finished dr ok t u d es xs ys path doors p same [] nm segs st = absurd nm
plan_finished dr ok t u d es xs ys path doors p same (n ∷ ns) nm segs st =
    let burst = open_burst_made t u d es xs ys path doors p in
    let l = burst.left in
    let one = trace_row l.row dr ok n nm.0 same segs (λ e. e) (subst (λ w. AllStand dr w ((t, u) ∷ pairs path)) (sym (map_id segs)) st)
    (segs_apart (next (d.chord ∷ es)) t u path p.way p.apart.0 p.apart.2) [] [] tt (far_all t u path) in
    let fs = push_row dr n segs (λ e. e) [] in
    finished_append dr fs.drawing fs.fingers (push_rows fs.drawing ns (λ e. fs.carry e) fs.between) (rows_final burst.rows) l.carried (rows_carried burst.rows) one.legal one.ends one.gaps_are
    (trace_rows burst.rows fs.drawing one.embedded one.same burst.ordered ns (λ e. fs.carry e)
    (names_on dr fs.drawing (λ e. e) fs.carry l.carried d.chord one.named ns doors burst.later burst.grows (later_apart d doors p.ordered.0) nm.1)
    fs.between one.stand (segs_apart (next l.chords) l.middle l.tip l.strips (row_way l.row) (row_middle l.row).1 (row_simple l.row)))

-- The fingers that the definition of a burst lists are those of rows on chords: so they are legal, one after another.
use Rattle.std.proofs.Common.{◌≡◌, ℕ, suc, ◌+◌, Bool, true, false, List, [], ◌∷◌, ◌++◌, map, length, refl, sym, ◌∙◌, ap, subst, arith, inl, inr, ◌≢◌}
use Rattle.obd_base.specs.Lists.{Mem}
use Rattle.obd_base.specs.declared.points.Exit.{Exit}
use Rattle.page_surface.specs.Drawing.{Chord, Drawing, IsEmbedded, chords, exit}
use Rattle.drawing.specs.declared.finger.Finger.{Finger}
use Rattle.drawing.specs.Fingers.{finger, pushed, replayed}
use Rattle.drawing.specs.Pieces.{gaps}
use Rattle.drawing.proofs.fingers.Shift.{shift, early, shift_new, shift_swap}
use Rattle.drawing.proofs.fingers.Finger.{carry, turn}
use Rattle.finger_move.proofs.Replayed.{legal_append, replayed_append}
use Rattle.nice_plan.specs.declared.chord_name.ChordName.{ChordName}
use Rattle.nice_plan.specs.Burst.{carried_chord, carried_segment, push_row, push_rows}
use Rattle.drawing.specs.Fingers.{AllLegal}
use Rattle.nice_plan.proofs.Pushing.{SameChords, legal}
use Rattle.nice_plan.proofs.RowLegal.{Stop, carry_stop}
use Rattle.nice_plan.proofs.RowEnd.{Row, last, more, row_middle, row_simple, row_way}
use Rattle.nice_plan.proofs.PushDoor.{carry_by}
use Rattle.nice_plan.proofs.Rows.{Door, LaterRows, Later, Ordered, carry_door, done, ordered_after, row}
use Rattle.nice_plan.proofs.Stepping.{IsName, step}
use Rattle.nice_plan.proofs.PathSegments.{Pair, AllStand, pairs, SegsApart, FarFromAll, shift_pair, pairs_shift, segs_shift, all_shift, far_all, segs_apart, stand_append, stand_on, pair_by}
use Rattle.finger_move.proofs.GluedTree.{map_map}

-- what the definition's row leaves, against the row on chords
pub record Traced (d : Drawing) (n : ChordName) (ss : List Exit) (now : Exit → Exit) (before : List Exit) (ps : List Pair) (c : Chord)
    (ds : List Chord) (k : ℕ → ℕ) (m e : ℕ) (strips : List Stop) : Type 0 where
  pub legal : AllLegal d (push_row d n ss now before).fingers
  pub ends : replayed d (push_row d n ss now before).fingers ≡ (push_row d n ss now before).drawing
  pub embedded : IsEmbedded (push_row d n ss now before).drawing
  pub same : SameChords (chords (push_row d n ss now before).drawing) ds
  pub gaps_are : gaps (push_row d n ss now before).drawing ≡ map k (gaps d)
  pub stand : AllStand (push_row d n ss now before).drawing (push_row d n ss now before).between (map (pair_by k) ps ++ ((m, e) ∷ pairs strips))
  pub named : (l : ChordName) (x : Chord) → IsName d l x → x ≢ c → IsName (push_row d n ss now before).drawing ((push_row d n ss now before).carry l) (carry_by k x)

-- a carried chord isn't the turn
not_turn : (t u : ℕ) (out : Bool) (x : Chord) → carry t u x ≢ turn t u out
not_turn t u true x q = (shift_new u t x.from).0 (sym (shift_swap t u x.from) ∙ ap (λ (w : Chord). w.from) q)
not_turn t u false x q = (shift_new u t x.from).1 (sym (shift_swap t u x.from) ∙ ap (λ (w : Chord). w.from) q)

-- the definition's row is the row on chords
pub trace_row : {t u : ℕ} {out : Bool} {c : Chord} {es : List Chord} {xs ys : List ℕ} {stops : List Stop} {ds : List Chord} {k : ℕ → ℕ} {m e : ℕ} {strips : List Stop}
    → Row t u out c es xs ys stops ds k m e strips
    → (d : Drawing) → IsEmbedded d → (n : ChordName) → IsName d n c → SameChords (chords d) (c ∷ es)
    → (ss : List Exit) (now : Exit → Exit) → AllStand d (map now ss) ((t, u) ∷ pairs stops) → SegsApart t u stops
    → (before : List Exit) (ps : List Pair) → AllStand d before ps → FarFromAll t u stops ps
    → Traced d n ss now before ps c ds k m e strips
trace_row (last p) d ok n name same [] now st sa before ps sb fa = absurd st
trace_row (last p) d ok n name same (s ∷ s' ∷ ss) now st sa before ps sb fa = absurd st.1
trace_row (last {t} {u} {out} {c} {es} {xs} {ys} p) d ok n name same (s ∷ []) now st sa before ps sb fa =
    let one = step d ok n c name (now s) t u st.0 es out p.arranged same (legal t u out c es xs ys p) in
    let f = finger n.strand n.chord (now s).side (now s).place in
    record {
      legal = (one.legal, tt);
      ends = refl;
      embedded = one.embedded;
      same = one.same;
      gaps_are = one.gaps_are;
      stand = stand_append (pushed d f) (map (carried_segment d f) before) (exit (now s).side ((now s).place + 1) ∷ []) (map (shift_pair t u) ps) ((suc (early t u), suc (early u t)) ∷ [])
          (stand_on d (pushed d f) (carried_segment d f) t u one.stood before ps sb fa) (one.middle, tt);
      named = one.named;
    }
trace_row (more p r) d ok n name same [] now st sa before ps sb fa = absurd st
trace_row (more {t} {u} {out} {c} {es} {xs} {ys} {s = stop} {ss = stops} {ds} {k} {m} {e} {strips} p r) d ok n name same (s ∷ ss) now st sa before ps sb fa =
    let one = step d ok n c name (now s) t u st.0 es out p.arranged same (legal t u out c es xs ys p) in
    let f = finger n.strand n.chord (now s).side (now s).place in
    let new = pushed d f in
    let mid = exit (now s).side ((now s).place + 1) in
    let later = stand_on d new (carried_segment d f) t u one.stood (map now ss) (pairs (stop ∷ stops)) st.1 sa.0 in
    let later' : AllStand new (map (λ e. carried_segment d f (now e)) ss) ((shift t u stop.seg, shift t u stop.beyond) ∷ pairs (map (carry_stop t u) stops))
    = subst (λ w. AllStand new w ((shift t u stop.seg, shift t u stop.beyond) ∷ pairs (map (carry_stop t u) stops))) (map_map now (carried_segment d f) ss)
    (subst (λ w. AllStand new (map (carried_segment d f) (map now ss)) w) (pairs_shift t u (stop ∷ stops)) later) in
    let ih = trace_row r new one.embedded (record { strand = n.strand; chord = n.chord + 1 }) one.turned one.same ss (λ e. carried_segment d f (now e)) later'
    (segs_shift t u stop.seg stop.beyond stops sa.1)
    (map (carried_segment d f) before ++ (mid ∷ [])) (map (shift_pair t u) ps ++ ((suc (early t u), suc (early u t)) ∷ []))
    (stand_append new (map (carried_segment d f) before) (mid ∷ []) (map (shift_pair t u) ps) _
    (stand_on d new (carried_segment d f) t u one.stood before ps sb fa.0) (one.middle, tt))
    (all_shift t u stop.seg stop.beyond stops ps fa.1) in
    record {
      legal = (one.legal, ih.legal);
      ends = ih.ends;
      embedded = ih.embedded;
      same = ih.same;
      gaps_are = ih.gaps_are ∙ (ap (map k) one.gaps_are ∙ map_map (shift t u) k (gaps d));
      stand = subst (λ w. AllStand (push_row d n (s ∷ ss) now before).drawing (push_row d n (s ∷ ss) now before).between w) (listed t u k ps m e strips) ih.stand;
      named = λ l x w ne. ih.named (carried_chord f l) (carry t u x) (one.named l x w ne) (not_turn t u out x);
    }
  where
    listed : (t u : ℕ) (k : ℕ → ℕ) (ps : List Pair) (m e : ℕ) (strips : List Stop)
        → map (pair_by k) (map (shift_pair t u) ps ++ ((suc (early t u), suc (early u t)) ∷ [])) ++ ((m, e) ∷ pairs strips)
        ≡ map (pair_by (λ z. k (shift t u z))) ps ++ ((k (suc (early t u)), k (suc (early u t))) ∷ (m, e) ∷ pairs strips)
    listed t u k [] m e strips = refl
    listed t u k (p ∷ ps) m e strips = ap (λ w. (k (shift t u p.0), k (shift t u p.1)) ∷ w) (listed t u k ps m e strips)

-- names of chords
abbrev pub AllNamed : Drawing → (ChordName → ChordName) → List ChordName → List Door → Type 0
AllNamed d now [] [] = Unit {0}
AllNamed d now [] (g ∷ gs) = ⊥
AllNamed d now (n ∷ ns) [] = ⊥
AllNamed d now (n ∷ ns) (g ∷ gs) = IsName d (now n) g.chord × AllNamed d now ns gs

-- chords that a row doesn't push keep names
pub names_on : (d new : Drawing) (now : ChordName → ChordName) (g : ChordName → ChordName) (k : ℕ → ℕ) (c : Chord)
    → ((l : ChordName) (x : Chord) → IsName d l x → x ≢ c → IsName new (g l) (carry_by k x))
    → (ns : List ChordName) (doors doors' : List Door) → map (λ (x : Door). x.chord) doors' ≡ map (λ (x : Door). carry_by k x.chord) doors
    → ((x : Door) → Mem x doors → x.chord ≢ c) → AllNamed d now ns doors → AllNamed new (λ e. g (now e)) ns doors'
names_on d new now g k c h [] [] [] q ne a = tt
names_on d new now g k c h [] [] (y ∷ ys) q ne a = absurd (none (ap length q))
  where
    none : suc (length (map (λ (x : Door). x.chord) ys)) ≡ 0 → ⊥
    none e = omega (arith, e)
names_on d new now g k c h [] (x ∷ xs) ys q ne a = absurd a
names_on d new now g k c h (n ∷ ns) [] ys q ne a = absurd a
names_on d new now g k c h (n ∷ ns) (x ∷ xs) [] q ne a = absurd (none (ap length q))
  where
    none : 0 ≡ suc (length (map (λ (x : Door). carry_by k x.chord) xs)) → ⊥
    none e = omega (arith, e)
names_on d new now g k c h (n ∷ ns) (x ∷ xs) (y ∷ ys) q ne a = (
  subst (λ w. IsName new (g (now n)) w) (sym (first y x _ _ q)) (h (now n) x.chord a.0 (ne x (inl refl))),
  names_on d new now g k c h ns xs ys (rest _ _ _ _ q) (λ z m. ne z (inr m)) a.1,
)
  where
    first : (y x : Door) (a b : List Chord) → y.chord ∷ a ≡ carry_by k x.chord ∷ b → y.chord ≡ carry_by k x.chord
    first y x a b q = cc

    rest : (y x : Chord) (a b : List Chord) → y ∷ a ≡ x ∷ b → a ≡ b
    rest y x a b q = cc

-- a later door has another chord
pub later_apart : (d : Door) (doors : List Door) → Later d doors → (x : Door) → Mem x doors → x.chord ≢ d.chord
later_apart d [] h x m = absurd m
later_apart d (g ∷ doors) h x (inl q) = λ e. h.0 (ap (λ (y : Door). y.chord) (sym q) ∙ e)
later_apart d (g ∷ doors) h x (inr m) = later_apart d doors h.2 x m

same_after : (ds es fs : List Chord) → SameChords ds es → SameChords es fs → SameChords ds fs
same_after ds es fs a b = record { into = λ x m. b.into x (a.into x m); from = λ x m. a.from x (b.from x m) }

carried_chords : (k : ℕ → ℕ) (doors : List Door) → map (λ (x : Door). x.chord) (map (carry_door k) doors) ≡ map (λ (x : Door). carry_by k x.chord) doors
carried_chords k [] = refl
carried_chords k (x ∷ xs) = ap (λ w. carry_by k x.chord ∷ w) (carried_chords k xs)

-- the chords that the rows leave
abbrev pub rows_final : {ds : List Chord} {b m e : ℕ} {strips : List Stop} {doors : List Door} → LaterRows ds b m e strips doors → List Chord
rows_final (done {ds}) = ds
rows_final (row s r rs) = rows_final rs

-- where old numbers stand then
abbrev pub rows_carried : {ds : List Chord} {b m e : ℕ} {strips : List Stop} {doors : List Door} → LaterRows ds b m e strips doors → ℕ → ℕ
rows_carried done z = z
rows_carried (row {k = k} s r rs) z = rows_carried rs (k z)

-- what fingers leave, against chords and numbers
pub record Finished (d : Drawing) (fs : List Finger) (final : List Chord) (k : ℕ → ℕ) : Type 0 where
  pub legal : AllLegal d fs
  pub embedded : IsEmbedded (replayed d fs)
  pub same : SameChords (chords (replayed d fs)) final
  pub gaps_are : gaps (replayed d fs) ≡ map k (gaps d)

-- fingers and then others
pub finished_append : (d e : Drawing) (fs gs : List Finger) (final : List Chord) (k l : ℕ → ℕ) → AllLegal d fs → replayed d fs ≡ e → gaps e ≡ map k (gaps d)
    → Finished e gs final l → Finished d (fs ++ gs) final (λ z. l (k z))
finished_append d e fs gs final k l a q g r =
    let same : replayed d (fs ++ gs) ≡ replayed e gs = replayed_append d fs gs ∙ ap (λ x. replayed x gs) q in
    record {
      legal = legal_append d fs gs a (subst (λ x. AllLegal x gs) (sym q) r.legal);
      embedded = subst IsEmbedded (sym same) r.embedded;
      same = subst (λ x. SameChords (chords x) final) (sym same) r.same;
      gaps_are = ap gaps same ∙ (r.gaps_are ∙ (ap (map l) g ∙ map_map k l (gaps d)));
    }

-- a list mapped to itself
pub map_id : {A : Type 0} (xs : List A) → map (λ (e : A). e) xs ≡ xs
map_id [] = refl
map_id (x ∷ xs) = ap (λ w. x ∷ w) (map_id xs)

-- the rows of the later doors
pub trace_rows : {ds : List Chord} {b m e : ℕ} {strips : List Stop} {doors : List Door} → (rows : LaterRows ds b m e strips doors)
    → (d : Drawing) → IsEmbedded d → SameChords (chords d) ds → Ordered doors
    → (ns : List ChordName) (now : ChordName → ChordName) → AllNamed d now ns doors
    → (segs : List Exit) → AllStand d segs ((m, e) ∷ pairs strips) → SegsApart m e strips
    → Finished d (push_rows d ns now segs) (rows_final rows) (rows_carried rows)
trace_rows done d ok same or [] now nm segs st sa = record { legal = tt; embedded = ok; same = same; gaps_are = sym (map_id (gaps d)) }
trace_rows done d ok same or (n ∷ ns) now nm segs st sa = absurd nm
trace_rows (row s r rs) d ok same or [] now nm segs st sa = absurd nm
trace_rows {ds} {b} {m} {e} {strips} (row {d = g} {doors = doors} {es = es} {new = new} {k = k} {m' = m'} {e' = e'} {strips' = strips'} s r rs) d ok same or (n ∷ ns) now nm segs st sa =
    let same' : SameChords (chords d) (g.chord ∷ es) = same_after (chords d) ds (g.chord ∷ es) same s in
    let one = trace_row r d ok (now n) nm.0 same' segs (λ e. e) (subst (λ w. AllStand d w ((m, e) ∷ pairs strips)) (sym (map_id segs)) st) sa [] [] tt (far_all m e strips) in
    let fs = push_row d (now n) segs (λ e. e) [] in
    let next_names = names_on d fs.drawing now fs.carry k g.chord one.named ns doors (map (carry_door k) doors) (carried_chords k doors) (later_apart g doors or.0) nm.1 in
    finished_append d fs.drawing fs.fingers (push_rows fs.drawing ns (λ e. fs.carry (now e)) fs.between) (rows_final rs) k (rows_carried rs) one.legal one.ends one.gaps_are
    (trace_rows rs fs.drawing one.embedded one.same (ordered_after r doors or.1) ns (λ e. fs.carry (now e)) next_names fs.between one.stand
    (segs_apart _ m' e' strips' (row_way r) (row_middle r).1 (row_simple r)))

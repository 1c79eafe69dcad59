-- A whole burst: the sum of badness times label falls by one at least.
use Rattle.std.proofs.Common.{◌≡◌, ℕ, suc, ◌+◌, ◌<◌, ◌≤◌, Bool, true, false, List, [], ◌∷◌, map, length, refl, sym, ◌∙◌, ap, subst, arith, inl, inr, ◌≢◌}
use Rattle.obd_base.specs.Lists.{Mem}
use Rattle.page_surface.specs.Drawing.{Chord}
use Rattle.drawing.proofs.fingers.Arranged.{Arranged}
use Rattle.finger_move.proofs.PushedNext.{next, near}
use Rattle.nice_plan.proofs.Pushing.{SameChords, same_other}
use Rattle.nice_plan.proofs.RowLegal.{Stop, Way, Misses, Simple}
use Rattle.nice_plan.proofs.RowEnd.{Row, last, more, map_twice, row_fresh, row_middle, row_simple, row_way}
use Rattle.nice_plan.proofs.PushDoor.{carry_by, row_arranged}
use Rattle.nice_plan.proofs.Distance.{dist, dist_le, separated_none}
use Rattle.nice_plan.proofs.Ledger.{Piece, total}
use Rattle.nice_plan.proofs.falling.Reordered.{dist_order, cycle_order}
use Rattle.nice_plan.proofs.falling.Tally.{Tally, Sure, tally_order}
use Rattle.nice_plan.proofs.falling.Splits.{SmallBut, Small}
use Rattle.nice_plan.proofs.falling.Stops.{Fits, fits_end}
use Rattle.nice_plan.proofs.falling.RowFalls.{RowDone, row_falls}
use Rattle.obd_base.proofs.lists.Members.{mem_to_map}

-- a chord to be pushed, towards the piece behind its near end
pub record Side : Type 0 where
  pub chord : Chord
  pub out : Bool

-- its near end
abbrev pub near_of : Side → ℕ
near_of d = near d.out d.chord

-- in new numbers
abbrev pub carry_side : (ℕ → ℕ) → Side → Side
carry_side k d = record { chord = carry_by k d.chord; out = d.out }

-- rows of fingers one after another: from the chords ds, the first middle span m, and the strips from tip e on; to the chords `final`, old numbers z at K z
pub data Rows : List Chord → ℕ → ℕ → List Stop → List Side → List Chord → (ℕ → ℕ) → Type 0 where
  no_row : {ds : List Chord} {m e : ℕ} {strips : List Stop} → Rows ds m e strips [] ds (λ z. z)
  one_row : {ds : List Chord} {m e : ℕ} {strips : List Stop} {d : Side} {doors : List Side} {es : List Chord} {xs ys : List ℕ} {new : List Chord} {k : ℕ → ℕ} {m' e' : ℕ} {strips' : List Stop} {final : List Chord} {K : ℕ → ℕ}
      → SameChords ds (d.chord ∷ es) → Row m e d.out d.chord es xs ys strips new k m' e' strips' → 1 ≤ length xs → 1 ≤ length ys
      → Rows new m' e' strips' (map (carry_side k) doors) final K → Rows ds m e strips (d ∷ doors) final (λ z. K (k z))

near_carried : (k : ℕ → ℕ) (d : Side) → near_of (carry_side k d) ≡ k (near_of d)
near_carried k d = go d.out
  where
    go : (out : Bool) → near out (carry_by k d.chord) ≡ k (near out d.chord)
    go true = refl
    go false = refl

-- the pieces behind the doors come nearer one by one, from n down to the base, and are counted
abbrev pub Levels : List Chord → List ℕ → List Piece → ℕ → List Side → Type 0
Levels cs gs ps n [] = n ≡ 0
Levels cs gs ps n (d ∷ ds) = (n ≡ suc (dist cs gs (near_of d))) × Sure ps (near_of d) × Levels cs gs ps (dist cs gs (near_of d)) ds

-- the near ends of later chords lie in no piece of the path
abbrev pub AllMiss : ℕ → List Stop → List Side → Type 0
AllMiss e strips [] = Unit {0}
AllMiss e strips (d ∷ ds) = Misses (near_of d) e strips × AllMiss e strips ds

-- the same with the chords in another order
module _ (cs ds : List Chord) (ok : Arranged cs) (also : Arranged ds) (same : SameChords cs ds) where
  -- a path
  pub way_order : (u : ℕ) (ss : List Stop) → Way (next cs) u ss → Way (next ds) u ss
  way_order u [] w = tt
  way_order u (s ∷ ss) w = (cycle_order cs ds ok also same _ w.0, w.1, way_order s.beyond ss w.2)

  -- what is asked of a path
  pub fits_order : (D b : ℕ) (gs : List ℕ) (ps : List Piece) (u : ℕ) (ss : List Stop) → Fits D b cs gs ps u ss → Fits D b ds gs ps u ss
  fits_order D b gs ps u [] f = f
  fits_order D b gs ps u (s ∷ ss) f = (
    subst (λ n. D ≤ n) (dist_order cs ds ok also same gs u) f.0,
    elim f.1 [
      | inl z ↦ inl z
      | inr k ↦ inr (record {
        post = k.post;
        ends_here = λ q. k.ends_here (same_other cs ds ok also same k.post ∙ q);
        level = sym (dist_order cs ds ok also same gs k.post) ∙ k.level;
        behind = ap suc (sym (dist_order cs ds ok also same gs (suc k.post))) ∙ k.behind;
        place = k.place;
      })
    ],
    fits_order D b gs ps s.beyond ss f.2,
  )

  -- and of the doors
  pub levels_order : (gs : List ℕ) (ps : List Piece) (n : ℕ) (doors : List Side) → Levels cs gs ps n doors → Levels ds gs ps n doors
  levels_order gs ps n [] l = l
  levels_order gs ps n (d ∷ doors) l =
      let e = dist_order cs ds ok also same gs (near_of d) in
      (l.0 ∙ ap suc e, l.1, subst (λ v. Levels ds gs ps v doors) e (levels_order gs ps (dist cs gs (near_of d)) doors l.2))

-- what a row leaves of the doors that are still to come
levels_after : (D : ℕ) {cs : List Chord} {gs : List ℕ} {ps : List Piece} {t x lost most : ℕ} {ds : List Chord} {k : ℕ → ℕ} {m e : ℕ} {strips : List Stop}
    → (a : RowDone D cs gs ps t x lost most ds k m e strips) → (n : ℕ) → n < D → n < dist cs gs t → (doors : List Side) → Levels cs gs ps n doors
    → Levels ds a.gaps a.pieces n (map (carry_side k) doors)
levels_after D a n l high [] h = h
levels_after D {cs} {gs} {ps} {ds = ds} {k = k} a n l high (d ∷ doors) h =
    let q = near_carried k d in
    let low : dist cs gs (near_of d) < D = omega (arith, l, h.0) in
    let e : dist ds a.gaps (near_of (carry_side k d)) ≡ dist cs gs (near_of d) = ap (dist ds a.gaps) q ∙ a.keeps (near_of d) low in (
      h.0 ∙ ap suc (sym e),
      subst (λ v. Sure a.pieces v) (sym q) (a.sure (near_of d) low (λ v. absurd {A = ⊥} (omega (arith, v, high, h.0))) h.1),
      subst (λ v. Levels ds a.gaps a.pieces v (map (carry_side k) doors)) (sym e) (levels_after D a (dist cs gs (near_of d)) low (omega (arith, high, h.0)) doors h.2),
    )

all_miss : {t u : ℕ} {out : Bool} {c : Chord} {es : List Chord} {xs ys : List ℕ} {ss : List Stop} {ds : List Chord} {k : ℕ → ℕ} {m e : ℕ} {strips : List Stop}
    → Row t u out c es xs ys ss ds k m e strips → (doors : List Side) → AllMiss e strips (map (carry_side k) doors)
all_miss r [] = tt
all_miss {k = k} {e = e} {strips = strips} r (d ∷ doors) = (subst (λ v. Misses v e strips) (sym (near_carried k d)) (row_fresh r (near_of d)).2, all_miss r doors)

-- the list of pieces after all rows
pub record BurstDone (D : ℕ) (gs : List ℕ) (most : ℕ) (final : List Chord) (K : ℕ → ℕ) : Type 0 where
  pub gaps : List ℕ
  pub gaps_are : gaps ≡ map K gs
  pub pieces : List Piece
  pub tally : Tally D final gaps pieces
  pub small : Small pieces
  pub falls : total pieces ≤ most
  pub arranged : Arranged final

row_push : {t u : ℕ} {out : Bool} {c : Chord} {es : List Chord} {xs ys : List ℕ} {ss : List Stop} {ds : List Chord} {k : ℕ → ℕ} {m e : ℕ} {strips : List Stop}
    → Row t u out c es xs ys ss ds k m e strips → Arranged (c ∷ es)
row_push (last p) = p.arranged
row_push (more p r) = p.arranged

map_self : (gs : List ℕ) → gs ≡ map (λ z. z) gs
map_self [] = refl
map_self (g ∷ gs) = ap (λ w. g ∷ w) (map_self gs)

small_but : (ps : List Piece) (t : ℕ) → Small ps → SmallBut ps t
small_but ps t s q i k = inl (s q i k)

-- the rows of the later doors: the sum falls by one in each
pub later_fall : (D : ℕ) → 1 ≤ D → {ds : List Chord} {m e : ℕ} {strips : List Stop} {doors : List Side} {final : List Chord} {K : ℕ → ℕ}
    → Rows ds m e strips doors final K → Arranged ds → (gs : List ℕ) (h : ℕ) (some : Mem h gs) (ps : List Piece) → Tally D ds gs ps → Small ps
    → (n : ℕ) → n < D → dist ds gs m ≡ n → Sure ps m → Levels ds gs ps n doors
    → Way (next ds) e strips → Misses m e strips → Simple e strips → AllMiss e strips doors → Fits D 0 ds gs ps e strips
    → (v : ℕ) → total ps ≤ v + n → BurstDone D gs v final K
later_fall D pos no_row ok gs h some ps tally small n l lev sure levels way miss sim all fit v t =
    record { gaps = gs; gaps_are = map_self gs; pieces = ps; tally = tally; small = small; falls = omega (arith, t, levels); arranged = ok }
later_fall D pos (one_row {ds} {m} {e} {strips} {d} {doors} {es} {xs} {ys} {new} {k} same r lx ly rows) ok gs h here ps tally small n l lev sure levels way miss sim all fit v t =
    let cs = d.chord ∷ es in
    let also : Arranged cs = row_push r in
    let x = near_of d in
    let tally' : Tally D cs gs ps = tally_order D ds cs gs ps ok also same tally in
    let lev' : dist cs gs m ≡ n = sym (dist_order ds cs ok also same gs m) ∙ lev in
    let levels' : Levels cs gs ps n (d ∷ doors) = levels_order ds cs ok also same gs ps n (d ∷ doors) levels in
    let found : (q : Piece) × Mem q ps × Mem m q.spans = elim (tally'.covers m) [
      | inl base ↦ (let (g, i, q) = base in absurd (let v : ⊥ = omega (arith, lev', levels'.0, dist_le cs gs m g i, separated_none cs m g q) in v))
      | inr v ↦ v
    ] in
    let p = found.0 in
    let p_label : p.label ≡ n = elim (tally'.labelled p found.1 m found.2) [
      | inl z ↦ absurd (let s = sure p found.1 found.2 in let v : ⊥ = omega (arith, z, s) in v)
      | inr z ↦ z.0 ∙ lev'
    ] in
    let fit' = fits_order ds cs ok also same D 0 gs ps e strips fit in
    let ends = fits_end D 0 cs gs ps e strips fit' in
    let low : dist cs gs x < D = omega (arith, l, levels'.0) in
    let a = row_falls D pos r gs h here ps tally' p found.1 found.2 (dist cs gs x) 0 (omega (arith, pos)) lx ly
    (inl (lev' ∙ levels'.0)) (small_but ps m small)
    (λ q i j z. absurd (let s = levels'.1 q i j in let v : ⊥ = omega (arith, s, z) in v))
    (λ q i j. elim (tally'.labelled q i x j) [ inl z ↦ omega (arith, z) | inr z ↦ omega (arith, z.0) ])
    (way_order ds cs ok also same e strips way) miss all.0 sim fit'
    (λ i. let f = ends p found.1 i in let v : ⊥ = omega (arith, f.0, p_label, levels'.0) in v) in
    let apart : dist cs gs x ≢ dist cs gs m = λ q. absurd {A = ⊥} (omega (arith, q, lev', levels'.0)) in
    let here' : Mem (k h) a.gaps = subst (λ w. Mem (k h) w) (sym a.gaps_are) (mem_to_map k h gs here) in
    let rest = later_fall D pos rows (row_arranged r) a.gaps (k h) here' a.pieces a.tally a.small (dist cs gs x) low (a.middle low) (a.middle_sure low apart levels'.1)
    (levels_after D a (dist cs gs x) low (omega (arith, lev', levels'.0)) doors levels'.2)
    (row_way r) (row_middle r).1 (row_simple r) (all_miss r doors) a.strips_fit v (let f = a.falls in omega (arith, f, t, p_label, levels'.0)) in
    record { gaps = rest.gaps; gaps_are = rest.gaps_are ∙ ap (map _) a.gaps_are ∙ map_twice k _ gs; pieces = rest.pieces; tally = rest.tally; small = rest.small; falls = rest.falls; arranged = rest.arranged }

-- the whole burst: the first row splits a piece at distance D; b bounds the label of the last piece of the path
pub burst_fall : (D : ℕ) → 1 ≤ D → {t u : ℕ} {d : Side} {es : List Chord} {xs ys : List ℕ} {ss : List Stop} {ds : List Chord} {k : ℕ → ℕ} {m e : ℕ} {strips : List Stop} {final : List Chord} {K : ℕ → ℕ} (doors : List Side)
    → Row t u d.out d.chord es xs ys ss ds k m e strips → 1 ≤ length xs → 1 ≤ length ys → Rows ds m e strips (map (carry_side k) doors) final K
    → (gs : List ℕ) (h : ℕ) (some : Mem h gs) (ps : List Piece) → Tally D (d.chord ∷ es) gs ps → Small ps
    → dist (d.chord ∷ es) gs t ≡ D → Sure ps t → Levels (d.chord ∷ es) gs ps D (d ∷ doors)
    → Way (next (d.chord ∷ es)) u ss → Misses t u ss → Misses (near_of d) u ss → Simple u ss
    → (b : ℕ) → b < D → Fits D b (d.chord ∷ es) gs ps u ss
    → (v : ℕ) → total ps ≡ suc v → BurstDone D gs v final (λ z. K (k z))
burst_fall D pos {t} {u} {d} {es} {xs} {ys} {ss} {ds} {k} {m} {e} {strips} {final} {K} doors r lx ly rows gs h here ps tally small lev sure levels way mt mx sim b bd fit v t_is =
    let cs = d.chord ∷ es in
    let x = near_of d in
    let found : (q : Piece) × Mem q ps × Mem t q.spans = elim (tally.covers t) [
      | inl base ↦ (let (g, i, q) = base in absurd (let v : ⊥ = omega (arith, lev, pos, dist_le cs gs t g i, separated_none cs t g q) in v))
      | inr v ↦ v
    ] in
    let p = found.0 in
    let p_label : p.label ≡ D = elim (tally.labelled p found.1 t found.2) [
      | inl z ↦ absurd (let s = sure p found.1 found.2 in let v : ⊥ = omega (arith, z, s) in v)
      | inr z ↦ z.0 ∙ lev
    ] in
    let ends = fits_end D b cs gs ps u ss fit in
    let low : dist cs gs x < D = omega (arith, levels.0) in
    let a = row_falls D pos r gs h here ps tally p found.1 found.2 (dist cs gs x) b bd lx ly
    (inl (lev ∙ levels.0)) (small_but ps t small)
    (λ q i j z. absurd (let s = levels.1 q i j in let v : ⊥ = omega (arith, s, z) in v))
    (λ q i j. elim (tally.labelled q i x j) [ inl z ↦ omega (arith, z) | inr z ↦ omega (arith, z.0) ])
    way mt mx sim fit
    (λ i. let f = ends p found.1 i in let v : ⊥ = omega (arith, f.0, p_label, bd) in v) in
    let apart : dist cs gs x ≢ dist cs gs t = λ q. absurd {A = ⊥} (omega (arith, q, lev, low)) in
    let here' : Mem (k h) a.gaps = subst (λ w. Mem (k h) w) (sym a.gaps_are) (mem_to_map k h gs here) in
    let rest = later_fall D pos rows (row_arranged r) a.gaps (k h) here' a.pieces a.tally a.small (dist cs gs x) low (a.middle low) (a.middle_sure low apart levels.1)
    (levels_after D a (dist cs gs x) low (omega (arith, lev, levels.0)) doors levels.2)
    (row_way r) (row_middle r).1 (row_simple r) (all_miss r doors) a.strips_fit v (let f = a.falls in omega (arith, f, t_is, p_label, levels.0, bd)) in
    record { gaps = rest.gaps; gaps_are = rest.gaps_are ∙ ap (map K) a.gaps_are ∙ map_twice k K gs; pieces = rest.pieces; tally = rest.tally; small = rest.small; falls = rest.falls; arranged = rest.arranged }

-- The weight of a drawing is lower by at least one after a burst.
use Rattle.std.proofs.Common.{◌≡◌, ℕ, suc, ◌+◌, ◌-◌, ◌*◌, ◌<◌, ◌≤◌, Bool, false, not, List, [], ◌∷◌, ◌++◌, map, length, refl, sym, ◌∙◌, ap, subst, arith, ◌⊎◌, inl, inr}
use Rattle.std.proofs.lemmas.Bool.{cases_Bool, false≢true, not-true}
use Rattle.std.proofs.lemmas.List.{length-append}
use native.Mathlib.Nat.{add-mul}
use Rattle.obd_base.specs.Lists.{Mem}
use Rattle.obd_base.proofs.lists.Members.{mem_right}
use Rattle.page_surface.specs.Drawing.{Drawing, Chord, chords}
use Rattle.drawing.specs.Pieces.{same_piece, distance, badness, inner_pieces, pieces, is_base, span_count, gaps}
use Rattle.region_table.specs.Nice.{weight}
use Rattle.drawing.proofs.fingers.Arranged.{Arranged}
use Rattle.finger_move.proofs.PushedNext.{next, near}
use Rattle.obd_base.proofs.lists.Members.{mem_filter}
use Rattle.finger_move.proofs.Cycles.{IsCycle, cycle_size, cycle_length}
use Rattle.nice_plan.proofs.Pushing.{Push, SameChords}
use Rattle.nice_plan.proofs.RowLegal.{Stop, Way, Misses, Simple}
use Rattle.nice_plan.proofs.RowEnd.{Row, last, more}
use Rattle.nice_plan.proofs.Distance.{dist, dist_le, separated_none}
use Rattle.nice_plan.proofs.Weight.{Counts, weight_counted}
use Rattle.nice_plan.proofs.Ledger.{Piece, total}
use Rattle.nice_plan.proofs.falling.Reordered.{dist_order}
use Rattle.nice_plan.proofs.falling.Tally.{Tally, AtBase, Sure, rest_of, tally_order}
use Rattle.nice_plan.proofs.falling.Stops.{Fits, DoorStop}
use Rattle.nice_plan.proofs.falling.BurstFalls.{Side, near_of, carry_side, Rows, Levels, BurstDone, burst_fall}
use Rattle.nice_plan.proofs.falling.Orbit.{cycle_below}
use Rattle.nice_plan.proofs.falling.Start.{Sound, Started, started, at_base}

-- a drawing with the chords that a burst leaves weighs no more than the list's sum
pub weight_after : (e : Drawing) → Sound e → (D : ℕ) (gs : List ℕ) (most : ℕ) (final : List Chord) (K : ℕ → ℕ) → BurstDone D gs most final K
    → SameChords final (chords e) → gaps e ≡ map K gs → weight e ≤ most
weight_after e ok D gs most final K b same named =
    let ps = b.pieces in
    let tally : Tally D (chords e) (gaps e) ps = subst (λ w. Tally D (chords e) w ps) (b.gaps_are ∙ sym named) (tally_order D final (chords e) b.gaps ps b.arranged ok.arranged same b.tally) in
    let f = b.falls in
    let inside : (p : Piece) → Mem p ps → (x : ℕ) → Mem x p.spans → x < span_count e = λ p m x i.
    let away : same_piece (chords e) x ok.framed.top ≡ false = elim (cases_Bool (same_piece (chords e) x ok.framed.top)) [
      | inl q ↦ absurd (let n = tally.inner p m x i in
          let v : ⊥ = omega (arith, n, dist_le (chords e) (gaps e) x ok.framed.top ok.framed.is_gap, separated_none (chords e) x ok.framed.top q) in v)
      | inr q ↦ q
    ] in
    let l = cycle_below (chords e) ok.arranged ok.framed.top ok.framed.ends x away p.spans (tally.cycles p m) i x i in
    let t = ok.framed.within in omega (arith, l, t) in
    let counts : Counts e ps = record {
      cycles = tally.cycles;
      inside = inside;
      bad = λ s m. elim (tally.covers s) [
        | inl base ↦ absurd (false≢true (sym (not-true _ (mem_filter (λ s. not (is_base e s)) s (pieces e) m).1) ∙ at_base e s base))
        | inr w ↦ (let (p, i, n) = w in elim (tally.labelled p i s n) [
          | inl z ↦ inl (let short = b.small p i z in let size = cycle_size (chords e) ok.arranged p.spans (tally.cycles p i) (span_count e) (inside p i) s n in omega (arith, short, size))
          | inr z ↦ inr (p, i, n, omega (arith, z.0))
        ])
      ];
    } in
    omega (arith, f, weight_counted e ok.arranged ps counts)

-- the pieces behind the doors come nearer one by one, down to the base
abbrev pub Nearer : List Chord → List ℕ → ℕ → List Side → Type 0
Nearer cs gs n [] = n ≡ 0
Nearer cs gs n (d ∷ ds) = (n ≡ suc (dist cs gs (near_of d))) × Nearer cs gs (dist cs gs (near_of d)) ds

-- each piece of the path is at distance D at least, and has two spans or keeps its door; the last one is base, or nearer, or has one span
abbrev pub Passes : ℕ → List Chord → List ℕ → ℕ → List Stop → Type 0
Passes D cs gs u [] = AtBase cs gs u ⊎ ((dist cs gs u < D) ⊎ IsCycle (next cs) (u ∷ []))
Passes D cs gs u (s ∷ ss) = (D ≤ dist cs gs u) × (((length s.before ≡ 0) × (length s.after ≡ 0)) ⊎ DoorStop D cs gs u s) × Passes D cs gs s.beyond ss

-- what makes the weight fall: distances of the doors, the path, and the split piece, which is bad, and at the greatest distance of bad pieces
pub record Lowers (d : Drawing) (D t u : ℕ) (door : Side) (es : List Chord) (xs ys : List ℕ) (ss : List Stop) (doors : List Side) : Type 0 where
  pub same : SameChords (chords d) (door.chord ∷ es)
  pub positive : 1 ≤ D
  pub level : dist (door.chord ∷ es) (gaps d) t ≡ D
  pub greatest : (z : ℕ) → Mem z (inner_pieces d) → 0 < badness d z → distance d z ≤ D
  pub front : 1 ≤ length xs
  pub back : 1 ≤ length ys
  pub nearer : Nearer (door.chord ∷ es) (gaps d) D (door ∷ doors)
  pub way : Way (next (door.chord ∷ es)) u ss
  pub apart : Misses t u ss × Misses (near_of door) u ss × Simple u ss
  pub passes : Passes D (door.chord ∷ es) (gaps d) u ss

push_of : {t u : ℕ} {out : Bool} {c : Chord} {es : List Chord} {xs ys : List ℕ} {ss : List Stop} {ds : List Chord} {k : ℕ → ℕ} {m e : ℕ} {strips : List Stop}
    → Row t u out c es xs ys ss ds k m e strips → Push t u out c es xs ys
push_of (last p) = p
push_of (more p r) = p

-- a burst whose doors and path are like that lowers the weight
pub burst_lowers_weight : (d e : Drawing) → Sound d → Sound e → (D : ℕ) → {t u : ℕ} {door : Side} {es : List Chord} {xs ys : List ℕ} {ss : List Stop} {ds : List Chord} {k : ℕ → ℕ} {m n : ℕ} {strips : List Stop} {final : List Chord} {K : ℕ → ℕ} (doors : List Side)
    → Lowers d D t u door es xs ys ss doors
    → Row t u door.out door.chord es xs ys ss ds k m n strips → Rows ds m n strips (map (carry_side k) doors) final K
    → SameChords final (chords e) → gaps e ≡ map (λ z. K (k z)) (gaps d) → suc (weight e) ≤ weight d
burst_lowers_weight d e ok also D {t} {u} {door} {es} {xs} {ys} {ss} {ds} {k} {m} {n} {strips} {final} {K} doors low r rows ends named =
    let cs = door.chord ∷ es in
    let push = push_of r in
    let begun : Started d ok D low.greatest = started d ok D low.greatest in
    let ps = begun.pieces in
    let tally : Tally D cs (gaps d) ps = tally_order D (chords d) cs (gaps d) ps ok.arranged push.arranged low.same begun.tally in
    let top = ok.framed.top in
    let level : (z : ℕ) → dist (chords d) (gaps d) z ≡ dist cs (gaps d) z = dist_order (chords d) cs ok.arranged push.arranged low.same (gaps d) in
    let near_sure : (z : ℕ) → dist cs (gaps d) z < D → Sure ps z = λ z l p i j. elim (begun.rule p i z j) [
      | inl q ↦ absurd (let v : ⊥ = omega (arith, q.2, l, level z) in v)
      | inr q ↦ (let a = tally.inner p i z j in omega (arith, a, q.0, level z))
    ] in
    let found : (q : Piece) × Mem q ps × Mem t q.spans = elim (tally.covers t) [
      | inl base ↦ (let (g, i, q) = base in let a = low.positive in let b = low.level in absurd (let v : ⊥ = omega (arith, a, b, dist_le cs (gaps d) t g i, separated_none cs t g q) in v))
      | inr v ↦ v
    ] in
    let p = found.0 in
    let long : length p.spans ≡ length xs + suc (length ys) = cycle_length cs push.arranged p.spans (xs ++ (t ∷ ys)) (tally.cycles p found.1) push.cycle t found.2 (mem_right t xs (t ∷ ys) (inl refl)) ∙ length-append xs (t ∷ ys) in
    let three : 3 ≤ length p.spans = let a = low.front in let b = low.back in omega (arith, long, a, b) in
    let p_label : p.label ≡ D = elim (begun.rule p found.1 t found.2) [
      | inl q ↦ absurd (let v : ⊥ = omega (arith, q.1, three) in v)
      | inr q ↦ q.0 ∙ level t ∙ low.level
    ] in
    let t_sure : Sure ps t = λ q i j. elim (begun.rule q i t j) [
      | inl v ↦ absurd (let l : length q.spans ≡ length p.spans = cycle_length cs push.arranged q.spans p.spans (tally.cycles q i) (tally.cycles p found.1) t j found.2 in let v : ⊥ = omega (arith, v.1, l, three) in v)
      | inr v ↦ (let a = tally.inner q i t j in omega (arith, a, v.0, level t))
    ] in
    let rest = rest_of ps p found.1 tally.apart in
    let worth : 1 ≤ total ps = let s = rest.sum in let a = low.positive in let g = grows (length p.spans) p.label three (omega (arith, p_label, a)) in omega (arith, s, g) in
    let some : (v : ℕ) × (total ps ≡ suc v) = (total ps - 1, omega (arith, worth)) in
    let done = burst_fall D low.positive doors r low.front low.back rows (gaps d) top ok.framed.is_gap ps tally
    (λ q i z. elim (some_span q i) [
      | inl w ↦ (let (y, j) = w in elim (begun.rule q i y j) [ inl v ↦ v.1 | inr v ↦ absurd (let a = tally.inner q i y j in let v : ⊥ = omega (arith, a, v.0, z, level y) in v) ])
      | inr w ↦ omega (arith, w)
    ])
    low.level t_sure
    (levels ps (λ z l. near_sure z l) D (omega arith) (door ∷ doors) low.nearer)
    low.way low.apart.0 low.apart.1 low.apart.2 (D - 1) (let a = low.positive in omega (arith, a))
    (fits ps tally (λ q i y j. elim (begun.rule q i y j) [
      | inl v ↦ inl (v.0, v.1, omega (arith, v.2, level y))
      | inr v ↦ inr (v.0 ∙ level y, omega (arith, v.1, level y), elim v.2 [ inl w ↦ inl (omega (arith, w, level y)) | inr w ↦ inr w ])
    ]) push.arranged low.positive u ss low.way low.passes)
    some.0 some.1 in
    let a = weight_after e also D (gaps d) some.0 final (λ z. K (k z)) done ends named in
    let b = begun.sum in
    omega (arith, a, b, some.1)
  where
    grows : (n l : ℕ) → 3 ≤ n → 1 ≤ l → 1 ≤ (n - 2) * l
    grows n l a b =
        let e : n - 2 ≡ 1 + (n - 3) = omega (arith, a) in
        let q : (n - 2) * l ≡ (1 + (n - 3)) * l = ap (λ v. v * l) e in
        omega (arith, q, add-mul 1 (n - 3) l, b)

    some_span : (q : Piece) → Mem q (started d ok D low.greatest).pieces → ((y : ℕ) × Mem y q.spans) ⊎ (length q.spans ≡ 0)
    some_span q i = go q.spans
      where
        go : (zs : List ℕ) → ((y : ℕ) × Mem y zs) ⊎ (length zs ≡ 0)
        go [] = inr refl
        go (z ∷ zs) = inl (z, inl refl)

    levels : (ps : List Piece) → ((z : ℕ) → dist (door.chord ∷ es) (gaps d) z < D → Sure ps z) → (n : ℕ) → n ≤ D → (doors : List Side) → Nearer (door.chord ∷ es) (gaps d) n doors → Levels (door.chord ∷ es) (gaps d) ps n doors
    levels ps near n l [] h = h
    levels ps near n l (g ∷ gs) h = (h.0, near (near_of g) (omega (arith, l, h.0)), levels ps near (dist (door.chord ∷ es) (gaps d) (near_of g)) (omega (arith, l, h.0)) gs h.1)

    fits : (ps : List Piece) → Tally D (door.chord ∷ es) (gaps d) ps
        → ((q : Piece) → Mem q ps → (y : ℕ) → Mem y q.spans
        → ((q.label ≡ 0) × (length q.spans ≤ 2) × (D ≤ dist (door.chord ∷ es) (gaps d) y))
        ⊎ ((q.label ≡ dist (door.chord ∷ es) (gaps d) y) × (dist (door.chord ∷ es) (gaps d) y ≤ D) × ((dist (door.chord ∷ es) (gaps d) y < D) ⊎ (2 < length q.spans))))
        → Arranged (door.chord ∷ es) → 1 ≤ D → (u : ℕ) (ss : List Stop) → Way (next (door.chord ∷ es)) u ss → Passes D (door.chord ∷ es) (gaps d) u ss → Fits D (D - 1) (door.chord ∷ es) (gaps d) ps u ss
    fits ps tally rule ar pos u [] w h = λ q i j. elim h [
      | inl base ↦ (let (g, k, e) = base in let a = tally.inner q i u j in absurd (let v : ⊥ = omega (arith, a, dist_le (door.chord ∷ es) (gaps d) u g k, separated_none (door.chord ∷ es) u g e) in v))
      | inr h ↦ elim h [
        | inl l ↦ elim (rule q i u j) [
          | inl v ↦ absurd (let v : ⊥ = omega (arith, v.2, l) in v)
          | inr v ↦ (omega (arith, v.0, l), λ z. absurd (let a = tally.inner q i u j in let v : ⊥ = omega (arith, a, v.0, z) in v))
        ]
        | inr one ↦ (
            let s : length q.spans ≡ 1 = cycle_length (door.chord ∷ es) ar q.spans (u ∷ []) (tally.cycles q i) one u j (inl refl) in (
              elim (rule q i u j) [
                | inl v ↦ omega (arith, v.0)
                | inr v ↦ elim v.2 [ inl l ↦ omega (arith, v.0, l) | inr l ↦ absurd (let v : ⊥ = omega (arith, l, s) in v) ]
              ],
              λ z. omega (arith, s),
            ))
      ]
    ]
    fits ps tally rule ar pos u (s ∷ ss) w h = (
      h.0,
      elim h.1 [
        | inl two ↦ inl (λ q i j. elim (rule q i u j) [
          | inl v ↦ v.0
          | inr v ↦ (
              let size : length q.spans ≡ 2 = cycle_length (door.chord ∷ es) ar q.spans (u ∷ (s.before ++ (s.seg ∷ s.after))) (tally.cycles q i) w.0 u j (inl refl)
              ∙ (let l = length-append s.before (s.seg ∷ s.after) in omega (arith, l, two.0, two.1)) in
              elim v.2 [ inl l ↦ absurd (let v : ⊥ = omega (arith, l, h.0) in v) | inr l ↦ absurd (let v : ⊥ = omega (arith, l, size) in v) ])
        ])
        | inr k ↦ inr k
      ],
      fits ps tally rule ar pos s.beyond ss w.2 h.2,
    )

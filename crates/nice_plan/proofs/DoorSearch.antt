-- The door of a piece, as the definition finds it: a chord behind which lies a piece that is one nearer.
use Rattle.std.proofs.Common.{◌≡◌, ℕ, suc, ◌-◌, ◌<◌, Bool, true, false, eqb, List, [], ◌∷◌, length, refl, sym, ◌∙◌, ap, subst, arith, ◌⊎◌, inl, inr, ◌≢◌}
use Rattle.std.proofs.lemmas.Bool.{eqb-true, eq-eqb, false≢true}
use Rattle.obd_base.specs.Lists.{Mem}
use Rattle.page_surface.specs.Drawing.{Chord, Drawing, IsEmbedded, chords}
use Rattle.drawing.specs.Pieces.{distance, gap, gaps, is_base, piece_of, same_piece, segments_in, span_count}
use Rattle.drawing.specs.Round.{other_end}
use Rattle.drawing.proofs.Laws.{name_comes_first, name_in_piece}
use Rattle.drawing.proofs.SamePiece.{same_piece_refl, same_piece_sym}
use Rattle.finger_move.proofs.Cycles.{Leads, head_or, same_trans}
use Rattle.drawing.proofs.fingers.NewEmbedded.{arranged}
use Rattle.finger_move.proofs.PushedNext.{far, near, next, other_cases, other_twice}
use Rattle.finger_move.proofs.Walk.{next_same}
use Rattle.nice_plan.specs.Path.{before_door, before_door_from}
use Rattle.nice_plan.proofs.Nearer.{door_exists}
use Rattle.nice_plan.proofs.PieceRounds.{base_same, distance_same, far_inner, Round, round_of, segments_same, some_gap}

-- a member at whose end a chord leads to distance e - 1
abbrev Found : Drawing → ℕ → List ℕ → ℕ → Type 0
Found d e xs r = Mem r xs × (distance d (suc r) ≡ e - 1)

-- a search along a circle finds what is there
door_found : (d : Drawing) (e : ℕ) (xs : List ℕ) (z x : ℕ) → Leads (next (chords d)) xs z → Mem x xs → distance d (suc x) ≡ e - 1
    → Mem (before_door_from d e (length xs) (head_or xs z)) xs × (distance d (suc (before_door_from d e (length xs) (head_or xs z))) ≡ e - 1)
door_found d e [] z x l m h = absurd m
door_found d e (y ∷ ys) z x l m h = go (eqb (distance d (suc y)) (e - 1)) refl (λ m. door_found d e ys z x l.1 m h)
  where
    later : eqb (distance d (suc y)) (e - 1) ≡ false → Mem x (y ∷ ys) → Mem x ys
    later q (inl e') = absurd (false≢true (sym q ∙ eq-eqb (distance d (suc y)) (e - 1) (ap (λ w. distance d (suc w)) (sym e') ∙ h)))
    later q (inr i) = i

    go : (b : Bool) → eqb (distance d (suc y)) (e - 1) ≡ b
        → (Mem x ys → Mem (before_door_from d e (length ys) (head_or ys z)) ys × (distance d (suc (before_door_from d e (length ys) (head_or ys z))) ≡ e - 1))
        → Found d e (y ∷ ys) (elim b [ true ↦ y | false ↦ before_door_from d e (length ys) (next (chords d) y) ])
    go true q ih = (inl refl, eqb-true (distance d (suc y)) (e - 1) q)
    go false q ih =
        let r = ih (later q m) in
        subst (λ w. Found d e (y ∷ ys) (before_door_from d e (length ys) w)) (sym l.0) (inr r.0, r.1)

-- the door of the piece of s, at distance e + 1: its chord ends at span b of the piece
pub record DoorAt (d : Drawing) (s e b : ℕ) : Type 0 where
  pub inside : b < span_count d
  pub same : same_piece (chords d) s b ≡ true
  pub nearer : distance d (suc b) ≡ e
  pub chord : Chord
  pub out : Bool
  pub of_drawing : Mem chord (chords d)
  pub here : far out chord ≡ b
  pub there : near out chord ≡ other_end (chords d) b

-- the definition finds one
pub door_at : (d : Drawing) → IsEmbedded d → (s e : ℕ) → s < span_count d → distance d s ≡ suc e → DoorAt d s e (before_door d s)
door_at d ok s e l h = found (other_cases cs b)
  where
    cs : List Chord
    cs = chords d

    p0 : ℕ
    p0 = piece_of d s

    same0 : same_piece cs s p0 ≡ true
    same0 = name_in_piece d s l

    l0 : p0 < span_count d
    l0 = let z = name_comes_first d s s l (same_piece_refl cs s) in omega (arith, z, l)

    inner : is_base d p0 ≡ false
    inner = sym (base_same d s p0 same0) ∙ far_inner d ok s e h

    b : ℕ
    b = before_door d s

    r : Round d ok p0
    r = round_of d ok p0 l0 inner

    both : Mem b (p0 ∷ r.rest) × (distance d (suc b) ≡ e)
    both =
        let (p, border, q) = door_exists cs (arranged d ok) (gaps d) (gap d 0) (some_gap d ok) e s h in
        let pm : Mem p (p0 ∷ r.rest) = r.whole p (same_trans cs p0 s p (same_piece_sym cs s p0 same0) border.side) in
        let z : suc e - 1 ≡ e = omega arith in
        let w : distance d s - 1 ≡ e = ap (λ x. x - 1) h ∙ z in
        let found = door_found d (distance d s) (p0 ∷ r.rest) p0 p r.cycle.leads pm (q ∙ sym w) in
        let n : length (p0 ∷ r.rest) ≡ length (segments_in d s) = r.size ∙ ap length (sym (segments_same d s p0 same0)) in (
          subst (λ k. Mem (before_door_from d (distance d s) k p0) (p0 ∷ r.rest)) n found.0,
          subst (λ k. distance d (suc (before_door_from d (distance d s) k p0)) ≡ e) n (found.1 ∙ w),
        )

    same1 : same_piece cs s b ≡ true
    same1 = same_trans cs s p0 b same0 (r.inside b both.0).1

    found : ((c : Chord) × Mem c cs × (((c.from ≡ b) × (other_end cs b ≡ c.to)) ⊎ ((c.to ≡ b) × (other_end cs b ≡ c.from))))
        ⊎ (((c : Chord) → Mem c cs → (c.from ≢ b) × (c.to ≢ b)) × (other_end cs b ≡ b)) → DoorAt d s e b
    found (inl (c, i, inl q)) = record { inside = (r.inside b both.0).0; same = same1; nearer = both.1; chord = c; out = true; of_drawing = i; here = q.0; there = sym q.1 }
    found (inl (c, i, inr q)) = record { inside = (r.inside b both.0).0; same = same1; nearer = both.1; chord = c; out = false; of_drawing = i; here = q.0; there = sym q.1 }
    found (inr q) =
        let st : same_piece cs b (suc b) ≡ true = subst (λ x. same_piece cs b (suc x) ≡ true) q.1 (next_same cs (arranged d ok) b) in
        absurd (let x = distance_same d s b same1 in let y = distance_same d b (suc b) st in let w : ⊥ = omega (arith, x, y, h, both.1) in w)

-- on the near side of the door lies the piece behind
pub behind_door : (d : Drawing) (ok : IsEmbedded d) (s e b : ℕ) (g : DoorAt d s e b) → same_piece (chords d) (near g.out g.chord) (suc b) ≡ true
behind_door d ok s e b g =
    let cs = chords d in
    let n = next_same cs (arranged d ok) (near g.out g.chord) in
    let q : other_end cs (near g.out g.chord) ≡ b = ap (other_end cs) g.there ∙ other_twice cs (arranged d ok) b in
    subst (λ x. same_piece cs (near g.out g.chord) (suc x) ≡ true) q n

-- and behind it the piece itself
pub before_door_again : (d : Drawing) (ok : IsEmbedded d) (s e b : ℕ) (g : DoorAt d s e b) → same_piece (chords d) b (suc (near g.out g.chord)) ≡ true
before_door_again d ok s e b g = subst (λ x. same_piece (chords d) b (suc x) ≡ true) (sym g.there) (next_same (chords d) (arranged d ok) b)

-- The name that the definition of a burst gives to the chord at a number is a name of it.
use Rattle.std.proofs.Common.{◌≡◌, ℕ, zero, suc, ◌+◌, ◌<◌, Bool, true, false, cond, eqb, ◌||◌, List, [], ◌∷◌, map, length, get_or, refl, sym, ◌∙◌, ap, subst, arith, zero-add, ◌⊎◌, inl, inr}
use Rattle.std.specs.List.{enumerate_from}
use Rattle.std.proofs.lemmas.Bool.{eq-eqb, eqb-true, false≢true, or_cases, or_left, or_right}
use Rattle.obd_base.specs.Lists.{Mem, below}
use Rattle.obd_base.proofs.lists.Below.{mem_below}
use Rattle.obd_base.proofs.lists.Members.{mem_map}
use Rattle.page_surface.specs.Drawing.{Chord, Drawing, IsEmbedded, chords, end_of, strand_chords, strand_exits}
use Rattle.page_surface.specs.Polygon.{arc_count, first_side, second_side}
use Rattle.drawing.proofs.Lists.{flat_mem, mem_flat, mem_to_map}
use Rattle.drawing.proofs.fingers.Arranged.{arranged_clear}
use Rattle.drawing.proofs.fingers.NewChords.{length_cut, no_chord}
use Rattle.drawing.proofs.fingers.NewEmbedded.{arranged}
use Rattle.finger_move.proofs.PushedNext.{far}
use Rattle.nice_plan.specs.Burst.{Named, chord_ending, named_chords}
use Rattle.nice_plan.proofs.Rows.{Door}
use Rattle.nice_plan.proofs.Stepping.{IsName}
use Rattle.nice_plan.proofs.Tracing.{AllNamed}

-- the members of a numbered list
enum_mem : (a : ℕ) (xs : List Chord) (e : ℕ × Chord) → Mem e (enumerate_from a xs) → (k : ℕ) × (k < length xs) × (e.0 ≡ a + k) × (e.1 ≡ get_or xs k no_chord)
enum_mem a [] e m = absurd m
enum_mem a (x ∷ xs) e (inl q) = (zero, omega arith, ap (λ (w : ℕ × Chord). w.0) q ∙ omega arith, ap (λ (w : ℕ × Chord). w.1) q)
enum_mem a (x ∷ xs) e (inr m) = let (k, l, p, q) = enum_mem (a + 1) xs e m in (suc k, omega (arith, l), omega (arith, p), q)

mem_enum : (a : ℕ) (xs : List Chord) (c : Chord) → Mem c xs → (k : ℕ) × Mem (k, c) (enumerate_from a xs)
mem_enum a [] c m = absurd m
mem_enum a (x ∷ xs) c (inl q) = (a, inl (ap (λ w. (a, w)) q))
mem_enum a (x ∷ xs) c (inr m) = let (k, i) = mem_enum (a + 1) xs c m in (k, inr i)

-- a chord and one of its ends
abbrev pub IsEnd : Chord → ℕ → Type 0
IsEnd c x = (c.from ≡ x) ⊎ (c.to ≡ x)

end_test : (c : Chord) (x : ℕ) → IsEnd c x → (eqb c.from x || eqb c.to x) ≡ true
end_test c x (inl q) = or_left _ _ (eq-eqb c.from x q)
end_test c x (inr q) = or_right _ _ (eq-eqb c.to x q)

-- the entry that is found has the end
pub found : (es : List Named) (x : ℕ) (e : Named) → Mem e es → IsEnd e.ends x → (f : Named) × Mem f es × IsEnd f.ends x × (chord_ending es x ≡ f.name)
found [] x e m h = absurd m
found (y ∷ es) x e m h = go (eqb y.ends.from x || eqb y.ends.to x) refl (λ m. found es x e m h)
  where
    go : (b : Bool) → (eqb y.ends.from x || eqb y.ends.to x) ≡ b → (Mem e es → (f : Named) × Mem f es × IsEnd f.ends x × (chord_ending es x ≡ f.name))
        → (f : Named) × Mem f (y ∷ es) × IsEnd f.ends x × (cond b y.name (chord_ending es x) ≡ f.name)
    go true q ih = (y, inl refl, elim (or_cases (eqb y.ends.from x) (eqb y.ends.to x) q) [ inl p ↦ inl (eqb-true _ _ p) | inr p ↦ inr (eqb-true _ _ p) ], refl)
    go false q ih = elim m [
      | inl p ↦ absurd (false≢true (sym q ∙ end_test y.ends x (subst (λ w. IsEnd w x) (ap (λ (w : Named). w.ends) p) h)))
      | inr i ↦ (let (f, j, k, r) = ih i in (f, inr j, k, r))
    ]

module _ (d : Drawing) (ok : IsEmbedded d) where
  -- each entry is a chord with a name of it
  pub entry_named : (e : Named) → Mem e (named_chords d) → IsName d e.name e.ends × Mem e.ends (chords d)
  entry_named e m =
      let (i, j, n) = flat_mem (λ i. map (λ (e : ℕ × Chord). record { name = record { strand = i; chord = e.0 }; ends = e.1 }) (enumerate_from 0 (strand_chords d i))) (below (arc_count d.polygon)) e m in
      let (p, k, q) = mem_map (λ (e : ℕ × Chord). record { name = record { strand = i; chord = e.0 }; ends = e.1 }) e (enumerate_from 0 (strand_chords d i)) n in
      let (c, l, r, s) = enum_mem 0 (strand_chords d i) p k in
      let z : p.0 ≡ c = r ∙ zero-add c in
      let len = length_cut d (end_of d (second_side d.polygon i)) (end_of d (first_side d.polygon i)) (strand_exits d i) in
      let here : get_or (strand_chords d i) p.0 no_chord ≡ p.1 = ap (λ w. get_or (strand_chords d i) w no_chord) z ∙ sym s in
      subst (λ (w : Named). IsName d w.name w.ends × Mem w.ends (chords d)) (sym q) (
        record { strand = mem_below _ i j; chord = omega (arith, l, z, len); is = here },
        mem_flat (strand_chords d) (below (arc_count d.polygon)) i p.1 j (subst (λ w. Mem w (strand_chords d i)) (sym s) (get_in (strand_chords d i) c l)),
      )
    where
      get_in : (xs : List Chord) (k : ℕ) → k < length xs → Mem (get_or xs k no_chord) xs
      get_in [] k l = absurd (let w : ⊥ = omega (arith, l) in w)
      get_in (x ∷ xs) zero l = inl refl
      get_in (x ∷ xs) (suc k) l = inr (get_in xs k (omega (arith, l)))

  -- each chord has an entry
  chord_entry : (c : Chord) → Mem c (chords d) → (e : Named) × Mem e (named_chords d) × (e.ends ≡ c)
  chord_entry c m =
      let (i, j, n) = flat_mem (strand_chords d) (below (arc_count d.polygon)) c m in
      let (k, p) = mem_enum 0 (strand_chords d i) c n in (
        record { name = record { strand = i; chord = k }; ends = c },
        mem_flat (λ i. map (λ (e : ℕ × Chord). record { name = record { strand = i; chord = e.0 }; ends = e.1 }) (enumerate_from 0 (strand_chords d i))) (below (arc_count d.polygon)) i _ j
            (mem_to_map (λ (e : ℕ × Chord). record { name = record { strand = i; chord = e.0 }; ends = e.1 }) (k, c) (enumerate_from 0 (strand_chords d i)) p),
        refl,
      )

  -- chords with a common end are one
  pub same_end : (c e : Chord) (x : ℕ) → Mem c (chords d) → Mem e (chords d) → IsEnd c x → IsEnd e x → e ≡ c
  same_end c e x i j p q = elim (arranged_clear (chords d) (arranged d ok) c e i j) [
    | inl r ↦ r
    | inr r ↦ absurd (elim p [
      | inl a ↦ elim q [ inl b ↦ r.apart.0 (b ∙ sym a) | inr b ↦ r.apart.2 (b ∙ sym a) ]
      | inr a ↦ elim q [ inl b ↦ r.apart.1 (b ∙ sym a) | inr b ↦ r.apart.3 (b ∙ sym a) ]
    ])
  ]

  -- the name of the chord that ends at a number
  pub ending_named : (c : Chord) (out : Bool) → Mem c (chords d) → IsName d (chord_ending (named_chords d) (far out c)) c
  ending_named c out m =
      let x = far out c in
      let (e, i, q) = chord_entry c m in
      let (f, j, k, r) = found (named_chords d) x e i (subst (λ w. IsEnd w x) (sym q) (own out)) in
      let n = entry_named f j in
      let same : f.ends ≡ c = same_end c f.ends x m n.1 (own out) k in
      subst (λ w. IsName d w c) (sym r) (subst (λ w. IsName d f.name w) same n.0)
    where
      own : (out : Bool) → IsEnd c (far out c)
      own true = inl refl
      own false = inr refl

  -- of all doors
  pub doors_named : (spans : List ℕ) (doors : List Door) → ((g : Door) → Mem g doors → Mem g.chord (chords d))
      → map (λ (g : Door). far g.out g.chord) doors ≡ spans → AllNamed d (λ e. e) (map (chord_ending (named_chords d)) spans) doors
  doors_named spans doors h q = subst (λ w. AllNamed d (λ e. e) (map (chord_ending (named_chords d)) w) doors) q (go doors h)
    where
      go : (doors : List Door) → ((g : Door) → Mem g doors → Mem g.chord (chords d)) → AllNamed d (λ e. e) (map (chord_ending (named_chords d)) (map (λ (g : Door). far g.out g.chord) doors)) doors
      go [] h = tt
      go (g ∷ gs) h = (ending_named g.chord g.out (h g (inl refl)), go gs (λ e m. h e (inr m)))

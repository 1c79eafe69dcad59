-- Distances by two sweeps: from right to left each piece passes its label on to the piece before it.
-- right each piece takes one from the piece before it.
use Rattle.std.proofs.Common.{◌≡◌, ℕ, suc, ◌<◌, ◌≤◌, true, false, min, sym, ◌∙◌, ap, subst, arith, inl, inr, ◌≢◌}
use Rattle.std.proofs.lemmas.Bool.{cases_Bool, cases_eq, cases_lt, false≢true}
use Rattle.obd_base.specs.Lists.{Mem}
use Rattle.page_surface.specs.Drawing.{Chord, Drawing, IsEmbedded, chords}
use Rattle.drawing.specs.Pieces.{is_base, same_piece, span_count}
use Rattle.region_table.specs.Naming.{IsNaming}
use Rattle.drawing.proofs.Diagram.{mate}
use Rattle.drawing.proofs.Mates.{Joins}
use Rattle.region_table.proofs.Doors.{chord_or_gap}
use Rattle.region_table.proofs.Labels.{spans_at}
use Rattle.region_table.proofs.NumberSweep.{after_lesser}

-- the label of one name lowered to one above that of another, where it was greater
pub record IsLowered (old new : ℕ → ℕ) (at by : ℕ) : Type 0 where
  pub here : new at ≡ min (old at) (suc (old by))
  pub others : (p : ℕ) → p ≢ at → new p ≡ old p

-- a chord's lesser end
abbrev pub IsLesser : (d : Drawing) → IsEmbedded d → ℕ → Type 0
IsLesser d ok z = (z < span_count d) × (z < mate d ok z)

module _ (d : Drawing) (ok : IsEmbedded d) (name : ℕ → ℕ) (naming : IsNaming d name) (top : ℕ) where
  -- the chord there
  pub chord_there : (z : ℕ) → IsLesser d ok z → (c : Chord) × Mem c (chords d) × Joins c z (mate d ok z)
  chord_there z o = elim (chord_or_gap d ok z o.0) [
    | inl w ↦ (let (k, e, stays) = w in absurd (omega (arith, stays, o.1)))
    | inr w ↦ (let (c, m, join, ne) = w in (c, m, join))
  ]

  -- the span after it
  pub after_in : (z : ℕ) → IsLesser d ok z → suc z < span_count d
  after_in z o = let (c, m, join) = chord_there z o in (spans_at d ok c z (mate d ok z) m join).1

  -- begins a piece, so no span up to it has that name
  pub first_after : (z x : ℕ) → IsLesser d ok z → x < suc z → name x ≢ name (suc z)
  first_after z x o l e =
      let none = after_lesser d ok z o.1 o.0 x l in
      let h = naming.apart (suc z) x (after_in z o) (omega (arith, o.0)) (sym e) in
      absurd (false≢true (sym none ∙ h))

  -- and no other piece
  pub one_before : (z x : ℕ) → IsLesser d ok z → IsLesser d ok x → name (suc z) ≡ name (suc x) → z ≡ x
  one_before z x o q e = elim (cases_lt z x) [
    | inl l ↦ absurd (first_after x (suc z) q (omega arith) e)
    | inr l ↦ elim (cases_eq z x) [ inl s ↦ s | inr ne ↦ absurd (first_after z (suc x) o (omega arith) (sym e)) ]
  ]

  -- what lowering keeps
  pub lower_or_same : (old new : ℕ → ℕ) (at by p : ℕ) → IsLowered old new at by → new p ≤ old p
  lower_or_same old new at by p w = elim (cases_eq p at) [
    | inl e ↦ (let h : new p ≡ min (old p) (suc (old by)) = subst (λ q. new q ≡ min (old q) (suc (old by))) (sym e) w.here in omega (arith, h))
    | inr ne ↦ omega (arith, w.others p ne)
  ]

  -- a label 0 was 0
  pub zero_before : (old new : ℕ → ℕ) (at by p : ℕ) → IsLowered old new at by → new p ≡ 0 → old p ≡ 0
  zero_before old new at by p w z = elim (cases_eq p at) [
    | inl e ↦ (let h : new p ≡ min (old p) (suc (old by)) = subst (λ q. new q ≡ min (old q) (suc (old by))) (sym e) w.here in omega (arith, h))
    | inr ne ↦ omega (arith, w.others p ne)
  ]

  -- labels 0 are those of base pieces
  pub record TellBase (label : ℕ → ℕ) : Type 0 where
    pub base_zero : (s : ℕ) → s < span_count d → is_base d s ≡ true → label (name s) ≡ 0
    pub zero_base : (s : ℕ) → s < span_count d → label (name s) ≡ 0 → is_base d s ≡ true

  -- and the labels of base pieces
  pub base_lowered : (old new : ℕ → ℕ) (at by : ℕ) → IsLowered old new at by → TellBase old → TellBase new
  base_lowered old new at by w b = record {
    base_zero = λ s l h. omega (arith, lower_or_same old new at by (name s) w, b.base_zero s l h);
    zero_base = λ s l z. b.zero_base s l (zero_before old new at by (name s) w z);
  }

  -- a piece of a later number that passed its label on
  pub record FromLater (label : ℕ → ℕ) (x s e : ℕ) : Type 0 where
    pub at : ℕ
    pub late : x ≤ at
    pub lesser : IsLesser d ok at
    pub same : same_piece (chords d) s at ≡ true
    pub lower : label (name (suc at)) ≡ e

  -- the sweep from right to left, at a number: those from it on are done
  pub record IsFalling (label : ℕ → ℕ) (x : ℕ) : Type 0 where
    pub base : TellBase label
    pub passed : (z : ℕ) → x ≤ z → IsLesser d ok z → label (name z) ≤ suc (label (name (suc z)))
    pub from : (s e : ℕ) → s < span_count d → suc e < top → label (name s) ≡ suc e → FromLater label x s e

  -- it begins with 0 for base pieces and the bound for the others
  pub fall_start : (label : ℕ → ℕ) → 0 < top → ((s : ℕ) → s < span_count d → is_base d s ≡ true → label (name s) ≡ 0)
      → ((s : ℕ) → s < span_count d → is_base d s ≡ false → label (name s) ≡ top) → IsFalling label (span_count d)
  fall_start label high zeros tops = record {
    base = record {
      base_zero = zeros;
      zero_base = λ s l z. elim (cases_Bool (is_base d s)) [ inl h ↦ h | inr h ↦ absurd (omega (arith, tops s l h)) ];
    };
    passed = λ z l o. absurd (omega (arith, o.0));
    from = λ s e l k q. elim (cases_Bool (is_base d s)) [ inl h ↦ absurd (omega (arith, zeros s l h)) | inr h ↦ absurd (omega (arith, tops s l h)) ];
  }

  -- a number that is no lesser end changes nothing
  pub fall_past : (label : ℕ → ℕ) (x : ℕ) → mate d ok x ≤ x → IsFalling label (suc x) → IsFalling label x
  fall_past label x down f = record {
    base = f.base;
    passed = λ z l o. elim (cases_eq z x) [ inl e ↦ absurd (let q : z < mate d ok z = o.1 in let m : mate d ok z ≡ mate d ok x = ap (mate d ok) e in omega (arith, m)) | inr ne ↦ f.passed z (omega arith) o ];
    from = λ s e l k q. let w = f.from s e l k q in record { at = w.at; late = omega (arith, w.late); lesser = w.lesser; same = w.same; lower = w.lower };
  }

  -- at a lesser end the piece before it takes the label of the piece after it, and one more, where that is less
  pub fall_on : (old new : ℕ → ℕ) (x : ℕ) → IsLesser d ok x → IsLowered old new (name x) (name (suc x)) → IsFalling old (suc x) → IsFalling new x
  fall_on old new x o w f = record {
    base = base_lowered old new (name x) (name (suc x)) w f.base;
    passed = λ z l q. elim (cases_eq z x) [
      | inl e ↦ subst (λ y. new (name y) ≤ suc (new (name (suc y)))) (sym e) (omega (arith, w.here, kept x o (omega arith)))
      | inr ne ↦ omega (arith, lower_or_same old new (name x) (name (suc x)) (name z) w, f.passed z (omega arith) q, kept z q (omega arith))
    ];
    from = λ s e l k q. elim (cases_eq (name s) (name x)) [
      | inr ne ↦ carry s e (f.from s e l k (sym (w.others (name s) ne) ∙ q))
      | inl same ↦
          let h : new (name s) ≡ min (old (name s)) (suc (old (name (suc x)))) = subst (λ p. new p ≡ min (old p) (suc (old (name (suc x))))) (sym same) w.here in
          elim (cases_lt (old (name (suc x))) (old (name s))) [
            | inl low ↦ elim (cases_eq (suc (old (name (suc x)))) (old (name s))) [
              | inl met ↦ carry s e (f.from s e l k (omega arith))
              | inr ne ↦ record { at = x; late = omega arith; lesser = o; same = naming.apart s x l o.0 same; lower = omega (arith, kept x o (omega arith)) }
            ]
            | inr high ↦ carry s e (f.from s e l k (omega arith))
          ]
    ];
  }
    where
      -- a piece that begins after x or later keeps its label
      kept : (z : ℕ) → IsLesser d ok z → x ≤ z → new (name (suc z)) ≡ old (name (suc z))
      kept z q l = w.others (name (suc z)) (λ e. first_after z x q (omega arith) (sym e))

      carry : (s e : ℕ) → FromLater old (suc x) s e → FromLater new x s e
      carry s e r = record { at = r.at; late = omega (arith, r.late); lesser = r.lesser; same = r.same; lower = kept r.at r.lesser (omega (arith, r.late)) ∙ r.lower }

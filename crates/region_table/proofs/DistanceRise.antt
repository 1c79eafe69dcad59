-- Distances by two sweeps: then from left to right each piece takes a label from the piece before it, and the labels are the distances.
-- right each piece takes one from the piece before it.
use Rattle.std.proofs.Common.{◌≡◌, ℕ, suc, ◌<◌, ◌≤◌, true, min, length, sym, ◌∙◌, ap, subst, arith, ◌⊎◌, inl, inr, ◌≢◌}
use Rattle.std.proofs.lemmas.Bool.{cases_eq, cases_lt}
use Rattle.obd_base.specs.Lists.{Mem}
use Rattle.page_surface.specs.Drawing.{Chord, Drawing, IsEmbedded, chords}
use Rattle.drawing.specs.Pieces.{distance, same_piece, span_count}
use Rattle.drawing.proofs.SamePiece.{same_piece_sym}
use Rattle.region_table.specs.Naming.{IsNaming}
use Rattle.drawing.proofs.Diagram.{at_most_one_end, mate}
use Rattle.drawing.proofs.Mates.{Joins, other_joins}
use Rattle.drawing.proofs.Orbits.{same_then}
use Rattle.region_table.proofs.Doors.{apart, chord_or_gap, over, turned}
use Rattle.region_table.proofs.Labels.{IsLevel, StepsDown, label_is_distance, spans_at}
use Rattle.region_table.proofs.DistanceFall.{FromLater, IsFalling, IsLesser, IsLowered, TellBase, after_in, base_lowered, chord_there, first_after, lower_or_same, one_before}

module _ (d : Drawing) (ok : IsEmbedded d) (name : ℕ → ℕ) (naming : IsNaming d name) (top : ℕ) where
  -- a piece before a lesser end, already passed, from which the label was taken
  pub record FromBefore (label : ℕ → ℕ) (x s e : ℕ) : Type 0 where
    pub at : ℕ
    pub early : at < x
    pub lesser : IsLesser d ok at
    pub same : same_piece (chords d) s (suc at) ≡ true
    pub lower : label (name at) ≡ e

  -- the sweep from left to right, at a number: those before it are done
  pub record IsRising (label : ℕ → ℕ) (x : ℕ) : Type 0 where
    pub base : TellBase d ok name naming top label
    pub passed : (z : ℕ) → IsLesser d ok z → label (name z) ≤ suc (label (name (suc z)))
    pub taken : (z : ℕ) → z < x → IsLesser d ok z → label (name (suc z)) ≤ suc (label (name z))
    pub from : (s e : ℕ) → s < span_count d → suc e < top → label (name s) ≡ suc e → FromLater d ok name naming top label 0 s e ⊎ FromBefore label x s e

  -- it begins where the other ends
  pub rise_start : (label : ℕ → ℕ) → IsFalling d ok name naming top label 0 → IsRising label 0
  rise_start label f = record {
    base = f.base;
    passed = λ z o. f.passed z (omega arith) o;
    taken = λ z l o. absurd (omega arith);
    from = λ s e l k q. inl (f.from s e l k q);
  }

  -- a number that is no lesser end changes nothing
  pub rise_past : (label : ℕ → ℕ) (x : ℕ) → mate d ok x ≤ x → IsRising label x → IsRising label (suc x)
  rise_past label x down f = record {
    base = f.base;
    passed = f.passed;
    taken = λ z l o. elim (cases_eq z x) [ inl e ↦ absurd (let q : z < mate d ok z = o.1 in let m : mate d ok z ≡ mate d ok x = ap (mate d ok) e in omega (arith, m)) | inr ne ↦ f.taken z (omega arith) o ];
    from = λ s e l k q. elim (f.from s e l k q) [
      | inl w ↦ inl w
      | inr w ↦ inr (record { at = w.at; early = omega (arith, w.early); lesser = w.lesser; same = w.same; lower = w.lower })
    ];
  }

  -- at a lesser end the piece after it takes the label of the piece before it, and one more, where that is less
  pub rise_on : (old new : ℕ → ℕ) (x : ℕ) → IsLesser d ok x → IsLowered old new (name (suc x)) (name x) → IsRising old x → IsRising new (suc x)
  rise_on old new x o w f = record {
    base = base_lowered d ok name naming top old new (name (suc x)) (name x) w f.base;
    passed = λ z q. elim (cases_eq (name (suc z)) (name (suc x))) [
      | inl e ↦
          let s = one_before d ok name naming top z x q o e in
          subst (λ y. new (name y) ≤ suc (new (name (suc y)))) (sym s) (omega (arith, w.here, before_kept x (omega arith), f.passed x o))
      | inr ne ↦ omega (arith, lower_or_same d ok name naming top old new (name (suc x)) (name x) (name z) w, f.passed z q, w.others (name (suc z)) ne)
    ];
    taken = λ z l q. elim (cases_eq z x) [
      | inl e ↦ subst (λ y. new (name (suc y)) ≤ suc (new (name y))) (sym e) (omega (arith, w.here, before_kept x (omega arith)))
      | inr ne ↦ omega (arith, lower_or_same d ok name naming top old new (name (suc x)) (name x) (name (suc z)) w, f.taken z (omega arith) q, before_kept z (omega arith))
    ];
    from = λ s e l k q. elim (cases_eq (name s) (name (suc x))) [
      | inl same ↦
          let h : new (name s) ≡ min (old (name s)) (suc (old (name x))) = subst (λ p. new p ≡ min (old p) (suc (old (name x)))) (sym same) w.here in
          let b = before_kept x (omega arith) in
          elim (cases_lt (suc (old (name x))) (old (name s))) [
            | inl low ↦ inr (record { at = x; early = omega arith; lesser = o; same = naming.apart s (suc x) l (after_in d ok name naming top x o) same; lower = omega arith })
            | inr high ↦ carry s e l same q (f.from s e l k (omega arith)) high
          ]
      | inr ne ↦ other s e l ne q (f.from s e l k (sym (w.others (name s) ne) ∙ q))
    ];
  }
    where
      -- a piece that has a span up to x keeps its label
      before_kept : (z : ℕ) → z < suc x → new (name z) ≡ old (name z)
      before_kept z l = w.others (name z) (first_after d ok name naming top x z o l)

      -- where nothing is lowered
      unchanged : old (name (suc x)) ≤ suc (old (name x)) → (p : ℕ) → new p ≡ old p
      unchanged high p = elim (cases_eq p (name (suc x))) [
        | inl e ↦ subst (λ r. new r ≡ old r) (sym e) (omega (arith, w.here))
        | inr ne ↦ w.others p ne
      ]

      carry : (s e : ℕ) → s < span_count d → name s ≡ name (suc x) → new (name s) ≡ suc e → FromLater d ok name naming top old 0 s e ⊎ FromBefore old x s e
          → old (name s) ≤ suc (old (name x)) → FromLater d ok name naming top new 0 s e ⊎ FromBefore new (suc x) s e
      carry s e l same q r high =
          let low : old (name (suc x)) ≤ suc (old (name x)) = subst (λ p. old p ≤ suc (old (name x))) same high in
          elim r [
            | inl v ↦ inl (record { at = v.at; late = v.late; lesser = v.lesser; same = v.same; lower = unchanged low _ ∙ v.lower })
            | inr v ↦ inr (record { at = v.at; early = omega (arith, v.early); lesser = v.lesser; same = v.same; lower = unchanged low _ ∙ v.lower })
          ]

      other : (s e : ℕ) → s < span_count d → name s ≢ name (suc x) → new (name s) ≡ suc e → FromLater d ok name naming top old 0 s e ⊎ FromBefore old x s e
          → FromLater d ok name naming top new 0 s e ⊎ FromBefore new (suc x) s e
      other s e l ne q r = elim r [
        | inr v ↦ inr (record { at = v.at; early = omega (arith, v.early); lesser = v.lesser; same = v.same; lower = before_kept v.at (omega (arith, v.early)) ∙ v.lower })
        | inl v ↦ elim (cases_eq (name (suc v.at)) (name (suc x))) [
          | inr apart ↦ inl (record { at = v.at; late = v.late; lesser = v.lesser; same = v.same; lower = w.others _ apart ∙ v.lower })
          | inl e2 ↦
              let is : v.at ≡ x = one_before d ok name naming top v.at x v.lesser o e2 in
              let at_x : name s ≡ name x = naming.together s v.at l v.lesser.0 v.same ∙ ap name is in
              let was : old (name (suc x)) ≡ e = ap old (sym e2) ∙ v.lower in
              let now : old (name x) ≡ suc e = ap old (sym at_x) ∙ (sym (w.others (name s) ne) ∙ q) in
              inl (record { at = v.at; late = v.late; lesser = v.lesser; same = v.same; lower = unchanged (omega arith) _ ∙ v.lower })
        ]
      ]

  -- at the end the labels are the distances
  pub risen : (label : ℕ → ℕ) → length (chords d) < top → IsRising label (span_count d) → (s : ℕ) → s < span_count d → label (name s) ≡ distance d s
  risen label high f s l = label_is_distance d ok (λ t. label (name t)) level top high f.base.zero_base steps s l
    where
      -- a chord joins a lesser end to a greater one
      either : (c : Chord) (x y : ℕ) → Mem c (chords d) → Joins c x y → IsLesser d ok x ⊎ IsLesser d ok y
      either c x y m join = elim (chord_or_gap d ok x (spans_at d ok c x y m join).0) [
        | inl w ↦ let (k, e, stays) = w in absurd (apart_there c x y m join stays)
        | inr w ↦
            let (c2, m2, join2, ne) = w in
            let is : mate d ok x ≡ y = mate_is c x y m join in
            elim (cases_lt x y) [
              | inl q ↦ inl ((spans_at d ok c x y m join).0, omega (arith, is))
              | inr q ↦ inr ((spans_at d ok c y x m (turned c x y join)).0, let back : mate d ok y ≡ x = mate_is c y x m (turned c x y join) in omega (arith, is, back, ne))
            ]
      ]
        where
          mate_is : (c : Chord) (x y : ℕ) → Mem c (chords d) → Joins c x y → mate d ok x ≡ y
          mate_is c x y m join = other_joins (chords d) (at_most_one_end d ok) c x y m join

          apart_there : (c : Chord) (x y : ℕ) → Mem c (chords d) → Joins c x y → mate d ok x ≡ x → ⊥
          apart_there c x y m join stays = apart d ok c x y m join (sym (mate_is c x y m join) ∙ stays)

      level : IsLevel d ok (λ t. label (name t))
      level = record {
        together = λ s t ls lt h. ap label (naming.together s t ls lt h);
        base_zero = f.base.base_zero;
        near = λ c x y m join.
            let at = spans_at d ok c x y m join in
            let far = spans_at d ok c y x m (turned c x y join) in
            elim (either c x y m join) [
              | inl o ↦ omega (arith, f.passed x o)
              | inr o ↦
                  let a : label (name x) ≡ label (name (suc y)) = ap label (naming.together x (suc y) at.0 far.1 (over d ok c x y m join)) in
                  let b : label (name y) ≡ label (name (suc x)) = ap label (naming.together y (suc x) far.0 at.1 (over d ok c y x m (turned c x y join))) in
                  omega (arith, f.taken y (omega (arith, o.0)) o, a, b)
            ];
      }

      steps : (s e : ℕ) → s < span_count d → suc e < top → label (name s) ≡ suc e → StepsDown d ok (λ t. label (name t)) s e
      steps s e l k q = elim (f.from s e l k q) [
        | inl v ↦
            let (c, m, join) = chord_there d ok name naming top v.at v.lesser in
            record { span = v.at; chord = c; far_end = mate d ok v.at; chord_of = m; ends = join; same = v.same; lower = v.lower }
        | inr v ↦
            let (c, m, join) = chord_there d ok name naming top v.at v.lesser in
            let y = mate d ok v.at in
            let back = turned c v.at y join in
            let far = spans_at d ok c y v.at m back in
            record {
              span = y;
              chord = c;
              far_end = v.at;
              chord_of = m;
              ends = back;
              same = same_then (chords d) s (suc v.at) y v.same (same_piece_sym (chords d) y (suc v.at) (over d ok c y v.at m back));
              lower = ap label (sym (naming.together v.at (suc y) v.lesser.0 far.1 (over d ok c v.at y m join))) ∙ v.lower;
            }
      ]

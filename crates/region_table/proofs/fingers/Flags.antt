-- Which pieces are base after a finger: those of old names that were, but for the piece that the finger enters.
use Rattle.std.proofs.Common.{◌≡◌, ◌≢◌, ℕ, ◌<◌, Bool, eqb, List, [], ◌∷◌, map, refl, sym, ◌∙◌, ap, arith, inl, inr}
use Rattle.std.specs.List.{list_any}
use Rattle.std.proofs.lemmas.Bool.{cases_Bool, cases_eq, ne_eqb}
use Rattle.obd_base.specs.Lists.{Mem, below}
use Rattle.obd_base.proofs.lists.Below.{mem_below}
use Rattle.page_surface.specs.Polygon.{sides}
use Rattle.page_surface.specs.Drawing.{Chord, Drawing, IsEmbedded}
use Rattle.drawing.specs.Pieces.{gap, span_count}
use Rattle.drawing.proofs.fingers.Shift.{shift}
use Rattle.region_table.specs.Counted.{has_gap}
use Rattle.region_table.specs.FingerLists.{IsNamedByFinger, comes_in_front}
use Rattle.region_table.proofs.NamingLaws.{gap_inside}
use Rattle.region_table.proofs.fingers.Next.{near}
use Rattle.region_table.proofs.fingers.Pushed.{IsPushed}

-- tests that agree on what two functions give for the members of a list
any_alike : (p q : ℕ → Bool) (f g : ℕ → ℕ) (xs : List ℕ) → ((x : ℕ) → Mem x xs → p (f x) ≡ q (g x)) → list_any p (map f xs) ≡ list_any q (map g xs)
any_alike p q f g [] h = refl
any_alike p q f g (x ∷ xs) h = rw (h x (inl refl), any_alike p q f g xs (λ y m. h y (inr m))) refl

module _ (d e : Drawing) (ok : IsEmbedded d) (t u : ℕ) (out : Bool) (c : Chord) (es : List Chord) (push : IsPushed d e t u out c es)
    (name name_after : ℕ → ℕ) (count : ℕ) (made : IsNamedByFinger (span_count d) t u (near out c) count (comes_in_front c.from t) name name_after)
    (p : ℕ) (old : p < count) (other : p ≢ name t) where
  -- an entry of the piece that is split has another name
  elsewhere : (s : ℕ) → s < span_count d → name s ≡ name t → name_after (shift t u s) ≢ p
  elsewhere s l q = elim (cases_Bool (comes_in_front c.from t s)) [
    | inl f ↦ λ r. other (sym r ∙ made.in_first s l q f)
    | inr f ↦ λ r. absurd (omega (arith, old, r, made.in_second s l q f))
  ]

  -- a gap has the name where it had it
  gap_named : (k : ℕ) → k < sides d.polygon → eqb (name_after (gap e k)) p ≡ eqb (name (gap d k)) p
  gap_named k lk =
      let l = gap_inside d ok k lk in
      ap (λ s. eqb (name_after s) p) (push.gaps k lk) ∙ elim (cases_eq (name (gap d k)) (name t)) [
        | inl q ↦ ne_eqb (name_after (shift t u (gap d k))) p (elsewhere (gap d k) l q) ∙ sym (ne_eqb (name (gap d k)) p (λ r. other (sym r ∙ q)))
        | inr ne ↦ ap (λ n. eqb n p) (made.others (gap d k) l ne)
      ]

  -- so the piece is base where it was
  pub flag_stays : has_gap e name_after p ≡ has_gap d name p
  flag_stays =
      ap (λ n. list_any (λ g. eqb (name_after g) p) (map (gap e) (below n))) (ap sides push.polygon)
      ∙ any_alike (λ g. eqb (name_after g) p) (λ g. eqb (name g) p) (gap e) (gap d) (below (sides d.polygon)) (λ k m. gap_named k (mem_below (sides d.polygon) k m))

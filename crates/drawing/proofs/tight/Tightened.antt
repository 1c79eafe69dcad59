-- Turn by turn an embedded drawing becomes tight; so the tight drawing of its reduced words is embedded.
use Rattle.std.proofs.Common.{◌≡◌, ℕ, zero, suc, ◌<◌, ◌≤◌, Bool, true, false, eqb, List, [], ◌∷◌, map, length, get_or, refl, sym, ◌∙◌, ap, subst, arith, le_refl, ◌⊎◌, inl, inr}
use Rattle.std.proofs.lemmas.Bool.{cases_lt, cases_eq, eqb-true}
use Rattle.std.proofs.lemmas.List.{get_or_past}
use Rattle.std.proofs.lemmas.Simd.{map-map}
use Rattle.obd_base.proofs.lists.Below.{mem_below}
use Rattle.obd_base.proofs.lists.Sums.{by_entries}
use Rattle.obd_base.specs.Lists.{below}
use Rattle.obd_base.specs.declared.points.Exit.{Exit}
use Rattle.page_surface.proofs.WordLaws.{Free, HasNoPair-free, Steps-join, one_reduced_form}
use Rattle.page_surface.specs.Drawing.{Drawing, all_exits, strand_exits, words, IsEmbedded}
use Rattle.page_surface.specs.Polygon.{Polygon, partner, arc_count}
use Rattle.page_surface.specs.Words.{Step, Steps, none, more, HasNoPair, reduced}
use Rattle.drawing.specs.Tight.{tight_drawing, IsTight}
use Rattle.drawing.specs.Turns.{IsTurn, without_turn, TurnsOut, no_more, one_more, Loosened}
use Rattle.obd_base.proofs.lists.Maps.{map_same}
use Rattle.drawing.proofs.tight.StrandWays.{letters}
use Rattle.drawing.proofs.tight.TightPlaces.{is_tight_drawing}
use Rattle.drawing.proofs.tight.TurnFound.{turn_found}
use Rattle.drawing.proofs.tight.TurnRemoved.{turn_removed, word_steps, other_words, exits_fewer}

-- a word is free, or a step is possible in it
pub free_or_step : (p : Polygon) (w : List ℕ) → Free p w ⊎ ((v : List ℕ) × Step p w v)
free_or_step p [] = inl tt
free_or_step p (s ∷ w) = elim (free_or_step p w) [
  | inr r ↦ (let (v, st) = r in let (a, b, k, e, f) = st in inr (s ∷ v, (s ∷ a, b, k, ap (λ x. s ∷ x) e, ap (λ x. s ∷ x) f)))
  | inl h ↦ here w h
]
  where
    here : (w : List ℕ) → Free p w → Free p (s ∷ w) ⊎ ((v : List ℕ) × Step p (s ∷ w) v)
    here [] h = inl (tt, tt)
    here (t ∷ w) h = go (eqb (partner p s) t) refl
      where
        go : (b : Bool) → eqb (partner p s) t ≡ b → Free p (s ∷ t ∷ w) ⊎ ((v : List ℕ) × Step p (s ∷ t ∷ w) v)
        go true e = inr (w, ([], w, s, ap (λ x. s ∷ x ∷ w) (sym (eqb-true (partner p s) t e)), refl))
        go false e = inl (e, h)

-- the first words are free, or a step is possible in one of them
free_or_some_step : (d : Drawing) (n : ℕ) → ((i : ℕ) → i < n → Free d.polygon (letters (strand_exits d i))) ⊎ ((i : ℕ) × (i < n) × (v : List ℕ) × Step d.polygon (letters (strand_exits d i)) v)
free_or_some_step d zero = inl (λ i l. absurd (omega arith))
free_or_some_step d (suc n) = elim (free_or_some_step d n) [
  | inr r ↦ (let (i, l, v, s) = r in inr (i, omega arith, v, s))
  | inl h ↦ elim (free_or_step d.polygon (letters (strand_exits d n))) [
    | inr r ↦ (let (v, s) = r in inr (n, omega arith, v, s))
    | inl f ↦ inl (λ i l. elim (cases_eq i n) [ inl e ↦ subst (λ i. Free d.polygon (letters (strand_exits d i))) (sym e) f | inr ne ↦ h i (omega arith) ])
  ]
]

-- a drawing whose words are free is tight
tight_from_free : (d : Drawing) → IsEmbedded d → ((i : ℕ) → i < arc_count d.polygon → Free d.polygon (letters (strand_exits d i))) → IsTight d
tight_from_free d ok h i = elim (cases_lt i (arc_count d.polygon)) [
  | inl l ↦ HasNoPair-free d.polygon (letters (strand_exits d i)) (h i l)
  | inr l ↦
      let e : strand_exits d i ≡ [] = get_or_past d.strands i [] (omega (arith, l, ok.strand_count)) in
      subst (λ es. HasNoPair d.polygon (letters es)) (sym e) (HasNoPair-free d.polygon [] tt)
]

-- nothing is taken out
pub loosened_same : (d : Drawing) → IsEmbedded d → Loosened d d
loosened_same d ok = record { embedded = ok; polygon = refl; steps = λ i l. none }

-- what is loosened twice is loosened
pub loosened_then : (d e f : Drawing) → Loosened d e → Loosened e f → Loosened d f
loosened_then d e f r s = record {
  embedded = s.embedded;
  polygon = s.polygon ∙ r.polygon;
  steps = λ i l. Steps-join d.polygon (r.steps i l)
      (subst (λ p. i < arc_count p → Steps p (letters (strand_exits e i)) (letters (strand_exits f i))) r.polygon (s.steps i) l);
}

-- a turn is taken out
pub loosened_turn : (d : Drawing) (ok : IsEmbedded d) (j : ℕ) (us : List Exit) (u v : Exit) (vs : List Exit) → IsTurn d j us u v vs → Loosened d (without_turn d j us u v vs)
loosened_turn d ok j us u v vs turn = record {
  embedded = turn_removed d ok j us u v vs turn;
  polygon = refl;
  steps = λ i l. elim (cases_eq i j) [
    | inl q ↦ subst (λ i. Steps d.polygon (letters (strand_exits d i)) (letters (strand_exits (without_turn d j us u v vs) i))) (sym q)
        (more (word_steps d ok j us u v vs turn) none)
    | inr ne ↦ subst (λ w. Steps d.polygon w (letters (strand_exits (without_turn d j us u v vs) i))) (other_words d ok j us u v vs turn i l ne) none
  ];
}

-- turns are taken out one after another
pub loosened_turns : {d e : Drawing} → IsEmbedded d → TurnsOut d e → Loosened d e
loosened_turns ok no_more = loosened_same _ ok
loosened_turns ok (one_more turn rest) =
    let ok' = turn_removed _ ok _ _ _ _ _ turn in
    loosened_then _ _ _ (loosened_turn _ ok _ _ _ _ _ turn) (loosened_turns ok' rest)

-- an embedded drawing becomes tight by steps in its words
tightened : (n : ℕ) (d : Drawing) → IsEmbedded d → length (all_exits d) ≤ n → (e : Drawing) × Loosened d e × IsTight e
tightened zero d ok l = elim (free_or_some_step d (arc_count d.polygon)) [
  | inl h ↦ (d, loosened_same d ok, tight_from_free d ok h)
  | inr r ↦
      (let (i, li, w, s) = r in
      let (j, us, u, v, vs, turn) = turn_found d ok i w li s in
      absurd (omega (arith, exits_fewer d ok j us u v vs turn, l)))
]
tightened (suc n) d ok l = elim (free_or_some_step d (arc_count d.polygon)) [
  | inl h ↦ (d, loosened_same d ok, tight_from_free d ok h)
  | inr r ↦
      (let (i, li, w, s) = r in
      let (j, us, u, v, vs, turn) = turn_found d ok i w li s in
      let first = loosened_turn d ok j us u v vs turn in
      let (f, rest, tight) = tightened n (without_turn d j us u v vs) first.embedded (omega (arith, exits_fewer d ok j us u v vs turn, l)) in
      (f, loosened_then d (without_turn d j us u v vs) f first rest, tight))
]

-- the words, strand by strand
words_are : (d : Drawing) (n : ℕ) → length d.strands ≡ n → words d ≡ map (λ i. letters (strand_exits d i)) (below n)
words_are d n e = ap (map letters) (by_entries [] d.strands n e) ∙ map-map letters (λ i. get_or d.strands i []) (below n)

-- where a drawing is loosened until it is tight, its words are the reduced ones
pub tight_words : (d e : Drawing) → IsEmbedded d → Loosened d e → IsTight e → words e ≡ map (reduced d.polygon) (words d)
tight_words d e ok r tight =
    let n = arc_count d.polygon in
    let len : length e.strands ≡ n = r.embedded.strand_count ∙ ap arc_count r.polygon in
    words_are e n len
    ∙ (map_same (λ i. letters (strand_exits e i)) (λ i. reduced d.polygon (letters (strand_exits d i))) (below n) (λ i m.
    one_reduced_form d.polygon ok.polygon.pairs (letters (strand_exits d i)) (letters (strand_exits e i))
    (record { reached = r.steps i (mem_below n i m); free = subst (λ p. HasNoPair p (letters (strand_exits e i))) r.polygon (tight i) }))
    ∙ (sym (map-map (reduced d.polygon) (λ i. letters (strand_exits d i)) (below n)) ∙ ap (map (reduced d.polygon)) (sym (words_are d n ok.strand_count))))

-- and it is the tight drawing of them
pub tight_loosened : (d e : Drawing) → IsEmbedded d → Loosened d e → IsTight e → e ≡ tight_drawing d.polygon (map (reduced d.polygon) (words d))
tight_loosened d e ok r tight =
    is_tight_drawing e r.embedded tight ∙ (ap (λ p. tight_drawing p (words e)) r.polygon ∙ ap (tight_drawing d.polygon) (tight_words d e ok r tight))

-- the tight drawing of the reduced words of an embedded drawing is embedded and tight
pub reduced_words_drawn : (d : Drawing) → IsEmbedded d
    → IsEmbedded (tight_drawing d.polygon (map (reduced d.polygon) (words d))) × IsTight (tight_drawing d.polygon (map (reduced d.polygon) (words d)))
reduced_words_drawn d ok =
    let (e, r, tight) = tightened (length (all_exits d)) d ok (le_refl _) in
    let q = tight_loosened d e ok r tight in
    (subst IsEmbedded q r.embedded, subst IsTight q tight)

-- an embedded drawing with no turn is tight
pub tight_without_turns : (d : Drawing) → IsEmbedded d → ((i : ℕ) (us : List Exit) (u v : Exit) (vs : List Exit) → IsTurn d i us u v vs → ⊥) → IsTight d
tight_without_turns d ok no_turn = elim (free_or_some_step d (arc_count d.polygon)) [
  | inl h ↦ tight_from_free d ok h
  | inr r ↦ (let (i, li, w, s) = r in let (j, us, u, v, vs, turn) = turn_found d ok i w li s in absurd (no_turn j us u v vs turn))
]

-- Turns of a drawing with no common points, taken out all at once: the outcome is reached by taking them out one by one.
use Rattle.std.proofs.Common.{◌≡◌, ℕ, ◌+◌, ◌-◌, ◌<◌, ◌≤◌, Bool, true, false, cond, eqb, not, List, [], ◌∷◌, ◌++◌, map, length, refl, sym, ◌∙◌, ap, subst, arith, inl, inr}
use Rattle.std.proofs.lemmas.Bool.{cases_Bool, cases_eq, eq-eqb, ne_eqb}
use Rattle.std.proofs.lemmas.List.{get_or-map}
use Rattle.obd_base.specs.Lists.{below, Mem}
use Rattle.obd_base.specs.declared.points.Exit.{Exit}
use Rattle.obd_base.proofs.lists.Below.{bit, mem_below}
use Rattle.obd_base.proofs.lists.Sums.{sum_ones, sum_same}
use Rattle.page_surface.specs.Drawing.{Drawing, IsEmbedded, all_exits, exit, offset, points_on, spot, strand_exits}
use Rattle.page_surface.specs.Polygon.{arc_count, partner, sides}
use Rattle.drawing.specs.Pieces.{span_count}
use Rattle.drawing.specs.Thinned.{IsAlike, TurnsGone, places_kept, thinned, thinned_exit, thinned_exits, turn_gone}
use Rattle.drawing.specs.Turns.{IsTurn, Loosened, far_place, lowered, lowered_place, turn_place, without_turn}
use Rattle.drawing.proofs.Diagram.{spot_in}
use Rattle.drawing.proofs.Ends.{place_in, same_count, side_in}
use Rattle.drawing.proofs.Lists.{mem_flat, mem_row}
use Rattle.drawing.proofs.tight.KeptPlaces
use Rattle.obd_base.proofs.lists.Maps.{map_same}
use Rattle.obd_base.proofs.lists.Numbered.{enum_same, numbered_at}
use Rattle.drawing.proofs.tight.Tightened.{loosened_same, loosened_then, loosened_turn}
use Rattle.drawing.proofs.tight.TurnCounts.{kept_far, kept_near, row, row_kept}
use Rattle.drawing.proofs.tight.TurnGone.{IsElse, gone_back, gone_else, gone_out, kept_exits, kept_lowered, kept_meet}
use Rattle.drawing.proofs.tight.TurnGone
use Rattle.drawing.proofs.tight.TurnRemoved.{exits_fewer}

-- a side of a thinned drawing has the points that stay
pub points_thinned : (d : Drawing) → IsEmbedded d → (gone : ℕ → Bool) → IsAlike d gone → (k : ℕ) → k < sides d.polygon
    → points_on (thinned d gone) k ≡ places_kept d gone k (points_on d k)
points_thinned d ok gone alike k l = KeptPlaces.points_thinned d ok gone alike k l

-- where nothing is gone, the drawing is as it was
pub thinned_none : (d : Drawing) → thinned d (λ x. false) ≡ d
thinned_none d = ap (λ ss. record { polygon = d.polygon; strands = ss }) (rows d.strands)
  where
    exits : (es : List Exit) → thinned_exits d (λ x. false) es ≡ es
    exits [] = refl
    exits (e ∷ es) = rw (sum_ones e.place, exits es) refl

    rows : (ss : List (List Exit)) → map (thinned_exits d (λ x. false)) ss ≡ ss
    rows [] = refl
    rows (s ∷ ss) = rw (exits s, rows ss) refl

-- and reached with no turn taken out
pub loosened_none : (d : Drawing) → IsEmbedded d → Loosened d (thinned d (λ x. false))
loosened_none d ok = subst (λ e. Loosened d e) (sym (thinned_none d)) (loosened_same d ok)

module _ (d : Drawing) (gone : ℕ → Bool) where
  -- an exit that is gone
  pub thinned_gone : (e : Exit) (es : List Exit) → gone (spot d e) ≡ true → thinned_exits d gone (e ∷ es) ≡ thinned_exits d gone es
  thinned_gone e es h = rw h refl

  -- and one that stays
  pub thinned_kept : (e : Exit) (es : List Exit) → gone (spot d e) ≡ false → thinned_exits d gone (e ∷ es) ≡ thinned_exit d gone e ∷ thinned_exits d gone es
  thinned_kept e es h = rw h refl

  -- what stays of joined lists
  pub thinned_append : (xs ys : List Exit) → thinned_exits d gone (xs ++ ys) ≡ thinned_exits d gone xs ++ thinned_exits d gone ys
  thinned_append [] ys = refl
  thinned_append (x ∷ xs) ys = elim (cases_Bool (gone (spot d x))) [
    | inl q ↦ thinned_gone x (xs ++ ys) q ∙ (thinned_append xs ys ∙ ap (λ zs. zs ++ thinned_exits d gone ys) (sym (thinned_gone x xs q)))
    | inr q ↦ thinned_kept x (xs ++ ys) q ∙ (ap (λ zs. thinned_exit d gone x ∷ zs) (thinned_append xs ys) ∙ ap (λ zs. zs ++ thinned_exits d gone ys) (sym (thinned_kept x xs q)))
  ]

module _ (d : Drawing) (ok : IsEmbedded d) (gone other : ℕ → Bool) (same : (x : ℕ) → x < span_count d → gone x ≡ other x) where
  -- as many places stay
  places_same : (k j : ℕ) → k < sides d.polygon → j ≤ points_on d k → places_kept d gone k j ≡ places_kept d other k j
  places_same k j l h = sum_same (λ i. bit (not (gone (offset d k + i)))) (λ i. bit (not (other (offset d k + i)))) (below j)
      (λ i m. let li = mem_below j i m in ap (λ b. bit (not b)) (same (offset d k + i) (spot_in d ok k i l (omega (arith, li)))))

  -- the same exits stay
  exits_same : (es : List Exit) → ((x : Exit) → Mem x es → Mem x (all_exits d)) → thinned_exits d gone es ≡ thinned_exits d other es
  exits_same [] h = refl
  exits_same (x ∷ es) h =
      let inside = h x (inl refl) in
      let here = place_in d ok x inside in
      let e : gone (spot d x) ≡ other (spot d x) = same (spot d x) (spot_in d ok x.side x.place (side_in d ok x inside) (omega (arith, here))) in
      let rest = exits_same es (λ y m. h y (inr m)) in
      elim (cases_Bool (gone (spot d x))) [
        | inl q ↦ thinned_gone d gone x es q ∙ (rest ∙ sym (thinned_gone d other x es (sym e ∙ q)))
        | inr q ↦ thinned_kept d gone x es q
            ∙ (ap (λ n. exit x.side n ∷ thinned_exits d gone es) (places_same x.side x.place (side_in d ok x inside) (omega (arith, here)))
            ∙ (ap (λ ys. thinned_exit d other x ∷ ys) rest ∙ sym (thinned_kept d other x es (sym e ∙ q))))
      ]

  -- two tests that agree on the numbers of the drawing take out the same
  pub thinned_same : thinned d gone ≡ thinned d other
  thinned_same = ap (λ ss. record { polygon = d.polygon; strands = ss })
      (map_same (thinned_exits d gone) (thinned_exits d other) d.strands (λ es m. exits_same es (λ x n. mem_flat (λ s. s) d.strands es x m n)))

  -- and are alike together
  pub alike_same : IsAlike d gone → IsAlike d other
  alike_same alike k j l h =
      sym (same (offset d k + j) (spot_in d ok k j l (omega arith)))
      ∙ (alike k j l h ∙ same _ (spot_in d ok (partner d.polygon k) (points_on d k - 1 - j) (ok.polygon.pairs.in_range k l) (omega (arith, same_count d ok k))))

module _ (d : Drawing) (ok : IsEmbedded d) (gone : ℕ → Bool) (alike : IsAlike d gone) (i : ℕ) (us : List Exit) (u v : Exit) (vs : List Exit) (turn : IsTurn d i us u v vs) where
  -- where a turn is gone too, each point is still gone under both its names or under neither
  pub still_alike : IsAlike d (turn_gone d u v gone)
  still_alike = TurnGone.still_alike d ok gone alike i us u v vs turn

  module _ (out_stays : gone (spot d u) ≡ false) (back_stays : gone (spot d v) ≡ false) where
    -- the drawing without what is gone
    abbrev now : Drawing
    now = thinned d gone

    -- the exits of a list, in that drawing
    abbrev thin : List Exit → List Exit
    thin = thinned_exits d gone

    -- the way out
    abbrev out : Exit
    out = thinned_exit d gone u

    -- and the way back
    abbrev back : Exit
    back = thinned_exit d gone v

    -- what is gone with the turn
    abbrev after : ℕ → Bool
    after = turn_gone d u v gone

    -- a turn that stays is a turn of the thinned drawing
    pub turn_thinned : IsTurn (thinned d gone) i (thinned_exits d gone us) (thinned_exit d gone u) (thinned_exit d gone v) (thinned_exits d gone vs)
    turn_thinned =
        let meet = kept_meet d ok gone alike i us u v vs turn out_stays back_stays in
        record {
          arc = turn.arc;
          splits = get_or-map (thinned_exits d gone) d.strands i [] [] (omega (arith, turn.arc, ok.strand_count))
              ∙ (ap thin turn.splits ∙ (thinned_append d gone us (u ∷ v ∷ vs)
              ∙ ap (λ w. thin us ++ w) (thinned_kept d gone u (v ∷ vs) out_stays ∙ ap (λ w. out ∷ w) (thinned_kept d gone v vs back_stays))));
          turns = record {
            returns = turn.turns.returns;
            neighbours = elim (kept_exits d ok gone alike i us u v vs turn out_stays back_stays) [ inl w ↦ inl (omega (arith, w, meet)) | inr w ↦ inr (omega (arith, w, meet)) ];
          };
        }

    -- its lesser place on the side that it leaves through
    turn_place_thinned : turn_place now out back ≡ places_kept d gone u.side (turn_place d u v)
    turn_place_thinned =
        let meet = kept_meet d ok gone alike i us u v vs turn out_stays back_stays in
        elim (kept_exits d ok gone alike i us u v vs turn out_stays back_stays) [ inl w ↦ omega (arith, w, meet) | inr w ↦ omega (arith, w, meet) ]

    -- and on the partner
    far_place_thinned : far_place now out back ≡ places_kept d gone (partner d.polygon u.side) (far_place d u v)
    far_place_thinned =
        let meet = kept_meet d ok gone alike i us u v vs turn out_stays back_stays in
        elim (kept_exits d ok gone alike i us u v vs turn out_stays back_stays) [ inl w ↦ omega (arith, w, meet) | inr w ↦ omega (arith, w, meet) ]

    -- an exit that stays, taken over to the drawing without the turn
    exit_lowered : (x : Exit) → x.place < points_on d x.side → IsElse d ok gone alike i us u v vs turn x.side x.place → gone (spot d x) ≡ false
        → lowered now out back (thinned_exit d gone x) ≡ thinned_exit d after x
    exit_lowered x l other stays =
        let n = places_kept d gone x.side x.place in
        let far : ℕ → ℕ = λ t. cond (eqb x.side (partner d.polygon u.side)) (lowered_place t n) n in
        ap (exit x.side) (ap (λ s. cond (eqb x.side u.side) (lowered_place s n) (far (far_place now out back))) turn_place_thinned
        ∙ (ap (λ t. cond (eqb x.side u.side) (lowered_place (places_kept d gone u.side (turn_place d u v)) n) (far t)) far_place_thinned
        ∙ kept_lowered d ok gone alike i us u v vs turn out_stays back_stays x.side x.place l other stays))

    -- and the exits of a list
    exits_lowered : (es : List Exit) → ((x : Exit) → Mem x es → (x.place < points_on d x.side) × IsElse d ok gone alike i us u v vs turn x.side x.place)
        → map (lowered now out back) (thin es) ≡ thinned_exits d after es
    exits_lowered [] h = refl
    exits_lowered (x ∷ es) h =
        let (l, other) = h x (inl refl) in
        let same : after (spot d x) ≡ gone (spot d x) = gone_else d ok gone alike i us u v vs turn x.side x.place (omega arith) other in
        let rest = exits_lowered es (λ y m. h y (inr m)) in
        elim (cases_Bool (gone (spot d x))) [
          | inl q ↦ ap (map (lowered now out back)) (thinned_gone d gone x es q) ∙ (rest ∙ sym (thinned_gone d after x es (same ∙ q)))
          | inr q ↦ ap (map (lowered now out back)) (thinned_kept d gone x es q)
              ∙ (ap (λ y. y ∷ map (lowered now out back) (thin es)) (exit_lowered x l other q)
              ∙ (ap (λ ys. thinned_exit d after x ∷ ys) rest ∙ sym (thinned_kept d after x es (same ∙ q))))
        ]

    -- and those of a strand
    row_lowered : (j : ℕ) → j < arc_count d.polygon → map (lowered now out back) (thin (row d ok i us u v vs turn j)) ≡ thinned_exits d after (row d ok i us u v vs turn j)
    row_lowered j l = exits_lowered (row d ok i us u v vs turn j) (λ x m. (
      place_in d ok x (mem_row d.strands j x (row_kept d ok i us u v vs turn j x m)),
      record { near = λ q. kept_near d ok i us u v vs turn j x l m q; far = λ q. kept_far d ok i us u v vs turn j x l m q },
    ))

    -- each strand of the thinned drawing without the turn
    strand_lowered : (j : ℕ) (es : List Exit) → j < arc_count d.polygon → strand_exits d j ≡ es
        → map (lowered now out back) (cond (eqb j i) (thin us ++ thin vs) (thin es)) ≡ thinned_exits d after es
    strand_lowered j es l at = elim (cases_eq j i) [
      | inl q ↦
          (let kept : row d ok i us u v vs turn j ≡ us ++ vs = rw (eq-eqb j i q) refl in
          let all : es ≡ us ++ (u ∷ v ∷ vs) = sym at ∙ (ap (strand_exits d) q ∙ turn.splits) in
          let without : map (lowered now out back) (thin (us ++ vs)) ≡ thinned_exits d after (us ++ vs)
          = subst (λ w. map (lowered now out back) (thin w) ≡ thinned_exits d after w) kept (row_lowered j l) in
          let gone_both : thinned_exits d after (u ∷ v ∷ vs) ≡ thinned_exits d after vs
          = thinned_gone d after u (v ∷ vs) (gone_out d ok gone alike i us u v vs turn (spot d u) refl)
          ∙ thinned_gone d after v vs (gone_back d ok gone alike i us u v vs turn (spot d v) refl) in
          rw (eq-eqb j i q) (ap (map (lowered now out back)) (sym (thinned_append d gone us vs))
          ∙ (without ∙ (thinned_append d after us vs
          ∙ sym (ap (thinned_exits d after) all ∙ (thinned_append d after us (u ∷ v ∷ vs) ∙ ap (λ w. thinned_exits d after us ++ w) gone_both))))))
      | inr n ↦
          (let kept : row d ok i us u v vs turn j ≡ es = (let z : row d ok i us u v vs turn j ≡ strand_exits d j = rw (ne_eqb j i n) refl in z) ∙ at in
          rw (ne_eqb j i n) (subst (λ w. map (lowered now out back) (thin w) ≡ thinned_exits d after w) kept (row_lowered j l)))
    ]

    -- without the turn the thinned drawing is the one in which the turn is gone too
    pub turn_out_thinned : without_turn (thinned d gone) i (thinned_exits d gone us) (thinned_exit d gone u) (thinned_exit d gone v) (thinned_exits d gone vs) ≡ thinned d (turn_gone d u v gone)
    turn_out_thinned = ap (λ ss. record { polygon = d.polygon; strands = ss })
        (enum_same (λ s. map (lowered now out back) (cond (eqb s.0 i) (thin us ++ thin vs) s.1)) thin (thinned_exits d after) 0 d.strands (λ j es m.
        let at = numbered_at d.strands j es [] m in
        strand_lowered j es (omega (arith, at, ok.strand_count)) at.1))

    -- and where the thinned drawing is reached by taking turns out, so is that one
    pub loosened_more : Loosened d (thinned d gone) → Loosened d (thinned d (turn_gone d u v gone))
    loosened_more r = loosened_then d now (thinned d after) r (subst (λ e. Loosened now e) turn_out_thinned (loosened_turn now r.embedded i (thin us) out back (thin vs) turn_thinned))

-- at first nothing is gone
pub turns_gone_none : (d : Drawing) → IsEmbedded d → TurnsGone d (λ x. false) 0
turns_gone_none d ok = record {
  alike = λ k j l h. refl;
  loosened = loosened_none d ok;
  fewer = omega (arith, ap (λ e. length (all_exits e)) (thinned_none d));
  none = λ z x l. refl;
}

-- a turn of the drawing with no point that is gone may go too
pub turns_gone_more : (d : Drawing) → IsEmbedded d → (gone : ℕ → Bool) (turns : ℕ) → TurnsGone d gone turns → (i : ℕ) (us : List Exit) (u v : Exit) (vs : List Exit) → IsTurn d i us u v vs
    → gone (spot d u) ≡ false → gone (spot d v) ≡ false → TurnsGone d (turn_gone d u v gone) (turns + 1)
turns_gone_more d ok gone turns r i us u v vs turn out_stays back_stays =
    let now = thinned d gone in
    let same = turn_out_thinned d ok gone r.alike i us u v vs turn out_stays back_stays in
    let out = exits_fewer now r.loosened.embedded i (thinned_exits d gone us) (thinned_exit d gone u) (thinned_exit d gone v) (thinned_exits d gone vs)
    (turn_thinned d ok gone r.alike i us u v vs turn out_stays back_stays) in
    record {
      alike = still_alike d ok gone r.alike i us u v vs turn;
      loosened = loosened_more d ok gone r.alike i us u v vs turn out_stays back_stays r.loosened;
      fewer = omega (arith, out, r.fewer, ap (λ e. length (all_exits e)) same);
      none = λ z. absurd (omega (arith, z));
    }

-- only the numbers of the drawing matter
pub turns_gone_same : (d : Drawing) → IsEmbedded d → (gone other : ℕ → Bool) (turns : ℕ) → ((x : ℕ) → x < span_count d → gone x ≡ other x) → TurnsGone d gone turns → TurnsGone d other turns
turns_gone_same d ok gone other turns same r = record {
  alike = alike_same d ok gone other same r.alike;
  loosened = subst (λ e. Loosened d e) (thinned_same d ok gone other same) r.loosened;
  fewer = subst (λ e. length (all_exits e) + (turns + turns) ≡ length (all_exits d)) (thinned_same d ok gone other same) r.fewer;
  none = λ z x l. sym (same x l) ∙ r.none z x l;
}

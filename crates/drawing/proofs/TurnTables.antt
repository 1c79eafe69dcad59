-- Turns found along a strand, and the table of what they take out.
use Rattle.std.proofs.Common.{◌≡◌, ℕ, suc, ◌+◌, ◌-◌, ◌<◌, ◌≤◌, Bool, true, false, eqb, ◌||◌, List, [], ◌∷◌, ◌++◌, drop, get_or, length, take, refl, sym, ◌∙◌, ap, ap₂, subst, take-append-drop, arith, inl, inr}
use Rattle.std.proofs.lemmas.Bool.{cases_eq, cases_lt, false≢true}
use Rattle.std.proofs.lemmas.List.{drop_more, get_or_read}
use Rattle.obd_base.specs.declared.points.Exit.{Exit}
use Rattle.page_surface.specs.Drawing.{Drawing, IsEmbedded, entry, spot, strand_exits}
use Rattle.page_surface.specs.Polygon.{arc_count}
use Rattle.drawing.specs.Pieces.{span_count}
use Rattle.drawing.specs.ThinTables.{IsPointGone, is_gone}
use Rattle.drawing.specs.Thinned.{TurnsGone, turn_gone}
use Rattle.drawing.specs.Tight.{IsTight}
use Rattle.drawing.specs.Turns.{NoTurnBefore, TurnsBack}
use Rattle.drawing.proofs.Thinned.{turns_gone_more, turns_gone_same}
use Rattle.drawing.proofs.tight.Tightened.{tight_without_turns}

-- the item after the first ones
at_split : (us : List Exit) (u : Exit) (vs : List Exit) → get_or (us ++ u ∷ vs) (length us) u ≡ u
at_split [] u vs = refl
at_split (x ∷ us) u vs = at_split us u vs

-- and the next
next_split : (us : List Exit) (u v : Exit) (vs : List Exit) → get_or (us ++ u ∷ v ∷ vs) (suc (length us)) v ≡ v
next_split [] u v vs = refl
next_split (x ∷ us) u v vs = next_split us u v vs

-- both are there
both_there : (us : List Exit) (u v : Exit) (vs : List Exit) → suc (length us) < length (us ++ u ∷ v ∷ vs)
both_there [] u v vs = omega arith
both_there (x ∷ us) u v vs = omega (arith, both_there us u v vs)

-- a drawing of whose strands none turns back is tight
pub no_turn_tight : (d : Drawing) → IsEmbedded d → ((i : ℕ) → i < arc_count d.polygon → NoTurnBefore d (strand_exits d i) (length (strand_exits d i))) → IsTight d
no_turn_tight d ok none = tight_without_turns d ok (λ i us u v vs turn.
    let there : suc (length us) < length (strand_exits d i) = subst (λ (xs : List Exit). suc (length us) < length xs) (sym turn.splits) (both_there us u v vs) in
    let out : u ≡ get_or (strand_exits d i) (length us) u = subst (λ (xs : List Exit). u ≡ get_or xs (length us) u) (sym turn.splits) (sym (at_split us u (v ∷ vs))) in
    let back : v ≡ get_or (strand_exits d i) (suc (length us)) v = subst (λ (xs : List Exit). v ≡ get_or xs (suc (length us)) v) (sym turn.splits) (sym (next_split us u v vs)) in
    none i turn.arc (length us) u v there out back turn.turns)

-- where two exits that follow one another don't turn back, there is no turn before the next one
pub no_turn_more : (d : Drawing) (exits : List Exit) (at : ℕ) (out back : Exit) → 1 ≤ at → at < length exits → out ≡ get_or exits (at - 1) out → back ≡ get_or exits at back
    → NoTurnBefore d exits at → (TurnsBack d out back → ⊥) → NoTurnBefore d exits (at + 1)
no_turn_more d exits at out back one l io ib before here n o b ln ro rb turns = elim (cases_lt (suc n) at) [
  | inl k ↦ before n o b k ro rb turns
  | inr k ↦
      let e : n ≡ at - 1 = omega (arith, k, ln, one) in
      let f : suc n ≡ at = omega (arith, k, ln, one) in
      let same_out : o ≡ out = get_or_read exits n o (omega (arith, l, f)) ro none ∙ (ap (λ (i : ℕ). get_or exits i none) e ∙ sym (get_or_read exits (at - 1) out (omega (arith, l)) io none)) in
      let same_back : b ≡ back = get_or_read exits (suc n) b (omega (arith, l, f)) rb none ∙ (ap (λ (i : ℕ). get_or exits i none) f ∙ sym (get_or_read exits at back l ib none)) in
      here (subst (λ (x : Exit). TurnsBack d x back) same_out (subst (λ (x : Exit). TurnsBack d o x) same_back turns))
]
  where
    none : Exit
    none = record { side = 0; place = 0 }

-- nor is there one in the whole strand
pub no_turn_all : (d : Drawing) (exits es : List Exit) (at : ℕ) → exits ≡ es → length exits ≤ at → NoTurnBefore d exits at → NoTurnBefore d es (length es)
no_turn_all d exits es at is l before = subst (λ (xs : List Exit). NoTurnBefore d xs (length xs)) is (λ n o b k ro rb t. before n o b (omega (arith, k, l)) ro rb t)

-- nor in the strands so far
pub no_turn_strands : (d : Drawing) (n i : ℕ) → i ≡ n → ((j : ℕ) → j < n → NoTurnBefore d (strand_exits d j) (length (strand_exits d j)))
    → NoTurnBefore d (strand_exits d i) (length (strand_exits d i)) → (j : ℕ) → j < n + 1 → NoTurnBefore d (strand_exits d j) (length (strand_exits d j))
no_turn_strands d n i same before here j l = elim (cases_eq j n) [
  | inl e ↦ subst (λ (k : ℕ). NoTurnBefore d (strand_exits d k) (length (strand_exits d k))) (same ∙ sym e) here
  | inr ne ↦ before j (omega (arith, l, ne))
]

-- where no turn is gone no point is
pub none_gone : (d : Drawing) (gone : List Bool) (turns x : ℕ) → TurnsGone d (is_gone gone) turns → x + 1 < span_count d → is_gone gone x ≡ true → turns ≡ 0 → ⊥
none_gone d gone turns x taken l h z = false≢true (sym (taken.none z x (omega (arith, l))) ∙ h)

-- a strand at two exits that follow one another
split_at : (exits : List Exit) (n : ℕ) (u v : Exit) → suc n < length exits → u ≡ get_or exits n u → v ≡ get_or exits (suc n) v
    → exits ≡ take n exits ++ (u ∷ v ∷ drop (suc (suc n)) exits)
split_at exits n u v l iu iv =
    let one : drop n exits ≡ u ∷ drop (suc n) exits = drop_more exits n u (omega (arith, l)) ∙ ap₂ (λ (x : Exit) (i : ℕ). x ∷ drop i exits) (sym iu) (let e : n + 1 ≡ suc n = omega arith in e) in
    let two : drop (suc n) exits ≡ v ∷ drop (suc (suc n)) exits
    = drop_more exits (suc n) v l ∙ ap₂ (λ (x : Exit) (i : ℕ). x ∷ drop i exits) (sym iv) (let e : suc n + 1 ≡ suc (suc n) = omega arith in e) in
    sym (take-append-drop n exits) ∙ ap (λ (xs : List Exit). take n exits ++ xs) (one ∙ ap (λ (xs : List Exit). u ∷ xs) two)

-- two points taken out are those of a turn
gone_both : (d : Drawing) (u v : Exit) (old mid new : List Bool) → IsPointGone d u old mid → IsPointGone d v mid new → (x : ℕ) → turn_gone d u v (is_gone old) x ≡ is_gone new x
gone_both d u v old mid new one two x =
    sym (two x ∙ (ap (λ (b : Bool). b || (eqb x (spot d v) || eqb x (spot d (entry d v)))) (one x)
    ∙ regroup (is_gone old x) (eqb x (spot d u)) (eqb x (spot d (entry d u))) (eqb x (spot d v) || eqb x (spot d (entry d v)))))
  where
    regroup : (a b c e : Bool) → ((a || (b || c)) || e) ≡ (a || (b || (c || e)))
    regroup true b c e = refl
    regroup false true c e = refl
    regroup false false c e = refl

-- a turn whose points stay is taken out
pub pair_taken : (d : Drawing) → IsEmbedded d → (i : ℕ) (exits : List Exit) (at : ℕ) (out back : Exit) (old mid new : List Bool) (turns : ℕ) → i < arc_count d.polygon → exits ≡ strand_exits d i
    → 1 ≤ at → at < length exits → out ≡ get_or exits (at - 1) out → back ≡ get_or exits at back → TurnsBack d out back
    → (x y : ℕ) → x ≡ spot d out → y ≡ spot d back → is_gone old x ≡ false → is_gone old y ≡ false → IsPointGone d out old mid → IsPointGone d back mid new
    → TurnsGone d (is_gone old) turns → TurnsGone d (is_gone new) (turns + 1)
pair_taken d ok i exits at out back old mid new turns li es one l io ib turn x y ix iy out_stays back_stays first second taken =
    let e : suc (at - 1) ≡ at = omega (arith, one) in
    let ib' : back ≡ get_or exits (suc (at - 1)) back = subst (λ (n : ℕ). back ≡ get_or exits n back) (sym e) ib in
    let splits = split_at exits (at - 1) out back (omega (arith, l, e)) io ib' in
    turns_gone_same d ok (turn_gone d out back (is_gone old)) (is_gone new) (turns + 1) (λ x k. gone_both d out back old mid new first second x)
    (turns_gone_more d ok (is_gone old) turns taken i (take (at - 1) exits) out back (drop (suc (suc (at - 1))) exits)
    (record { arc = li; splits = sym es ∙ splits; turns = turn })
    (subst (λ (n : ℕ). is_gone old n ≡ false) ix out_stays) (subst (λ (n : ℕ). is_gone old n ≡ false) iy back_stays))

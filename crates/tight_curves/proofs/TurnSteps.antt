-- A turn taken out of the list of a part.
use Rattle.std.proofs.Common.{◌≡◌, ℕ, zero, suc, ◌+◌, ◌<◌, ◌≤◌, true, cond, List, [], ◌∷◌, ◌++◌, length, get_or, take, drop, refl, sym, ◌∙◌, ap, subst, inl, inr, arith}
use Rattle.std.proofs.lemmas.Bool.{cases_eq, cases_lt, eq-eqb, ne_eqb}
use Rattle.std.proofs.Math.Seq.{drop-cons, split_at}
use Rattle.std.proofs.lemmas.List.{length-append, length-take, length-drop}
use Rattle.obd_base.specs.declared.points.Exit.{Exit}
use Rattle.page_surface.specs.Drawing.{exit}
use Rattle.page_surface.specs.Polygon.{IsPolygon, Polygon, partner}
use Rattle.curve_paths.specs.Curves.{IsCurve, exit_at}
use Rattle.curve_paths.proofs.CurvePoints.{following-less}
use Rattle.tight_curves.specs.Closed.{HasNoCyclicPair, word_of}
use Rattle.tight_curves.specs.Parts.{IsInnermost, IsPart, MadeTight, TurnsTaken, no_more, part_exits}
use Rattle.tight_curves.specs.Turns.{IsLoosened, IsTurnAt, after, is_turn_at, without_turn}
use Rattle.tight_curves.proofs.PartPoints.{exit_in}
use Rattle.tight_curves.proofs.TightMade.{taken_made}
use Rattle.tight_curves.proofs.TurnsAnywhere.{taken_join, turn_inside, turn_round}
use Rattle.tight_curves.proofs.TurnsOut.{taken_part}
use Rattle.tight_curves.proofs.TurnTests.{test_innermost}

module _ {A : Type 0} (d : A) where
  -- a list around an element and the one after it
  around : (s : List A) (i : ℕ) → suc i < length s → s ≡ take i s ++ (get_or s i d ∷ get_or s (suc i) d ∷ drop (suc (suc i)) s)
  around s i l = split_at s i d (omega arith) ∙ ap (λ z. take i s ++ (get_or s i d ∷ z)) (drop-cons s (suc i) d l)

  -- a list from its last element round to its first
  round : (s : List A) (i : ℕ) → suc i ≡ length s → 1 ≤ i → s ≡ get_or s 0 d ∷ (drop 1 (take i s) ++ (get_or s i d ∷ []))
  round [] i e l = absurd (omega (arith, e))
  round (x ∷ s) zero e l = absurd (omega arith)
  round (x ∷ s) (suc i) e l =
      let none : drop (suc i) s ≡ [] = nothing (drop (suc i) s) (omega (arith, length-drop (suc i) s, e)) in
      ap (λ z. x ∷ z) (split_at s i d (omega (arith, e)) ∙ ap (λ z. take i s ++ (get_or s i d ∷ z)) none)
    where
      nothing : (xs : List A) → length xs ≡ 0 → xs ≡ []
      nothing [] q = refl
      nothing (y ∷ xs) q = absurd (omega (arith, q))

module _ (p : Polygon) (valid : IsPolygon p) (c : List Exit) (curve : IsCurve p c) where
  -- what passes the test is a turn
  pub turn_at : (s : List Exit) (part : IsPart p c s) (i : ℕ) → i < length s → is_turn_at p c s i ≡ true → IsTurnAt p c s i
  turn_at s part i l t =
      let there = test_innermost p valid.pairs c curve s part (exit_at s i) (exit_at s (after (length s) i)) (exit_in p valid.pairs c curve s part i l).0 (exit_in p valid.pairs c curve s part i l).1
      (exit_in p valid.pairs c curve s part (after (length s) i) (following-less (length s) i l)).1 t in
      record { index = l; two = two there.returns; innermost = there }
    where
      two : (exit_at s (after (length s) i)).side ≡ partner p (exit_at s i).side → 2 ≤ length s
      two e = elim (cases_lt 1 (length s)) [
        | inl m ↦ omega arith
        | inr m ↦ (let q : suc i ≡ length s = omega (arith, l) in
            let up : after (length s) i ≡ i = rw (eq-eqb (suc i) (length s) q) (omega (arith, m)) in
            absurd (valid.pairs.moves (exit_at s i).side (exit_in p valid.pairs c curve s part i l).0 (sym (sym (ap (λ m. (exit_at s m).side) up) ∙ e))))
      ]

  -- it is taken out
  taken_out : (s : List Exit) (i : ℕ) → IsTurnAt p c s i → TurnsTaken p c s (without_turn i s)
  taken_out s i t = elim (cases_eq (suc i) (length s)) [
    | inl e ↦ (let test = eq-eqb (suc i) (length s) e in
        let shape = round (exit 0 0) s i e (omega (arith, t.two, e)) in
        let turn : IsInnermost p c s (exit_at s i) (exit_at s 0) = subst (λ b. IsInnermost p c s (exit_at s i) (exit_at s (cond b 0 (suc i)))) test t.innermost in
        rw test (subst (λ z. TurnsTaken p c z (drop 1 (take i s))) (sym shape)
        (turn_round p c (exit_at s i) (exit_at s 0) (drop 1 (take i s)) (drop 1 (take i s)) (subst (λ z. IsInnermost p c z (exit_at s i) (exit_at s 0)) shape turn) no_more)))
    | inr ne ↦ (let test = ne_eqb (suc i) (length s) ne in
        let shape = around (exit 0 0) s i (omega (arith, t.index, ne)) in
        let two : suc (suc i) ≡ i + 2 = omega arith in
        let turn : IsInnermost p c s (exit_at s i) (exit_at s (suc i)) = subst (λ b. IsInnermost p c s (exit_at s i) (exit_at s (cond b 0 (suc i)))) test t.innermost in
        rw test (subst (λ n. TurnsTaken p c s (take i s ++ drop n s)) two
        (subst (λ z. TurnsTaken p c z (take i s ++ drop (suc (suc i)) s)) (sym shape)
        (turn_inside p c (take i s) (exit_at s i) (exit_at s (suc i)) (drop (suc (suc i)) s) (take i s ++ drop (suc (suc i)) s)
        (subst (λ z. IsInnermost p c z (exit_at s i) (exit_at s (suc i))) shape turn) no_more))))
  ]

  -- which makes the list shorter by two
  pub two_less : (s : List Exit) (i : ℕ) → IsTurnAt p c s i → length (without_turn i s) + 2 ≡ length s
  two_less s i t = elim (cases_eq (suc i) (length s)) [
    | inl e ↦ (let test = eq-eqb (suc i) (length s) e in rw test (omega (arith, e, t.two, length-drop 1 (take i s), length-take i s)))
    | inr ne ↦ (let test = ne_eqb (suc i) (length s) ne in rw test (omega (arith, ne, t.index, length-append (take i s) (drop (i + 2) s), length-take i s, length-drop (i + 2) s)))
  ]

  -- nothing is taken out at first,
  pub loosened_none : (s : List Exit) → IsPart p c s → IsLoosened p c s s
  loosened_none s part = record { taken = no_more; is_part = part; fewer = omega arith }

  -- and one more turn at a time
  pub loosened_more : (from s new : List Exit) (i : ℕ) → IsLoosened p c from s → IsTurnAt p c s i → new ≡ without_turn i s → IsLoosened p c from new
  loosened_more from s new i h t e =
      let out : TurnsTaken p c s new = subst (TurnsTaken p c s) (sym e) (taken_out s i t) in
      record {
        taken = taken_join p c from s new h.taken out;
        is_part = taken_part p valid.pairs c curve s new out h.is_part;
        fewer = omega (arith, two_less s i t, ap length e, h.fewer);
      }

  -- what is left of the whole curve, by itself, is the curve made tight
  pub made_of : (whole t u placed : List Exit) → whole ≡ c → IsLoosened p c whole t → HasNoCyclicPair p (word_of t) → u ≡ t → placed ≡ part_exits p c u → MadeTight p c placed
  made_of whole t u placed e h none same is =
      let taken : TurnsTaken p c c t = subst (λ z. TurnsTaken p c z t) e h.taken in
      subst (MadeTight p c) (sym (is ∙ ap (part_exits p c) same)) (taken_made p valid.pairs c curve t taken none)

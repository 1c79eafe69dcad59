use Rattle.std.proofs.Common.{◌≡◌, ◌+◌, ◌-◌, [], length, get_or, true, false, Some, ap, arith, sym, ◌∙◌, subst, take}
use Rattle.std.specs.Option.{option_eq}
use Rattle.std.specs.List.{slice_get}
use Rattle.std.specs.Prelude.{nat_eq}
use Rattle.std.proofs.lemmas.List.{take_all}
use Rattle.boundary_map.proofs.Odds.{odds_begin}
use Rattle.boundary_map.proofs.SortedOdds.{is_last, put_on, taken_out}
use Rattle.boundary_map.specs.Odds.{IsOdds}
use Rattle.boundary_map.proofs.walked.odd_ones.Goals as goal
use Rattle.boundary_map.proofs.walked.odd_ones.Goals.{then-eq, else-eq+in_ok-push}

pub loop-number-init : goal.loop-number-init
loop-number-init c = subst (λ xs. IsOdds [] xs) (sym c.new-odds.ensures.items) odds_begin

pub loop-number-preserved : goal.loop-number-preserved
loop-number-preserved c =
    let sorted = c.args.sorted.now in
    let i = c.loop-number.number-index in
    let odds = c.loop-number.odds.items in
    let tested : c.eq.result ≡ is_last odds (get_or sorted i 0)
    = c.eq.ensures ∙ ap (λ o. option_eq nat_eq o (Some (get_or sorted i 0))) (c.copied.ensures ∙ (c.last.ensures.value ∙ ap (λ xs. slice_get xs (length xs - 1)) c.deref.ensures.value)) in
    elim c.if-eq.branch [
      | then-eq w ↦ rw w.odds-is (taken_out sorted c.requires i c.loop-number-test.true odds c.loop-number.invariant _ _ w.pop.ensures.items
          (λ some. w.pop.ensures.variant.1 (omega (arith, some, c.deref.ensures.len, ap length c.deref.ensures.value))) (sym tested ∙ w.if-eq.true))
      | else-eq+in_ok-push w ↦ rw w.odds-is (subst (λ xs. IsOdds (take (i + 1) sorted) xs) (sym w.in_ok-push.ensures.items) (put_on sorted c.requires i c.loop-number-test.true odds c.loop-number.invariant (sym tested ∙ w.if-eq.false)))
    ]

pub returns : goal.returns
returns c =
    let sorted = c.args.sorted.now in
    subst (λ xs. IsOdds sorted xs) (sym c.from_vec.ensures)
    (subst (λ ns. IsOdds ns c.loop-number.odds.items) (take_all c.loop-number.number-index sorted c.loop-number-test.false) c.loop-number.invariant)

-- The lines of a certificate that belongs to a book, from its pivots to the end, keep their rules.
use Rattle.std.proofs.Common.{◌≡◌, ℕ, zero, suc, ◌*◌, ◌≤◌, pos, ◌-ℤ◌, true, ◌&&◌, eqb, leb, List, [], ◌∷◌, length, take, Some, refl, sym, ◌∙◌, ap, subst, arith, le-leb, eq-eqb, int_eq}
use Rattle.std.specs.List.{slice_get}
use Rattle.std.proofs.lemmas.Bool.{and_from}
use Rattle.std.proofs.lemmas.Bool.Decides.{Decides-int_eq}
use Rattle.std.proofs.lemmas.List.{length-map}
use Rattle.drawing.specs.Points.{generators as all_generators}
use Rattle.hkm_diagram.specs.Domains.{column, columns}
use Rattle.mod2_rank.specs.Ascending.{AllAscend}
use Rattle.mod2_rank.specs.Linear.{Concludes}
use Rattle.mod2_rank.specs.PivotLines.{next_column, pivot_line_passes, rank_line_passes, verdict_line_passes}
use Rattle.mod2_rank.specs.PivotRules.{reducers}
use Rattle.mod2_rank.specs.declared.outcome.Pivot.{Pivot}
use Rattle.mod2_rank.proofs.Laws.{rank_at_most}
use Rattle.mod2_rank.proofs.OwnPivots.{own_pivot_passes, own_pivots_count, own_pivots_span, own_verdict_passes}
use Rattle.witness_check.specs.Belonging.{BelongsTo}
use Rattle.witness_check.specs.OpenBook.{OpenBook}
use Rattle.witness_check.specs.Written.{last_drawing}
use Rattle.witness_check.specs.declared.certificate.Certificate.{Certificate}
use Rattle.witness_check.specs.declared.checked.Reason.TheVariants.{Pivot as pivot, Rank as rank, Homology as homology, Verdict as verdict}
use Rattle.witness_check.specs.Rules.{each, homology_rules, last_columns, outcome_rules, pivot_rules, rank_rules, rule, verdict_rules}
use Rattle.witness_check.proofs.AnswerLaw.{columns_ascend}
use Rattle.witness_check.proofs.DrawingLines.{last_written}
use Rattle.witness_check.proofs.Kept.{At, keep_all, keep_append, keep_each, keep_line, keep_one}

-- an entry, as it is read
at_get : {A : Type 0} (xs : List A) (i : ℕ) (a : A) → At xs i a → slice_get xs i ≡ Some a
at_get [] i a at = absurd at
at_get (x ∷ xs) zero a at = ap Some at
at_get (x ∷ xs) (suc i) a at = at_get xs i a at

module _ (book : OpenBook) (c : Certificate) (b : BelongsTo book c) where
  columns_written : last_columns c ≡ columns b.last
  columns_written = ap columns (last_written book c b)

  count : c.generators ≡ length (all_generators (last_drawing c))
  count = b.generators_are ∙ ap (λ d. length (all_generators d)) (sym (last_written book c b))

  ascend : AllAscend c.generators (last_columns c)
  ascend = columns_ascend c count

  concluded : Concludes c.generators (last_columns c) c.pivots c.rank c.verdict
  concluded = subst (λ cs. Concludes c.generators cs c.pivots c.rank c.verdict) (sym columns_written) b.concludes

  -- the pivots are as many as the rank,
  pub pivot_count : length c.pivots ≡ c.rank
  pivot_count = own_pivots_count c.generators (last_columns c) c.pivots c.rank c.verdict ascend concluded

  -- at most as many as the generators
  pub few_pivots : c.rank ≤ c.generators
  few_pivots =
      let most : c.rank ≤ length (last_columns c) = rank_at_most c.generators (last_columns c) ascend c.rank concluded.rank_is in
      let width : length (last_columns c) ≡ length (all_generators (last_drawing c)) = length-map (all_generators (last_drawing c)) (column (last_drawing c)) in
      omega (arith, most, width, count)

  pub pivot_passes : (i : ℕ) (l : Pivot) → At c.pivots i l → pivot_line_passes c.generators (last_columns c) (next_column 0 (take i c.pivots)) (reducers c.generators (last_columns c) [] (take i c.pivots)) l ≡ true
  pivot_passes i l at = own_pivot_passes c.generators (last_columns c) c.pivots c.rank c.verdict ascend concluded i l (at_get c.pivots i l at)

  verdict_kept : verdict_line_passes c.generators (last_columns c) c.verdict ≡ true
  verdict_kept = own_verdict_passes c.generators (last_columns c) c.pivots c.rank c.verdict ascend concluded

  pub outcome_lines : keep_all (outcome_rules c) ≡ true
  outcome_lines =
      keep_append ((rule pivot (leb (length c.pivots) c.generators) ∷ []) ∷ each (pivot_rules c) c.pivots) _ pivot_lines
      (keep_line (rank_rules c) (homology_rules c ∷ (verdict_rules c ∷ ([] ∷ [])))
      (keep_one (rule rank (eqb c.rank (length c.pivots) && rank_line_passes c.generators (last_columns c) c.pivots))
      (and_from (eqb c.rank (length c.pivots)) _ (eq-eqb _ _ (sym pivot_count)) (own_pivots_span c.generators (last_columns c) c.pivots c.rank c.verdict ascend concluded)))
      (keep_line (homology_rules c) (verdict_rules c ∷ ([] ∷ []))
      (keep_one (rule homology (int_eq c.homology (pos c.generators -ℤ pos (2 * c.rank)))) ((Decides-int_eq c.homology (pos c.generators -ℤ pos (2 * c.rank))).1 b.homology))
      (keep_line (verdict_rules c) ([] ∷ []) (keep_one (rule verdict (verdict_line_passes c.generators (last_columns c) c.verdict)) verdict_kept) refl)))
    where
      pivot_lines : keep_all ((rule pivot (leb (length c.pivots) c.generators) ∷ []) ∷ each (pivot_rules c) c.pivots) ≡ true
      pivot_lines =
          keep_line (rule pivot (leb (length c.pivots) c.generators) ∷ []) (each (pivot_rules c) c.pivots)
          (keep_one (rule pivot (leb (length c.pivots) c.generators)) (le-leb _ _ (omega (arith, pivot_count, few_pivots))))
          (keep_each (pivot_rules c) c.pivots (λ i l at.
          keep_one (rule pivot (pivot_line_passes c.generators (last_columns c) (next_column 0 (take i c.pivots)) (reducers c.generators (last_columns c) [] (take i c.pivots)) l)) (pivot_passes i l at)))

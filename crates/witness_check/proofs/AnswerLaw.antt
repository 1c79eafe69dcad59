-- A valid certificate has the numbers and the answer of its last drawing, whatever pivots and whatever chain or
-- functional it names.
use Rattle.std.proofs.Common.{◌≡◌, ℕ, zero, suc, ◌+◌, ◌<◌, true, ◌&&◌, eqb, leb, ltb, List, [], ◌∷◌, ◌++◌, length, map, take, refl, sym, ◌∙◌, subst, arith, eqb-true}
use Rattle.std.specs.List.{enumerate_from, list_all}
use Rattle.std.proofs.lemmas.Bool.{and_from, and_parts, leb-true, ltb-true}
use Rattle.obd_base.specs.Lists.{has}
use Rattle.drawing.specs.Points.{contact_generator, generators as all_generators}
use Rattle.mod2_rank.specs.declared.outcome.Verdict.{Verdict}
use Rattle.mod2_rank.specs.declared.outcome.Verdict.TheVariants.{Chain, Functional}
use Rattle.mod2_rank.specs.Linear.{Ascends, IsRank, IsVerdict, same_list}
use Rattle.witness_check.specs.Checked.{answer_of, keeps_all}
use Rattle.witness_check.specs.declared.certificate.Certificate.{Certificate}
use Rattle.mod2_rank.specs.Ascending.{AllAscend}
use Rattle.mod2_rank.proofs.OddCounts.{odd_columns_ascend}
use Rattle.hkm_diagram.specs.Domains.{domains}
use Rattle.std.specs.Prelude.{All}
use Rattle.witness_check.specs.OpenBook.{arcs, seam_names}
use Rattle.witness_check.specs.Written.{last_drawing, polygon}
use Rattle.mod2_rank.specs.PivotRules.{Reducer, reducer, reducers}
use Rattle.mod2_rank.specs.PivotLines.{next_column, pivot_line_passes, rank_line_passes, verdict_line_passes}
use Rattle.mod2_rank.specs.declared.outcome.Pivot.{Pivot}
use Rattle.witness_check.specs.declared.checked.Reason.TheVariants.{Limit as limit, Basis as basis, Pivot as pivot}
use Rattle.witness_check.specs.Rules.{Rule, book_rules, contact_rules, drawing_rules, each, final_rules, finger_rules, generator_rules, homology_rules, last_columns, outcome_rules, pivot_rules, rank_rules, rule, same_names, strand_rules, verdict_rules}
use Rattle.mod2_rank.proofs.Laws.{ruled_pivots_are_rank}
use Rattle.mod2_rank.proofs.CheckedVerdict.{is_chain, same_kind}
use Rattle.witness_check.proofs.Kept.{At, keep, keep_all}

-- parts of lines that are kept
pub kept_parts : (ks ls : List (List Rule)) → keep_all (ks ++ ls) ≡ true → (keep_all ks ≡ true) × (keep_all ls ≡ true)
kept_parts [] ls h = (refl, h)
kept_parts (k ∷ ks) ls h =
    let (p, q) = and_parts (keep k) (keep_all (ks ++ ls)) h in
    let (a, b) = kept_parts ks ls q in (and_from (keep k) (keep_all ks) p a, b)

pub kept_entry : {A : Type 0} (rules : ℕ → A → List Rule) (n k : ℕ) (xs : List A) (i : ℕ) (a : A) → keep_all (map (λ e. rules e.0 e.1) (enumerate_from n xs)) ≡ true → At xs i a → k ≡ n + i → keep (rules k a) ≡ true
kept_entry rules n k [] i a h at e = absurd at
kept_entry rules n k (x ∷ xs) zero a h at e =
    let (p, q) = and_parts (keep (rules n x)) _ h in
    let s : n ≡ k = omega (arith, e) in
    subst (λ j. keep (rules j a) ≡ true) s (subst (λ y. keep (rules n y) ≡ true) at p)
kept_entry rules n k (x ∷ xs) (suc i) a h at e =
    let (p, q) = and_parts (keep (rules n x)) _ h in kept_entry rules (n + 1) k xs i a q at (omega (arith, e))

own_more : (ds : List Reducer) (r : Reducer) → list_all (λ p. has p.column p.row) ds ≡ true → has r.column r.row ≡ true → list_all (λ p. has p.column p.row) (ds ++ r ∷ []) ≡ true
own_more [] r o h = and_from (has r.column r.row) true h refl
own_more (d ∷ ds) r o h =
    let (p, q) = and_parts (has d.column d.row) (list_all (λ (p : Reducer). has p.column p.row) ds) o in
    and_from (has d.column d.row) (list_all (λ (p : Reducer). has p.column p.row) (ds ++ r ∷ [])) p (own_more ds r q h)

-- what pivot lines that pass one after another have together
record Passed (rows : ℕ) (cs : List (List ℕ)) (low : ℕ) (done : List Reducer) (ls : List Pivot) : Type 0 where
  ascend : Ascends low (length cs) (map (λ p. p.column) ls)
  inside : All (λ p. p.row < rows) ls
  own : list_all (λ p. has p.column p.row) (reducers rows cs done ls) ≡ true

pivots_pass : (rows : ℕ) (cs : List (List ℕ)) (low : ℕ) (done : List Reducer) (ls : List Pivot) → list_all (λ p. has p.column p.row) done ≡ true
    → ((i : ℕ) (l : Pivot) → At ls i l → pivot_line_passes rows cs (next_column low (take i ls)) (reducers rows cs done (take i ls)) l ≡ true) → Passed rows cs low done ls
pivots_pass rows cs low done [] o h = record { ascend = tt; inside = λ k d l. absurd (omega (arith, l)); own = o }
pivots_pass rows cs low done (l ∷ ls) o h =
    let (h0, h1) = and_parts (leb low l.column) _ (h 0 l refl) in
    let (h2, h3) = and_parts (ltb l.column (length cs)) _ h1 in
    let (h4, h5) = and_parts (ltb l.row rows) _ h3 in
    let later = pivots_pass rows cs (suc l.column) (done ++ reducer rows cs done l ∷ []) ls (own_more done (reducer rows cs done l) o h5) (λ i m at. h (suc i) m at) in
    record {
      ascend = (leb-true low l.column h0, ltb-true l.column (length cs) h2, later.ascend);
      inside = inside (ltb-true l.row rows h4) later.inside;
      own = later.own;
    }
  where
    inside : l.row < rows → All (λ (p : Pivot). p.row < rows) ls → All (λ (p : Pivot). p.row < rows) (l ∷ ls)
    inside a b zero d lt = a
    inside a b (suc k) d lt = b k d (omega (arith, lt))

-- the rules from the generators on, one by one
record Numbers (c : Certificate) : Type 0 where
  count : c.generators ≡ length (all_generators (last_drawing c))
  some : 0 < c.generators
  pivots : Passed c.generators (last_columns c) 0 [] c.pivots
  rank : c.rank ≡ length c.pivots
  spanned : rank_line_passes c.generators (last_columns c) c.pivots ≡ true
  verdict : verdict_line_passes c.generators (last_columns c) c.verdict ≡ true

numbers_of : (c : Certificate) → keeps_all c ≡ true → Numbers c
numbers_of c h =
    let d : keep_all (drawing_rules c ++ outcome_rules c) ≡ true = (kept_parts (book_rules c) (drawing_rules c ++ outcome_rules c) h).1 in
    let (e, o) = kept_parts (drawing_rules c) (outcome_rules c) d in
    let f : keep_all (((rule limit (leb (length c.fingers) 20000) ∷ []) ∷ each (finger_rules c) c.fingers)
    ++ (each (final_rules c) c.finals ++ (generator_rules c ∷ (contact_rules c ∷ [])))) ≡ true =
    (kept_parts ((rule basis (same_names c.seams (seam_names c.polygons)) ∷ []) ∷ ((rule basis (same_list c.basis (arcs (polygon c))) ∷ []) ∷ each (strand_rules c) c.strands))
    (((rule limit (leb (length c.fingers) 20000) ∷ []) ∷ each (finger_rules c) c.fingers)
    ++ (each (final_rules c) c.finals ++ (generator_rules c ∷ (contact_rules c ∷ [])))) e).1 in
    let g : keep_all (each (final_rules c) c.finals ++ (generator_rules c ∷ (contact_rules c ∷ []))) ≡ true =
    (kept_parts ((rule limit (leb (length c.fingers) 20000) ∷ []) ∷ each (finger_rules c) c.fingers)
    (each (final_rules c) c.finals ++ (generator_rules c ∷ (contact_rules c ∷ []))) f).1 in
    let k : keep_all (generator_rules c ∷ (contact_rules c ∷ [])) ≡ true =
    (kept_parts (each (final_rules c) c.finals) (generator_rules c ∷ (contact_rules c ∷ [])) g).1 in
    let (gen, con) = and_parts (keep (generator_rules c)) (keep_all (contact_rules c ∷ [])) k in
    let (few, gen1) = and_parts (leb c.generators 20000) _ gen in
    let (count, end0) = and_parts (eqb c.generators (length (all_generators (last_drawing c)))) true gen1 in
    let (con1, end1) = and_parts (keep (contact_rules c)) true con in
    let (con2, end2) = and_parts (eqb (suc c.contact) c.generators && same_list c.points (contact_generator (last_drawing c))) true con1 in
    let (last, points) = and_parts (eqb (suc c.contact) c.generators) _ con2 in
    let (p, q) = kept_parts ((rule pivot (leb (length c.pivots) c.generators) ∷ []) ∷ each (pivot_rules c) c.pivots)
    (rank_rules c ∷ (homology_rules c ∷ (verdict_rules c ∷ ([] ∷ [])))) o in
    let (most, lines) = and_parts (keep (rule pivot (leb (length c.pivots) c.generators) ∷ [])) (keep_all (each (pivot_rules c) c.pivots)) p in
    let (r, s) = and_parts (keep (rank_rules c)) _ q in
    let (r1, end3) = and_parts (eqb c.rank (length c.pivots) && rank_line_passes c.generators (last_columns c) c.pivots) true r in
    let (r2, r3) = and_parts (eqb c.rank (length c.pivots)) _ r1 in
    let (t, u) = and_parts (keep (homology_rules c)) _ s in
    let (v, w) = and_parts (keep (verdict_rules c)) _ u in
    let (v1, end4) = and_parts (verdict_line_passes c.generators (last_columns c) c.verdict) true v in
    let z : suc c.contact ≡ c.generators = eqb-true (suc c.contact) c.generators last in
    record {
      count = eqb-true _ _ count;
      some = omega (arith, z);
      pivots = pivots_pass c.generators (last_columns c) 0 [] c.pivots refl (λ i l at.
          (and_parts (pivot_line_passes c.generators (last_columns c) (next_column 0 (take i c.pivots)) (reducers c.generators (last_columns c) [] (take i c.pivots)) l) true
          (kept_entry (pivot_rules c) 0 i c.pivots i l lines at (omega arith))).0);
      rank = eqb-true _ _ r2;
      spanned = r3;
      verdict = v1;
    }

-- the columns of a drawing ascend
pub columns_ascend : (c : Certificate) → c.generators ≡ length (all_generators (last_drawing c)) → AllAscend c.generators (last_columns c)
columns_ascend c e =
    subst (λ n. AllAscend n (last_columns c)) (sym e) (odd_columns_ascend (λ y x. length (domains (last_drawing c) y x)) (all_generators (last_drawing c)) (all_generators (last_drawing c)))

-- the number of generators
pub valid_count : (c : Certificate) → keeps_all c ≡ true → c.generators ≡ length (all_generators (last_drawing c))
valid_count c h = (numbers_of c h).count

-- the rank of the columns
pub valid_rank : (c : Certificate) (r : ℕ) → keeps_all c ≡ true → IsRank c.generators (last_columns c) r → c.rank ≡ r
valid_rank c r h rank =
    let n = numbers_of c h in
    n.rank ∙ ruled_pivots_are_rank c.generators (last_columns c) (columns_ascend c n.count) c.pivots r
    (record { ascend = n.pivots.ascend; inside = n.pivots.inside; own = n.pivots.own; complete = n.spanned }) rank

-- and the answer of the written verdict
pub valid_answer : (c : Certificate) (w : Verdict) → keeps_all c ≡ true → IsVerdict c.generators (last_columns c) w → answer_of c.verdict ≡ answer_of w
valid_answer c w h v =
    let n = numbers_of c h in
    one c.verdict w (same_kind c.generators (last_columns c) c.verdict w n.some (columns_ascend c n.count) n.verdict v)
  where
    one : (x y : Verdict) → is_chain x ≡ is_chain y → answer_of x ≡ answer_of y
    one (Chain xs) (Chain ys) e = refl
    one (Functional xs) (Functional ys) e = refl
    one (Chain xs) (Functional ys) e = cc
    one (Functional xs) (Chain ys) e = cc

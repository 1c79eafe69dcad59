-- A search point by point: what is found from the points so far, and that it is no more than what is found from all.
use Rattle.std.proofs.Common.{◌≡◌, ℕ, suc, ◌+◌, ◌<◌, ◌≤◌, Bool, true, false, cond, List, [], ◌∷◌, ◌++◌, length, take, drop, get_or, append_assoc, sym, ◌∙◌, ap, ap₂, arith}
use Rattle.std.specs.Prelude.{Result, Ok, Err, IfErr}
use Rattle.std.specs.Result.{IsErrAnd}
use Rattle.std.specs.List.{flat_map, enumerate_from}
use Rattle.std.proofs.lemmas.List.{append-nil, drop_more, length-append, length-take-le, take-append-drop, take_more}
use Rattle.std.proofs.lemmas.List.Concat.{flat_map-append}
use Rattle.generator_list.specs.declared.refusal.ListRefusal.{ListRefusal}
use Rattle.generator_list.specs.declared.refusal.ListRefusal.TheVariants.{GeneratorLimit}
use Rattle.generator_list.specs.Search.{chosen, goes_on, with_strand}

-- the lists from one point with its strand
abbrev pub from_point : List (List ℕ) → ℕ → List ℕ → ℕ × ℕ → List (List ℕ)
from_point rest used begun e = cond (goes_on rest used e.1) (chosen rest (with_strand used e.1) (begun ++ e.0 ∷ [])) []

-- the lists from the first points of an arc
abbrev pub from_first : List (List ℕ) → ℕ → List ℕ → ℕ → List ℕ → List (List ℕ)
from_first rest used begun i ss = flat_map (from_point rest used begun) (enumerate_from 0 (take i ss))

enumerate_append : (k : ℕ) (xs ys : List ℕ) → enumerate_from k (xs ++ ys) ≡ enumerate_from k xs ++ enumerate_from (k + length xs) ys
enumerate_append k [] ys = let e : k + 0 ≡ k = omega arith in ap (λ n. enumerate_from n ys) (sym e)
enumerate_append k (x ∷ xs) ys = let e : k + 1 + length xs ≡ k + suc (length xs) = omega arith in ap (λ rest. (k, x) ∷ rest) (enumerate_append (k + 1) xs ys ∙ ap (λ n. enumerate_from (k + 1) xs ++ enumerate_from n ys) e)

-- the points so far, and those after
split_at : (rest : List (List ℕ)) (used : ℕ) (begun : List ℕ) (xs ys : List ℕ)
    → flat_map (from_point rest used begun) (enumerate_from 0 (xs ++ ys)) ≡ flat_map (from_point rest used begun) (enumerate_from 0 xs) ++ flat_map (from_point rest used begun) (enumerate_from (length xs) ys)
split_at rest used begun xs ys =
    let e : 0 + length xs ≡ length xs = omega arith in
    ap (flat_map (from_point rest used begun)) (enumerate_append 0 xs ys ∙ ap (λ n. enumerate_from 0 xs ++ enumerate_from n ys) e)
    ∙ flat_map-append (from_point rest used begun) (enumerate_from 0 xs) (enumerate_from (length xs) ys)

-- one point more
first_more : (rest : List (List ℕ)) (used : ℕ) (begun ss : List ℕ) (i s : ℕ) → i < length ss → s ≡ get_or ss i s
    → from_first rest used begun (i + 1) ss ≡ from_first rest used begun i ss ++ from_point rest used begun (i, s)
first_more rest used begun ss i s l is =
    let grown : take (i + 1) ss ≡ take i ss ++ s ∷ [] = take_more ss i s l ∙ ap (λ x. take i ss ++ x ∷ []) (sym is) in
    let size : length (take i ss) ≡ i = length-take-le i ss (omega (arith, l)) in
    ap (λ xs. flat_map (from_point rest used begun) (enumerate_from 0 xs)) grown
    ∙ (split_at rest used begun (take i ss) (s ∷ []) ∙ ap (λ ys. from_first rest used begun i ss ++ ys) (append-nil (from_point rest used begun (length (take i ss), s)) ∙ ap (λ n. from_point rest used begun (n, s)) size))

-- a point that doesn't go on
pub skip_more : (rest : List (List ℕ)) (used : ℕ) (begun ss : List ℕ) (i s : ℕ) (b : Bool) (old now : List (List ℕ)) → i < length ss → s ≡ get_or ss i s → b ≡ goes_on rest used s → b ≡ false
    → now ≡ old ++ from_first rest used begun i ss → now ≡ old ++ from_first rest used begun (i + 1) ss
skip_more rest used begun ss i s b old now l is test fails so_far =
    let none : from_point rest used begun (i, s) ≡ [] = ap (λ t. cond t (chosen rest (with_strand used s) (begun ++ i ∷ [])) []) (sym test ∙ fails) in
    so_far ∙ ap (λ ys. old ++ ys) (sym (first_more rest used begun ss i s l is ∙ (ap (λ ys. from_first rest used begun i ss ++ ys) none ∙ append-nil (from_first rest used begun i ss))))

-- a point that does
run_point : (rest : List (List ℕ)) (used : ℕ) (begun ss : List ℕ) (i s set : ℕ) (longer : List ℕ) (b : Bool) → b ≡ goes_on rest used s → b ≡ true → set ≡ with_strand used s → longer ≡ begun ++ i ∷ []
    → chosen rest set longer ≡ from_point rest used begun (i, s)
run_point rest used begun ss i s set longer b test passes with one =
    ap₂ (chosen rest) with one ∙ sym (ap (λ t. cond t (chosen rest (with_strand used s) (begun ++ i ∷ [])) []) (sym test ∙ passes))

pub run_more : (rest : List (List ℕ)) (used : ℕ) (begun ss : List ℕ) (i s set : ℕ) (longer : List ℕ) (b : Bool) (old now : List (List ℕ)) → i < length ss → s ≡ get_or ss i s
    → b ≡ goes_on rest used s → b ≡ true → set ≡ with_strand used s → longer ≡ begun ++ i ∷ []
    → now ≡ old ++ from_first rest used begun i ss → now ++ chosen rest set longer ≡ old ++ from_first rest used begun (i + 1) ss
run_more rest used begun ss i s set longer b old now l is test passes with one so_far =
    ap₂ (λ xs ys. xs ++ ys) so_far (run_point rest used begun ss i s set longer b test passes with one)
    ∙ (append_assoc old (from_first rest used begun i ss) (from_point rest used begun (i, s)) ∙ ap (λ ys. old ++ ys) (sym (first_more rest used begun ss i s l is)))

-- what all points give is no less than what some of them do
pub no_fewer : (rest : List (List ℕ)) (used : ℕ) (begun ss : List ℕ) (i : ℕ) (old : List (List ℕ))
    → length (old ++ from_first rest used begun i ss) ≤ length (old ++ chosen (ss ∷ rest) used begun)
no_fewer rest used begun ss i old =
    let all : chosen (ss ∷ rest) used begun ≡ from_first rest used begun i ss ++ flat_map (from_point rest used begun) (enumerate_from (length (take i ss)) (drop i ss))
    = ap (λ xs. flat_map (from_point rest used begun) (enumerate_from 0 xs)) (sym (take-append-drop i ss)) ∙ split_at rest used begun (take i ss) (drop i ss) in
    let a = length-append old (from_first rest used begun i ss) in
    let b = length-append old (chosen (ss ∷ rest) used begun) in
    let c = ap length all ∙ length-append (from_first rest used begun i ss) (flat_map (from_point rest used begun) (enumerate_from (length (take i ss)) (drop i ss))) in
    omega (arith, a, b, c)

-- the arcs from one on
arcs_from : (arcs : List (List ℕ)) (begun ss d : List ℕ) → length begun < length arcs → ss ≡ get_or arcs (length begun) d → drop (length begun) arcs ≡ ss ∷ drop (length begun + 1) arcs
arcs_from arcs begun ss d l read = drop_more arcs (length begun) d l ∙ ap (λ x. x ∷ drop (length begun + 1) arcs) (sym read)

one_longer : (begun longer : List ℕ) (i : ℕ) → longer ≡ begun ++ i ∷ [] → length longer ≡ length begun + 1
one_longer begun longer i one = ap length one ∙ length-append begun (i ∷ [])

module _ (arcs : List (List ℕ)) (used : ℕ) (begun ss : List ℕ) (i s set : ℕ) (longer : List ℕ) (b : Bool) (old now : List (List ℕ))
    (l : i < length ss) (at : s ≡ get_or ss i s) (test : b ≡ goes_on (drop (length begun + 1) arcs) used s) where
  -- the points so far, after one that doesn't go on
  pub skipped : b ≡ false → now ≡ old ++ from_first (drop (length begun + 1) arcs) used begun i ss → now ≡ old ++ from_first (drop (length begun + 1) arcs) used begun (i + 1) ss
  skipped fails so_far = skip_more (drop (length begun + 1) arcs) used begun ss i s b old now l at test fails so_far

  module _ (passes : b ≡ true) (with : set ≡ with_strand used s) (one : longer ≡ begun ++ i ∷ [])
      (so_far : now ≡ old ++ from_first (drop (length begun + 1) arcs) used begun i ss) where
    -- and after one that does
    pub ran : now ++ chosen (drop (length longer) arcs) set longer ≡ old ++ from_first (drop (length begun + 1) arcs) used begun (i + 1) ss
    ran =
        ap (λ k. now ++ chosen (drop k arcs) set longer) (one_longer begun longer i one)
        ∙ run_more (drop (length begun + 1) arcs) used begun ss i s set longer b old now l at test passes with one so_far

    -- where too many are found from it there are too many
    pub over : (limit : ℕ) (d : List ℕ) → length begun < length arcs → ss ≡ get_or arcs (length begun) d → limit < length (now ++ chosen (drop (length longer) arcs) set longer)
        → limit < length (old ++ chosen (drop (length begun) arcs) used begun)
    over limit d la read many =
        let e = ap length ran in
        let f = no_fewer (drop (length begun + 1) arcs) used begun ss (i + 1) old in
        let g = ap (λ rest. length (old ++ chosen rest used begun)) (arcs_from arcs begun ss d la read) in
        omega (arith, e, f, g, many)

-- a refusal is handed on
pub handed_on : {T : Type 0} (Q : ℕ → Type 0) (error : ListRefusal) (result : Result T ListRefusal) → IsErrAnd result (λ e. e ≡ error)
    → ((over : ℕ) → error ≡ GeneratorLimit over → Q over) → IfErr result (λ e. (over : ℕ) → e ≡ GeneratorLimit over → Q over)
handed_on Q error (Ok done) is holds = absurd is
handed_on Q error (Err e) is holds = λ over given. holds over (sym is ∙ given)

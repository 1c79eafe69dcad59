-- Single twists one after another.
use Rattle.std.proofs.Common.{◌≡◌, ◌≢◌, ℕ, zero, suc, ◌+◌, ◌-◌, ◌<◌, ◌≤◌, List, [], ◌∷◌, length, refl, sym, ◌∙◌, ap, arith, inl, inr, min}
use Rattle.std.specs.Prelude.{Result, Ok, Err, IfErr}
use Rattle.std.specs.Result.{IsErrAnd}
use Rattle.std.proofs.lemmas.Bool.{cases_eq, cases_lt}
use Rattle.obd_base.specs.declared.points.Exit.{Exit}
use Rattle.obd_base.specs.declared.points.Sign.{Sign}
use Rattle.page_surface.specs.Polygon.{IsPolygon, Polygon}
use Rattle.curve_paths.specs.Curves.{twisted}
use Rattle.curve_paths.specs.Twists.{going_on, letters, limited, times, turned_by}
use Rattle.path_words.specs.declared.refusal.TwistRefusal.{TwistRefusal}
use Rattle.path_words.specs.declared.refusal.TwistRefusal.TheVariants.{TooLong}
use Rattle.path_words.specs.Pushes.{push_of, reduced_pushes, strands_with}
use Rattle.path_words.proofs.Tables.{strands_twisted, twice_as_once}
use Rattle.path_words.proofs.Turning.{limited_long, limited_within}

-- a curve that crosses no side changes nothing, however often
pub times_none : (p : Polygon) (sign : Sign) (n : ℕ) (ws : List (List ℕ)) → letters ws ≤ 4000 → times p [] sign n ws ≡ Ok ws
times_none p sign zero ws few = refl
times_none p sign (suc n) ws few = ap (going_on (times p [] sign n)) (limited_within ws ws refl few) ∙ times_none p sign n ws few

module _ (p : Polygon) (c : List Exit) (sign : Sign) where
  -- a curve with an exit turns the words
  pub turned_by_some : (ws : List (List ℕ)) → 1 ≤ length c → turned_by p c sign ws ≡ twisted p c sign ws
  turned_by_some ws some = by_cases c some
    where
      by_cases : (es : List Exit) → 1 ≤ length es → turned_by p es sign ws ≡ twisted p es sign ws
      by_cases [] l = let none : ⊥ = omega (arith, l) in absurd none
      by_cases (e ∷ es) l = refl

  -- with the reduced pushes of the twist set, the words are turned
  pub set_is_turned : IsPolygon p → 1 ≤ length c → (pushes : List (List ℕ)) → pushes ≡ reduced_pushes p c sign → (ws : List (List ℕ))
      → limited (strands_with p pushes ws) ≡ limited (turned_by p c sign ws)
  set_is_turned ok some pushes are ws = ap limited (strands_twisted p ok c sign pushes are ws ∙ sym (turned_by_some ws some))

  module _ (ok : IsPolygon p) (some : 1 ≤ length c) (pushes : List (List ℕ)) (are : pushes ≡ reduced_pushes p c sign) (none : (k : ℕ) → push_of pushes k ≡ []) where
    turned_twice : (ws : List (List ℕ)) → turned_by p c sign (turned_by p c sign ws) ≡ turned_by p c sign ws
    turned_twice ws =
        let is : (xs : List (List ℕ)) → turned_by p c sign xs ≡ strands_with p pushes xs = λ xs. turned_by_some xs some ∙ sym (strands_twisted p ok c sign pushes are xs) in
        is (turned_by p c sign ws) ∙ (ap (strands_with p pushes) (is ws) ∙ (twice_as_once p pushes none ws ∙ sym (is ws)))

    -- words that a twist leaves as they are stay so
    times_same : (n : ℕ) (ws : List (List ℕ)) → turned_by p c sign ws ≡ ws → letters ws ≤ 4000 → times p c sign n ws ≡ Ok ws
    times_same zero ws same few = refl
    times_same (suc n) ws same few =
        ap (going_on (times p c sign n)) (ap limited same ∙ limited_within ws ws refl few) ∙ times_same n ws same few

    -- where no push has a letter, all single twists do what one does
    times_one : (n : ℕ) (ws : List (List ℕ)) → times p c sign 1 ws ≡ times p c sign (suc n) ws
    times_one n ws = elim (cases_lt 4000 (letters (turned_by p c sign ws))) [
      | inl l ↦ (let long = limited_long (turned_by p c sign ws) _ refl l in ap (going_on (times p c sign 0)) long ∙ sym (ap (going_on (times p c sign n)) long))
      | inr l ↦
          let short = limited_within (turned_by p c sign ws) (turned_by p c sign ws) refl l in
          ap (going_on (times p c sign 0)) short ∙ sym (ap (going_on (times p c sign n)) short ∙ times_same n (turned_by p c sign ws) (turned_twice ws) l)
    ]

    times_few : (turns : ℕ) (ws : List (List ℕ)) → times p c sign (min turns 1) ws ≡ times p c sign turns ws
    times_few zero ws = let e : min 0 1 ≡ 0 = omega arith in ap (λ n. times p c sign n ws) e
    times_few (suc n) ws = let e : min (suc n) 1 ≡ 1 = omega arith in ap (λ n. times p c sign n ws) e ∙ times_one n ws

  -- so as many as are needed do what all do
  pub times_needed : IsPolygon p → 1 ≤ length c → (pushes : List (List ℕ)) → pushes ≡ reduced_pushes p c sign → (turns needed : ℕ)
      → (needed ≢ turns → needed ≡ min turns 1) → (needed ≢ turns → (k : ℕ) → push_of pushes k ≡ []) → (ws : List (List ℕ)) → times p c sign needed ws ≡ times p c sign turns ws
  times_needed ok some pushes are turns needed few none ws = elim (cases_eq needed turns) [
    | inl e ↦ ap (λ n. times p c sign n ws) e
    | inr ne ↦ ap (λ n. times p c sign n ws) (few ne) ∙ times_few ok some pushes are (none ne) turns ws
  ]

  -- what is left starts with one single twist
  pub times_next : (turns turn : ℕ) (ws : List (List ℕ)) → turn < turns → times p c sign (turns - turn) ws ≡ going_on (times p c sign (turns - (turn + 1))) (limited (turned_by p c sign ws))
  times_next turns turn ws left = let e : turns - turn ≡ suc (turns - (turn + 1)) = omega arith in ap (λ n. times p c sign n ws) e

  -- words that are turned once more
  pub times_more : (turns turn : ℕ) (first ws now : List (List ℕ)) → turn < turns → times p c sign turns first ≡ times p c sign (turns - turn) ws
      → limited (turned_by p c sign ws) ≡ Ok now → times p c sign turns first ≡ times p c sign (turns - (turn + 1)) now
  times_more turns turn first ws now left before turned =
      before ∙ (times_next turns turn ws left ∙ ap (going_on (times p c sign (turns - (turn + 1)))) turned)

  -- words that become too long
  pub times_long : (turns turn count : ℕ) (first ws : List (List ℕ)) → turn < turns → times p c sign turns first ≡ times p c sign (turns - turn) ws
      → limited (turned_by p c sign ws) ≡ Err count → times p c sign turns first ≡ Err count
  times_long turns turn count first ws left before long =
      before ∙ (times_next turns turn ws left ∙ ap (going_on (times p c sign (turns - (turn + 1)))) long)

  -- nothing is left
  pub times_all : (turns turn : ℕ) (first now : List (List ℕ)) → turn ≡ turns → times p c sign turns first ≡ times p c sign (turns - turn) now → times p c sign turns first ≡ Ok now
  times_all turns turn first now end before = let e : turns - turn ≡ zero = omega (arith, end) in before ∙ ap (λ n. times p c sign n now) e

-- what an error says that is handed on
pub handed_on : {T : Type 0} (Q : ℕ → Type 0) (error : TwistRefusal) (result : Result T TwistRefusal) → IsErrAnd result (λ e. e ≡ error)
    → ((count : ℕ) → error ≡ TooLong count → Q count) → IfErr result (λ e. (count : ℕ) → e ≡ TooLong count → Q count)
handed_on Q error (Ok words) is holds = absurd is
handed_on Q error (Err e) is holds = λ count given. holds count (sym is ∙ given)

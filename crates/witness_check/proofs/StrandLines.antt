-- The rules of the strand lines, by the words and the drawing.
use Rattle.std.proofs.Common.{◌≡◌, ◌≢◌, ◌&&◌, eqb, ◌<◌, ◌≤◌, ◌+◌, ◌-◌, ℕ, suc, Bool, true, false, List, [], ◌∷◌, ◌++◌, length, map, get_or, Option, None, Some, refl, sym, ◌∙◌, ap, subst, arith, zero, inl, inr}
use Rattle.std.specs.Prelude.{All, Result, Ok, Err, IfErr, IfNone, IfOk, IfSome, OnOk, slice_index_or, nat_lt}
use Rattle.std.specs.Result.{IsErrAnd}
use Rattle.std.specs.List.{flat_map, list_all}
use Rattle.std.proofs.lemmas.Bool.{cases_Bool, false≢true, lt-ltb, and_left, and_right}
use Rattle.std.proofs.lemmas.List.{get_or-map, length-append, length-map, same_lists}
use Rattle.std.proofs.lemmas.List.Elements.{All-tail}
use Rattle.std.proofs.lemmas.List.Folds.{list_all-append}
use Rattle.std.proofs.lemmas.List.Sums.{sum_by-cons}
use Rattle.obd_base.specs.declared.points.Exit.{Exit}
use Rattle.obd_base.specs.Lists.{below}
use Rattle.obd_base.proofs.lists.Below.{all_below}
use Rattle.page_surface.specs.Drawing.{Drawing, IsEmbedded, all_exits, chords, has_right_places, is_embedded, is_placed, no_two_cross, right_on}
use Rattle.page_surface.specs.Polygon.{Polygon, arc_count, sides}
use Rattle.curve_paths.specs.Twists.{AreWords, letters}
use Rattle.drawing.specs.Layout.{drawn}
use Rattle.drawing.specs.Reading.{Says}
use Rattle.drawing.specs.Room.{Roomy}
use Rattle.drawing.specs.declared.refusal.DrawRefusal.{DrawRefusal}
use Rattle.drawing.specs.declared.refusal.DrawRefusal.TheVariants.{PlaceWrong, Crosses, NotCut, NoMemory}
use Rattle.drawing.proofs.Laws.{always_cut}
use Rattle.mod2_rank.specs.Linear.{same_list}
use Rattle.mod2_rank.proofs.Members.{same_list_itself, same_list_true}
use Rattle.witness_check.specs.declared.certificate.Certificate.{Certificate}
use Rattle.witness_check.specs.declared.checked.Reason.TheVariants.{Drawing as drawing}
use Rattle.witness_check.specs.Checked.{first_fault}
use Rattle.witness_check.specs.DrawingRules.{BeginsStrands, HasStrands, word_rule, word_rules}
use Rattle.witness_check.specs.Rules.{each, rule, strand_rules}
use Rattle.witness_check.specs.Written.{first_drawing, last_words}
use Rattle.witness_check.proofs.LastRules.{EndsBy}
use Rattle.witness_check.proofs.FirstFaults.{before_last, kept_at, then_last, with_last}

-- a list of numbers of which one fails
not_all_below : (p : ℕ → Bool) (n k : ℕ) → k < n → p k ≡ false → list_all p (below n) ≡ false
not_all_below p n k within fails = elim (cases_Bool (list_all p (below n))) [
  | inl h ↦ absurd (false≢true (sym fails ∙ all_below p n h k within))
  | inr h ↦ h
]

-- strands that are refused are no embedded drawing
refused_drawing : (d : Drawing) (refusal : DrawRefusal) → Says d refusal → refusal ≢ NoMemory → is_embedded d ≡ false
refused_drawing d (PlaceWrong side) says other =
    and_left (is_placed d) (no_two_cross (chords d))
    (and_right (eqb (length d.strands) (arc_count d.polygon)) (list_all (λ e. nat_lt e.side (sides d.polygon)) (all_exits d) && has_right_places d)
    (and_right (list_all (λ e. nat_lt e.side (sides d.polygon)) (all_exits d)) (has_right_places d) (not_all_below (right_on d) (sides d.polygon) side says.side says.wrong)))
refused_drawing d Crosses says other = and_right (is_placed d) (no_two_cross (chords d)) says.1
refused_drawing d (NotCut reached all) (embedded, uncut, reach, counted) other = absurd (uncut (always_cut d embedded))
refused_drawing d NoMemory says other = absurd (other refl)

-- whether two lists are one, by its test
pub one_list : (b : Bool) (xs ys : List ℕ) → (b ≡ true → xs ≡ ys) × (xs ≡ ys → b ≡ true) → b ≡ same_list xs ys
one_list b xs ys is = elim (cases_Bool (same_list xs ys)) [
  | inl h ↦ is.1 (same_list_true xs ys h) ∙ sym h
  | inr h ↦ elim (cases_Bool b) [
    | inl same ↦ absurd (false≢true (sym h ∙ subst (λ zs. same_list xs zs ≡ true) (is.0 same) (same_list_itself xs)))
    | inr other ↦ other ∙ sym h
  ]
]

-- an item that is there, whatever stands for one that isn't, and one that isn't there
pub other_default : {A : Type 0} (xs : List A) (i : ℕ) (d e : A) → i < length xs → get_or xs i d ≡ get_or xs i e
other_default [] i d e within = absurd (omega (arith, within))
other_default (y ∷ xs) zero d e within = refl
other_default (y ∷ xs) (suc i) d e within = other_default xs i d e (omega (arith, within))

pub read_past : {A : Type 0} (xs : List A) (i : ℕ) (d : A) → length xs ≤ i → get_or xs i d ≡ d
read_past [] i d past = refl
read_past (y ∷ xs) zero d past = absurd (omega (arith, past))
read_past (y ∷ xs) (suc i) d past = read_past xs i d (omega (arith, past))

-- strand lines before the last one have the rule of the word alone
pub strands_begun : (words : List (List ℕ)) (read : List (List Exit)) (c : Certificate) → BeginsStrands words read c
    → first_fault (each (strand_rules c) read) ≡ first_fault (each (word_rules words) read)
strands_begun words read c is =
    before_last (word_rule (last_words c)) (length c.strands) (rule drawing (is_embedded (first_drawing c))) c.strands read is.more is.next is.strands_are refl
    ∙ ap (λ ws. first_fault (each (word_rules ws) read)) is.words_are

-- all strand lines, of which there is one: the rule of the drawing comes last
pub strands_whole : (p : Polygon) (words : List (List ℕ)) (strands : List (List Exit)) → 1 ≤ length strands
    → EndsBy (HasStrands p words strands) (λ c. each (strand_rules c) strands) (word_rule words) (rule drawing (is_embedded (drawn p strands))) strands
strands_whole p words strands some c is =
    let own = word_rule (last_words c) in
    let last = rule drawing (is_embedded (first_drawing c)) in
    with_last own (length c.strands) last strands (length strands - 1) (ap length is.strands_are) (omega (arith, some))
    ∙ (λ i. then_last (word_rule (is.words_are i)) (length (is.strands_are i)) (rule drawing (is_embedded (drawn (is.polygon_is i) (is.strands_are i)))) (length strands - 1)
    (first_fault (each (word_rules (is.words_are i)) strands)))

-- whether a strand line has its word, by the exits as they are lent
pub word_keeps : (words : List (List ℕ)) (i : ℕ) (exits lent : List Exit) → lent ≡ exits
    → (word_rule words i exits).keeps ≡ same_list (map (λ (e : Exit). e.side) lent) (slice_index_or words i [])
word_keeps words i exits lent is = ap (λ (es : List Exit). same_list (map (λ (e : Exit). e.side) es) (slice_index_or words i [])) (sym is)

-- the letters of the words of some exits are as many as these
letters_rows : (ss : List (List Exit)) → letters (map (map (λ (e : Exit). e.side)) ss) ≡ length (flat_map (λ (s : List Exit). s) ss)
letters_rows [] = refl
letters_rows (s ∷ ss) =
    let side = λ (e : Exit). e.side in
    let rest = flat_map (λ (s : List Exit). s) ss in
    let one : letters (map (map side) (s ∷ ss)) ≡ length (map side s) + letters (map (map side) ss) = sum_by-cons length (map side s) (map (map side) ss) in
    let all : length (flat_map (λ (s : List Exit). s) (s ∷ ss)) ≡ length (s ++ rest) = refl in
    omega (arith, one, all, letters_rows ss, length-map s side, length-append s rest)

-- exits whose sides are letters of the polygon are on its sides
row_on : (n : ℕ) (es : List Exit) → All (λ k. k < n) (map (λ (e : Exit). e.side) es) → list_all (λ (e : Exit). nat_lt e.side n) es ≡ true
row_on n [] on = refl
row_on n (e ∷ es) on =
    let one : e.side < n = on 0 0 (omega arith) in
    rw (lt-ltb e.side n one) (row_on n es (All-tail (λ k. k < n) e.side (map (λ (e : Exit). e.side) es) on))

rows_on : (n : ℕ) (ss : List (List Exit)) → All (All (λ k. k < n)) (map (map (λ (e : Exit). e.side)) ss) → list_all (λ (e : Exit). nat_lt e.side n) (flat_map (λ (s : List Exit). s) ss) ≡ true
rows_on n [] on = refl
rows_on n (s ∷ ss) on =
    let one : All (λ k. k < n) (map (λ (e : Exit). e.side) s) = on 0 [] (omega arith) in
    let rest = rows_on n ss (All-tail (All (λ k. k < n)) (map (λ (e : Exit). e.side) s) (map (map (λ (e : Exit). e.side)) ss) on) in
    list_all-append (λ (e : Exit). nat_lt e.side n) s (flat_map (λ (s : List Exit). s) ss) ∙ rw (row_on n s one, rest) refl

module _ (p : Polygon) (words : List (List ℕ)) (are : AreWords p words) (strands : List (List Exit)) (each_one : length strands ≡ arc_count p)
    (none : first_fault (each (word_rules words) strands) ≡ None) where
  -- strand lines that keep the rule of the word have the words
  pub words_are : map (map (λ (e : Exit). e.side)) strands ≡ words
  words_are =
      let side = λ (e : Exit). e.side in
      let long : length (map (map side) strands) ≡ length strands = length-map strands (map side) in
      same_lists (map (map side) strands) words (omega (arith, long, each_one, are.each)) (λ i d within.
      let inside : i < length strands = omega (arith, within, long) in
      let there : i < length words = omega (arith, inside, each_one, are.each) in
      get_or-map (map side) strands i [] d inside
      ∙ (same_list_true (map side (get_or strands i [])) (get_or words i []) (kept_at (word_rule words) strands i (get_or strands i []) none inside (other_default strands i [] (get_or strands i []) inside))
      ∙ other_default words i [] d there))

  -- so they are on sides
  pub exits_on : list_all (λ (e : Exit). nat_lt e.side (sides p)) (all_exits (drawn p strands)) ≡ true
  exits_on = rows_on (sides p) strands (subst (All (All (λ k. k < sides p))) (sym words_are) are.in_range)

  -- and few
  pub exits_few : length (all_exits (drawn p strands)) ≤ 4000
  exits_few = omega (arith, letters_rows strands, ap letters words_are, are.few)

module _ {E : Type 0} (d e : Drawing) (same : e ≡ d) where
  -- what a reading tells of the drawing that is kept of it, where memory isn't wanting
  pub kept_drawing : (read : Result Roomy DrawRefusal) (kept : Result (Option Roomy) E) → IfOk kept (λ k. IfSome k (λ made. read ≡ Ok made)) → IfOk read (λ made. made.drawing ≡ e)
      → IfOk kept (λ k. IfSome k (λ made. made.drawing ≡ d))
  kept_drawing read (Ok (Some made)) some is = subst (λ r. IfOk r (λ (m : Roomy). m.drawing ≡ e)) some is ∙ same
  kept_drawing read (Ok None) some is = tt
  kept_drawing read (Err x) some is = tt

  pub kept_embedded : (read : Result Roomy DrawRefusal) (kept : Result (Option Roomy) E) → IfOk kept (λ k. IfSome k (λ made. read ≡ Ok made)) → OnOk read (IsEmbedded e)
      → IfOk kept (λ k. IfSome k (λ made. IsEmbedded d))
  kept_embedded read (Ok (Some made)) some is = subst IsEmbedded same (subst (λ r. OnOk r (IsEmbedded e)) some is)
  kept_embedded read (Ok None) some is = tt
  kept_embedded read (Err x) some is = tt

  pub kept_refused : (read : Result Roomy DrawRefusal) (kept : Result (Option Roomy) E) → IfOk kept (λ k. IfNone k (IsErrAnd read (λ refusal. refusal ≢ NoMemory))) → IfErr read (Says e)
      → IfOk kept (λ k. IfNone k (is_embedded d ≡ false))
  kept_refused read (Ok (Some made)) none says = tt
  kept_refused (Ok made) (Ok None) none says = absurd none
  kept_refused (Err refusal) (Ok None) none says = ap is_embedded (sym same) ∙ refused_drawing e refusal says none
  kept_refused read (Err x) none says = tt

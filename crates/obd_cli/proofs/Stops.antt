-- What stands in place of the certificate of a book's first drawing.
use Rattle.std.proofs.Common.{◌≡◌, ℕ, ◌+◌, ◌<◌, ◌≤◌, Bool, true, false, cond, List, length, Option, None, Some, Result, Ok, Err, refl, sym, ◌∙◌, ap, arith}
use Rattle.std.specs.Prelude.{nat_lt}
use Rattle.std.proofs.lemmas.Bool.{le-ltb, lt-ltb, ltb-false, ltb-true}
use Rattle.std.proofs.lemmas.Option.{same_Some}
use Rattle.page_surface.specs.Drawing.{Drawing}
use Rattle.drawing.specs.Fingers.{replayed}
use Rattle.drawing.specs.Points.{generators}
use Rattle.region_table.specs.Nice.{weight}
use Rattle.curve_paths.specs.declared.twist.TooLong.{TooLong}
use Rattle.handle_slide.specs.declared.slid.Slid.{Slid}
use Rattle.nice_plan.specs.Strategy.{strategy, within_limit}
use Rattle.obd_doc.specs.declared.book.Book.{Book}
use Rattle.obd_doc.specs.declared.limits.Limits.{Limits}
use Rattle.witness_check.specs.declared.certificate.Certificate.{Certificate}
use Rattle.obd_cli.specs.Answers.{has_text}
use Rattle.obd_cli.specs.Decisions.{drawing_of, over_budget, over_limit, stopped, stopped_last}
use Rattle.obd_cli.specs.Run.{drawing_status, words_status}
use Rattle.obd_cli.proofs.Answering.{AnswersDrawing, AnswersWords, Certifies}
use Rattle.obd_cli.specs.Steps.{last_of}
use Rattle.obd_cli.specs.declared.status.Answer.{Answer}
use Rattle.obd_cli.specs.declared.status.Status.{Status}
use Rattle.obd_cli.specs.declared.status.Status.TheVariants as status

-- the answer to a strategy that takes too many fingers
abbrev pub budget_of : Limits → Drawing → Answer
budget_of limits d = over_budget limits.moves (weight (replayed d (within_limit limits.moves d)))

module _ (limit : ℕ) (last : Drawing) where
  -- too many generators,
  pub stopped_over : limit < length (generators last) → stopped_last limit last ≡ Some (over_limit (limit + 1))
  stopped_over more = let above : nat_lt limit (length (generators last)) ≡ true = lt-ltb limit (length (generators last)) more in rw above refl

  -- or not
  pub not_stopped : length (generators last) ≤ limit → stopped_last limit last ≡ None
  not_stopped few = let within : nat_lt limit (length (generators last)) ≡ false = le-ltb limit (length (generators last)) few in rw within refl

module _ (limits : Limits) (d : Drawing) where
  -- too many fingers,
  pub stopped_long : limits.moves < length (strategy d) → stopped limits d ≡ Some (over_budget limits.moves (weight (replayed d (within_limit limits.moves d))))
  stopped_long more = let above : nat_lt limits.moves (length (strategy d)) ≡ true = lt-ltb limits.moves (length (strategy d)) more in rw above refl

  -- or the last drawing decides
  pub stopped_later : length (strategy d) ≤ limits.moves → stopped limits d ≡ stopped_last limits.generators (last_of d)
  stopped_later few = let within : nat_lt limits.moves (length (strategy d)) ≡ false = le-ltb limits.moves (length (strategy d)) few in rw within refl

-- what each of two tests gives
module _ (x y other : Answer) (first : x.status ≡ status.MoveBudget) (second : y.status ≡ status.GeneratorLimit) where
  -- with MoveBudget the first did
  first_gives : (b c : Bool) → cond b (Some x) (cond c (Some y) None) ≡ Some other → other.status ≡ status.MoveBudget → (b ≡ true) × (other ≡ x)
  first_gives true c is ends = (refl, sym (same_Some x other is))
  first_gives false true is ends = absurd (let bad = sym second ∙ (ap (λ (a : Answer). a.status) (same_Some y other is) ∙ ends) in cc)
  first_gives false false is ends = absurd (let bad = is in cc)

  -- with GeneratorLimit the second did
  second_gives : (b c : Bool) → cond b (Some x) (cond c (Some y) None) ≡ Some other → other.status ≡ status.GeneratorLimit → (b ≡ false) × (c ≡ true) × (other ≡ y)
  second_gives true c is ends = absurd (let bad = sym first ∙ (ap (λ (a : Answer). a.status) (same_Some x other is) ∙ ends) in cc)
  second_gives false true is ends = (refl, refl, sym (same_Some y other is))
  second_gives false false is ends = absurd (let bad = is in cc)

  -- and none gives Done
  none_gives : (b c : Bool) → cond b (Some x) (cond c (Some y) None) ≡ Some other → other.status ≡ status.Done → ⊥
  none_gives true c is ends = let bad = sym first ∙ (ap (λ (a : Answer). a.status) (same_Some x other is) ∙ ends) in cc
  none_gives false true is ends = let bad = sym second ∙ (ap (λ (a : Answer). a.status) (same_Some y other is) ∙ ends) in cc
  none_gives false false is ends = let bad = is in cc

-- where no test holds
none_holds : (x y : Answer) (b c : Bool) → cond b (Some x) (cond c (Some y) None) ≡ None → (b ≡ false) × (c ≡ false)
none_holds x y true c is = absurd (let bad = is in cc)
none_holds x y false true is = absurd (let bad = is in cc)
none_holds x y false false is = (refl, refl)

module _ (limits : Limits) (d : Drawing) where
  -- the tests
  abbrev long : Bool
  long = nat_lt limits.moves (length (strategy d))

  abbrev many : Bool
  many = nat_lt limits.generators (length (generators (last_of d)))

  -- a drawing that nothing stops keeps both limits,
  pub passed : stopped limits d ≡ None → (length (strategy d) ≤ limits.moves) × (length (generators (last_of d)) ≤ limits.generators)
  passed is =
      let (short, few) = none_holds (budget_of limits d) (over_limit (limits.generators + 1)) long many is in
      (omega (arith, ltb-false limits.moves (length (strategy d)) short), omega (arith, ltb-false limits.generators (length (generators (last_of d))) few))

  -- and one that keeps both is stopped by nothing
  pub nothing_stops : length (strategy d) ≤ limits.moves → length (generators (last_of d)) ≤ limits.generators → stopped limits d ≡ None
  nothing_stops short few = stopped_later limits d short ∙ not_stopped limits.generators (last_of d) few

  module _ (other : Answer) (is : stopped limits d ≡ Some other) where
    -- MoveBudget answers too many fingers
    pub stopped_budget : other.status ≡ status.MoveBudget → (limits.moves < length (strategy d)) × (other ≡ over_budget limits.moves (weight (replayed d (within_limit limits.moves d))))
    stopped_budget ends =
        let (more, same) = first_gives (budget_of limits d) (over_limit (limits.generators + 1)) other refl refl long many is ends in
        (ltb-true limits.moves (length (strategy d)) more, same)

    -- GeneratorLimit answers too many generators
    pub stopped_limited : other.status ≡ status.GeneratorLimit
        → (length (strategy d) ≤ limits.moves) × (limits.generators < length (generators (last_of d))) × (other ≡ over_limit (limits.generators + 1))
    stopped_limited ends =
        let (short, more, same) = second_gives (budget_of limits d) (over_limit (limits.generators + 1)) other refl refl long many is ends in
        (omega (arith, ltb-false limits.moves (length (strategy d)) short), ltb-true limits.generators (length (generators (last_of d))) more, same)

    -- and none answers with Done
    pub never_done : other.status ≡ status.Done → ⊥
    never_done ends = none_gives (budget_of limits d) (over_limit (limits.generators + 1)) other refl refl long many is ends

-- an answer to a drawing with Done has a certificate
pub drawing_done : (tells : Certificate → List ℕ) (book : Book) (d : Drawing) (other : Option Answer) (answer : Answer) → stopped book.limits d ≡ other → AnswersDrawing tells book other answer → answer.status ≡ status.Done → Certifies tells book answer
drawing_done tells book d None answer is certifies ends = certifies
drawing_done tells book d (Some other) answer is same ends = absurd (never_done book.limits d other is (sym (ap (λ (a : Answer). a.status) same) ∙ ends))

-- since nothing stops it
pub drawing_passed : (tells : Certificate → List ℕ) (book : Book) (d : Drawing) (other : Option Answer) (answer : Answer) → stopped book.limits d ≡ other → AnswersDrawing tells book other answer → answer.status ≡ status.Done → stopped book.limits d ≡ None
drawing_passed tells book d None answer is certifies ends = is
drawing_passed tells book d (Some other) answer is same ends = absurd (never_done book.limits d other is (sym (ap (λ (a : Answer). a.status) same) ∙ ends))

-- and so has one to words
pub words_done : (tells : Certificate → List ℕ) (book : Book) (s : Slid) (found : Result (List (List ℕ)) TooLong) (answer : Answer) → AnswersWords tells book s found answer → answer.status ≡ status.Done → Certifies tells book answer
words_done tells book s (Err long) answer is ends = absurd (let bad = sym ends ∙ ap (λ (a : Answer). a.status) is in cc)
words_done tells book s (Ok words) answer (first, answers) ends = drawing_done tells book (drawing_of s words) (stopped book.limits (drawing_of s words)) answer refl answers ends

-- an answer to a drawing has the status that goes with it
pub drawing_answered : (tells : Certificate → List ℕ) (book : Book) (other : Option Answer) (answer : Answer) → AnswersDrawing tells book other answer → answer.status ≡ drawing_status other
drawing_answered tells book (Some other) answer is = ap (λ (a : Answer). a.status) is
drawing_answered tells book None answer certifies = certifies.done

-- and so has one to words
pub words_answered : (tells : Certificate → List ℕ) (book : Book) (s : Slid) (found : Result (List (List ℕ)) TooLong) (answer : Answer) → AnswersWords tells book s found answer → answer.status ≡ words_status book s found
words_answered tells book s (Err long) answer is = ap (λ (a : Answer). a.status) is
words_answered tells book s (Ok words) answer (first, answers) = drawing_answered tells book (stopped book.limits (drawing_of s words)) answer answers

-- which is one with a text
cond_settled : (b : Bool) (x y : Option Answer) → has_text (drawing_status x) ≡ true → has_text (drawing_status y) ≡ true → has_text (drawing_status (cond b x y)) ≡ true
cond_settled true x y a b = a
cond_settled false x y a b = b

stopped_settled : (limits : Limits) (d : Drawing) → has_text (drawing_status (stopped limits d)) ≡ true
stopped_settled limits d = cond_settled (nat_lt limits.moves (length (strategy d))) _ _ refl
    (cond_settled (nat_lt limits.generators (length (generators (last_of d)))) _ _ refl refl)

pub status_settled : (book : Book) (s : Slid) (found : Result (List (List ℕ)) TooLong) → has_text (words_status book s found) ≡ true
status_settled book s (Err long) = refl
status_settled book s (Ok words) = stopped_settled book.limits (drawing_of s words)

pub words_settled : (tells : Certificate → List ℕ) (book : Book) (s : Slid) (found : Result (List (List ℕ)) TooLong) (answer : Answer) → AnswersWords tells book s found answer → has_text answer.status ≡ true
words_settled tells book s found answer answers = ap has_text (words_answered tells book s found answer answers) ∙ status_settled book s found

-- and isn't another one
module _ (ends : Status) (not_done : status.Done ≡ ends → ⊥) (not_refused : status.Refused ≡ ends → ⊥) (not_budget : status.MoveBudget ≡ ends → ⊥) (not_limit : status.GeneratorLimit ≡ ends → ⊥) where
  cond_never : (b : Bool) (x y : Option Answer) → (drawing_status x ≡ ends → ⊥) → (drawing_status y ≡ ends → ⊥) → drawing_status (cond b x y) ≡ ends → ⊥
  cond_never true x y a b is = a is
  cond_never false x y a b is = b is

  pub words_never : (book : Book) (s : Slid) (found : Result (List (List ℕ)) TooLong) → words_status book s found ≡ ends → ⊥
  words_never book s (Err long) is = not_refused is
  words_never book s (Ok words) is =
      let d = drawing_of s words in
      cond_never (nat_lt book.limits.moves (length (strategy d))) _ _ not_budget
      (cond_never (nat_lt book.limits.generators (length (generators (last_of d)))) _ _ not_limit not_done) is

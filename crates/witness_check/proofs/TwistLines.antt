-- The rules of the twist lines, by the words after the first entries.
use Rattle.std.proofs.Common.{◌≡◌, ℕ, zero, suc, ◌+◌, ◌^◌, ◌<◌, ◌≤◌, Bool, true, false, cond, not, ltb, ◌&&◌, List, [], ◌∷◌, ◌++◌, map, length, length-take-le, take, get_or, Option, Some, None, Result, Ok, Err, refl, sym, ◌∙◌, ap, ap₂, arith, subst, inl, inr}
use Rattle.std.specs.Prelude.{is_ok, pos, position, unwrap_or}
use Rattle.std.specs.List.{list_any, position_or_len}
use Rattle.std.specs.Result.{result_unwrap_or}
use Rattle.std.specs.Str.{bytes_eq}
use Rattle.std.proofs.lemmas.Bool.{cases_Bool, cases_lt, ltb-false}
use Rattle.std.proofs.lemmas.List.{take_all}
use Rattle.obd_base.specs.declared.points.Exit.{Exit}
use Rattle.page_surface.specs.Polygon.{Polygon}
use Rattle.page_surface.proofs.Keys.{list_any-map, position_or_len-map}
use Rattle.curve_paths.specs.Curves.{identity_words}
use Rattle.curve_paths.specs.Twists.{by_entries, by_power, exits_of, going_on, numbered as at_entry, words_after}
use Rattle.curve_paths.specs.declared.named.NamedPath.{NamedPath}
use Rattle.curve_paths.specs.declared.named.NamedTwist.{NamedTwist}
use Rattle.curve_paths.specs.declared.twist.TooLong.{TooLong}
use Rattle.curve_paths.specs.declared.twist.Twist.{Twist}
use Rattle.handle_slide.specs.declared.slid.Slid.{Slid}
use Rattle.witness_check.specs.declared.certificate.Certificate.{Certificate}
use Rattle.witness_check.specs.declared.checked.Reason.TheVariants.{Limit as limit, Twist as twist}
use Rattle.witness_check.specs.BookRules.{AreEntries, TwistsCome, WordsAre, curve_number, is_curve_name, is_entry, numbered, words_of}
use Rattle.witness_check.specs.Checked.{first_broken}
use Rattle.witness_check.specs.OpenBook.{curve_names}
use Rattle.witness_check.specs.Rules.{Rule, is_power, rule, twist_rules}
use Rattle.witness_check.specs.Written.{last_words, own_book, surface, words_by}
use Rattle.witness_check.proofs.CheckLaws.{take_less}
use Rattle.witness_check.proofs.EachLine.{Breaks, breaks_here, breaks_later, fault_at, no_fault, same_at}
use Rattle.witness_check.proofs.Prefixes.{take_within}

-- one entry more
pub one_more_entry : (curves : List NamedPath) (twists : List NamedTwist) (k : ℕ) (x : NamedTwist) → k < length twists → x ≡ get_or twists k x → is_entry curves x ≡ true
    → ((i : ℕ) (d : NamedTwist) → i < k → is_entry curves (get_or twists i d) ≡ true) → (i : ℕ) (d : NamedTwist) → i < k + 1 → is_entry curves (get_or twists i d) ≡ true
one_more_entry curves twists k x within is so all i d l = elim (cases_lt i k) [
  | inl less ↦ all i d less
  | inr same ↦ (let one : i ≡ k = omega (arith, l, same) in
      subst (λ j. is_entry curves (get_or twists j d) ≡ true) (sym one) (subst (λ y. is_entry curves y ≡ true) (is ∙ same_at twists k x d within) so))
]

-- the first place that passes, or how many there are
at_most : {A : Type 0} (p : A → Bool) (xs : List A) → position_or_len p xs ≤ length xs
at_most p [] = omega arith
at_most p (x ∷ xs) = go (p x) (at_most p xs)
  where
    go : (b : Bool) → position_or_len p xs ≤ length xs → cond (not b) (1 + position_or_len p xs) 0 ≤ suc (length xs)
    go true rest = omega arith
    go false rest = omega (arith, rest)

pub place_or_count : {A : Type 0} (p : A → Bool) (xs : List A) → unwrap_or (position p xs) (length xs) ≡ position_or_len p xs
place_or_count p xs = elim (cases_Bool (ltb (position_or_len p xs) (length xs))) [
  | inl less ↦ rw less refl
  | inr more ↦ (let least = ltb-false (position_or_len p xs) (length xs) more in rw more (omega (arith, least, at_most p xs)))
]

module _ (p : Polygon) (cs : List (List Exit)) (curves : List NamedPath) where
  -- where the words after all entries aren't too long, those after the first ones aren't
  short : (n : ℕ) (twists : List NamedTwist) (ws now : List (List ℕ)) → by_entries p cs n (numbered curves twists) ws ≡ Ok now
      → (i : ℕ) → is_ok (by_entries p cs n (numbered curves (take i twists)) ws) ≡ true
  short n twists ws now all zero = refl
  short n [] ws now all (suc i) = refl
  short n (t ∷ twists) ws now all (suc i) =
      go (by_power p (get_or cs (curve_number curves t.name) []) t.power ws) all (λ next rest. short (suc n) twists next now rest i)
    where
      step : Result (List (List ℕ)) ℕ → List NamedTwist → Result (List (List ℕ)) TooLong
      step turned rest = going_on (by_entries p cs (suc n) (numbered curves rest)) (at_entry n turned)

      go : (turned : Result (List (List ℕ)) ℕ) → step turned twists ≡ Ok now
          → ((next : List (List ℕ)) → by_entries p cs (suc n) (numbered curves twists) next ≡ Ok now → is_ok (by_entries p cs (suc n) (numbered curves (take i twists)) next) ≡ true)
          → is_ok (step turned (take i twists)) ≡ true
      go (Ok next) rest more = more next rest
      go (Err count) rest more = absurd (let bad : step (Err count) twists ≡ Ok now = rest in cc)

  -- the entry after which they are too long is the first one
  long : (n : ℕ) (twists : List NamedTwist) (ws : List (List ℕ)) (l : TooLong) → by_entries p cs n (numbered curves twists) ws ≡ Err l
      → (k : ℕ) × (l.twist ≡ n + k) × Breaks (λ some. is_ok (by_entries p cs n (numbered curves some) ws)) twists k
  long n [] ws l e = absurd (let bad : Ok ws ≡ Err l = e in cc)
  long n (t ∷ twists) ws l e =
      go (by_power p (get_or cs (curve_number curves t.name) []) t.power ws) refl e (λ next rest. long (suc n) twists next l rest)
    where
      Rest : List (List ℕ) → Type 0
      Rest next = (k : ℕ) × (l.twist ≡ suc n + k) × Breaks (λ some. is_ok (by_entries p cs (suc n) (numbered curves some) next)) twists k

      step : Result (List (List ℕ)) ℕ → List NamedTwist → Result (List (List ℕ)) TooLong
      step turned rest = going_on (by_entries p cs (suc n) (numbered curves rest)) (at_entry n turned)

      go : (turned : Result (List (List ℕ)) ℕ) → by_power p (get_or cs (curve_number curves t.name) []) t.power ws ≡ turned → step turned twists ≡ Err l
          → ((next : List (List ℕ)) → by_entries p cs (suc n) (numbered curves twists) next ≡ Err l → Rest next)
          → (k : ℕ) × (l.twist ≡ n + k) × Breaks (λ some. is_ok (by_entries p cs n (numbered curves some) ws)) (t ∷ twists) k
      go (Ok next) is told more =
          let (k, at, b) = more next told in (
            suc k,
            omega (arith, at),
            breaks_later (λ some. is_ok (by_entries p cs n (numbered curves some) ws)) (λ some. is_ok (by_entries p cs (suc n) (numbered curves some) next)) t twists k refl
                (λ ys. ap (λ turned. is_ok (step turned ys)) is) b,
          )
      go (Err count) is told more =
          let that : record { twist = n; letters = count } ≡ l = (let e : Err (record { twist = n; letters = count }) ≡ Err l = told in cc) in
          let number : l.twist ≡ n = ap (λ x. x.twist) (sym that) in
          (0, omega (arith, number), breaks_here (λ some. is_ok (by_entries p cs n (numbered curves some) ws)) t twists refl (ap (λ turned. is_ok (step turned [])) is))

module _ (s : Slid) (curves : List NamedPath) where
  -- the words of a certificate that has the surface and the curves
  words_are_of : (c : Certificate) → surface c ≡ s → c.curves ≡ curves → (twists : List NamedTwist) → words_by c twists ≡ words_of s curves twists
  words_are_of c on are twists =
      ap₂ (λ (z : Slid) (es : List Twist). words_after z.polygon (map exits_of z.curves) es) on
      (ap (λ (cs : List NamedPath). map (λ (t : NamedTwist). record { curve = position_or_len (bytes_eq t.name) (map (λ (x : NamedPath). x.name) cs); power = t.power }) twists) are ∙ each_numbered twists)
    where
      each_numbered : (ts : List NamedTwist)
          → map (λ (t : NamedTwist). record { curve = position_or_len (bytes_eq t.name) (map (λ (x : NamedPath). x.name) curves); power = t.power }) ts ≡ numbered curves ts
      each_numbered [] = refl
      each_numbered (t ∷ ts) =
          ap₂ (λ (n : ℕ) (rest : List Twist). record { curve = n; power = t.power } ∷ rest) (position_or_len-map (bytes_eq t.name) (λ (x : NamedPath). x.name) curves) (each_numbered ts)

  -- the rules of one twist line
  twist_rule : (twists more : List NamedTwist) (c : Certificate) → surface c ≡ s → c.curves ≡ curves → c.twists ≡ twists ++ more
      → (i : ℕ) (x : NamedTwist) → i < length twists
      → twist_rules c i x ≡ rule twist (is_entry curves x) ∷ rule limit (is_ok (words_of s curves (take (suc i) twists))) ∷ []
  twist_rule twists more c on are begins i x within =
      let named : list_any (bytes_eq x.name) (curve_names (own_book c)) ≡ is_curve_name curves x.name
      = ap (λ (cs : List NamedPath). list_any (bytes_eq x.name) (map (λ (y : NamedPath). y.name) cs)) are ∙ list_any-map (bytes_eq x.name) (λ (y : NamedPath). y.name) curves in
      let some : take (suc i) c.twists ≡ take (suc i) twists = ap (take (suc i)) begins ∙ take_within (suc i) twists more (omega (arith, within)) in
      let so_long : is_ok (words_by c (take (suc i) c.twists)) ≡ is_ok (words_of s curves (take (suc i) twists))
      = ap (λ ts. is_ok (words_by c ts)) some ∙ ap (λ (r : Result (List (List ℕ)) TooLong). is_ok r) (words_are_of c on are (take (suc i) twists)) in
      ap₂ (λ (name small : Bool). rule twist (name && is_power x.power) ∷ rule limit small ∷ []) named so_long

-- what is said of the words of some curves and entries is said of these
pub words_by_number : (s : Slid) (curves : List NamedPath) (twists : List NamedTwist) (cs : List (Option (List Exit))) (es entries : List Twist) (r : Result (List (List ℕ)) TooLong)
    → cs ≡ s.curves → es ≡ entries → entries ≡ numbered curves twists → words_after s.polygon (map exits_of cs) es ≡ r → words_of s curves twists ≡ r
words_by_number s curves twists cs es entries r same seen are said =
    ap₂ (λ (xs : List (Option (List Exit))) (ts : List Twist). words_after s.polygon (map exits_of xs) ts) (sym same) (sym (seen ∙ are)) ∙ said

-- of two rules both, the second or the first
both_kept : (a b : Bool) (rules : List Rule) → rules ≡ rule twist a ∷ rule limit b ∷ [] → a ≡ true → b ≡ true → first_broken rules ≡ None
both_kept a b rules is e f = rw (is, e, f) refl

second_broken : (a b : Bool) (rules : List Rule) → rules ≡ rule twist a ∷ rule limit b ∷ [] → a ≡ true → b ≡ false → first_broken rules ≡ Some (rule limit false)
second_broken a b rules is e f = rw (is, e, f) refl

one_broken : (a b : Bool) (rules : List Rule) → rules ≡ rule twist a ∷ rule limit b ∷ [] → a ≡ false → first_broken rules ≡ Some (rule twist false)
one_broken a b rules is e = rw (is, e) refl

module _ (s : Slid) (curves : List NamedPath) (twists : List NamedTwist) (n : ℕ) (known : AreEntries curves twists n) where
  -- the words after the first entries among those that are some
  short_so_far : (words : List (List ℕ)) → words_of s curves (take n twists) ≡ Ok words → (i : ℕ) → i ≤ n → is_ok (words_of s curves (take i twists)) ≡ true
  short_so_far words are i l =
      ap (λ ts. is_ok (words_of s curves ts)) (sym (take_less i n twists l))
      ∙ short s.polygon (map exits_of s.curves) curves 0 (take n twists) (identity_words s.polygon) words are i

  -- where all are entries and the words short no rule is broken
  pub twists_kept : (words : List (List ℕ)) → length twists ≤ n → words_of s curves (take n twists) ≡ Ok words → TwistsCome s curves twists None
  twists_kept words all are c more on same begins =
      no_fault (twist_rules c) twists
      (λ i d l. both_kept _ _ _ (twist_rule s curves twists more c on same begins i (get_or twists i d) l) (known.before i d (omega (arith, l, all)))
      (short_so_far words are (suc i) (omega (arith, l, all))))

  -- and these are the words
  pub words_are : (words : List (List ℕ)) → length twists ≤ n → words_of s curves (take n twists) ≡ Ok words → WordsAre s curves twists words
  words_are words all are c on same = words_are_of s curves c on same twists ∙ (ap (words_of s curves) (sym (take_all n twists all)) ∙ are)

  -- the first that is no entry is the fault
  pub twists_fault : (words : List (List ℕ)) → n < length twists → words_of s curves (take n twists) ≡ Ok words → TwistsCome s curves twists (Some (record { at = n; reason = twist }))
  twists_fault words within are c more on same begins =
      let d : NamedTwist = record { name = []; power = pos 0 } in
      fault_at (twist_rules c) twists n d (rule twist false) within
      (λ i e l. both_kept _ _ _ (twist_rule s curves twists more c on same begins i (get_or twists i e) (omega (arith, l, within))) (known.before i e l) (short_so_far words are (suc i) l))
      (one_broken _ _ _ (twist_rule s curves twists more c on same begins n (get_or twists n d) within) (known.next d within))

  -- or the first after which the words are too long
  long_at : (l : TooLong) → words_of s curves (take n twists) ≡ Err l → (k : ℕ) × (l.twist ≡ k) × Breaks (λ some. is_ok (words_of s curves some)) (take n twists) k
  long_at l e = let (k, at, b) = long s.polygon (map exits_of s.curves) curves 0 (take n twists) (identity_words s.polygon) l e in (k, omega (arith, at), b)

  pub twists_long : (l : TooLong) → words_of s curves (take n twists) ≡ Err l → TwistsCome s curves twists (Some (record { at = l.twist; reason = limit }))
  twists_long l e c more on same begins =
      let d : NamedTwist = record { name = []; power = pos 0 } in
      let (k, at, b) = long_at l e in
      let size : length (take n twists) ≡ n = length-take-le n twists known.within in
      let less : k < n = omega (arith, size, b.within) in
      let within : k < length twists = omega (arith, less, known.within) in
      let as_taken = λ (i : ℕ) (m : i ≤ n). ap (λ ts. is_ok (words_of s curves ts)) (sym (take_less i n twists m)) in
      fault_at (twist_rules c) twists k d (rule limit false) within
      (λ i x m. both_kept _ _ _ (twist_rule s curves twists more c on same begins i (get_or twists i x) (omega (arith, m, within))) (known.before i x (omega (arith, m, less)))
      (as_taken (suc i) (omega (arith, m, less)) ∙ b.before (suc i) m))
      (second_broken _ _ _ (twist_rule s curves twists more c on same begins k (get_or twists k d) within) (known.before k d less) (as_taken (suc k) less ∙ b.at))
      ∙ ap (λ (j : ℕ). Some (record { at = j; reason = limit })) (sym at)

  -- whose number is a number
  pub long_number : (l : TooLong) → length twists ≤ 256 → words_of s curves (take n twists) ≡ Err l → l.twist < 2 ^ 32
  long_number l few e =
      let (k, at, b) = long_at l e in
      let size : length (take n twists) ≡ n = length-take-le n twists known.within in
      omega (arith, at, size, b.within, few, known.within)

-- the words of a certificate with just these entries
pub last_words_are : (s : Slid) (curves : List NamedPath) (twists : List NamedTwist) (words : List (List ℕ)) → WordsAre s curves twists words
    → (c : Certificate) → surface c ≡ s → c.curves ≡ curves → c.twists ≡ twists → last_words c ≡ words
last_words_are s curves twists words are c on same all = ap (λ (r : Result (List (List ℕ)) TooLong). result_unwrap_or r []) (ap (words_by c) all ∙ are c on same)

-- Where the lines from the polygons to the twists keep their rules they write an open book, whose slides are accepted and whose
-- words are short.
use Rattle.std.proofs.Common.{◌≡◌, ℕ, zero, suc, ◌<◌, ◌≤◌, ◌^◌, Bool, true, false, cond, not, ◌&&◌, ◌||◌, leb, List, [], ◌∷◌, ◌++◌, length, take, Option, Some, None, refl, sym, ◌∙◌, ap, subst, arith, eq-eqb, leb-true, inl, inr}
use Rattle.std.specs.Prelude.{All, is_ok, slice_index_or, unsigned_abs}
use Rattle.std.specs.List.{list_all, list_any}
use Rattle.std.specs.Option.{is_none}
use Rattle.std.specs.Str.{bytes_eq}
use Rattle.std.proofs.lemmas.Bool.{and_parts}
use Rattle.std.proofs.lemmas.List.{take_all}
use Rattle.std.proofs.lemmas.Slice.Eq.{bytes_eq-Decides}
use Rattle.obd_base.specs.Lists.{Mem, Once}
use Rattle.page_surface.specs.Page.{refusal_of as page_refusal}
use Rattle.curve_paths.specs.PathRules.{refusal_of as path_refusal}
use Rattle.curve_paths.specs.declared.named.NamedPath.{NamedPath}
use Rattle.curve_paths.specs.declared.named.NamedTwist.{NamedTwist}
use Rattle.curve_paths.specs.declared.path.Cross.{Cross}
use Rattle.witness_check.specs.Grammar.{Fits}
use Rattle.witness_check.specs.OpenBook.{IsCurveOn, IsName, IsOpenBook, IsTwistOf, curve_names, surface_of}
use Rattle.witness_check.specs.Reading.{is_cross, is_name, is_number}
use Rattle.witness_check.specs.Rules.{Rule, at_last, book_rules, curve_rules, each, is_power, polygon_count, polygon_rules, rule, slide_rules, twist_rules}
use Rattle.witness_check.specs.Written.{own_book, slid_by, words_by}
use Rattle.witness_check.specs.declared.certificate.Certificate.{Certificate}
use Rattle.witness_check.specs.declared.checked.Reason.TheVariants.{Page as page, Limit as limit, Curve as curve, Slide as slide, Twist as twist}
use Rattle.witness_check.proofs.AnswerLaw.{kept_entry, kept_parts}
use Rattle.witness_check.proofs.Kept.{At, all_at, at_unmap, keep, keep_all, some_name}

-- the last entry, where there is one
pub last_at : {A : Type 0} (xs : List A) (d : A) → 0 < length xs → (i : ℕ) × (suc i ≡ length xs) × At xs i (slice_index_or xs i d)
last_at [] d l = absurd (omega (arith, l))
last_at (x ∷ []) d l = (0, refl, refl)
last_at (x ∷ (y ∷ xs)) d l = let (i, e, at) = last_at (y ∷ xs) d (omega arith) in (suc i, omega (arith, e), at)

-- the rules of an entry's line,
pub entry : {A : Type 0} (rules : ℕ → A → List Rule) (xs : List A) (i : ℕ) (a : A) → keep_all (each rules xs) ≡ true → At xs i a → keep (rules i a) ≡ true
entry rules xs i a h at = kept_entry rules 0 i xs i a h at (omega arith)

-- the first of them, those after it,
pub kept_first : (r : Rule) (rules : List Rule) → keep (r ∷ rules) ≡ true → r.keeps ≡ true
kept_first r rules h = (and_parts r.keeps (keep rules) h).0

pub kept_rest : (r : Rule) (rules : List Rule) → keep (r ∷ rules) ≡ true → keep rules ≡ true
kept_rest r rules h = (and_parts r.keeps (keep rules) h).1

-- and the rule of the last line
pub kept_last : {A : Type 0} (xs : List A) (i : ℕ) (r : Rule) → suc i ≡ length xs → keep (at_last xs i r) ≡ true → r.keeps ≡ true
kept_last xs i r e h = kept_first r [] (subst (λ b. keep (cond b (r ∷ []) []) ≡ true) (eq-eqb (suc i) (length xs) e) h)

-- an entry of a list that passes
passes_at : {A : Type 0} (p : A → Bool) (xs : List A) (i : ℕ) (a : A) → list_all p xs ≡ true → At xs i a → p a ≡ true
passes_at p [] i a h at = absurd at
passes_at p (x ∷ xs) zero a h at = subst (λ y. p y ≡ true) at (and_parts (p x) (list_all p xs) h).0
passes_at p (x ∷ xs) (suc i) a h at = passes_at p xs i a (and_parts (p x) (list_all p xs) h).1 at

mem_at : {A : Type 0} (xs : List A) (a : A) → Mem a xs → (i : ℕ) × At xs i a
mem_at [] a m = absurd m
mem_at (x ∷ xs) a (inl e) = (0, sym e)
mem_at (x ∷ xs) a (inr m) = let (i, h) = mem_at xs a m in (suc i, h)

-- no entry among those before it: no repetition
once_from : {A : Type 0} (xs : List A) → ((i : ℕ) (a : A) → At xs i a → Mem a (take i xs) → ⊥) → Once xs
once_from [] h = tt
once_from (x ∷ xs) h = (λ m. let (i, at) = mem_at xs x m in h (suc i) x at (inl refl), once_from xs (λ i a at m. h (suc i) a at (inr m)))

none_of : {A : Type 0} (o : Option A) → is_none o ≡ true → o ≡ None
none_of None h = refl
none_of (Some a) h = cc

not_true : (b : Bool) → not b ≡ true → b ≡ true → ⊥
not_true true h k = cc
not_true false h k = cc

known_name : (n : List ℕ) (names : List (List ℕ)) → list_any (bytes_eq n) names ≡ true → Mem n names
known_name n [] h = cc
known_name n (x ∷ names) h = go (bytes_eq n x) refl h (known_name n names)
  where
    go : (b : Bool) → bytes_eq n x ≡ b → b || list_any (bytes_eq n) names ≡ true → (list_any (bytes_eq n) names ≡ true → Mem n names) → Mem n (x ∷ names)
    go true e k f = inl ((bytes_eq-Decides n x).0 e)
    go false e k f = inr (f k)

module _ (c : Certificate) (fits : Fits c) (h : keep_all (book_rules c) ≡ true) where
  abbrev polygon_lines : List (List Rule)
  polygon_lines = [] ∷ (polygon_count c ∷ each (polygon_rules c) c.polygons)

  abbrev curve_lines : List (List Rule)
  curve_lines = (rule limit (leb (length c.curves) 32) ∷ []) ∷ each (curve_rules c) c.curves

  abbrev slide_lines : List (List Rule)
  slide_lines = (rule limit (leb (length c.slides) 64) ∷ []) ∷ each (slide_rules c) c.slides

  abbrev twist_lines : List (List Rule)
  twist_lines = (rule limit (leb (length c.twists) 256) ∷ []) ∷ each (twist_rules c) c.twists

  -- the lines of each kind keep their rules
  polygons_kept : keep_all polygon_lines ≡ true
  polygons_kept = (kept_parts polygon_lines (curve_lines ++ (slide_lines ++ twist_lines)) h).0

  rest_kept : keep_all (curve_lines ++ (slide_lines ++ twist_lines)) ≡ true
  rest_kept = (kept_parts polygon_lines (curve_lines ++ (slide_lines ++ twist_lines)) h).1

  curves_kept : keep_all curve_lines ≡ true
  curves_kept = (kept_parts curve_lines (slide_lines ++ twist_lines) rest_kept).0

  slides_kept : keep_all slide_lines ≡ true
  slides_kept = (kept_parts slide_lines twist_lines (kept_parts curve_lines (slide_lines ++ twist_lines) rest_kept).1).0

  twists_kept : keep_all twist_lines ≡ true
  twists_kept = (kept_parts slide_lines twist_lines (kept_parts curve_lines (slide_lines ++ twist_lines) rest_kept).1).1

  -- after its first line
  each_curve : keep_all (each (curve_rules c) c.curves) ≡ true
  each_curve = (and_parts (keep (rule limit (leb (length c.curves) 32) ∷ [])) (keep_all (each (curve_rules c) c.curves)) curves_kept).1

  each_slide : keep_all (each (slide_rules c) c.slides) ≡ true
  each_slide = (and_parts (keep (rule limit (leb (length c.slides) 64) ∷ [])) (keep_all (each (slide_rules c) c.slides)) slides_kept).1

  each_twist : keep_all (each (twist_rules c) c.twists) ≡ true
  each_twist = (and_parts (keep (rule limit (leb (length c.twists) 256) ∷ [])) (keep_all (each (twist_rules c) c.twists)) twists_kept).1

  page_is : page_refusal c.polygons ≡ None
  page_is =
      let (count, lines) = and_parts (keep (polygon_count c)) (keep_all (each (polygon_rules c) c.polygons)) polygons_kept in
      let some = leb-true 1 (length c.polygons) (and_parts (leb 1 (length c.polygons)) (leb (length c.polygons) 16) (kept_first (rule page (leb 1 (length c.polygons) && leb (length c.polygons) 16)) [] count)).0 in
      let (i, e, at) = last_at c.polygons [] (omega (arith, some)) in
      none_of (page_refusal c.polygons) (kept_last c.polygons i (rule page (is_none (page_refusal c.polygons))) e (entry (polygon_rules c) c.polygons i (slice_index_or c.polygons i []) lines at))

  -- a curve with a name that isn't that of one before it, and a path that the page takes
  curve_kept : (i : ℕ) (e : NamedPath) → At c.curves i e
      → (not (list_any (bytes_eq e.name) (take i (curve_names (own_book c)))) ≡ true) × (is_none (path_refusal c.polygons e.path) ≡ true)
  curve_kept i e at =
      and_parts (not (list_any (bytes_eq e.name) (take i (curve_names (own_book c))))) (is_none (path_refusal c.polygons e.path))
      (kept_first (rule curve (not (list_any (bytes_eq e.name) (take i (curve_names (own_book c)))) && is_none (path_refusal c.polygons e.path))) [] (entry (curve_rules c) c.curves i e each_curve at))

  curve_is : (i : ℕ) (e : NamedPath) → At c.curves i e → IsCurveOn c.polygons e
  curve_is i e at =
      let (named, crosses) = and_parts (is_name e.name) (list_all is_cross e.path) (passes_at (λ (e : NamedPath). is_name e.name && list_all is_cross e.path) c.curves i e fits.curves at) in
      record {
        named = named;
        occurrences = all_at (λ (x : Cross). x.occurrence ≤ 1) e.path (λ j x there.
            leb-true x.occurrence 1 (and_parts (leb x.occurrence 1) (is_number x.place) (and_parts (is_name x.label) (leb x.occurrence 1 && is_number x.place) (passes_at is_cross e.path j x crosses there)).1).0);
        path = none_of (path_refusal c.polygons e.path) (curve_kept i e at).1;
      }

  names_differ : Once (curve_names (own_book c))
  names_differ = once_from (curve_names (own_book c)) (λ i n at m.
      let (e, there, same) = at_unmap (λ (x : NamedPath). x.name) c.curves i n at in
      not_true (list_any (bytes_eq e.name) (take i (curve_names (own_book c)))) (curve_kept i e there).0
      (subst (λ x. list_any (bytes_eq x) (take i (curve_names (own_book c))) ≡ true) (sym same) (some_name n (take i (curve_names (own_book c))) m)))

  twist_is : (i : ℕ) (t : NamedTwist) → At c.twists i t → IsTwistOf (own_book c) t
  twist_is i t at =
      let (known, power) = and_parts (list_any (bytes_eq t.name) (curve_names (own_book c))) (is_power t.power)
      (kept_first (rule twist (list_any (bytes_eq t.name) (curve_names (own_book c)) && is_power t.power)) (rule limit (is_ok (words_by c (take (suc i) c.twists))) ∷ []) (entry (twist_rules c) c.twists i t each_twist at)) in
      let (some, most) = and_parts (leb 1 (unsigned_abs t.power)) (leb (unsigned_abs t.power) 64) power in
      record { known = known_name t.name (curve_names (own_book c)) known; some_power = leb-true 1 (unsigned_abs t.power) some; most_power = leb-true (unsigned_abs t.power) 64 most }

  pub own_open_book : IsOpenBook (own_book c)
  own_open_book = record {
    page = page_is;
    labels = all_at (All IsName) c.polygons (λ i polygon at. all_at IsName polygon (λ j word there. passes_at is_name polygon j word (passes_at (list_all is_name) c.polygons i polygon fits.polygons at) there));
    few_curves = leb-true (length c.curves) 32 (kept_first (rule limit (leb (length c.curves) 32)) [] (and_parts (keep (rule limit (leb (length c.curves) 32) ∷ [])) (keep_all (each (curve_rules c) c.curves)) curves_kept).0);
    curves = all_at (IsCurveOn c.polygons) c.curves curve_is;
    different = names_differ;
    few_slides = leb-true (length c.slides) 64 (kept_first (rule limit (leb (length c.slides) 64)) [] (and_parts (keep (rule limit (leb (length c.slides) 64) ∷ [])) (keep_all (each (slide_rules c) c.slides)) slides_kept).0);
    slides = all_at (λ (side : ℕ). side < 2 ^ 32) c.slides (λ i side at. let l = leb-true side 4294967295 (passes_at is_number c.slides i side fits.slides at) in omega (arith, l));
    few_twists = leb-true (length c.twists) 256 (kept_first (rule limit (leb (length c.twists) 256)) [] (and_parts (keep (rule limit (leb (length c.twists) 256) ∷ [])) (keep_all (each (twist_rules c) c.twists)) twists_kept).0);
    twists = all_at (IsTwistOf (own_book c)) c.twists twist_is;
  }

  -- its slides are accepted
  pub own_slides : is_ok (surface_of (own_book c)) ≡ true
  own_slides = go c.slides refl
    where
      go : (ks : List ℕ) → c.slides ≡ ks → is_ok (slid_by c c.slides) ≡ true
      go [] e = ap (λ ks. is_ok (slid_by c ks)) e
      go (x ∷ ks) e =
          let (i, z, at) = last_at c.slides 0 (omega (arith, ap length e)) in
          ap (λ ks. is_ok (slid_by c ks)) (sym (take_all (suc i) c.slides (omega (arith, z))))
          ∙ kept_first (rule slide (is_ok (slid_by c (take (suc i) c.slides)))) [] (entry (slide_rules c) c.slides i (slice_index_or c.slides i 0) each_slide at)

  -- and no words on the way are too long
  pub own_words : is_ok (words_by c c.twists) ≡ true
  own_words = go c.twists refl
    where
      go : (ts : List NamedTwist) → c.twists ≡ ts → is_ok (words_by c c.twists) ≡ true
      go [] e = ap (λ ts. is_ok (words_by c ts)) e
      go (x ∷ ts) e =
          let (i, z, at) = last_at c.twists x (omega (arith, ap length e)) in
          ap (λ ts. is_ok (words_by c ts)) (sym (take_all (suc i) c.twists (omega (arith, z))))
          ∙ kept_first (rule limit (is_ok (words_by c (take (suc i) c.twists)))) []
          (kept_rest (rule twist (list_any (bytes_eq (slice_index_or c.twists i x).name) (curve_names (own_book c)) && is_power (slice_index_or c.twists i x).power))
          (rule limit (is_ok (words_by c (take (suc i) c.twists))) ∷ []) (entry (twist_rules c) c.twists i (slice_index_or c.twists i x) each_twist at))

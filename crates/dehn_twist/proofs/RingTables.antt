-- The points of a curve by their places, and the curve's chords.
use Rattle.std.proofs.Common.{◌≡◌, ℕ, suc, ◌+◌, ◌<◌, ◌≤◌, List, [], ◌∷◌, ◌++◌, map, length, get_or, Bool, true, refl, sym, ◌∙◌, ap, ap₂, subst, append_assoc, arith}
use Rattle.std.specs.List.{flat_map}
use Rattle.std.proofs.lemmas.Bool.{le-ltb}
use Rattle.std.proofs.lemmas.List.{map-append}
use Rattle.std.proofs.lemmas.List.FromFn.{map-range_with_len_more}
use Rattle.obd_base.specs.Lists.{Mem, below}
use Rattle.obd_base.specs.declared.points.Exit.{Exit}
use Rattle.obd_base.proofs.lists.Below.{below_push}
use Rattle.page_surface.specs.Drawing.{Drawing}
use Rattle.page_surface.specs.Polygon.{Polygon, sides}
use Rattle.curve_paths.specs.Curves.{curve_entry, curve_points}
use Rattle.curve_paths.proofs.CurvePoints.{entry_in}
use Rattle.drawing.proofs.Lists.{mem_at}
use Rattle.drawing.proofs.SweepTables.{flat_push}
use Rattle.dehn_twist.specs.Surgery.{chord_at, chord_start, curve_mate, curve_number, entering_exit, is_chord_end, leaving_exit, next_exit}
use Rattle.dehn_twist.specs.Tables.{AreTaken, curve_point}
use Rattle.dehn_twist.specs.declared.ring.CurvePoint.{CurvePoint}
use Rattle.dehn_twist.proofs.CurveRing.{EndOf, chord_at_end, chord_at_start, is_first, is_last, which_end}

module _ (d : Drawing) (c : List Exit) (ok : AreTaken d c) where
  -- an exit of the curve is one of its points
  pub exit_read : (exits : List Exit) (n : ℕ) (e : Exit) → exits ≡ c → n < length exits → e ≡ get_or exits n e → (e.side < sides d.polygon) × (e.place < curve_points d.polygon c e.side)
  exit_read exits n e is l read = ok.curve.in_range e (subst (λ (xs : List Exit). Mem e xs) is (mem_at exits n e l read))

  -- and so is its entry
  pub entry_read : (e q : Exit) → (e.side < sides d.polygon) × (e.place < curve_points d.polygon c e.side) → q ≡ curve_entry d.polygon c e
      → (q.side < sides d.polygon) × (q.place < curve_points d.polygon c q.side)
  entry_read e q h is =
      subst (λ (y : Exit). (y.side < sides d.polygon) × (y.place < curve_points d.polygon c y.side)) (sym is) (entry_in d.polygon ok.embedded.polygon.pairs c ok.curve e h)

  -- there is a chord at each point
  pub chord_less : (q : Exit) → (q.side < sides d.polygon) × (q.place < curve_points d.polygon c q.side) → chord_at d.polygon c q < length c
  chord_less q h = go (which_end d.polygon ok.embedded.polygon.pairs c ok.curve q h)
    where
      go : EndOf d.polygon ok.embedded.polygon.pairs c ok.curve q → chord_at d.polygon c q < length c
      go (is_last a l e) = let k = ap (chord_at d.polygon c) e ∙ chord_at_end d.polygon ok.embedded.polygon.pairs c ok.curve a l in omega (arith, k, l)
      go (is_first a l e) = let k = ap (chord_at d.polygon c) e ∙ chord_at_start d.polygon ok.embedded.polygon.pairs c ok.curve a l in omega (arith, k, l)

  -- as it is found where no exit leaves
  pub next_less : (q : Exit) → (q.side < sides d.polygon) × (q.place < curve_points d.polygon c q.side) → (n leaves i r : ℕ) → n ≡ length c → leaves ≡ leaving_exit c q → n ≤ leaves
      → i ≡ entering_exit d.polygon c q → r ≡ next_exit n i → r < length c
  next_less q h n leaves i r size out past enters is =
      let k : chord_at d.polygon c q ≡ next_exit (length c) (entering_exit d.polygon c q) = rw (le-ltb (leaving_exit c q) (length c) (let l : length c ≤ leaving_exit c q = omega (arith, size, out, past) in l)) refl in
      let e : r ≡ next_exit (length c) (entering_exit d.polygon c q) = is ∙ ap₂ next_exit size enters in
      omega (arith, k, e, chord_less q h)

-- the other end of the chord that ends at a point
pub mate_at_end : (p : Polygon) (c : List Exit) (q r : Exit) (a : ℕ) (b : Bool) → a ≡ chord_at p c q → r ≡ chord_start p c a → b ≡ is_chord_end c q → b ≡ true → r ≡ curve_mate p c q
mate_at_end p c q r a b here is test holds =
    let k : is_chord_end c q ≡ true = sym test ∙ holds in
    let m : curve_mate p c q ≡ chord_start p c (chord_at p c q) = rw k refl in
    is ∙ (ap (chord_start p c) here ∙ sym m)

-- a point with what is asked of it
pub point_made : (d : Drawing) (c : List Exit) (q m : Exit) (number other chord : ℕ) (ends : Bool) → number ≡ curve_number d c q → m ≡ curve_mate d.polygon c q → other ≡ curve_number d c m
    → chord ≡ chord_at d.polygon c q → ends ≡ is_chord_end c q → ◌≡◌ {A = CurvePoint} (record { number = number; mate = other; chord = chord; ends = ends }) (curve_point d c q)
point_made d c q m number other chord ends a b e f g = rw (a, e, b, f, g) refl

-- one point more after others
pub mapped_push : {X Y : Type 0} (f : X → Y) (g : ℕ → X) (n : ℕ) (before old after : List Y) (y : Y) → old ≡ before ++ map f (map g (below n)) → y ≡ f (g n)
    → after ≡ old ++ y ∷ [] → after ≡ before ++ map f (map g (below (n + 1)))
mapped_push f g n before old after y so_far is grown =
    grown ∙ (ap₂ (λ xs z. xs ++ z ∷ []) so_far is ∙ (append_assoc before (map f (map g (below n))) (f (g n) ∷ [])
    ∙ ap (λ xs. before ++ xs) (sym (map-append f (map g (below n)) (g n ∷ [])) ∙ ap (map f) (sym (map-range_with_len_more g 0 n n (omega arith))))))

-- the points of one side more
pub ring_push : {X Y : Type 0} (f : X → Y) (g : ℕ → List X) (n k : ℕ) (old after : List Y) → old ≡ map f (flat_map g (below n)) → k ≡ n → after ≡ old ++ map f (g k)
    → after ≡ map f (flat_map g (below (n + 1)))
ring_push f g n k old after so_far same grown =
    let e : suc n ≡ n + 1 = omega arith in
    grown ∙ (ap₂ (λ xs j. xs ++ map f (g j)) so_far same ∙ (sym (map-append f (flat_map g (below n)) (g n))
    ∙ ap (map f) (sym (flat_push g (below n) n) ∙ (ap (flat_map g) (sym (below_push n)) ∙ ap (λ j. flat_map g (below j)) e))))

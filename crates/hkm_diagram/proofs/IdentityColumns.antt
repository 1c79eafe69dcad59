-- The diagram of the identity drawing: its generators are all lists of crossing and contact points, and each column is empty.
use Rattle.std.proofs.Common.{◌≡◌, ℕ, zero, suc, ◌+◌, ◌*◌, ◌^◌, ◌<◌, ◌≤◌, true, Bool, List, [], ◌∷◌, length, map, filter, get_or, refl, sym, ◌∙◌, ap, subst, arith, inl, inr}
use Rattle.std.specs.List.{flat_map}
use Rattle.std.proofs.Math.Nat.{pow-suc}
use Rattle.std.proofs.lemmas.Bool.{false≢true}
use Rattle.std.proofs.lemmas.List.{length-append, length-map}
use Rattle.obd_base.specs.Lists.{Mem, below, is_odd}
use Rattle.obd_base.proofs.lists.Below.{mem_below}
use Rattle.obd_base.proofs.lists.Members.{mem_filter}
use Rattle.page_surface.specs.Polygon.{Polygon, IsPolygon, arc_count, second_side}
use Rattle.page_surface.specs.Drawing.{exit, identity, strand_exits}
use Rattle.drawing.specs.Pieces.{badness, inner_pieces}
use Rattle.drawing.specs.Points.{all_lists, contact_generator, generators, is_generator}
use Rattle.drawing.proofs.Generators.{bound_at, bound_count, bounded, listed_is_generator, own_is_generator}
use Rattle.hkm_diagram.specs.Domains.{column, columns, domains}
use Rattle.hkm_diagram.proofs.Identity.{one_crossing, strand_at, strand_is}
use Rattle.hkm_diagram.proofs.IdentityDomains.{even_domains}
use Rattle.hkm_diagram.proofs.IdentityPieces.{bigon_badness, listed_bigon}
use Rattle.hkm_diagram.proofs.Laws.{no_members}

-- a filter that each member passes keeps them all
all_kept : {A : Type 0} (p : A → Bool) (xs : List A) → ((x : A) → Mem x xs → p x ≡ true) → filter p xs ≡ xs
all_kept p [] h = refl
all_kept p (x ∷ xs) h = rw (h x (inl refl)) (ap (λ kept. x ∷ kept) (all_kept p xs (λ y m. h y (inr m))))

-- maps that give each member the same
pub mapped_alike : {A B : Type 0} (f g : A → B) (xs : List A) → ((x : A) → Mem x xs → f x ≡ g x) → map f xs ≡ map g xs
mapped_alike f g [] h = refl
mapped_alike f g (x ∷ xs) h = rw (h x (inl refl)) (ap (λ rest. g x ∷ rest) (mapped_alike f g xs (λ y m. h y (inr m))))

-- the member at a place
member_at : {A : Type 0} (xs : List A) (i : ℕ) (d : A) → i < length xs → Mem (get_or xs i d) xs
member_at [] i d l = absurd (omega arith)
member_at (x ∷ xs) zero d l = inl refl
member_at (x ∷ xs) (suc i) d l = inr (member_at xs i d (omega arith))

-- with two numbers for each bound there are so many lists
two_each : (bounds : List ℕ) → ((i : ℕ) → i < length bounds → get_or bounds i 0 ≡ 1) → length (all_lists bounds) ≡ 2 ^ length bounds
two_each [] one = refl
two_each (b ∷ bounds) one =
    let begun = λ (j : ℕ). map (λ list. j ∷ list) (all_lists bounds) in
    let rest : length (all_lists bounds) ≡ 2 ^ length bounds = two_each bounds (λ i l. one (suc i) (omega arith)) in
    let two : length (flat_map begun (below 2)) ≡ length (begun 0) + (length (begun 1) + 0) = length-append (begun 0) _ ∙ ap (λ n. length (begun 0) + n) (length-append (begun 1) []) in
    let power : 2 ^ suc (length bounds) ≡ 2 ^ length bounds * 2 = pow-suc 2 (length bounds) in
    let both : length (flat_map begun (below 2)) ≡ 2 ^ suc (length bounds)
    = omega (arith, two, rest, power, length-map (all_lists bounds) (λ list. 0 ∷ list), length-map (all_lists bounds) (λ list. 1 ∷ list)) in
    ap (λ b. length (flat_map begun (below (suc b)))) (one 0 (omega arith)) ∙ both

module _ (p : Polygon) (ok : IsPolygon p) where
  -- the exits of all strands, one after another
  pub identity_strands : map (strand_exits (identity p)) (below (arc_count p)) ≡ (identity p).strands
  identity_strands =
      mapped_alike (strand_exits (identity p)) (λ i. exit (second_side p i) 0 ∷ []) (below (arc_count p)) (λ i m. strand_is p ok i (mem_below (arc_count p) i m))

  -- no piece is bad, base pieces left aside: each is a bigon at the end of a side
  pub identity_badness : (q : ℕ) → Mem q (inner_pieces (identity p)) → badness (identity p) q ≡ 0
  identity_badness q m = let (k, l, is) = listed_bigon p ok q m in rw is (bigon_badness p ok k l)

  -- a generator has point 0 or 1 on each arc
  small : (points : List ℕ) → Mem points (generators (identity p)) → (a : ℕ) → a < arc_count p → get_or points a 0 ≤ 1
  small points m a l = omega (arith, (listed_is_generator (identity p) points m).in_range a l, one_crossing p ok a l)

  -- so its column is empty
  pub identity_column : (points : List ℕ) → Mem points (generators (identity p)) → column (identity p) points ≡ []
  identity_column points m = no_members _ (λ i n. let (l, odd) = mem_filter _ i (below (length (generators (identity p)))) n in none i (mem_below _ i l) odd)
    where
      none : (i : ℕ) → i < length (generators (identity p)) → is_odd (length (domains (identity p) points (get_or (generators (identity p)) i []))) ≡ true → ⊥
      none i l odd =
          let even = even_domains p ok points (get_or (generators (identity p)) i []) (small points m) (small _ (member_at (generators (identity p)) i [] l)) in
          false≢true (sym even ∙ odd)

  -- and so are all columns
  pub identity_columns : columns (identity p) ≡ map (λ points. []) (generators (identity p))
  identity_columns = mapped_alike (column (identity p)) (λ points. []) (generators (identity p)) identity_column

  -- each list of crossing and contact points is a generator
  pub identity_generators : generators (identity p) ≡ all_lists (contact_generator (identity p))
  identity_generators =
      all_kept (is_generator (identity p)) (all_lists (contact_generator (identity p)))
      (λ points m. let ok' = bounded (contact_generator (identity p)) points m in
      own_is_generator (identity p) points (ok'.one_each ∙ bound_count (identity p))
      (λ a l. strand_at p ok a (get_or points a 0) l
      (subst (λ b. get_or points a 0 ≤ b) (bound_at (identity p) a l) (ok'.in_range a (subst (λ n. a < n) (sym (bound_count (identity p))) l)))))

  -- two points on each arc
  pub identity_generator_count : length (generators (identity p)) ≡ 2 ^ arc_count p
  identity_generator_count =
      let one = λ (a : ℕ) (l : a < length (contact_generator (identity p))).
      let h : a < arc_count p = subst (λ n. a < n) (bound_count (identity p)) l in bound_at (identity p) a h ∙ one_crossing p ok a h in
      ap length identity_generators ∙ (two_each (contact_generator (identity p)) one ∙ ap (λ n. 2 ^ n) (bound_count (identity p)))

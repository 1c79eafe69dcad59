-- A search at a point: what is found, and from where it goes on.
use Rattle.std.proofs.Common.{◌≡◌, ℕ, zero, suc, ◌+◌, ◌-◌, ◌<◌, ◌≤◌, Bool, true, false, List, [], ◌∷◌, ◌++◌, length, drop, get_or, set, refl, sym, ◌∙◌, ap, subst, arith}
use Rattle.std.specs.List.{All}
use Rattle.std.proofs.lemmas.List.{append-nil}
use Rattle.obd_base.specs.Lists.{Mem}
use Rattle.generator_list.specs.Links.{AreCursors, AreLinked, IsLinkedFrom, next_on}
use Rattle.generator_list.specs.Packed.{Packed}
use Rattle.generator_list.specs.Search.{AreSmall, chosen, goes_on, with_strand}
use Rattle.generator_list.specs.declared.links.Links.{Links}
use Rattle.generator_list.proofs.Branches.{from_first, over, ran, skip_more}
use Rattle.generator_list.proofs.NextPoints.{cursors_next, least_cursors, least_passes, least_skips, least_within}

-- the least of 8 numbers
pub record IsLeast (cursors : List ℕ) (l : ℕ) : Type 0 where
  pub least : (k : ℕ) → k < 8 → l ≤ get_or cursors k 0
  pub one : Mem l cursors

-- what is found from the points before this one is there; this one goes on, or is the end; the cursors are those from here on
pub record IsSearched (rest : List (List ℕ)) (used : ℕ) (begun ss : List ℕ) (limit : ℕ) (start now : Packed) (point : ℕ) (cursors : List ℕ) : Type 0 where
  pub width : now.width ≡ start.width
  pub lists : now.lists ≡ start.lists ++ from_first rest used begun point ss
  pub within : length start.lists ≤ limit → length now.lists ≤ limit
  pub here : point ≤ length ss
  pub passes : point < length ss → goes_on rest used (get_or ss point 0) ≡ true
  pub cursors_here : AreCursors ss (goes_on rest used) point cursors

-- what is read at a place is the same whatever stands past the end
same_at : {A : Type 0} (xs : List A) (k : ℕ) (d e : A) → k < length xs → get_or xs k d ≡ get_or xs k e
same_at [] k d e l = absurd (omega (arith, l))
same_at (x ∷ xs) zero d e l = refl
same_at (x ∷ xs) (suc k) d e l = same_at xs k d e (omega (arith, l))

-- points that don't go on give nothing
skip_many : (rest : List (List ℕ)) (used : ℕ) (begun ss : List ℕ) (n i : ℕ) (old now : List (List ℕ)) → i + n ≤ length ss
    → ((k : ℕ) → i ≤ k → k < i + n → goes_on rest used (get_or ss k 0) ≡ false) → now ≡ old ++ from_first rest used begun i ss → now ≡ old ++ from_first rest used begun (i + n) ss
skip_many rest used begun ss zero i old now l none so_far = let e : i + 0 ≡ i = omega arith in so_far ∙ ap (λ k. old ++ from_first rest used begun k ss) (sym e)
skip_many rest used begun ss (suc n) i old now l none so_far =
    let e : i + 1 + n ≡ i + suc n = omega arith in
    let one : now ≡ old ++ from_first rest used begun (i + 1) ss
    = skip_more rest used begun ss i (get_or ss i 0) (goes_on rest used (get_or ss i 0)) old now (omega (arith, l)) (same_at ss i 0 (get_or ss i 0) (omega (arith, l))) refl (none i (omega arith) (omega arith)) so_far in
    skip_many rest used begun ss n (i + 1) old now (omega (arith, l)) (λ k a b. none k (omega (arith, a)) (omega (arith, b))) one ∙ ap (λ k. old ++ from_first rest used begun k ss) e

module _ (rest : List (List ℕ)) (used : ℕ) (begun ss : List ℕ) (limit : ℕ) (start : Packed) (small : All (λ s. s < 8) ss) where
  -- from some point on the search comes to the least cursor
  come : (now : Packed) (q l : ℕ) (cursors : List ℕ) → now.width ≡ start.width → now.lists ≡ start.lists ++ from_first rest used begun q ss
      → (length start.lists ≤ limit → length now.lists ≤ limit) → q ≤ length ss → AreCursors ss (goes_on rest used) q cursors → IsLeast cursors l → IsSearched rest used begun ss limit start now l cursors
  come now q l cursors width lists within few are least =
      let inside = least_within ss (goes_on rest used) q l cursors few are least.least least.one in
      let sum : q + (l - q) ≡ l = omega (arith, inside.0) in
      record {
        width = width;
        lists = skip_many rest used begun ss (l - q) q start.lists now.lists (omega (arith, inside))
            (λ k a b. least_skips ss (goes_on rest used) q l cursors few are least.least least.one small k a (omega (arith, b, sum))) lists
            ∙ ap (λ k. start.lists ++ from_first rest used begun k ss) sum;
        within = within;
        here = inside.1;
        passes = least_passes ss (goes_on rest used) q l cursors few are least.least least.one;
        cursors_here = least_cursors ss (goes_on rest used) q l cursors few are least.least least.one;
      }

  -- first to the least of all
  pub searched_first : (l : ℕ) (cursors : List ℕ) → AreCursors ss (goes_on rest used) 0 cursors → IsLeast cursors l → IsSearched rest used begun ss limit start start l cursors
  searched_first l cursors are least = come start 0 l cursors refl (none ss) (λ h. h) (omega arith) are least
    where
      none : (ss : List ℕ) → start.lists ≡ start.lists ++ from_first rest used begun 0 ss
      none [] = sym (append-nil start.lists)
      none (s ∷ ss) = sym (append-nil start.lists)

module _ (arcs : List (List ℕ)) (used : ℕ) (begun ss : List ℕ) (limit : ℕ) (start now : Packed) (point : ℕ) (cursors : List ℕ) (small : All (λ s. s < 8) ss)
    (so_far : IsSearched (drop (length begun + 1) arcs) used begun ss limit start now point cursors) (l : point < length ss) (s then_used : ℕ) (longer : List ℕ)
    (at : s ≡ get_or ss point s) (with : then_used ≡ with_strand used s) (one : longer ≡ begun ++ point ∷ []) where
  is : s ≡ get_or ss point 0
  is = at ∙ same_at ss point s 0 l

  passes_here : goes_on (drop (length begun + 1) arcs) used s ≡ true
  passes_here = ap (goes_on (drop (length begun + 1) arcs) used) is ∙ so_far.passes l

  -- too many from a point are too many
  pub searched_over : (d : List ℕ) → length begun < length arcs → ss ≡ get_or arcs (length begun) d → limit < length (now.lists ++ chosen (drop (length longer) arcs) then_used longer)
      → limit < length (start.lists ++ chosen (drop (length begun) arcs) used begun)
  searched_over d la read many =
      over arcs used begun ss point s then_used longer (goes_on (drop (length begun + 1) arcs) used s) start.lists now.lists l at refl passes_here with one so_far.lists limit d la read many

  -- then to the least again
  pub searched_next : (new : Packed) (n x m : ℕ) → new ≡ record { width = now.width; lists = now.lists ++ chosen (drop (length longer) arcs) then_used longer }
      → (length now.lists ≤ limit → length new.lists ≤ limit) → n ≡ s → x ≡ next_on ss (get_or ss point 0) (point + 1) → IsLeast (set cursors n x) m
      → IsSearched (drop (length begun + 1) arcs) used begun ss limit start new m (set cursors n x) × (point < m)
  searched_next new n x m grown within same moved least =
      let small_here : s < 8 = (let h = small point 0 l in omega (arith, h, is)) in
      let are : AreCursors ss (goes_on (drop (length begun + 1) arcs) used) (point + 1) (set cursors n x)
      = subst (λ k. AreCursors ss (goes_on (drop (length begun + 1) arcs) used) (point + 1) (set cursors k x)) (sym same)
      (cursors_next ss (goes_on (drop (length begun + 1) arcs) used) point s x cursors l is small_here passes_here (moved ∙ ap (λ t. next_on ss t (point + 1)) (sym is)) so_far.cursors_here) in
      let inside = least_within ss (goes_on (drop (length begun + 1) arcs) used) (point + 1) m (set cursors n x) (omega (arith, l)) are least.least least.one in (
        come (drop (length begun + 1) arcs) used begun ss limit start small new (point + 1) m (set cursors n x)
            (ap (λ (p : Packed). p.width) grown ∙ so_far.width)
            (ap (λ (p : Packed). p.lists) grown
            ∙ ran arcs used begun ss point s then_used longer (goes_on (drop (length begun + 1) arcs) used s) start.lists now.lists l at refl passes_here with one so_far.lists)
            (λ h. within (so_far.within h)) (omega (arith, l)) are least,
        omega (arith, inside),
      )

-- the links of an arc that is read
pub links_read : (arcs : List (List ℕ)) (links : List Links) (k : ℕ) (ss d next : List ℕ) (link e : Links) → AreLinked arcs links → k < length arcs → ss ≡ get_or arcs k d → link ≡ get_or links k e → next ≡ link.next
    → (length next ≡ length ss) × ((j : ℕ) → j < length ss → get_or next j 0 ≡ next_on ss (get_or ss j 0) (j + 1))
links_read arcs links k ss d next link e all l read there is =
    let here : IsLinkedFrom ss link 0 = subst (λ xs. IsLinkedFrom xs link 0) (sym read) (subst (λ y. IsLinkedFrom (get_or arcs k d) y 0) (sym there) (all.each k d e l)) in
    (ap length is ∙ here.next_size, λ j lj. ap (λ xs. get_or xs j 0) is ∙ here.next j (omega arith) lj)

-- the cursors of an arc that is read
pub cursors_read : (arcs : List (List ℕ)) (k : ℕ) (ss d : List ℕ) (passes : ℕ → Bool) (cursors : List ℕ) → k < length arcs → ss ≡ get_or arcs k d
    → AreCursors (get_or arcs k []) passes 0 cursors → AreCursors ss passes 0 cursors
cursors_read arcs k ss d passes cursors l read are = subst (λ xs. AreCursors xs passes 0 cursors) (sym (read ∙ same_at arcs k d [] l)) are

-- the strands of an arc that is read
pub small_read : (arcs : List (List ℕ)) (k : ℕ) (ss d : List ℕ) → AreSmall arcs → k < length arcs → ss ≡ get_or arcs k d → All (λ s. s < 8) ss
small_read arcs k ss d small l read = subst (All (λ s. s < 8)) (sym read) (small.strands k d l)

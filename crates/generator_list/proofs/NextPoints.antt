-- The next point on a strand, and a search that goes from each point to the next one on any strand that passes.
use Rattle.std.proofs.Common.{◌≡◌, ◌≢◌, ℕ, zero, suc, ◌+◌, ◌-◌, ◌<◌, ◌≤◌, Bool, true, false, cond, eqb, List, [], ◌∷◌, ◌++◌, length, take, drop, get_or, set, refl, sym, ◌∙◌, ap, ap₂, subst, arith, ◌⊎◌, inl, inr}
use Rattle.std.specs.List.{All, position_or_len}
use Rattle.std.proofs.lemmas.Bool.{cases_Bool, cases_eq, cases_lt, eq-eqb, ne_eqb}
use Rattle.std.proofs.lemmas.List.{drop_all, drop_more, get_or-set_other, get_or-set_same, get_or_append_left, length-append, length-drop, length-set, take_more}
use Rattle.obd_base.specs.Lists.{Mem}
use Rattle.generator_list.proofs.Members.{mem_at}
use Rattle.generator_list.specs.Links.{AreCursors, AreLinked, IsLinkedFrom, next_on}
use Rattle.generator_list.specs.declared.links.Links.{Links}

position_within : (p : ℕ → Bool) (xs : List ℕ) → position_or_len p xs ≤ length xs
position_within p [] = omega arith
position_within p (x ∷ xs) = elim (cases_Bool (p x)) [ inl e ↦ rw e (omega arith) | inr e ↦ rw e (let h = position_within p xs in omega (arith, h)) ]

module _ (ss : List ℕ) (s : ℕ) where
  -- a point on the strand is its own next
  pub next_here : (k : ℕ) → k < length ss → get_or ss k 0 ≡ s → next_on ss s k ≡ k
  next_here k l e =
      let h : position_or_len (λ t. eqb t s) (drop k ss) ≡ 0 = ap (position_or_len (λ t. eqb t s)) (drop_more ss k 0 l) ∙ (let q : eqb (get_or ss k 0) s ≡ true = eq-eqb _ _ e in rw q refl) in
      omega (arith, h)

  -- one that isn't has the next of the point after it
  pub next_else : (k : ℕ) → k < length ss → get_or ss k 0 ≢ s → next_on ss s k ≡ next_on ss s (k + 1)
  next_else k l ne =
      let h : position_or_len (λ t. eqb t s) (drop k ss) ≡ 1 + position_or_len (λ t. eqb t s) (drop (k + 1) ss)
      = ap (position_or_len (λ t. eqb t s)) (drop_more ss k 0 l) ∙ (let q : eqb (get_or ss k 0) s ≡ false = ne_eqb _ _ ne in rw q refl) in
      omega (arith, h)

  pub next_end : (k : ℕ) → k ≡ length ss → next_on ss s k ≡ length ss
  next_end k e =
      let h : position_or_len (λ t. eqb t s) (drop k ss) ≡ 0 = ap (position_or_len (λ t. eqb t s)) (drop_all k ss (omega (arith, e))) in
      omega (arith, h, e)

  pub next_within : (k : ℕ) → k ≤ length ss → next_on ss s k ≤ length ss
  next_within k l = let a = position_within (λ t. eqb t s) (drop k ss) in let b = length-drop k ss in omega (arith, a, b, l)

  -- between a point and its next nothing changes
  pub next_same : (n j : ℕ) → j + n ≤ next_on ss s j → j + n ≤ length ss → next_on ss s (j + n) ≡ next_on ss s j
  next_same zero j l m = let e : j + 0 ≡ j = omega arith in ap (next_on ss s) e
  next_same (suc n) j l m =
      let away : get_or ss j 0 ≢ s = λ e. absurd (let h = next_here j (omega (arith, m)) e in omega (arith, h, l)) in
      let step = next_else j (omega (arith, m)) away in
      let e : j + suc n ≡ j + 1 + n = omega arith in
      ap (next_on ss s) e ∙ (next_same n (j + 1) (omega (arith, l, step)) (omega (arith, m)) ∙ sym step)

  pub next_later : (j l : ℕ) → j ≤ l → l ≤ next_on ss s j → l ≤ length ss → next_on ss s l ≡ next_on ss s j
  next_later j l a b c = let e : j + (l - j) ≡ l = omega (arith, a) in ap (next_on ss s) (sym e) ∙ next_same (l - j) j (omega (arith, a, b)) (omega (arith, a, c))

  -- the next point lies on the strand
  pub next_lies : (j r : ℕ) → next_on ss s j ≡ r → r < length ss → get_or ss r 0 ≡ s
  next_lies j r e l = elim (cases_eq (get_or ss r 0) s) [
    | inl q ↦ q
    | inr ne ↦
        let same = next_later j r (omega (arith, e)) (omega (arith, e)) (omega (arith, l)) in
        let step = next_else r l ne in
        absurd (omega (arith, same, step, e))
  ]

  -- it comes no later than any other
  pub next_first : (j k : ℕ) → j ≤ k → k < length ss → get_or ss k 0 ≡ s → next_on ss s j ≤ k
  next_first j k a l e = elim (cases_lt k (next_on ss s j)) [
    | inl b ↦ (let same = next_later j k a (omega (arith, b)) (omega (arith, l)) in let here = next_here k l e in omega (arith, same, here))
    | inr b ↦ omega (arith, b)
  ]

-- one point more at the front
pub linked_more : (ss : List ℕ) (first next : List ℕ) (i s : ℕ) → 0 < i → i ≤ length ss → s ≡ get_or ss (i - 1) 0 → s < 8 → IsLinkedFrom ss (record { first = first; next = next }) i
    → IsLinkedFrom ss (record { first = set first s (i - 1); next = set next (i - 1) (get_or first s 0) }) (i - 1)
linked_more ss first next i s some within is small now = record {
  first_size = length-set first s (i - 1) ∙ now.first_size;
  next_size = length-set next (i - 1) (get_or first s 0) ∙ now.next_size;
  first = λ t lt. elim (cases_eq t s) [
    | inl e ↦ ap (λ k. get_or (set first s (i - 1)) k 0) e ∙ (get_or-set_same first s (i - 1) 0 (omega (arith, small, now.first_size)) ∙ sym (next_here ss t (i - 1) (omega (arith, some, within)) (sym is ∙ sym e)))
    | inr ne ↦ get_or-set_other first s t (i - 1) 0 ne ∙ (now.first t lt ∙ (ap (next_on ss t) (sym back) ∙ sym (next_else ss t (i - 1) (omega (arith, some, within)) (λ q. ne (sym (is ∙ q))))))
  ];
  next = λ k a l. elim (cases_eq k (i - 1)) [
    | inl e ↦
        ap (λ j. get_or (set next (i - 1) (get_or first s 0)) j 0) e ∙ (get_or-set_same next (i - 1) (get_or first s 0) 0 (omega (arith, some, within, now.next_size))
        ∙ (now.first s small ∙ ap₂ (next_on ss) (is ∙ ap (λ j. get_or ss j 0) (sym e)) (let q : i ≡ k + 1 = omega (arith, e, some) in q)))
    | inr ne ↦ get_or-set_other next (i - 1) k (get_or first s 0) 0 ne ∙ now.next k (omega (arith, a, ne)) l
  ];
}
  where
    back : i - 1 + 1 ≡ i
    back = omega (arith, some)

-- before the first step all lead to the end
pub linked_none : (ss : List ℕ) (first next : List ℕ) (n : ℕ) → n ≡ length ss → length first ≡ 8 → length next ≡ length ss → ((s : ℕ) → s < 8 → get_or first s 0 ≡ length ss)
    → IsLinkedFrom ss (record { first = first; next = next }) n
linked_none ss first next n all f m ends = record {
  first_size = f;
  next_size = m;
  first = λ s l. ends s l ∙ sym (next_end ss s n all);
  next = λ k a l. absurd (omega (arith, a, l, all));
}

-- the cursors after a point was taken
pub cursors_next : (ss : List ℕ) (passes : ℕ → Bool) (p s x : ℕ) (cursors : List ℕ) → p < length ss → s ≡ get_or ss p 0 → s < 8 → passes s ≡ true → x ≡ next_on ss s (p + 1)
    → AreCursors ss passes p cursors → AreCursors ss passes (p + 1) (set cursors s x)
cursors_next ss passes p s x cursors l is small goes moved now = record {
  size = length-set cursors s x ∙ now.size;
  each = λ t lt. elim (cases_eq t s) [
    | inl e ↦ ap (λ k. get_or (set cursors s x) k 0) e ∙ (get_or-set_same cursors s x 0 (omega (arith, small, now.size)) ∙ (moved ∙ sym (ap (λ k. cond (passes k) (next_on ss k (p + 1)) (length ss)) e ∙ ap (λ b. cond b (next_on ss s (p + 1)) (length ss)) goes)))
    | inr ne ↦ get_or-set_other cursors s t x 0 ne ∙ (now.each t lt ∙ ap (λ k. cond (passes t) k (length ss)) (next_else ss t p l (λ q. ne (sym (is ∙ q)))))
  ];
}

place_of : (xs : List ℕ) (x : ℕ) → Mem x xs → (k : ℕ) × (k < length xs) × (get_or xs k 0 ≡ x)
place_of [] x m = absurd m
place_of (y ∷ ys) x (inl e) = (0, omega arith, sym e)
place_of (y ∷ ys) x (inr m) = let (k, l, e) = place_of ys x m in (suc k, omega (arith, l), e)

module _ (ss : List ℕ) (passes : ℕ → Bool) (q l : ℕ) (cursors : List ℕ) (few : q ≤ length ss) (now : AreCursors ss passes q cursors)
    (least : (k : ℕ) → k < 8 → l ≤ get_or cursors k 0) (one : Mem l cursors) where
  -- the least cursor is that of a strand that passes, or the end
  found : ((s : ℕ) × (passes s ≡ true) × (next_on ss s q ≡ l)) ⊎ (l ≡ length ss)
  found =
      let (s, ls, e) = place_of cursors l one in
      let at = now.each s (omega (arith, ls, now.size)) in
      elim (cases_Bool (passes s)) [
        | inl y ↦ inl (s, y, sym (ap (λ b. cond b (next_on ss s q) (length ss)) y) ∙ (sym at ∙ e))
        | inr n ↦ inr (sym e ∙ (at ∙ ap (λ b. cond b (next_on ss s q) (length ss)) n))
      ]

  pub least_within : (q ≤ l) × (l ≤ length ss)
  least_within = elim found [
    | inl w ↦ (let h = next_within ss w.0 q few in let e = w.2 in (omega (arith, e), omega (arith, e, h)))
    | inr e ↦ (omega (arith, e, few), omega (arith, e))
  ]

  -- the point there passes
  pub least_passes : l < length ss → passes (get_or ss l 0) ≡ true
  least_passes m = elim found [
    | inl w ↦ ap passes (next_lies ss w.0 q l w.2 m) ∙ w.1
    | inr e ↦ absurd (omega (arith, e, m))
  ]

  -- no point before it does
  pub least_skips : All (λ s. s < 8) ss → (k : ℕ) → q ≤ k → k < l → passes (get_or ss k 0) ≡ false
  least_skips small k a b = elim (cases_Bool (passes (get_or ss k 0))) [
    | inl y ↦
        let lk : k < length ss = (let h = least_within.1 in omega (arith, b, h)) in
        let s8 : get_or ss k 0 < 8 = small k 0 lk in
        let at = now.each (get_or ss k 0) s8 ∙ ap (λ c. cond c (next_on ss (get_or ss k 0) q) (length ss)) y in
        let first = next_first ss (get_or ss k 0) q k a lk refl in
        absurd (let h = least (get_or ss k 0) s8 in omega (arith, h, at, first, b))
    | inr n ↦ n
  ]

  -- and the cursors are those from there on
  pub least_cursors : AreCursors ss passes l cursors
  least_cursors = record {
    size = now.size;
    each = λ s ls. elim (cases_Bool (passes s)) [
      | inl y ↦
          let at = now.each s ls ∙ ap (λ c. cond c (next_on ss s q) (length ss)) y in
          let later = next_later ss s q l least_within.0 (let h = least s ls in omega (arith, h, at)) least_within.1 in
          at ∙ (sym later ∙ sym (ap (λ c. cond c (next_on ss s l) (length ss)) y))
      | inr n ↦ now.each s ls ∙ (ap (λ c. cond c (next_on ss s q) (length ss)) n ∙ sym (ap (λ c. cond c (next_on ss s l) (length ss)) n))
    ];
  }

-- the least of the numbers so far, with one more
pub least_less : (ns : List ℕ) (i least x : ℕ) → i < length ns → x ≡ get_or ns i 0 → x < least → ((k : ℕ) → k < i → least ≤ get_or ns k 0)
    → ((k : ℕ) → k < i + 1 → x ≤ get_or ns k 0) × Mem x ns
least_less ns i least x l is less so_far = (
  λ k lk. elim (cases_lt k i) [
    | inl b ↦ (let h = so_far k b in omega (arith, h, less))
    | inr b ↦ (let e : k ≡ i = omega (arith, b, lk) in let h : get_or ns k 0 ≡ x = ap (λ j. get_or ns j 0) e ∙ sym is in omega (arith, h))
  ],
  subst (λ y. Mem y ns) (sym is) (mem_at ns i 0 l),
)

pub least_stays : (ns : List ℕ) (i least : ℕ) → least ≤ get_or ns i 0 → ((k : ℕ) → k < i → least ≤ get_or ns k 0) → (k : ℕ) → k < i + 1 → least ≤ get_or ns k 0
least_stays ns i least le so_far k lk = elim (cases_lt k i) [
  | inl b ↦ so_far k b
  | inr b ↦ (let e : k ≡ i = omega (arith, b, lk) in let h = ap (λ j. get_or ns j 0) e in omega (arith, h, le))
]

last_of : {A : Type 0} (xs : List A) (x d : A) (k : ℕ) → k ≡ length xs → get_or (xs ++ x ∷ []) k d ≡ x
last_of {A = A} xs x d k e = ap (λ j. get_or (xs ++ x ∷ []) j d) e ∙ whole xs
  where
    whole : (xs : List A) → get_or (xs ++ x ∷ []) (length xs) d ≡ x
    whole [] = refl
    whole (y ∷ ys) = whole ys

-- the links of one arc more
pub linked_push : (arcs : List (List ℕ)) (i : ℕ) (ss c : List ℕ) (links after : List Links) (link : Links) → i < length arcs → ss ≡ get_or arcs i c → IsLinkedFrom ss link 0
    → after ≡ links ++ link ∷ [] → AreLinked (take i arcs) links → AreLinked (take (i + 1) arcs) after
linked_push arcs i ss c links after link l is one grown now =
    subst (λ front. AreLinked front after) (sym grows) (subst (AreLinked (take i arcs ++ ss ∷ [])) (sym grown) (record { size = both; each = each }))
  where
    grows : take (i + 1) arcs ≡ take i arcs ++ ss ∷ []
    grows = take_more arcs i c l ∙ ap (λ x. take i arcs ++ x ∷ []) (sym is)

    both : length (links ++ link ∷ []) ≡ length (take i arcs ++ ss ∷ [])
    both = length-append links (link ∷ []) ∙ (ap (λ n. n + 1) now.size ∙ sym (length-append (take i arcs) (ss ∷ [])))

    each : (k : ℕ) (d : List ℕ) (e : Links) → k < length (take i arcs ++ ss ∷ []) → IsLinkedFrom (get_or (take i arcs ++ ss ∷ []) k d) (get_or (links ++ link ∷ []) k e) 0
    each k d e lk = elim (cases_lt k (length (take i arcs))) [
      | inl b ↦ subst (λ xs. IsLinkedFrom xs (get_or (links ++ link ∷ []) k e) 0) (sym (get_or_append_left (take i arcs) (ss ∷ []) d k b))
          (subst (λ y. IsLinkedFrom (get_or (take i arcs) k d) y 0) (sym (get_or_append_left links (link ∷ []) e k (omega (arith, b, now.size)))) (now.each k d e b))
      | inr b ↦
          let at : k ≡ length (take i arcs) = (let h = length-append (take i arcs) (ss ∷ []) in omega (arith, b, lk, h)) in
          subst (λ xs. IsLinkedFrom xs (get_or (links ++ link ∷ []) k e) 0) (sym (last_of (take i arcs) ss d k at))
          (subst (λ y. IsLinkedFrom ss y 0) (sym (last_of links link e k (at ∙ sym now.size))) one)
    ]

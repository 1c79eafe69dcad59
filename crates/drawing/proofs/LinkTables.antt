-- Links over what is gone, when more goes and when they are joined.
use Rattle.std.proofs.Common.{◌≡◌, ℕ, ◌+◌, ◌-◌, ◌<◌, ◌≤◌, Bool, true, min, max, List, [], get_or, length, set, sym, ◌∙◌, ap, subst, arith, inl, inr}
use Rattle.std.proofs.lemmas.Bool.{cases_eq, cases_lt}
use Rattle.std.proofs.lemmas.List.{get_or-set_other, get_or-set_same, get_or_past, get_or_read, length-set}
use Rattle.obd_base.specs.declared.points.Exit.{Exit}
use Rattle.page_surface.specs.Drawing.{Drawing, exit, spot, strand_exits}
use Rattle.drawing.specs.declared.links.Link.{Link}
use Rattle.drawing.specs.Links.{AreLinked, AreNext, Between, exit_gone, link_at}

-- between two numbers of which all between are gone, and on to a third
pub between_join : (gone : ℕ → Bool) (a b c : ℕ) → Between gone a b → gone b ≡ true → Between gone b c → Between gone a c
between_join gone a b c one there two x l m = elim (cases_eq x b) [
  | inl e ↦ ap gone e ∙ there
  | inr ne ↦ elim (cases_lt x b) [ inl h ↦ one x l h | inr h ↦ two x (omega (arith, h, ne)) m ]
]

-- a number more that is gone
pub between_more : (gone : ℕ → Bool) (a b : ℕ) → Between gone a b → gone b ≡ true → Between gone a (b + 1)
between_more gone a b so_far there x l m = elim (cases_eq x b) [ inl e ↦ ap gone e ∙ there | inr ne ↦ so_far x l (omega (arith, m, ne)) ]

-- between neighbours there is none
pub between_near : (gone : ℕ → Bool) (a : ℕ) → Between gone a (a + 1)
between_near gone a x l m = absurd (omega (arith, l, m))

-- links stay right when more is gone
pub linked_more : (gone more : ℕ → Bool) (links : List Link) → ((x : ℕ) → gone x ≡ true → more x ≡ true) → AreLinked gone links → AreLinked more links
linked_more gone more links h r = record {
  before = λ x l y a b. h y (r.before x l y a b);
  after = λ x l y a b. h y (r.after x l y a b);
}

-- what is read of a link
pub link_read : (links : List Link) (x : ℕ) (link : Link) → x < length links → link ≡ get_or links x link → link ≡ link_at links x
link_read links x link l is = get_or_read links x link l is (record { before = 0; after = 0 })

-- one link set anew
pub linked_set : (gone : ℕ → Bool) (links : List Link) (x : ℕ) (link : Link) → x < length links → AreLinked gone links
    → Between gone link.before x → Between gone x link.after → AreLinked gone (set links x link)
linked_set gone links x link there r before after = record {
  before = λ y l. elim (cases_eq y x) [
    | inl e ↦ subst (λ (n : ℕ). Between gone (link_at (set links x link) n).before n) (sym e)
        (subst (λ (k : Link). Between gone k.before x) (sym (get_or-set_same links x link (record { before = 0; after = 0 }) there)) before)
    | inr ne ↦ subst (λ (k : Link). Between gone k.before y) (sym (get_or-set_other links x y link (record { before = 0; after = 0 }) ne)) (r.before y (omega (arith, l, length-set links x link)))
  ];
  after = λ y l. elim (cases_eq y x) [
    | inl e ↦ subst (λ (n : ℕ). Between gone n (link_at (set links x link) n).after) (sym e)
        (subst (λ (k : Link). Between gone x k.after) (sym (get_or-set_same links x link (record { before = 0; after = 0 }) there)) after)
    | inr ne ↦ subst (λ (k : Link). Between gone y k.after) (sym (get_or-set_other links x y link (record { before = 0; after = 0 }) ne)) (r.after y (omega (arith, l, length-set links x link)))
  ];
}

-- between the numbers that are linked to two neighbours which go
pub between_unlinked : (gone : ℕ → Bool) (links : List Link) (one other low high : ℕ) (first last : Link) → AreLinked gone links → gone one ≡ true → gone other ≡ true → AreNext gone one other
    → low ≡ min one other → high ≡ max one other → low < length links → high < length links → first ≡ get_or links low first → last ≡ get_or links high last → Between gone first.before last.after
between_unlinked gone links one other low high first last r here there next il ih ll lh rf rl =
    let low_gone : gone low ≡ true = elim (cases_lt one other) [
      | inl l ↦ ap gone (let e : low ≡ one = omega (arith, il, l) in e) ∙ here
      | inr l ↦ ap gone (let e : low ≡ other = omega (arith, il, l) in e) ∙ there
    ] in
    let high_gone : gone high ≡ true = elim (cases_lt one other) [
      | inl l ↦ ap gone (let e : high ≡ other = omega (arith, ih, l) in e) ∙ there
      | inr l ↦ ap gone (let e : high ≡ one = omega (arith, ih, l) in e) ∙ here
    ] in
    let up : Between gone first.before low = subst (λ (k : Link). Between gone k.before low) (sym (link_read links low first ll rf)) (r.before low ll) in
    let down : Between gone high last.after = subst (λ (k : Link). Between gone high k.after) (sym (link_read links high last lh rl)) (r.after high lh) in
    let mid : Between gone low high = λ x a b. next.1 x (omega (arith, a, il)) (omega (arith, b, ih)) in
    between_join gone first.before high last.after (between_join gone first.before low high up low_gone mid) high_gone down

-- links to neighbours lead over nothing
pub linked_near : (gone : ℕ → Bool) (links : List Link) (n : ℕ) → length links ≤ n → ((x : ℕ) → x < n → ((link_at links x).before ≡ x - 1) × ((link_at links x).after ≡ x + 1)) → AreLinked gone links
linked_near gone links n all near = record {
  before = λ x l y a b. absurd (let e = near x (omega (arith, l, all)) in omega (arith, a, b, e.0));
  after = λ x l y a b. absurd (let e = near x (omega (arith, l, all)) in omega (arith, a, b, e.1));
}

-- one more
pub near_more : (links : List Link) (n : ℕ) (link : Link) → n < length links → link.before ≡ n - 1 → link.after ≡ n + 1
    → ((x : ℕ) → x < n → ((link_at links x).before ≡ x - 1) × ((link_at links x).after ≡ x + 1))
    → (x : ℕ) → x < n + 1 → ((link_at (set links n link) x).before ≡ x - 1) × ((link_at (set links n link) x).after ≡ x + 1)
near_more links n link there before after near x l = elim (cases_eq x n) [
  | inl e ↦ subst (λ (y : ℕ). ((link_at (set links n link) y).before ≡ y - 1) × ((link_at (set links n link) y).after ≡ y + 1)) (sym e)
      (subst (λ (k : Link). (k.before ≡ n - 1) × (k.after ≡ n + 1)) (sym (get_or-set_same links n link (record { before = 0; after = 0 }) there)) (before, after))
  | inr ne ↦ subst (λ (k : Link). (k.before ≡ x - 1) × (k.after ≡ x + 1)) (sym (get_or-set_other links n x link (record { before = 0; after = 0 }) ne)) (near x (omega (arith, l, ne)))
]

-- whether an exit that is read is gone
pub exit_gone_read : (d : Drawing) (gone : ℕ → Bool) (i at n : ℕ) (exits : List Exit) (e : Exit) → exits ≡ strand_exits d i → at < length exits → e ≡ get_or exits at e → n ≡ spot d e
    → exit_gone d gone i at ≡ gone n
exit_gone_read d gone i at n exits e is l read number =
    ap gone (sym (number ∙ ap (spot d) (get_or_read exits at e l read (exit 0 0) ∙ ap (λ (es : List Exit). get_or es at (exit 0 0)) is)))

-- one way more that is linked
pub ways_more : (d : Drawing) (gone : ℕ → Bool) (ways : List (List Link)) (n i : ℕ) (way : List Link) → n < length ways → i ≡ n → AreLinked (exit_gone d gone i) way
    → ((i : ℕ) → i < n → AreLinked (exit_gone d gone i) (get_or ways i [])) → (i : ℕ) → i < n + 1 → AreLinked (exit_gone d gone i) (get_or (set ways n way) i [])
ways_more d gone ways n j way there same here so_far i l = elim (cases_eq i n) [
  | inl e ↦ subst (λ (x : ℕ). AreLinked (exit_gone d gone x) (get_or (set ways n way) x [])) (sym e)
      (subst (λ (w : List Link). AreLinked (exit_gone d gone n) w) (sym (get_or-set_same ways n way [] there)) (subst (λ (x : ℕ). AreLinked (exit_gone d gone x) way) same here))
  | inr ne ↦ subst (λ (w : List Link). AreLinked (exit_gone d gone i) w) (sym (get_or-set_other ways n i way [] ne)) (so_far i (omega (arith, l, ne)))
]

-- where there is no way there are no links
pub ways_past : (d : Drawing) (gone : ℕ → Bool) (ways : List (List Link)) (n : ℕ) → length ways ≤ n
    → ((i : ℕ) → i < n → AreLinked (exit_gone d gone i) (get_or ways i [])) → (i : ℕ) → i < n + 1 → AreLinked (exit_gone d gone i) (get_or ways i [])
ways_past d gone ways n past so_far i l = elim (cases_eq i n) [
  | inl e ↦ subst (λ (w : List Link). AreLinked (exit_gone d gone i) w) (sym (get_or_past ways i [] (omega (arith, e, past)))) (record { before = λ x m. absurd (omega (arith, m)); after = λ x m. absurd (omega (arith, m)) })
  | inr ne ↦ so_far i (omega (arith, l, ne))
]

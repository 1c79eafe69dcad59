-- One sweep with a stack finds out whether chords cross.
use Rattle.std.proofs.Common.{◌≡◌, ℕ, zero, suc, ◌+◌, ◌<◌, ◌≤◌, true, eqb, ◌&&◌, List, [], ◌∷◌, refl, sym, ◌∙◌, ap, arith, inl, inr, ◌≢◌}
use Rattle.std.proofs.lemmas.Bool.{cases_lt, cases_eq, eq-eqb, ne_eqb, eqb-true, lt-ltb, le-ltb, false≢true, and_parts}
use Rattle.obd_base.specs.Lists.{Mem}
use Rattle.drawing.specs.Sweep.{swept}

-- the numbers on the stack fall
abbrev pub Falls : List ℕ → Type 0
Falls [] = Unit {0}
Falls (o ∷ stack) = ((q : ℕ) → Mem q stack → q < o) × Falls stack

module _ (mate : ℕ → ℕ) (twice : (x : ℕ) → mate (mate x) ≡ x) where
  -- the stack before x has the lesser ends before x whose mates are not before x, the latest first
  pub record IsOpen (stack : List ℕ) (x : ℕ) : Type 0 where
    pub each : (o : ℕ) → Mem o stack → (o < x) × (x ≤ mate o)
    pub all : (o : ℕ) → o < x → x ≤ mate o → Mem o stack
    pub falls : Falls stack

  -- two chords cross
  abbrev pub Crossing : ℕ → ℕ → Type 0
  Crossing a c = (a < c) × (c < mate a) × (mate a < mate c)

  -- at the start none is open
  open_start : IsOpen [] 0
  open_start = record { each = λ o m. absurd m; all = λ o l h. absurd (omega arith); falls = tt }

  -- a number that is its own mate changes nothing
  open_skip : (stack : List ℕ) (x : ℕ) → mate x ≡ x → IsOpen stack x → IsOpen stack (suc x)
  open_skip stack x e h = record {
    each = λ o m. let r = h.each o m in (omega (arith, r), elim (cases_eq (mate o) x) [ inl q ↦ absurd (let z : o ≡ mate x = sym (twice o) ∙ ap mate q in omega (arith, r, e, z)) | inr n ↦ omega (arith, r, n) ]);
    all = λ o l k. elim (cases_eq o x) [ inl q ↦ absurd (let z : mate o ≡ mate x = ap mate q in omega (arith, z, e, k)) | inr n ↦ h.all o (omega arith) (omega arith) ];
    falls = h.falls;
  }

  -- a lesser end is opened
  open_push : (stack : List ℕ) (x : ℕ) → x < mate x → IsOpen stack x → IsOpen (x ∷ stack) (suc x)
  open_push stack x e h = record {
    each = λ o m. elim m [
      | inl q ↦ (omega arith, let z : mate o ≡ mate x = ap mate q in omega (arith, z, e))
      | inr n ↦ (let r = h.each o n in (omega (arith, r), elim (cases_eq (mate o) x) [ inl q ↦ absurd (let z : o ≡ mate x = sym (twice o) ∙ ap mate q in omega (arith, r, e, z)) | inr ne ↦ omega (arith, r, ne) ]))
    ];
    all = λ o l k. elim (cases_eq o x) [ inl q ↦ inl q | inr n ↦ inr (h.all o (omega arith) (omega arith)) ];
    falls = ((λ q m. (h.each q m).0), h.falls);
  }

  -- a greater end closes its mate, which is on top
  open_pop : (o : ℕ) (stack : List ℕ) (x : ℕ) → mate x < x → o ≡ mate x → IsOpen (o ∷ stack) x → IsOpen stack (suc x)
  open_pop o stack x e t h = record {
    each = λ q m. let r = h.each q (inr m) in (omega (arith, r), elim (cases_eq (mate q) x) [ inl w ↦ absurd (let z : q ≡ mate x = sym (twice q) ∙ ap mate w in omega (arith, h.falls.0 q m, t, z)) | inr n ↦ omega (arith, r, n) ]);
    all = λ q l k. elim (cases_eq q x) [
      | inl w ↦ absurd (let z : mate q ≡ mate x = ap mate w in omega (arith, z, e, k))
      | inr n ↦ elim (h.all q (omega arith) (omega arith)) [
        | inl w ↦ absurd (let z : mate q ≡ x = ap mate (w ∙ t) ∙ twice x in omega (arith, z, k))
        | inr m ↦ m
      ]
    ];
    falls = h.falls.1;
  }

  -- a sweep that comes to its end has met no crossing
  sweep_sound : (n : ℕ) (stack : List ℕ) (x : ℕ) → IsOpen stack x → swept mate n stack x ≡ true → (a c : ℕ) → Crossing a c → x ≤ mate a → mate a < x + n → ⊥
  sweep_sound zero stack x h s a c w l u = absurd (omega arith)
  sweep_sound (suc n) [] x h s a c w l u = elim (cases_eq (mate x) x) [
    | inl e ↦ sweep_sound n [] (suc x) (open_skip [] x e h) (rw (eq-eqb (mate x) x e) at s) a c w (later e) (omega arith)
    | inr ne ↦ elim (cases_lt x (mate x)) [
      | inl k ↦ sweep_sound n (x ∷ []) (suc x) (open_push [] x k h) (rw (ne_eqb (mate x) x ne, lt-ltb x (mate x) k) at s) a c w (above k) (omega arith)
      | inr k ↦ absurd (false≢true (rw (ne_eqb (mate x) x ne, le-ltb x (mate x) k) at s))
    ]
  ]
    where
      later : mate x ≡ x → suc x ≤ mate a
      later e = elim (cases_eq (mate a) x) [ inl q ↦ absurd (let z : a ≡ mate x = sym (twice a) ∙ ap mate q in omega (arith, w, z, e, q)) | inr n ↦ omega (arith, l, n) ]

      above : x < mate x → suc x ≤ mate a
      above k = elim (cases_eq (mate a) x) [ inl q ↦ absurd (let z : a ≡ mate x = sym (twice a) ∙ ap mate q in omega (arith, w, z, k, q)) | inr n ↦ omega (arith, l, n) ]
  sweep_sound (suc n) (o ∷ stack) x h s a c w l u = elim (cases_eq (mate x) x) [
    | inl e ↦ sweep_sound n (o ∷ stack) (suc x) (open_skip (o ∷ stack) x e h) (rw (eq-eqb (mate x) x e) at s) a c w (later e) (omega arith)
    | inr ne ↦ elim (cases_lt x (mate x)) [
      | inl k ↦ sweep_sound n (x ∷ o ∷ stack) (suc x) (open_push (o ∷ stack) x k h) (rw (ne_eqb (mate x) x ne, lt-ltb x (mate x) k) at s) a c w (above k) (omega arith)
      | inr k ↦
          (let s' : (eqb o (mate x) && swept mate n stack (suc x)) ≡ true = rw (ne_eqb (mate x) x ne, le-ltb x (mate x) k) at s in
          let r = and_parts (eqb o (mate x)) (swept mate n stack (suc x)) s' in
          let top = eqb-true o (mate x) r.0 in
          sweep_sound n stack (suc x) (open_pop o stack x (omega (arith, k, ne)) top h) r.1 a c w (closed top) (omega arith))
    ]
  ]
    where
      later : mate x ≡ x → suc x ≤ mate a
      later e = elim (cases_eq (mate a) x) [ inl q ↦ absurd (let z : a ≡ mate x = sym (twice a) ∙ ap mate q in omega (arith, w, z, e, q)) | inr n ↦ omega (arith, l, n) ]

      above : x < mate x → suc x ≤ mate a
      above k = elim (cases_eq (mate a) x) [ inl q ↦ absurd (let z : a ≡ mate x = sym (twice a) ∙ ap mate q in omega (arith, w, z, k, q)) | inr n ↦ omega (arith, l, n) ]

      -- c is open at x, and so no later than the top of the stack, a
      closed : o ≡ mate x → suc x ≤ mate a
      closed top = elim (cases_eq (mate a) x) [
        | inr n ↦ omega (arith, l, n)
        | inl q ↦
            (let z : a ≡ mate x = sym (twice a) ∙ ap mate q in
            elim (h.all c (omega (arith, w, q)) (omega (arith, w, q))) [
              | inl y ↦ absurd (omega (arith, w, y, top, z))
              | inr m ↦ absurd (omega (arith, h.falls.0 c m, w, top, z))
            ])
      ]

  -- where no chords cross the sweep comes to its end
  sweep_complete : (n : ℕ) (stack : List ℕ) (x : ℕ) → IsOpen stack x → ((a c : ℕ) → Crossing a c → ⊥) → swept mate n stack x ≡ true
  sweep_complete zero stack x h none = refl
  sweep_complete (suc n) [] x h none = elim (cases_eq (mate x) x) [
    | inl e ↦ rw (eq-eqb (mate x) x e) (sweep_complete n [] (suc x) (open_skip [] x e h) none)
    | inr ne ↦ elim (cases_lt x (mate x)) [
      | inl k ↦ rw (ne_eqb (mate x) x ne, lt-ltb x (mate x) k) (sweep_complete n (x ∷ []) (suc x) (open_push [] x k h) none)
      | inr k ↦ absurd (h.all (mate x) (omega (arith, k, ne)) (omega (arith, twice x)))
    ]
  ]
  sweep_complete (suc n) (o ∷ stack) x h none = elim (cases_eq (mate x) x) [
    | inl e ↦ rw (eq-eqb (mate x) x e) (sweep_complete n (o ∷ stack) (suc x) (open_skip (o ∷ stack) x e h) none)
    | inr ne ↦ elim (cases_lt x (mate x)) [
      | inl k ↦ rw (ne_eqb (mate x) x ne, lt-ltb x (mate x) k) (sweep_complete n (x ∷ o ∷ stack) (suc x) (open_push (o ∷ stack) x k h) none)
      | inr k ↦
          (let top : o ≡ mate x = elim (h.all (mate x) (omega (arith, k, ne)) (omega (arith, twice x))) [
            | inl q ↦ sym q
            | inr m ↦ absurd (none (mate x) o (crossing m))
          ] in
          rw (ne_eqb (mate x) x ne, le-ltb x (mate x) k, eq-eqb o (mate x) top)
          (sweep_complete n stack (suc x) (open_pop o stack x (omega (arith, k, ne)) top h) none))
    ]
  ]
    where
      crossing : Mem (mate x) stack → Crossing (mate x) o
      crossing m =
          let r = h.each o (inl refl) in
          let f = h.falls.0 (mate x) m in
          let t = twice x in
          let other : mate o ≢ x = λ q. let z : o ≡ mate x = sym (twice o) ∙ ap mate q in omega (arith, z, f) in
          (f, omega (arith, r, t), omega (arith, r, t, other))

  -- the sweep over the first n numbers, where all mates are below n
  pub sweep_decides : (n : ℕ) → ((x : ℕ) → n ≤ x → mate x ≡ x) → swept mate n [] 0 ≡ true → (a c : ℕ) → Crossing a c → ⊥
  sweep_decides n past s a c w = elim (cases_lt (mate a) n) [
    | inl l ↦ sweep_sound n [] 0 open_start s a c w (omega arith) (omega arith)
    | inr l ↦ absurd (let z : mate (mate a) ≡ mate a = past (mate a) l in omega (arith, w, z, twice a))
  ]

  -- where no chords cross it passes
  pub sweep_passes : (n : ℕ) → ((a c : ℕ) → Crossing a c → ⊥) → swept mate n [] 0 ≡ true
  sweep_passes n none = sweep_complete n [] 0 open_start none

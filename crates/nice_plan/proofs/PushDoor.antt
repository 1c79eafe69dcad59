-- After a row the next door's chord is pushed across the middle span; what a row leaves of other chords.
use Rattle.std.proofs.Common.{◌≡◌, ℕ, suc, Bool, true, false, List, [], ◌∷◌, ◌++◌, map, refl, sym, ◌∙◌, ap, subst, ◌⊎◌, inl, inr}
use Rattle.obd_base.specs.Lists.{Mem}
use Rattle.obd_base.proofs.lists.Members.{mem_append, mem_left, mem_right}
use Rattle.page_surface.specs.Drawing.{Chord}
use Rattle.drawing.specs.Round.{other_end}
use Rattle.drawing.proofs.fingers.Shift.{shift}
use Rattle.drawing.proofs.fingers.Arranged.{Arranged, map_in, swap_arranged}
use Rattle.drawing.proofs.fingers.Finger.{carry}
use Rattle.finger_move.proofs.PushedNext.{next, near, far, other_at}
use Rattle.finger_move.proofs.Cycles.{head_or, Leads, IsCycle}
use Rattle.finger_move.proofs.Spread.{rotate}
use Rattle.nice_plan.proofs.Pushing.{Push, SameChords, same_other, same_cycle, turned_arranged}
use Rattle.nice_plan.proofs.RowLegal.{Stop}
use Rattle.nice_plan.proofs.RowEnd.{Row, last, more, map_twice, row_fresh, Avoids}

-- a chord put first
pub pulled : (ds : List Chord) → Arranged ds → (c : Chord) → Mem c ds → (es : List Chord) × Arranged (c ∷ es) × SameChords ds (c ∷ es)
pulled [] ok c i = absurd i
pulled (d ∷ ds) ok c i = elim i [
  | inl q ↦ (
    ds,
    subst (λ w. Arranged (w ∷ ds)) (sym q) ok,
    record {
      into = λ e j. subst (λ w. Mem e (w ∷ ds)) (sym q) j;
      from = λ e j. subst (λ w. Mem e (w ∷ ds)) q j;
    },
  )
  | inr i ↦ (let (es, a, s) = pulled ds ok.2 c i in (
    d ∷ es,
    swap_arranged d c es (ok.0, λ e j. ok.1 e (s.from e j), a),
    record {
      into = λ e j. elim j [ inl q ↦ inr (subst (λ w. Mem w (d ∷ es)) (sym q) (inl refl)) | inr j ↦ deeper es d e (s.into e j) ];
      from = λ e j. elim j [
        | inl q ↦ inr (s.from e (subst (λ w. Mem w (c ∷ es)) (sym q) (inl refl)))
        | inr j ↦ elim j [ inl q ↦ subst (λ w. Mem w (d ∷ ds)) (sym q) (inl refl) | inr j ↦ inr (s.from e (inr j)) ]
      ];
    },
  ))
]
  where
    deeper : (es : List Chord) (d e : Chord) → (e ≡ c) ⊎ Mem e es → Mem e (c ∷ d ∷ es)
    deeper es d e (inl q) = inl q
    deeper es d e (inr j) = inr (inr j)

-- the last of a list leads to what follows it
pub leads_last : (f : ℕ → ℕ) (zs : List ℕ) (p z : ℕ) → Leads f (zs ++ (p ∷ [])) z → f p ≡ z
leads_last f [] p z h = h.0
leads_last f (y ∷ zs) p z h = leads_last f zs p z h.1

-- lists joined in another grouping
pub append_assoc : (a b c : List ℕ) → (a ++ b) ++ c ≡ a ++ (b ++ c)
append_assoc [] b c = refl
append_assoc (x ∷ a) b c = ap (λ w. x ∷ w) (append_assoc a b c)

-- the next door: a chord with its far end p on the border of the piece that has the middle span m after b; p isn't b. Both parts have two spans or more
pub push_door : (ds : List Chord) → Arranged ds → (c : Chord) (es : List Chord) → Arranged (c ∷ es) → SameChords ds (c ∷ es) → (out : Bool) (b m e : ℕ) (left right : List ℕ)
    → IsCycle (next ds) (b ∷ m ∷ (left ++ (far out c ∷ right))) → (Mem e (b ∷ m ∷ (left ++ (far out c ∷ right))) → ⊥)
    → Push m e out c es (right ++ (b ∷ [])) (left ++ (far out c ∷ []))
push_door ds ok c es new same out b m e left right k ne = record {
  arranged = new;
  cycle = cyc;
  starts = sym (leads_last (next (c ∷ es)) ((right ++ (b ∷ [])) ++ (m ∷ left)) p _ (subst (λ w. Leads (next (c ∷ es)) w (head_or listed 0)) (sym (append_assoc (right ++ (b ∷ [])) (m ∷ left) (p ∷ []))) cyc.leads))
      ∙ ap suc (far_other out);
  outside = λ i. ne (back_in i);
}
  where
    p : ℕ
    p = far out c

    listed : List ℕ
    listed = (right ++ (b ∷ [])) ++ (m ∷ (left ++ (p ∷ [])))

    far_other : (out : Bool) → other_end (c ∷ es) (far out c) ≡ near out c
    far_other true = (other_at (c ∷ es) new c (inl refl)).0
    far_other false = (other_at (c ∷ es) new c (inl refl)).1

    split : b ∷ m ∷ (left ++ (p ∷ right)) ≡ (b ∷ m ∷ (left ++ (p ∷ []))) ++ right
    split = ap (λ w. b ∷ m ∷ w) (sym (append_assoc left (p ∷ []) right))

    turned : right ++ (b ∷ m ∷ (left ++ (p ∷ []))) ≡ (right ++ (b ∷ [])) ++ (m ∷ (left ++ (p ∷ [])))
    turned = sym (append_assoc right (b ∷ []) (m ∷ (left ++ (p ∷ []))))

    cyc : IsCycle (next (c ∷ es)) ((right ++ (b ∷ [])) ++ (m ∷ (left ++ (far out c ∷ []))))
    cyc = same_cycle (next ds) (next (c ∷ es)) _ (λ x. ap suc (same_other ds (c ∷ es) ok new same x))
        (subst (λ w. IsCycle (next ds) w) turned (rotate (next ds) (b ∷ m ∷ (left ++ (p ∷ []))) right (subst (λ w. IsCycle (next ds) w) split k)))

    back_in : Mem e ((right ++ (b ∷ [])) ++ (m ∷ (left ++ (far out c ∷ [])))) → Mem e (b ∷ m ∷ (left ++ (far out c ∷ right)))
    back_in i = elim (mem_append e (right ++ (b ∷ [])) (m ∷ (left ++ (p ∷ []))) i) [
      | inl j ↦ elim (mem_append e right (b ∷ []) j) [
        | inl j ↦ inr (inr (mem_right e left (p ∷ right) (inr j)))
        | inr j ↦ elim j [ inl q ↦ inl q | inr j ↦ absurd j ]
      ]
      | inr j ↦ elim j [
        | inl q ↦ inr (inl q)
        | inr j ↦ elim (mem_append e left (p ∷ []) j) [
          | inl j ↦ inr (inr (mem_left e left (p ∷ right) j))
          | inr j ↦ elim j [ inl q ↦ inr (inr (mem_right e left (p ∷ right) (inl q))) | inr j ↦ absurd j ]
        ]
      ]
    ]

-- a chord in new numbers
abbrev pub carry_by : (ℕ → ℕ) → Chord → Chord
carry_by k c = record { from = k c.from; to = k c.to }

-- the chords but the pushed one are carried by a row
pub row_chords : {t u : ℕ} {out : Bool} {c : Chord} {es : List Chord} {xs ys : List ℕ} {ss : List Stop} {ds : List Chord} {k : ℕ → ℕ} {m e : ℕ} {strips : List Stop}
    → Row t u out c es xs ys ss ds k m e strips → (d : Chord) → Mem d es → Mem (carry_by k d) ds
row_chords (last {t} {u} {out} {c} {es} p) d i = inr (inr (inr (map_in (carry t u) d es i)))
row_chords (more {t} {u} {out} {c} {es} p r) d i = row_chords r (carry t u d) (inr (inr (map_in (carry t u) d es i)))

-- the chords that a row leaves share no end and do not cross
pub row_arranged : {t u : ℕ} {out : Bool} {c : Chord} {es : List Chord} {xs ys : List ℕ} {ss : List Stop} {ds : List Chord} {k : ℕ → ℕ} {m e : ℕ} {strips : List Stop}
    → Row t u out c es xs ys ss ds k m e strips → Arranged ds
row_arranged (last {t} {u} {out} {c} {es} {xs} {ys} p) = turned_arranged t u out c es xs ys p
row_arranged (more p r) = row_arranged r

-- carried spans are in no strip
pub strips_avoid : {t u : ℕ} {out : Bool} {c : Chord} {es : List Chord} {xs ys : List ℕ} {ss : List Stop} {ds : List Chord} {k : ℕ → ℕ} {m e : ℕ} {strips : List Stop}
    → Row t u out c es xs ys ss ds k m e strips → (zs : List ℕ) → Avoids strips (map k zs)
strips_avoid (last p) zs = tt
strips_avoid (more {t} {u} {out} {c} {es} {xs} {ys} {s} {ss} {ds} {k} {m} {e} {strips} p r) zs = (
  λ i. missing m (λ z q. (row_fresh r (shift t u z)).0 (sym q)) zs i,
  λ i. missing e (λ z q. (row_fresh r (shift t u z)).1 (sym q)) zs i,
  subst (λ w. Avoids strips w) (map_twice (shift t u) k zs) (strips_avoid r (map (shift t u) zs)),
)
  where
    missing : (w : ℕ) → ((z : ℕ) → w ≡ k (shift t u z) → ⊥) → (zs : List ℕ) → Mem w (map (λ z. k (shift t u z)) zs) → ⊥
    missing w n [] i = i
    missing w n (z ∷ zs) (inl q) = n z q
    missing w n (z ∷ zs) (inr i) = missing w n zs i

-- carried spans are neither exits nor entries of strips
pub row_avoids : {t u : ℕ} {out : Bool} {c : Chord} {es : List Chord} {xs ys : List ℕ} {ss : List Stop} {ds : List Chord} {k : ℕ → ℕ} {m e : ℕ} {strips : List Stop}
    → Row t u out c es xs ys ss ds k m e strips → (zs : List ℕ) → (Mem m (map k zs) → ⊥) × (Mem e (map k zs) → ⊥) × Avoids strips (map k zs)
row_avoids {ss = ss} {k = k} {m = m} {e = e} {strips = strips} r zs =
    (λ i. missing m (λ z q. (row_fresh r z).0 (sym q)) zs i, λ i. missing e (λ z q. (row_fresh r z).1 (sym q)) zs i, strips_avoid r zs)
  where
    missing : (w : ℕ) → ((z : ℕ) → w ≡ k z → ⊥) → (zs : List ℕ) → Mem w (map k zs) → ⊥
    missing w n [] i = i
    missing w n (z ∷ zs) (inl q) = n z q
    missing w n (z ∷ zs) (inr i) = missing w n zs i

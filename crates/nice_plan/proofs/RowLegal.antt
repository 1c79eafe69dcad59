-- A row of fingers along a path is legal, each finger in the drawing that it meets.
use Rattle.std.proofs.Common.{◌≡◌, ℕ, suc, Bool, true, false, List, [], ◌∷◌, ◌++◌, map, refl, sym, ◌∙◌, ap, subst, inl, inr}
use Rattle.std.proofs.lemmas.Bool.{cases_eq}
use Rattle.obd_base.specs.Lists.{Mem}
use Rattle.page_surface.specs.Drawing.{Chord}
use Rattle.drawing.proofs.fingers.Shift.{shift, early, shift_new, shift_swap}
use Rattle.drawing.proofs.fingers.Finger.{turn, shift_apart}
use Rattle.finger_move.proofs.PushedNext.{next, near}
use Rattle.finger_move.proofs.Cycles.{IsCycle}
use Rattle.nice_plan.proofs.Pushing.{Push, others, carried_cycle}

-- a piece of the path: after its entry u its spans `before`, the span `seg` by which the path leaves, and `after`; `beyond` is glued to seg
pub record Stop : Type 0 where
  pub before : List ℕ
  pub seg : ℕ
  pub after : List ℕ
  pub beyond : ℕ

-- its spans from the entry on
abbrev pub spans_from : ℕ → Stop → List ℕ
spans_from u s = u ∷ (s.before ++ (s.seg ∷ s.after))

-- the pieces of the path as cycles, from entry u on, and none of some spans in any of them
abbrev pub Way : (ℕ → ℕ) → ℕ → List Stop → Type 0
Way f u [] = Unit {0}
Way f u (s ∷ ss) = IsCycle f (spans_from u s) × (Mem s.beyond (spans_from u s) → ⊥) × Way f s.beyond ss

-- a span that lies in none of the pieces
abbrev pub Misses : ℕ → ℕ → List Stop → Type 0
Misses z u [] = Unit {0}
Misses z u (s ∷ ss) = (Mem z (spans_from u s) → ⊥) × Misses z s.beyond ss

-- no piece of the path stands twice: its entry and its exit are in no later piece
abbrev pub Simple : ℕ → List Stop → Type 0
Simple u [] = Unit {0}
Simple u (s ∷ ss) = Misses u s.beyond ss × Misses s.seg s.beyond ss × Simple s.beyond ss

-- a stop after a finger elsewhere
abbrev pub carry_stop : ℕ → ℕ → Stop → Stop
carry_stop t u s = record { before = map (shift t u) s.before; seg = shift t u s.seg; after = map (shift t u) s.after; beyond = shift t u s.beyond }

map_parts : (f : ℕ → ℕ) (xs ys : List ℕ) → map f (xs ++ ys) ≡ map f xs ++ map f ys
map_parts f [] ys = refl
map_parts f (x ∷ xs) ys = ap (λ z. f x ∷ z) (map_parts f xs ys)

carried_spans : (t u e : ℕ) (s : Stop) → map (shift t u) (spans_from e s) ≡ spans_from (shift t u e) (carry_stop t u s)
carried_spans t u e s = ap (λ z. shift t u e ∷ z) (map_parts (shift t u) s.before (s.seg ∷ s.after))

-- what is missing stays so
pub still_missing : (t u z : ℕ) (zs : List ℕ) → (Mem z zs → ⊥) → Mem (shift t u z) (map (shift t u) zs) → ⊥
still_missing t u z [] n i = i
still_missing t u z (w ∷ zs) n (inl q) = elim (cases_eq z w) [ inl e ↦ n (inl e) | inr e ↦ shift_apart t u z w e q ]
still_missing t u z (w ∷ zs) n (inr i) = still_missing t u z zs (λ j. n (inr j)) i

-- in all pieces of the path
pub carry_misses : (t u z e : ℕ) (ss : List Stop) → Misses z e ss → Misses (shift t u z) (shift t u e) (map (carry_stop t u) ss)
carry_misses t u z e [] h = tt
carry_misses t u z e (s ∷ ss) h =
    (λ i. still_missing t u z (spans_from e s) h.0 (subst (λ w. Mem (shift t u z) w) (sym (carried_spans t u e s)) i), carry_misses t u z s.beyond ss h.1)

-- no carried span is the tip
pub tip_missing : (t u : ℕ) (zs : List ℕ) → Mem (suc (early u t)) (map (shift t u) zs) → ⊥
tip_missing t u [] i = i
tip_missing t u (w ∷ zs) (inl q) = (shift_new u t w).1 (sym (shift_swap t u w) ∙ sym q)
tip_missing t u (w ∷ zs) (inr i) = tip_missing t u zs i

-- so the tip lies in none of the pieces
pub tip_misses : (t u e : ℕ) (ss : List Stop) → Misses (suc (early u t)) (shift t u e) (map (carry_stop t u) ss)
tip_misses t u e [] = tt
tip_misses t u e (s ∷ ss) = (λ i. tip_missing t u (spans_from e s) (subst (λ w. Mem (suc (early u t)) w) (sym (carried_spans t u e s)) i), tip_misses t u s.beyond ss)

-- a path that meets no piece twice stays so
pub carry_simple : (t u e : ℕ) (ss : List Stop) → Simple e ss → Simple (shift t u e) (map (carry_stop t u) ss)
carry_simple t u e [] h = tt
carry_simple t u e (s ∷ ss) h = (carry_misses t u e s.beyond ss h.0, carry_misses t u s.seg s.beyond ss h.1, carry_simple t u s.beyond ss h.2)

-- and it stays a path
pub carry_way : (t u : ℕ) (out : Bool) (c : Chord) (es : List Chord) (xs ys : List ℕ) → Push t u out c es xs ys → (e : ℕ) (ss : List Stop)
    → Way (next (c ∷ es)) e ss → Misses t e ss → Misses u e ss → Misses (near out c) e ss
    → Way (next (turn t u out ∷ others t u out c es)) (shift t u e) (map (carry_stop t u) ss)
carry_way t u out c es xs ys p e [] w a b d = tt
carry_way t u out c es xs ys p e (s ∷ ss) w a b d = (
  subst (λ z. IsCycle (next (turn t u out ∷ others t u out c es)) z) (carried_spans t u e s)
      (carried_cycle t u out c es xs ys p (spans_from e s) w.0 a.0 b.0 d.0),
  λ i. still_missing t u s.beyond (spans_from e s) w.1 (subst (λ z. Mem (shift t u s.beyond) z) (sym (carried_spans t u e s)) i),
  carry_way t u out c es xs ys p s.beyond ss w.2 a.1 b.1 d.1,
)

-- the near end of the turn is the tip
pub near_is : (t u : ℕ) (out : Bool) → near out (turn t u out) ≡ suc (early u t)
near_is t u true = refl
near_is t u false = refl

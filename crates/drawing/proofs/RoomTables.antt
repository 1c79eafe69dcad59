-- Vectors of items, their lists joined, and their room.
use Rattle.std.proofs.Common.{◌≡◌, ℕ, zero, suc, ◌+◌, ◌*◌, ◌-◌, ◌<◌, ◌≤◌, ◌⊎◌, inl, inr, subst, List, [], ◌∷◌, ◌++◌, drop, length, get_or, map, set, take, refl, sym, ◌∙◌, ap, arith}
use Rattle.std.specs.Prelude.{Vec, vec_capacity, vec_items, vec_len}
use Rattle.std.specs.List.{flat_map}
use Rattle.std.proofs.lemmas.List.{append-nil, drop_all, take_all, get_or-map, length-map, map-append, map-set, set-get_or, take_more_set}
use Rattle.std.proofs.lemmas.List.Folds.{length-flat_map-take}
use Rattle.obd_base.specs.Lists.{Mem}
use Rattle.drawing.specs.Room.{HaveRoom, rows}
use Rattle.obd_base.proofs.lists.Members.{mem_append}
use Rattle.drawing.proofs.Lists.{mem_at}
use Rattle.drawing.proofs.ThinTables.{row_mem, row_unread, row_written}

-- the lists of vectors, joined
pub joined_rows : {X A : Type 0} (vs : List (Vec X A)) → flat_map vec_items vs ≡ flat_map (λ s. s) (rows vs)
joined_rows [] = refl
joined_rows (v ∷ vs) = ap (λ l. v.items ++ l) (joined_rows vs)

-- the vectors so far and one more are no longer than all of them
pub vector_adds : {X A : Type 0} (vs : List (Vec X A)) (i : ℕ) (v : Vec X A) → i < length vs → v ≡ get_or vs i v
    → length (flat_map vec_items (take i vs)) + vec_len v ≤ length (flat_map (λ s. s) (rows vs))
vector_adds vs i v l is =
    let e = ap (λ w. length (vec_items w)) is in omega (arith, length-flat_map-take vec_items vs i v l, e, v.ok.0, ap length (joined_rows vs))

-- no room is needed for no finger
pub no_room : {X A : Type 0} (vs : List (Vec X A)) → HaveRoom 0 vs
no_room vs v m = omega arith

-- one vector more
pub rows_more : {X A : Type 0} (vs ws : List (Vec X A)) (v : Vec X A) → ws ≡ vs ++ v ∷ [] → rows ws ≡ rows vs ++ v.items ∷ []
rows_more vs ws v is = ap rows is ∙ map-append vec_items vs (v ∷ [])

-- the list of a vector that is read
pub row_read : {X A : Type 0} (vs : List (Vec X A)) (i : ℕ) (v : Vec X A) → i < length vs → v ≡ get_or vs i v → v.items ≡ get_or (rows vs) i v.items
row_read vs i v l is = ap vec_items is ∙ sym (get_or-map vec_items vs i v v.items l)

module _ {X A : Type 0} (f : List X → List X) (start now : List (Vec X A)) (at : ℕ) (so_far : rows now ≡ map f (take at (rows start)) ++ drop at (rows start))
    (l : at < length start) (ln : at < length now) (v : Vec X A) (is : v ≡ get_or now at v) where
  within : at < length (rows start)
  within = omega (arith, l, length-map start vec_items)

  -- a vector that isn't read yet has a list that was there
  pub vector_unread : Mem v.items (rows start)
  vector_unread = row_mem (rows start) (rows now) at v.items within (row_unread f (rows start) (rows now) at v.items so_far within) (row_read now at v ln is)

  -- and is written back
  pub vector_written : (w : Vec X A) → w.items ≡ f v.items → rows (set now at w) ≡ map f (take (at + 1) (rows start)) ++ drop (at + 1) (rows start)
  vector_written w made = map-set vec_items now at w ∙ row_written f (rows start) (rows now) at v.items w.items so_far within (made ∙ ap f (row_read now at v ln is))

-- all vectors are written
pub vectors_all : {X A : Type 0} (f : List X → List X) (start now : List (Vec X A)) (at : ℕ) → length start ≤ at → rows now ≡ map f (take at (rows start)) ++ drop at (rows start)
    → rows now ≡ map f (rows start)
vectors_all f start now at l so_far =
    let all : length (rows start) ≤ at = omega (arith, l, length-map start vec_items) in
    so_far ∙ (rw (drop_all at (rows start) all, take_all at (rows start) all) (append-nil (map f (rows start))))

-- where there is room for some fingers there is room for fewer
pub less_room : {X A : Type 0} (n m : ℕ) (vs : List (Vec X A)) → m ≤ n → HaveRoom n vs → HaveRoom m vs
less_room n m vs l h = λ v k. omega (arith, l, h v k)

-- a vector with another in the place of one of some
in_set : {X : Type 0} (xs : List X) (i : ℕ) (x y : X) → Mem y (set xs i x) → (y ≡ x) ⊎ Mem y xs
in_set [] i x y m = absurd m
in_set (z ∷ xs) zero x y (inl e) = inl e
in_set (z ∷ xs) zero x y (inr m) = inr (inr m)
in_set (z ∷ xs) (suc i) x y (inl e) = inr (inl e)
in_set (z ∷ xs) (suc i) x y (inr m) = elim (in_set xs i x y m) [ inl e ↦ inl e | inr k ↦ inr (inr k) ]

-- room stays where one vector is changed that has room afterwards
pub room_set : {X A : Type 0} (n : ℕ) (vs : List (Vec X A)) (i : ℕ) (w : Vec X A) → HaveRoom n vs → 2 * n ≤ vec_capacity w - vec_len w → HaveRoom n (set vs i w)
room_set n vs i w h r = λ v m. elim (in_set vs i w v m) [ inl e ↦ subst (λ x. 2 * n ≤ vec_capacity x - vec_len x) (sym e) r | inr k ↦ h v k ]

-- the vector that is read has room
pub room_read : {X A : Type 0} (n : ℕ) (vs : List (Vec X A)) (i : ℕ) (v : Vec X A) → i < length vs → v ≡ get_or vs i v → HaveRoom n vs → 2 * n ≤ vec_capacity v - vec_len v
room_read n vs i v l is h = h v (mem_at vs i v l is)

-- the lists stay where one vector is changed and its list stays
pub rows_kept : {X A : Type 0} (vs : List (Vec X A)) (i : ℕ) (v w : Vec X A) → i < length vs → v ≡ get_or vs i v → w.items ≡ v.items → rows (set vs i w) ≡ rows vs
rows_kept vs i v w l is same =
    map-set vec_items vs i w ∙ (ap (set (rows vs) i) (same ∙ row_read vs i v l is) ∙ set-get_or (rows vs) i v.items)

-- one vector more has room
pub room_more : {X A : Type 0} (n : ℕ) (vs : List (Vec X A)) (i : ℕ) (w : Vec X A) → i < length vs → HaveRoom n (take i vs) → 2 * n ≤ vec_capacity w - vec_len w → HaveRoom n (take (i + 1) (set vs i w))
room_more n vs i w l h r = subst (HaveRoom n) (sym (take_more_set vs i w l)) (λ v m. elim (mem_append v (take i vs) (w ∷ []) m) [
  | inl k ↦ h v k
  | inr k ↦ elim k [ inl e ↦ subst (λ x. 2 * n ≤ vec_capacity x - vec_len x) (sym e) r | inr z ↦ absurd z ]
])

-- all have
pub room_all : {X A : Type 0} (n : ℕ) (vs : List (Vec X A)) (i : ℕ) → length vs ≤ i → HaveRoom n (take i vs) → HaveRoom n vs
room_all n vs i l h = subst (HaveRoom n) (take_all i vs l) h

-- Lists of numbers that code keeps with room, and writes one by one.
use Rattle.std.proofs.Common.{◌≡◌, ℕ, ◌+◌, ◌*◌, ◌<◌, ◌≤◌, List, [], Vec, Global, map, length, get_or, set, sym, ◌∙◌, ap, subst, arith, inl, inr}
use Rattle.std.specs.Prelude.{vec_capacity, vec_len}
use Rattle.std.proofs.lemmas.Bool.{cases_eq}
use Rattle.std.proofs.lemmas.List.{get_or-map, get_or-set_other, get_or-set_same, length-map, length-set, map-set}
use Rattle.region_table.specs.Rows.{HaveRoom}

-- a list as it is read
pub row_read : (rows : List (Vec ℕ Global)) (i : ℕ) (row : Vec ℕ Global) → i < length rows → (get_or rows i row).items ≡ get_or (map (λ (row : Vec ℕ Global). row.items) rows) i []
row_read rows i row l = sym (get_or-map (λ (row : Vec ℕ Global). row.items) rows i row [] l)

-- the rows have room still where the new one has
pub room_set : (rows : List (Vec ℕ Global)) (i room : ℕ) (row : Vec ℕ Global) → HaveRoom rows room → (i < length rows → vec_len row + 2 * room ≤ vec_capacity row) → HaveRoom (set rows i row) room
room_set rows i room row has fits j v l = elim (cases_eq j i) [
  | inl e ↦
      let li : i < length rows = omega (arith, l, length-set rows i row, e) in
      subst (λ (w : Vec ℕ Global). vec_len w + 2 * room ≤ vec_capacity w) (sym (ap (λ k. get_or (set rows i row) k v) e ∙ get_or-set_same rows i row v li)) (fits li)
  | inr ne ↦
      subst (λ (w : Vec ℕ Global). vec_len w + 2 * room ≤ vec_capacity w) (sym (get_or-set_other rows i j row v ne)) (has j v (omega (arith, l, length-set rows i row)))
]

-- rows with room for some fingers have room for fewer
pub fewer_rooms : (rows : List (Vec ℕ Global)) (more fewer : ℕ) → fewer ≤ more → HaveRoom rows more → HaveRoom rows fewer
fewer_rooms rows more fewer l has i row li = omega (arith, l, has i row li)

-- one row more has room for some fingers
pub rows_done : (rows : List (Vec ℕ Global)) (i fingers : ℕ) (row : Vec ℕ Global) → i < length rows → ((j : ℕ) (v : Vec ℕ Global) → j < i → vec_len (get_or rows j v) + 2 * fingers ≤ vec_capacity (get_or rows j v))
    → vec_len row + 2 * fingers ≤ vec_capacity row → (j : ℕ) (v : Vec ℕ Global) → j < i + 1 → vec_len (get_or (set rows i row) j v) + 2 * fingers ≤ vec_capacity (get_or (set rows i row) j v)
rows_done rows i fingers row li done fits j v l = elim (cases_eq j i) [
  | inl e ↦ subst (λ (w : Vec ℕ Global). vec_len w + 2 * fingers ≤ vec_capacity w) (sym (ap (λ k. get_or (set rows i row) k v) e ∙ get_or-set_same rows i row v li)) fits
  | inr ne ↦ subst (λ (w : Vec ℕ Global). vec_len w + 2 * fingers ≤ vec_capacity w) (sym (get_or-set_other rows i j row v ne)) (done j v (omega (arith, l, ne)))
]

-- the lists so far after one more is written
module _ (f : List ℕ → List ℕ) (rows old : List (Vec ℕ Global)) (i : ℕ) (row : Vec ℕ Global) (li : i < length rows) where
  after_set : (j : ℕ) → get_or (map (λ (row : Vec ℕ Global). row.items) (set rows i row)) j [] ≡ get_or (set (map (λ (row : Vec ℕ Global). row.items) rows) i row.items) j []
  after_set j = ap (λ xs. get_or xs j []) (map-set (λ (row : Vec ℕ Global). row.items) rows i row)

  pub lists_done : row.items ≡ f (get_or (map (λ (row : Vec ℕ Global). row.items) old) i [])
      → ((j : ℕ) → j < i → get_or (map (λ (row : Vec ℕ Global). row.items) rows) j [] ≡ f (get_or (map (λ (row : Vec ℕ Global). row.items) old) j []))
      → (j : ℕ) → j < i + 1 → get_or (map (λ (row : Vec ℕ Global). row.items) (set rows i row)) j [] ≡ f (get_or (map (λ (row : Vec ℕ Global). row.items) old) j [])
  lists_done is done j l = after_set j ∙ elim (cases_eq j i) [
    | inl e ↦
        subst (λ k. get_or (set (map (λ (row : Vec ℕ Global). row.items) rows) i row.items) k [] ≡ f (get_or (map (λ (row : Vec ℕ Global). row.items) old) k [])) (sym e)
        (get_or-set_same (map (λ (row : Vec ℕ Global). row.items) rows) i row.items [] (omega (arith, li, length-map rows (λ (row : Vec ℕ Global). row.items))) ∙ is)
    | inr ne ↦ get_or-set_other (map (λ (row : Vec ℕ Global). row.items) rows) i j row.items [] ne ∙ done j (omega (arith, l, ne))
  ]

  pub lists_left : ((j : ℕ) → i ≤ j → get_or (map (λ (row : Vec ℕ Global). row.items) rows) j [] ≡ get_or (map (λ (row : Vec ℕ Global). row.items) old) j [])
      → (j : ℕ) → i + 1 ≤ j → get_or (map (λ (row : Vec ℕ Global). row.items) (set rows i row)) j [] ≡ get_or (map (λ (row : Vec ℕ Global). row.items) old) j []
  lists_left left j l = after_set j ∙ (get_or-set_other (map (λ (row : Vec ℕ Global). row.items) rows) i j row.items [] (λ e. absurd (omega (arith, l, e))) ∙ left j (omega (arith, l)))

-- a row of shifted lists as it is read
pub row_shifted : (f : List ℕ → List ℕ) (whole rows : List (Vec ℕ Global)) (lists : List (List ℕ)) (i : ℕ) (row : Vec ℕ Global) → whole ≡ rows → map (λ (row : Vec ℕ Global). row.items) rows ≡ map f lists
    → i < length lists → row ≡ get_or whole i row → row.items ≡ f (get_or lists i [])
row_shifted f whole rows lists i row same are l is =
    ap (λ (v : Vec ℕ Global). v.items) is
    ∙ (ap (λ (rs : List (Vec ℕ Global)). (get_or rs i row).items) same
    ∙ (row_read rows i row (omega (arith, l, ap length are, length-map rows (λ (row : Vec ℕ Global). row.items), length-map lists f))
    ∙ (ap (λ xs. get_or xs i []) are ∙ get_or-map f lists i [] [] l)))

-- the lists where two numbers more were put into one
pub lists_put : (whole rows : List (Vec ℕ Global)) (moved : List (List ℕ)) (i : ℕ) (row : Vec ℕ Global) (own : List ℕ) → whole ≡ rows → map (λ (row : Vec ℕ Global). row.items) rows ≡ moved → row.items ≡ own
    → map (λ (row : Vec ℕ Global). row.items) (set whole i row) ≡ set moved i own
lists_put whole rows moved i row own same are is =
    map-set (λ (row : Vec ℕ Global). row.items) whole i row
    ∙ (ap (λ (rs : List (Vec ℕ Global)). set (map (λ (row : Vec ℕ Global). row.items) rs) i row.items) same ∙ (ap (λ xs. set xs i row.items) are ∙ ap (set moved i) is))

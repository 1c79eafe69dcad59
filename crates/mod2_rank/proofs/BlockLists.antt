-- Lists that stand one after another in one list: one more item, one list more, an open list taken back, and one list by its number.
use Rattle.std.proofs.Common.{◌≡◌, ℕ, zero, suc, ◌-◌, ◌<◌, ◌≤◌, List, [], ◌∷◌, ◌++◌, length, get_or, take, drop, refl, sym, ◌∙◌, ap, arith, length-drop, length-take, min, subst}
use Rattle.std.proofs.lemmas.List.{take-append-drop}
use Rattle.mod2_rank.specs.Blocks.{EndsFit, blocks, last_end, start_of}

-- the first of two numbers is the lesser
min_left : (a b : ℕ) → a ≤ b → min a b ≡ a
min_left a b l = omega arith

-- of two joined lists, what is left of the first stays before the second
drop_joined : (n : ℕ) (xs ys : List ℕ) → n ≤ length xs → drop n (xs ++ ys) ≡ drop n xs ++ ys
drop_joined zero xs ys h = refl
drop_joined (suc n) [] ys h = absurd (omega arith)
drop_joined (suc n) (x ∷ xs) ys h = drop_joined n xs ys (omega arith)

-- what is taken from the first alone
take_joined : (n : ℕ) (xs ys : List ℕ) → n ≤ length xs → take n (xs ++ ys) ≡ take n xs
take_joined zero xs ys h = refl
take_joined (suc n) [] ys h = absurd (omega arith)
take_joined (suc n) (x ∷ xs) ys h = ap (λ w. x ∷ w) (take_joined n xs ys (omega arith))

-- all of a list
take_whole : (n : ℕ) (xs : List ℕ) → n ≡ length xs → take n xs ≡ xs
take_whole zero [] h = refl
take_whole zero (x ∷ xs) h = absurd (omega arith)
take_whole (suc n) [] h = absurd (omega arith)
take_whole (suc n) (x ∷ xs) h = ap (λ w. x ∷ w) (take_whole n xs (omega arith))

-- the last list ends within the size
pub last_fits : (from size : ℕ) (ends : List ℕ) → EndsFit from size ends → last_end from ends ≤ size
last_fits from size [] h = h
last_fits from size (end ∷ ends) h = last_fits end size ends h.1

-- and begins no later than it ends
begin_fits : (from size : ℕ) (ends : List ℕ) → EndsFit from size ends → from ≤ last_end from ends
begin_fits from size [] h = omega arith
begin_fits from size (end ∷ ends) h = omega (arith, h.0, begin_fits end size ends h.1)

-- ends that fit in a size fit in a greater one
pub ends_wider : (from size wide : ℕ) (ends : List ℕ) → EndsFit from size ends → size ≤ wide → EndsFit from wide ends
ends_wider from size wide [] h l = omega arith
ends_wider from size wide (end ∷ ends) h l = (h.0, ends_wider end size wide ends h.1 l)

-- items more at the end change no whole list
pub blocks_kept : (items more : List ℕ) (from : ℕ) (ends : List ℕ) → EndsFit from (length items) ends → blocks (items ++ more) from ends ≡ blocks items from ends
blocks_kept items more from [] h = refl
blocks_kept items more from (end ∷ ends) h =
    let e = begin_fits end (length items) ends h.1 in
    let l = last_fits end (length items) ends h.1 in
    let d : drop from (items ++ more) ≡ drop from items ++ more = drop_joined from items more (omega arith) in
    let s : length (drop from items) ≡ length items - from = length-drop from items in
    rw (d, take_joined (end - from) (drop from items) more (omega arith), blocks_kept items more end ends h.1) refl

-- and grow the open one
pub open_more : (items more : List ℕ) (from : ℕ) (ends : List ℕ) → EndsFit from (length items) ends → drop (last_end from ends) (items ++ more) ≡ drop (last_end from ends) items ++ more
open_more items more from ends h = drop_joined (last_end from ends) items more (last_fits from (length items) ends h)

-- the open list is closed
pub blocks_closed : (items : List ℕ) (from : ℕ) (ends : List ℕ) → EndsFit from (length items) ends
    → blocks items from (ends ++ length items ∷ []) ≡ blocks items from ends ++ drop (last_end from ends) items ∷ []
blocks_closed items from [] h = ap (λ xs. xs ∷ []) (take_whole (length items - from) (drop from items) (sym (length-drop from items)))
blocks_closed items from (end ∷ ends) h = ap (λ w. take (end - from) (drop from items) ∷ w) (blocks_closed items end ends h.1)

-- a new end is the last one
pub last_closed : (from size : ℕ) (ends : List ℕ) → last_end from (ends ++ size ∷ []) ≡ size
last_closed from size [] = refl
last_closed from size (end ∷ ends) = last_closed end size ends

-- and fits
pub ends_closed : (from size : ℕ) (ends : List ℕ) → EndsFit from size ends → EndsFit from size (ends ++ size ∷ [])
ends_closed from size [] h = (h, omega arith)
ends_closed from size (end ∷ ends) h = (h.0, ends_closed end size ends h.1)

-- the open list is taken back
pub ends_cut : (from size : ℕ) (ends : List ℕ) → EndsFit from size ends → EndsFit from (last_end from ends) ends
ends_cut from size [] h = omega arith
ends_cut from size (end ∷ ends) h = (h.0, ends_cut end size ends h.1)

-- list l by its number
pub block_at : (items : List ℕ) (from : ℕ) (ends : List ℕ) (l : ℕ) → l < length ends
    → get_or (blocks items from ends) l [] ≡ take (get_or ends l 0 - start_of from ends l) (drop (start_of from ends l) items)
block_at items from [] l h = absurd (omega arith)
block_at items from (end ∷ ends) zero h = refl
block_at items from (end ∷ ends) (suc zero) h = block_at items end ends zero (omega arith)
block_at items from (end ∷ ends) (suc (suc l)) h = block_at items end ends (suc l) (omega arith)

-- each list begins no later than it ends, and ends within the size
pub ends_in_order : (from size : ℕ) (ends : List ℕ) (l : ℕ) → EndsFit from size ends → l < length ends → (start_of from ends l ≤ get_or ends l 0) × (get_or ends l 0 ≤ size)
ends_in_order from size [] l f h = absurd (omega arith)
ends_in_order from size (end ∷ ends) zero f h = (f.0, omega (arith, begin_fits end size ends f.1, last_fits end size ends f.1))
ends_in_order from size (end ∷ ends) (suc zero) f h = ends_in_order end size ends zero f.1 (omega arith)
ends_in_order from size (end ∷ ends) (suc (suc l)) f h = ends_in_order end size ends (suc l) f.1 (omega arith)

-- there are as many lists as ends
pub block_count : (items : List ℕ) (from : ℕ) (ends : List ℕ) → length (blocks items from ends) ≡ length ends
block_count items from [] = refl
block_count items from (end ∷ ends) = ap suc (block_count items end ends)

-- the last list ends where one more would begin
pub last_start : (from : ℕ) (ends : List ℕ) → start_of from ends (length ends) ≡ last_end from ends
last_start from [] = refl
last_start from (end ∷ []) = refl
last_start from (end ∷ next ∷ ends) = last_start end (next ∷ ends)

-- no list stands in what was cut off
pub blocks_cut : (items : List ℕ) (from : ℕ) (ends : List ℕ) → EndsFit from (length items) ends → blocks (take (last_end from ends) items) from ends ≡ blocks items from ends
blocks_cut items from ends h =
    let n = last_end from ends in
    let l = last_fits from (length items) ends h in
    let s : length (take n items) ≡ n = length-take n items ∙ min_left n (length items) l in
    let fit : EndsFit from (length (take n items)) ends = subst (λ k. EndsFit from k ends) (sym s) (ends_cut from (length items) ends h) in
    sym (blocks_kept (take n items) (drop n items) from ends fit) ∙ ap (λ xs. blocks xs from ends) (take-append-drop n items)

-- the whole lists take the places up to the last end
pub cut_length : (items : List ℕ) (from : ℕ) (ends : List ℕ) → EndsFit from (length items) ends → length (take (last_end from ends) items) ≡ last_end from ends
cut_length items from ends h = length-take (last_end from ends) items ∙ min_left (last_end from ends) (length items) (last_fits from (length items) ends h)

-- Sums of columns as tests of rows: a column is the test whether a row stands in it.
use Rattle.std.proofs.Common.{◌≡◌, Bool, true, false, refl, sym, ◌∙◌, ap}
use mathlib.Core.Path.{fun_ext}
use Rattle.mod2_rank.specs.Rows.{differ, Rows, none, plus}

-- differences of three
pub differ_assoc : (a b c : Bool) → differ (differ a b) c ≡ differ a (differ b c)
differ_assoc true true true = refl
differ_assoc true true false = refl
differ_assoc true false true = refl
differ_assoc true false false = refl
differ_assoc false b c = refl

-- in either order
pub differ_comm : (a b : Bool) → differ a b ≡ differ b a
differ_comm true true = refl
differ_comm true false = refl
differ_comm false true = refl
differ_comm false false = refl

-- twice is nothing
pub differ_twice : (a b : Bool) → differ (differ a b) b ≡ a
differ_twice true true = refl
differ_twice true false = refl
differ_twice false true = refl
differ_twice false false = refl

-- no test differs from itself
pub differ_itself : (a : Bool) → differ a a ≡ false
differ_itself true = refl
differ_itself false = refl

-- from a false one it differs where it is true
pub differ_false : (a : Bool) → differ a false ≡ a
differ_false true = refl
differ_false false = refl

-- two that differ by nothing are equal
pub same_from_differ : (a b : Bool) → differ a b ≡ false → a ≡ b
same_from_differ true true h = refl
same_from_differ true false h = h
same_from_differ false b h = sym h

-- the inner two change places
pub differ_middle : (a b c d : Bool) → differ (differ a b) (differ c d) ≡ differ (differ a c) (differ b d)
differ_middle a b c d =
    differ_assoc a b (differ c d) ∙ (ap (differ a) (sym (differ_assoc b c d) ∙ (ap (λ x. differ x d) (differ_comm b c) ∙ differ_assoc c b d)) ∙ sym (differ_assoc a c (differ b d)))

-- a column added twice is gone
pub plus_twice : (v c : Rows) → plus (plus v c) c ≡ v
plus_twice v c = fun_ext (λ r. differ_twice (v r) (c r))

-- the empty column adds nothing
pub plus_none : (v : Rows) → plus v none ≡ v
plus_none v = fun_ext (λ r. differ_false (v r))

-- a column and itself make nothing
pub plus_itself : (v : Rows) → plus v v ≡ none
plus_itself v = fun_ext (λ r. differ_itself (v r))

-- sums in either order
pub plus_comm : (v w : Rows) → plus v w ≡ plus w v
plus_comm v w = fun_ext (λ r. differ_comm (v r) (w r))

-- sums of three
pub plus_assoc : (u v w : Rows) → plus (plus u v) w ≡ plus u (plus v w)
plus_assoc u v w = fun_ext (λ r. differ_assoc (u r) (v r) (w r))

-- the last two in either order
pub plus_swap : (u v w : Rows) → plus (plus u v) w ≡ plus (plus u w) v
plus_swap u v w = plus_assoc u v w ∙ (ap (plus u) (plus_comm v w) ∙ sym (plus_assoc u w v))

-- sums of four, the two in the middle in either order
pub plus_middle : (a b c d : Rows) → plus (plus a b) (plus c d) ≡ plus (plus a c) (plus b d)
plus_middle a b c d = fun_ext (λ r. differ_middle (a r) (b r) (c r) (d r))

-- two columns whose sum is empty are equal
pub same_from_plus : (v w : Rows) → plus v w ≡ none → v ≡ w
same_from_plus v w h = fun_ext (λ r. same_from_differ (v r) (w r) (ap (λ (u : Rows). u r) h))

-- a column added to both sides of a sum drops out
pub plus_both : (v w c : Rows) → plus (plus v c) (plus w c) ≡ plus v w
plus_both v w c = plus_middle v c w c ∙ (ap (plus (plus v w)) (plus_itself c) ∙ plus_none (plus v w))

-- The lists of a table after a finger, as code writes them.
use Rattle.std.proofs.Common.{◌≡◌, ◌≢◌, ℕ, suc, ◌+◌, ◌<◌, List, map, length, get_or, set, sym, ◌∙◌, ap, subst, arith}
use Rattle.std.proofs.lemmas.List.{get_or-map, get_or-set_other, get_or-set_same, length-map, length-set}
use Rattle.drawing.proofs.fingers.Finger.{shift_apart}
use Rattle.drawing.proofs.fingers.Shift.{early, rooms, shift, shift_new, shift_swap}
use Rattle.region_table.specs.Ends.{ChordNo}
use Rattle.region_table.specs.FingerLists.{AreEndsAfter, AreMatesAfter, ArePut, IsNamedByFinger, comes_in_front, renamed_part, renumbered}
use Rattle.region_table.proofs.fingers.Entries.{named_by_entries}

-- two entries are written over
module _ {X : Type 0} (xs : List X) (a b : ℕ) (x y z : X) where
  -- the others stay
  pub two_others : (w : ℕ) → w ≢ a → w ≢ b → get_or (set (set xs a x) b y) w z ≡ get_or xs w z
  two_others w na nb = get_or-set_other (set xs a x) b w y z nb ∙ get_or-set_other xs a w x z na

  pub two_first : a ≢ b → a < length xs → get_or (set (set xs a x) b y) a z ≡ x
  two_first ne l = get_or-set_other (set xs a x) b a y z ne ∙ get_or-set_same xs a x z l

  pub two_second : b < length xs → get_or (set (set xs a x) b y) b z ≡ y
  two_second l = get_or-set_same (set xs a x) b y z (omega (arith, l, length-set xs a x))

-- a list whose old entries moved, where four were put in and those at two ends are written over
module _ {X : Type 0} (z : X) (f : X → X) (t u near far : ℕ) (a b c e x y : X) (xs moved put : List X) (apart : near ≢ far) (near_in : near < length xs) (far_in : far < length xs)
    (is : moved ≡ map f xs) (written : ArePut t u a b c e moved put) where
  abbrev after : List X
  after = set (set put (shift t u near) x) (shift t u far) y

  moved_size : length moved ≡ length xs
  moved_size = ap length is ∙ length-map xs f

  -- a new number is no old one's
  new_entry : (w : ℕ) (v : X) → ((s : ℕ) → shift t u s ≢ w) → get_or put w z ≡ v → get_or after w z ≡ v
  new_entry w v n q = two_others put (shift t u near) (shift t u far) x y z w (λ h. n near (sym h)) (λ h. n far (sym h)) ∙ q

  pub at_old : (s : ℕ) → s < length xs → s ≢ near → s ≢ far → get_or after (shift t u s) z ≡ f (get_or xs s z)
  at_old s l n m =
      two_others put (shift t u near) (shift t u far) x y z (shift t u s) (shift_apart t u s near n) (shift_apart t u s far m)
      ∙ (written.old z s (omega (arith, l, moved_size)) ∙ (ap (λ ys. get_or ys s z) is ∙ get_or-map f xs s z z l))

  pub at_near : get_or after (shift t u near) z ≡ x
  at_near = two_first put (shift t u near) (shift t u far) x y z (shift_apart t u near far apart) (omega (arith, written.size, moved_size, near_in, rooms near t, rooms near u))

  pub at_far : get_or after (shift t u far) z ≡ y
  at_far = two_second put (shift t u near) (shift t u far) x y z (omega (arith, written.size, moved_size, far_in, rooms far t, rooms far u))

  pub at_early : get_or after (early t u) z ≡ a
  at_early = new_entry (early t u) a (λ s. (shift_new t u s).0) (written.first z)

  pub at_late : get_or after (suc (early t u)) z ≡ b
  at_late = new_entry (suc (early t u)) b (λ s. (shift_new t u s).1) (written.second z)

  pub at_beyond : get_or after (early u t) z ≡ c
  at_beyond = new_entry (early u t) c (λ s h. (shift_new u t s).0 (sym (shift_swap t u s) ∙ h)) (written.third z)

  pub at_tip : get_or after (suc (early u t)) z ≡ e
  at_tip = new_entry (suc (early u t)) e (λ s h. (shift_new u t s).1 (sym (shift_swap t u s) ∙ h)) (written.fourth z)

-- the other ends are written
mates_written : (t u near far : ℕ) (mates moved put : List ℕ) → near ≢ far → near < length mates → far < length mates → moved ≡ map (shift t u) mates
    → ArePut t u (shift t u near) (shift t u far) (suc (early u t)) (early u t) moved put
    → AreMatesAfter (length mates) t u near far (λ s. get_or mates s 0) (λ w. get_or (set (set put (shift t u near) (early t u)) (shift t u far) (suc (early t u))) w 0)
mates_written t u near far mates moved put apart ln lf is written = record {
  others = at_old 0 (shift t u) t u near far (shift t u near) (shift t u far) (suc (early u t)) (early u t) (early t u) (suc (early t u)) mates moved put apart ln lf is written;
  at_near = at_near 0 (shift t u) t u near far (shift t u near) (shift t u far) (suc (early u t)) (early u t) (early t u) (suc (early t u)) mates moved put apart ln lf is written;
  at_early = at_early 0 (shift t u) t u near far (shift t u near) (shift t u far) (suc (early u t)) (early u t) (early t u) (suc (early t u)) mates moved put apart ln lf is written;
  at_far = at_far 0 (shift t u) t u near far (shift t u near) (shift t u far) (suc (early u t)) (early u t) (early t u) (suc (early t u)) mates moved put apart ln lf is written;
  at_late = at_late 0 (shift t u) t u near far (shift t u near) (shift t u far) (suc (early u t)) (early u t) (early t u) (suc (early t u)) mates moved put apart ln lf is written;
  at_beyond = at_beyond 0 (shift t u) t u near far (shift t u near) (shift t u far) (suc (early u t)) (early u t) (early t u) (suc (early t u)) mates moved put apart ln lf is written;
  at_tip = at_tip 0 (shift t u) t u near far (shift t u near) (shift t u far) (suc (early u t)) (early u t) (early t u) (suc (early t u)) mates moved put apart ln lf is written;
}

-- the chords at their ends are written
ends_written : (t u near far : ℕ) (pushed here beyond there : ChordNo) (ends moved put : List ChordNo) → near ≢ far → near < length ends → far < length ends → moved ≡ map (renumbered pushed) ends
    → ArePut t u here there beyond beyond moved put → AreEndsAfter (length ends) t u near far pushed here beyond there ends (set (set put (shift t u near) here) (shift t u far) there)
ends_written t u near far pushed here beyond there ends moved put apart ln lf is written = record {
  others = at_old (record { strand = 0; chord = 0 }) (renumbered pushed) t u near far here there beyond beyond here there ends moved put apart ln lf is written;
  at_near = at_near (record { strand = 0; chord = 0 }) (renumbered pushed) t u near far here there beyond beyond here there ends moved put apart ln lf is written;
  at_early = at_early (record { strand = 0; chord = 0 }) (renumbered pushed) t u near far here there beyond beyond here there ends moved put apart ln lf is written;
  at_far = at_far (record { strand = 0; chord = 0 }) (renumbered pushed) t u near far here there beyond beyond here there ends moved put apart ln lf is written;
  at_late = at_late (record { strand = 0; chord = 0 }) (renumbered pushed) t u near far here there beyond beyond here there ends moved put apart ln lf is written;
  at_beyond = at_beyond (record { strand = 0; chord = 0 }) (renumbered pushed) t u near far here there beyond beyond here there ends moved put apart ln lf is written;
  at_tip = at_tip (record { strand = 0; chord = 0 }) (renumbered pushed) t u near far here there beyond beyond here there ends moved put apart ln lf is written;
}

-- the parts of the pushed chord may have other names
pub parts_named : (n t u near far : ℕ) (pushed x y z here beyond there : ChordNo) (ends after : List ChordNo) → x ≡ here → y ≡ beyond → z ≡ there
    → AreEndsAfter n t u near far pushed x y z ends after → AreEndsAfter n t u near far pushed here beyond there ends after
parts_named n t u near far pushed x y z here beyond there ends after e f g are =
    subst (λ w. AreEndsAfter n t u near far pushed w beyond there ends after) e
    (subst (λ w. AreEndsAfter n t u near far pushed x w there ends after) f (subst (λ w. AreEndsAfter n t u near far pushed x y w ends after) g are))

-- and as code writes them
pub ends_code : (t u near far : ℕ) (pushed here beyond there : ChordNo) (ends seen moved whole put : List ChordNo) (nearer farther : ℕ) → near ≢ far → near < length ends → far < length ends
    → seen ≡ ends → moved ≡ map (renumbered pushed) seen → whole ≡ moved → nearer ≡ shift t u near → farther ≡ shift t u far → ArePut t u here there beyond beyond whole put
    → AreEndsAfter (length ends) t u near far pushed here beyond there ends (set (set put nearer here) farther there)
ends_code t u near far pushed here beyond there ends seen moved whole put nearer farther apart ln lf e m r n f written =
    subst (λ x. AreEndsAfter (length ends) t u near far pushed here beyond there ends (set (set put nearer here) x there)) (sym f)
    (subst (λ x. AreEndsAfter (length ends) t u near far pushed here beyond there ends (set (set put x here) (shift t u far) there)) (sym n)
    (ends_written t u near far pushed here beyond there ends moved put apart ln lf (m ∙ ap (map (renumbered pushed)) e) (subst (λ xs. ArePut t u here there beyond beyond xs put) r written)))

-- the names are written
pub names_written : (t u from near count : ℕ) (names renamed put : List ℕ) → length renamed ≡ length names
    → ((s : ℕ) → s < length names → get_or renamed s 0 ≡ renamed_part (get_or names t 0) count (comes_in_front from t) (λ s. get_or names s 0) s)
    → ArePut t u (get_or names t 0) (get_or names near 0) (get_or names u 0) (suc count) renamed put
    → IsNamedByFinger (length names) t u near count (comes_in_front from t) (λ s. get_or names s 0) (λ w. get_or put w 0)
names_written t u from near count names renamed put size entries written =
    named_by_entries (length names) t u near count (comes_in_front from t) (λ s. get_or names s 0) renamed put size entries written

-- the names as code writes them
pub names_code : (t u from near count : ℕ) (names seen renamed whole put : List ℕ) (piece behind past tip : ℕ) → seen ≡ names → whole ≡ renamed
    → piece ≡ get_or names t 0 → behind ≡ get_or names near 0 → past ≡ get_or names u 0 → tip ≡ suc count → length renamed ≡ length seen
    → ((s : ℕ) → s < length seen → get_or renamed s 0 ≡ renamed_part piece count (comes_in_front from t) (λ s. get_or seen s 0) s)
    → ArePut t u piece behind past tip whole put → IsNamedByFinger (length names) t u near count (comes_in_front from t) (λ s. get_or names s 0) (λ w. get_or put w 0)
names_code t u from near count names seen renamed whole put piece behind past tip e r a b c k size entries written =
    names_written t u from near count names renamed put (size ∙ ap length e)
    (λ s l.
    entries s (omega (arith, l, ap length e))
    ∙ (ap (λ x. renamed_part x count (comes_in_front from t) (λ s. get_or seen s 0) s) a
    ∙ ap (λ xs. renamed_part (get_or names t 0) count (comes_in_front from t) (λ s. get_or xs s 0) s) e))
    (subst (λ x. ArePut t u (get_or names t 0) (get_or names near 0) (get_or names u 0) x renamed put) k
    (subst (λ x. ArePut t u (get_or names t 0) (get_or names near 0) x tip renamed put) c
    (subst (λ x. ArePut t u (get_or names t 0) x past tip renamed put) b
    (subst (λ x. ArePut t u x behind past tip renamed put) a (subst (λ xs. ArePut t u piece behind past tip xs put) r written)))))

-- the other ends as code writes them
pub mates_code : (t u near far : ℕ) (mates seen moved whole put : List ℕ) (nearer farther front past : ℕ) → near ≢ far → near < length mates → far < length mates
    → seen ≡ mates → moved ≡ map (shift t u) seen → whole ≡ moved → nearer ≡ shift t u near → farther ≡ shift t u far → front ≡ early t u → past ≡ early u t
    → ArePut t u nearer farther (past + 1) past whole put
    → AreMatesAfter (length mates) t u near far (λ s. get_or mates s 0) (λ w. get_or (set (set put nearer front) farther (front + 1)) w 0)
mates_code t u near far mates seen moved whole put nearer farther front past apart ln lf e m r n f a b written =
    let first : front + 1 ≡ suc (early t u) = omega (arith, a) in
    let third : past + 1 ≡ suc (early u t) = omega (arith, b) in
    let made = mates_written t u near far mates moved put apart ln lf (m ∙ ap (map (shift t u)) e)
    (subst (λ x. ArePut t u (shift t u near) (shift t u far) (suc (early u t)) x moved put) b
    (subst (λ x. ArePut t u (shift t u near) (shift t u far) x past moved put) third
    (subst (λ x. ArePut t u (shift t u near) x (past + 1) past moved put) f
    (subst (λ x. ArePut t u x farther (past + 1) past moved put) n (subst (λ xs. ArePut t u nearer farther (past + 1) past xs put) r written)))))
    in
    subst (λ x. AreMatesAfter (length mates) t u near far (λ s. get_or mates s 0) (λ w. get_or (set (set put nearer front) farther x) w 0)) (sym first)
    (subst (λ x. AreMatesAfter (length mates) t u near far (λ s. get_or mates s 0) (λ w. get_or (set (set put nearer x) farther (suc (early t u))) w 0)) (sym a)
    (subst (λ x. AreMatesAfter (length mates) t u near far (λ s. get_or mates s 0) (λ w. get_or (set (set put nearer (early t u)) x (suc (early t u))) w 0)) (sym f)
    (subst (λ x. AreMatesAfter (length mates) t u near far (λ s. get_or mates s 0) (λ w. get_or (set (set put x (early t u)) (shift t u far) (suc (early t u))) w 0)) (sym n) made)))

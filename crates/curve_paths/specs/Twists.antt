-- Twist words: the words of all strands under powers of Dehn twists, one entry after another.
use Rattle.std.specs.Prelude.{◌≡◌, ℕ, suc, zero, ◌<◌, ◌≤◌, nat_lt, List, [], ◌∷◌, length, slice_index_or, All, Option, Result, Ok, Err, unwrap_or, ℤ, pos, negsuc, unsigned_abs, if◌then◌else◌}
use Rattle.std.specs.List.{sum_by}
use Rattle.obd_base.specs.declared.points.Exit.{Exit}
use Rattle.obd_base.specs.declared.points.Sign.{Sign}
use Rattle.obd_base.specs.declared.points.Sign.TheVariants.{Plus, Minus}
use Rattle.page_surface.specs.Polygon.{Polygon, arc_count, sides}
use Rattle.curve_paths.specs.Curves.{identity_words, twisted}
use Rattle.curve_paths.specs.declared.twist.TooLong.{TooLong}
use Rattle.curve_paths.specs.declared.twist.Twist.{Twist}

-- the exits of a curve, none where it crosses no side
abbrev pub exits_of : Option (List Exit) → List Exit
exits_of curve = unwrap_or curve []

-- how many letters some words have together
abbrev pub letters : List (List ℕ) → ℕ
letters ws = sum_by length ws

-- what is kept of the words of all strands: one for each arc, all letters are sides, and together they are at most 4,000
pub record AreWords (p : Polygon) (ws : List (List ℕ)) : Type 0 where
  pub each : length ws ≡ arc_count p
  pub in_range : All (λ w. All (λ s. s < sides p) w) ws
  pub few : letters ws ≤ 4000

-- one single twist on the words of all strands; a curve that crosses no side changes nothing
abbrev pub turned_by : Polygon → List Exit → Sign → List (List ℕ) → List (List ℕ)
turned_by p [] sign ws = ws
turned_by p (e ∷ c) sign ws = twisted p (e ∷ c) sign ws

-- the words, or how many letters they have where these are more than 4,000
abbrev pub limited : List (List ℕ) → Result (List (List ℕ)) ℕ
limited ws = if nat_lt 4000 (letters ws) then Err (letters ws) else Ok ws

-- what follows on words, where there are some
abbrev pub going_on : {E : Type 0} → (List (List ℕ) → Result (List (List ℕ)) E) → Result (List (List ℕ)) E → Result (List (List ℕ)) E
going_on next (Ok ws) = next ws
going_on next (Err why) = Err why

-- so many single twists one after another, up to the first whose words have more than 4,000 letters together
abbrev pub times : Polygon → List Exit → Sign → ℕ → List (List ℕ) → Result (List (List ℕ)) ℕ
times p c sign zero ws = Ok ws
times p c sign (suc n) ws = going_on (times p c sign n) (limited (turned_by p c sign ws))

-- the sign of the single twists of a power
abbrev pub sign_of : ℤ → Sign
sign_of (pos n) = Plus
sign_of (negsuc n) = Minus

-- how many single twists a power has
abbrev pub turns_of : ℤ → ℕ
turns_of power = unsigned_abs power

-- a power of the twist along a curve, on the words of all strands
abbrev pub by_power : Polygon → List Exit → ℤ → List (List ℕ) → Result (List (List ℕ)) ℕ
by_power p c power ws = times p c (sign_of power) (turns_of power) ws

-- the words after one entry; else its number, with how many letters they have
abbrev pub numbered : ℕ → Result (List (List ℕ)) ℕ → Result (List (List ℕ)) TooLong
numbered number (Ok ws) = Ok ws
numbered number (Err count) = Err (record { twist = number; letters = count })

-- one entry of a twist word along some curves by their exits, on the words of all strands
abbrev pub by_entry : Polygon → List (List Exit) → ℕ → Twist → List (List ℕ) → Result (List (List ℕ)) TooLong
by_entry p curves number twist ws = numbered number (by_power p (slice_index_or curves twist.curve []) twist.power ws)

-- some entries, the first one first, numbered from a number on
abbrev pub by_entries : Polygon → List (List Exit) → ℕ → List Twist → List (List ℕ) → Result (List (List ℕ)) TooLong
by_entries p curves number [] ws = Ok ws
by_entries p curves number (twist ∷ twists) ws = going_on (by_entries p curves (suc number) twists) (by_entry p curves number twist ws)

-- the words of all strands after a twist word, from those of the identity
abbrev pub words_after : Polygon → List (List Exit) → List Twist → Result (List (List ℕ)) TooLong
words_after p curves twists = by_entries p curves 0 twists (identity_words p)

-- Lines of words.
use Rattle.std.specs.Prelude.{ℕ, List, [], ◌∷◌, ◌++◌, decimal, length, map}
use Rattle.std.specs.List.{enumerate_from, flat_map}
use Rattle.obd_base.specs.declared.points.Exit.{Exit}

-- words, each behind one space
abbrev pub spaced : List (List ℕ) → List ℕ
spaced words = flat_map (λ word. 32 ∷ word) words

-- a line: its kind, further words and a line feed
unfoldable pub line : List ℕ → List (List ℕ) → List ℕ
line kind words = kind ++ spaced words ++ 10 ∷ []

-- a line of a kind for each entry
unfoldable pub lines : {A : Type 0} → List ℕ → (A → List (List ℕ)) → List A → List ℕ
lines kind words entries = flat_map (λ entry. line kind (words entry)) entries

-- a line with the number of entries, and then a line for each
unfoldable pub listed : {A : Type 0} → List ℕ → List ℕ → (A → List (List ℕ)) → List A → List ℕ
listed many one words entries = line many (decimal (length entries) ∷ []) ++ lines one words entries

-- SIDE.PLACE
abbrev pub exit_text : Exit → List ℕ
exit_text exit = decimal exit.side ++ 46 ∷ decimal exit.place

-- a line of a kind for each row, with its number and its words
abbrev pub row_lines : {A : Type 0} → List ℕ → (A → List ℕ) → List (List A) → List ℕ
row_lines kind word rows = lines kind (λ row. decimal row.0 ∷ map word row.1) (enumerate_from 0 rows)

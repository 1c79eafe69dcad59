use Rattle.std.proofs.Common.{◌≡◌, ℕ, ◌<◌, ◌≤◌, [], map, length, get_or}
use Rattle.region_table.specs.FingerLists.{shifted}
use Rattle.region_table.specs.Rows.{HaveRoom}
use Rattle.region_table.proofs.rows.shift_rows.Given as goal

-- the lists so far are shifted, and the others stay
abbrev pub invariant-loop-index : goal.invariant-loop-index
invariant-loop-index l = record {
  size : length l.rows ≡ length l.fn.rows;
  kept : (room : ℕ) → HaveRoom l.fn.rows room → HaveRoom l.rows room;
  done : (i : ℕ) → i < l.index → get_or (map (λ row. row.items) l.rows) i [] ≡ map (shifted l.entry.entered l.entry.beyond) (get_or (map (λ row. row.items) l.fn.rows) i []);
  left : (i : ℕ) → l.index ≤ i → get_or (map (λ row. row.items) l.rows) i [] ≡ get_or (map (λ row. row.items) l.fn.rows) i [];
}

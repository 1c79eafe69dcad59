use Rattle.std.proofs.Common.{◌≡◌, ℕ, ◌+◌, ◌*◌, ◌<◌, ◌≤◌, Vec, Global, map, length, get_or}
use Rattle.std.specs.Prelude.{vec_capacity, vec_len}
use Rattle.region_table.specs.Rows.{HaveRoom}
use Rattle.region_table.proofs.rows.reserve_rows.Given as goal

-- the numbers stay, and the lists so far have room
abbrev pub invariant-loop-index : goal.invariant-loop-index
invariant-loop-index l = record {
  size : length l.rows ≡ length l.fn.rows;
  lists : map (λ row. row.items) l.rows ≡ map (λ row. row.items) l.fn.rows;
  kept : (room : ℕ) → HaveRoom l.fn.rows room → HaveRoom l.rows room;
  done : (i : ℕ) (row : Vec ℕ Global) → i < l.index → vec_len (get_or l.rows i row) + 2 * l.fingers ≤ vec_capacity (get_or l.rows i row);
}

-- How many values stand in a value, and how many things the fields of a document list.
use Rattle.std.specs.Prelude.{ℕ, suc, ◌+◌, ◌<◌, length, All}
use Rattle.serde_json.specs.Data.{Data, null, boolean, number, string, array, object, Items, no_items, item, Members, no_members, member}
use Rattle.page_surface.specs.Labels.{all_sides}
use Rattle.obd_doc.specs.declared.fields.Fields.{Fields}

-- how many values stand in a value, itself among them; the names of fields aren't values
abbrev mutual
  pub size : Data → ℕ
  size null = 1
  size (boolean b) = 1
  size (number n) = 1
  size (string s) = 1
  size (array ds) = suc (items_size ds)
  size (object ms) = suc (members_size ms)

  pub items_size : Items → ℕ
  items_size no_items = 0
  items_size (item d ds) = size d + items_size ds

  pub members_size : Members → ℕ
  members_size no_members = 0
  members_size (member name d ms) = size d + members_size ms

-- the fields list fewer than n of each: polygons and sides, curves and crossings of one, twists, slides
pub record ListsFewer (f : Fields) (n : ℕ) : Type 0 where
  pub polygons : length f.polygons < n
  pub sides : length (all_sides f.polygons) < n
  pub curves : length f.curves < n
  pub paths : All (λ named. length named.path < n) f.curves
  pub twists : length f.twists < n
  pub slides : length f.slides < n

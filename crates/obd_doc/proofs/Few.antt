-- The fields of a document list fewer things than 2^32, since a document has fewer bytes.
use Rattle.std.proofs.Common.{◌≡◌, ℕ, ◌<◌, ◌≤◌, ◌^◌, Bool, true, false, cond, List, [], map, length, get_or, Option, Some, None, refl, sym, subst, arith, All, length-append, codes}
use Rattle.std.specs.Str.{is_utf8}
use Rattle.std.proofs.lemmas.List.{get_or-map, length-map}
use Rattle.serde_json.specs.Data.{Data, null, boolean, number, string, array, object, Items, no_items, item}
use Rattle.serde_json.specs.Find.{get}
use Rattle.serde_json.specs.Read.{read}
use Rattle.page_surface.specs.Labels.{Label, all_sides}
use Rattle.obd_doc.specs.Document.{curves, fields_of, polygons, said_or, slides, twists}
use Rattle.obd_doc.specs.Kinds.{cross, name, named_path, named_twist, slide_side}
use Rattle.obd_doc.specs.Reading.{Kind, array_of}
use Rattle.obd_doc.specs.Sizes.{ListsFewer, items_size, size}
use Rattle.obd_doc.specs.Values.{element, elements, listed, value_of}
use Rattle.curve_paths.specs.declared.named.NamedPath.{NamedPath}
use Rattle.curve_paths.specs.declared.named.NamedTwist.{NamedTwist}
use Rattle.obd_doc.specs.declared.fields.Fields.{Fields}
use Rattle.obd_doc.proofs.Parts.{element_fewer, elements_fewer, get_fewer, some}
use Rattle.obd_doc.proofs.Sizes.{read_fits}

-- what an array says
said_fewer : {A : Type 0} (kind : Kind A) (d : Data) → length ((array_of kind).says d) < size d
said_fewer kind d = omega (arith, length-map (elements d) kind.says, elements_fewer d)

-- the sides of polygons
sides_listed : (ds : Items) → length (all_sides (map (array_of name).says (listed ds))) ≤ items_size ds
sides_listed no_items = omega arith
sides_listed (item d ds) =
    omega (arith, length-append ((array_of name).says d) (all_sides (map (array_of name).says (listed ds))), said_fewer name d, sides_listed ds)

sides_fewer : (d : Data) → length (all_sides (polygons.says d)) < size d
sides_fewer (array ds) = omega (arith, sides_listed ds)
sides_fewer null = omega arith
sides_fewer (boolean b) = omega arith
sides_fewer (number n) = omega arith
sides_fewer (string s) = omega arith
sides_fewer (object ms) = omega arith

-- the crossings of each curve
paths_fewer : (d : Data) (n : ℕ) → size d ≤ n → All (λ named. length named.path < n) (curves.says d)
paths_fewer d n le = λ k named l.
    let within : k < length (elements d) = omega (arith, l, length-map (elements d) named_path.says) in
    let e = get_or (elements d) k null in
    let few : length (named_path.says e).path < n = omega (arith, le, said_fewer cross (element e 1), element_fewer e 1, element_fewer d k) in
    subst (λ (x : NamedPath). length x.path < n) (sym (get_or-map named_path.says (elements d) k null named within)) few

-- what holds of what stands for an absent field, and of what each smaller value says, holds of what a field says
in_field : {A : Type 0} (P : A → Type 0) (kind : Kind A) (absent : A) (field : List ℕ) (d : Data) → P absent → ((p : Data) → size p < size d → P (kind.says p))
    → P (said_or absent kind (get field d))
in_field P kind absent field d without with = go (get field d) refl
  where
    go : (found : Option Data) → get field d ≡ found → P (said_or absent kind found)
    go None is = without
    go (Some p) is = with p (get_fewer field d p is)

-- the fields of a value list fewer things than there are values in it
fields_fewer : (d : Data) (n : ℕ) → size d ≤ n → ListsFewer (fields_of d) n
fields_fewer d n le =
    let none : 0 < n = omega (arith, some d, le) in
    record {
      polygons = in_field (λ (ps : List (List Label)). length ps < n) polygons [] (codes "polygons") d none (λ p l. omega (arith, le, l, said_fewer (array_of name) p));
      sides = in_field (λ (ps : List (List Label)). length (all_sides ps) < n) polygons [] (codes "polygons") d none (λ p l. omega (arith, le, l, sides_fewer p));
      curves = in_field (λ (cs : List NamedPath). length cs < n) curves [] (codes "curves") d none (λ p l. omega (arith, le, l, said_fewer named_path p));
      paths = in_field (λ (cs : List NamedPath). All (λ named. length named.path < n) cs) curves [] (codes "curves") d (λ k named l. absurd (omega (arith, l))) (λ p l. paths_fewer p n (omega (arith, le, l)));
      twists = in_field (λ (ts : List NamedTwist). length ts < n) twists [] (codes "twists") d none (λ p l. omega (arith, le, l, said_fewer named_twist p));
      slides = in_field (λ (ss : List ℕ). length ss < n) slides [] (codes "slides") d none (λ p l. omega (arith, le, l, said_fewer slide_side p));
    }

-- the value of some bytes was read from them
value_read : (bytes : List ℕ) (d : Data) → value_of bytes ≡ Some d → read bytes ≡ Some d
value_read bytes d is = go (is_utf8 bytes) is
  where
    go : (b : Bool) → cond b (read bytes) None ≡ Some d → read bytes ≡ Some d
    go true is = is
    go false is = absurd (let bad = is in cc)

-- so what the fields of a document say can be counted in 32 bits
pub document_fewer : (bytes : List ℕ) (d : Data) → value_of bytes ≡ Some d → length bytes < 2 ^ 32 → (f : Fields) → f ≡ fields_of d → ListsFewer f (2 ^ 32)
document_fewer bytes d is short f made =
    subst (λ (f : Fields). ListsFewer f (2 ^ 32)) (sym made) (fields_fewer d (2 ^ 32) (omega (arith, short, read_fits bytes d (value_read bytes d is))))

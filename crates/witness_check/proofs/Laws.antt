-- A book without slides has the joined surface; without twists its first drawing is the identity drawing, which is nice and
-- needs no finger. And of each embedded drawing the contact generator comes last and has an empty column.
use Rattle.std.proofs.Common.{◌≡◌, ℕ, ◌+◌, List, [], ◌∷◌, ◌++◌, map, length, get_or, Some, refl, ◌∙◌, ap, arith}
use Rattle.std.specs.Prelude.{Ok}
use Rattle.std.specs.List.{slice_get}
use Rattle.std.proofs.lemmas.List.{get_or_push, get_or-map, length-append}
use Rattle.std.proofs.lemmas.Option.{slice_get-get_or}
use Rattle.obd_base.specs.Lists.{below}
use Rattle.obd_base.specs.declared.points.Exit.{Exit}
use Rattle.page_surface.specs.Drawing.{Drawing, IsEmbedded, exit, identity, words}
use Rattle.page_surface.specs.Polygon.{IsPolygon, Polygon, arc_count, second_side}
use Rattle.curve_paths.specs.Curves.{identity_words}
use Rattle.drawing.specs.Points.{contact_generator, generators}
use Rattle.drawing.specs.Tight.{tight_drawing}
use Rattle.drawing.proofs.Generators.{contact_comes_last}
use Rattle.drawing.proofs.IdentityLaws.{identity_embedded, identity_is_tight, identity_tight}
use Rattle.region_table.specs.Nice.{IsNice}
use Rattle.handle_slide.specs.declared.slid.Slid.{Slid}
use Rattle.hkm_diagram.specs.Domains.{column, columns}
use Rattle.hkm_diagram.proofs.IdentityColumns.{identity_badness}
use Rattle.hkm_diagram.proofs.Laws.{contact_column_is_empty}
use Rattle.mod2_rank.specs.Linear.{column_at}
use Rattle.witness_check.specs.Belonging.{IsFirstDrawing, LeadTo}
use Rattle.witness_check.specs.OpenBook.{IsSurface, OpenBook, joined_surface, words_on}

-- without slides the surface is the joined one
pub no_slide_surface : (book : OpenBook) → book.slides ≡ [] → IsSurface book (joined_surface book)
no_slide_surface book none = rw none refl

-- without twists the words are those of the identity
pub no_twist_words : (book : OpenBook) (s : Slid) → book.twists ≡ [] → words_on s book ≡ Ok (identity_words s.polygon)
no_twist_words book s none = rw none refl

-- the words of one strand after another
map_twice : {A B C : Type 0} (f : B → C) (g : A → B) (xs : List A) → map f (map g xs) ≡ map (λ x. f (g x)) xs
map_twice f g [] = refl
map_twice f g (x ∷ xs) = ap (λ ys. f (g x) ∷ ys) (map_twice f g xs)

-- the words of the identity drawing
pub words_of_identity : (p : Polygon) → words (identity p) ≡ identity_words p
words_of_identity p = map_twice (map (λ (e : Exit). e.side)) (λ i. exit (second_side p i) 0 ∷ []) (below (arc_count p))

-- without twists the first drawing is the identity drawing
pub identity_first : (book : OpenBook) (s : Slid) → IsPolygon s.polygon → book.twists ≡ [] → IsFirstDrawing book s (identity s.polygon)
identity_first book s ok none = record {
  words = identity_words s.polygon;
  words_are = no_twist_words book s none;
  drawn = identity_is_tight s.polygon ok ∙ ap (tight_drawing s.polygon) (words_of_identity s.polygon);
  embedded = identity_embedded s.polygon ok;
  tight = identity_tight s.polygon;
}

-- which is nice
pub identity_nice : (p : Polygon) → IsPolygon p → IsNice (identity p)
identity_nice p ok = identity_badness p ok

-- and needs no finger
pub identity_leads : (p : Polygon) → IsPolygon p → LeadTo (identity p) [] (identity p)
identity_leads p ok = record {
  legal = tt;
  replayed_so = refl;
  embedded = identity_embedded p ok;
  nice = identity_nice p ok;
}

-- the last of some items
last_of : {A : Type 0} (before : List A) (x : A) (items : List A) (i : ℕ) → items ≡ before ++ x ∷ [] → i + 1 ≡ length items → slice_get items i ≡ Some x
last_of before x items i is last =
    let size : length items ≡ length before + 1 = ap length is ∙ length-append before (x ∷ []) in
    slice_get-get_or items i x (omega arith) ∙ ap Some (ap (λ list. get_or list i x) is ∙ get_or_push before x x i (omega arith))

-- the contact generator is the last of the generators
pub contact_last : (d : Drawing) (i : ℕ) → i + 1 ≡ length (generators d) → slice_get (generators d) i ≡ Some (contact_generator d)
contact_last d i last = let (before, is) = contact_comes_last d in last_of before (contact_generator d) (generators d) i is last

-- and its column, which is the last one, is empty
pub last_column : (d : Drawing) → IsEmbedded d → (i : ℕ) → i + 1 ≡ length (generators d) → column_at (columns d) i ≡ []
last_column d ok i last =
    let (before, is) = contact_comes_last d in
    let size : length (generators d) ≡ length before + 1 = ap length is ∙ length-append before (contact_generator d ∷ []) in
    let found : get_or (generators d) i (contact_generator d) ≡ contact_generator d
    = ap (λ list. get_or list i (contact_generator d)) is ∙ get_or_push before (contact_generator d) (contact_generator d) i (omega (arith, size, last)) in
    get_or-map (column d) (generators d) i (contact_generator d) [] (omega (arith, last)) ∙ (ap (column d) found ∙ contact_column_is_empty d ok)

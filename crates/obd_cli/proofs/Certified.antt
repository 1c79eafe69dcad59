-- A certificate whose lines are made from the surface, the drawings and the complex of a book is the book's.
use Rattle.std.proofs.Common.{◌≡◌, ℕ, ℤ, ◌+◌, ◌≤◌, List, length, refl, sym, ◌∙◌, ap, Some, arith}
use Rattle.std.specs.Prelude.{pos, ◌-ℤ◌, ◌*◌}
use Rattle.curve_paths.specs.declared.named.NamedTwist.{NamedTwist}
use Rattle.witness_check.proofs.Laws.{contact_last, last_column}
use Rattle.obd_doc.specs.declared.book.Book.{Book}
use Rattle.obd_cli.specs.Opened.{named_twists}
use Rattle.obd_cli.specs.Steps.{AreDrawings, AreLastLines, ArePageLines, IsCertificateOf, IsComplexOf, IsSurfaceOf}
use Rattle.obd_cli.specs.declared.certify.LastLines.{LastLines}
use Rattle.obd_cli.specs.declared.certify.PageLines.{PageLines}
use Rattle.obd_cli.specs.declared.complex.Complex.{Complex}
use Rattle.obd_cli.specs.declared.moves.Moved.{Moved}
use Rattle.obd_cli.specs.declared.surface.Surface.{Surface}

-- every line is that of the book
pub all_belong : (book : Book) (s : Surface) (m : Moved) (x : Complex) (page : PageLines) (lines : LastLines) → IsSurfaceOf book s → AreDrawings book s m
    → book.limits.moves ≤ 20000 → book.limits.generators ≤ 20000 → length m.fingers ≤ book.limits.moves → IsComplexOf m.last book.limits.generators x
    → ArePageLines book s page → AreLastLines m.last lines
    → (slides : List ℕ) (twists : List NamedTwist) (contact : ℕ) (homology : ℤ) → slides ≡ book.slides → twists ≡ named_twists book → contact + 1 ≡ x.generators → homology ≡ pos x.generators -ℤ pos (2 * x.outcome.rank)
    → IsCertificateOf book (record {
      version = 1;
      polygons = page.polygons;
      curves = page.curves;
      slides = slides;
      twists = twists;
      seams = page.seams;
      basis = page.basis;
      strands = m.strands;
      fingers = m.fingers;
      finals = lines.finals;
      generators = x.generators;
      contact = contact;
      points = lines.points;
      pivots = x.outcome.pivots;
      rank = x.outcome.rank;
      homology = homology;
      verdict = x.outcome.verdict;
    })
all_belong book s m x page lines surface drawings most_moves most_generators moves complex told shown_last slides twists contact homology sl tw last ho =
    let at = last ∙ complex.count in
    record {
      belongs = record {
        version = refl;
        polygons = told.polygons;
        curves = told.curves;
        slides = sl;
        twists = tw;
        surface = s.slid;
        surface_is = surface.surface;
        seams = told.seams;
        basis = told.basis;
        first = drawings.first;
        first_is = drawings.first_is;
        strands = drawings.moved.strands;
        few_fingers = omega (arith, moves, most_moves);
        last = m.last;
        last_is = drawings.moved.leads;
        finals = shown_last.finals;
        generators_are = complex.count;
        few_generators = omega (arith, complex.within, most_generators);
        points = shown_last.points;
        contact = contact_last m.last contact at ∙ ap Some (sym shown_last.points);
        contact_last = last;
        contact_column = last_column m.last drawings.moved.leads.embedded contact at;
        concludes = complex.concludes;
        homology = ho;
      };
      planned = drawings.moved.planned;
      moves = moves;
      within = complex.within;
    }

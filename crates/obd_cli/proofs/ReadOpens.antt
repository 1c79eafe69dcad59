-- A book that keeps all rules, as one that was read does, is an open book, and a certificate of it is valid.
use Rattle.std.proofs.Common.{◌≡◌, ℕ, ◌<◌, Bool, true, false, eqb, leb, ◌&&◌, ◌||◌, List, [], ◌∷◌, length, get_or, Some, refl, sym, ◌∙◌, subst, arith}
use Rattle.std.specs.List.{list_all}
use Rattle.std.proofs.lemmas.List.{length-map}
use Rattle.obd_base.specs.Lists.{Mem, Once}
use Rattle.curve_paths.proofs.Members.{mem_get_or}
use Rattle.witness_check.specs.OpenBook.{IsCurveOn, IsName, IsOpenBook, IsTwistOf}
use Rattle.witness_check.specs.Reading.{is_name_byte as is_word_byte}
use Rattle.witness_check.specs.Checked.{answer_of, checked}
use Rattle.witness_check.specs.Text.{certificate_text}
use Rattle.witness_check.specs.declared.checked.Checked.TheVariants.{Valid as valid}
use Rattle.witness_check.specs.declared.certificate.Certificate.{Certificate}
use Rattle.witness_check.proofs.BelongsValid.{belonging_valid}
use Rattle.obd_doc.specs.Accepted.{IsAccepted, IsName as IsBookName}
use Rattle.obd_doc.specs.Document.{book_read, by_name, curve_names}
use Rattle.obd_doc.specs.Values.{is_name_byte}
use Rattle.obd_doc.specs.declared.book.Book.{Book}
use Rattle.obd_doc.specs.declared.book.NamedCurve.{NamedCurve}
use Rattle.curve_paths.specs.declared.named.NamedPath.{NamedPath}
use Rattle.obd_doc.proofs.ReadAccepted.{all_mapped, read_accepted}
use Rattle.obd_cli.specs.Opened.{open_book}
use Rattle.obd_cli.specs.Steps.{IsCertificateOf}
use Rattle.obd_cli.proofs.BookWords.{names_same}

-- a character of a name of a document is one of a word of a certificate
same_byte : (b : ℕ) → is_name_byte b ≡ is_word_byte b
same_byte b = nested (leb 65 b && leb b 90) (leb 97 b && leb b 122) (leb 48 b && leb b 57) (eqb b 95)
  where
    nested : (w x y z : Bool) → (w || x || y || z) ≡ (w || (x || (y || z)))
    nested true x y z = refl
    nested false true y z = refl
    nested false false true z = refl
    nested false false false z = refl

same_bytes : (word : List ℕ) → list_all is_name_byte word ≡ list_all is_word_byte word
same_bytes [] = refl
same_bytes (b ∷ word) = rw (same_byte b, same_bytes word) refl

-- so a name of a document may stand in a certificate
name_opens : (word : List ℕ) → IsBookName word → IsName word
name_opens word is = nested (leb 1 (length word)) (leb (length word) 16) _ _ (same_bytes word) is
  where
    nested : (x y z w : Bool) → z ≡ w → (x && y && z) ≡ true → (x && (y && w)) ≡ true
    nested true true z w same is = sym same ∙ is
    nested true false z w same is = is
    nested false y z w same is = absurd (let bad = is in cc)

-- the open book of a book that keeps all rules
pub accepted_opens : (book : Book) → IsAccepted book → IsOpenBook (open_book book)
accepted_opens book is = record {
  page = is.page;
  labels = λ k labels l i label within. name_opens (get_or (get_or book.page k labels) i label) (is.labels k labels l i label within);
  few_curves = omega (arith, length-map book.curves path_of, is.few_curves);
  curves = all_mapped (IsCurveOn book.page) path_of book.curves (λ k curve l. let kept = is.curves k curve l in record { named = name_opens (get_or book.curves k curve).name kept.named; occurrences = kept.occurrences; path = kept.path });
  different = subst Once (sym (names_same book.curves)) is.different;
  few_slides = is.few_slides;
  slides = λ k side l. omega (arith, is.slides k side l);
  few_twists = omega (arith, length-map book.twists (by_name (curve_names book)), is.few_twists);
  twists = all_mapped (IsTwistOf (open_book book)) (by_name (curve_names book)) book.twists (λ k twist l.
      let kept = is.twists k twist l in
      let named = get_or book.twists k twist in
      let within : named.curve < length (curve_names book) = omega (arith, kept.known, length-map book.curves (λ (curve : NamedCurve). curve.name)) in
      record {
        known = subst (Mem (get_or (curve_names book) named.curve [])) (sym (names_same book.curves)) (mem_get_or (curve_names book) named.curve [] within);
        some_power = kept.power.some;
        most_power = kept.power.most;
      });
}
  where
    path_of : NamedCurve → NamedPath
    path_of curve = record { name = curve.name; path = curve.path }

-- so a certificate of it is valid
pub accepted_valid : (book : Book) (c : Certificate) → IsAccepted book → IsCertificateOf book c → checked (certificate_text c) ≡ valid (answer_of c.verdict)
accepted_valid book c is of_book = belonging_valid (open_book book) c (accepted_opens book is) of_book.belongs

-- a book that was read is an open book
pub read_opens : (bytes : List ℕ) (book : Book) → book_read bytes ≡ Some book → IsOpenBook (open_book book)
read_opens bytes book is = accepted_opens book (read_accepted bytes book is)

-- and a certificate of it is valid
pub certificate_valid : (bytes : List ℕ) (book : Book) (c : Certificate) → book_read bytes ≡ Some book → IsCertificateOf book c → checked (certificate_text c) ≡ valid (answer_of c.verdict)
certificate_valid bytes book c is of_book = accepted_valid book c (read_accepted bytes book is) of_book

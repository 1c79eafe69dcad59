-- What is said of a result, said of it in other words.
use Rattle.std.proofs.Common.{◌≡◌, ℕ, List, Option, Some, map, sym, subst}
use Rattle.std.specs.Prelude.{Result, Ok, Err, IfErr, IfOk, IsErrAnd, OnOk}
use Rattle.obd_base.specs.declared.points.Column.{Column}
use Rattle.page_surface.specs.Polygon.{Polygon}
use Rattle.mod2_rank.specs.Ascending.{AllAscend}
use Rattle.witness_check.specs.Between.{AfterBook}
use Rattle.witness_check.specs.Forms.{LineForm}
use Rattle.witness_check.specs.Passing.{Lines, RowsRead}
use Rattle.witness_check.specs.DrawingRules.{Finds, Stops}
use Rattle.witness_check.specs.Rules.{Rule}
use Rattle.witness_check.specs.declared.certificate.Certificate.{Certificate}
use Rattle.witness_check.specs.declared.fault.Fault.{Fault}
use Rattle.witness_check.specs.declared.fault.Stop.{Stop}
use Rattle.witness_check.specs.declared.fault.Stop.TheVariants.{Fault as stopped}

pub ok_on : {T E : Type 0} {P Q : T → Type 0} (result : Result T E) → IfOk result P → ((a : T) → P a → Q a) → IfOk result Q
ok_on (Ok a) p so = so a p
ok_on (Err e) p so = tt

pub err_on : {T E : Type 0} {P Q : E → Type 0} (result : Result T E) → IfErr result P → ((e : E) → P e → Q e) → IfErr result Q
err_on (Ok a) p so = tt
err_on (Err e) p so = so e p

-- the words of a book are those of a list that is lent
pub lent_words : (p : Polygon) (lent words : List (List ℕ)) (text : List ℕ) (lines : Lines) → lent ≡ words → AfterBook p words text lines → AfterBook p lent text lines
lent_words p lent words text lines same after = subst (λ w. AfterBook p w text lines) (sym same) after

-- what is said of each good result, and of each stop
pub of_ok : {T E : Type 0} {P : Type 0} (result : Result T E) (a : T) → result ≡ Ok a → OnOk result P → P
of_ok (Ok b) a same p = p
of_ok (Err e) a same p = absurd cc

pub of_stop : {T : Type 0} (begins : Certificate → Type 0) (lines : Certificate → List (List Rule)) (result : Result T Stop) (fault : Fault) → result ≡ Err (stopped fault) → IfErr result (Stops begins lines) → Finds begins lines (Some fault)
of_stop begins lines (Ok b) fault same p = absurd cc
of_stop begins lines (Err e) fault same p = let stop : e ≡ stopped fault = cc in p fault stop

-- an error that is handed on
pub err_of : {T E : Type 0} (Q : E → Type 0) (error : E) (result : Result T E) → IsErrAnd result (λ e. e ≡ error) → Q error → IfErr result Q
err_of Q error (Ok a) is q = tt
err_of Q error (Err e) is q = subst Q (sym is) q

-- rows in a list that is lent
pub lent_rows : {A : Type 0} (shape : ℕ → LineForm A) (n : ℕ) (l0 l1 : Lines) (xs lent : List A) (breaks : Option ℕ) → lent ≡ xs → RowsRead shape n l0 l1 xs breaks → RowsRead shape n l0 l1 lent breaks
lent_rows shape n l0 l1 xs lent breaks same read = subst (λ zs. RowsRead shape n l0 l1 zs breaks) (sym same) read

pub if_ok : {T E : Type 0} (P : T → Type 0) (result : Result T E) (a : T) → result ≡ Ok a → IfOk result P → P a
if_ok P (Ok b) a same p = let is : b ≡ a = cc in subst P is p
if_ok P (Err e) a same p = absurd cc

pub of_fault : {T : Type 0} (P : Fault → Type 0) (result : Result T Stop) (fault : Fault) → result ≡ Err (stopped fault) → IfErr result (λ stop. (one : Fault) → stop ≡ stopped one → P one) → P fault
of_fault P (Ok b) fault same p = absurd cc
of_fault P (Err e) fault same p = let stop : e ≡ stopped fault = cc in p fault stop

-- columns in a list that is lent ascend
pub lent_columns : (lent found : List Column) (rows count : ℕ) → lent ≡ found → rows ≡ count → AllAscend count (map (λ column. column.rows) found) → AllAscend rows (map (λ column. column.rows) lent)
lent_columns lent found rows count same size ascend =
    subst (λ (cs : List Column). AllAscend rows (map (λ column. column.rows) cs)) (sym same) (subst (λ n. AllAscend n (map (λ column. column.rows) found)) (sym size) ascend)

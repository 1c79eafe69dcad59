-- Refusals that are handed on.
use Rattle.std.proofs.Common.{◌≡◌, sym, ◌∙◌}
use Rattle.std.specs.Prelude.{Result, Ok, Err, IfErr}
use Rattle.std.specs.Result.{IsErrAnd}
use Rattle.curve_paths.specs.declared.twist.TooLong.{TooLong}
use Rattle.monodromy.specs.declared.refusal.MonodromyRefusal.{MonodromyRefusal}
use Rattle.monodromy.specs.declared.refusal.MonodromyRefusal.TheVariants.{TooLong as Long}

-- what an error says that is handed on
pub handed_on : {T : Type 0} (Q : TooLong → Type 0) (error : MonodromyRefusal) (result : Result T MonodromyRefusal) → IsErrAnd result (λ e. e ≡ error)
    → ((long : TooLong) → error ≡ Long long → Q long) → IfErr result (λ e. (long : TooLong) → e ≡ Long long → Q long)
handed_on Q error (Ok words) is holds = absurd is
handed_on Q error (Err e) is holds = λ long given. holds long (sym is ∙ given)

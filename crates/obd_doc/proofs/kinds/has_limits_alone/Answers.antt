use Rattle.std.proofs.Common.{rules, tests, string_bytes}
use Rattle.std.proofs.lemmas.Iterator.Consumers.{YieldsList-from_rest}
use Rattle.std.proofs.lemmas.Iterator.Search.{all_from_yields_List}
use Rattle.serde_json.specs.View.{view}
use Rattle.obd_doc.specs.Kinds.{is_limit}
use Rattle.obd_doc.proofs.SoFar.{object_names}
use Rattle.obd_doc.proofs.kinds.has_limits_alone.Goals as goal

pub returns-in-Some : goal.returns-in-Some
returns-in-Some c =
    object_names is_limit (view c.args.value.now) c.in-Some.fields.now.entries c.all.result c.in-Some.ensures
    (all_from_yields_List (λ name. is_limit (string_bytes name)) _ _ c.all.result c.all.ensures.ran (YieldsList-from_rest _ c.keys.ensures.rest) (λ x b q k. search (rules, tests)))

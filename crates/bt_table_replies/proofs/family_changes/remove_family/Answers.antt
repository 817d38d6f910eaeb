use Rattle.std.proofs.Common.{rules}
use Rattle.std.specs.Prelude.{not, bytes_eq}
use Rattle.std.proofs.lemmas.Fn.{filter_same}
use Rattle.bt_table_replies.proofs.family_changes.remove_family.Goals as goal

-- the closure tests whether the family has another name
pub returns : goal.returns
returns c = filter_same _ (λ f. not (bytes_eq f.name c.args.name.now)) _ (λ x b f' k. search rules) _ _ c.retain.ensures.filtered

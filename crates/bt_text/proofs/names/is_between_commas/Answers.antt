use Rattle.std.proofs.Common.{rules, tests, bytes_eq}
use Rattle.std.proofs.lemmas.Iterator.Search.{any_from_yields_List}
use Rattle.std.proofs.lemmas.Iterator.Splits.{YieldsList-from_slice_split}
use Rattle.bt_text.specs.Names.{is_comma}
use Rattle.bt_text.proofs.names.is_between_commas.Goals as goal

pub returns : goal.returns
returns c = any_from_yields_List (λ n. bytes_eq n c.args.name.now) _ _ _ c.any.ensures.ran (YieldsList-from_slice_split _ is_comma c.args.names.now c.split.ensures.rest c.split.ensures.done c.split.ensures.closure (λ x b q k. search (rules, tests))) (λ x b q k. search (rules, tests))

use Rattle.std.proofs.Common.{◌≡◌, ◌++◌, ◌+◌, [], ◌∷◌, true, false, cond, drop, ap, sym, ◌∙◌, append-nil, rules}
use Rattle.std.specs.Prelude.{◌&&◌, bytes_eq, filter}
use Rattle.std.specs.List.{list_any}
use Rattle.std.proofs.lemmas.List.{at_drop_more}
use Rattle.bt_rules.specs.declared.family.Family.{Family}
use Rattle.bt_table_replies.proofs.Losing.{names_more, names_of}
use Rattle.bt_table_replies.specs.Modifications.{is_drop}
use Rattle.bt_table_replies.proofs.family_changes.dropped_names.Goals as goal
use Rattle.bt_table_replies.proofs.family_changes.dropped_names.Goals.{then-is_dropped+in_ok-copy+in_ok-push, else-is_dropped}

pub loop-family-preserved : goal.loop-family-preserved
loop-family-preserved c =
    let families = c.args.table.now.families in
    let i = c.loop-family.family-index in
    let f = c.family-item.result in
    let names = c.loop-family.names in
    let more = c.if-is_dropped.names in
    let is_one = λ (f : Family). list_any (λ m. is_drop m.change && bytes_eq m.id f.name) c.args.changes.now in
    let rest = filter is_one (drop (i + 1) families) in
    let next : names_of (filter is_one (drop i families)) ≡ names_of (cond (is_one f) (f ∷ rest) rest) = search (rules, at_drop_more (λ fs. names_of (filter is_one fs)) families i f) in
    let goes_on = ap (λ ns. names ++ ns) (sym next) ∙ c.loop-family.invariant in
    elim c.if-is_dropped.branch [
      | then-is_dropped+in_ok-copy+in_ok-push w ↦
          let yes : is_one f ≡ true = search rules in
          let added : more ≡ names ++ f.name ∷ [] = search rules in
          names_more is_one f rest names more true yes added ∙ goes_on
      | else-is_dropped w ↦
          let no : is_one f ≡ false = search rules in
          names_more is_one f rest names more false no (w.names-is ∙ sym (append-nil names)) ∙ goes_on
    ]

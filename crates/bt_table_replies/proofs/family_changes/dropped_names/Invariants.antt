use Rattle.std.proofs.Common.{◌≡◌, ◌++◌, drop, map}
use Rattle.std.specs.Prelude.{◌&&◌, bytes_eq, filter}
use Rattle.std.specs.List.{list_any}
use Rattle.bt_table_replies.specs.Modifications.{dropped, is_drop}
use Rattle.bt_table_replies.proofs.family_changes.dropped_names.Given as goal

-- the names so far, and those that are left
abbrev pub invariant-loop-family : goal.invariant-loop-family
invariant-loop-family l =
    l.names ++ map (λ f. f.name) (filter (λ f. list_any (λ m. is_drop m.change && bytes_eq m.id f.name) l.changes) (drop l.family-index l.table.families)) ≡ map (λ f. f.name) (dropped l.changes l.table)

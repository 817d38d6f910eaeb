-- Bounds of ranges, where no member is bad.
use Rattle.std.specs.Prelude.{Option}
use Rattle.serde_json.specs.Data.{Data}
use Rattle.bt_range.specs.declared.bound.Bound.{Bound}
use Rattle.bt_range.specs.declared.bound.Bound.TheVariants as bound
use Rattle.bt_members.specs.Values.{choose, bytes_or_empty}

-- a bound that is set may be empty
abbrev pub bound_of : Option Data → Option Data → Bound
bound_of closed past = choose closed (λ v. bound.Closed (bytes_or_empty v)) (choose past (λ v. bound.Past (bytes_or_empty v)) bound.Unset)

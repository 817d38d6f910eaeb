-- Offsets from UTC.
use Rattle.std.specs.Prelude.{◌<◌}
use Rattle.bt_text.specs.declared.timestamp.Offset.{Offset}
use Rattle.bt_text.specs.declared.timestamp.Offset.TheVariants.{East, West}

-- less than a day
abbrev pub IsSmall : Offset → Type 0
IsSmall (East seconds) = seconds < 86400
IsSmall (West seconds) = seconds < 86400

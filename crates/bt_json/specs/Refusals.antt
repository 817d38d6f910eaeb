-- How reading may end.
use Rattle.std.specs.Prelude.{◌≡◌, Result, Err}
use Rattle.bt_json.specs.declared.reading.ReadRefusal.{ReadRefusal}
use Rattle.bt_json.specs.declared.reading.ReadRefusal.TheVariants.{IllFormed}

-- it was refused for its form
abbrev pub IsIllFormed : {A : Type 0} → Result A ReadRefusal → Type 0
IsIllFormed r = r ≡ Err IllFormed

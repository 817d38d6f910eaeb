-- An object of one entry.
use Rattle.std.specs.Prelude.{ℕ, List}
use Rattle.serde_json.specs.Data.{Data, object, no_members, member}

abbrev pub alone : List ℕ → Data → Data
alone key d = object (member key d no_members)

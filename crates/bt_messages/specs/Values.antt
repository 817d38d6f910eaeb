-- Values of members that are not texts by themselves.
use Rattle.std.specs.Prelude.{ℕ, List}
use Rattle.std.specs.Str.Lossy.{utf8_lossy}
use Rattle.base64.specs.Engines.{standard}
use Rattle.base64.specs.GeneralPurpose.{encode_of}
use Rattle.serde_json.specs.Data.{Data, string, array, item, no_items}

-- bytes as a string of standard base64
unfoldable pub base64 : List ℕ → List ℕ
base64 b = encode_of standard b

-- the list of one label
abbrev pub shown_label : List ℕ → Data
shown_label text = array (item (string text) no_items)

-- a name; bytes that are not UTF-8 stand as U+FFFD
abbrev pub shown_name : List ℕ → Data
shown_name b = string (utf8_lossy b)

-- bytes, as a string of base64
abbrev pub shown_bytes : List ℕ → Data
shown_bytes b = string (base64 b)

-- The words of the command line, without the program's name.
use Rattle.std.specs.Prelude.{◌≡◌, ◌&&◌, ◌==◌, ℕ, Bool, true, false, not, nat_le, List, [], ◌∷◌, length, codes, bytes_eq, Option, Some, None, option_map, Result, Ok, Err, if◌then◌else◌}
use Rattle.std.specs.Char.{is_ascii_digit}
use Rattle.std.specs.List.{list_all}
use Rattle.std.specs.Str.Parse.{digits_value}
use Rattle.bt_words.specs.declared.command.Command.{Command}
use Rattle.bt_words.specs.declared.command.Command.TheVariants.{Run, Serve}
use Rattle.bt_words.specs.declared.command.WordsRefusal.{WordsRefusal}
use Rattle.bt_words.specs.declared.command.WordsRefusal.TheVariants.{Usage, OutOfMemory}

-- a word that is not empty and does not begin with a minus
abbrev pub is_operand : List ℕ → Bool
is_operand [] = false
is_operand (b ∷ bs) = not (b == 45)

-- 1 to 7 decimal digits
abbrev pub is_numeral : List ℕ → Bool
is_numeral word = nat_le 1 (length word) && nat_le (length word) 7 && list_all is_ascii_digit word

-- a number from 1 to 1,000,000
abbrev pub is_count : ℕ → Bool
is_count n = nat_le 1 n && nat_le n 1000000

-- the count of connections that a word writes
abbrev pub count_of : List ℕ → Option ℕ
count_of word = if is_numeral word && is_count (digits_value 10 word) then Some (digits_value 10 word) else None

-- DIR
abbrev pub run_of : List (List ℕ) → Option Command
run_of (folder ∷ []) = Some (Run folder)
run_of _ = None

-- DIR ADDRESS COUNT
abbrev pub serve_of : List (List ℕ) → Option Command
serve_of (folder ∷ address ∷ count ∷ []) = option_map (Serve folder address) (count_of count)
serve_of _ = None

-- run DIR, or serve DIR ADDRESS COUNT
abbrev pub command_by_name : List (List ℕ) → Option Command
command_by_name [] = None
command_by_name (name ∷ words) =
    if bytes_eq name (codes "run") then run_of words
    else (if bytes_eq name (codes "serve") then serve_of words else None)

-- the command that the words are, where no word is empty or begins with a minus
abbrev pub command_of : List (List ℕ) → Option Command
command_of words = if list_all is_operand words then command_by_name words else None

-- the command, or Usage exactly where the words are none; want of memory only where each word is an operand
abbrev pub Reads : List (List ℕ) → Result Command WordsRefusal → Type 0
Reads words (Ok command) = command_of words ≡ Some command
Reads words (Err Usage) = command_of words ≡ None
Reads words (Err OutOfMemory) = list_all is_operand words ≡ true

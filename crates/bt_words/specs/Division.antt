-- How clap divides words into a command and its operands.
use Rattle.std.specs.Prelude.{◌≡◌, ℕ, List, [], codes, bytes_eq, true, Option, Some, None, option_map, option_and_then, Result, Ok, Err, if◌then◌else◌}
use Rattle.clap.specs.Walk.{Rule, Row, Text, first_of}
use Rattle.clap.specs.Simple.{App, new_app, new_rule, new_shape, with_rule, with_subcommand}
use Rattle.bt_words.specs.Words.{count_of}
use Rattle.bt_words.specs.declared.command.Command.{Command}
use Rattle.bt_words.specs.declared.command.Command.TheVariants.{Run, Serve}
use Rattle.bt_words.specs.declared.command.WordsRefusal.{WordsRefusal}
use Rattle.bt_words.specs.declared.command.WordsRefusal.TheVariants.{Usage, OutOfMemory}

-- an operand, which has to be there
abbrev pub operand : Text → Rule
operand name = record (new_rule name) { required = true }

-- run DIR
abbrev pub run_app : App
run_app = with_rule (new_app (codes "run")) (operand (codes "DIR"))

-- serve DIR ADDRESS COUNT
abbrev pub serve_app : App
serve_app = with_rule (with_rule (with_rule (new_app (codes "serve")) (operand (codes "DIR"))) (operand (codes "ADDRESS"))) (operand (codes "COUNT"))

-- one command has to be named, and there is neither help nor a version
abbrev pub bare_app : App
bare_app = record {
  top = record (new_shape (codes "bt")) {
    no_binary_name = true;
    disable_help_flag = true;
    disable_help_subcommand = true;
    disable_version_flag = true;
    subcommand_required = true;
  };
  subs = [];
}

-- the command line of the program
abbrev pub program : App
program = with_subcommand (with_subcommand bare_app run_app.top) serve_app.top

-- the command of `run` with these operands
abbrev pub run_in : List Row → Option Command
run_in rows = option_map Run (first_of (codes "DIR") rows)

-- the count among these operands
abbrev pub count_in : List Row → Option ℕ
count_in rows = option_and_then count_of (first_of (codes "COUNT") rows)

-- the command of `serve` with these operands
abbrev pub serve_in : List Row → Option Command
serve_in rows =
    option_and_then (λ folder. option_and_then (λ address. option_map (Serve folder address) (count_in rows)) (first_of (codes "ADDRESS") rows)) (first_of (codes "DIR") rows)

-- the command that clap found, by its name and its operands
abbrev pub command_in : Option (Text × List Row) → Option Command
command_in None = None
command_in (Some (name, rows)) =
    if bytes_eq name (codes "run") then run_in rows
    else (if bytes_eq name (codes "serve") then serve_in rows else None)

-- the value, or Usage exactly where there is none
abbrev pub Answers : {A : Type 0} → Option A → Result A WordsRefusal → Type 0
Answers value (Ok found) = value ≡ Some found
Answers value (Err Usage) = value ≡ None
Answers value (Err OutOfMemory) = Unit {0}

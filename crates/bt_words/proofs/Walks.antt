-- What clap makes of words that are operands.
use Rattle.std.proofs.Common.{◌≡◌, List, [], ◌∷◌, ◌++◌, Bool, true, false, not, eqb, codes, refl, ap, sym, ◌∙◌, Some, option_map, append_assoc}
use Rattle.std.proofs.lemmas.List.{append-nil}
use Rattle.std.specs.Prelude.{fold, find, unwrap_or}
use Rattle.std.specs.Str.{bytes_eq}
use Rattle.std.specs.Cmp.Lexicographic.{nat_list_eq_equiv}
use Rattle.clap.specs.Walk.{Text, Rule, Names, Walk, idle, walked, nothing_held, answers_to}
use Rattle.clap.specs.Kinds.{Kinds, or_else}
use Rattle.clap.specs.Simple.{Shape, built, names_of, label_of, new_shape, subcommand_of}
use Rattle.clap.specs.Faults.{fault_of, level_fault, walk_fault}
use Rattle.clap.specs.declared.error.kind.ErrorKind.TheVariants as kind
use Rattle.clap.proofs.OnLiterals.{clap_on_literals}
use Rattle.bt_words.specs.declared.command.Command.TheVariants.{Run, Serve}
use Rattle.bt_words.specs.Words.{is_operand, count_of}
use Rattle.bt_words.specs.Division.{program, command_in}

not_true : (b : Bool) → not b ≡ true → b ≡ false
not_true true h = absurd cc
not_true false h = refl

-- ---- behind a command's name the words are kept for it

abbrev kept_for : Text → List Text → Walk
kept_for name words = record { held = nothing_held; waiting = idle; position = 1; is_trailing = false; stopped = Some (name, words) }

walk_kept : (rules : List Rule) (names : Names) (name : Text) (words rest : List Text) → fold (walked rules names) (kept_for name words) rest ≡ kept_for name (words ++ rest)
unfolding walked
walk_kept rules names name words [] = ap (kept_for name) (sym (append-nil words))
walk_kept rules names name words (w ∷ rest) = walk_kept rules names name (words ++ w ∷ []) rest ∙ ap (kept_for name) (append_assoc words (w ∷ []) rest)

no_fault : (shape : Shape) (names : Names) (name : Text) (words rest : List Text) → walk_fault shape names (kept_for name words) rest ≡ []
unfolding walk_fault walked
no_fault shape names name words [] = refl
no_fault shape names name words (w ∷ rest) = no_fault shape names name (words ++ w ∷ []) rest

abbrev shape_at : Text → Shape
shape_at name = unwrap_or (find (λ shape. answers_to name (label_of shape)) (built program).subs) (new_shape [])

-- the faults of a command's operands
abbrev pub inner_fault : Text → List Text → Kinds
inner_fault name words = level_fault (shape_at name) [] nothing_held words false []

or_nothing : (kinds : Kinds) → or_else kinds [] ≡ kinds
or_nothing [] = refl
or_nothing (k ∷ kinds) = refl

pub enters_run : (words : List Text) → fault_of program (codes "run" ∷ words) ≡ inner_fault (codes "run") words
unfolding clap_on_literals
enters_run words = rw (walk_kept (built program).top.rules (names_of (built program)) (codes "run") [] words, no_fault (built program).top (names_of (built program)) (codes "run") [] words) (or_nothing (inner_fault (codes "run") words))

pub enters_serve : (words : List Text) → fault_of program (codes "serve" ∷ words) ≡ inner_fault (codes "serve") words
unfolding clap_on_literals
enters_serve words = rw (walk_kept (built program).top.rules (names_of (built program)) (codes "serve") [] words, no_fault (built program).top (names_of (built program)) (codes "serve") [] words) (or_nothing (inner_fault (codes "serve") words))

-- ---- no command

pub nothing : fault_of program [] ≡ kind.MissingSubcommand ∷ []
unfolding clap_on_literals
nothing = refl

pub no_command : (name : Text) (words : List Text) → is_operand name ≡ true → bytes_eq name (codes "run") ≡ false → bytes_eq name (codes "serve") ≡ false → fault_of program (name ∷ words) ≡ kind.UnknownArgument ∷ kind.InvalidSubcommand ∷ []
unfolding clap_on_literals
no_command [] words p run serve = absurd cc
no_command (x ∷ xs) words p run serve =
    let run' : bytes_eq (codes "run") (x ∷ xs) ≡ false = nat_list_eq_equiv.symm (codes "run") (x ∷ xs) ∙ run in
    let serve' : bytes_eq (codes "serve") (x ∷ xs) ≡ false = nat_list_eq_equiv.symm (codes "serve") (x ∷ xs) ∙ serve in
    simp (not_true (eqb x 45) p, run', serve')

-- ---- run

pub run_0 : inner_fault (codes "run") [] ≡ kind.MissingRequiredArgument ∷ []
unfolding clap_on_literals
run_0 = refl

pub run_1 : (a : Text) → is_operand a ≡ true → (inner_fault (codes "run") (a ∷ []) ≡ []) × (command_in (subcommand_of program (codes "run" ∷ a ∷ [])) ≡ Some (Run a))
unfolding clap_on_literals
run_1 [] p = absurd cc
run_1 (x ∷ xs) p = (simp (not_true (eqb x 45) p), simp (not_true (eqb x 45) p))

pub run_2 : (a b : Text) (rest : List Text) → is_operand a ≡ true → is_operand b ≡ true → inner_fault (codes "run") (a ∷ b ∷ rest) ≡ kind.UnknownArgument ∷ []
unfolding clap_on_literals
run_2 [] b rest p q = absurd cc
run_2 (x ∷ xs) [] rest p q = absurd cc
run_2 (x ∷ xs) (y ∷ ys) rest p q = simp (not_true (eqb x 45) p, not_true (eqb y 45) q)

-- ---- serve

pub serve_0 : inner_fault (codes "serve") [] ≡ kind.MissingRequiredArgument ∷ []
unfolding clap_on_literals
serve_0 = refl

pub serve_1 : (a : Text) → is_operand a ≡ true → inner_fault (codes "serve") (a ∷ []) ≡ kind.MissingRequiredArgument ∷ []
unfolding clap_on_literals
serve_1 [] p = absurd cc
serve_1 (x ∷ xs) p = simp (not_true (eqb x 45) p)

pub serve_2 : (a b : Text) → is_operand a ≡ true → is_operand b ≡ true → inner_fault (codes "serve") (a ∷ b ∷ []) ≡ kind.MissingRequiredArgument ∷ []
unfolding clap_on_literals
serve_2 [] b p q = absurd cc
serve_2 (x ∷ xs) [] p q = absurd cc
serve_2 (x ∷ xs) (y ∷ ys) p q = simp (not_true (eqb x 45) p, not_true (eqb y 45) q)

pub serve_3 : (a b c : Text) → is_operand a ≡ true → is_operand b ≡ true → is_operand c ≡ true → (inner_fault (codes "serve") (a ∷ b ∷ c ∷ []) ≡ []) × (command_in (subcommand_of program (codes "serve" ∷ a ∷ b ∷ c ∷ [])) ≡ option_map (Serve a b) (count_of c))
unfolding clap_on_literals
serve_3 [] b c p q r = absurd cc
serve_3 (x ∷ xs) [] c p q r = absurd cc
serve_3 (x ∷ xs) (y ∷ ys) [] p q r = absurd cc
serve_3 (x ∷ xs) (y ∷ ys) (z ∷ zs) p q r =
    (simp (not_true (eqb x 45) p, not_true (eqb y 45) q, not_true (eqb z 45) r), simp (not_true (eqb x 45) p, not_true (eqb y 45) q, not_true (eqb z 45) r))

pub serve_4 : (a b c d : Text) (rest : List Text) → is_operand a ≡ true → is_operand b ≡ true → is_operand c ≡ true → is_operand d ≡ true → inner_fault (codes "serve") (a ∷ b ∷ c ∷ d ∷ rest) ≡ kind.UnknownArgument ∷ []
unfolding clap_on_literals
serve_4 [] b c d rest p q r s = absurd cc
serve_4 (x ∷ xs) [] c d rest p q r s = absurd cc
serve_4 (x ∷ xs) (y ∷ ys) [] d rest p q r s = absurd cc
serve_4 (x ∷ xs) (y ∷ ys) (z ∷ zs) [] rest p q r s = absurd cc
serve_4 (x ∷ xs) (y ∷ ys) (z ∷ zs) (u ∷ us) rest p q r s = simp (not_true (eqb x 45) p, not_true (eqb y 45) q, not_true (eqb z 45) r, not_true (eqb u 45) s)

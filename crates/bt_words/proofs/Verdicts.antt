-- clap takes operands exactly where they are a command.
use Rattle.std.proofs.Common.{◌≡◌, List, [], ◌∷◌, true, false, codes, refl, sym, subst, ◌∙◌, None, inl, inr, ◌⊎◌, Result, Ok, Err}
use Rattle.std.proofs.lemmas.Bool.{and_parts}
use Rattle.std.specs.Str.{bytes_eq}
use Rattle.std.specs.Cmp.Lexicographic.{same_text}
use Rattle.std.specs.List.{list_all}
use Rattle.clap.specs.Walk.{Text}
use Rattle.clap.specs.Simple.{subcommand_of}
use Rattle.clap.specs.Faults.{fault_of}
use Rattle.clap.specs.declared.error.kind.ErrorKind.{ErrorKind}
use Rattle.bt_words.specs.declared.command.Command.{Command}
use Rattle.bt_words.specs.declared.command.WordsRefusal.{WordsRefusal}
use Rattle.bt_words.specs.declared.command.WordsRefusal.TheVariants.{Usage, OutOfMemory}
use Rattle.bt_words.specs.Words.{is_operand, command_by_name, Reads}
use Rattle.bt_words.specs.Division.{program, command_in, Answers}
use Rattle.bt_words.proofs.Walks.{enters_run, enters_serve, nothing, no_command, run_0, run_1, run_2, serve_0, serve_1, serve_2, serve_3, serve_4}

-- clap takes the words and finds the command that they are, or it refuses them and they are none
abbrev Verdict : List Text → Type 0
Verdict words = ((fault_of program words ≡ []) × (command_in (subcommand_of program words) ≡ command_by_name words)) ⊎ ((fault_of program words ≡ [] → ⊥) × (command_by_name words ≡ None))

is_fault : (k : ErrorKind) (ks : List ErrorKind) (words : List Text) → fault_of program words ≡ k ∷ ks → fault_of program words ≡ [] → ⊥
is_fault k ks words e h = cc

verdict_run : (words : List Text) → list_all is_operand words ≡ true → Verdict (codes "run" ∷ words)
verdict_run [] all = inr (is_fault _ _ _ (enters_run [] ∙ run_0), refl)
verdict_run (a ∷ []) all =
    let taken = run_1 a (and_parts (is_operand a) true all).0 in
    inl (enters_run _ ∙ taken.0, taken.1)
verdict_run (a ∷ b ∷ rest) all =
    let first = and_parts (is_operand a) (list_all is_operand (b ∷ rest)) all in
    let second = and_parts (is_operand b) (list_all is_operand rest) first.1 in
    inr (is_fault _ _ _ (enters_run _ ∙ run_2 a b rest first.0 second.0), refl)

verdict_serve : (words : List Text) → list_all is_operand words ≡ true → Verdict (codes "serve" ∷ words)
verdict_serve [] all = inr (is_fault _ _ _ (enters_serve [] ∙ serve_0), refl)
verdict_serve (a ∷ []) all = inr (is_fault _ _ _ (enters_serve _ ∙ serve_1 a (and_parts (is_operand a) true all).0), refl)
verdict_serve (a ∷ b ∷ []) all =
    let first = and_parts (is_operand a) (list_all is_operand (b ∷ [])) all in
    let second = and_parts (is_operand b) true first.1 in
    inr (is_fault _ _ _ (enters_serve _ ∙ serve_2 a b first.0 second.0), refl)
verdict_serve (a ∷ b ∷ c ∷ []) all =
    let first = and_parts (is_operand a) (list_all is_operand (b ∷ c ∷ [])) all in
    let second = and_parts (is_operand b) (list_all is_operand (c ∷ [])) first.1 in
    let third = and_parts (is_operand c) true second.1 in
    let taken = serve_3 a b c first.0 second.0 third.0 in
    inl (enters_serve _ ∙ taken.0, taken.1)
verdict_serve (a ∷ b ∷ c ∷ d ∷ rest) all =
    let first = and_parts (is_operand a) (list_all is_operand (b ∷ c ∷ d ∷ rest)) all in
    let second = and_parts (is_operand b) (list_all is_operand (c ∷ d ∷ rest)) first.1 in
    let third = and_parts (is_operand c) (list_all is_operand (d ∷ rest)) second.1 in
    let fourth = and_parts (is_operand d) (list_all is_operand rest) third.1 in
    inr (is_fault _ _ _ (enters_serve _ ∙ serve_4 a b c d rest first.0 second.0 third.0 fourth.0), refl)

at_name : (name known : Text) (words : List Text) → bytes_eq name known ≡ true → Verdict (known ∷ words) → Verdict (name ∷ words)
at_name name known words same v = subst (λ (t : Text). Verdict (t ∷ words)) (sym (same_text name known (sym same))) v

verdict : (words : List Text) → list_all is_operand words ≡ true → Verdict words
verdict [] all = inr (is_fault _ _ _ nothing, refl)
verdict (name ∷ words) all =
    let first = and_parts (is_operand name) (list_all is_operand words) all in
    (elim (bytes_eq name (codes "run")) as (λ b. bytes_eq name (codes "run") ≡ b → Verdict (name ∷ words)) [
      | true ↦ λ run. at_name name (codes "run") words run (verdict_run words first.1)
      | false ↦ λ run. (elim (bytes_eq name (codes "serve")) as (λ b. bytes_eq name (codes "serve") ≡ b → Verdict (name ∷ words)) [
        | true ↦ λ serve. at_name name (codes "serve") words serve (verdict_serve words first.1)
        | false ↦ λ serve. inr (is_fault _ _ _ (no_command name words first.0 run serve), rw (run, serve) refl)
      ]) refl
    ]) refl

-- what clap refuses is Usage
pub refused : (refusal : WordsRefusal) (words : List Text) → list_all is_operand words ≡ true → (fault_of program words ≡ [] → refusal ≡ OutOfMemory) → Reads words (Err refusal)
refused OutOfMemory words all h = all
refused Usage words all h = elim (verdict words all) [
  | inl taken ↦ let bad = h taken.0 in absurd cc
  | inr none ↦ rw all none.1
]

-- what is found in what clap takes is the command
pub taken : (result : Result Command WordsRefusal) (words : List Text) → list_all is_operand words ≡ true → fault_of program words ≡ [] → Answers (command_in (subcommand_of program words)) result → Reads words result
taken result words all free found = elim (verdict words all) [
  | inr none ↦ absurd (none.0 free)
  | inl v ↦ taken_as result words all (rw v.1 at found)
]
  where
    taken_as : (result : Result Command WordsRefusal) (words : List Text) → list_all is_operand words ≡ true → Answers (command_by_name words) result → Reads words result
    taken_as (Ok command) words all h = rw all h
    taken_as (Err Usage) words all h = rw all h
    taken_as (Err OutOfMemory) words all h = all

pub no_operands : (words : List Text) → list_all is_operand words ≡ false → Reads words (Err Usage)
no_operands words some = rw some refl

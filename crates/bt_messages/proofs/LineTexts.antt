-- Lines whose values are given compute.
use Rattle.std.proofs.Common.{◌≡◌, ℕ, List, ◌++◌, refl, ◌∙◌, ap, sym}
use Rattle.std.specs.Prelude.{⊤, codes}
use Rattle.std.specs.Fmt.{decimal, digits}
use Rattle.serde_json.proofs.OnLiterals.{serde_json_on_literals}
use Rattle.bt_messages.specs.Lines.{line_of}
use Rattle.bt_messages.specs.Refusals.{refusal_code, refusal_line, refusal_text}
use Rattle.bt_messages.specs.declared.refusal.Refusal.{Refusal}
use Rattle.bt_messages.specs.declared.refusal.Refusal.TheVariants.{NotJson}

-- what an answer unfolds to compute a line
unfoldable pub line_on_literals : ⊤
unfolding digits line_of serde_json_on_literals
line_on_literals = tt

-- what an answer unfolds to compute a number
unfoldable pub digits_on_literals : ⊤
unfolding digits
digits_on_literals = tt

-- the line of a refusal, spelled
abbrev spelled : Refusal → List ℕ
spelled r = codes "{\"status\":{\"code\":" ++ decimal (refusal_code r) ++ codes ",\"message\":\"" ++ refusal_text r ++ codes "\"}}\n"

-- none of the texts has a byte that JSON escapes
spells : (r : Refusal) → spelled r ≡ refusal_line r
unfolding line_on_literals
spells NotJson = refl
spells r = refl

pub line_from : (r x : Refusal) (line : List ℕ) → r ≡ x → line ≡ spelled x → line ≡ refusal_line r
line_from r x line e s = s ∙ spells x ∙ ap refusal_line (sym e)

use Rattle.std.proofs.Common.{◌≡◌, ℕ, ◌+◌, Bool, true, false, cond, List, length, Some, None, Ok, Err, refl, sym, ◌∙◌}
use Rattle.std.specs.Int.{Width, w16}
use Rattle.bt_types.specs.Grammar.{lawful}
use Rattle.bt_entry.specs.Grammar.{is_table_behind}
use Rattle.bt_codec.specs.Reading.{text_at, text_with}
use Rattle.bt_entry.proofs.names.next_table_name_at.Goals as goal

refused : (b : Bool) (t : List ℕ) → cond b (Some t) None ≡ None → b ≡ false
refused true t e = cc e
refused false t e = refl

-- a text that is no name stops the reading at its bytes
stopped : (w : Width) (least most : ℕ) (passes : List ℕ → Bool) (bytes t rest : List ℕ) → text_at w least most bytes ≡ Ok (t, rest) → lawful passes t ≡ None → text_with w least most passes bytes ≡ Err (length t + length rest)
unfolding text_with
stopped w least most passes bytes t rest read none = rw (read, refused (passes t) t none) refl

pub returns-in-None : goal.returns-in-None
returns-in-None c =
    stopped w16 31 278 (is_table_behind c.args.before.now) c.args.bytes.now c.in_ok-text.text.now c.in_ok-text.rest.now c.in_ok-text.ensures (sym c.in_ok-name.ensures ∙ c.in-None.is)

-- Families by their names, among those of a table.
use Rattle.std.specs.Prelude.{ℕ, Bool, false, not, List, bytes_eq, Option, Some, None}
use Rattle.std.specs.List.{position_or_len}
use Rattle.std.specs.Option.{option_or}
use Rattle.std.specs.Ordering.{is_le, nat_cmp}
use Rattle.std.specs.Cmp.Lexicographic.{slice_cmp}
use Rattle.bt_types.specs.Grammar.{is_family_name}
use Rattle.bt_rules.specs.declared.family.Family.{Family}
use Rattle.bt_messages.specs.declared.refusal.Refusal.{Refusal}
use Rattle.bt_messages.specs.declared.refusal.Refusal.TheVariants as refusal
use Rattle.bt_plans.specs.Replies.{refused_if}
use Rattle.bt_schema.specs.Schema.{is_family_of}

-- the place of the first family whose name isn't below that one, or else past the last
abbrev pub place_of : List ℕ → List Family → ℕ
place_of name families = position_or_len (λ f. is_le (slice_cmp nat_cmp name f.name)) families

-- there is a family, of that name
abbrev pub has_name : List ℕ → Option Family → Bool
has_name name None = false
has_name name (Some f) = bytes_eq f.name name

-- what is wrong with a name that a family should have
abbrev pub known_refusal : List ℕ → List Family → Option Refusal
known_refusal name families = option_or (refused_if (not (is_family_name name)) refusal.BadFamilyName) (refused_if (not (is_family_of families name)) refusal.FamilyNotFound)

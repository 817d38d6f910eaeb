-- Messages of other numbers.
use Rattle.std.proofs.Common.{◌≡◌, ℕ, [], refl}
use Rattle.std.proofs.lemmas.Bool.{ne_eqb}
use Rattle.bt_members.specs.Tables.{filter_members_of}
use Rattle.bt_members.specs.declared.kinds.TheConstants as kinds

pub no_filter : (m : ℕ) → (m ≡ kinds.ROW_FILTER → ⊥) → (m ≡ kinds.FILTERS → ⊥) → (m ≡ kinds.CONDITION → ⊥) → (m ≡ kinds.COLUMN_RANGE → ⊥) → (m ≡ kinds.VALUE_RANGE → ⊥) → [] ≡ filter_members_of m
no_filter m filter filters condition columns values = rw (ne_eqb m kinds.ROW_FILTER filter, ne_eqb m kinds.FILTERS filters, ne_eqb m kinds.CONDITION condition, ne_eqb m kinds.COLUMN_RANGE columns, ne_eqb m kinds.VALUE_RANGE values) refl

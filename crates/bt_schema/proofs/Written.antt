-- Tables that are written one after the other, as a loop does.
use Rattle.std.proofs.Common.{◌≡◌, ℕ, List, ◌∷◌, ◌++◌, sym, ap, ◌∙◌, append_assoc}
use Rattle.std.specs.List.{flat_map}
use Rattle.std.proofs.lemmas.List.Concat.{flat_map-cons}
use Rattle.bt_entry.specs.declared.table_info.TableInfo.{TableInfo}
use Rattle.bt_schema.specs.Schema.{Schema}
use Rattle.bt_schema.specs.Spelling.{named}

-- one more table is written: t is the first of those left
pub one_written : (out new total : List ℕ) (t : List ℕ × TableInfo) (left rest : Schema) → out ++ flat_map named left ≡ total → left ≡ t ∷ rest → new ≡ out ++ named t → new ++ flat_map named rest ≡ total
one_written out new total t left rest so_far first put =
    ap (λ (b : List ℕ). b ++ flat_map named rest) put
    ∙ append_assoc out (named t) (flat_map named rest)
    ∙ ap (λ (b : List ℕ). out ++ b) (sym (flat_map-cons named t rest))
    ∙ ap (λ (ts : Schema). out ++ flat_map named ts) (sym first)
    ∙ so_far

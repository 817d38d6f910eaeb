-- What is shown of a row: its cells, by family and column (google.bigtable.v2.Row).
use Rattle.std.specs.Prelude.{ℕ, Bool, List, [], ◌∷◌, map, bytes_eq, codes, pos, if◌then◌else◌}
use Rattle.serde_json.specs.Data.{Data, object, no_members}
use Rattle.bt_types.specs.declared.cell.Cell.{Cell}
use Rattle.bt_messages.specs.Lines.{with_bytes, with_int64, with_items, with_text}

-- the runs, with an item in front: it goes into the first run where it is like the item that begins it
abbrev pub run_begun : {A : Type 0} → (A → A → Bool) → A → List (List A) → List (List A)
run_begun like x ((y ∷ ys) ∷ runs) = if like x y then (x ∷ y ∷ ys) ∷ runs else (x ∷ []) ∷ (y ∷ ys) ∷ runs
run_begun like x ([] ∷ runs) = (x ∷ []) ∷ runs
run_begun like x [] = (x ∷ []) ∷ []

-- the items, cut wherever one is not like the next
abbrev pub runs_of : {A : Type 0} → (A → A → Bool) → List A → List (List A)
runs_of like [] = []
runs_of like (x ∷ xs) = run_begun like x (runs_of like xs)

abbrev pub is_same_family : Cell → Cell → Bool
is_same_family a b = bytes_eq a.family b.family

-- cells of one family are of one column
abbrev pub is_same_column : Cell → Cell → Bool
is_same_column a b = bytes_eq a.qualifier b.qualifier

-- the family that these cells are of
abbrev pub family_of : List Cell → List ℕ
family_of [] = []
family_of (c ∷ cs) = c.family

-- the column of its family that these cells are of
abbrev pub qualifier_of : List Cell → List ℕ
qualifier_of [] = []
qualifier_of (c ∷ cs) = c.qualifier

-- a cell (google.bigtable.v2.Cell)
abbrev pub shown_cell : Cell → Data
shown_cell c = object (with_int64 (codes "timestampMicros") (pos c.at) (with_bytes (codes "value") c.value no_members))

-- the cells of a column (google.bigtable.v2.Column)
abbrev pub shown_column : List Cell → Data
shown_column cs = object (with_items (codes "cells") (map shown_cell cs) (with_bytes (codes "qualifier") (qualifier_of cs) no_members))

-- the cells of a family (google.bigtable.v2.Family)
abbrev pub shown_family : List Cell → Data
shown_family cs = object (with_items (codes "columns") (map shown_column (runs_of is_same_column cs)) (with_text (codes "name") (family_of cs) no_members))

-- a row (google.bigtable.v2.Row)
abbrev pub shown_row : List ℕ → List Cell → Data
shown_row key cs = object (with_items (codes "families") (map shown_family (runs_of is_same_family cs)) (with_bytes (codes "key") key no_members))

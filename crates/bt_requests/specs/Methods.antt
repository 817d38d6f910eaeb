-- The methods by their names.
use Rattle.std.specs.Prelude.{ℕ, List, codes, bytes_eq, Option, Some, None, if◌then◌else◌}
use Rattle.bt_requests.specs.declared.method.Method.{Method}
use Rattle.bt_requests.specs.declared.method.Method.TheVariants as method

-- the method of that name
abbrev pub method_named : List ℕ → Option Method
method_named name =
    if bytes_eq name (codes "CreateTable") then Some method.CreateTable
    else if bytes_eq name (codes "GetTable") then Some method.GetTable
    else if bytes_eq name (codes "ListTables") then Some method.ListTables
    else if bytes_eq name (codes "DeleteTable") then Some method.DeleteTable
    else if bytes_eq name (codes "UpdateTable") then Some method.UpdateTable
    else if bytes_eq name (codes "ModifyColumnFamilies") then Some method.ModifyColumnFamilies
    else if bytes_eq name (codes "DropRowRange") then Some method.DropRowRange
    else if bytes_eq name (codes "CompactTable") then Some method.CompactTable
    else if bytes_eq name (codes "ReadRows") then Some method.ReadRows
    else if bytes_eq name (codes "MutateRow") then Some method.MutateRow
    else if bytes_eq name (codes "MutateRows") then Some method.MutateRows
    else if bytes_eq name (codes "CheckAndMutateRow") then Some method.CheckAndMutateRow
    else if bytes_eq name (codes "ReadModifyWriteRow") then Some method.ReadModifyWriteRow
    else if bytes_eq name (codes "GenerateInitialChangeStreamPartitions") then Some method.GenerateInitialChangeStreamPartitions
    else if bytes_eq name (codes "ReadChangeStream") then Some method.ReadChangeStream
    else None

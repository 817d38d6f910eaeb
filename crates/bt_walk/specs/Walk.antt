-- The first fault of a message: in an object the one at the least JSON name, in an array the first.
use Rattle.std.specs.Prelude.{ℕ, List, Option, Some, None, option_map, if◌then◌else◌}
use Rattle.serde_json.specs.Data.{Data, null, boolean, number, string, array, object, Items, no_items, item, Members, no_members, member}
use Rattle.bt_walk.specs.Shapes.{Table, Field, named}
use Rattle.bt_walk.specs.Values.{leaf, is_null}
use Rattle.bt_walk.specs.Members.{is_absent, is_wrong}
use Rattle.bt_walk.specs.Faults.{Fault, fault_at, first, name_of, unknown}
use Rattle.bt_walk.specs.declared.found.Pass.{Pass}
use Rattle.bt_walk.specs.declared.shape.Many.{Many}
use Rattle.bt_walk.specs.declared.shape.Many.TheVariants.{One, List as Listed, Map}
use Rattle.bt_walk.specs.declared.shape.Shape.{Shape}
use Rattle.bt_walk.specs.declared.shape.Shape.TheVariants.{Of}

abbrev pub or_else : Option (List ℕ) → Option (List ℕ) → Option (List ℕ)
or_else None b = b
or_else (Some a) b = Some a

-- a member by its key: a name that is not known, or a field, which is wrong itself or has a fault within it
abbrev pub of_member : (ℕ → List ℕ) → Pass → Data → List Field → List ℕ → Data → Option Field → (Field → Option (List ℕ)) → Option Fault
of_member names pass whole fields key d None within = unknown pass key
of_member names pass whole fields key d (Some f) within =
    if is_absent f.support d then None
    else if is_wrong names pass whole fields f d then Some (fault_at f.name f.name)
    else option_map (λ n. fault_at f.name n) (within f)

-- an array: by its items, where the member is a list
abbrev pub of_array : Many → Option (List ℕ) → Option (List ℕ) → Option (List ℕ)
of_array Listed items other = items
of_array One items other = other
of_array Map items other = other

-- an object of a shape: by its members, where it is a message
abbrev pub of_shape : Shape → (ℕ → Option (List ℕ)) → Option (List ℕ) → Option (List ℕ)
of_shape (Of m) members other = members m
of_shape _ members other = other

-- an object: by its values, where the member is a map
abbrev pub of_object : Many → Shape → (ℕ → Option (List ℕ)) → Option (List ℕ) → Option (List ℕ) → Option (List ℕ)
of_object Map s members entries other = entries
of_object Listed s members entries other = other
of_object One s members entries other = of_shape s members other

abbrev mutual
  -- the first fault of a value, told by its member's name or by that of a member within it
  pub fault : Table → Pass → Many → Shape → List ℕ → Data → Option (List ℕ)
  fault table pass many s name null = leaf table.names pass many s name null
  fault table pass many s name (boolean b) = leaf table.names pass many s name (boolean b)
  fault table pass many s name (number n) = leaf table.names pass many s name (number n)
  fault table pass many s name (string t) = leaf table.names pass many s name (string t)
  fault table pass many s name (array ds) = of_array many (items_fault table pass s name ds) (leaf table.names pass many s name (array ds))
  fault table pass many s name (object ms) =
      of_object many s (λ m. name_of (members_fault table pass (table.fields m) (object ms) None ms)) (entries_fault table pass s name ms) (leaf table.names pass many s name (object ms))

  pub items_fault : Table → Pass → Shape → List ℕ → Items → Option (List ℕ)
  items_fault table pass s name no_items = None
  items_fault table pass s name (item d ds) = or_else (fault table pass One s name d) (items_fault table pass s name ds)

  -- the values of a map, where null is absent
  pub entries_fault : Table → Pass → Shape → List ℕ → Members → Option (List ℕ)
  entries_fault table pass s name no_members = None
  entries_fault table pass s name (member key d ms) = or_else (if is_null d then None else fault table pass One s name d) (entries_fault table pass s name ms)

  -- of the members of an object, after what those before them have
  pub members_fault : Table → Pass → List Field → Data → Option Fault → Members → Option Fault
  members_fault table pass fields whole before no_members = before
  members_fault table pass fields whole before (member key d ms) =
      members_fault table pass fields whole (first before (of_member table.names pass whole fields key d (named key fields) (λ f. fault table pass f.many f.shape f.name d))) ms

abbrev pub member_fault : Table → Pass → List Field → Data → List ℕ → Data → Option Fault
member_fault table pass fields whole key d = of_member table.names pass whole fields key d (named key fields) (λ f. fault table pass f.many f.shape f.name d)

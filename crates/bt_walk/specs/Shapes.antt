-- The shapes of values, and the members of messages.
use Rattle.std.specs.Prelude.{ℕ, ◌||◌, Bool, List, [], ◌∷◌, bytes_eq, Option, Some, None, if◌then◌else◌}
use Rattle.bt_text.specs.Names.{original_name}
use Rattle.bt_walk.specs.declared.shape.Member.{Member}
use Rattle.bt_walk.specs.declared.shape.Many.{Many}
use Rattle.bt_walk.specs.declared.shape.Many.TheVariants as many
use Rattle.bt_walk.specs.declared.shape.Shape.{Shape}
use Rattle.bt_walk.specs.declared.shape.Shape.TheVariants.{Anything, Enum}
use Rattle.bt_walk.specs.declared.shape.Support.{Support}
use Rattle.bt_walk.specs.declared.shape.Support.TheVariants.{Full, Only}

-- a member of a message
pub record Field : Type 0 where
  pub name : List ℕ
  pub original : List ℕ
  pub many : Many
  pub shape : Shape
  -- the number of its oneof, or 0
  pub choice : ℕ
  pub support : Support

-- the members of each message, and the names of each enum joined by commas, by their numbers
pub record Table : Type 0 where
  pub fields : ℕ → List Field
  pub names : ℕ → List ℕ

-- a member as the code has it
abbrev pub seen : Member → Field
seen m = record { name = m.name.0.now; original = m.name.1.now; many = m.many; shape = m.shape; choice = m.choice; support = m.support }

-- one of a oneof, by the oneof's number, or of none by 0; with the support that it has
abbrev pub field : Support → ℕ → Many → List ℕ → Shape → Field
field u c many n s = record { name = n; original = original_name n; many = many; shape = s; choice = c; support = u }

-- a member of one value
abbrev pub one : List ℕ → Shape → Field
one n s = field Full 0 many.One n s

-- a member of one value, as one of a oneof
abbrev pub choice_of : ℕ → List ℕ → Shape → Field
choice_of c n s = field Full c many.One n s

-- an array
abbrev pub list : List ℕ → Shape → Field
list n s = field Full 0 many.List n s

-- an object whose keys are data
abbrev pub mapped : List ℕ → Shape → Field
mapped n s = field Full 0 many.Map n s

-- a member that is not supported, whatever its value is
abbrev pub unsupported : Support → ℕ → List ℕ → Field
unsupported u c n = field u c many.One n Anything

-- an enum, of which only the values of a shorter list of its names are supported
abbrev pub enum_of : ℕ → ℕ → List ℕ → Field
enum_of all supported n = field (Only supported) 0 many.One n (Enum all)

-- by its JSON name or its original name
abbrev pub is_named : List ℕ → Field → Bool
is_named k f = bytes_eq f.name k || bytes_eq f.original k

-- the member with a name
abbrev pub named : List ℕ → List Field → Option Field
named k [] = None
named k (f ∷ fs) = if is_named k f then Some f else named k fs

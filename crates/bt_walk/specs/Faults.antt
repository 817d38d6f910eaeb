-- Faults at members of an object, of which the one at the lesser name comes first.
use Rattle.std.specs.Prelude.{ℕ, List, Option, Some, None, option_map, if◌then◌else◌}
use Rattle.bt_walk.specs.Members.{is_before}
use Rattle.bt_walk.specs.declared.found.Pass.{Pass}
use Rattle.bt_walk.specs.declared.found.Pass.TheVariants.{ForUnsupported, ForBad}
use Rattle.bt_walk.specs.declared.found.Found.{Found}

-- at the member of that JSON name, with the name that is told
pub record Fault : Type 0 where
  pub place : List ℕ
  pub name : List ℕ

abbrev pub fault_at : List ℕ → List ℕ → Fault
fault_at place name = record { place = place; name = name }

-- a fault as the code has it
abbrev pub told : Found → Fault
told f = fault_at f.place.now f.name.now

-- the one at the lesser place
abbrev pub first : Option Fault → Option Fault → Option Fault
first None b = b
first (Some a) None = Some a
first (Some a) (Some b) = if is_before b.place a.place then Some b else Some a

abbrev pub name_of : Option Fault → Option (List ℕ)
name_of o = option_map (λ f. f.name) o

-- a member of a name that the message does not have: bad, by that name
abbrev pub unknown : Pass → List ℕ → Option Fault
unknown ForUnsupported key = None
unknown ForBad key = Some (fault_at key key)

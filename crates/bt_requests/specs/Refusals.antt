-- Why a request is refused.
use Rattle.std.specs.Prelude.{◌≡◌, ℕ, List, codes, Option, Some, None, option_map, Result, Ok, Err}
use Rattle.serde_json.specs.Data.{Data}
use Rattle.bt_walk.specs.Walk.{fault}
use Rattle.bt_walk.specs.declared.found.Pass.{Pass}
use Rattle.bt_walk.specs.declared.found.Pass.TheVariants.{ForUnsupported, ForBad}
use Rattle.bt_walk.specs.declared.shape.Many.TheVariants.{One}
use Rattle.bt_walk.specs.declared.shape.Shape.TheVariants.{Of}
use Rattle.bt_members.specs.Tables.{messages}
use Rattle.bt_requests.specs.declared.refusal.RequestRefusal.{RequestRefusal}
use Rattle.bt_requests.specs.declared.refusal.RequestRefusal.TheVariants.{NotBuilt, Unsupported, BadField, BadName, OutOfMemory}
use Rattle.bt_requests.specs.declared.request.Request.{Request}

-- the first fault of a request's object
unfoldable pub first_fault : Pass → ℕ → Data → Option (List ℕ)
first_fault pass message d = fault messages pass One (Of message) (codes "request") d

abbrev pub or_refusal : Option RequestRefusal → Option RequestRefusal → Option RequestRefusal
or_refusal None b = b
or_refusal (Some a) b = Some a

-- a member that is not supported, or else a bad field
abbrev pub members_refusal : ℕ → Data → Option RequestRefusal
members_refusal message d = or_refusal (option_map Unsupported (first_fault ForUnsupported message d)) (option_map BadField (first_fault ForBad message d))

-- that answer, or want of memory
abbrev pub Answers : Result Request RequestRefusal → Result Request RequestRefusal → Type 0
Answers answer (Ok r) = answer ≡ Ok r
Answers answer (Err NotBuilt) = answer ≡ Err NotBuilt
Answers answer (Err (Unsupported n)) = answer ≡ Err (Unsupported n)
Answers answer (Err (BadField n)) = answer ≡ Err (BadField n)
Answers answer (Err BadName) = answer ≡ Err BadName
Answers answer (Err OutOfMemory) = Unit {0}

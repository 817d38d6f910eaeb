-- Records of entries, and the plans that they make.
use Rattle.std.specs.Prelude.{ℕ, ◌+◌, List, [], ◌∷◌, length}
use Rattle.bt_entry.specs.declared.entry.Entry.{Entry}
use Rattle.bt_entry.specs.declared.numbered.Numbered.{Numbered}
use Rattle.bt_state.specs.State.{numbered}
use Rattle.bt_plans.specs.Replies.{event}
use Rattle.bt_plans.specs.declared.answer.Answer.{Answer}
use Rattle.bt_plans.specs.declared.plan.Plan.{Plan}
use Rattle.bt_plans.specs.declared.plan.Plan.TheVariants.{Says, Changes}

-- entries of one moment, numbered on from the first
abbrev pub numbered_from : ℕ → ℕ → List Entry → List Numbered
numbered_from first m [] = []
numbered_from first m (e ∷ es) = numbered first (event m e) ∷ numbered_from (first + 1) m es

-- records of these entries, numbered on from the first
abbrev pub numbered_on : ℕ → ℕ → List (List Entry) → List (List Numbered)
numbered_on first m [] = []
numbered_on first m (es ∷ ess) = numbered_from first m es ∷ numbered_on (first + length es) m ess

-- one record of these entries, or none where there are none
abbrev pub as_record : List Numbered → List (List Numbered)
as_record [] = []
as_record (n ∷ ns) = (n ∷ ns) ∷ []

-- these records before the answer, or nothing but the answer where there are none
abbrev pub plan_of : List (List Numbered) → Answer → Plan
plan_of [] answer = Says answer
plan_of (r ∷ rs) answer = Changes (r ∷ rs) answer

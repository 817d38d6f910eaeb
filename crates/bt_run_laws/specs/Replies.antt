-- What holds of the replies to a line in a valid state.
use Rattle.std.specs.Prelude.{ℕ, ◌≤◌, List}
use Rattle.bt_entry.specs.Grammar.{last_moment}
use Rattle.bt_laws.specs.States.{AreLawfulRecords, IsValid}
use Rattle.bt_plans.specs.Replies.{Reply}
use Rattle.bt_replies.specs.Lines.{IsReplyTo}
use Rattle.bt_service.specs.Turns.{IsReply}
use Rattle.bt_state.specs.State.{State, after_records}
use Rattle.bt_store.specs.declared.limits.Limits.{Limits}

-- the moment may be that of the next entry
pub record MayBeNext (s : State) (m : ℕ) : Type 0 where
  pub not_before : s.present.floor ≤ m
  pub not_past : m ≤ last_moment

-- the records of a reply to a line may come in turn
abbrev pub RepliesLawful : Type 0
RepliesLawful = (s : State) (m : ℕ) (line : List ℕ) (r : Reply) → IsValid s → MayBeNext s m → IsReplyTo s.present m line r → AreLawfulRecords s r.records

-- so may those that are not too large, and the state after them is valid
abbrev pub RepliesValid : Type 0
RepliesValid = (limits : Limits) (s : State) (m : ℕ) (line : List ℕ) (r : Reply) → IsValid s → MayBeNext s m → IsReply limits s line m r → AreLawfulRecords s r.records × IsValid (after_records s r.records)

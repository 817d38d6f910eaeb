-- The refusals of requests for their filters.
use Rattle.bt_filter.specs.declared.refusal.Why.{Why}
use Rattle.bt_filter.specs.declared.refusal.Why.TheVariants as why
use Rattle.bt_messages.specs.declared.refusal.Refusal.{Refusal}
use Rattle.bt_messages.specs.declared.refusal.Refusal.TheVariants as refusal

-- the refusal of a request for its filter
abbrev pub refusal_for_filter : Why → Refusal
refusal_for_filter why.TooDeep = refusal.FilterTooDeep
refusal_for_filter why.TooMany = refusal.TooManyFilters
refusal_for_filter why.TooLarge = refusal.FilterTooLarge
refusal_for_filter why.TooManyPatterns = refusal.TooManyPatterns
refusal_for_filter why.SinkUnderCondition = refusal.SinkUnderCondition
refusal_for_filter why.FlagNotTrue = refusal.FlagNotTrue
refusal_for_filter why.BadLabel = refusal.BadLabel
refusal_for_filter why.TwoLabels = refusal.TwoLabels
refusal_for_filter why.NegativeCount = refusal.NegativeCount
refusal_for_filter why.BadTimeRange = refusal.BadTimeRange
refusal_for_filter why.BadPattern = refusal.BadPattern
refusal_for_filter why.LargePattern = refusal.PatternTooLarge

-- The one table of refusals: the code (google.rpc.Code) and the text of each.
use Rattle.std.specs.Prelude.{ℕ, Bool, true, false, List, ◌++◌, codes}
use Rattle.std.specs.Str.Lossy.{utf8_lossy}
use Rattle.bt_messages.specs.Lines.{line_of, status_data}
use Rattle.bt_messages.specs.declared.refusal.Refusal.{Refusal}
use Rattle.bt_messages.specs.declared.refusal.Refusal.TheVariants.{NotJson, NoEntries, BadTimeRange, NoRules, TooManyRules, RuleWithoutKind, NotEightBytes, IncrementOutOfRange, BadGcRule, BadRetention, BadPageToken, NoModifications, ModificationWithoutKind, FlagNotTrue, FamilyExists, BadUpdateMask, NoTarget, FilterTooDeep, TooManyFilters, FilterTooLarge, TooManyPatterns, SinkUnderCondition, BadLabel, TwoLabels, NegativeCount, NegativeRowsLimit, BadPattern, PatternTooLarge, BadEnvelope, UnknownMethod, NotBuilt, BadName, TableNotFound, TableExists, BadRowKey, NoMutations, TooManyMutations, MutationWithoutKind, FamilyNotFound, QualifierTooLong, BadTimestamp, ValueTooLarge, BadFamilyName, TooManyFamilies, TooManyTables, ChangeTooLarge, OutOfMemory, DiskFailed, LineTooLong, ConnectionTooLong, LineNotEnded}

-- it is about rows, cells or filters
abbrev pub is_about_rows : Refusal → Bool
is_about_rows BadRowKey = true
is_about_rows NoEntries = true
is_about_rows NoMutations = true
is_about_rows TooManyMutations = true
is_about_rows MutationWithoutKind = true
is_about_rows FamilyNotFound = true
is_about_rows QualifierTooLong = true
is_about_rows BadTimestamp = true
is_about_rows ValueTooLarge = true
is_about_rows BadTimeRange = true
is_about_rows NoRules = true
is_about_rows TooManyRules = true
is_about_rows RuleWithoutKind = true
is_about_rows NotEightBytes = true
is_about_rows IncrementOutOfRange = true
is_about_rows FilterTooDeep = true
is_about_rows TooManyFilters = true
is_about_rows FilterTooLarge = true
is_about_rows TooManyPatterns = true
is_about_rows SinkUnderCondition = true
is_about_rows BadLabel = true
is_about_rows TwoLabels = true
is_about_rows NegativeCount = true
is_about_rows NegativeRowsLimit = true
is_about_rows BadPattern = true
is_about_rows PatternTooLarge = true
is_about_rows r = false

-- the code of a refusal
abbrev pub refusal_code : Refusal → ℕ
refusal_code NotJson = 3
refusal_code BadEnvelope = 3
refusal_code UnknownMethod = 12
refusal_code NotBuilt = 12
refusal_code BadName = 3
refusal_code TableNotFound = 5
refusal_code TableExists = 6
refusal_code BadRowKey = 3
refusal_code NoEntries = 3
refusal_code NoMutations = 3
refusal_code TooManyMutations = 3
refusal_code MutationWithoutKind = 3
refusal_code FamilyNotFound = 5
refusal_code QualifierTooLong = 3
refusal_code BadTimestamp = 3
refusal_code ValueTooLarge = 3
refusal_code BadTimeRange = 3
refusal_code NoRules = 3
refusal_code TooManyRules = 3
refusal_code RuleWithoutKind = 3
refusal_code NotEightBytes = 9
refusal_code IncrementOutOfRange = 9
refusal_code BadFamilyName = 3
refusal_code BadGcRule = 3
refusal_code BadRetention = 3
refusal_code BadPageToken = 3
refusal_code NoModifications = 3
refusal_code ModificationWithoutKind = 3
refusal_code FlagNotTrue = 3
refusal_code FamilyExists = 6
refusal_code BadUpdateMask = 3
refusal_code NoTarget = 3
refusal_code FilterTooDeep = 3
refusal_code TooManyFilters = 3
refusal_code FilterTooLarge = 3
refusal_code TooManyPatterns = 3
refusal_code SinkUnderCondition = 3
refusal_code BadLabel = 3
refusal_code TwoLabels = 3
refusal_code NegativeCount = 3
refusal_code NegativeRowsLimit = 3
refusal_code BadPattern = 3
refusal_code PatternTooLarge = 3
refusal_code TooManyFamilies = 9
refusal_code TooManyTables = 9
refusal_code ChangeTooLarge = 9
refusal_code OutOfMemory = 8
refusal_code DiskFailed = 14
refusal_code LineTooLong = 3
refusal_code ConnectionTooLong = 3
refusal_code LineNotEnded = 3

-- the text of a refusal
abbrev pub refusal_text : Refusal → List ℕ
refusal_text NotJson = codes "not json"
refusal_text BadEnvelope = codes "bad envelope"
refusal_text UnknownMethod = codes "unknown method"
refusal_text NotBuilt = codes "not built"
refusal_text BadName = codes "bad name"
refusal_text TableNotFound = codes "table not found"
refusal_text TableExists = codes "table exists"
refusal_text BadRowKey = codes "bad row key"
refusal_text NoEntries = codes "no entries"
refusal_text NoMutations = codes "no mutations"
refusal_text TooManyMutations = codes "too many mutations"
refusal_text MutationWithoutKind = codes "mutation without kind"
refusal_text FamilyNotFound = codes "family not found"
refusal_text QualifierTooLong = codes "qualifier too long"
refusal_text BadTimestamp = codes "bad timestamp"
refusal_text ValueTooLarge = codes "value too large"
refusal_text BadTimeRange = codes "bad time range"
refusal_text NoRules = codes "no rules"
refusal_text TooManyRules = codes "too many rules"
refusal_text RuleWithoutKind = codes "rule without kind"
refusal_text NotEightBytes = codes "not eight bytes"
refusal_text IncrementOutOfRange = codes "increment out of range"
refusal_text BadFamilyName = codes "bad family name"
refusal_text BadGcRule = codes "bad gc rule"
refusal_text BadRetention = codes "bad retention"
refusal_text BadPageToken = codes "bad page token"
refusal_text NoModifications = codes "no modifications"
refusal_text ModificationWithoutKind = codes "modification without kind"
refusal_text FlagNotTrue = codes "flag not true"
refusal_text FamilyExists = codes "family exists"
refusal_text BadUpdateMask = codes "bad update mask"
refusal_text NoTarget = codes "no target"
refusal_text FilterTooDeep = codes "filter too deep"
refusal_text TooManyFilters = codes "too many filters"
refusal_text FilterTooLarge = codes "filter too large"
refusal_text TooManyPatterns = codes "too many patterns"
refusal_text SinkUnderCondition = codes "sink under condition"
refusal_text BadLabel = codes "bad label"
refusal_text TwoLabels = codes "two labels in a chain"
refusal_text NegativeCount = codes "negative count"
refusal_text NegativeRowsLimit = codes "negative rowsLimit"
refusal_text BadPattern = codes "bad pattern"
refusal_text PatternTooLarge = codes "pattern too large"
refusal_text TooManyFamilies = codes "too many families"
refusal_text TooManyTables = codes "too many tables"
refusal_text ChangeTooLarge = codes "change too large"
refusal_text OutOfMemory = codes "out of memory"
refusal_text DiskFailed = codes "disk failed"
refusal_text LineTooLong = codes "line too long"
refusal_text ConnectionTooLong = codes "connection too long"
refusal_text LineNotEnded = codes "line not ended"

-- the last line of a request that was refused so
abbrev pub refusal_line : Refusal → List ℕ
refusal_line r = line_of (status_data (refusal_code r) (refusal_text r))

-- the last line of a request that has a member which is not supported
abbrev pub unsupported_line : List ℕ → List ℕ
unsupported_line name = line_of (status_data 12 (codes "unsupported " ++ utf8_lossy name))

-- the last line of a request that has a bad field
abbrev pub bad_field_line : List ℕ → List ℕ
bad_field_line name = line_of (status_data 3 (codes "bad field " ++ utf8_lossy name))

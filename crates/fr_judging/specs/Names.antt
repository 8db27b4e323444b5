-- The names of findings in the order of the summary.
use Rattle.std.specs.Prelude.{ℕ, Bool, true, false}
use Rattle.fr_logged.specs.declared.finding.Name.{Name}
use Rattle.fr_logged.specs.declared.finding.Name.TheVariants as name

abbrev pub index_of : Name → ℕ
index_of name.Cut = 0
index_of name.LoggedCoding = 1
index_of name.LoggedStart = 2
index_of name.LoggedHeader = 3
index_of name.LoggedEnd = 4
index_of name.LoggedFrame = 5
index_of name.Length = 6
index_of name.HeaderCrc = 7
index_of name.FrameCrc = 8
index_of name.Slot = 9
index_of name.Cycle = 10
index_of name.Order = 11
index_of name.Nobody = 12
index_of name.Words = 13
index_of name.Bits = 14
index_of name.NullFrame = 15
index_of name.NoBuffer = 16
index_of name.Preamble = 17
index_of name.Channels = 18
index_of name.Closed = 19
index_of name.Late = 20
index_of name.Missing = 21
index_of name.Gap = 22
index_of name.Clock = 23
index_of name.Time = 24
index_of name.Silent = 25
index_of name.Symbol = 26
index_of name.Nothing = 27

abbrev pub is_missing : Name → Bool
is_missing name.Missing = true
is_missing other = false

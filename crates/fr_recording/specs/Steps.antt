-- The effect of several bytes at once, for private functions. No public contract cites it.
use Rattle.std.specs.Prelude.{◌≡◌, ◌+◌, ◌<◌, ◌≤◌, ℕ, List, Some, length, take, drop, option_to_list}
use Rattle.fr_recording.specs.Captures.{record_head}
use Rattle.fr_recording.specs.Classics.{BeginsClassic}
use Rattle.fr_recording.specs.Numbers.{counted}
use Rattle.fr_recording.specs.Stream.{Progress, State, take_bytes, records_from, told_of, read_on, tell}
use Rattle.fr_recording.specs.declared.classic.Classic.{Classic}
use Rattle.fr_recording.specs.declared.numbers.Order.{Order}
use Rattle.fr_recording.specs.declared.phase.Head.{Head}
use Rattle.fr_recording.specs.declared.phase.Phase.TheVariants.{RecordHeader}

-- the bytes have been read, and no byte before the last one completed a record
abbrev pub Steps : Progress → List ℕ → Progress → Type 0
Steps old bytes new = (new ≡ take_bytes old bytes) × (records_from old bytes ≡ option_to_list (told_of new))

-- this head stands at the front of the bytes, and the captured bytes of its record, at least one, are there too
pub record IsWholeHead (order : Order) (scale link : ℕ) (bytes : List ℕ) (head : Head) : Type 0 where
  pub some : 0 < head.captured
  pub whole : 16 + head.captured ≤ length bytes
  pub is_head : record_head order scale link (take 16 bytes) ≡ Some head

-- So many bytes of whole records of a classic file have been read, and the next one begins.
pub record GoesOn (p q : Progress) (c : Classic) (count : ℕ) : Type 0 where
  pub begins : BeginsClassic q c
  pub same_sources : q.state.sources ≡ p.state.sources
  pub same_skipped : q.state.skipped ≡ p.state.skipped
  pub at_is : (more : ℕ) → counted q.state.at more ≡ counted p.state.at (count + more)

-- so many bytes at the front are whole records of a classic file
abbrev pub AreWhole : Classic → List ℕ → ℕ → Type 0
AreWhole c bytes count =
    (p : Progress) → BeginsClassic p c → GoesOn p (take_bytes p (take count bytes)) c count

-- a record of a classic file, and its head comes next again
abbrev pub tell_next : State → Head → List ℕ → State
tell_next s head bytes = record s { captured = bytes; told = Some head; begin = s.at }

-- a record of a classic file has been read, which takes so many of the bytes
pub record TakesRecord (old : State) (bytes : List ℕ) (count : ℕ) (new : State) : Type 0 where
  pub scale : ℕ
  pub link : ℕ
  pub head : Head
  pub classic : old.phase ≡ RecordHeader scale link
  pub is_whole : IsWholeHead old.order scale link bytes head
  pub ends : count ≡ 16 + head.captured
  pub state : new ≡ tell (read_on old count) scale link head (take head.captured (drop 16 bytes))

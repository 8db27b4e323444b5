-- Records of a classic file that lie whole in a piece, with at least one captured byte.
use Rattle.std.specs.Prelude.{◌≡◌, ℕ, ◌+◌, ◌*◌, ◌^◌, ◌<◌, ◌≤◌, ℤ, pos, List, [], length, take, Some}
use Rattle.fr_recording.specs.Numbers.{long, most_captured}
use Rattle.fr_recording.specs.Stream.{Progress}
use Rattle.fr_recording.specs.declared.classic.Classic.{Classic}
use Rattle.fr_recording.specs.declared.phase.Head.{Head}
use Rattle.fr_recording.specs.declared.phase.Phase.TheVariants.{RecordHeader}

-- ---- the numbers in the head of a record

abbrev pub captured_in : Classic → List ℕ → ℕ
captured_in c head = long c.order 8 head

abbrev pub original_in : Classic → List ℕ → ℕ
original_in c head = long c.order 12 head

abbrev pub time_in : Classic → List ℕ → ℤ
time_in c head = pos (long c.order 0 head * 10 ^ 9 + long c.order 4 head * c.scale)

abbrev pub head_in : Classic → List ℕ → Head
head_in c head = record {
  time = Some (time_in c head);
  link = c.link;
  captured = captured_in c head;
  original = original_in c head;
}

-- ---- records

-- such a record begins with the next byte of the file
pub record BeginsClassic (p : Progress) (c : Classic) : Type 0 where
  pub none_held : p.held ≡ []
  pub order_is : p.state.order ≡ c.order
  pub phase_is : p.state.phase ≡ RecordHeader c.scale c.link

-- this head is at the front of the bytes, and the captured bytes of its record, at least one, are there too
pub record IsWhole (c : Classic) (bytes head : List ℕ) : Type 0 where
  pub some : 0 < captured_in c head
  pub few : captured_in c head ≤ most_captured
  pub whole : 16 + captured_in c head ≤ length bytes
  pub is_front : head ≡ take 16 bytes

-- The words of a line of a trace after its first, and the first of its words that is wrong (project-defined).
use Rattle.std.specs.Prelude.{◌≡◌, ◌⊎◌, IsSome, ℕ, ◌+◌, ◌^◌, nat_le, Bool, List, [], ◌∷◌, codes, take, Option, Some}
use Rattle.std.specs.Prelude.{None, is_some, option_map, if◌then◌else◌}
use Rattle.std.specs.Str.{bytes_eq}
use Rattle.fr_lines.specs.declared.forms.WordForm.{WordForm}
use Rattle.fr_lines.specs.declared.forms.WordForm.TheVariants as form
use Rattle.fr_lines.specs.declared.forms.WordPlace.{WordPlace}
use Rattle.fr_lines.specs.declared.versions.Version.{Version}
use Rattle.fr_lines.specs.PartReading.{slot_in, optional_slot_in, channels_in, flag_in, mode_in, size_in, payload_in}
use Rattle.fr_lines.specs.PartReading.{taken_back_in, from_in, offered_in, seen_in}
use Rattle.fr_lines.specs.Reading.{params_in, node_in, plan_line_in, entry_in}
use Rattle.fr_lines.specs.Spelling.{begin_line, end_line}
use Rattle.fr_lines.specs.Versions.{has_withdraws, has_own_cycles}
use Rattle.fr_slots.specs.Admission.{is_repetition}
use Rattle.fr_slots.specs.Numbers.{last_static_slot}
use Rattle.fr_text.specs.Reading.{◌>>=◌, number_in}
use Rattle.fr_text.specs.Spaces.{words_of, room_of}

-- ---- words

-- a number from `least` to below `bound`
unfoldable pub number_from_in : ℕ → ℕ → List ℕ → Option ℕ
number_from_in least bound word = do
  n ← number_in bound word
  if nat_le least n then Some n else None

-- a slot that can be a static one
unfoldable pub static_slot_in : List ℕ → Option ℕ
static_slot_in word = do
  slot ← slot_in word
  if nat_le slot last_static_slot then Some slot else None

-- one of the seven repetitions of a cycle counter filter
unfoldable pub repetition_in : List ℕ → Option ℕ
repetition_in word = do
  n ← number_in 65 word
  if is_repetition n then Some n else None

-- the word has this form
abbrev pub fits : WordForm → List ℕ → Bool
fits (form.Number bound) word = is_some (number_in bound word)
fits (form.NumberFrom least bound) word = is_some (number_from_in least bound word)
fits form.Slot word = is_some (slot_in word)
fits form.StaticSlot word = is_some (static_slot_in word)
fits form.SlotOrNone word = is_some (optional_slot_in word)
fits form.Channels word = is_some (channels_in word)
fits form.Repetition word = is_some (repetition_in word)
fits form.Flag word = is_some (flag_in word)
fits form.Mode word = is_some (mode_in word)
fits form.Size word = is_some (size_in word)
fits form.Payload word = is_some (payload_in word)
fits form.Commit word = is_some (taken_back_in word)
fits form.Origin word = is_some (from_in word)
fits form.Offer word = is_some (offered_in word)
fits form.Observation word = is_some (seen_in word)

-- ---- lines

-- the first of two values, if there is one; otherwise the second
abbrev pub first_of : {A : Type 0} → Option A → Option A → Option A
first_of None second = second
first_of (Some x) second = Some x

abbrev pub five_numbers : List WordForm
five_numbers = form.Number (2 ^ 32) ∷ form.Number (2 ^ 32) ∷ form.Number (2 ^ 32) ∷ form.Number (2 ^ 32)
    ∷ form.Number (2 ^ 32) ∷ []

abbrev pub params_forms : List WordForm
params_forms = form.Number (2 ^ 32) ∷ form.Number (2 ^ 32) ∷ form.Number (2 ^ 32) ∷ form.Number (2 ^ 32)
    ∷ form.Number (2 ^ 32) ∷ five_numbers

abbrev pub node_forms : List WordForm
node_forms = form.Number 9 ∷ form.Number 8001 ∷ form.Number 8001 ∷ form.NumberFrom 1 16385
    ∷ form.NumberFrom 2 65537 ∷ []

abbrev pub own_forms : Version → List WordForm
own_forms version = if has_own_cycles version
    then form.StaticSlot ∷ form.Channels ∷ form.Flag ∷ form.Flag ∷ form.Number 64 ∷ form.Repetition ∷ []
    else form.StaticSlot ∷ form.Channels ∷ form.Flag ∷ form.Flag ∷ []

abbrev pub tx_forms : List WordForm
tx_forms = form.Mode ∷ form.Slot ∷ form.Channels ∷ form.Number 64 ∷ form.Repetition ∷ form.Size ∷ form.Flag ∷ []

abbrev pub rx_forms : List WordForm
rx_forms = form.Slot ∷ form.Channels ∷ form.Number 64 ∷ form.Repetition ∷ []

abbrev pub queue_forms : List WordForm
queue_forms = form.NumberFrom 1 257 ∷ form.Slot ∷ form.Slot ∷ form.Channels ∷ form.Number 64 ∷ form.Repetition ∷ []

abbrev pub commit_forms : List WordForm
commit_forms = form.Number 8 ∷ form.Number 64 ∷ form.Payload ∷ []

abbrev pub withdraw_forms : List WordForm
withdraw_forms = form.Number 8 ∷ form.Number 64 ∷ form.Commit ∷ []

abbrev pub read_forms : List WordForm
read_forms = form.Number 8 ∷ form.Number 64 ∷ form.Origin ∷ []

abbrev pub pop_forms : List WordForm
pop_forms = form.Number 8 ∷ form.Origin ∷ []

abbrev pub fetch_forms : List WordForm
fetch_forms = form.Number (2 ^ 32) ∷ form.Number 64 ∷ form.Number 8001 ∷ form.SlotOrNone ∷ form.SlotOrNone ∷ form.Offer
    ∷ form.Offer ∷ []

abbrev pub see_forms : List WordForm
see_forms = form.Number (2 ^ 32) ∷ form.Observation ∷ form.Observation ∷ []

-- the words after the first of a line of the plan, and of the lines before it
abbrev pub plan_forms_of : Version → List ℕ → Option (List WordForm)
plan_forms_of version kind =
    if bytes_eq kind (codes "params") then Some params_forms
    else if bytes_eq kind (codes "node") then Some node_forms
    else if bytes_eq kind (codes "own") then Some (own_forms version)
    else if bytes_eq kind (codes "tx") then Some tx_forms
    else if bytes_eq kind (codes "rx") then Some rx_forms
    else if bytes_eq kind (codes "queue") then Some queue_forms
    else if bytes_eq kind (codes "begin") then Some []
    else None

-- the words after the first of a line of the journal
abbrev pub journal_forms_of : Version → List ℕ → Option (List WordForm)
journal_forms_of version kind =
    if bytes_eq kind (codes "commit") then Some commit_forms
    else if bytes_eq kind (codes "withdraw") then (if has_withdraws version then Some withdraw_forms else None)
    else if bytes_eq kind (codes "read") then Some read_forms
    else if bytes_eq kind (codes "pop") then Some pop_forms
    else if bytes_eq kind (codes "fetch") then Some fetch_forms
    else if bytes_eq kind (codes "see") then Some see_forms
    else if bytes_eq kind (codes "end") then Some []
    else None

-- the words after the first, of a line that begins with this word in this version
abbrev pub forms_of : Version → List ℕ → Option (List WordForm)
forms_of version kind = first_of (plan_forms_of version kind) (journal_forms_of version kind)

-- ---- the word that is wrong

-- the number of the first word that has the wrong form, that is one too many, or that is missing
abbrev pub wrong_at : List WordForm → List (List ℕ) → Option ℕ
wrong_at [] [] = None
wrong_at [] (word ∷ words) = Some 0
wrong_at (f ∷ forms) [] = Some 0
wrong_at (f ∷ forms) (word ∷ words) = if fits f word then option_map (λ n. n + 1) (wrong_at forms words) else Some 0

abbrev pub wrong_after : Option (List WordForm) → List (List ℕ) → Option ℕ
wrong_after None words = Some 0
wrong_after (Some forms) words = option_map (λ n. n + 1) (wrong_at forms words)

-- the same of a whole line: its first word is wrong if no line of the version begins with it
abbrev pub wrong_in : Version → List (List ℕ) → Option ℕ
wrong_in version [] = None
wrong_in version (kind ∷ words) = wrong_after (forms_of version kind) words

-- the word of this number, and the column at which it begins or would begin; both count from 1
abbrev pub place_in : List (List ℕ) → ℕ → WordPlace
place_in words n = record { word = n + 1; column = room_of (take n words) + 1 }

-- ---- lines that a trace of the version can have

abbrev pub IsLine : Version → List (List ℕ) → Type 0
IsLine version words = IsSome (params_in words) ⊎ IsSome (node_in words) ⊎ IsSome (plan_line_in version words)
    ⊎ (words ≡ words_of begin_line) ⊎ IsSome (entry_in version words) ⊎ (words ≡ words_of end_line)

-- no such line begins with the words up to this place
abbrev pub BeginsNoLine : Version → List (List ℕ) → WordPlace → Type 0
BeginsNoLine version words place =
    (others : List (List ℕ)) → take place.word others ≡ take place.word words → IsLine version others → ⊥

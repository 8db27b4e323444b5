-- An owner's account, its babble and its mute, and fault-free slots, worked out.
use Rattle.std.proofs.Common.{◌≡◌, ℕ, Bool, true, false, cond, List, [], ◌∷◌, ◌++◌, Option, Some, None, refl}
use Rattle.std.specs.List.{list_all}
use Rattle.arrayvec.specs.ArrayVec.{ArrayVec}
use Rattle.fr_bus.specs.declared.outcome.SentFate.TheVariants.{Blocked, Muted}
use Rattle.fr_bus.specs.declared.outcome.Sent.{Sent}
use Rattle.fr_bus.specs.Outcome.{all_passed, seen_of}
use Rattle.fr_core.specs.Accounts.{Kept, commits, withdraws, turns, account, frame_by_account, turn_of, own, of_owner}
use Rattle.fr_core.specs.Accounts.{mute_of, babble_of}
use Rattle.fr_core.specs.Receivers.{is_clean}
use Rattle.fr_frame.specs.Fields.{Fields}
use Rattle.fr_journal.specs.Forms.{Entry}
use Rattle.fr_journal.specs.declared.entry.Entry.TheVariants.{Commit, Withdraw, Fetch, Observe}
use Rattle.fr_journal.specs.declared.entry.Offered.TheVariants.{Nothing, Null, Data}
use Rattle.fr_slots.specs.declared.channel.Channel.TheVariants.{A, B}
use Rattle.fr_slots.specs.declared.channel.Channels.TheVariants as channels
use Rattle.fr_slots.specs.declared.plan.Buffer.{Buffer}
use Rattle.fr_slots.specs.declared.plan.Mode.{Mode}
use Rattle.fr_slots.specs.declared.plan.Mode.TheVariants as mode
use Rattle.fr_slots.specs.History.{each_after}
use Rattle.fr_slots.specs.Parameters.{Parameters}
use Rattle.fr_slots.specs.Plans.{Plan, empty_plan}
use Rattle.fr_slots.specs.Windows.{static_window}
use Rattle.fr_status.specs.Forms.{Seen}
use Rattle.fr_status.specs.declared.seen.Seen.TheVariants.{Silence, Own as Owns, Conflict, Noise, Bytes}

abbrev one_word : Parameters
one_word = record {
  static_slots = 3;
  minislots = 4;
  static_words = 1;
  static_mt = 20;
  minislot_mt = 5;
  symbol_mt = 0;
  nit_mt = 10;
  cycle_mt = 90;
  idle = 0;
  words_per_minislot = 5;
}

-- a buffer for slot 1 on channel A in the even cycles
abbrev even_cycles : Mode → ℕ → Buffer
even_cycles m slot = record {
  mode = m;
  filter = record { slot = slot; channels = channels.A; cycles = record { base = 0; repetition = 2 } };
  words = None;
  preamble = false;
}

-- buffer 0 is for slot 1, and buffer 1 for slot 2
abbrev planned : Mode → Plan
planned m = record (empty_plan 1 0 0 8 8) {
  owned = record {
    slot = 1;
    channels = channels.A;
    sync = false;
    startup = false;
    cycles =
        record { base = 0; repetition = 1 };
  } ∷ [];
  buffers = even_cycles m 1 ∷ even_cycles m 2 ∷ [];
}

-- two commits, cycle 0, a commit, and cycle 1, in which slot 2 has a window too
abbrev journal : List Entry
journal =
    Commit 0 0 (0 ∷ 1 ∷ []) ∷ Commit 0 0 (0 ∷ 2 ∷ []) ∷ Fetch (static_window 0 0 1) (Data 1) Nothing
    ∷ Commit 0 1 (9 ∷ 9 ∷ []) ∷ Commit 0 0 (0 ∷ 3 ∷ []) ∷ Observe 0 Owns Silence
    ∷ Fetch (static_window 7 1 1) Null Nothing ∷ Observe 7 Owns Silence ∷ Fetch (static_window 8 1 2) Nothing Nothing
    ∷ []

abbrev kept : List Kept
kept = commits 0 (0 ∷ 1 ∷ []) ∷ commits 0 (0 ∷ 2 ∷ []) ∷ turns 0 ∷ commits 0 (0 ∷ 3 ∷ []) ∷ turns 1 ∷ []

-- commits on another slot's buffer, windows of another slot and observations aren't kept
pub an_account_keeps_commits_and_windows_of_its_slot : account (planned mode.Event) 1 journal ≡ kept
unfolding each_after
an_account_keeps_commits_and_windows_of_its_slot = refl

-- the payload of the data frame that the account gives in a cycle
abbrev data_sent : Fields → Option (List ℕ)
data_sent f = cond f.has_data (Some f.payload) None

abbrev sent_in_cycle : Mode → ℕ → List Kept → Option (List ℕ)
sent_in_cycle m cycle kept = data_sent (frame_by_account one_word (planned m) 1 A cycle kept)

abbrev third : Option (List ℕ)
third = Some (0 ∷ 3 ∷ [])

-- cycle 1 isn't admitted, so cycle 2 has the third commit, and cycle 4 has it only in state mode
pub an_event_commit_is_sent_in_one_admitted_cycle :
    sent_in_cycle mode.Event 1 kept ∷ sent_in_cycle mode.Event 2 kept ∷ sent_in_cycle mode.Event 4
    (kept ++ turns 2 ∷ [])
    ∷ sent_in_cycle mode.State 4 (kept ++ turns 2 ∷ []) ∷ sent_in_cycle mode.State 65 kept ∷ []
    ≡ None ∷ third ∷ None ∷ third ∷ None ∷ []
an_event_commit_is_sent_in_one_admitted_cycle = refl

-- a commit that cycle 0 sends, a withdraw that finds none pending, a withdraw on another slot's buffer, and a commit
-- that is withdrawn
abbrev journal_with_withdraws : List Entry
journal_with_withdraws =
    Commit 0 0 (0 ∷ 1 ∷ []) ∷ Fetch (static_window 0 0 1) (Data 0) Nothing ∷ Observe 0 Owns Silence
    ∷ Withdraw 0 0 None ∷ Withdraw 0 1 None ∷ Commit 0 0 (0 ∷ 2 ∷ []) ∷ Withdraw 0 0 (Some 5) ∷ []

abbrev sent_first : List Kept
sent_first = commits 0 (0 ∷ 1 ∷ []) ∷ turns 0 ∷ withdraws 0 ∷ []

abbrev then_withdrawn : List Kept
then_withdrawn = sent_first ++ commits 0 (0 ∷ 2 ∷ []) ∷ withdraws 0 ∷ []

pub an_account_keeps_withdraws_on_its_slot : account (planned mode.State) 1 journal_with_withdraws ≡ then_withdrawn
unfolding each_after
an_account_keeps_withdraws_on_its_slot = refl

-- in state mode a sent commit stays, and a withdrawn one leaves nothing, not even the commit before it
pub a_withdraw_takes_a_pending_commit_alone :
    sent_in_cycle mode.State 2 sent_first ∷ sent_in_cycle mode.Event 2 sent_first
    ∷ sent_in_cycle mode.State 2 then_withdrawn ∷ sent_in_cycle mode.Event 2 then_withdrawn ∷ []
    ≡ Some (0 ∷ 1 ∷ []) ∷ None ∷ None ∷ None ∷ []
a_withdraw_takes_a_pending_commit_alone = refl

-- a window of cycle 1, which isn't admitted, leaves the third commit pending, so a withdraw withdraws it
pub a_commit_is_pending_until_an_admitted_cycle :
    sent_in_cycle mode.State 2 (kept ++ withdraws 0 ∷ []) ∷ sent_in_cycle mode.Event 2 (kept ++ withdraws 0 ∷ [])
    ∷ sent_in_cycle mode.State 4 (kept ++ turns 2 ∷ withdraws 0 ∷ []) ∷ []
    ≡ None ∷ None ∷ third ∷ []
a_commit_is_pending_until_an_admitted_cycle = refl

-- ---- a divided slot

-- slot 1 is the node's on channel A in each cycle, in the even ones with sync frames
abbrev divided : Plan
divided = record (empty_plan 1 0 0 8 8) {
  owned = record {
    slot = 1;
    channels = channels.A;
    sync = true;
    startup = false;
    cycles =
        record { base = 0; repetition = 2 };
  }
      ∷ record {
        slot = 1;
        channels = channels.A;
        sync = false;
        startup = false;
        cycles =
            record { base = 1; repetition = 2 };
      } ∷ [];
}

abbrev is_sync_in : ℕ → Bool
is_sync_in cycle = (frame_by_account one_word divided 1 A cycle []).sync

pub a_frame_is_that_of_the_line_of_its_cycle : is_sync_in 0 ∷ is_sync_in 1 ∷ is_sync_in 64 ∷ is_sync_in 67 ∷ []
    ≡ true ∷ false ∷ true ∷ false ∷ []
a_frame_is_that_of_the_line_of_its_cycle = refl

-- ---- mutes and babbles

abbrev sample : ArrayVec ℕ
sample = record { items = 0x20 ∷ 0x01 ∷ 0x01 ∷ [] }

abbrev babbled : ArrayVec ℕ
babbled = record { items = 0x55 ∷ [] }

abbrev owner_sent : Bool → Option (ArrayVec ℕ) → List Sent
owner_sent mute babble = of_owner 0 A mute (Some sample) babble

-- the observations of node 1 and of the owner
abbrev both_see : Option ℕ → List Sent → List Seen
both_see corrupt sent =
    seen_of one_word (turn_of 1 0) corrupt 1 (all_passed A sent) ∷ seen_of one_word (turn_of 1 0) corrupt 0
    (all_passed A sent) ∷ []

pub an_owner_that_babbles_beside_its_offer_makes_noise : both_see None (owner_sent false (Some babbled))
    ≡ Noise ∷ Conflict ∷ []
an_owner_that_babbles_beside_its_offer_makes_noise = refl

pub a_muted_owner_that_babbles_is_seen_to_babble : both_see None (owner_sent true (Some babbled))
    ≡ Bytes babbled ∷ Owns ∷ []
a_muted_owner_that_babbles_is_seen_to_babble = refl

pub a_muted_owner_is_silent : both_see None (owner_sent true None) ≡ Silence ∷ Silence ∷ []
a_muted_owner_is_silent = refl

-- bit 1 of the offer is flipped, and a bit after its end has no effect
pub a_corrupt_bit_is_turned_in_the_offer_alone :
    both_see (Some 1) (owner_sent false None) ++ both_see (Some 24) (owner_sent false None)
    ≡ Bytes (record { items = 0x60 ∷ 0x01 ∷ 0x01 ∷ [] }) ∷ Owns ∷ Bytes sample ∷ Owns ∷ []
a_corrupt_bit_is_turned_in_the_offer_alone = refl

-- the record has both
pub a_record_tells_mute_and_babble :
    (mute_of (owner_sent true (Some babbled)) ≡ true) × (babble_of (owner_sent true (Some babbled)) ≡ Some babbled)
    × (mute_of (owner_sent false None) ≡ false) × (babble_of (owner_sent false None) ≡ None)
a_record_tells_mute_and_babble = (refl, refl, refl, refl)

-- ---- fault-free slots

-- node 1 babbles too, and is blocked, and the owner is muted on channel B
abbrev beside : List Sent
beside =
    owner_sent false None ++ record { node = 0; channel = B; babble = false; bytes = sample; fate = Muted }
    ∷ record { node = 1; channel = A; babble = true; bytes = babbled; fate = Blocked } ∷ []

pub faults_of_others_leave_a_slot_faultless : (list_all (is_clean A 0) beside ≡ true) ×
    (own A 0 beside ≡ owner_sent false None)
faults_of_others_leave_a_slot_faultless = (refl, refl)

pub a_fault_of_the_owner_does_not :
    (list_all (is_clean A 0) (owner_sent true None) ≡ false) ×
    (list_all (is_clean A 0) (owner_sent false (Some babbled)) ≡ false)
    × (list_all (is_clean B 0) beside ≡ false)
a_fault_of_the_owner_does_not = (refl, refl, refl)

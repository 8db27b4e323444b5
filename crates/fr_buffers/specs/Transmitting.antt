-- The view of a transmit buffer, and its state after each call.
use Rattle.std.specs.Prelude.{ℕ, ◌+◌, ◌==◌, List, Option, Some, None, if◌then◌else◌, option_map}
use Rattle.fr_buffers.specs.declared.transmit.HeldCommit.{HeldCommit}
use Rattle.fr_journal.specs.declared.fate.Tally.{Tally}
use Rattle.fr_slots.specs.declared.plan.Mode.{Mode}
use Rattle.fr_slots.specs.declared.plan.Mode.TheVariants.{Event, State, Receive}

-- the mode, the held commit, and the tally of all commits
pub record Transmitter : Type 0 where
  pub mode : Mode
  pub last : Option HeldCommit
  pub tally : Tally

abbrev pub no_commits : Tally
no_commits = record { committed = 0; sent = 0; overwritten = 0; pending = 0; withdrawn = 0 }

abbrev pub new_transmitter : Mode → Transmitter
new_transmitter mode =
    record { mode = mode; last = None; tally = no_commits }

-- one more commit; a pending one is overwritten
abbrev pub with_commit : Transmitter → HeldCommit → Transmitter
with_commit b c = record {
  mode = b.mode;
  last = Some c;
  tally = record {
    committed = b.tally.committed + 1;
    sent = b.tally.sent;
    overwritten = b.tally.overwritten
        + b.tally.pending;
    pending = 1;
    withdrawn = b.tally.withdrawn;
  };
}

-- the entry of the held commit, and its payload
abbrev pub entry_of : Transmitter → Option ℕ
entry_of b = option_map (λ c. c.entry) b.last

abbrev pub payload_of : Transmitter → Option (List ℕ)
payload_of b = option_map (λ c. c.payload) b.last

abbrev pub offer_by : Mode → ℕ → Option ℕ → Option ℕ
offer_by Event pending last = if pending == 1 then last else None
offer_by State pending last = last
offer_by Receive pending last = None

-- the offered commit, as the number of its entry
abbrev pub offer_of : Transmitter → Option ℕ
offer_of b = offer_by b.mode b.tally.pending (entry_of b)

-- the offered commit was sent
abbrev pub after_send : Transmitter → Transmitter
after_send b = record {
  mode = b.mode;
  last = b.last;
  tally = record {
    committed = b.tally.committed;
    sent = b.tally.sent + b.tally.pending;
    overwritten = b.tally.overwritten;
    pending = 0;
    withdrawn = b.tally.withdrawn;
  };
}

-- the commit that a withdraw removes, as the number of its entry: the held one, if it is pending
abbrev pub pending_of : Transmitter → Option ℕ
pending_of b = if b.tally.pending == 1 then entry_of b else None

abbrev pub emptied : Transmitter → Transmitter
emptied b = record {
  mode = b.mode;
  last = None;
  tally = record {
    committed = b.tally.committed;
    sent = b.tally.sent;
    overwritten = b.tally.overwritten;
    pending = 0;
    withdrawn = b.tally.withdrawn + 1;
  };
}

-- a pending commit was withdrawn, and no earlier one comes back
abbrev pub after_withdraw : Transmitter → Transmitter
after_withdraw b = if b.tally.pending == 1 then emptied b else b

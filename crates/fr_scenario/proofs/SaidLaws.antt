-- In a cluster without names, each line of version 3 says a value in range.
use Rattle.std.proofs.Common.{◌≡◌, ℕ, ◌<◌, ◌≤◌, ◌≢◌, ◌==◌, ◌⊎◌, Bool, inl, inr, true, false, List, [], ◌∷◌, codes}
use Rattle.std.proofs.Common.{Option, Some, None, refl, sym, ap, subst, arith, if◌then◌else◌}
use Rattle.std.proofs.lemmas.Bool.{eqb-false, leb-true}
use Rattle.std.specs.Prelude.{nat_le}
use Rattle.std.specs.Str.{bytes_eq}
use Rattle.fr_bus.specs.declared.fault.Fault.{Fault}
use Rattle.fr_bus.specs.declared.fault.Fault.TheVariants.{Babble, Mute, Corrupt}
use Rattle.fr_interface.specs.declared.call.Call.{Call}
use Rattle.fr_interface.specs.declared.call.Call.TheVariants.{Commit, Withdraw, Read, Pop}
use Rattle.fr_lines.proofs.PlanPartLemmas.{payload_takes}
use Rattle.fr_lines.specs.PartReading.{channels_in, payload_in}
use Rattle.fr_runs.specs.declared.cycles.RunCycles.{RunCycles}
use Rattle.fr_runs.specs.declared.cycles.RunCycles.TheVariants.{Every, Only, Span}
use Rattle.fr_runs.specs.declared.fault_line.FaultPlace.{FaultPlace}
use Rattle.fr_runs.specs.declared.fault_line.FaultPlace.TheVariants.{EveryWindow, EverySlot, Slot, Slots}
use Rattle.fr_runs.specs.declared.fault_line.FaultPlace.TheVariants.{EveryMinislot, Minislot, Dynamic}
use Rattle.fr_scenario.proofs.PartLemmas.{place_takes, run_cycle_takes}
use Rattle.fr_scenario.specs.BlankWords.{blank_words}
use Rattle.fr_scenario.specs.declared.statement.Statement.{Statement}
use Rattle.fr_scenario.specs.declared.statement.Statement.TheVariants as statement
use Rattle.fr_scenario.specs.declared.version.Version.TheVariants.{Two}
use Rattle.fr_scenario.specs.PartReading.{counted_in, place_in, minislot_in, run_cycle_in}
use Rattle.fr_scenario.specs.Parts.{star}
use Rattle.fr_scenario.specs.Spelled.{AreSaidCycles, IsCounted, IsRunCycle, IsSaidPlace, IsSpelledCall, IsSpelledFault}
use Rattle.fr_scenario.specs.StatementParts.{parted, dash, slash, step_said, span_of, with_step, without_step}
use Rattle.fr_scenario.specs.StatementParts.{rest_of_span, one_cycle, span_said, cycles_by_dash, cycles_said}
use Rattle.fr_scenario.specs.StatementParts.{slots_from, one_slot, some_slots, slots_by_dash, slots_said}
use Rattle.fr_scenario.specs.StatementParts.{minislots_said, dynamic_said, marked_place, place_said}
use Rattle.fr_scenario.specs.StatementParts.{or_named, node_said, buffer_said}
use Rattle.fr_scenario.specs.Statements.{commit_said, withdraw_said, read_said, pop_said, call_said, calls_said}
use Rattle.fr_scenario.specs.Statements.{fault_at, faults_on, babble_said, mute_said, corrupt_said, lost_said}
use Rattle.fr_scenario.specs.Statements.{expect_said, expect_none_said, other_said, statement_said, statement_in}
use Rattle.fr_scenario.specs.StatementText.{on_channel, IsSaid}
use Rattle.fr_slots.specs.declared.channel.Channel.{Channel}
use Rattle.fr_slots.specs.declared.channel.Channel.TheVariants.{A, B}
use Rattle.fr_slots.specs.declared.channel.Channels.{Channels}
use Rattle.fr_slots.specs.declared.channel.Channels.TheVariants as channels
use Rattle.fr_text.proofs.BindLemmas.{bind_some}
use Rattle.fr_text.proofs.HexTextLemmas.{bytes_takes}
use Rattle.fr_text.proofs.NumberLemmas.{number_takes}
use Rattle.fr_text.specs.Reading.{number_in, bytes_in}

-- ---- tests

-- the test passes and gives the first result, or fails and gives the other
test_takes : {X : Type 0} (test : Bool) (o other : Option X) (y : X) → (if test then o else other) ≡ Some y
    → ((test ≡ true) × (o ≡ Some y)) ⊎ ((test ≡ false) × (other ≡ Some y))
test_takes true o other y h = inl (refl, h)
test_takes false o other y h = inr (refl, h)

-- ---- nodes and buffers

number_alone : (o : Option ℕ) (n : ℕ) → or_named o None ≡ Some n → o ≡ Some n
number_alone None n h = cc h
number_alone (Some m) n h = h

node_fits : (word : List ℕ) (n : ℕ) → node_said [] word ≡ Some n → n < 16
unfolding node_said
node_fits word n h = (number_takes 16 word n (number_alone (number_in 16 word) n h)).1

buffer_fits : (node : ℕ) (word : List ℕ) (b : ℕ) → buffer_said [] node word ≡ Some b → b < 64
unfolding buffer_said
buffer_fits node word b h = (number_takes 64 word b (number_alone (number_in 64 word) b h)).1

-- ---- cycles

step_fits : (word : List ℕ) (n : ℕ) → step_said word ≡ Some n → (1 ≤ n) × (n < 1024)
unfolding step_said
step_fits word n h =
    let (m, hm, h1) = bind_some (number_in 1024 word) _ n h in
    let below = (number_takes 1024 word m hm).1 in
    elim (test_takes (m == 0) None (Some m) n h1) [
      | inl none ↦ cc none.1
      | inr some ↦
          let is : m ≡ n = cc some.1 in
          let other : m ≢ 0 = eqb-false m 0 some.0 in
          rw (← is) (omega arith, below)
    ]

span_fits : (first last step : ℕ) (c : RunCycles) → span_of first last step ≡ Some c → IsRunCycle last → 1 ≤ step
    → step < 1024 → AreSaidCycles c
span_fits first last step c h within some few =
    elim (test_takes (nat_le first last) (Some (Span first last step)) None c h) [
      | inl pass ↦
          let is : Span first last step ≡ c = cc pass.1 in
          subst AreSaidCycles is (leb-true first last pass.0, within, some, few)
      | inr fail ↦ cc fail.1
    ]

with_step_fits : (first : ℕ) (last step : List ℕ) (c : RunCycles) → with_step first last step ≡ Some c
    → AreSaidCycles c
unfolding with_step
with_step_fits first last step c h =
    let (l, hl, h1) = bind_some (run_cycle_in last) _ c h in
    let (s, hs, h2) = bind_some (step_said step) _ c h1 in
    let step_is = step_fits step s hs in
    span_fits first l s c h2 (run_cycle_takes last l hl).1 step_is.0 step_is.1

without_step_fits : (first : ℕ) (last : List ℕ) (c : RunCycles) → without_step first last ≡ Some c → AreSaidCycles c
unfolding without_step
without_step_fits first last c h =
    let (l, hl, h1) = bind_some (run_cycle_in last) _ c h in
    span_fits first l 1 c h1 (run_cycle_takes last l hl).1 (omega arith) (omega arith)

rest_fits : (first : ℕ) (rest : List ℕ) (parts : Option (List ℕ × List ℕ)) (c : RunCycles)
    → rest_of_span first rest parts ≡ Some c → AreSaidCycles c
rest_fits first rest None c h = without_step_fits first rest c h
rest_fits first rest (Some (last, step)) c h = with_step_fits first last step c h

by_dash_fits : (word : List ℕ) (parts : Option (List ℕ × List ℕ)) (c : RunCycles) → cycles_by_dash word parts ≡ Some c
    → AreSaidCycles c
unfolding one_cycle span_said
by_dash_fits word None c h =
    let (n, hn, h1) = bind_some (run_cycle_in word) _ c h in
    let is : Only n ≡ c = cc h1 in
    subst AreSaidCycles is (run_cycle_takes word n hn).1
by_dash_fits word (Some (first, rest)) c h =
    let (f, hf, h1) = bind_some (run_cycle_in first) _ c h in
    rest_fits f rest (parted slash rest) c h1

cycles_fit : (word : List ℕ) (c : RunCycles) → cycles_said word ≡ Some c → AreSaidCycles c
unfolding cycles_said
cycles_fit word c h =
    elim (test_takes (bytes_eq word star) (Some Every) _ c h) [
      | inl same ↦ let is : Every ≡ c = cc same.1 in subst AreSaidCycles is tt
      | inr other ↦ by_dash_fits word (parted dash word) c other.1
    ]

-- ---- places

-- the place of a minislot is counted too
counted_fits : (word : List ℕ) (n : ℕ) → counted_in word ≡ Some n → IsCounted n
unfolding place_in minislot_in
counted_fits word n h = (place_takes (109 ∷ word) (Minislot n) (rw h refl)).1

slots_between : (first last : ℕ) (p : FaultPlace) → slots_from first last ≡ Some p → IsCounted first → IsCounted last
    → IsSaidPlace p
slots_between first last p h first_is last_is =
    elim (test_takes (nat_le first last) (Some (Slots first last)) None p h) [
      | inl pass ↦
          let is : Slots first last ≡ p = cc pass.1 in
          subst IsSaidPlace is (leb-true first last pass.0, first_is, last_is)
      | inr fail ↦ cc fail.1
    ]

slots_by_dash_fit : (word : List ℕ) (parts : Option (List ℕ × List ℕ)) (p : FaultPlace)
    → slots_by_dash word parts ≡ Some p → IsSaidPlace p
unfolding one_slot some_slots
slots_by_dash_fit word None p h =
    let (n, hn, h1) = bind_some (counted_in word) _ p h in
    let is : Slot n ≡ p = cc h1 in
    subst IsSaidPlace is (counted_fits word n hn)
slots_by_dash_fit word (Some (first, last)) p h =
    let (f, hf, h1) = bind_some (counted_in first) _ p h in
    let (l, hl, h2) = bind_some (counted_in last) _ p h1 in
    slots_between f l p h2 (counted_fits first f hf) (counted_fits last l hl)

slots_fit : (word : List ℕ) (p : FaultPlace) → slots_said word ≡ Some p → IsSaidPlace p
unfolding slots_said
slots_fit word p h =
    elim (test_takes (bytes_eq word star) (Some EverySlot) _ p h) [
      | inl same ↦ let is : EverySlot ≡ p = cc same.1 in subst IsSaidPlace is tt
      | inr other ↦ slots_by_dash_fit word (parted dash word) p other.1
    ]

minislots_fit : (word : List ℕ) (p : FaultPlace) → minislots_said word ≡ Some p → IsSaidPlace p
unfolding minislots_said
minislots_fit word p h =
    elim (test_takes (bytes_eq word star) (Some EveryMinislot) _ p h) [
      | inl same ↦ let is : EveryMinislot ≡ p = cc same.1 in subst IsSaidPlace is tt
      | inr other ↦
          let (n, hn, h1) = bind_some (counted_in word) _ p other.1 in
          let is : Minislot n ≡ p = cc h1 in
          subst IsSaidPlace is (counted_fits word n hn)
    ]

dynamic_fits : (word : List ℕ) (p : FaultPlace) → dynamic_said word ≡ Some p → IsSaidPlace p
unfolding dynamic_said
dynamic_fits word p h =
    let (n, hn, h1) = bind_some (counted_in word) _ p h in
    let is : Dynamic n ≡ p = cc h1 in
    subst IsSaidPlace is (counted_fits word n hn)

marked_fits : (word : List ℕ) (p : FaultPlace) → marked_place word ≡ Some p → IsSaidPlace p
unfolding marked_place
marked_fits [] p h = cc h
marked_fits (mark ∷ number) p h =
    elim (test_takes (mark == 115) (slots_said number) _ p h) [
      | inl slots ↦ slots_fit number p slots.1
      | inr h1 ↦
          elim (test_takes (mark == 109) (minislots_said number) _ p h1.1) [
            | inl minislots ↦ minislots_fit number p minislots.1
            | inr h2 ↦
                elim (test_takes (mark == 100) (dynamic_said number) _ p h2.1) [
                  | inl dynamic ↦ dynamic_fits number p dynamic.1
                  | inr none ↦ cc none.1
                ]
          ]
    ]

place_fits : (word : List ℕ) (p : FaultPlace) → place_said word ≡ Some p → IsSaidPlace p
unfolding place_said
place_fits word p h =
    elim (test_takes (bytes_eq word star) (Some EveryWindow) _ p h) [
      | inl same ↦ let is : EveryWindow ≡ p = cc same.1 in subst IsSaidPlace is tt
      | inr other ↦ marked_fits word p other.1
    ]

-- ---- the calls of tasks

commit_fits : (node : ℕ) (words : List (List ℕ)) (call : Call) → commit_said [] node words ≡ Some call
    → IsSpelledCall Two call
unfolding commit_said
commit_fits node [] call h = cc h
commit_fits node (a ∷ []) call h = cc h
commit_fits node (a ∷ b ∷ []) call h =
    let (m, hm, h1) = bind_some (buffer_said [] node a) _ call h in
    let (p, hp, h2) = bind_some (payload_in b) _ call h1 in
    let is : Commit m p ≡ call = cc h2 in
    let payload = payload_takes b p hp in
    subst (IsSpelledCall Two) is (buffer_fits node a m hm, payload.1, payload.2)
commit_fits node (a ∷ b ∷ c ∷ words) call h = cc h

withdraw_fits : (node : ℕ) (words : List (List ℕ)) (call : Call) → withdraw_said [] node words ≡ Some call
    → IsSpelledCall Two call
unfolding withdraw_said
withdraw_fits node [] call h = cc h
withdraw_fits node (a ∷ []) call h =
    let (m, hm, h1) = bind_some (buffer_said [] node a) _ call h in
    let is : Withdraw m ≡ call = cc h1 in
    subst (IsSpelledCall Two) is (buffer_fits node a m hm)
withdraw_fits node (a ∷ b ∷ words) call h = cc h

read_fits : (node : ℕ) (words : List (List ℕ)) (call : Call) → read_said [] node words ≡ Some call
    → IsSpelledCall Two call
unfolding read_said
read_fits node [] call h = cc h
read_fits node (a ∷ []) call h =
    let (m, hm, h1) = bind_some (buffer_said [] node a) _ call h in
    let is : Read m ≡ call = cc h1 in
    subst (IsSpelledCall Two) is (buffer_fits node a m hm)
read_fits node (a ∷ b ∷ words) call h = cc h

pop_fits : (words : List (List ℕ)) (call : Call) → pop_said words ≡ Some call → IsSpelledCall Two call
unfolding pop_said
pop_fits [] call h = let is : Pop ≡ call = cc h in subst (IsSpelledCall Two) is tt
pop_fits (a ∷ words) call h = cc h

call_fits : (kind : List ℕ) (node : ℕ) (words : List (List ℕ)) (call : Call)
    → call_said [] kind node words ≡ Some call → IsSpelledCall Two call
unfolding call_said
call_fits kind node words call h =
    elim (test_takes (bytes_eq kind (codes "commit")) (commit_said [] node words) _ call h) [
      | inl commit ↦ commit_fits node words call commit.1
      | inr h1 ↦
          elim (test_takes (bytes_eq kind (codes "withdraw")) (withdraw_said [] node words) _ call h1.1) [
            | inl withdraw ↦ withdraw_fits node words call withdraw.1
            | inr h2 ↦
                elim (test_takes (bytes_eq kind (codes "read")) (read_said [] node words) _ call h2.1) [
                  | inl read ↦ read_fits node words call read.1
                  | inr h3 ↦
                      elim (test_takes (bytes_eq kind (codes "pop")) (pop_said words) None call h3.1) [
                        | inl pop ↦ pop_fits words call pop.1
                        | inr none ↦ cc none.1
                      ]
                ]
          ]
    ]

calls_fit : (kind : List ℕ) (words : List (List ℕ)) (s : Statement) → calls_said [] kind words ≡ Some s → IsSaid s
unfolding calls_said
calls_fit kind [] s h = cc h
calls_fit kind (a ∷ []) s h = cc h
calls_fit kind (a ∷ b ∷ []) s h = cc h
calls_fit kind (a ∷ b ∷ c ∷ words) s h =
    let (n, hn, h1) = bind_some (node_said [] a) _ s h in
    let (t, ht, h2) = bind_some (number_in 8 b) _ s h1 in
    let (y, hy, h3) = bind_some (cycles_said c) _ s h2 in
    let (call, hc, h4) = bind_some (call_said [] kind n words) _ s h3 in
    let is : statement.Calls n t y call ≡ s = cc h4 in
    subst IsSaid is (record {
      node_fits = node_fits a n hn;
      task_fits = (number_takes 8 b t ht).1;
      cycles_fit = cycles_fit c y hy;
      call_fits = call_fits kind n words call hc;
    })

-- ---- faults

on_channel_fits : (c : Channel) (fault : Fault) → IsSpelledFault fault → IsSpelledFault (on_channel c fault)
on_channel_fits c (Babble node channel bytes) fits = fits
on_channel_fits c (Mute node channel) fits = fits
on_channel_fits c (Corrupt channel bit) fits = fits

-- the last change of channel counts
on_channel_twice : (c d : Channel) (fault : Fault) → on_channel c (on_channel d fault) ≡ on_channel c fault
on_channel_twice c d (Babble node channel bytes) = refl
on_channel_twice c d (Mute node channel) = refl
on_channel_twice c d (Corrupt channel bit) = refl

faults_fit : (c : Channels) (fault : Fault) (y : RunCycles) (p : FaultPlace) → IsSpelledFault fault → AreSaidCycles y
    → IsSaidPlace p → IsSaid (faults_on c (on_channel A fault) (on_channel B fault) y p)
faults_fit channels.A fault y p fits cycles place =
    record { fault_fits = on_channel_fits A fault fits; cycles_fit = cycles; place_fits = place }
faults_fit channels.B fault y p fits cycles place =
    record { fault_fits = on_channel_fits B fault fits; cycles_fit = cycles; place_fits = place }
faults_fit channels.Both fault y p fits cycles place =
    record {
      first = record { fault_fits = on_channel_fits A fault fits; cycles_fit = cycles; place_fits = place };
      on_a = sym (on_channel_twice A A fault);
      on_b = ap (λ (f : Fault). fault_at f y p) (sym (on_channel_twice B A fault));
    }

babble_fits : (words : List (List ℕ)) (s : Statement) → babble_said [] words ≡ Some s → IsSaid s
unfolding babble_said
babble_fits [] s h = cc h
babble_fits (a ∷ []) s h = cc h
babble_fits (a ∷ b ∷ []) s h = cc h
babble_fits (a ∷ b ∷ c ∷ []) s h = cc h
babble_fits (a ∷ b ∷ c ∷ d ∷ []) s h = cc h
babble_fits (a ∷ b ∷ c ∷ d ∷ e ∷ []) s h =
    let (n, hn, h1) = bind_some (node_said [] a) _ s h in
    let (c1, hc, h2) = bind_some (channels_in b) _ s h1 in
    let (y, hy, h3) = bind_some (cycles_said c) _ s h2 in
    let (p, hp, h4) = bind_some (place_said d) _ s h3 in
    let (bs, hb, h5) = bind_some (bytes_in 262 e) _ s h4 in
    let fault : Channel → Fault = λ channel. Babble n channel (record { items = bs }) in
    let is : faults_on c1 (fault A) (fault B) y p ≡ s = cc h5 in
    let bytes = bytes_takes 262 e bs hb in
    subst IsSaid is
    (faults_fit c1 (fault A) y p (node_fits a n hn, bytes.1, bytes.2) (cycles_fit c y hy) (place_fits d p hp))
babble_fits (a ∷ b ∷ c ∷ d ∷ e ∷ f ∷ words) s h = cc h

mute_fits : (words : List (List ℕ)) (s : Statement) → mute_said [] words ≡ Some s → IsSaid s
unfolding mute_said
mute_fits [] s h = cc h
mute_fits (a ∷ []) s h = cc h
mute_fits (a ∷ b ∷ []) s h = cc h
mute_fits (a ∷ b ∷ c ∷ []) s h = cc h
mute_fits (a ∷ b ∷ c ∷ d ∷ []) s h =
    let (n, hn, h1) = bind_some (node_said [] a) _ s h in
    let (c1, hc, h2) = bind_some (channels_in b) _ s h1 in
    let (y, hy, h3) = bind_some (cycles_said c) _ s h2 in
    let (p, hp, h4) = bind_some (place_said d) _ s h3 in
    let is : faults_on c1 (Mute n A) (Mute n B) y p ≡ s = cc h4 in
    subst IsSaid is (faults_fit c1 (Mute n A) y p (node_fits a n hn) (cycles_fit c y hy) (place_fits d p hp))
mute_fits (a ∷ b ∷ c ∷ d ∷ e ∷ words) s h = cc h

corrupt_fits : (words : List (List ℕ)) (s : Statement) → corrupt_said words ≡ Some s → IsSaid s
unfolding corrupt_said
corrupt_fits [] s h = cc h
corrupt_fits (a ∷ []) s h = cc h
corrupt_fits (a ∷ b ∷ []) s h = cc h
corrupt_fits (a ∷ b ∷ c ∷ []) s h = cc h
corrupt_fits (a ∷ b ∷ c ∷ d ∷ []) s h =
    let (c1, hc, h1) = bind_some (channels_in a) _ s h in
    let (y, hy, h2) = bind_some (cycles_said b) _ s h1 in
    let (p, hp, h3) = bind_some (place_said c) _ s h2 in
    let (n, hn, h4) = bind_some (number_in 65536 d) _ s h3 in
    let is : faults_on c1 (Corrupt A n) (Corrupt B n) y p ≡ s = cc h4 in
    let bit = (number_takes 65536 d n hn).1 in
    subst IsSaid is (faults_fit c1 (Corrupt A n) y p bit (cycles_fit b y hy) (place_fits c p hp))
corrupt_fits (a ∷ b ∷ c ∷ d ∷ e ∷ words) s h = cc h

lost_fits : (words : List (List ℕ)) (s : Statement) → lost_said [] words ≡ Some s → IsSaid s
unfolding lost_said
lost_fits [] s h = cc h
lost_fits (a ∷ []) s h = cc h
lost_fits (a ∷ b ∷ []) s h =
    let (n, hn, h1) = bind_some (node_said [] a) _ s h in
    let (y, hy, h2) = bind_some (cycles_said b) _ s h1 in
    let is : faults_on channels.Both (Mute n A) (Mute n B) y EveryWindow ≡ s = cc h2 in
    subst IsSaid is (faults_fit channels.Both (Mute n A) y EveryWindow (node_fits a n hn) (cycles_fit b y hy) tt)
lost_fits (a ∷ b ∷ c ∷ words) s h = cc h

-- ---- what a receive buffer must hold

expect_fits : (words : List (List ℕ)) (s : Statement) → expect_said [] words ≡ Some s → IsSaid s
unfolding expect_said
expect_fits [] s h = cc h
expect_fits (a ∷ []) s h = cc h
expect_fits (a ∷ b ∷ []) s h = cc h
expect_fits (a ∷ b ∷ c ∷ []) s h = cc h
expect_fits (a ∷ b ∷ c ∷ d ∷ []) s h =
    let (n, hn, h1) = bind_some (node_said [] a) _ s h in
    let (y, hy, h2) = bind_some (cycles_said b) _ s h1 in
    let (m, hm, h3) = bind_some (buffer_said [] n c) _ s h2 in
    let (p, hp, h4) = bind_some (payload_in d) _ s h3 in
    let is : statement.Expected n y m (Some p) ≡ s = cc h4 in
    let payload = payload_takes d p hp in
    subst IsSaid is (record {
      node_fits = node_fits a n hn;
      cycles_fit = cycles_fit b y hy;
      buffer_fits = buffer_fits n c m hm;
      payload_fits = (payload.1, payload.2);
    })
expect_fits (a ∷ b ∷ c ∷ d ∷ e ∷ words) s h = cc h

expect_none_fits : (words : List (List ℕ)) (s : Statement) → expect_none_said [] words ≡ Some s → IsSaid s
unfolding expect_none_said
expect_none_fits [] s h = cc h
expect_none_fits (a ∷ []) s h = cc h
expect_none_fits (a ∷ b ∷ []) s h = cc h
expect_none_fits (a ∷ b ∷ c ∷ []) s h =
    let (n, hn, h1) = bind_some (node_said [] a) _ s h in
    let (y, hy, h2) = bind_some (cycles_said b) _ s h1 in
    let (m, hm, h3) = bind_some (buffer_said [] n c) _ s h2 in
    let is : statement.Expected n y m None ≡ s = cc h3 in
    subst IsSaid is (record {
      node_fits = node_fits a n hn;
      cycles_fit = cycles_fit b y hy;
      buffer_fits = buffer_fits n c m hm;
      payload_fits = tt;
    })
expect_none_fits (a ∷ b ∷ c ∷ d ∷ words) s h = cc h

-- ---- a line

other_fits : (kind : List ℕ) (words : List (List ℕ)) (s : Statement) → other_said [] kind words ≡ Some s → IsSaid s
unfolding other_said
other_fits kind words s h =
    elim (test_takes (bytes_eq kind (codes "expect")) (expect_said [] words) _ s h) [
      | inl expect ↦ expect_fits words s expect.1
      | inr h1 ↦
          elim (test_takes (bytes_eq kind (codes "expect-none")) (expect_none_said [] words) _ s h1.1) [
            | inl none ↦ expect_none_fits words s none.1
            | inr calls ↦ calls_fit kind words s calls.1
          ]
    ]

words_fit : (words : List (List ℕ)) (s : Statement) → statement_said [] words ≡ Some s → IsSaid s
unfolding statement_said
words_fit [] s h = let is : statement.Nothing ≡ s = cc h in subst IsSaid is tt
words_fit (kind ∷ words) s h =
    elim (test_takes (bytes_eq kind (codes "babble")) (babble_said [] words) _ s h) [
      | inl babble ↦ babble_fits words s babble.1
      | inr h1 ↦
          elim (test_takes (bytes_eq kind (codes "mute")) (mute_said [] words) _ s h1.1) [
            | inl mute ↦ mute_fits words s mute.1
            | inr h2 ↦
                elim (test_takes (bytes_eq kind (codes "corrupt")) (corrupt_said words) _ s h2.1) [
                  | inl corrupt ↦ corrupt_fits words s corrupt.1
                  | inr h3 ↦
                      elim (test_takes (bytes_eq kind (codes "lost")) (lost_said [] words) _ s h3.1) [
                        | inl lost ↦ lost_fits words s lost.1
                        | inr other ↦ other_fits kind words s other.1
                      ]
                ]
          ]
    ]

-- What a line of version 3 says in a cluster without names is in range.
pub statement_takes : (line : List ℕ) (s : Statement) → statement_in [] line ≡ Some s → IsSaid s
statement_takes line s h = words_fit (blank_words line) s h

-- In every world a buffer is served in each cycle in which the table of latencies calls it guaranteed.
use Rattle.std.proofs.Common.{◌≡◌, ℕ, ◌≤◌, Bool, true, false, not, cond, ◌&&◌, ◌||◌, [], ◌∷◌, ◌++◌, Some, refl, sym, ap}
use Rattle.std.proofs.Common.{subst, ◌∙◌, slice_get}
use Rattle.std.specs.Prelude.{◌==◌, nat_le}
use Rattle.std.specs.List.{list_all}
use Rattle.std.proofs.lemmas.Bool.{eqb-true, leb-true, not-true}
use Rattle.fr_core.proofs.CaseLemmas.{both, both_first, both_rest}
use Rattle.fr_core.proofs.FollowLemmas.{world_configured, legal_at}
use Rattle.fr_core.specs.Headline.{Headline}
use Rattle.fr_core.specs.Worlds.{WorldState}
use Rattle.fr_guarantees.proofs.GuaranteeLemmas.{has_fetch, guarantees}
use Rattle.fr_guarantees.proofs.TableLaws.{opens_by}
use Rattle.fr_guarantees.specs.Guarantees.{IsTurn, OpensBy, TableHolds}
use Rattle.fr_interface.specs.State.{State}
use Rattle.fr_journal.specs.declared.entry.Entry.TheVariants.{Fetch}
use Rattle.fr_journal.specs.Fate.{tally_of}
use Rattle.fr_latency.specs.Latencies.{channel_of, is_always_in_time, is_guaranteed, last_begin_of, latest_for}
use Rattle.fr_latency.specs.Openings.{last_begin, slots_before}
use Rattle.fr_slots.proofs.FaultlessLemmas.{faultless}
use Rattle.fr_slots.specs.Admission.{includes, cycle_admitted}
use Rattle.fr_slots.specs.declared.channel.Channel.{Channel}
use Rattle.fr_slots.specs.declared.channel.Channel.TheVariants.{A, B}
use Rattle.fr_slots.specs.declared.channel.Channels.{Channels}
use Rattle.fr_slots.specs.declared.channel.Channels.TheVariants as lines
use Rattle.fr_slots.specs.Faults.{channels, latest_on, transmits}
use Rattle.fr_slots.specs.Parameters.{Parameters, is_static_slot}
use Rattle.fr_slots.specs.Windows.{Opportunity, dynamic_slot_fits, slot_of, static_slot_fits, is_static, window_fits}

-- the channel of a buffer that is for one
only_channel : (cs : Channels) (channel : Channel) → includes cs channel ≡ true → list_all (includes cs) channels
    ≡ false
    → channel_of cs ≡ channel
only_channel lines.A A e one = refl
only_channel lines.A B e one = absurd (let none : ⊥ = cc in none)
only_channel lines.B A e one = absurd (let none : ⊥ = cc in none)
only_channel lines.B B e one = refl
only_channel lines.Both channel e one = absurd (let none : ⊥ = cc in none)

-- a dynamic window has no static slot
pub not_static : (p : Parameters) (w : Opportunity) (channel : Channel) (slot : ℕ) → window_fits p w ≡ true
    → is_static w ≡ false → slot_of w channel ≡ Some slot → is_static_slot p slot ≡ false
not_static p w channel slot fits dynamic is = by channel is
  where
    rest : (nat_le w.minislot p.minislots && dynamic_slot_fits p w.a && dynamic_slot_fits p w.b) ≡ true
    rest = ap (λ (b : Bool). cond b (static_slot_fits p w.a && static_slot_fits p w.b)
        (nat_le w.minislot p.minislots && dynamic_slot_fits p w.a && dynamic_slot_fits p w.b)) (sym dynamic) ∙ fits

    by : (c : Channel) → slot_of w c ≡ Some slot → is_static_slot p slot ≡ false
    by A e = not-true (is_static_slot p slot) (ap (dynamic_slot_fits p) (sym e)
        ∙ both_rest (nat_le w.minislot p.minislots) (dynamic_slot_fits p w.a)
        (both_first (nat_le w.minislot p.minislots && dynamic_slot_fits p w.a) (dynamic_slot_fits p w.b) rest))
    by B e = not-true (is_static_slot p slot) (ap (dynamic_slot_fits p) (sym e)
        ∙ both_rest (nat_le w.minislot p.minislots && dynamic_slot_fits p w.a) (dynamic_slot_fits p w.b) rest)

module _ (w : WorldState) (head : Headline w) where
  -- a dynamic turn of a guaranteed cycle opens by the latest minislot
  turn_opens : (n number slot : ℕ) (s : State) (window : Opportunity) (channel : Channel)
      → slice_get w.interfaces n ≡ Some s → (turn : IsTurn s number window channel slot)
      → is_static_slot w.bus.cluster.params slot ≡ false
      → is_guaranteed w.bus.cluster s.plan turn.buffer window.cycle ≡ true
      → OpensBy w.bus.cluster window.cycle channel slot (latest_on s.plan channel)
  turn_opens n number slot s window channel here turn dynamic guaranteed =
      let d = w.bus.cluster in
      let b = turn.buffer in
      let lawful = legal_at w.interfaces head.legal n s here in
      let c = world_configured w head.agrees n s here in
      let admits = both_rest (transmits b) (b.filter.slot == slot && includes b.filter.channels channel
      && cycle_admitted b.filter.cycles window.cycle) turn.sends in
      let transmitting = both_first (transmits b) (b.filter.slot == slot && includes b.filter.channels channel
      && cycle_admitted b.filter.cycles window.cycle) turn.sends in
      let in_slot = both_first (b.filter.slot == slot && includes b.filter.channels channel)
      (cycle_admitted b.filter.cycles window.cycle) admits in
      let same : b.filter.slot ≡ slot = eqb-true b.filter.slot slot
      (both_first (b.filter.slot == slot) (includes b.filter.channels channel) in_slot) in
      let of_slot : is_static_slot d.params b.filter.slot ≡ false = ap (is_static_slot d.params) same ∙ dynamic in
      let own_slot : is_static_slot s.params b.filter.slot ≡ false =
      ap (λ (p : Parameters). is_static_slot p b.filter.slot) c.params_are ∙ of_slot in
      let fits = (faultless s.params s.plan lawful.faultless).dynamic_fit number b turn.at
      (both (transmits b) (not (is_static_slot s.params b.filter.slot)) transmitting (ap not own_slot)) in
      let only : channel_of b.filter.channels ≡ channel = only_channel b.filter.channels channel
      (both_rest (b.filter.slot == slot) (includes b.filter.channels channel) in_slot) fits.one_channel in
      let early : is_always_in_time d s.plan b window.cycle ≡ true =
      ap (λ (t : Bool). t || is_always_in_time d s.plan b window.cycle) (sym of_slot)
      ∙ both_rest (cycle_admitted b.filter.cycles window.cycle)
      (is_static_slot d.params b.filter.slot || is_always_in_time d s.plan b window.cycle) guaranteed in
      let few : last_begin d (channel_of b.filter.channels) window.cycle (slots_before d.params b.filter.slot)
      ≤ latest_on s.plan (channel_of b.filter.channels) =
      leb-true (last_begin_of d b window.cycle) (latest_for s.plan b) early in
      opens_by d head.run.lawful window.cycle channel slot (latest_on s.plan channel)
      (subst (λ (k : ℕ). last_begin d channel window.cycle (slots_before d.params k) ≤ latest_on s.plan channel) same
      (subst (λ (k : Channel). last_begin d k window.cycle (slots_before d.params b.filter.slot) ≤ latest_on s.plan k)
      only few))

  pub table_holds : TableHolds w
  table_holds plain n number slot s window channel here turn guaranteed before after x y cut =
      by (is_static window) refl
    where
      by : (t : Bool) → is_static window ≡ t → (tally_of number (before ++ Fetch window x y ∷ [])).pending ≡ 0
      by true still = (guarantees w head).static n number slot s window channel here turn still before after x y cut
      by false dynamic =
          let c = world_configured w head.agrees n s here in
          let f = has_fetch s (legal_at w.interfaces head.legal n s here) before after window x y cut in
          let fits = ap (λ (p : Parameters). window_fits p window) (sym c.params_are) ∙ f.legal.fits in
          (guarantees w head).dynamic plain n number slot s window channel here turn dynamic
          (turn_opens n number slot s window channel here turn
          (not_static w.bus.cluster.params window channel slot fits dynamic turn.slot_is) guaranteed)
          before after x y cut

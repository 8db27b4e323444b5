-- The node that may send what is due in a slot, and its transmit buffer there.
use Rattle.std.proofs.Common.{◌≡◌, ℕ, zero, suc, ◌+◌, ◌*◌, ◌≤◌, Bool, true, false, cond, List, [], ◌∷◌, length, Option}
use Rattle.std.proofs.Common.{Some, None, refl, sym, ap, subst, ◌∙◌, arith, slice_get, replicate}
use Rattle.std.proofs.lemmas.Bool.{cond-true, cond-false, eqb-true, and_parts}
use Rattle.std.specs.Prelude.{◌==◌, ◌&&◌}
use Rattle.std.specs.List.{list_all}
use Rattle.fr_core.proofs.CaseLemmas.{both_first, both_rest}
use Rattle.fr_frame.specs.Fields.{Fields}
use Rattle.fr_guarantees.specs.Ways.{CanSend}
use Rattle.fr_hearing.proofs.OfferLaws.{line_is, not_owned}
use Rattle.fr_hearing.proofs.SizeLemmas.{found_at}
use Rattle.fr_hearing.specs.Heard.{IsOwners, IsNull, HasContent}
use Rattle.fr_journal.specs.Offers.{line_of, sync_of, startup_of, null_frame}
use Rattle.fr_logged.proofs.FirstLemmas.{any_found_in}
use Rattle.fr_logged.specs.declared.due.Due.{Due}
use Rattle.fr_logged.specs.Dues.{line_in, buffer_in, owner_or, owner_from, sender_or, sender_from, dynamic_due, due_of}
use Rattle.fr_logged.specs.Dues.{preamble_of as due_preamble}
use Rattle.fr_logged.specs.Rules.{is_zero}
use Rattle.fr_schedule.specs.Descriptions.{Description}
use Rattle.fr_slots.proofs.PlaceLemmas.{same_some}
use Rattle.fr_slots.specs.Admission.{includes, cycle_admitted}
use Rattle.fr_slots.specs.declared.channel.Channel.{Channel}
use Rattle.fr_slots.specs.declared.plan.Buffer.{Buffer}
use Rattle.fr_slots.specs.declared.plan.Own.{Own}
use Rattle.fr_slots.specs.Faults.{claims, is_owned, sends_at, transmits, words_of, latest_on}
use Rattle.fr_slots.specs.Parameters.{Parameters, is_static_slot}
use Rattle.fr_slots.specs.Plans.{Plan, filter_admits}
use Rattle.fr_slots.specs.Windows.{Opportunity, is_static}

-- ---- the owner of a static slot

pub record OwnerIn (p : Parameters) (slot : ℕ) (channel : Channel) (cycle : ℕ) (plans : List Plan) (x : Due)
    : Type 0 where
  pub place : ℕ
  pub plan : Plan
  pub own : Own
  pub at : slice_get plans place ≡ Some plan
  pub line : line_in slot channel cycle plan ≡ Some own
  pub words : x.words ≡ p.static_words
  pub sync : x.sync ≡ own.sync
  pub startup : x.startup ≡ own.startup
  pub preamble : x.preamble ≡ due_preamble plan (buffer_in slot channel cycle plan)

owner_in : (p : Parameters) (slot : ℕ) (channel : Channel) (cycle : ℕ) (plans : List Plan) (start : ℕ) (x : Due)
    → owner_from p slot channel cycle start plans ≡ Some x → OwnerIn p slot channel cycle plans x
owner_in p slot channel cycle [] start x e = absurd (let none : ⊥ = cc in none)
owner_in p slot channel cycle (q ∷ qs) start x e =
    by (line_in slot channel cycle q) refl e (owner_in p slot channel cycle qs (start + 1) x)
  where
    by : (o : Option Own) → line_in slot channel cycle q ≡ o
        → owner_or p start q o (buffer_in slot channel cycle q) (owner_from p slot channel cycle (start + 1) qs)
        ≡ Some x
        → (owner_from p slot channel cycle (start + 1) qs ≡ Some x → OwnerIn p slot channel cycle qs x)
        → OwnerIn p slot channel cycle (q ∷ qs) x
    by None is f more =
        let m = more f in
        record {
          place = suc m.place;
          plan = m.plan;
          own = m.own;
          at = m.at;
          line = m.line;
          words = m.words;
          sync = m.sync;
          startup = m.startup;
          preamble = m.preamble;
        }
    by (Some own) is f more =
        let same = same_some _ x f in
        record {
          place = 0;
          plan = q;
          own = own;
          at = refl;
          line = is;
          words = sym (ap (λ (y : Due). y.words) same);
          sync = sym (ap (λ (y : Due). y.sync) same);
          startup = sym (ap (λ (y : Due). y.startup) same);
          preamble = sym (ap (λ (y : Due). y.preamble) same);
        }

pub owner_of : (d : Description) (slot : ℕ) (channel : Channel) (cycle : ℕ) (x : Due)
    → is_static_slot d.params slot ≡ true → due_of d slot channel cycle ≡ Some x
    → OwnerIn d.params slot channel cycle d.plans x
owner_of d slot channel cycle x static e =
    owner_in d.params slot channel cycle d.plans 0 x
    (sym (cond-true (is_static_slot d.params slot) (owner_from d.params slot channel cycle 0 d.plans)
    (sender_from d.params slot channel cycle 0 d.plans) static) ∙ e)

-- ---- the sender of a dynamic slot

pub record SenderIn (p : Parameters) (slot : ℕ) (channel : Channel) (cycle : ℕ) (plans : List Plan) (x : Due)
    : Type 0 where
  pub place : ℕ
  pub plan : Plan
  pub buffer : Buffer
  pub at : slice_get plans place ≡ Some plan
  pub found : buffer_in slot channel cycle plan ≡ Some buffer
  pub some_task : 1 ≤ plan.tasks
  pub words : x.words ≡ words_of p buffer
  pub preamble : x.preamble ≡ Some buffer.preamble
  pub latest : x.latest ≡ latest_on plan channel

some_of : (n : ℕ) → (n == 0) ≡ false → 1 ≤ n
some_of zero e = absurd (let none : ⊥ = cc in none)
some_of (suc n) e = omega arith

module _ (p : Parameters) (slot : ℕ) (channel : Channel) (cycle start : ℕ) (q : Plan) (qs : List Plan) (x : Due)
    (b : Buffer) (found : buffer_in slot channel cycle q ≡ Some b) where
  sender_first : dynamic_due p channel start q b ≡ Some x → SenderIn p slot channel cycle (q ∷ qs) x
  sender_first e = by (q.tasks == 0) refl e
    where
      due : Due
      due = record {
        node = start;
        sync = false;
        startup = false;
        words = words_of p b;
        preamble = Some b.preamble;
        both = false;
        latest = latest_on q channel;
      }

      by : (t : Bool) → (q.tasks == 0) ≡ t → cond t None (Some due) ≡ Some x → SenderIn p slot channel cycle (q ∷ qs) x
      by true is f = absurd (let none : ⊥ = cc in none)
      by false is f =
          let same = same_some due x f in
          record {
            place = 0;
            plan = q;
            buffer = b;
            at = refl;
            found = found;
            some_task = some_of q.tasks is;
            words = sym (ap (λ (y : Due). y.words) same);
            preamble = sym (ap (λ (y : Due). y.preamble) same);
            latest = sym (ap (λ (y : Due). y.latest) same);
          }

sender_in : (p : Parameters) (slot : ℕ) (channel : Channel) (cycle : ℕ) (plans : List Plan) (start : ℕ) (x : Due)
    → sender_from p slot channel cycle start plans ≡ Some x → SenderIn p slot channel cycle plans x
sender_in p slot channel cycle [] start x e = absurd (let none : ⊥ = cc in none)
sender_in p slot channel cycle (q ∷ qs) start x e =
    by (buffer_in slot channel cycle q) refl e (sender_in p slot channel cycle qs (start + 1) x)
  where
    by : (o : Option Buffer) → buffer_in slot channel cycle q ≡ o
        → sender_or p channel start q o (sender_from p slot channel cycle (start + 1) qs) ≡ Some x
        → (sender_from p slot channel cycle (start + 1) qs ≡ Some x → SenderIn p slot channel cycle qs x)
        → SenderIn p slot channel cycle (q ∷ qs) x
    by None is f more =
        let m = more f in
        record {
          place = suc m.place;
          plan = m.plan;
          buffer = m.buffer;
          at = m.at;
          found = m.found;
          some_task = m.some_task;
          words = m.words;
          preamble = m.preamble;
          latest = m.latest;
        }
    by (Some b) is f more = sender_first p slot channel cycle start q qs x b is f

pub sender_of : (d : Description) (slot : ℕ) (channel : Channel) (cycle : ℕ) (x : Due)
    → is_static_slot d.params slot ≡ false → due_of d slot channel cycle ≡ Some x
    → SenderIn d.params slot channel cycle d.plans x
sender_of d slot channel cycle x dynamic e =
    sender_in d.params slot channel cycle d.plans 0 x
    (sym (cond-false (is_static_slot d.params slot) (owner_from d.params slot channel cycle 0 d.plans)
    (sender_from d.params slot channel cycle 0 d.plans) dynamic) ∙ e)

-- ---- the transmit buffer of a data frame

record HasBuffer (plan : Plan) (o : Option Buffer) (preamble : Bool) : Type 0 where
  buffer : Buffer
  found : o ≡ Some buffer
  some_task : 1 ≤ plan.tasks
  preamble_is : buffer.preamble ≡ preamble

has_buffer : (plan : Plan) (o : Option Buffer) (preamble : Bool) → due_preamble plan o ≡ Some preamble
    → HasBuffer plan o preamble
has_buffer plan None preamble e = absurd (let none : ⊥ = cc in none)
has_buffer plan (Some b) preamble e = by (plan.tasks == 0) refl e
  where
    by : (t : Bool) → (plan.tasks == 0) ≡ t → cond t None (Some b.preamble) ≡ Some preamble
        → HasBuffer plan (Some b) preamble
    by true is f = absurd (let none : ⊥ = cc in none)
    by false is f = record {
      buffer = b;
      found = refl;
      some_task = some_of plan.tasks is;
      preamble_is = same_some b.preamble preamble f;
    }

-- A host may commit this frame's payload right before the window, and then the node sends the frame there.
pub record CanHand (d : Description) (window : Opportunity) (channel : Channel) (slot : ℕ) (g : Fields)
    : Type 0 where
  pub can : CanSend d window.cycle slot channel window.minislot (8 + length g.payload)
  pub words : length g.payload ≡ 2 * words_of d.params can.buffer
  pub preamble : can.buffer.preamble ≡ g.preamble
  pub has_data : g.has_data ≡ true
  pub sync : sync_of (line_of can.plan window channel slot) ≡ g.sync
  pub startup : startup_of (line_of can.plan window channel slot) ≡ g.startup
  pub id_is : g.id ≡ slot
  pub cycle_is : g.cycle ≡ window.cycle
  pub owned : is_static window ≡ true → is_owned can.plan.owned slot channel window.cycle ≡ true

slot_same : (slot : ℕ) (channel : Channel) (cycle : ℕ) (b : Buffer) → sends_at slot channel cycle b ≡ true
    → b.filter.slot ≡ slot
slot_same slot channel cycle b e =
    let admits = both_rest (transmits b) (filter_admits b.filter cycle slot channel) e in
    let front = both_first (b.filter.slot == slot && includes b.filter.channels channel)
    (cycle_admitted b.filter.cycles cycle) admits in
    eqb-true b.filter.slot slot (both_first (b.filter.slot == slot) (includes b.filter.channels channel) front)

module _ (d : Description) (window : Opportunity) (channel : Channel) (slot : ℕ) (g : Fields) (x : Due)
    (due_is : due_of d slot channel window.cycle ≡ Some x) (id_is : g.id ≡ slot)
    (cycle_is : g.cycle ≡ window.cycle) where
  module _ (static : is_static window ≡ true) (static_slot : is_static_slot d.params slot ≡ true)
      (owners : IsOwners x g) where
    owner : OwnerIn d.params slot channel window.cycle d.plans x
    owner = owner_of d slot channel window.cycle x static_slot due_is

    line : line_of owner.plan window channel slot ≡ Some owner.own
    line = line_is owner.plan window channel slot static ∙ owner.line

    sync_is : sync_of (line_of owner.plan window channel slot) ≡ g.sync
    sync_is = ap sync_of line ∙ sym owner.sync ∙ owners.sync

    startup_is : startup_of (line_of owner.plan window channel slot) ≡ g.startup
    startup_is = ap startup_of line ∙ sym owner.startup ∙ owners.startup

    content : (b : Bool) → g.has_data ≡ b → HasContent x g b
    content b e = subst (HasContent x g) e owners.content

    pub hand_static : g.has_data ≡ true → CanHand d window channel slot g
    hand_static has =
        let preamble : x.preamble ≡ Some g.preamble = content true has in
        let buffer = has_buffer owner.plan (buffer_in slot channel window.cycle owner.plan) g.preamble
        (sym owner.preamble ∙ preamble) in
        let b : Buffer = buffer.buffer in
        let here = found_at (sends_at slot channel window.cycle) owner.plan.buffers buffer.buffer buffer.found in
        let of_static : is_static_slot d.params buffer.buffer.filter.slot ≡ true =
        ap (is_static_slot d.params) (slot_same slot channel window.cycle buffer.buffer here.passes) ∙ static_slot in
        let size : words_of d.params buffer.buffer ≡ d.params.static_words =
        cond-true (is_static_slot d.params buffer.buffer.filter.slot) d.params.static_words _ of_static in
        let long : length g.payload ≡ 2 * words_of d.params buffer.buffer =
        owners.words ∙ ap (λ (n : ℕ). 2 * n) (owner.words ∙ sym size) in
        let none : window.minislot ≡ 0 = eqb-true window.minislot 0 static in
        record {
          can = record {
            node = owner.place;
            plan = owner.plan;
            plan_at = owner.at;
            some_task = buffer.some_task;
            number = here.place;
            buffer = buffer.buffer;
            at = here.at;
            sends = here.passes;
            in_time = omega (arith, none);
            bytes_are = ap (λ (n : ℕ). 8 + n) long;
          };
          words = long;
          preamble = buffer.preamble_is;
          has_data = has;
          sync = sync_is;
          startup = startup_is;
          id_is = id_is;
          cycle_is = cycle_is;
          owned = λ still. any_found_in (claims slot channel window.cycle) owner.plan.owned owner.own owner.line;
        }

  pub hand_dynamic : is_static window ≡ false → is_static_slot d.params slot ≡ false → g.has_data ≡ true
      → g.sync ≡ false → g.startup ≡ false → length g.payload ≡ 2 * x.words → x.preamble ≡ Some g.preamble
      → window.minislot ≤ x.latest → CanHand d window channel slot g
  hand_dynamic dynamic dynamic_slot has no_sync no_startup words preamble in_time =
      let sender = sender_of d slot channel window.cycle x dynamic_slot due_is in
      let here = found_at (sends_at slot channel window.cycle) sender.plan.buffers sender.buffer sender.found in
      let line : line_of sender.plan window channel slot ≡ None = not_owned sender.plan window channel slot dynamic in
      let long : length g.payload ≡ 2 * words_of d.params sender.buffer =
      words ∙ ap (λ (n : ℕ). 2 * n) sender.words in
      let last = sender.latest in
      record {
        can = record {
          node = sender.place;
          plan = sender.plan;
          plan_at = sender.at;
          some_task = sender.some_task;
          number = here.place;
          buffer = sender.buffer;
          at = here.at;
          sends = here.passes;
          in_time = omega (arith, in_time, last);
          bytes_are = ap (λ (n : ℕ). 8 + n) long;
        };
        words = long;
        preamble = same_some sender.buffer.preamble g.preamble (sym sender.preamble ∙ preamble);
        has_data = has;
        sync = ap sync_of line ∙ sym no_sync;
        startup = ap startup_of line ∙ sym no_startup;
        id_is = id_is;
        cycle_is = cycle_is;
        owned = λ static. absurd (let none : ⊥ = cc in none);
      }

-- ---- a null frame

zeros_are : (l : List ℕ) → list_all is_zero l ≡ true → l ≡ replicate (length l) 0
zeros_are [] e = refl
zeros_are (n ∷ l) e =
    let parts = and_parts (n == 0) (list_all is_zero l) e in
    λ i. eqb-true n 0 parts.0 i ∷ zeros_are l parts.1 i

-- The owner of a static slot sends this null frame if no host commits anything.
pub record CanNull (d : Description) (window : Opportunity) (channel : Channel) (slot : ℕ) (g : Fields)
    : Type 0 where
  pub node : ℕ
  pub plan : Plan
  pub plan_at : slice_get d.plans node ≡ Some plan
  pub own : Own
  pub line : line_of plan window channel slot ≡ Some own
  pub owned : is_owned plan.owned slot channel window.cycle ≡ true
  pub frame_is : null_frame d.params plan window channel slot ≡ g

pub hand_null : (d : Description) (window : Opportunity) (channel : Channel) (slot : ℕ) (g : Fields) (x : Due)
    → due_of d slot channel window.cycle ≡ Some x → g.id ≡ slot → g.cycle ≡ window.cycle → is_static window ≡ true
    → is_static_slot d.params slot ≡ true → IsOwners x g → g.has_data ≡ false → CanNull d window channel slot g
hand_null d window channel slot g x due_is id_is cycle_is static static_slot owners null =
    let owner = owner_of d slot channel window.cycle x static_slot due_is in
    let line : line_of owner.plan window channel slot ≡ Some owner.own =
    line_is owner.plan window channel slot static ∙ owner.line in
    let is_null : IsNull g = subst (HasContent x g) null owners.content in
    let size : length g.payload ≡ 2 * d.params.static_words =
    owners.words ∙ ap (λ (n : ℕ). 2 * n) owner.words in
    let sync : sync_of (line_of owner.plan window channel slot) ≡ g.sync =
    ap sync_of line ∙ sym owner.sync ∙ owners.sync in
    let startup : startup_of (line_of owner.plan window channel slot) ≡ g.startup =
    ap startup_of line ∙ sym owner.startup ∙ owners.startup in
    let payload : replicate (2 * d.params.static_words) 0 ≡ g.payload =
    ap (λ (n : ℕ). replicate n 0) (sym size) ∙ sym (zeros_are g.payload is_null.zeros) in
    record {
      node = owner.place;
      plan = owner.plan;
      plan_at = owner.at;
      own = owner.own;
      line = line;
      owned = any_found_in (claims slot channel window.cycle) owner.plan.owned owner.own owner.line;
      frame_is = λ i. record {
        preamble = sym is_null.no_preamble i;
        has_data = sym null i;
        sync = sync i;
        startup = startup i;
        id = sym id_is i;
        payload = payload i;
        cycle = sym cycle_is i;
      };
    }

-- A window in which a host commits right after the fetch: the commit is ready after it.
use Rattle.std.proofs.Common.{◌≡◌, ◌≢◌, ℕ, ◌+◌, ◌<◌, ◌≤◌, ◌==◌, Bool, cond, ◌&&◌, List, [], ◌∷◌, ◌++◌, length, Option}
use Rattle.std.proofs.Common.{Some, None, refl, sym, ap, subst, ◌∙◌, arith, inl, inr}
use Rattle.std.specs.Prelude.{count_by}
use Rattle.std.proofs.lemmas.Bool.{eq-eqb, lt-leb, ne_eqb}
use Rattle.std.proofs.lemmas.Bool.Decides.{eqb_tells}
use Rattle.std.proofs.lemmas.List.{length-set, get_or-set_same, get_or-set_other}
use Rattle.fr_bus.specs.Record.{Recorded}
use Rattle.fr_bus.specs.States.{BusState, outcome_of}
use Rattle.fr_bus.specs.Windows.{following}
use Rattle.fr_core.proofs.ReadyLemmas.{ready-same, ready-new}
use Rattle.fr_core.proofs.TimingLemmas.{count_more}
use Rattle.fr_core.specs.Carried.{Waits}
use Rattle.fr_core.specs.Steps.{with_interface}
use Rattle.fr_core.specs.Worlds.{WorldState, no_interface, interface_at, carried_at}
use Rattle.fr_guarantees.proofs.JournalLemmas.{HasWindows}
use Rattle.fr_guarantees.proofs.ObservingLemmas.{IsObserved}
use Rattle.fr_guarantees.proofs.OfferingLemmas.{IsFresh, HavePut, fetched_by, all_put_offers}
use Rattle.fr_guarantees.proofs.PassingLemmas.{IsNodeAt, IsAt, next_here, node_past, takes_here, number_here, at_next}
use Rattle.fr_guarantees.proofs.SilenceLemmas.{Keeps, HasReady, IsSilent, mute_is_silent, unsent}
use Rattle.fr_guarantees.proofs.WindowLemmas.{IsFull, HasEnded, fresh_between, full_is, has_ended}
use Rattle.fr_guarantees.specs.Exactness.{HasRoom}
use Rattle.fr_guarantees.specs.Leading.{Leads}
use Rattle.fr_interface.specs.State.{State, with_entry, fetch_entry, is_not_above}
use Rattle.fr_journal.proofs.OpenWindowLemmas.{open_window-snoc, last_number-snoc}
use Rattle.fr_journal.specs.declared.entry.Entry.TheVariants.{Commit, Observe}
use Rattle.fr_journal.specs.Entries.{is_host, is_slot}
use Rattle.fr_journal.specs.Offers.{ready}
use Rattle.fr_journal.specs.OpenWindow.{open_window}
use Rattle.fr_schedule.specs.Descriptions.{Description}
use Rattle.fr_slots.specs.Windows.{Opportunity}

-- no other buffer than this one of the node has a ready commit
abbrev pub nothing_kept : ℕ → Keeps
nothing_kept n number = None

abbrev pub only_kept : ℕ → ℕ → ℕ → ℕ → Keeps
only_kept n number commit m k = cond (m == n && k == number) (Some commit) None

pub other_node : (n number commit m k : ℕ) → m ≢ n → only_kept n number commit m k ≡ None
other_node n number commit m k other =
    ap (λ (b : Bool). cond {A = Option ℕ} (b && k == number) (Some commit) None) (ne_eqb m n other)

pub other_buffer : (n number commit k : ℕ) → k ≢ number → only_kept n number commit n k ≡ None
other_buffer n number commit k other =
    λ i. cond {A = Option ℕ} (eq-eqb n n refl i && ne_eqb k number other i) (Some commit) None

pub this_buffer : (n number commit : ℕ) → only_kept n number commit n number ≡ Some commit
this_buffer n number commit =
    λ i. cond {A = Option ℕ} (eq-eqb n n refl i && eq-eqb number number refl i) (Some commit) None

-- ---- the journal of the node

module _ (d : Description) (n : ℕ) (s t : State) (many calls number : ℕ) (payload : List ℕ) (window : Opportunity)
    (is : IsNodeAt d (nothing_kept n) n s many calls) (number_is : window.number ≡ many)
    (seen : IsObserved (with_entry (fetched_by s window) (Commit 0 number payload)) t window) where
  abbrev f : State
  f = fetched_by s window

  abbrev c : State
  c = with_entry f (Commit 0 number payload)

  silent : IsSilent s window
  silent = mute_is_silent (nothing_kept n) s is.ready window (λ on k at begins. refl)

  windows : HasWindows t (many + 1)
  windows = subst (λ (x : State). HasWindows x (many + 1)) (sym seen.is) (record {
    closed = open_window-snoc c.entries (Observe window.number seen.a seen.b);
    earlier = ap (is_not_above (many + 1))
        (last_number-snoc c.entries (Observe window.number seen.a seen.b)
        ∙ last_number-snoc f.entries (Commit 0 number payload)
        ∙ last_number-snoc s.entries (fetch_entry s window))
        ∙ lt-leb (many + 1) window.number (omega (arith, number_is));
    slots = omega (
      arith,
      is.has.slots,
      count_more is_slot c.entries (Observe window.number seen.a seen.b),
      count_more is_slot f.entries (Commit 0 number payload),
      count_more is_slot s.entries (fetch_entry s window),
    );
  })

  hosts : count_by is_host t.entries ≤ calls + 1
  hosts = subst (λ (x : State). count_by is_host x.entries ≤ calls + 1) (sym seen.is) (omega (
    arith,
    is.hosts,
    count_more is_host c.entries (Observe window.number seen.a seen.b),
    count_more is_host f.entries (Commit 0 number payload),
    count_more is_host s.entries (fetch_entry s window),
  ))

  ready_is : HasReady (only_kept n number (length f.entries) n) t
  ready_is m k sending =
      ap (λ (x : State). ready m k x.entries) seen.is
      ∙ ready-same k c.entries (Observe window.number seen.a seen.b) refl m (λ j last. refl) (λ j last. refl)
      ∙ elim (eqb_tells k number) [
        | inl same ↦ ap (λ (i : ℕ). ready m i c.entries) same.1
            ∙ ready-new number f.entries (Commit 0 number payload) m sending (eq-eqb number number refl)
            ∙ sym (this_buffer n number (length f.entries))
            ∙ ap (only_kept n number (length f.entries) n) (sym same.1)
        | inr other ↦ ready-same k f.entries (Commit 0 number payload)
            (ne_eqb number k (λ same. other.1 (sym same))) m (λ j last. refl) (λ j last. refl)
            ∙ ready-same k s.entries (fetch_entry s window) refl m (λ j last. unsent s window silent j)
            (λ j last. refl)
            ∙ is.ready m k sending
            ∙ sym (other_buffer n number (length f.entries) k other.1)
      ]

  pub holds : IsNodeAt d (only_kept n number (length f.entries) n) n t (many + 1) (calls + 1)
  holds = record {
    params_are = ap (λ (x : State). x.params) seen.is ∙ is.params_are;
    plan_at = is.plan_at ∙ ap (λ (x : State). Some x.plan) (sym seen.is);
    has = windows;
    hosts = hosts;
    ready = ready_is;
  }

-- ---- the world

-- A node fetched the window, and committed right after it. After the window the commit is ready.
pub record IsHeld (d : Description) (cycles calls : ℕ) (w : WorldState) (window : Opportunity) (n number : ℕ)
    (payload : List ℕ) : Type 0 where
  pub first_world : WorldState
  pub leads_first : Leads w first_world
  pub waits : carried_at first_world n ≡ Waits window
  pub fetched : interface_at first_world n ≡ fetched_by (interface_at w n) window
  pub same_bus : first_world.bus ≡ record w.bus { stations = first_world.bus.stations }
  pub within : n < length first_world.interfaces
  pub world : WorldState
  pub leads : Leads (with_interface first_world n (with_entry (interface_at first_world n) (Commit 0 number payload)))
      world
  pub is_at : IsAt d cycles (only_kept n number (length (fetched_by (interface_at w n) window).entries)) calls world
  pub recorded : Recorded
  pub sealed : world.bus.sealed ≡ w.bus.sealed ++ recorded ∷ []
  pub window_is : recorded.window ≡ window

module _ (d : Description) (cycles most : ℕ) (room : HasRoom d cycles most) (calls : ℕ) (w : WorldState)
    (window : Opportunity) (here : IsAt d cycles nothing_kept calls w)
    (next : following d.params cycles w.bus.sealed ≡ Some window) (n number : ℕ) (payload : List ℕ)
    (within : n < length w.interfaces) where
  fresh : IsFresh w window
  fresh = fresh_between w window here.between (next_here d cycles nothing_kept calls w here ∙ next)

  put : HavePut w window (length w.interfaces)
  put = all_put_offers w window fresh (takes_here d cycles most room nothing_kept calls w here window next)

  abbrev v : WorldState
  v = put.world

  abbrev t1 : State
  t1 = with_entry (interface_at v n) (Commit 0 number payload)

  abbrev v1 : WorldState
  v1 = with_interface v n t1

  full : IsFull v window
  full = full_is w window fresh put

  within_v : n < length v.interfaces
  within_v = subst (λ (m : ℕ). n < m) (sym put.shape.interfaces) within

  long : length v1.interfaces ≡ length v.interfaces
  long = length-set v.interfaces n t1

  at_node : interface_at v1 n ≡ t1
  at_node = get_or-set_same v.interfaces n t1 no_interface within_v

  at_other : (m : ℕ) → m ≢ n → interface_at v1 m ≡ interface_at v m
  at_other m other = get_or-set_other v.interfaces n m t1 no_interface other

  full_then : IsFull v1 window
  full_then =
      let in_v : (m : ℕ) → m < length v1.interfaces → m < length v.interfaces =
      λ m inside. subst (λ (k : ℕ). m < k) long inside in
      record {
        phase = full.phase;
        opened = full.opened;
        a_controller_each = full.a_controller_each ∙ sym long;
        a_station_each = full.a_station_each ∙ sym long;
        waits = λ m inside. full.waits m (in_v m inside);
        put = λ m inside. full.put m (in_v m inside);
        untaken = λ m inside. full.untaken m (in_v m inside);
        is_open = λ m inside. elim (eqb_tells m n) [
          | inl same ↦ ap (λ (k : ℕ). open_window (interface_at v1 k).entries) same.1
              ∙ ap (λ (x : State). open_window x.entries) at_node
              ∙ open_window-snoc (interface_at v n).entries (Commit 0 number payload) ∙ full.is_open n within_v
          | inr other ↦ ap (λ (x : State). open_window x.entries) (at_other m other.1)
              ∙ full.is_open m (in_v m inside)
        ];
      }

  over : HasEnded v1 window
  over = has_ended v1 window full_then

  abbrev r : Recorded
  r = outcome_of v1.bus window

  abbrev j : ℕ
  j = length (fetched_by (interface_at w n) window).entries

  number_is : window.number ≡ length w.bus.sealed
  number_is = number_here d cycles most room nothing_kept calls w here window next

  sealed_is : over.world.bus.sealed ≡ w.bus.sealed ++ r ∷ []
  sealed_is = over.sealed ∙ ap (λ (b : BusState). b.sealed ++ r ∷ []) put.shape.bus

  node_at : (m : ℕ) → m < length w.interfaces
      → IsNodeAt d (only_kept n number j m) m (interface_at over.world m) (length w.bus.sealed + 1) (calls + 1)
  node_at m inside = elim (eqb_tells m n) [
    | inl same ↦ subst (λ (k : ℕ). IsNodeAt d (only_kept n number j k) k (interface_at over.world k)
        (length w.bus.sealed + 1) (calls + 1)) (sym same.1)
        (holds d n (interface_at w n) (interface_at over.world n) (length w.bus.sealed) calls number payload window
        (here.nodes n within) number_is
        (subst (λ (x : State). IsObserved (with_entry x (Commit 0 number payload)) (interface_at over.world n) window)
        (put.done n within).interface
        (subst (λ (x : State). IsObserved x (interface_at over.world n) window) at_node
        (over.interfaces n (subst (λ (k : ℕ). n < k) (sym long) within_v)))))
    | inr other ↦ (
        let inside_v : m < length v.interfaces = subst (λ (k : ℕ). m < k) (sym put.shape.interfaces) inside in
        let seen = subst (λ (x : State). IsObserved x (interface_at over.world m) window)
        (at_other m other.1 ∙ (put.done m inside).interface)
        (over.interfaces m (subst (λ (k : ℕ). m < k) (sym long) inside_v)) in
        let at = node_past d cycles most room nothing_kept m (length w.bus.sealed) calls (interface_at w m)
        (interface_at over.world m) window (here.nodes m inside) (λ k plan known on i is begins. refl) number_is seen in
        record {
          params_are = at.params_are;
          plan_at = at.plan_at;
          has = at.has;
          hosts = omega (arith, at.hosts);
          ready = λ mode k sending. at.ready mode k sending ∙ sym (other_node n number j m k other.1);
        })
  ]

  pub is_held : IsHeld d cycles (calls + 1) w window n number payload
  is_held = record {
    first_world = v;
    leads_first = put.leads;
    waits = (put.done n within).carried;
    fetched = (put.done n within).interface;
    same_bus = put.shape.bus;
    within = within_v;
    world = over.world;
    leads = over.leads;
    is_at = at_next d cycles nothing_kept (only_kept n number j) calls (calls + 1) w over.world r here next
        (over.cluster ∙ ap (λ (b : BusState). b.cluster) put.shape.bus)
        (over.cycles ∙ ap (λ (b : BusState). b.cycles) put.shape.bus)
        (over.interfaces_long ∙ long ∙ put.shape.interfaces) sealed_is over.is_between node_at;
    recorded = r;
    sealed = sealed_is;
    window_is = refl;
  }

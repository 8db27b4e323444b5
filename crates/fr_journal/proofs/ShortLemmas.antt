-- Short entries restore the same entries after an append to their pool. One more entry keeps the properties of a
-- journal.
use Rattle.std.proofs.Common.{◌≡◌, ℕ, ◌+◌, ◌-◌, ◌<◌, ◌≤◌, Bool, true, false, not, cond, List, [], ◌∷◌, ◌++◌, length}
use Rattle.std.proofs.Common.{take, drop, refl, sym, ap, subst}
use Rattle.std.proofs.Common.{Option, Some, None, ◌∙◌, arith, length-append, length-drop}
use Rattle.std.specs.Prelude.{count_by, map, slice_get, slice_range, vec_capacity, option_map, IfSome}
use Rattle.std.specs.Option.{option_and_then}
use Rattle.std.specs.List.{All}
use Rattle.std.proofs.lemmas.List.{take-append-le, drop-append-le, map-append, length-map}
use Rattle.std.proofs.lemmas.List.Elements.{All-head, All-tail, All-push, All-weaker}
use Rattle.std.proofs.lemmas.List.Sums.{sum_by-append}
use Rattle.std.proofs.lemmas.Option.{slice_get-map}
use Rattle.fr_frame.specs.Payload.{most_payload_bytes}
use Rattle.fr_journal.specs.Forms.{Entry, ShortEntry, ShortSeen}
use Rattle.fr_journal.specs.declared.entry.Entry.TheVariants as entries
use Rattle.fr_journal.specs.declared.journal.Journal.TheInside.{Inside}
use Rattle.fr_journal.specs.declared.short.Stretch.{Stretch}
use Rattle.fr_journal.specs.Entries.{is_host, is_slot}
use Rattle.fr_journal.specs.JournalFields.{kept_in, pool_room, IsCounted}
use Rattle.fr_journal.specs.Kept.{Kept, host_room, slot_room}
use Rattle.fr_journal.specs.Marks.{fetched_window, fetched_at, last_mark, mark_at, AreMarked, TellsOpen}
use Rattle.fr_journal.specs.OpenWindow.{window_mark, closed_window}
use Rattle.fr_journal.specs.Shortened.{restored_seen, restored, bytes_in, IsStretch, IsShortSeen, IsShort, IsShortened}
use Rattle.fr_journal.specs.Shortened.{most_seen_bytes}
use Rattle.fr_journal.proofs.KindLemmas.{kinds_fill}
use Rattle.fr_journal.proofs.MarkLemmas.{IsUnmarked, host_unmarked, slot_marked, marked_more, last_passed, last_is_new}
use Rattle.fr_journal.proofs.MarkLemmas.{closes, none_marked, last_of_none}
use Rattle.fr_slots.specs.Numbers.{most_host_entries, most_slot_entries}
use Rattle.fr_slots.specs.Windows.{Opportunity}
use Rattle.fr_status.specs.declared.seen.Seen.TheVariants as seen

-- ---- one short entry

slice_range-append : (xs ys : List ℕ) (from to : ℕ) → from ≤ to → to ≤ length xs
    → slice_range (xs ++ ys) from to ≡ slice_range xs from to
slice_range-append xs ys from to order within =
    ap (take (to - from)) (drop-append-le from xs ys (omega arith))
    ∙ take-append-le (to - from) (drop from xs) ys (omega (arith, length-drop from xs))

stretch-more : (pool more : List ℕ) (most : ℕ) (s : Stretch) → IsStretch (length pool) most s
    → IsStretch (length (pool ++ more)) most s
stretch-more pool more most s h = record {
  order = h.order;
  within = omega (arith, h.within, length-append pool more);
  few = h.few;
}

seen-more : (pool more : List ℕ) (s : ShortSeen) → IsShortSeen (length pool) s → IsShortSeen (length (pool ++ more)) s
seen-more pool more seen.Silence h = tt
seen-more pool more seen.Own h = tt
seen-more pool more seen.Conflict h = tt
seen-more pool more seen.Noise h = tt
seen-more pool more seen.Overrun h = tt
seen-more pool more (seen.Bytes s) h = stretch-more pool more _ s h

short-more : (pool more : List ℕ) (s : ShortEntry) → IsShort (length pool) s → IsShort (length (pool ++ more)) s
short-more pool more (entries.Commit task buffer payload) h = (stretch-more pool more _ payload h.0, h.1)
short-more pool more (entries.Withdraw task buffer of) h = tt
short-more pool more (entries.Read task buffer from) h = tt
short-more pool more (entries.Pop task from) h = tt
short-more pool more (entries.Fetch window a b) h = tt
short-more pool more (entries.Observe window a b) h = (seen-more pool more a h.0, seen-more pool more b h.1)

restored_seen-append : (pool more : List ℕ) (s : ShortSeen) → IsShortSeen (length pool) s
    → restored_seen (pool ++ more) s ≡ restored_seen pool s
restored_seen-append pool more seen.Silence h = refl
restored_seen-append pool more seen.Own h = refl
restored_seen-append pool more seen.Conflict h = refl
restored_seen-append pool more seen.Noise h = refl
restored_seen-append pool more seen.Overrun h = refl
restored_seen-append pool more (seen.Bytes s) h =
    ap (λ (bytes : List ℕ). seen.Bytes (record { items = bytes }))
    (slice_range-append pool more s.start s.end h.order h.within)

pub restored-append : (pool more : List ℕ) (s : ShortEntry) → IsShort (length pool) s
    → restored (pool ++ more) s ≡ restored pool s
restored-append pool more (entries.Commit task buffer payload) h =
    ap (λ (bytes : List ℕ). entries.Commit task buffer bytes)
    (slice_range-append pool more payload.start payload.end h.0.order h.0.within)
restored-append pool more (entries.Withdraw task buffer of) h = refl
restored-append pool more (entries.Read task buffer from) h = refl
restored-append pool more (entries.Pop task from) h = refl
restored-append pool more (entries.Fetch window a b) h = refl
restored-append pool more (entries.Observe window a b) h =
    let first = restored_seen-append pool more a h.0 in
    let second = restored_seen-append pool more b h.1 in
    cc

-- ---- all short entries

all-restored : (pool more : List ℕ) (shorts : List ShortEntry) → All (IsShort (length pool)) shorts
    → map (restored (pool ++ more)) shorts ≡ map (restored pool) shorts
all-restored pool more [] h = refl
all-restored pool more (s ∷ shorts) h =
    let first = restored-append pool more s (All-head (IsShort (length pool)) s shorts h) in
    let rest = all-restored pool more shorts (All-tail (IsShort (length pool)) s shorts h) in
    cc

-- ---- a journal, before and after an append to its pool and its short entries

pub record IsPushed (j n : Inside) (most : ℕ) (s : ShortEntry) (e : Entry) : Type 0 where
  pub host_limit_is : n.host_limit ≡ j.host_limit
  pub slot_limit_is : n.slot_limit ≡ j.slot_limit
  pub shorts_are : n.shorts.items ≡ j.shorts.items ++ s ∷ []
  pub shorts_room : vec_capacity n.shorts ≡ vec_capacity j.shorts
  pub knows : IfSome (last_mark s) (λ mark. mark ≡ j.last_mark)
  pub shortened : IsShortened j.pool.items n.pool.items most s e
  pub pool_room : vec_capacity j.pool ≤ vec_capacity n.pool

pub counts-fill : (j : Inside) → IsCounted j → j.host_count + j.slot_count ≡ length j.shorts.items
counts-fill j h = omega (
  arith,
  h.host_is,
  h.slot_is,
  kinds_fill (map (restored j.pool.items) j.shorts.items),
  length-map j.shorts.items (restored j.pool.items),
)

pub entries-pushed : (j n : Inside) (most : ℕ) (s : ShortEntry) (e : Entry) → IsCounted j → IsPushed j n most s e
    → map (restored n.pool.items) n.shorts.items ≡ map (restored j.pool.items) j.shorts.items ++ e ∷ []
entries-pushed j n most s e h p =
    let f = restored n.pool.items in
    let same : map f j.shorts.items ≡ map (restored j.pool.items) j.shorts.items =
    ap (λ (pool : List ℕ). map (restored pool) j.shorts.items) p.shortened.pool_is ∙ all-restored j.pool.items
    (bytes_in e) j.shorts.items h.are_short in
    ap (map f) p.shorts_are ∙ map-append f j.shorts.items (s ∷ []) ∙ ap
    (λ (x : Entry). map f j.shorts.items ++ x ∷ []) p.shortened.entry_is
    ∙ ap (λ (l : List Entry). l ++ e ∷ []) same

are_short-pushed : (j n : Inside) (most : ℕ) (s : ShortEntry) (e : Entry) → IsCounted j → IsPushed j n most s e
    → All (IsShort (length n.pool.items)) n.shorts.items
are_short-pushed j n most s e h p =
    let more : All (IsShort (length (j.pool.items ++ bytes_in e))) j.shorts.items =
    All-weaker (IsShort (length j.pool.items)) (IsShort (length (j.pool.items ++ bytes_in e)))
    (short-more j.pool.items (bytes_in e)) j.shorts.items h.are_short in
    let old : All (IsShort (length n.pool.items)) j.shorts.items =
    subst (λ (pool : List ℕ). All (IsShort (length pool)) j.shorts.items) (sym p.shortened.pool_is) more in
    subst (λ (l : List ShortEntry). All (IsShort (length n.pool.items)) l) (sym p.shorts_are)
    (All-push (IsShort (length n.pool.items)) j.shorts.items s old p.shortened.within)

pub kept-pushed : (j n : Inside) (k : Kept) (most : ℕ) (s : ShortEntry) (e : Entry) → IsCounted j
    → IsPushed j n most s e → kept_in j ≡ k
    → kept_in n ≡ record { host_limit = k.host_limit; slot_limit = k.slot_limit; entries = k.entries ++ e ∷ [] }
kept-pushed j n k most s e h p view =
    let entries = entries-pushed j n most s e h p in
    let host = p.host_limit_is in
    let slot = p.slot_limit_is in
    subst (λ (k : Kept). kept_in n ≡ record {
      host_limit = k.host_limit;
      slot_limit = k.slot_limit;
      entries =
          k.entries ++ e ∷ [];
    }) view cc

pub host-room : (j : Inside) (k : Kept) → IsCounted j → kept_in j ≡ k → 0 < host_room k → j.host_count < j.host_limit
host-room j k h view room =
    let left : 0 < host_room (kept_in j) = subst (λ (k : Kept). 0 < host_room k) (sym view) room in
    omega (arith, left, h.host_is)

pub slot-room : (j : Inside) (k : Kept) → IsCounted j → kept_in j ≡ k → 0 < slot_room k → j.slot_count < j.slot_limit
slot-room j k h view room =
    let left : 0 < slot_room (kept_in j) = subst (λ (k : Kept). 0 < slot_room k) (sym view) room in
    omega (arith, left, h.slot_is)

counted-more : (test : Entry → Bool) (xs ys : List Entry) (e : Entry) → ys ≡ xs ++ e ∷ []
    → count_by test ys ≡ count_by test xs + cond (test e) 1 0
counted-more test xs ys e is = ap (count_by test) is ∙ omega (arith, sum_by-append (λ x. cond (test x) 1 0) xs (e ∷ []))

-- ---- a journal without entries

pub first-counted : (j : Inside) → j.shorts.items ≡ [] → j.pool.items ≡ [] → j.host_count ≡ 0 → j.slot_count ≡ 0
    → j.last_mark ≡ 0 → j.host_limit ≤ most_host_entries → j.slot_limit ≤ most_slot_entries
    → j.host_limit + j.slot_limit ≤ vec_capacity j.shorts → pool_room j.host_limit j.slot_limit ≤ vec_capacity j.pool
    → IsCounted j
first-counted j none no_bytes host slot mark few_host few_slot reserved pool_reserved =
    let shorts = j.shorts.items in
    let no_host = ap (λ (l : List ShortEntry). count_by is_host (map (restored j.pool.items) l)) none in
    let no_slot = ap (λ (l : List ShortEntry). count_by is_slot (map (restored j.pool.items) l)) none in
    let size : length j.pool.items ≡ 0 = ap length no_bytes in
    record {
      host_is = host ∙ sym no_host;
      slot_is = slot ∙ sym no_slot;
      host_within = omega (arith, host);
      slot_within = omega (arith, slot);
      reserved = reserved;
      few_host = few_host;
      few_slot = few_slot;
      are_short = subst (All (IsShort (length j.pool.items))) (sym none) (λ n s lt. absurd (omega (arith, lt)));
      pool_within = omega (arith, size);
      pool_reserved = pool_reserved;
      marked = none_marked shorts (map (restored j.pool.items) shorts) none;
      last_marked = rw mark (last_of_none j.pool.items shorts none);
    }

-- ---- marks

module _ (j n : Inside) (most : ℕ) (s : ShortEntry) (e : Entry) (h : IsCounted j) (p : IsPushed j n most s e) where
  abbrev old_entries : List Entry
  old_entries = map (restored j.pool.items) j.shorts.items

  as_many : length old_entries ≡ length j.shorts.items
  as_many = length-map j.shorts.items (restored j.pool.items)

  last_of : (mark : ℕ)
      → TellsOpen (j.shorts.items ++ s ∷ []) (old_entries ++ e ∷ []) (length (j.shorts.items ++ s ∷ [])) mark
      → TellsOpen n.shorts.items (map (restored n.pool.items) n.shorts.items) (length n.shorts.items) mark
  last_of mark last =
      rw (entries-pushed j n most s e h p, p.shorts_are) last

  pub marked-pushed : AreMarked n.shorts.items (map (restored n.pool.items) n.shorts.items)
  marked-pushed =
      rw (entries-pushed j n most s e h p, p.shorts_are)
      (marked_more j.shorts.items old_entries s e as_many j.last_mark p.knows h.last_marked h.marked)

  pub host-last : is_host e ≡ true → n.last_mark ≡ j.last_mark
      → TellsOpen n.shorts.items (map (restored n.pool.items) n.shorts.items) (length n.shorts.items) n.last_mark
  host-last kind same =
      let unmarked : IsUnmarked s e =
      subst (IsUnmarked s) p.shortened.entry_is
      (host_unmarked n.pool.items s (ap is_host p.shortened.entry_is ∙ kind)) in
      subst (TellsOpen n.shorts.items (map (restored n.pool.items) n.shorts.items) (length n.shorts.items)) (sym same)
      (last_of j.last_mark (last_passed j.shorts.items old_entries s e as_many j.last_mark unmarked.fetched
      (unmarked.says old_entries) h.last_marked))

  pub slot-last : is_host e ≡ false → n.last_mark ≡ length j.shorts.items
      → TellsOpen n.shorts.items (map (restored n.pool.items) n.shorts.items) (length n.shorts.items) n.last_mark
  slot-last kind here =
      let says : window_mark old_entries e ≡ Some (fetched_window s) =
      ap (window_mark old_entries) (sym p.shortened.entry_is)
      ∙ slot_marked n.pool.items s old_entries (ap is_host p.shortened.entry_is ∙ kind) in
      subst (TellsOpen n.shorts.items (map (restored n.pool.items) n.shorts.items) (length n.shorts.items)) (sym here)
      (last_of (length j.shorts.items) (last_is_new j.shorts.items old_entries s e as_many says))

-- the place of one more entry
pub next-place : (j : Inside) (k : Kept) (place : ℕ) → kept_in j ≡ k → place ≡ length k.entries
    → place ≡ length j.shorts.items
next-place j k place view is =
    is ∙ ap (λ (k : Kept). length k.entries) (sym view) ∙ length-map j.shorts.items (restored j.pool.items)

-- an observe closes the window of its mark
module _ (j : Inside) (k : Kept) (h : IsCounted j) (view : kept_in j ≡ k) (number : ℕ) where
  abbrev closed : Option Opportunity
  closed = option_and_then (closed_window (take number k.entries)) (slice_get k.entries number)

  -- the entry is the one that the short entry restores
  closed-by : (o : Option ShortEntry) → slice_get j.shorts.items number ≡ o
      → closed ≡ option_and_then (λ s. closed_window (take number k.entries) (restored j.pool.items s)) o
  closed-by o is =
      let at : slice_get k.entries number ≡ option_map (restored j.pool.items) o =
      ap (λ (k : Kept). slice_get k.entries number) (sym view)
      ∙ slice_get-map (restored j.pool.items) j.shorts.items number ∙ ap (option_map (restored j.pool.items)) is in
      ap (option_and_then (closed_window (take number k.entries))) at ∙ mapped o
    where
      mapped : (o : Option ShortEntry)
          → option_and_then (closed_window (take number k.entries)) (option_map (restored j.pool.items) o)
          ≡ option_and_then (λ s. closed_window (take number k.entries) (restored j.pool.items s)) o
      mapped None = refl
      mapped (Some s) = refl

  pub closed-known : (mark : ℕ) → mark_at j.shorts.items number ≡ Some mark → fetched_at j.shorts.items mark ≡ closed
  closed-known mark knows = by_short (slice_get j.shorts.items number) refl knows
    where
      by_short : (o : Option ShortEntry) → slice_get j.shorts.items number ≡ o → option_and_then last_mark o ≡ Some mark
          → fetched_at j.shorts.items mark ≡ closed
      by_short None is knows = absurd cc
      by_short (Some s) is knows =
          let xs = map (restored j.pool.items) j.shorts.items in
          let last : TellsOpen j.shorts.items xs number mark =
          subst (λ (o : Option ℕ). IfSome o (TellsOpen j.shorts.items xs number)) knows (h.marked number s is) in
          let before : take number k.entries ≡ take number xs = ap (λ (k : Kept). take number k.entries) (sym view) in
          closes j.pool.items j.shorts.items xs (take number k.entries) number mark s before knows last
          ∙ sym (closed-by (Some s) is)

pub host-pushed : (j n : Inside) (s : ShortEntry) (e : Entry) → IsCounted j
    → IsPushed j n most_payload_bytes s e → is_host e ≡ true → n.host_count ≡ j.host_count + 1
    → n.slot_count ≡ j.slot_count → n.last_mark ≡ j.last_mark → j.host_count < j.host_limit → IsCounted n
host-pushed j n s e h p kind host slot mark room =
    let is = entries-pushed j n most_payload_bytes s e h p in
    let more = counted-more is_host _ _ e is in
    let same = counted-more is_slot _ _ e is in
    let one : cond {A = ℕ} (is_host e) 1 0 ≡ 1 = ap (λ (b : Bool). cond {A = ℕ} b 1 0) kind in
    let none : cond {A = ℕ} (is_slot e) 1 0 ≡ 0 = ap (λ (b : Bool). cond {A = ℕ} (not b) 1 0) kind in
    let grown : length n.pool.items ≡ length j.pool.items + length (bytes_in e) =
    ap length p.shortened.pool_is ∙ length-append j.pool.items (bytes_in e) in
    record {
      host_is = omega (arith, host, h.host_is, more, one);
      slot_is = omega (arith, slot, h.slot_is, same, none);
      host_within = omega (arith, host, room, p.host_limit_is);
      slot_within = omega (arith, slot, h.slot_within, p.slot_limit_is);
      reserved = omega (arith, h.reserved, p.host_limit_is, p.slot_limit_is, p.shorts_room);
      few_host = omega (arith, h.few_host, p.host_limit_is);
      few_slot = omega (arith, h.few_slot, p.slot_limit_is);
      are_short = are_short-pushed j n most_payload_bytes s e h p;
      pool_within = omega (arith, grown, h.pool_within, p.shortened.few, host, slot);
      pool_reserved = omega (arith, h.pool_reserved, p.host_limit_is, p.slot_limit_is, p.pool_room);
      marked = marked-pushed j n most_payload_bytes s e h p;
      last_marked = host-last j n most_payload_bytes s e h p kind mark;
    }

pub slot-pushed : (j n : Inside) (s : ShortEntry) (e : Entry) → IsCounted j → IsPushed j n most_seen_bytes s e
    → is_host e ≡ false → n.host_count ≡ j.host_count → n.slot_count ≡ j.slot_count + 1
    → n.last_mark ≡ length j.shorts.items → j.slot_count < j.slot_limit → IsCounted n
slot-pushed j n s e h p kind host slot mark room =
    let is = entries-pushed j n most_seen_bytes s e h p in
    let same = counted-more is_host _ _ e is in
    let more = counted-more is_slot _ _ e is in
    let none : cond {A = ℕ} (is_host e) 1 0 ≡ 0 = ap (λ (b : Bool). cond {A = ℕ} b 1 0) kind in
    let one : cond {A = ℕ} (is_slot e) 1 0 ≡ 1 = ap (λ (b : Bool). cond {A = ℕ} (not b) 1 0) kind in
    let grown : length n.pool.items ≡ length j.pool.items + length (bytes_in e) =
    ap length p.shortened.pool_is ∙ length-append j.pool.items (bytes_in e) in
    record {
      host_is = omega (arith, host, h.host_is, same, none);
      slot_is = omega (arith, slot, h.slot_is, more, one);
      host_within = omega (arith, host, h.host_within, p.host_limit_is);
      slot_within = omega (arith, slot, room, p.slot_limit_is);
      reserved = omega (arith, h.reserved, p.host_limit_is, p.slot_limit_is, p.shorts_room);
      few_host = omega (arith, h.few_host, p.host_limit_is);
      few_slot = omega (arith, h.few_slot, p.slot_limit_is);
      are_short = are_short-pushed j n most_seen_bytes s e h p;
      pool_within = omega (arith, grown, h.pool_within, p.shortened.few, host, slot);
      pool_reserved = omega (arith, h.pool_reserved, p.host_limit_is, p.slot_limit_is, p.pool_room);
      marked = marked-pushed j n most_seen_bytes s e h p;
      last_marked = slot-last j n most_seen_bytes s e h p kind mark;
    }
